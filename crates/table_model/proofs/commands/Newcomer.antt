-- A newcomer beside a listener, a child or a request, comes into its chain and to its port, if any, or is refused.
use Rattle.std.proofs.Common.{◌≡◌, ℕ, ◌+◌, Bool, true, false, not, cond, List, [], ◌∷◌, ◌++◌, find, Option, Some, None, refl, ap, sym, ◌∙◌, arith}
use Rattle.std.specs.Prelude.{is_some}
use Rattle.std.specs.Option.{option_or}
use Rattle.std.proofs.lemmas.Bool.{ne_eqb}
use Rattle.std.proofs.lemmas.List.Folds.{find-append}
use Rattle.list_words.specs.Lists.{Each, Pairs, total}
use Rattle.list_words.proofs.EachLemmas.{each_found}
use Rattle.list_words.proofs.PairsLemmas.{pairs_push}
use Rattle.sock_card.specs.declared.card.Card.{Card}
use Rattle.sock_card.specs.declared.owner.Owner.{Owner}
use Rattle.bind_buckets.specs.declared.request.Request.{Request}
use Rattle.chain_book.specs.declared.outcome.Hashed.{Hashed}
use Rattle.chain_book.specs.declared.outcome.Replace.{Replace}
use Rattle.chain_book.specs.Chains.{Outcome, put, taken, full, row_at, home_in, waits, hashed, insert_outcome}
use Rattle.flat_list.specs.declared.socket.Socket.{Socket}
use Rattle.flat_list.specs.Flat.{Flat}
use Rattle.flat_list.specs.Outcome.{has_slot as has_room}
use Rattle.flat_list.specs.Sockets.{has_name, is_owner, waits_at, without_waiting}
use Rattle.flat_list.specs.Sound.{IsSound, NamesDiffer}
use Rattle.table_model.specs.Asking.{Asking, asks, inserts}
use Rattle.table_model.specs.Tables.{Tables, Ended, with_chains}
use Rattle.table_model.specs.Own.{Own}
use Rattle.table_model.specs.Operations.{Did, when_done}
use Rattle.table_model.specs.Means.{OwnersMean, TablesMean, IsShape, OwnMeans, owns}
use Rattle.table_model.proofs.questions.Inserts.{keeper}
use Rattle.table_model.proofs.parts.Cards.{card_weight, added_weighs}
use Rattle.table_model.proofs.parts.Buckets.{owners_kept}
use Rattle.table_model.proofs.parts.Claims.{claim_card, claim_done, IsClaim, claim_weight}
use Rattle.table_model.proofs.questions.Replaced.{Replaces}
use Rattle.table_model.proofs.parts.Hashed.{drop_old, NotOld, OldListed, listed_by, dropped_by, old_listed}
use Rattle.table_model.proofs.commands.Comes.{HasCome, arrives, comes_to_port}
use Rattle.table_model.proofs.questions.Run.{Comes, comes_weaken}
use Rattle.table_model.proofs.commands.ConnectTries.{comes_by_outcome}
use Rattle.table_model.proofs.lists.Listed.{Listed}
use Rattle.table_model.proofs.questions.Asked.{with_sockets}
use Rattle.table_model.proofs.questions.Requests.{IsDone}
use Rattle.table_model.proofs.questions.Search.{left_same}
use Rattle.table_model.proofs.parts.NewSocket.{filter_push}

drop_push : (new : Socket) (old : Option Hashed) (xs : List Socket) → NotOld old new.owner.name → drop_old old (xs ++ new ∷ []) ≡ drop_old old xs ++ new ∷ []
drop_push new None xs h = refl
drop_push new (Some x) xs h = filter_push (λ y. not (has_name x.card.name y)) new (ap not (ne_eqb new.owner.name x.card.name (λ e. h (sym e)))) xs

listed_push : (new s : Socket) (k : ℕ) (xs : List Socket) → Listed k xs s → Listed k (xs ++ new ∷ []) s
listed_push new s k xs h = find-append (has_name k) xs (new ∷ []) ∙ ap (λ (o : Option Socket). option_or o (find (has_name k) (new ∷ []))) h

module _ (n : ℕ) (own : Own) (t : Tables) (flat : Flat) (mean : TablesMean t flat) (shape : IsShape flat.header) (sound : IsSound flat) (own_is : OwnMeans n own t flat)
    (new : Socket) (fresh : Each (λ (x : Socket). NamesDiffer x new) flat.sockets) (claims : IsClaim new.owner) where
  abbrev a : Owner
  a = new.owner

  abbrev row : List Hashed
  row = row_at t.chains (home_in t.chains (claim_card a))

  -- the list with the newcomer
  abbrev pub with_newcomer : List Socket
  with_newcomer = flat.sockets ++ new ∷ []

  -- and without what it replaces
  abbrev pub accepted_list : List Socket
  accepted_list = without_waiting a flat.sockets ++ new ∷ []

  differs_by : (old : Option Hashed) → OldListed a old flat → NotOld old a.name
  differs_by None h = tt
  differs_by (Some x) h = λ e. each_found (λ (y : Socket). NamesDiffer y new) (waits_at a) flat.sockets h.0 fresh h.1.found (sym (h.1.card (λ (y : Card). y.name)) ∙ e)

  differs : (old : Option Hashed) → find (waits (claim_card a)) row ≡ old → NotOld old a.name
  differs old e = differs_by old (listed_by t.chains flat mean.chains sound a old e)

  drops : (old : Option Hashed) → find (waits (claim_card a)) row ≡ old → drop_old old with_newcomer ≡ accepted_list
  drops old e = drop_push new old flat.sockets (differs old e) ∙ ap (λ (xs : List Socket). xs ++ new ∷ []) (sym (dropped_by t.chains flat mean.chains sound a old e))

  more : (f : Card → ℕ) → total (card_weight flat.groups f) accepted_list ≡ total (card_weight flat.groups f) (without_waiting a flat.sockets) + f (claim_card a)
  more f = omega (arith, added_weighs (card_weight flat.groups f) new (without_waiting a flat.sockets), claim_weight f flat.groups new claims)

  listed : (x : Hashed) (r : Socket) → Replaces flat a x r → Listed x.card.name with_newcomer r
  listed x r rep = listed_push new r x.card.name flat.sockets (old_listed flat a x r rep)

  names : Pairs NamesDiffer with_newcomer
  names = pairs_push NamesDiffer flat.sockets new sound.names fresh

  module _ (slot : ℕ) (old : Option Hashed) (moment : ℕ) (rule : Replace) (is : insert_outcome t.chains (claim_card a) moment rule ≡ put slot old) where
    -- the tables once its card was put there
    abbrev pub put_there : Tables
    put_there = with_chains t (hashed t.chains (claim_card a) (put slot old))

    -- what is left to be done: what it replaced leaves
    abbrev pub left_to_do : Asking Did
    left_to_do = claim_done flat.header.shape flat.header.seed a slot old

    -- it comes to its port by that request
    pub arrives_at : (port : ℕ) (request : Request) → IsDone t.buckets port request (with_sockets flat with_newcomer)
        → Comes put_there (asks port request (when_done left_to_do)) (HasCome own flat a accepted_list)
    arrives_at port request asked =
        comes_to_port n own t flat mean shape sound own_is a with_newcomer accepted_list names drops more differs listed slot old moment rule is port request asked

    -- it has none
    pub arrives_portless : is_owner a.state ≡ false → Comes put_there left_to_do (HasCome own flat a accepted_list)
    arrives_portless portless =
        let om : OwnersMean t.buckets (with_sockets flat with_newcomer) =
        owners_kept t.buckets flat mean.owners shape.bind (with_sockets flat with_newcomer) refl
        (λ f. omega (arith, added_weighs (owns f) new flat.sockets, ap (λ (b : Bool). cond {A = ℕ} b (f a) 0) portless)) in
        arrives n own t flat mean shape sound own_is a with_newcomer accepted_list names drops more differs listed slot old moment rule is t.buckets
        (left_same t.buckets (with_sockets flat with_newcomer) om)

  -- what comes of the newcomer, which arrives once it has a slot
  module _ (moment : ℕ) (rule : Replace) (is_kept : Bool) (keeps_it : is_some (keeper t.chains flat mean.chains (claim_card a) moment rule) ≡ is_kept)
      (then_ : Outcome → Asking Did) (P : Ended Did → Type 0)
      (arrival : (slot : ℕ) (old : Option Hashed) → insert_outcome t.chains (claim_card a) moment rule ≡ put slot old
      → Comes (with_chains t (hashed t.chains (claim_card a) (put slot old))) (then_ (put slot old)) (HasCome own flat a accepted_list))
      (on_taken : (name : ℕ) → is_kept ≡ true → Comes t (then_ (taken name)) P)
      (on_full : is_kept ≡ false → has_room flat ≡ false → Comes t (then_ (full flat.header.shape.slots 0)) P)
      (on_come : (e : Ended Did) → is_kept ≡ false → has_room flat ≡ true → HasCome own flat a accepted_list e → P e) where
    -- it comes, or is refused
    pub newcomer_attempt : Comes t (inserts (claim_card a) moment rule then_) P
    newcomer_attempt =
        comes_by_outcome t flat mean.chains (claim_card a) moment rule is_kept then_ P keeps_it on_taken on_full
        (λ slot old kept room is.
        comes_weaken (with_chains t (hashed t.chains (claim_card a) (put slot old))) (then_ (put slot old)) (HasCome own flat a accepted_list) P (λ e h. on_come e kept room h)
        (arrival slot old is))
