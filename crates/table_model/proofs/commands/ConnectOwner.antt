-- A socket without a card is connected as one owner: it comes into its chain and to its port, or is refused.
use Rattle.std.proofs.Common.{◌≡◌, ℕ, ◌+◌, Bool, true, false, ◌&&◌, not, List, find, Option, Some, None, refl, ap, sym, ◌∙◌, subst, arith}
use Rattle.std.specs.Prelude.{is_some}
use Rattle.list_words.specs.Lists.{total}
use Rattle.sock_card.specs.declared.card.Card.{Card}
use Rattle.sock_card.specs.declared.card.Kind.{Kind}
use Rattle.sock_card.specs.declared.owner.Owner.{Owner}
use Rattle.sock_card.specs.Conflict.{is_time_wait}
use Rattle.bind_buckets.specs.declared.request.Request.{Request}
use Rattle.chain_book.specs.declared.outcome.Hashed.{Hashed}
use Rattle.chain_book.specs.declared.outcome.Replace.{Replace}
use Rattle.chain_book.specs.Chains.{Outcome, put, taken, full, row_at, home_in, waits, hashed}
use Rattle.flat_list.specs.declared.socket.Socket.{Socket}
use Rattle.flat_list.specs.Flat.{Flat}
use Rattle.flat_list.specs.Look.{extra_as}
use Rattle.flat_list.specs.Outcome.{has_slot as has_room}
use Rattle.flat_list.specs.Sockets.{kind_of, has_name, waits_at, have_one_tuple, put as put_socket, without_waiting}
use Rattle.flat_list.specs.Sound.{IsSound}
use Rattle.table_model.specs.Asking.{Asking, asks, inserts}
use Rattle.table_model.specs.Tables.{Tables, Ended, with_chains}
use Rattle.table_model.specs.Own.{Own}
use Rattle.table_model.specs.Operations.{Did, when_done}
use Rattle.table_model.specs.Means.{TablesMean, IsShape, OwnMeans}
use Rattle.table_model.proofs.lists.Passing.{Only, only_kept}
use Rattle.table_model.proofs.questions.Inserts.{keeper}
use Rattle.table_model.proofs.parts.Cards.{weigh_as, card_weight, only_named, put_weighs}
use Rattle.table_model.proofs.parts.Claims.{claim_card, claim_done, IsClaim, claim_weight}
use Rattle.table_model.proofs.questions.Replaced.{Replaces}
use Rattle.table_model.proofs.parts.Hashed.{drop_old, NotOld, OldListed, listed_by, dropped_by, old_listed, other_name}
use Rattle.table_model.proofs.commands.Comes.{HasCome, comes_to_port}
use Rattle.table_model.proofs.questions.Run.{Comes, comes_weaken}
use Rattle.table_model.proofs.commands.ConnectTries.{comes_by_outcome, put_without, listed_put}
use Rattle.table_model.proofs.lists.Listed.{Listed, names_put}
use Rattle.table_model.proofs.questions.Asked.{with_sockets}
use Rattle.table_model.proofs.questions.Requests.{IsDone}

no_weight : (f : Card → ℕ) (k : Option Kind) (o : Owner) (extra : Kind → ℕ) → k ≡ None → weigh_as f k o extra ≡ 0
no_weight f k o extra h = ap (λ (x : Option Kind). weigh_as f x o extra) h

drop_put : (new : Socket) (old : Option Hashed) (xs : List Socket) → NotOld old new.owner.name → drop_old old (put_socket new xs) ≡ put_socket new (drop_old old xs)
drop_put new None xs h = refl
drop_put new (Some x) xs h = put_without new x.card.name xs (λ e. h (sym e))

module _ (n : ℕ) (own : Own) (t : Tables) (flat : Flat) (mean : TablesMean t flat) (shape : IsShape flat.header) (sound : IsSound flat) (own_is : OwnMeans n own t flat)
    (s : Socket) (at : Listed s.owner.name flat.sockets s) (awake : is_time_wait s.owner.state ≡ false) (plainly : kind_of s.owner.state ≡ None)
    (new : Socket) (same_name : new.owner.name ≡ s.owner.name) (claims : IsClaim new.owner) where
  abbrev a : Owner
  a = new.owner

  abbrev row : List Hashed
  row = row_at t.chains (home_in t.chains (claim_card a))

  -- the list with the socket, and without what it replaces
  abbrev pub connected_list : List Socket
  connected_list = put_socket new (without_waiting a flat.sockets)

  differs_by : (old : Option Hashed) → OldListed a old flat → NotOld old a.name
  differs_by None h = tt
  differs_by (Some x) h = λ e. other_name flat a x h.0 (has_name s.owner.name) s h.1 at awake (e ∙ same_name)

  differs : (old : Option Hashed) → find (waits (claim_card a)) row ≡ old → NotOld old a.name
  differs old e = differs_by old (listed_by t.chains flat mean.chains sound a old e)

  drops : (old : Option Hashed) → find (waits (claim_card a)) row ≡ old → drop_old old (put_socket new flat.sockets) ≡ connected_list
  drops old e = drop_put new old flat.sockets (differs old e) ∙ ap (put_socket new) (sym (dropped_by t.chains flat mean.chains sound a old e))

  one : Only (has_name new.owner.name) s flat.sockets
  one = only_named (has_name s.owner.name) flat.sockets s new.owner.name at (sym same_name) sound.names

  kept : not (waits_at a s) ≡ true
  kept = ap (λ (b : Bool). not (b && have_one_tuple a s.owner)) awake

  more : (f : Card → ℕ) → total (card_weight flat.groups f) connected_list ≡ total (card_weight flat.groups f) (without_waiting a flat.sockets) + f (claim_card a)
  more f =
      omega (
        arith,
        put_weighs (card_weight flat.groups f) new s (without_waiting a flat.sockets) (only_kept (has_name new.owner.name) (λ y. not (waits_at a y)) s flat.sockets one kept),
        no_weight f (kind_of s.owner.state) s.owner (λ kind. extra_as kind flat.groups s) plainly,
        claim_weight f flat.groups new claims,
      )

  listed : (x : Hashed) (r : Socket) → Replaces flat a x r → Listed x.card.name (put_socket new flat.sockets) r
  listed x r rep = listed_put new r x.card.name flat.sockets (λ e. differs_by (Some x) (r, rep) (sym e)) (old_listed flat a x r rep)

  -- what comes of the socket as that owner
  module _ (moment : ℕ) (rule : Replace) (is_kept : Bool) (keeps_it : is_some (keeper t.chains flat mean.chains (claim_card a) moment rule) ≡ is_kept)
      (port : ℕ) (request : Request) (asked : IsDone t.buckets port request (with_sockets flat (put_socket new flat.sockets)))
      (then_ : Outcome → Asking Did) (P : Ended Did → Type 0)
      (then_put : (slot : ℕ) (old : Option Hashed) → then_ (put slot old) ≡ asks port request (when_done (claim_done flat.header.shape flat.header.seed a slot old)))
      (on_taken : (name : ℕ) → is_kept ≡ true → Comes t (then_ (taken name)) P)
      (on_full : is_kept ≡ false → has_room flat ≡ false → Comes t (then_ (full flat.header.shape.slots 0)) P)
      (on_come : (e : Ended Did) → is_kept ≡ false → has_room flat ≡ true → HasCome own flat a connected_list e → P e) where
    -- it comes, or is refused
    pub attempt : Comes t (inserts (claim_card a) moment rule then_) P
    attempt =
        comes_by_outcome t flat mean.chains (claim_card a) moment rule is_kept then_ P keeps_it on_taken on_full
        (λ slot old kept room is.
        let t1 : Tables = with_chains t (hashed t.chains (claim_card a) (put slot old)) in
        let come : Asking Did = asks port request (when_done (claim_done flat.header.shape flat.header.seed a slot old)) in
        subst (λ (plan : Asking Did). Comes t1 plan P) (sym (then_put slot old))
        (comes_weaken t1 come (HasCome own flat a connected_list) P (λ e h. on_come e kept room h)
        (comes_to_port n own t flat mean shape sound own_is a (put_socket new flat.sockets) connected_list (names_put new flat.sockets sound.names) drops more differs listed slot old moment rule is port request asked)))
