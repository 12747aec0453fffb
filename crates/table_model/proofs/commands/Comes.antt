-- A full socket or a request comes into a chain, and to its port if it has one,
-- and what it replaces is gone from both.
use Rattle.std.proofs.Common.{◌≡◌, ℕ, ◌+◌, ◌≤◌, true, List, find, Option, Some, None, refl, sym, ◌∙◌, subst}
use Rattle.list_words.specs.Lists.{Each, Pairs, total}
use Rattle.list_words.proofs.EachLemmas.{each_both, each_weaken}
use Rattle.sock_card.specs.declared.card.Card.{Card}
use Rattle.sock_card.specs.declared.owner.Owner.{Owner}
use Rattle.sock_card.specs.declared.owner.State.{State}
use Rattle.sock_card.specs.declared.owner.State.TheVariants as states
use Rattle.sock_card.specs.Conflict.{owner_key, bind_key, is_time_wait}
use Rattle.bind_buckets.specs.Journal.{Standing}
use Rattle.bind_buckets.specs.declared.request.Request.{Request}
use Rattle.bind_buckets.specs.declared.request.Request.TheVariants as requests
use Rattle.bind_buckets.specs.declared.request.Answer.TheVariants as answers
use Rattle.chain_book.specs.declared.outcome.Hashed.{Hashed}
use Rattle.chain_book.specs.declared.outcome.Replace.{Replace}
use Rattle.chain_book.specs.Chains.{Chains, put, row_at, home_in, waits, hashed, insert_outcome}
use Rattle.chain_book.specs.Slots.{free_slot}
use Rattle.flat_list.specs.declared.socket.Socket.{Socket}
use Rattle.flat_list.specs.Flat.{Flat}
use Rattle.flat_list.specs.Sockets.{kind_of, is_owner, without, without_waiting}
use Rattle.flat_list.specs.Sound.{IsSound, NamesDiffer}
use Rattle.table_model.specs.Asking.{Asking, ends, asks}
use Rattle.table_model.specs.Tables.{Tables, Ended, with_buckets, with_chains}
use Rattle.bind_buckets.specs.BindHash.{answer_at, asked_at}
use Rattle.table_model.specs.Own.{Own, Mine}
use Rattle.table_model.specs.Operations.{Did, done, then_replaced, when_done}
use Rattle.table_model.specs.Means.{OwnersMean, TablesMean, StandsAs, IsShape, OwnMeans}
use Rattle.table_model.proofs.questions.Inserts.{keeper, tried_put, inserted}
use Rattle.table_model.proofs.parts.Cards.{card_weight}
use Rattle.table_model.proofs.parts.Claims.{claim_kind, claim_card, claimed_in, claim_done}
use Rattle.table_model.proofs.questions.Replaced.{Replaces}
use Rattle.table_model.proofs.parts.Hashed.{drop_old, NotOld, OldListed, listed_by, stand_hashed, stand_newcomer, words_hashed, names_not_old}
use Rattle.table_model.proofs.parts.MemberPlaces.{groups_kept}
use Rattle.table_model.proofs.questions.Run.{Comes, comes_ends, comes_asks}
use Rattle.table_model.proofs.lists.Listed.{Listed}
use Rattle.table_model.proofs.questions.Asked.{with_sockets}
use Rattle.table_model.proofs.questions.Requests.{Left, IsDone, remove_waiting_asked}
use Rattle.table_model.proofs.questions.Search.{left_same}

-- a TIME_WAIT has a port
pub waits_own : (st : State) → is_time_wait st ≡ true → is_owner st ≡ true
waits_own states.TimeWait h = refl
waits_own states.Unbound h = absurd (cc)
waits_own states.Bound h = refl
waits_own states.Listening h = refl
waits_own states.Full h = refl
waits_own states.Request h = absurd (cc)

-- what was replaced, in the list in which the newcomer stands
abbrev pub StandsOld : Option Hashed → List Socket → Type 0
StandsOld None xs = Unit {0}
StandsOld (Some x) xs = (s : Socket) × Listed x.card.name xs s × (is_time_wait s.owner.state ≡ true) × (bind_key x.card.lport x.card.net ≡ owner_key s.owner)

module _ {R : Type 0} (flat : Flat) (some : 1 ≤ flat.header.shape.bind) (names : Pairs NamesDiffer flat.sockets) (t : Tables) (om : OwnersMean t.buckets flat) (next : Asking R) (P : Ended R → Type 0) where
  -- its owner leaves its port
  pub old_leaves : (old : Option Hashed) → StandsOld old flat.sockets
      → ((buckets : List Standing) → Left t.buckets buckets (with_sockets flat (drop_old old flat.sockets)) → Comes (with_buckets t buckets) next P)
      → Comes t (then_replaced old next) P
  old_leaves None st h = h t.buckets (left_same t.buckets flat om)
  old_leaves (Some x) st h =
      let request : Request = requests.RemoveWaiting x.card.name in
      let gone : IsDone t.buckets (owner_key st.0.owner) request (with_sockets flat (without x.card.name flat.sockets)) =
      remove_waiting_asked t.buckets flat om some names x.card.name st.0 st.1 (waits_own st.0.owner.state st.2) st.2 in
      let key : ℕ = bind_key x.card.lport x.card.net in
      comes_asks t key request (λ answer. next) (answer_at t.buckets key request) P refl
      (h (asked_at t.buckets key request) (subst (λ (k : ℕ). Left t.buckets (asked_at t.buckets k request) (with_sockets flat (without x.card.name flat.sockets))) (sym st.3) gone.left))

-- a socket has come: the tables mean the list with it, and who stood stands
pub record Came (t : Tables) (own : Own) (flat : Flat) (m : Mine) : Type 0 where
  pub tables : TablesMean t flat
  pub stands : StandsAs t.chains m (Some (claim_kind m.owner.state))
  pub others : Each (λ (x : Mine). StandsAs t.chains x (kind_of x.owner.state)) own.sockets

-- it was done so that the socket of that owner has come
abbrev pub HasCome : Own → Flat → Owner → List Socket → Ended Did → Type 0
HasCome own flat a after e =
    (slot : ℕ) × (e.result ≡ done (claimed_in flat.header.shape flat.header.seed a slot))
    × Came e.tables own (with_sockets flat after) (claimed_in flat.header.shape flat.header.seed a slot)

module _ (n : ℕ) (own : Own) (t : Tables) (flat : Flat) (mean : TablesMean t flat) (shape : IsShape flat.header) (sound : IsSound flat) (own_is : OwnMeans n own t flat) (a : Owner) where
  abbrev card : Card
  card = claim_card a

  abbrev row : List Hashed
  row = row_at t.chains (home_in t.chains card)

  -- the newcomer in that slot
  abbrev pub comer : ℕ → Mine
  comer slot = claimed_in flat.header.shape flat.header.seed a slot

  module _ (with_it after : List Socket) (names : Pairs NamesDiffer with_it)
      (drops : (old : Option Hashed) → find (waits card) row ≡ old → drop_old old with_it ≡ after)
      (more : (f : Card → ℕ) → total (card_weight flat.groups f) after ≡ total (card_weight flat.groups f) (without_waiting a flat.sockets) + f card)
      (differs : (old : Option Hashed) → find (waits card) row ≡ old → NotOld old a.name)
      (listed : (x : Hashed) (s : Socket) → Replaces flat a x s → Listed x.card.name with_it s) where
    stands_by : (old : Option Hashed) → OldListed a old flat → StandsOld old with_it
    stands_by None h = tt
    stands_by (Some x) h = (h.0, listed x h.0 h.1, h.1.waits_there, h.1.card (λ (y : Card). bind_key y.lport y.net))

    module _ (slot : ℕ) (old : Option Hashed) (moment : ℕ) (rule : Replace) (is : insert_outcome t.chains card moment rule ≡ put slot old) where
      parts : (keeper t.chains flat mean.chains card moment rule ≡ None) × (free_slot t.chains.slots ≡ Some slot) × (find (waits card) row ≡ old)
      parts = tried_put t.chains (keeper t.chains flat mean.chains card moment rule) (find (waits card) row) old slot is

      abbrev chains : Chains
      chains = hashed t.chains card (put slot old)

      -- buckets that mean the list then
      has_come : (buckets : List Standing) → Left t.buckets buckets (with_sockets flat after) → HasCome own flat a after (record { tables = with_buckets (with_chains t chains) buckets; result = done (comer slot) })
      has_come buckets left =
          let free : free_slot t.chains.slots ≡ Some slot = parts.1 in
          let found : find (waits card) row ≡ old = parts.2 in (
            slot,
            refl,
            record {
              tables = record {
                owners = left.owners;
                chains = inserted t.chains flat a moment rule slot old after mean.chains shape sound is more;
                groups = groups_kept t (with_buckets (with_chains t chains) buckets) flat (with_sockets flat after) mean.groups left.groups refl
                    (words_hashed t.chains flat mean.chains shape sound a slot free old found t refl mean.groups);
              };
              stands = stand_newcomer t.chains flat mean.chains shape sound a slot free old found (differs old found);
              others =
                  each_weaken _ (λ (x : Mine). StandsAs chains x (kind_of x.owner.state)) own.sockets
                  (λ x both. stand_hashed t.chains flat mean.chains shape sound a slot free old found x (kind_of x.owner.state) both.1 both.0)
                  (each_both (λ (x : Mine). StandsAs t.chains x (kind_of x.owner.state)) (λ (x : Mine). NotOld old x.owner.name) own.sockets own_is.stand
                  (names_not_old t.chains flat mean.chains shape sound a slot free old found n own.sockets own_is.sockets));
            },
          )

      -- once buckets mean the list with it, what it replaces leaves
      pub arrives : (buckets : List Standing) → Left t.buckets buckets (with_sockets flat with_it)
          → Comes (with_buckets (with_chains t chains) buckets) (claim_done flat.header.shape flat.header.seed a slot old) (HasCome own flat a after)
      arrives buckets here =
          old_leaves (with_sockets flat with_it) shape.bind names (with_buckets (with_chains t chains) buckets) here.owners
          (ends (done (comer slot))) (HasCome own flat a after) old (stands_by old (listed_by t.chains flat mean.chains sound a old parts.2))
          (λ buckets' left.
          comes_ends (with_buckets (with_chains t chains) buckets') (done (comer slot)) (HasCome own flat a after)
          (has_come buckets'
          (subst (λ (xs : List Socket). Left t.buckets buckets' (with_sockets flat xs)) (drops old parts.2)
          (record { owners = left.owners; groups = left.groups ∙ here.groups }))))

      -- it comes to its port by that request
      pub comes_to_port : (port : ℕ) (request : Request) → IsDone t.buckets port request (with_sockets flat with_it)
          → Comes (with_chains t chains) (asks port request (when_done (claim_done flat.header.shape flat.header.seed a slot old))) (HasCome own flat a after)
      comes_to_port port request asked =
          comes_asks (with_chains t chains) port request (when_done (claim_done flat.header.shape flat.header.seed a slot old)) answers.Done (HasCome own flat a after) asked.answer
          (arrives (asked_at t.buckets port request) asked.left)
