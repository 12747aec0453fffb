-- How the plans of `close` and `drop` go on.
use Rattle.std.proofs.Common.{◌≡◌, ℕ, ◌+◌, ◌%◌, List, [], ◌∷◌, None, Result, Ok, Err, IfErr, IfOk, OnErr, OnOk, refl, sym, ap, subst, ◌∙◌, arith}
use Rattle.std.specs.Result.{IsErr}
use Rattle.sock_card.specs.Conflict.{owner_key}
use Rattle.sock_card.specs.declared.owner.Owner.{Owner}
use Rattle.sock_card.specs.declared.owner.State.{State}
use Rattle.sock_card.specs.declared.card.Card.{Card}
use Rattle.sock_card.specs.declared.card.Kind.{Kind}
use Rattle.sock_card.specs.declared.card.Kind.TheVariants as kinds
use Rattle.sock_card.specs.Became.{as_waiting}
use Rattle.turn_table.specs.declared.note.Placed.{Placed}
use Rattle.turn_table.specs.Journals.{placed}
use Rattle.bind_buckets.specs.declared.request.Request.TheVariants as requests
use Rattle.bind_buckets.specs.declared.request.Answer.TheVariants as answers
use Rattle.bind_buckets.specs.declared.request.Entry.{Entry}
use Rattle.bind_buckets.specs.OwnTold.{StandsOwn}
use Rattle.bind_buckets.specs.Turned.{View, Gave, Within}
use Rattle.reuseport_group.specs.declared.pass.GroupPasses.{GroupPasses}
use Rattle.chain_book.specs.declared.book.Change.{Change}
use Rattle.chain_book.specs.declared.outcome.Place.{Place}
use Rattle.chain_book.specs.declared.shape.Shape.{Shape}
use Rattle.chain_book.specs.Homes.{home}
use Rattle.flat_list.specs.Owned.{card_as}
use Rattle.nulls_chain.specs.declared.keeping.Place.{Place as Stood}
use Rattle.table_rule.specs.Calls.{HasShares}
use Rattle.table_rule.specs.declared.view.View.{View as ChainView}
use Rattle.table_model.specs.declared.operation.Cause.{Cause}
use Rattle.table_model.specs.declared.operation.Cause.TheVariants as causes
use Rattle.table_model.specs.Own.{Mine, card_of}
use Rattle.table_model.specs.Asking.{Asking, ends, asks, unhashes}
use Rattle.table_model.specs.Operations as plan
use Rattle.table_model.specs.Operations.{when_done, wait_of, close_full, close_hashed, waits_in, leave, waiting, no_slot}
use Rattle.race_record.specs.Deeds.{Deed, Tried, hashed, added, left}
use Rattle.race_record.specs.Deeds as deeds
use Rattle.race_record.specs.Goes.{IsUnhashAt}
use Rattle.sock_ops.specs.Sides.{Side}
use Rattle.sock_ops.specs.Made.{Does}
use Rattle.sock_ops.specs.Answers.{Removes}
use Rattle.port_search.proofs.TurnSearch.{gave_none}
use Rattle.sock_ops.specs.declared.sock.Sock.{Sock}
use Rattle.sock_ops.specs.declared.sock.Sock.TheVariants as socks
use Rattle.sock_ops.specs.declared.leaving.Closed.{Closed}
use Rattle.sock_ops.specs.Socks.{mine_of, FitsState, without_socket}
use Rattle.sock_ops.specs.Closes.{Replaces, GoesAlone, ClosedBy, Leaves, became, close_answer, drop_answer, is_gone, leave_entry, spot_of}
use Rattle.sock_ops.specs.Goes.{Went, LeftOff, IsUndecided, AskedAll, NotBusy}
use Rattle.sock_ops.specs.Leads.{Leads}
use Rattle.sock_ops.specs.Stands.{IsHashed, place_in}
use Rattle.sock_ops.specs.Groups.{KeepsListed, LeavesAs, ListsOfLeave}
use Rattle.sock_ops.proofs.Goes.{deed_at, entry_is, by_entry, by_added, by_left, does_both, does_entry, One, all_one, left_nowhere}
use Rattle.sock_ops.proofs.Knows.{grows, stands_on}
use Rattle.sock_ops.proofs.Lists.{sparing_same}

abbrev pub wait_entry : Owner → Entry
wait_entry a = record { request = requests.ToTimeWait a.name; answer = answers.Done }

-- a TIME_WAIT belongs in the chain of its socket
pub same_home : (shape : Shape) (seed : ℕ) (a : Owner) (stamp extra : ℕ) → home shape seed (card_as kinds.TimeWait (as_waiting a) stamp) ≡ home shape seed (card_as kinds.Full a extra)
unfolding home
same_home shape seed a stamp extra = refl

pub gave_one : (count port : ℕ) (e : Entry) (v w : View) (one : One (port % count) e v w) → Gave v w (placed (port % count) one.x.note ∷ [])
gave_one count port e v w one = subst (λ (p : Placed Entry). Gave v w (p ∷ [])) (sym (entry_is count port e.request e.answer one.x one.is)) one.gave

module _ (count : ℕ) (m : Mine) (moment : ℕ) (v w : View) (c d : Side) where
  abbrev closing : Asking plan.Closed
  closing = close_full c.layout.shape c.layout.seed m (wait_of m moment)

  abbrev card : Card
  card = card_of kinds.TimeWait (wait_of m moment)

  -- a slot was free
  pub close_waits : (o : Owner) (k : Card) (p : Place) → o ≡ as_waiting m.owner → k ≡ card_as kinds.TimeWait o moment → Replaces (place_in kinds.Full m) k p c d
      → AskedAll (owner_key m.owner % count) (wait_entry m.owner ∷ []) v w
      → Went count closing v w c d (ends (waiting (record { owner = o; extra = moment; place = p })))
  close_waits o k p o_is k_is waits_as all =
      let one = all_one (owner_key m.owner % count) (wait_entry m.owner) v w all in
      let same : k ≡ card = k_is ∙ ap (λ (x : Owner). card_as kinds.TimeWait x moment) o_is in
      let waits : Replaces (place_in kinds.Full m) card p c d = subst (λ (x : Card). Replaces (place_in kinds.Full m) x p c d) same waits_as in
      let slot : ℕ = waits.hash.slot in
      let tried : Tried = hashed waits.hash None in
      let at : p ≡ record { bucket = home c.layout.shape c.layout.seed card; slot = slot } = λ i. record { bucket = waits.bucket i; slot = waits.slot i } in
      let stays : Mine = waits_in c.layout.shape c.layout.seed (wait_of m moment) slot in
      let there : Asking plan.Closed = ends (waiting stays) in
      let end : stays ≡ record { owner = o; extra = moment; place = p } =
      ap (λ (q : Place). let x : Mine = record { owner = as_waiting m.owner; extra = moment; place = q } in x) (sym at) ∙ ap (λ (x : Owner). let y : Mine = record { owner = x; extra = moment; place = p } in y) (sym o_is) in
      let last : List Deed = deed_at (owner_key m.owner) one.x ∷ [] in
      let later : List Deed = left waits.unhash ∷ last in
      let all_deeds : List Deed = added card tried ∷ later in
      record {
        deeds = added card tried ∷ left waits.unhash ∷ deed_at (owner_key m.owner) one.x ∷ [];
        leads = subst (λ (n : Mine). Leads closing all_deeds (ends (waiting n))) end
            (by_added card tried (close_hashed c.layout.shape c.layout.seed m (wait_of m moment)) later there waits.is
            (by_left m.place (card_of kinds.Full m) (asks (owner_key m.owner) (requests.ToTimeWait m.owner.name) (when_done there)) waits.unhash last there waits.goes
            (by_entry count (owner_key m.owner) (requests.ToTimeWait m.owner.name) answers.Done (when_done there) one.x [] there one.is refl)));
        gave = gave_one count (owner_key m.owner) (wait_entry m.owner) v w one;
        does = does_both (added card tried ∷ left waits.unhash ∷ []) last c d d waits.does (does_entry (owner_key m.owner) one.x d);
      }

  -- none was
  pub close_goes : (o : Owner) (k : Card) (owned held : ℕ) → o ≡ as_waiting m.owner → k ≡ card_as kinds.TimeWait o moment → GoesAlone (place_in kinds.Full m) k owned held c d
      → AskedAll (owner_key m.owner % count) (leave_entry m.owner ∷ []) v w
      → Went count closing v w c d (ends (no_slot owned held))
  close_goes o k owned held o_is k_is goes_as all =
      let one = all_one (owner_key m.owner % count) (leave_entry m.owner) v w all in
      let same : k ≡ card = k_is ∙ ap (λ (x : Owner). card_as kinds.TimeWait x moment) o_is in
      let goes : GoesAlone (place_in kinds.Full m) card owned held c d = subst (λ (x : Card). GoesAlone (place_in kinds.Full m) x owned held c d) same goes_as in
      let tried : Tried = deeds.no_slot goes.number owned held in
      let there : Asking plan.Closed = ends (no_slot owned held) in
      let last : List Deed = deed_at (owner_key m.owner) one.x ∷ [] in
      let later : List Deed = left goes.unhash ∷ last in
      record {
        deeds = added card tried ∷ left goes.unhash ∷ deed_at (owner_key m.owner) one.x ∷ [];
        leads = by_added card tried (close_hashed c.layout.shape c.layout.seed m (wait_of m moment)) later there tt
            (by_left m.place (card_of kinds.Full m) (leave m.owner (no_slot owned held)) goes.unhash last there goes.goes
            (by_entry count (owner_key m.owner) (requests.Remove m.owner.name) answers.Done (when_done there) one.x [] there one.is refl));
        gave = gave_one count (owner_key m.owner) (leave_entry m.owner) v w one;
        does = does_both (added card tried ∷ left goes.unhash ∷ []) last c d d goes.does (does_entry (owner_key m.owner) one.x d);
      }

-- a bound socket, and one that stands hashed
module _ (count : ℕ) (a : Owner) (v w : View) where
  pub bound_leaves : (c : Side) → AskedAll (owner_key a % count) (leave_entry a ∷ []) v w → Went count (leave a plan.gone) v w c c (ends plan.gone)
  bound_leaves c all =
      let one = all_one (owner_key a % count) (leave_entry a) v w all in
      let there : Asking plan.Closed = ends plan.gone in
      record {
        deeds = deed_at (owner_key a) one.x ∷ [];
        leads = by_entry count (owner_key a) (requests.Remove a.name) answers.Done (when_done there) one.x [] there one.is refl;
        gave = gave_one count (owner_key a) (leave_entry a) v w one;
        does = does_entry (owner_key a) one.x c;
      }

  pub hashed_leaves : (p : Stood) (u : Change) (c d : Side) → IsUnhashAt (spot_of p) p.card u → Does (left u ∷ []) c d → AskedAll (owner_key a % count) (leave_entry a ∷ []) v w
      → Went count (unhashes (spot_of p) p.card (leave a plan.gone)) v w c d (ends plan.gone)
  hashed_leaves p u c d is does all =
      let one = all_one (owner_key a % count) (leave_entry a) v w all in
      let there : Asking plan.Closed = ends plan.gone in
      let last : List Deed = deed_at (owner_key a) one.x ∷ [] in
      record {
        deeds = left u ∷ deed_at (owner_key a) one.x ∷ [];
        leads = by_left (spot_of p) p.card (leave a plan.gone) u last there is
            (by_entry count (owner_key a) (requests.Remove a.name) answers.Done (when_done there) one.x [] there one.is refl);
        gave = gave_one count (owner_key a) (leave_entry a) v w one;
        does = does_both (left u ∷ []) last c d d does (does_entry (owner_key a) one.x d);
      }

-- a request, of which no bucket knows
pub request_leaves : (count : ℕ) (m : Mine) (v : View) (c d : Side) → Removes (place_in kinds.Request m) c d → Went count (unhashes m.place (card_of kinds.Request m) (ends plan.gone)) v v c d (ends plan.gone)
request_leaves count m v c d r =
    record { deeds = left r.unhash ∷ []; leads = by_left m.place (card_of kinds.Request m) (ends plan.gone) r.unhash [] (ends plan.gone) r.is refl; gave = gave_none v; does = r.does }

-- `close` of a socket that isn't connected
pub close_drops : (shape : Shape) (seed : ℕ) (s : Sock) (moment : ℕ) → FitsState s → ((x : Mine) → s ≡ socks.Full x → ⊥) → plan.close shape seed (mine_of s) moment ≡ plan.drop (mine_of s) plan.gone
close_drops shape seed (socks.Unbound m) moment state other =
    ap (λ (st : State). plan.close_as shape seed st m moment) state ∙ sym (ap (λ (st : State). plan.drop_as st m plan.gone) state)
close_drops shape seed (socks.Bound m) moment state other =
    ap (λ (st : State). plan.close_as shape seed st m moment) state ∙ sym (ap (λ (st : State). plan.drop_as st m plan.gone) state)
close_drops shape seed (socks.Listening m) moment state other =
    ap (λ (st : State). plan.close_as shape seed st m moment) state ∙ sym (ap (λ (st : State). plan.drop_as st m plan.gone) state)
close_drops shape seed (socks.Request m) moment state other =
    ap (λ (st : State). plan.close_as shape seed st m moment) state ∙ sym (ap (λ (st : State). plan.drop_as st m plan.gone) state)
close_drops shape seed (socks.Full m) moment state other = absurd (other m refl)

pub fewer : (more : ℕ) (v : ChainView) → HasShares (more + 4) v → HasShares (more + 2) v
fewer more v may = omega arith

-- a plan was left off where that is an error
pub leaves_err : {X E : Type 0} (did : X → plan.Closed) (count name : ℕ) (p : Asking plan.Closed) (v w : View) (c d : Side) (r : Result X E) → IsErr r → LeftOff count name p v w c d → Leaves did count name p v w c d r
leaves_err did count name p v w c d (Ok x) is k = absurd (cc)
leaves_err did count name p v w c d (Err end) is k = k

-- where nothing was given and done in its turn if that is an error
pub turn_leaves : {X E : Type 0} (did : X → plan.Closed) (count name : ℕ) (p : Asking plan.Closed) (u v w : View) (c d : Side) (r : Result X E) → IsUndecided p [] → Within v u
    → IfOk r (λ x. (k : View) → Within k u → Went count p k w c d (ends (did x))) → OnErr r ((k : View) → Within k u → Gave k w []) → OnErr r (d ≡ c) → Leaves did count name p v w c d r
turn_leaves did count name p u v w c d (Ok x) undecided within went nothing same = went v within
turn_leaves did count name p u v w c d (Err end) undecided within went nothing same = left_nowhere count name p v w c d (sym same) undecided (nothing v within)

-- Where nothing was given

-- no list of groups changed
pub none_listed : (count : ℕ) (v w : View) (p q : GroupPasses) → q ≡ p → Gave v w [] → KeepsListed count v w p q
none_listed count v w p q same gave = sparing_same count v w p q same (record { new = []; gave = gave; spares = tt })

-- an owner stands as before
pub none_stands : (a : Owner) (place : ℕ) (v w : View) → StandsOwn a place v → Gave v w [] → StandsOwn a place w
none_stands a place v w stands gave = stands_on a place v w [] stands (grows v w [] gave) tt

-- its owner stands as before then, and so does its card
pub turn_kept : {X E : Type 0} (kind : Kind) (m : Mine) (place : ℕ) (u v w : View) (c d : Side) (r : Result X E) → Within v u → StandsOwn m.owner place v → IsHashed kind m c
    → OnErr r ((k : View) → Within k u → Gave k w []) → OnErr r (d ≡ c) → OnErr r (StandsOwn m.owner place w × IsHashed kind m d)
turn_kept kind m place u v w c d (Ok x) within stands stood nothing same = tt
turn_kept kind m place u v w c d (Err end) within stands stood nothing same =
    (none_stands m.owner place v w stands (nothing v within), subst (IsHashed kind m) (sym same) stood)

-- a bound socket left its port, or nothing was done
pub port_leaves : {E : Type 0} (count : ℕ) (m : Mine) (v w : View) (c : Side) (p q : GroupPasses) (r : Result (Unit {0}) E)
    → OnOk r (AskedAll (owner_key m.owner % count) (leave_entry m.owner ∷ []) v w) → OnErr r ((w ≡ v) × (q ≡ p)) → Leaves is_gone count m.owner.name (leave m.owner plan.gone) v w c c r
port_leaves count m v w c p q (Ok done) asked same = bound_leaves count m.owner v w c asked
port_leaves count m v w c p q (Err end) asked same = left_nowhere count m.owner.name (leave m.owner plan.gone) v w c c refl tt (subst (λ (k : View). Gave v k []) (sym same.0) (gave_none v))

-- nothing was given or done then
pub turn_nothing : {X E : Type 0} (u v w : View) (r : Result X E) → Within v u → OnErr r ((k : View) → Within k u → Gave k w []) → OnErr r (Gave v w [])
turn_nothing u v w (Ok x) within nothing = tt
turn_nothing u v w (Err end) within nothing = nothing v within

pub port_nothing : {X E : Type 0} (v w : View) (p q : GroupPasses) (r : Result X E) → OnErr r ((w ≡ v) × (q ≡ p)) → OnErr r (Gave v w [])
port_nothing v w p q (Ok x) same = tt
port_nothing v w p q (Err end) same = subst (λ (k : View). Gave v k []) (sym same.0) (gave_none v)

pub port_kept : {E : Type 0} (m : Mine) (place : ℕ) (v w : View) (p q : GroupPasses) (r : Result (Unit {0}) E) → StandsOwn m.owner place v → OnErr r ((w ≡ v) × (q ≡ p)) → OnErr r (StandsOwn m.owner place w)
port_kept m place v w p q (Ok done) stands same = tt
port_kept m place v w p q (Err end) stands same = subst (StandsOwn m.owner place) (sym same.0) stands

pub port_lists : {E : Type 0} (count : ℕ) (m : Mine) (v w : View) (p q : GroupPasses) (r : Result (Unit {0}) E)
    → OnOk r (LeavesAs (owner_key m.owner % count) m.owner w p q) → OnErr r ((w ≡ v) × (q ≡ p)) → ListsOfLeave count (socks.Bound m) w p q r
port_lists count m v w p q (Ok done) leaves same = leaves
port_lists count m v w p q (Err end) leaves same = same.1

-- what does not fail for want of patience fails for want of memory, if at all
pub never_fails : {X E : Type 0} (r : Result X E) (P : E → Type 0) → OnErr r ⊥ → IfErr r P
never_fails (Ok x) P none = tt
never_fails (Err end) P none = absurd none

pub close_patient : (s : Sock) (r : Result Closed Cause) → IfErr r (λ cause. cause ≡ causes.Memory) → IfErr (close_answer s r) (λ refusal. NotBusy refusal.1)
close_patient s (Ok closed) memory = tt
close_patient s (Err causes.Memory) memory = tt
close_patient s (Err causes.Busy) memory = absurd (cc)

pub drop_patient : (s : Sock) (r : Result (Unit {0}) Cause) → IfErr r (λ cause. cause ≡ causes.Memory) → IfErr (drop_answer s r) (λ refusal. NotBusy refusal.1)
drop_patient s (Ok done) memory = tt
drop_patient s (Err causes.Memory) memory = tt
drop_patient s (Err causes.Busy) memory = absurd (cc)

-- what is handed back beside the answer
module _ (count name : ℕ) (p : Asking plan.Closed) (v w : View) (c d : Side) (s : Sock) where
  pub close_answers : (r : Result Closed Cause) → Leaves became count name p v w c d r → ClosedBy became count name p v w c d (without_socket (close_answer s r))
  close_answers (Ok closed) k = k
  close_answers (Err end) k = k

  pub drop_answers : (r : Result (Unit {0}) Cause) → Leaves is_gone count name p v w c d r → ClosedBy is_gone count name p v w c d (without_socket (drop_answer s r))
  drop_answers (Ok done) k = k
  drop_answers (Err end) k = k
