-- A step of one section leaves what another knows of itself meant.
use Rattle.std.proofs.Common.{◌≡◌, ◌≢◌, ℕ, ◌+◌, ◌/◌, ◌^◌, ◌<◌, ◌≤◌, ◌==◌, Bool, true, false, ◌&&◌, not, cond, List, [], ◌∷◌, length, filter, find, get_or, Option, Some, None, refl, ap, sym, ◌∙◌, subst, arith}
use Rattle.std.specs.Prelude.{unwrap_or}
use Rattle.std.specs.List.{list_any}
use Rattle.std.proofs.lemmas.Bool.{eqb-true, and_parts, not-true}
use Rattle.list_words.specs.Lists.{Each, total}
use Rattle.list_words.proofs.EachLemmas.{each_weaken, each_both, each_map, each_filter, found_passes, each_unmap}
use Rattle.list_words.proofs.Truths.{one_is_true}
use Rattle.sock_card.specs.declared.card.Card.{Card}
use Rattle.sock_card.specs.declared.card.Kind.{Kind}
use Rattle.sock_card.specs.declared.owner.Owner.{Owner}
use Rattle.sock_card.specs.declared.owner.State.{State}
use Rattle.sock_card.specs.declared.owner.State.TheVariants as states
use Rattle.sock_card.specs.Conflict.{is_time_wait}
use Rattle.sock_card.specs.TimeWait.{is_time_wait_kind}
use Rattle.chain_book.specs.declared.outcome.Hashed.{Hashed}
use Rattle.chain_book.specs.Chains.{Chains, row_at, has_slot}
use Rattle.flat_list.specs.declared.command.Command.{Command}
use Rattle.flat_list.specs.declared.header.Header.{Header}
use Rattle.flat_list.specs.declared.socket.Socket.{Socket}
use Rattle.flat_list.specs.Flat.{Flat}
use Rattle.flat_list.specs.Look.{extra_as}
use Rattle.flat_list.specs.Sections.{Section, section_of, new_section, has_number, labels_of}
use Rattle.flat_list.specs.Sockets.{kind_of, has_name, is_open_in}
use Rattle.flat_list.specs.Sound.{IsSound, IsAwakeIfNamed}
use Rattle.flat_list.specs.Step.{step}
use Rattle.flat_list.proofs.SectionsStay.{step_stays}
use Rattle.table_model.specs.Tables.{Tables, Ended, run}
use Rattle.table_model.specs.Own.{Own, Mine, card_of, open_socket}
use Rattle.table_model.specs.Commands.{Replied, plan}
use Rattle.table_model.specs.Means.{Means, OwnMeans, Refines, ChainsMean, StandsAs, OthersStay, owner_of, owner_in}
use Rattle.table_model.proofs.lists.Passing.{Weighs, Only, ind, any_weighs, found_counts}
use Rattle.table_model.proofs.lists.Rows.{weigh, weigh_sum, row_least}
use Rattle.table_model.proofs.parts.Slots.{one_most}
use Rattle.table_model.proofs.parts.Chains.{holds}
use Rattle.table_model.proofs.parts.Cards.{weigh_as, only_named}
use Rattle.table_model.proofs.parts.Places.{stands_test, StandsThere, stands_there, card_is}
use Rattle.table_model.proofs.lists.Listed.{Listed}
use Rattle.table_model.proofs.parts.Standing.{all_listed}
use Rattle.table_model.proofs.parts.OpenSocket.{OpenThere, open_there, each_passes}
use Rattle.table_model.proofs.parts.Sections.{same_labels}
use Rattle.table_model.proofs.commands.Asks.{MayLeave, OpenMayLeave, AnyReply, plan_asks}
use Rattle.table_model.proofs.commands.Laws.{plans_refine}
use Rattle.table_model.proofs.others.Slots.{Elsewhere, Keeps, awake_test, weigh_most, keeps_run}
use Rattle.table_model.proofs.others.Sockets.{Rest}
use Rattle.table_model.proofs.others.Step.{step_rest}

-- what is known of each open socket of a section's own: the list has it
abbrev HasSocket : ℕ → Flat → Owner → Type 0
HasSocket m flat a = (s : Socket) × (a ≡ s.owner) × Listed s.owner.name flat.sockets s × (is_open_in m s ≡ true) × IsAwakeIfNamed s

module _ (m : ℕ) (other : Own) (t : Tables) (flat : Flat) (h : Means m other t flat) where
  all_have : Each (λ (x : Mine). HasSocket m flat x.owner) other.sockets
  all_have =
      each_unmap (HasSocket m flat) owner_in other.sockets
      (subst (Each (HasSocket m flat)) (sym h.own_is.sockets)
      (each_map (HasSocket m flat) owner_of (filter (is_open_in m) flat.sockets)
      (each_weaken (λ (s : Socket). (Listed s.owner.name flat.sockets s × IsAwakeIfNamed s) × (is_open_in m s ≡ true)) (λ (s : Socket). HasSocket m flat s.owner) (filter (is_open_in m) flat.sockets)
      (λ s q. (s, refl, q.0.0, q.1, q.0.1))
      (each_both (λ (s : Socket). Listed s.owner.name flat.sockets s × IsAwakeIfNamed s) (λ (s : Socket). is_open_in m s ≡ true) (filter (is_open_in m) flat.sockets)
      (each_filter (λ (s : Socket). Listed s.owner.name flat.sockets s × IsAwakeIfNamed s) (is_open_in m) flat.sockets
      (each_both (λ (s : Socket). Listed s.owner.name flat.sockets s) IsAwakeIfNamed flat.sockets (all_listed flat.sockets h.sound.names) h.sound.awake))
      (each_passes (is_open_in m) flat.sockets)))))

waits_kind : (f : Card → ℕ) (state : State) (o : Owner) (extra : Kind → ℕ) → ((card : Card) → is_time_wait_kind card.kind ≡ false → f card ≡ 0) → is_time_wait state ≡ false → weigh_as f (kind_of state) o extra ≡ 0
waits_kind f states.Unbound o extra h e = refl
waits_kind f states.Bound o extra h e = refl
waits_kind f states.Listening o extra h e = h _ refl
waits_kind f states.Full o extra h e = h _ refl
waits_kind f states.Request o extra h e = h _ refl
waits_kind f states.TimeWait o extra h e = absurd (cc)

bit_no : (b : Bool) → cond {A = ℕ} b 1 0 ≡ 0 → b ≡ false
bit_no true e = absurd (omega (arith, e))
bit_no false e = refl

bit : (b : Bool) → b ≡ false → cond {A = ℕ} b 1 0 ≡ 0
bit b e = ap (λ c. cond {A = ℕ} c 1 0) e

two_names : (s a b : Bool) → (a ≡ true → b ≡ true → ⊥) → cond {A = ℕ} (s && a) 1 0 + cond {A = ℕ} (s && b) 1 0 ≤ cond {A = ℕ} s 1 0
two_names true true true h = absurd (h refl refl)
two_names true true false h = omega arith
two_names true false true h = omega arith
two_names true false false h = omega arith
two_names false a b h = omega arith

slot_only : (s a b : Bool) → cond {A = ℕ} (s && a && b) 1 0 ≤ cond {A = ℕ} s 1 0
slot_only true true true = omega arith
slot_only true true false = omega arith
slot_only true false b = omega arith
slot_only false a b = omega arith

awake_passes : (w : Mine) (x : Hashed) → stands_test w x ≡ true → is_time_wait_kind x.card.kind ≡ false → awake_test w x ≡ true
awake_passes w x e f = rw (e, f) refl

least_at : (a b : Bool) → cond {A = ℕ} (a && b) 1 0 ≤ cond {A = ℕ} a 1 0
least_at true true = omega arith
least_at true false = omega arith
least_at false b = omega arith

any_true : (b : Bool) (k : ℕ) → Weighs b k → 1 ≤ k → b ≡ true
any_true true k h l = refl
any_true false k h l = absurd (omega (arith, h.1 refl))

stands_least : (w : Mine) (xs : List Hashed) → total (ind (awake_test w)) xs ≤ total (ind (stands_test w)) xs
stands_least w [] = omega arith
stands_least w (x ∷ xs) = omega (arith, least_at (stands_test w x) (not (is_time_wait_kind x.card.kind)), stands_least w xs)

-- what stands there still stands in its place
keeps_stands : (c : Chains) (w : Mine) (kind : Kind) → Keeps w (card_of kind w) c → StandsAs c w (Some kind)
keeps_stands c w kind h = (
  any_true (list_any (stands_test w) (row_at c w.place.bucket)) (total (ind (stands_test w)) (row_at c w.place.bucket)) (any_weighs (stands_test w) (row_at c w.place.bucket))
      (omega (arith, h.there, stands_least w (row_at c w.place.bucket))),
  h.home,
)

module _ (t : Tables) (flat : Flat) (chains : ChainsMean t.chains flat) (sound : IsSound flat) where
  abbrev c : Chains
  c = t.chains

  once : (slot : ℕ) → weigh (ind (has_slot slot)) c.rows ≤ 1
  once slot = omega (arith, (holds c flat chains).alone slot, one_most (get_or c.slots.used slot false))

  -- an open socket that is hashed stands in its place, alone in its slot
  keeps_now : (m : ℕ) (w : Mine) (kind : Kind) → HasSocket m flat w.owner → StandsAs c w (Some kind) → Keeps w (card_of kind w) c
  keeps_now m w kind (s, same, listed, mine, awake) stands =
      let there = stands_there c w kind stands in
      let x : Hashed = there.0 in
      let at : StandsThere c w x = there.1 in
      let row : List Hashed = row_at c w.place.bucket in
      let slot : ℕ = w.place.slot in
      let name : w.owner.name ≡ s.owner.name = ap (λ (o : Owner). o.name) same in
      let one : Only (has_name s.owner.name) s flat.sockets = only_named (has_name s.owner.name) flat.sockets s s.owner.name listed refl sound.names in
      let named : s.named ≡ true = (and_parts s.named (s.owner.name / 2 ^ 56 == m) mine).0 in
      let open_state : is_time_wait s.owner.state ≡ false = not-true (is_time_wait s.owner.state) (sym awake ∙ named) in
      let weight : Card → ℕ = λ card. cond {A = ℕ} (is_time_wait_kind card.kind) 1 0 in
      let kind_is : is_time_wait_kind x.card.kind ≡ false =
      bit_no (is_time_wait_kind x.card.kind)
      (card_is c flat chains s.owner.name s (stands_test w) w.place.bucket x one at.found (at.name ∙ name) weight
      ∙ waits_kind weight s.owner.state s.owner (λ kind. extra_as kind flat.groups s) (λ card e. bit (is_time_wait_kind card.kind) e) open_state) in
      let counts : 1 ≤ total (ind (awake_test w)) row =
      found_counts (awake_test w) (stands_test w) row x at.found (awake_passes w x (found_passes (stands_test w) row x at.found) kind_is) in
      record {
        one = once slot;
        there = counts;
        used = one_is_true (get_or c.slots.used slot false) (weigh (ind (has_slot slot)) c.rows) ((holds c flat chains).alone slot)
            (omega (
              arith,
              counts,
              row_least (ind (awake_test w)) c.rows w.place.bucket,
              weigh_most (ind (awake_test w)) (ind (has_slot slot)) c.rows (λ y. slot_only (has_slot slot y) (y.card.name == w.owner.name) (not (is_time_wait_kind y.card.kind))),
            ));
        home = stands.1;
      }

  -- two hashed sockets of different names stand in different slots
  slots_differ : (w x : Mine) (k l : Kind) → w.owner.name ≢ x.owner.name → StandsAs c w (Some k) → StandsAs c x (Some l) → x.place.slot ≢ w.place.slot
  slots_differ w x k l differ ws xs same =
      let slot : ℕ = w.place.slot in
      let p : Hashed → Bool = λ y. has_slot slot y && (y.card.name == x.owner.name) in
      let there : list_any p (row_at c x.place.bucket) ≡ true =
      subst (λ (i : ℕ). list_any (λ (y : Hashed). has_slot i y && (y.card.name == x.owner.name)) (row_at c x.place.bucket) ≡ true) same xs.0 in
      omega (
        arith,
        (any_weighs (stands_test w) (row_at c w.place.bucket)).0 ws.0,
        (any_weighs p (row_at c x.place.bucket)).0 there,
        row_least (ind (stands_test w)) c.rows w.place.bucket,
        row_least (ind p) c.rows x.place.bucket,
        weigh_sum (ind (stands_test w)) (ind p) c.rows,
        weigh_most (λ y. ind (stands_test w) y + ind p y) (ind (has_slot slot)) c.rows
            (λ y. two_names (has_slot slot y) (y.card.name == w.owner.name) (y.card.name == x.owner.name) (λ e f. differ (sym (eqb-true y.card.name w.owner.name e) ∙ eqb-true y.card.name x.owner.name f))),
        once slot,
      )

  module _ (n m : ℕ) (apart : m ≢ n) (w : Mine) (kind : Kind) (is : w.owner.name / 2 ^ 56 ≡ m) (stands : StandsAs c w (Some kind)) where
    elsewhere_by : (x : Mine) (o : Option Kind) → x.owner.name / 2 ^ 56 ≡ n → StandsAs c x o → MayLeave (Elsewhere w.place.slot) x o
    elsewhere_by x None there st = tt
    elsewhere_by x (Some l) there st = slots_differ w x kind l (λ e. apart (sym is ∙ (ap (λ k. k / 2 ^ 56) e ∙ there))) stands st

    elsewhere : (o : Option Mine) → OpenThere n t flat o → OpenMayLeave (Elsewhere w.place.slot) o
    elsewhere None there = tt
    elsewhere (Some x) (s, there) =
        elsewhere_by x (kind_of x.owner.state)
        (ap (λ (a : Owner). a.name / 2 ^ 56) there.same ∙ eqb-true (s.owner.name / 2 ^ 56) n (and_parts s.named (s.owner.name / 2 ^ 56 == n) there.mine).1)
        there.stands

module _ (n m : ℕ) (own other : Own) (t : Tables) (flat : Flat) (command : Command) (ended : Ended Replied) (few : length own.labels + 1 < 2 ^ 56) (apart : m ≢ n)
    (mine : Means n own t flat) (theirs : Means m other t flat) (runs : run t (plan flat.header own command) ≡ Some ended) where
  abbrev left : Flat
  left = (step flat n command).flat

  stays_by : (w : Mine) (o : Option Kind) → HasSocket m flat w.owner → StandsAs t.chains w o → StandsAs ended.tables.chains w o
  stays_by w None has stands = tt
  stays_by w (Some kind) has stands =
      let of_other : w.owner.name / 2 ^ 56 ≡ m =
      ap (λ (a : Owner). a.name / 2 ^ 56) has.1 ∙ eqb-true (has.0.owner.name / 2 ^ 56) m (and_parts has.0.named (has.0.owner.name / 2 ^ 56 == m) has.3).1 in
      keeps_stands ended.tables.chains w kind
      (keeps_run w (card_of kind w) AnyReply (plan flat.header own command) t ended
      (plan_asks (λ new. Unit {0}) (Elsewhere w.place.slot) (λ new e. tt) (λ new. tt) flat.header own
      (λ label. elsewhere t flat theirs.tables.chains theirs.sound n m apart w kind of_other stands (open_socket own label) (open_there n own t flat mine.own_is mine.sound.names label)) command)
      (keeps_now t flat theirs.tables.chains theirs.sound m w kind has stands) runs)

  few_labels : length (labels_of n flat.sections) + 1 < 2 ^ 56
  few_labels = subst (λ (l : List (List ℕ)). length l + 1 < 2 ^ 56) (sym (same_labels n own t flat mine.own_is)) few

  header_stays : left.header ≡ flat.header
  header_stays = (step_stays flat n command).0

  section_stays : section_of left.header m left.sections ≡ section_of flat.header m flat.sections
  section_stays =
      ap (λ (o : Option Section). unwrap_or o (new_section left.header m)) ((step_stays flat n command).1 m apart)
      ∙ ap (λ (header : Header). unwrap_or (find (has_number m) flat.sections) (new_section header m)) header_stays

  own_stays : OwnMeans m other ended.tables left
  own_stays =
      let rest : Rest m other left.sockets = step_rest n m apart other t flat theirs.own_is theirs.sound command few_labels in
      record {
        number = theirs.own_is.number;
        unmarked = theirs.own_is.unmarked;
        section = theirs.own_is.section ∙ sym section_stays;
        range = theirs.own_is.range ∙ sym (ap (λ (header : Header). header.range) header_stays);
        offset = theirs.own_is.offset ∙ sym (ap (λ (header : Header). header.offset) header_stays);
        sockets = rest.mine;
        stand = each_weaken (λ (w : Mine). HasSocket m flat w.owner × StandsAs t.chains w (kind_of w.owner.state)) (λ (w : Mine). StandsAs ended.tables.chains w (kind_of w.owner.state)) other.sockets
            (λ w q. stays_by w (kind_of w.owner.state) q.0 q.1)
            (each_both (λ (w : Mine). HasSocket m flat w.owner) (λ (w : Mine). StandsAs t.chains w (kind_of w.owner.state)) other.sockets (all_have m other t flat theirs) theirs.own_is.stand);
        waits = rest.waits;
        names = theirs.own_is.names;
        given = theirs.own_is.given;
      }

-- what another section knows of itself stays meant
pub others_stay : OthersStay
others_stay n m own other t flat command ended near few looks apart mine theirs runs =
    let own_is : Refines n ended flat command = plans_refine n own t flat command ended near few looks mine runs in
    record {
      shape = own_is.means.shape;
      sound = own_is.means.sound;
      tables = own_is.means.tables;
      own_is = own_stays n m own other t flat command ended few apart mine theirs runs;
    }
