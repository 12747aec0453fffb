-- What counts of 0 rule out.
use Rattle.std.proofs.Common.{◌≡◌, ℕ, Bool, true, false, eqb, ◌&&◌, ◌||◌, not, List, find, None, ◌⊎◌, inl, inr, ⊎_elim, refl, ap, sym, ◌∙◌}
use Rattle.std.specs.Prelude.{◌==◌}
use Rattle.std.proofs.lemmas.Bool.{eqb-true, eq-eqb, both_ways, false_from_ne_true, true≢false, false≢true, and_parts, and_cases, and_left, and_right, or_cases, or_left, or_right, not-false, not-true}
use Rattle.sock_card.specs.declared.owner.Owner.{Owner}
use Rattle.sock_card.specs.Conflict.{has_port, same_port, holds, is_mate, overlap, refuses, is_listening, is_time_wait}
use Rattle.bind_buckets.specs.declared.tally.Tally.{Tally}
use Rattle.bind_buckets.specs.OwnerCounts.{port_place, end_place, place_by_port, place_by_end, is_held, is_grouped, both_rule_out}
use Rattle.bind_buckets.specs.Tally.{Counts, has_place, is_exclusive, is_unshared, rules_out}
use Rattle.bind_buckets.proofs.Counted.{none_counted, none_where, none_of_both}
use Rattle.bind_buckets.proofs.Tallied.{none_of}
use Rattle.bind_buckets.proofs.WantedBy.{port_wanted, end_wanted, overlaps_if_refused}

-- the owner's port has the place of that one
abbrev pub beside : ℕ → ℕ → Owner → Bool
beside stride port = has_place (place_by_port stride) (port_place stride port)

other_port : (stride port : ℕ) (b : Owner) → beside stride port b ≡ false → (b.port == port) ≡ false
other_port stride port b out =
    false_from_ne_true (b.port == port) (λ e. both_ways (beside stride port b) out (eq-eqb _ _ (ap (port_place stride) (eqb-true b.port port e))))

apart : (stride : ℕ) (a b : Owner) → beside stride a.port b ≡ false → (a.port == b.port) ≡ false
apart stride a b out =
    false_from_ne_true (a.port == b.port) (λ e. both_ways (beside stride a.port b) out (eq-eqb _ _ (ap (port_place stride) (sym (eqb-true a.port b.port e)))))

no_port : (stride : ℕ) (a b : Owner) → beside stride a.port b ≡ false → same_port a b ≡ false
no_port stride a b out = and_right (a.net == b.net) (a.port == b.port) (apart stride a b out)

no_overlap : (stride : ℕ) (a b : Owner) → beside stride a.port b ≡ false → overlap a b ≡ false
unfolding overlap
no_overlap stride a b out = rw (no_port stride a b out) refl

pub none_overlaps_it : (stride : ℕ) (a : Owner) (t : Tally) (owners : List Owner) → eqb t.owners 0 ≡ true → Counts (beside stride a.port) is_held t owners → find (overlap a) owners ≡ None
none_overlaps_it stride a t owners none k =
    none_counted (beside stride a.port) (overlap a) owners (no_overlap stride a) (none_of t.owners _ (eqb-true t.owners 0 none) k.owners)

within : (x y z : Bool) → (y ≡ false → z ≡ false) → (x && y) ≡ false → (x && z) ≡ false
within x y z less out = ⊎_elim (λ e. and_left x z e) (λ e. and_right x z (less e)) (and_cases x y out)

by_address : (o x y l z : Bool) → x ≡ true → (not y || l) ≡ false → (o && not (x && y && not l) && z) ≡ false
by_address true true true false z e h = refl
by_address false true true false z e h = refl
by_address o true true true z e h = absurd (true≢false h)
by_address o true false l z e h = absurd (true≢false h)
by_address o false y l z e h = absurd (false≢true e)

shares_address : (a b : Owner) → a.reuseaddr ≡ true → is_exclusive b ≡ false → refuses a b ≡ false
unfolding refuses
shares_address a b e shared = by_address (overlap a b) a.reuseaddr b.reuseaddr (is_listening b.state) _ e shared

by_user : (q x y u w : Bool) → x ≡ true → y ≡ true → u ≡ true → (q && not ((x && y) && (u || w))) ≡ false
by_user true true true true w e f g = refl
by_user false true true true w e f g = refl
by_user q true true false w e f g = absurd (false≢true g)
by_user q true false u w e f g = absurd (false≢true f)
by_user q false y u w e f g = absurd (false≢true e)

with_user : (uid : ℕ) (b : Owner) → is_unshared uid b ≡ false → (b.reuseport ≡ true) × (b.uid ≡ uid)
with_user uid b out =
    let parts = and_parts b.reuseport (b.uid == uid) (not-false (b.reuseport && (b.uid == uid)) out) in
    (parts.0, eqb-true b.uid uid parts.1)

shares_port : (uid : ℕ) (a b : Owner) → a.reuseport ≡ true → a.uid ≡ uid → is_unshared uid b ≡ false → refuses a b ≡ false
unfolding refuses
shares_port uid a b e same shared =
    let user = with_user uid b shared in
    by_user _ a.reuseport b.reuseport (a.uid == b.uid) (is_time_wait b.state) e user.0 (eq-eqb a.uid b.uid (same ∙ sym user.1))

-- of the owners that the tally counts, none refuses this one
pub ruled_out : (at has_mark : Owner → Bool) (a : Owner) (t : Tally) (owners : List Owner) → rules_out t a ≡ true → Counts at has_mark t owners → find (λ b. at b && refuses a b) owners ≡ None
ruled_out at has_mark a t owners told k =
    let here : Owner → Bool = λ b. at b && refuses a b in
    ⊎_elim
    (λ first. ⊎_elim
    (λ none. none_counted at here owners (λ b. and_left (at b) (refuses a b)) (none_of t.owners _ (eqb-true t.owners 0 none) k.owners))
    (λ address. let parts = and_parts a.reuseaddr (t.exclusive == 0) address in
    none_counted (λ b. at b && is_exclusive b) here owners (λ b. within (at b) (is_exclusive b) (refuses a b) (shares_address a b parts.0)) (none_of t.exclusive _ (eqb-true t.exclusive 0 parts.1) k.exclusive))
    (or_cases (t.owners == 0) (a.reuseaddr && (t.exclusive == 0)) first))
    (λ port. let parts = and_parts (a.reuseport && (a.uid == t.uid)) (t.unshared == 0) port in
    let user = and_parts a.reuseport (a.uid == t.uid) parts.0 in
    none_counted (λ b. at b && is_unshared t.uid b) here owners (λ b. within (at b) (is_unshared t.uid b) (refuses a b) (shares_port t.uid a b user.0 (eqb-true a.uid t.uid user.1))) (none_of t.unshared _ (eqb-true t.unshared 0 parts.1) k.unshared))
    (or_cases ((t.owners == 0) || a.reuseaddr && (t.exclusive == 0)) (a.reuseport && (a.uid == t.uid) && (t.unshared == 0)) told)

its_port : (a b : Owner) → refuses a b ≡ true → b.port ≡ a.port
its_port a b r = eqb-true b.port a.port (port_wanted a b (overlaps_if_refused a b r))

beside_it : (stride : ℕ) (a b : Owner) → refuses a b ≡ true → beside stride a.port b ≡ true
beside_it stride a b r = eq-eqb _ _ (ap (port_place stride) (its_port a b r))

pub none_refuses_there : (stride : ℕ) (a : Owner) (t : Tally) (owners : List Owner) → rules_out t a ≡ true → Counts (beside stride a.port) is_held t owners → find (refuses a) owners ≡ None
none_refuses_there stride a t owners told k =
    none_where (beside stride a.port) (refuses a) owners (beside_it stride a) (ruled_out (beside stride a.port) is_held a t owners told k)

pub beside_own : (stride : ℕ) (a : Owner) → beside stride a.port a ≡ true
beside_own stride a = eq-eqb _ _ refl

-- the owner's end has the place of that one
abbrev pub about : ℕ → ℕ → ℕ → Owner → Bool
about stride port addr = has_place (place_by_end stride) (end_place stride port addr)

pub about_own : (stride : ℕ) (a : Owner) → about stride a.port a.addr a ≡ true
about_own stride a = eq-eqb _ _ refl

about_it : (stride : ℕ) (a b : Owner) (addr : ℕ) → b.port ≡ a.port → (b.addr == addr) ≡ true → about stride a.port addr b ≡ true
about_it stride a b addr port e = eq-eqb _ _ (ap (λ n. end_place stride n b.addr) port ∙ ap (end_place stride a.port) (eqb-true b.addr addr e))

at_either : (stride : ℕ) (a b : Owner) → ((a.addr == 0) ≡ true → ⊥) → refuses a b ≡ true → (about stride a.port a.addr b || about stride a.port 0 b) ≡ true
at_either stride a b some r =
    let end = and_parts (b.port == a.port) ((b.addr == a.addr) || (b.addr == 0)) (end_wanted a b some (overlaps_if_refused a b r)) in
    let port = eqb-true b.port a.port end.0 in
    ⊎_elim
    (λ there. or_left _ (about stride a.port 0 b) (about_it stride a b a.addr port there))
    (λ any. or_right (about stride a.port a.addr b) _ (about_it stride a b 0 port any))
    (or_cases (b.addr == a.addr) (b.addr == 0) end.1)

-- none at either of its places refuses it: neither those that the one tally counts, nor any at the other place
pub none_refuses_at : (stride : ℕ) (a : Owner) (there any : Tally) (owners : List Owner) → both_rule_out there any a ≡ true → Counts (about stride a.port a.addr) is_grouped there owners
    → (rules_out any a ≡ true → find (λ b. about stride a.port 0 b && refuses a b) owners ≡ None) → find (refuses a) owners ≡ None
none_refuses_at stride a there any owners told k none_any =
    let last = and_parts (not (a.addr == 0) && rules_out there a) (rules_out any a) told in
    let first = and_parts (not (a.addr == 0)) (rules_out there a) last.0 in
    none_of_both (about stride a.port a.addr) (about stride a.port 0) (refuses a) owners (λ b. at_either stride a b (λ zero. both_ways (a.addr == 0) (not-true (a.addr == 0) first.0) zero))
    (ruled_out (about stride a.port a.addr) is_grouped a there owners first.1 k) (none_any last.1)

unheld : (stride port net : ℕ) (b : Owner) → (beside stride port b && is_held b) ≡ false → holds port net b ≡ false
unheld stride port net b out =
    ⊎_elim (λ apart_from. and_left (has_port port net b) (is_held b) (and_right (b.net == net) (b.port == port) (other_port stride port b apart_from)))
    (λ chosen. and_right (has_port port net b) (is_held b) chosen)
    (and_cases (beside stride port b) (is_held b) out)

pub none_holds_it : (stride port net : ℕ) (t : Tally) (owners : List Owner) → eqb t.marked 0 ≡ true → Counts (beside stride port) is_held t owners → find (holds port net) owners ≡ None
none_holds_it stride port net t owners none k =
    none_counted (λ b. beside stride port b && is_held b) (holds port net) owners (unheld stride port net) (none_of t.marked _ (eqb-true t.marked 0 none) k.marked)

by_group : (l x y n p d u i : Bool) → (p ≡ true → i ≡ true → ⊥) ⊎ ((l && y) ≡ false) → (l && (x && y) && (n && p) && d && u && i) ≡ false
by_group l x y n true d u true (inl apart_from) = absurd (apart_from refl refl)
by_group l x y n false d u true (inl apart_from) = rw (and_right n false refl, and_right (l && (x && y)) false refl) refl
by_group l x y n p d u false (inl apart_from) = and_right _ false refl
by_group false x y n p d u i (inr e) = refl
by_group true false y n p d u i (inr e) = refl
by_group true true y n p d u i (inr e) = rw e refl

no_mate_of : (stride : ℕ) (a b : Owner) → (about stride a.port a.addr b && is_grouped b) ≡ false → is_mate a b ≡ false
no_mate_of stride a b out =
    by_group (is_listening b.state) a.reuseport b.reuseport (a.net == b.net) (a.port == b.port) (a.dev == b.dev) (a.uid == b.uid) (a.addr == b.addr)
    (⊎_elim
    (λ apart_from. inl (λ port addr. both_ways (about stride a.port a.addr b) apart_from (about_it stride a b a.addr (sym (eqb-true a.port b.port port)) (eq-eqb b.addr a.addr (sym (eqb-true a.addr b.addr addr))))))
    (λ ungrouped. inr ungrouped)
    (and_cases (about stride a.port a.addr b) (is_grouped b) out))

pub no_mate_there : (stride : ℕ) (a : Owner) (t : Tally) (owners : List Owner) → eqb t.marked 0 ≡ true → Counts (about stride a.port a.addr) is_grouped t owners → find (is_mate a) owners ≡ None
no_mate_there stride a t owners none k =
    none_counted (λ b. about stride a.port a.addr b && is_grouped b) (is_mate a) owners (no_mate_of stride a) (none_of t.marked _ (eqb-true t.marked 0 none) k.marked)
