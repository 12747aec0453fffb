-- What holds of the slots of a list, where one is changed, left or pushed, or those are given up whose owners left.
use Rattle.std.proofs.Common.{◌≡◌, ◌==◌, ℕ, ◌+◌, ◌-◌, ◌<◌, ◌≤◌, zero, suc, Bool, true, false, ◌||◌, cond, List, [], ◌∷◌, ◌++◌, length, filter, get_or, refl, sym, ◌∙◌, ap, arith}
use Rattle.std.proofs.Math.ListN.{set}
use Rattle.std.proofs.Math.Seq.{map-set_same}
use Rattle.std.proofs.lemmas.Bool.Decides.{nat_tests}
use Rattle.std.proofs.lemmas.List.{length-set, length-map, length_push, length-append, map-append}
use Rattle.bind_buckets.specs.declared.slot.Slot.{Slot}
use Rattle.bind_buckets.specs.Slots.{owners_in, names_in, ports_in, ends_in, end_key, is_filed, Filed, AreFiled, AreKept}
use Rattle.bind_buckets.proofs.OwnersIn.{is_here, owner_of, one_fewer, as_many, owners_append, owners_kept}

abbrev pub name_of : Slot → ℕ
name_of s = s.owner.name

abbrev port_of : Slot → ℕ
port_of s = s.owner.port

abbrev end_of : Slot → ℕ
end_of s = end_key s.owner.port s.filed

-- each slot is filed under its own address, or that of all
abbrev AreRight : List Slot → Type 0
AreRight slots = (place : ℕ) (d : Slot) → place < length slots → is_filed (get_or slots place d) ≡ true

right_set : (slots : List Slot) (i : ℕ) (y : Slot) → AreRight slots → is_filed y ≡ true → AreRight (set slots i y)
right_set [] i y right here place d lt = absurd (omega arith)
right_set (x ∷ rest) zero y right here zero d lt = here
right_set (x ∷ rest) zero y right here (suc place) d lt = right (suc place) d lt
right_set (x ∷ rest) (suc i) y right here zero d lt = right zero d (omega arith)
right_set (x ∷ rest) (suc i) y right here (suc place) d lt =
    right_set rest i y (λ p e le. right (suc p) e (omega arith)) here place d (omega arith)

right_push : (slots : List Slot) (y : Slot) → AreRight slots → is_filed y ≡ true → AreRight (slots ++ y ∷ [])
right_push [] y right here zero d lt = here
right_push [] y right here (suc place) d lt = absurd (omega arith)
right_push (x ∷ rest) y right here zero d lt = right zero d (omega arith)
right_push (x ∷ rest) y right here (suc place) d lt =
    right_push rest y (λ p e le. right (suc p) e (omega arith)) here place d (omega arith)

right_by : (x : Slot) (rest : List Slot) (b : Bool) → is_filed x ≡ true → AreRight rest → AreRight (cond b (x ∷ rest) rest)
right_by x rest true here right zero d lt = here
right_by x rest true here right (suc place) d lt = right place d (omega arith)
right_by x rest false here right place d lt = right place d lt

right_filter : (keep : Slot → Bool) (slots : List Slot) → AreRight slots → AreRight (filter keep slots)
right_filter keep [] right = right
right_filter keep (x ∷ rest) right =
    right_by x (filter keep rest) (keep x) (right zero x (omega arith))
    (right_filter keep rest (λ p e le. right (suc p) e (omega arith)))

pub own_address : (addr : ℕ) → ((addr == 0) || (addr == addr)) ≡ true
own_address addr = grind (arith, nat_tests)

-- an address that was given takes the place of any address
right_moved : (filed was now : ℕ) → ((filed == 0) || (filed == was)) ≡ true → ((was == 0) || (was == now)) ≡ true → ((filed == 0) || (filed == now)) ≡ true
right_moved filed was now right given = grind (arith, nat_tests)

-- a slot that is found where it was
pub record StaysFiled (x y : Slot) : Type 0 where
  pub name : y.owner.name ≡ x.owner.name
  pub port : y.owner.port ≡ x.owner.port
  pub filed : y.filed ≡ x.filed
  pub addr : ((x.owner.addr == 0) || (x.owner.addr == y.owner.addr)) ≡ true

module _ (slots : List Slot) (filed : Filed) where
  filed_changed : (i : ℕ) (x y : Slot) → i < length slots → x ≡ get_or slots i x → StaysFiled x y → AreFiled slots filed → AreFiled (set slots i y) filed
  filed_changed i x y lt read stays are =
      let same : end_of y ≡ end_of x = rw (stays.port, stays.filed) refl in
      let right : is_filed x ≡ true = rw read (are.right i x lt) in
      record {
        names = are.names ∙ sym (map-set_same name_of slots i y x (stays.name ∙ ap name_of read));
        ports = are.ports ∙ sym (map-set_same port_of slots i y x (stays.port ∙ ap port_of read));
        ends = are.ends ∙ sym (map-set_same end_of slots i y x (same ∙ ap end_of read));
        right =
            right_set slots i y are.right
            (rw stays.filed (right_moved x.filed x.owner.addr y.owner.addr right stays.addr));
      }

module _ (slots : List Slot) (filed : Filed) (gone capacity : ℕ) (kept : AreKept slots filed gone capacity) where
  module _ (i : ℕ) (x y : Slot) (lt : i < length slots) (read : x ≡ get_or slots i x) (stays : StaysFiled x y) where
    pub kept_changed : y.here ≡ x.here → AreKept (set slots i y) filed gone capacity
    kept_changed here =
        let len = length-set slots i y in
        record {
          filed = filed_changed slots filed i x y lt read stays kept.filed;
          gone_is =
              let many = as_many slots i y x (here ∙ ap is_here read) in
              let is = kept.gone_is in
              omega arith;
          room = let room = kept.room in omega arith;
        }

    pub kept_left : x.here ≡ true → y.here ≡ false → AreKept (set slots i y) filed (gone + 1) capacity
    kept_left was left =
        let len = length-set slots i y in
        record {
          filed = filed_changed slots filed i x y lt read stays kept.filed;
          gone_is =
              let fewer = one_fewer slots i y x lt (sym (ap is_here read) ∙ was) left in
              let is = kept.gone_is in
              omega arith;
          room = let room = kept.room in omega arith;
        }

  abbrev with_slot : Slot → Filed
  with_slot y =
      record {
        names = filed.names ++ y.owner.name ∷ [];
        ports = filed.ports ++ y.owner.port ∷ [];
        ends = filed.ends ++ end_key y.owner.port y.filed ∷ [];
        room = filed.room - 1;
      }

  pub kept_pushed : (y : Slot) → 1 ≤ filed.room → y.here ≡ true → is_filed y ≡ true → AreKept (slots ++ y ∷ []) (with_slot y) gone capacity
  kept_pushed y some here right =
      let are = kept.filed in
      let len : length (slots ++ y ∷ []) ≡ length slots + 1 = length_push slots y in
      record {
        filed = record {
          names = ap (λ xs. xs ++ y.owner.name ∷ []) are.names ∙ sym (map-append name_of slots (y ∷ []));
          ports = ap (λ xs. xs ++ y.owner.port ∷ []) are.ports ∙ sym (map-append port_of slots (y ∷ []));
          ends = ap (λ xs. xs ++ end_of y ∷ []) are.ends ∙ sym (map-append end_of slots (y ∷ []));
          right = right_push slots y are.right right;
        };
        gone_is =
            let one : length (owners_in (y ∷ [])) ≡ 1 = rw here refl in
            let both = ap length (owners_append slots (y ∷ [])) ∙ length-append (owners_in slots) (owners_in (y ∷ [])) in
            let is = kept.gone_is in
            omega arith;
        room = let room = kept.room in omega arith;
      }

  -- all are here once the slots of owners that left are given up
  pub kept_tidy : (new : Filed) → new.names ≡ names_in (filter is_here slots) → new.ports ≡ ports_in (filter is_here slots) → new.ends ≡ ends_in (filter is_here slots) → new.room + length (filter is_here slots) ≤ capacity → AreKept (filter is_here slots) new 0 capacity
  kept_tidy new names ports ends room =
      record {
        filed = record { names = names; ports = ports; ends = ends; right = right_filter is_here slots kept.filed.right };
        gone_is =
            let many = ap length (owners_kept slots) ∙ length-map (filter is_here slots) owner_of in
            omega arith;
        room = omega arith;
      }

pub same_kept : (slots slots' : List Slot) (filed filed' : Filed) (gone capacity capacity' : ℕ) → slots' ≡ slots → filed' ≡ filed → capacity' ≡ capacity → AreKept slots filed gone capacity → AreKept slots' filed' gone capacity'
same_kept slots slots' filed filed' gone capacity capacity' p q r kept = rw (p, q, r) kept
