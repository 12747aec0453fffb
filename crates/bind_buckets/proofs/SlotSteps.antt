-- What becomes of the owners in slots where the first of a kind is changed or leaves.
use Rattle.std.proofs.Common.{◌≡◌, ℕ, ◌+◌, ◌<◌, length, subst, Bool, true, false, ◌&&◌, List, get_or, find, position, Some, None, refl, sym, ◌∙◌, ap}
use Rattle.std.proofs.Math.ListN.{set}
use Rattle.std.specs.Option.{option_map}
use Rattle.std.proofs.lemmas.Bool.{and_parts}
use Rattle.sock_card.specs.declared.owner.Owner.{Owner}
use Rattle.bind_buckets.specs.declared.slot.Slot.{Slot}
use Rattle.bind_buckets.specs.First.{change_first, drop_first}
use Rattle.bind_buckets.specs.declared.change.Change.{Change}
use Rattle.bind_buckets.specs.declared.change.Change.TheVariants as changes
use Rattle.bind_buckets.specs.Change.{becomes, CanBecome}
use Rattle.bind_buckets.specs.Slots.{owners_in, Filed, AreKept, StandsThere}
use Rattle.bind_buckets.proofs.FirstPlace.{found_at, absent, changes_at, unchanged, passes_at, place_is}
use Rattle.bind_buckets.proofs.OwnersIn.{owner_found, owner_changed, owner_left}
use Rattle.bind_buckets.proofs.SlotsKept.{own_address, kept_changed, kept_left}

abbrev pub leave : Slot → Slot
leave s = record s { here = false }

abbrev puts : Owner → Slot → Slot
puts a s = record s { owner = a }

module _ (is : Owner → Bool) (slots : List Slot) where
  abbrev has : Slot → Bool
  has s = s.here && is s.owner

  module _ (place : ℕ) (x : Slot) (at : position has slots ≡ Some place) (read : x ≡ get_or slots place x) where
    pub answers_there : is x.owner ≡ true
    answers_there = (and_parts x.here (is x.owner) (passes_at has slots place x at read)).1

    here_there : x.here ≡ true
    here_there = (and_parts x.here (is x.owner) (passes_at has slots place x at read)).0

    pub first_there : find is (owners_in slots) ≡ Some x.owner
    first_there = owner_found is slots ∙ ap (option_map (λ (s : Slot). s.owner)) (found_at has slots place x at read)

    pub left_there : owners_in (set slots place (leave x)) ≡ drop_first is (owners_in slots)
    left_there =
        sym (owner_left is leave (λ s. refl) slots ∙ ap owners_in (changes_at has leave slots place x at read))

    pub put_there : (a : Owner) → owners_in (set slots place (puts a x)) ≡ change_first is (λ _. a) (owners_in slots)
    put_there a =
        sym
        (owner_changed is (λ _. a) (puts a) (λ s. refl) (λ s. refl) slots
        ∙ ap owners_in (changes_at has (puts a) slots place x at read))

    found_here : place < length slots
    found_here = (place_is has slots place at).1

    pub kept_leaving : (filed : Filed) (gone capacity : ℕ) → AreKept slots filed gone capacity → AreKept (set slots place (leave x)) filed (gone + 1) capacity
    kept_leaving filed gone capacity kept =
        kept_left slots filed gone capacity kept place x (leave x) found_here read
        (record { name = refl; port = refl; filed = refl; addr = own_address x.owner.addr })
        here_there refl

    pub kept_putting : (a : Owner) → a.name ≡ x.owner.name → StandsThere a (find is (owners_in slots)) → (filed : Filed) (gone capacity : ℕ) → AreKept slots filed gone capacity → AreKept (set slots place (puts a x)) filed gone capacity
    kept_putting a same stands filed gone capacity kept =
        let there : StandsThere a (Some x.owner) = subst (StandsThere a) first_there stands in
        kept_changed slots filed gone capacity kept place x (puts a x) found_here read
        (record { name = same; port = sym there.0; filed = refl; addr = there.1 })
        refl

  module _ (nowhere : position has slots ≡ None) where
    pub none_there : find is (owners_in slots) ≡ None
    none_there = owner_found is slots ∙ ap (option_map (λ (s : Slot). s.owner)) (absent has slots nowhere)

    pub none_left : owners_in slots ≡ drop_first is (owners_in slots)
    none_left = sym (owner_left is leave (λ s. refl) slots ∙ ap owners_in (unchanged has leave slots nowhere))

-- an owner keeps its name in what it becomes, and is found where it was
pub becomes_named : (change : Change) (a : Owner) → (becomes change a).name ≡ a.name
becomes_named (changes.Connects local remote rport) a = refl
becomes_named changes.Listens a = refl
becomes_named changes.Waits a = refl

pub becomes_there : (change : Change) (a : Owner) → CanBecome change (Some a) → StandsThere (becomes change a) (Some a)
becomes_there (changes.Connects local remote rport) a bound = (refl, bound)
becomes_there changes.Listens a bound = (refl, own_address a.addr)
becomes_there changes.Waits a bound = (refl, own_address a.addr)
