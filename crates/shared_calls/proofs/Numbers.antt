-- Numbers, and the labels that stand for them.
use Rattle.std.proofs.Common.{◌≡◌, ℕ, ◌+◌, ◌-◌, ◌*◌, ◌^◌, List, length, Option, Some, option_and_then, sym, ap, ◌∙◌, subst, arith}
use Rattle.std.specs.Option.{option_map}
use Rattle.flat_calls.specs.Numbers.{label_of}
use Rattle.flat_list.specs.Sections.{name_at}
use Rattle.label_index.specs.Places.{place_in}
use Rattle.label_index.proofs.Numbers.{place}
use Rattle.table_model.specs.Own.{open_named}
use Rattle.shared_calls.specs.Numbers.{NumbersAreNames}

-- the name of the socket that a number names
pub numbers_are_names : NumbersAreNames
numbers_are_names own k numbered few some l =
    let p : place_in own.labels (label_of k) ≡ Some (k - 1) = subst (λ (ls : List (List ℕ)). place_in ls (label_of k) ≡ Some (k - 1)) (sym numbered) (place (length own.labels) k (omega (arith, few)) some l) in
    let name : name_at own.number (k - 1) ≡ own.number * 2 ^ 56 + k = omega (arith, some) in
    ap (λ (o : Option ℕ). option_and_then (open_named own) (option_map (name_at own.number) o)) p ∙ ap (open_named own) name
