-- The members after one has left, from its place.
use Rattle.std.proofs.Common.{◌≡◌, ℕ, ◌-◌, ◌<◌, List, length, get_or, take, arith, sym, ap, ◌∙◌, position, Some}
use Rattle.std.proofs.Math.ListN.{set}
use Rattle.std.specs.List.{swap_remove}
use Rattle.std.proofs.lemmas.List.{get_or_default}
use Rattle.bind_buckets.specs.Members.{is_named, without_member}
use Rattle.bind_buckets.proofs.FirstPlace.{changes_at, place_is}

pub leaves_at : (name : ℕ) (ms : List ℕ) (i x : ℕ) → position (is_named name) ms ≡ Some i → x ≡ get_or ms i x → swap_remove ms i x ≡ without_member name ms
leaves_at name ms i x place read =
    let last = length ms - 1 in
    let within : last < length ms = omega (arith, (place_is (is_named name) ms i place).1) in
    ap (λ y. take last (set ms i y)) (get_or_default ms last x 0 within)
    ∙ ap (take last) (sym (changes_at (is_named name) (λ _. get_or ms last 0) ms i x place read))
