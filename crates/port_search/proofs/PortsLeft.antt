-- What is left of a search's ports, before and after one of them.
use Rattle.std.proofs.Common.{◌≡◌, ℕ, ◌+◌, ◌*◌, ◌/◌, ◌<◌, ◌≤◌, false, List, [], ◌∷◌, drop, length, get_or, refl, sym, subst, arith, ap, ◌∙◌}
use Rattle.std.proofs.lemmas.List.{drop_more, drop_all}
use Rattle.flat_list.specs.declared.header.Range.{Range}
use Rattle.flat_list.specs.declared.header.First.{First}
use Rattle.flat_list.specs.Ports.{size, whole_order, unreserved, is_reserved}
use Rattle.flat_list.proofs.PortAt.{order_length}

-- what is left from that number on
pub record Left (r : Range) (offset : ℕ) (first : First) (from number : ℕ) : Type 0 where
  pub same : unreserved r (drop from (whole_order r offset first)) ≡ unreserved r (drop number (whole_order r offset first))

pub none_left : (r : Range) (offset : ℕ) (first : First) (number : ℕ) → size r / 2 * 2 ≤ number → unreserved r (drop number (whole_order r offset first)) ≡ []
none_left r offset first number past =
    ap (unreserved r) (drop_all number (whole_order r offset first) (omega (arith, order_length r offset first)))

one_left : (r : Range) (offset : ℕ) (first : First) (number : ℕ) → number < size r / 2 * 2
    → drop number (whole_order r offset first) ≡ get_or (whole_order r offset first) number r.low ∷ drop (number + 1) (whole_order r offset first)
one_left r offset first number within = drop_more (whole_order r offset first) number r.low (omega (arith, order_length r offset first))

-- it is the next one to try
pub unreserved_here : (r : Range) (offset : ℕ) (first : First) (from number port : ℕ) → Left r offset first from number → number < size r / 2 * 2
    → port ≡ get_or (whole_order r offset first) number r.low → is_reserved r port ≡ false
    → unreserved r (drop from (whole_order r offset first)) ≡ port ∷ unreserved r (drop (number + 1) (whole_order r offset first))
unreserved_here r offset first from number port left within here free =
    let next : unreserved r (drop number (whole_order r offset first)) ≡ port ∷ unreserved r (drop (number + 1) (whole_order r offset first)) =
    rw (one_left r offset first number within, ← here, free) refl in
    left.same ∙ next

pub is_shorter : (before after : List ℕ) (port : ℕ) → before ≡ port ∷ after → length after < length before
is_shorter before after port first = subst (λ xs. length after < length xs) (sym first) (omega arith)
