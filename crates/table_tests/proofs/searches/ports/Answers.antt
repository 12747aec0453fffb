use Rattle.std.proofs.Common.{◌≡◌, ℕ, ◌==◌, false, List, [], ◌∷◌, take, length, refl, ap, ◌∙◌, arith}
use Rattle.std.specs.List.{list_any}
use Rattle.flat_list.specs.declared.header.Range.{Range}
use Rattle.flat_list.specs.Ports.{is_reserved, none_reserved, unreserved, whole_order}
use Rattle.flat_list.proofs.PortAt.{order_length}
use Rattle.table_tests.proofs.searches.ports.Goals as goal

-- where no port is reserved, none is left out
all_unreserved : (r : Range) → r.reserved.count ≡ 0 → (ports : List ℕ) → unreserved r ports ≡ ports
all_unreserved r none [] = refl
all_unreserved r none (port ∷ ports) =
    let free : is_reserved r port ≡ false = ap (λ n. list_any (λ p. p == port) (take n r.reserved.ports)) none in
    rw free (ap (λ (rest : List ℕ). port ∷ rest) (all_unreserved r none ports))

-- the ports from 40000 on
abbrev ports_to : ℕ → Range
ports_to high = record { low = 40000; high = high; reserved = none_reserved }

pub returns-then-four : goal.returns-then-four
returns-then-four c =
    let r = ports_to 40003 in
    let order = whole_order r c.args.offset c.args.first in
    let e : length c.new.result ≡ 4 =
    ap (λ (l : List ℕ). length l) c.new.ensures.order ∙ ap (λ (l : List ℕ). length l) (all_unreserved r refl order) ∙ order_length r c.args.offset c.args.first in
    omega (arith, e)

pub returns-else-four : goal.returns-else-four
returns-else-four c =
    let r = ports_to 40001 in
    let order = whole_order r c.args.offset c.args.first in
    let e : length c.new-else-four.result ≡ 2 =
    ap (λ (l : List ℕ). length l) c.new-else-four.ensures.order ∙ ap (λ (l : List ℕ). length l) (all_unreserved r refl order) ∙ order_length r c.args.offset c.args.first in
    omega (arith, e)
