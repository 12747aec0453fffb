-- What a caller had changed when it told its clock ended before each later lookup.
use Rattle.std.proofs.Common.{◌≡◌, ℕ, zero, suc, ◌+◌, ◌<◌, ◌≤◌, List, [], ◌∷◌, map, sym, subst, arith}
use mathlib.Core.Option.{some, some-injective, some-ne-none}
use lib.ListN.{get_elem?}
use Rattle.list_words.specs.Lists.{Each}
use Rattle.list_words.proofs.EachLemmas.{each_unmap}
use Rattle.chain_book.specs.declared.book.Change.{Change as Told}
use Rattle.sock_ops.specs.Sides.{change_of}
use Rattle.table_rule.specs.Passes.{changed_by}
use Rattle.table_rule.specs.declared.view.Change.{Change}
use Rattle.shared_calls.specs.Order.{MeetsAsDone}

each_there : (P : Change → Type 0) (xs : List Change) (n : ℕ) (x : Change) → get_elem? xs n ≡ some x → Each P xs → P x
each_there P [] n x there each = absurd (some-ne-none x (sym there))
each_there P (y ∷ ys) zero x there each = subst P (some-injective y x there) each.0
each_there P (y ∷ ys) (suc n) x there each = each_there P ys n x there each.1

pub meets_as_done : MeetsAsDone
meets_as_done c clock n hash views old new packet passes look ended looks there still = (
  omega (arith, each_there (λ (x : Change). x.ends < clock) (changed_by c.worker.chain.pass) n hash there (each_unmap (λ (x : Told). x.end < clock) change_of (changed_by c.worker.chain.pass) ended), looks.1),
  still,
)
