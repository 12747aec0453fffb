-- That what a lookup answered is explained, between any two steps, by the changes of all passes: our own.
use Rattle.std.specs.Prelude.{◌≡◌, ℕ, map}
use mathlib.Core.Option.{some}
use lib.ListN.{get_elem?}
use Rattle.atomic_table.specs.Table.{State}
use Rattle.table_rule.specs.Rule.{book_part, Holds}
use Rattle.table_rule.specs.Explained.{IsExplained, IsWholeExplained}
use Rattle.table_rule.specs.declared.view.View.{View}
use Rattle.table_rule.specs.declared.view.Layout.{Layout}
use Rattle.table_rule.specs.declared.view.Receipt.{Receipt}
use Rattle.table_rule.specs.declared.view.Whole.{Whole}

-- each receipt of a lookup of one bucket
abbrev pub ReceiptsExplained : Type 0
ReceiptsExplained =
    (layout : Layout) (s : State (Unit {0}) View) (k n : ℕ) (v : View) (c : Receipt) → Holds layout s
    → get_elem? s.views k ≡ some v → get_elem? v.read.receipts n ≡ some c
    → IsExplained (map book_part s.views) layout.shape.slots c

-- and each of a whole lookup of a packet
abbrev pub WholesExplained : Type 0
WholesExplained =
    (layout : Layout) (s : State (Unit {0}) View) (k n : ℕ) (v : View) (c : Whole) → Holds layout s
    → get_elem? s.views k ≡ some v → get_elem? v.read.wholes n ≡ some c
    → IsWholeExplained (map book_part s.views) layout c
