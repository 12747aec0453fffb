use Rattle.std.proofs.Common.{◌≡◌, List, ◌++◌, Bool, length}
use Rattle.capture_reader.specs.declared.block.Block.{Block}
use Rattle.capture_reader.specs.Sections.{begun}
use Rattle.capture_reader.specs.Blocks.{AreBlocks, items_of}
use Rattle.capture_reader.proofs.capture.read_blocks.Given as goal

-- what more blocks say of the rest, some blocks say of the whole
abbrev pub invariant-loop-block : goal.invariant-loop-block
invariant-loop-block l =
    (more : List Block) (cut : Bool) → AreBlocks l.dev l.net l.section l.rest more cut
    → (all : List Block) × AreBlocks l.dev l.net (begun l.fn.order) l.bytes all cut × (l.items.items ++ items_of more ≡ items_of all)

abbrev pub decreases-loop-block : goal.decreases-loop-block
decreases-loop-block l = length l.rest
