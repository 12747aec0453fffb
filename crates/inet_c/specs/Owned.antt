-- What a handle owns: what a `Box` of what it holds owns, or nothing where its pointer is null. Our own.
use base.Fml.{Fml, ftrue, ffalse}
use denote.RattleType.{RattleType}
use denote.RawPtr.{Ptr, block_ptr, null_ptr}
use Rattle.std.specs.Box.Ownership.{box_owns}
use Rattle.std.specs.Option.{option_map}
use Rattle.std.specs.declared.alloc.Global.{Global}
use Rattle.std.specs.declared.option.Option.{Option}
use Rattle.std.specs.declared.option.Option.TheVariants.{None, Some}
use Rattle.std.specs.contracts.impls.GlobalAllocator.TheImpl.{ghosts}
use Rattle.crossbeam_utils.specs.Padded.{padded_value}
use Rattle.crossbeam_utils.specs.declared.cache_padded.CachePadded.{CachePadded}

abbrev pub owned : (row : RattleType) → Global → Ptr → Option row.Denot → Fml
owned row alloc null_ptr None = ftrue
owned row alloc null_ptr (Some state) = ffalse
owned row alloc (block_ptr b o) None = ffalse
owned row alloc (block_ptr b o) (Some state) = box_owns (ghosts.dealloc_token alloc) row (block_ptr b o) state

-- what a handle holds, without the unused bytes round it
abbrev pub held : {S : Type 0} → Option (CachePadded S) → Option S
held boxed = option_map padded_value boxed
