-- What a handle owns says the same to every thread: a box of what belongs to no thread, or nothing.
use mir.Raw.{raw}
use base.Fraction.{full_share}
use base.Shift.{Keyless}
use denote.Memory.{lone}
use denote.Param.Send.{IsSend, part_keyless}
use denote.RattleType.{RattleType}
use denote.RawPtr.{Ptr, block_ptr, null_ptr}
use Rattle.std.proofs.Crossing.{frees}
use Rattle.std.specs.declared.alloc.Global.{Global}
use Rattle.std.specs.declared.option.Option.{Option}
use Rattle.std.specs.declared.option.Option.TheVariants.{None, Some}
use Rattle.inet_c.specs.Owned.{owned}

pub owned_keyless : (X : RattleType) → IsSend X → (a : Global) (p : Ptr) (x : Option X.Denot) → Keyless (owned X a p x)
owned_keyless X sends a null_ptr None = tt
owned_keyless X sends a null_ptr (Some y) = tt
owned_keyless X sends a (block_ptr b o) None = tt
owned_keyless X sends a (block_ptr b o) (Some y) = (part_keyless X sends full_share y b o, frees.frees a (raw (lone X.mir)) (block_ptr b o))
