-- A handle and its parts own what a box at the same types owns.
use mir.Syntax.{Args, Fn, impl, tnil, dnil, a_type}
use mir.MapTy.{inst_fn}
use mathlib.Core.List.{[], ◌∷◌}
use denote.Param.{layouts}
use denote.Param.Laws.{Laws}
use denote.RattleType.{RattleType}
use Rattle.core.proofs.alloc.Calls.{Al}
use Rattle.std_alloc.proofs.BoxSteps.Form.{Bx}
use Rattle.std_heap.specs.contracts.Global as Heap
use Rattle.std_heap.specs.contracts.GlobalAllocator.TheImpl.{ghosts, dict}
use Rattle.std_heap.proofs.Global.TheLaws as heap
use Rattle.inet_c.specs.contracts.parts.Parts as Parts
use Rattle.inet_c.specs.contracts.handle.Handle as Handle

abbrev pub P : RattleType
P = Heap.the_row

abbrev pub Glob : Al
Glob = record { row = P; laws = heap.the_row_laws; g = ghosts; d = dict; drops = impl [] tnil dnil }

abbrev pub E : (X : RattleType) → Laws X → Bx
E X LX = record { row = X; laws = LX; al = Glob }

abbrev pub HandleRow : RattleType → RattleType
HandleRow X = Handle.the_row X

abbrev pub PartsRow : RattleType → RattleType
PartsRow X = Parts.the_row X P ghosts

-- the function of one type parameter at that type
abbrev pub at_type : RattleType → Fn → Fn
at_type X fn = inst_fn (layouts (a_type ∷ []) (X, tt)) fn
