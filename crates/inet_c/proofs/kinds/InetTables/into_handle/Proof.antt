-- `into_handle` moves two fields, and what they own goes with them.
use Rattle.std.proofs.Common.{[], ◌∷◌, refl}
use types.Kit.{‵, ◌$◌, ◌∵◌, !, qed, join, fjoin, suffices, done}
use denote.Exit.{yes}
use denote.Signature.{plain}
use denote.Steps.{nothing}
use denote.Triple.Walked.{Stays, stay_dropped, Goes-dropped, says, ends_at}
use Rattle.std.proofs.raw_atomic.Walks.{proved_at}
use Rattle.crossbeam_utils.specs.contracts.cache_padded.CachePadded as padded
use Rattle.shared_calls.specs.contracts.tables.SharedTables as state
use Rattle.inet_c.proofs.AsBox.{HandleRow}
use Rattle.inet_c.proofs.Moving.{moved}
use Rattle.inet_c.specs.contracts.kinds.InetTables.{the_row}
use Rattle.inet_c.specs.contracts.kinds.InetTables.into_handle as F
use Rattle.inet_c.specs.contracts.kinds.InetTables.into_handle.Key.{name as #self}
use Rattle.inet_c.proofs.kinds.InetTables.into_handle.Statement.{statement}
use Rattle.inet_c.proofs.kinds.InetTables.into_handle.Code as code

pub into_handle_spec : {M : Type 1} → statement M
into_handle_spec 𝓤 𝓛 𝓜 𝓡 wired =
    let En = F.ended in let c = F.clauses 𝓛 𝓜.mem 𝓡.returns in let X = padded.the_row state.the_row in let From = the_row in let To = HandleRow X in
    let hs : Stays En.signature.params En.kept = (stay_dropped (plain (λ _. From)) yes, tt) in
    proved_at 𝓛 En hs c 𝓜 𝓡 (Goes-dropped 𝓛 0 (plain (λ _. From)) yes (λ κs x f. refl), tt) #self code.function (code.unfolded 𝓤 𝓛.H 𝓜 𝓡 wired) (λ z are.
    let d : From.Denot = z.0.3.0 in let made : To.Denot = record { ptr = d.ptr; alloc = d.alloc; held = d.boxed } in
    moved 𝓤 𝓛 𝓜 𝓡 X _ _ made z.0.4.0 _ (λ w. qed 𝓛 (‵ (To.own_val made (w ∷ [])) ∷ []) ∵
    suffices ! _ (ends_at 𝓛 En hs c z w made (tt, tt) (tt, tt)) $ says ! refl $ nothing ! $ nothing ! $ fjoin ! $ join ! $ nothing ! $ join ! $ done !))
