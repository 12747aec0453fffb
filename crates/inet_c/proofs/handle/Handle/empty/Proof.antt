-- `empty` puts null and the allocator together, and owns nothing.
use Rattle.std.proofs.Common.{List, [], ◌∷◌, ◌++◌, refl, sym, subst}
use mir.Val.{Val, has_ty}
use base.Logic.{SProp, ent, emp, id⊢}
use base.Fml.{ftrue, flft}
use contract.BorrowLft.{◌⊑◌}
use contract.Monad.{fact}
use prog.Wp.{WpFn}
use types.Kit.{‵, raw, ◌⊛◌, ◌$◌, ◌∵◌, !, qed, move, drop, split, fsplit, fjoin, suffices, rewrite}
use types.Run.{lit, no_more, and_then, returns, enter}
use types.ByLocal.{alloc_all, pass_all, free_all, look_at, get, sets}
use types.Part.{agg}
use contract.Running.{tables}
use denote.Exit.{yes}
use denote.RattleType.{owns}
use denote.Signature.{types_at, plain}
use denote.RawPtr.{null_ptr, ptr_val}
use denote.Param.{layout}
use denote.Steps.{nothing}
use denote.Triple.Walked.{Stays, stay_dropped, walk_of, Goes-dropped}
use denote.Triple.Walked.{says, ends_at}
use types.Kit.{join, done}
use Rattle.core.proofs.atomic.Steps.{Ptr-Good}
use Rattle.core.proofs.cell.Inside.{Good, one}
use Rattle.std.proofs.raw_atomic.Walks.{proved_at}
use Rattle.std.specs.declared.option.Option.TheVariants.{None}
use Rattle.std_alloc.proofs.ResultValues.{and_tt}
use Rattle.inet_c.proofs.AsBox.{Glob, HandleRow, P, at_type}
use Rattle.inet_c.proofs.Handles.{both, handle_in}
use Rattle.inet_c.specs.contracts.handle.Handle.empty as F
use Rattle.inet_c.specs.contracts.handle.Handle.empty.Key.{name as #self}
use Rattle.inet_c.proofs.handle.Handle.empty.Statement.{statement}
use Rattle.inet_c.proofs.handle.Handle.empty.Code as code
use mir.Syntax.{a_type}
use denote.Param.{layouts}

pub empty_spec : {M : Type 1} → statement M
empty_spec 𝓤 𝓛 𝓜 𝓡 wired X LX =
    let H = 𝓛.H in let 𝓣 = tables 𝓤 H 𝓜 𝓡 𝓡.env in let En = F.ended X in let c = F.clauses X 𝓛 𝓜.mem 𝓡.returns in let fn = at_type X code.function in
    let hs : Stays En.signature.params En.kept = (stay_dropped (plain (λ _. P)) yes, tt) in
    proved_at 𝓛 En hs c 𝓜 𝓡 (Goes-dropped 𝓛 1 (plain (λ _. P)) yes (λ κs x f. refl), tt) (#self (layouts (a_type ∷ []) (X, tt))) fn (code.unfolded 𝓤 H 𝓜 𝓡 wired (X, tt)) (λ z are.
    let Post : Val → SProp 𝓤 = (walk_of 𝓛 En hs c).post z in let Run : List Val → SProp 𝓤 = λ ws. WpFn 𝓤 H 𝓣.C 𝓣.Λ fn ws Post in
    let ts = ‵ (flft z.0.0.0 z.0.1.0) ⊛ ‵ ftrue in
    let a = z.0.3.0 in let h = one (layout P) z.0.4.0 ((Glob.laws.lawful 𝓛).typed a z.0.4.0 are.0) in let w : Val = both (ptr_val null_ptr) h.0 in
    let good : Good (layout (HandleRow X)) w = (and_tt (has_ty (layout P) h.0) h.2.0, ((Ptr-Good null_ptr).1, (h.2.1, tt))) in
    qed 𝓛 ((ts ⊛ ‵ (owns (types_at En.signature.params z.0.0) z.0.3 z.0.4)) ∷ (raw (fact 𝓤 (z.0.0.0 ⊑ X.lives)) ⊛ ‵ ftrue) ∷ []) ∵ split ! $ move ! (1 ∷ []) $ fsplit ! $
    rewrite ! 0 (λ (us : List Val). ‵ (P.own_val a us)) h.1 refl $ nothing ! $ handle_in X ! null_ptr h.0 a None $ move ! (1 ∷ []) $ drop ! $ move ! (2 ∷ []) $ drop ! $
    suffices ! (Run (h.0 ∷ [])) (subst (λ (us : List Val). ent 𝓤 (Run (h.0 ∷ [])) (Run us)) (sym (λ i. h.1 i ++ [])) (id⊢ 𝓤 (Run (h.0 ∷ [])))) $
    enter ! 𝓣.C 𝓣.Λ fn (h.0 ∷ []) Post $ alloc_all ! (λ l. pass_all ! refl (h.2, tt) $ sets ! (agg ! (and_then ! (lit ! tt) (and_then ! (get ! refl) (no_more !)))) refl good $ returns ! (look_at ! 0 refl) $ free_all ! refl $
    suffices ! _ (ends_at 𝓛 En hs c z w (record { ptr = null_ptr; alloc = a; held = None }) (tt, tt) (tt, tt)) $ says ! refl $ nothing ! $ nothing ! $ fjoin ! $ join ! $ move ! (1 ∷ 0 ∷ []) $ join ! $ done !))
