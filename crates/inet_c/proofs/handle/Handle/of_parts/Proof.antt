-- `of_parts` moves two fields, and what they own goes with them.
use Rattle.std.proofs.Common.{List, [], ◌∷◌, ◌++◌, refl, sym, subst}
use mir.Val.{Val}
use mir.Syntax.{a_type}
use base.Logic.{SProp, ent, emp, id⊢}
use base.Fml.{ftrue, fsep, flft}
use contract.BorrowLft.{◌⊑◌}
use contract.Monad.{fact}
use contract.Running.{tables}
use prog.Wp.{WpFn}
use types.Kit.{Item, ‵, raw, ◌⊛◌, ◌$◌, ◌∵◌, !, qed, by, move, drop, join, split, fsplit, fjoin, suffices, rewrite, done}
use types.Part.{whole, sub, agg}
use types.Run.{stop, fld, no_more, and_then, of_opd, returns, enter}
use types.ByLocal.{alloc_all, pass_all, free_all, look_at, get, get_in, sets}
use denote.Exit.{no}
use denote.Param.{layouts, param}
use denote.RawPtr.{Ptr, block_ptr}
use denote.Signature.{plain}
use denote.Steps.{nothing}
use denote.Triple.Walked.{Stays, stay_dropped, walk_of, says, ends_at}
use Rattle.core.proofs.alloc.Calls.{Goes-blank}
use Rattle.std.proofs.raw_atomic.Walks.{proved_at}
use Rattle.std.specs.declared.option.Option.TheVariants.{Some}
use Rattle.std_alloc.proofs.BoxSteps.Form.{Bx, D, B, word, box_typed}
use Rattle.std_alloc.proofs.BoxSteps.Steps.{box_out}
use Rattle.inet_c.proofs.AsBox.{E, HandleRow, PartsRow, at_type}
use Rattle.inet_c.proofs.Handles.{handle_in}
use Rattle.inet_c.specs.contracts.handle.Handle.of_parts as F
use Rattle.inet_c.specs.contracts.handle.Handle.of_parts.Key.{name as #self}
use Rattle.inet_c.proofs.handle.Handle.of_parts.Statement.{statement}
use Rattle.inet_c.proofs.handle.Handle.of_parts.Code as code

pub of_parts_spec : {M : Type 1} → statement M
of_parts_spec 𝓤 𝓛 𝓜 𝓡 wired X LX =
    let H = 𝓛.H in let 𝓣 = tables 𝓤 H 𝓜 𝓡 𝓡.env in let En = F.ended X in let c = F.clauses X 𝓛 𝓜.mem 𝓡.returns in let fn = at_type X code.function in
    let hs : Stays En.signature.params En.kept = (stay_dropped (plain (λ _. PartsRow (param 0 X))) no, tt) in
    proved_at 𝓛 En hs c 𝓜 𝓡 (Goes-blank 𝓛 1 (plain (λ _. PartsRow (param 0 X))) no (λ κs x f. tt), tt) (#self (layouts (a_type ∷ []) (X, tt))) fn (code.unfolded 𝓤 H 𝓜 𝓡 wired (X, tt)) (λ z are.
    let Bo : Bx = E X LX in
    let Post : Val → SProp 𝓤 = (walk_of 𝓛 En hs c).post z in let Run : List Val → SProp 𝓤 = λ ws. WpFn 𝓤 H 𝓣.C 𝓣.Λ fn ws Post in
    let ts : Item 𝓤 = ‵ (flft z.0.0.0 z.0.1.0) ⊛ ‵ ftrue in let alive : Item 𝓤 = raw (fact 𝓤 (z.0.0.0 ⊑ X.lives)) ⊛ ‵ ftrue in
    let a = z.0.3.0.alloc in let x = z.0.3.0.value in
    let v : D Bo = record { ptr = z.0.3.0.ptr; alloc = a; value = x } in
    let To = HandleRow (param 0 X) in
    let made : To.Denot = record { ptr = v.ptr; alloc = a; held = Some x } in
    qed 𝓛 ((ts ⊛ ‵ (fsep ((B Bo).own_val v z.0.4.0) ftrue)) ∷ alive ∷ []) ∵ split ! $ move ! (1 ∷ []) $ fsplit ! $
    box_out Bo ! v z.0.4.0 (λ b o hv e ws fa. let w = word Bo hv b o in
    fjoin ! $ handle_in (param 0 X) ! (block_ptr b o) hv a (Some x) $ rewrite ! 0 (λ (p : Ptr). ‵ (To.own_val (record { ptr = p; alloc = a; held = Some x }) (w ∷ []))) (sym e) refl $
    move ! (1 ∷ []) $ drop ! $ move ! (2 ∷ []) $ drop ! $
    suffices ! (Run (w ∷ [])) (subst (λ (us : List Val). ent 𝓤 (Run (w ∷ [])) (Run us)) (sym (λ i. ws i ++ [])) (id⊢ 𝓤 (Run (w ∷ [])))) $
    enter ! 𝓣.C 𝓣.Λ fn (w ∷ []) Post $ alloc_all ! (λ ls. pass_all ! refl (box_typed Bo hv b o fa, tt) $
    sets ! (of_opd ! (get_in ! (fld ! refl (stop !)) (sub ! 0 refl (whole !)))) refl (tt, tt) $ sets ! (of_opd ! (get_in ! (fld ! refl (stop !)) (sub ! 1 refl (whole !)))) refl fa $
    sets ! (agg ! (and_then ! (get ! refl) (and_then ! (get ! refl) (no_more !)))) refl (box_typed Bo hv b o fa) $ returns ! (look_at ! 0 refl) $ free_all ! refl $
    suffices ! _ (ends_at 𝓛 En hs c z w made (tt, tt) (tt, tt)) $ says ! refl $
    nothing ! $ nothing ! $ fjoin ! $ join ! $ move ! (1 ∷ 0 ∷ []) $ join ! $ done !)))
