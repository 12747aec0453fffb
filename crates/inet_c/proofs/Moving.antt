-- A function that takes a handle's two fields and makes another struct of them: what the handle owned goes with them.
use Rattle.std.proofs.Common.{◌≡◌, List, [], ◌∷◌, ◌++◌, refl, sym, subst}
use seplogic.Ra.Ura.{Ura}
use mir.Syntax.{Fn, Sym, Ty, assign, aggregate, copy, field, local, place, return, rv_opd, seq, value_local, ty_ptr, ty_struct, tcons, tnil}
use mir.Val.{Val}
use base.Logic.{SProp, ent, emp, id⊢}
use base.Fml.{ftrue, fsep}
use contract.Running.{Running, tables}
use prog.Model.{Model}
use prog.Wp.{WpFn}
use types.Logic.{Logic, sem}
use types.Kit.{‵, raw, ◌⊛◌, ⋆, ◌$◌, ◌∵◌, !, qed, by, move, drop, split, fsplit, suffices}
use types.Part.{whole, sub, agg}
use types.Run.{stop, fld, no_more, and_then, of_opd, returns, enter}
use types.ByLocal.{alloc_all, pass_all, free_all, look_at, get, get_in, sets}
use denote.Param.{layout}
use denote.RattleType.{RattleType}
use denote.RawPtr.{ptr_val}
use Rattle.core.proofs.alloc.Calls.{Fits}
use Rattle.core.proofs.atomic.Steps.{Ptr-Good}
use Rattle.inet_c.proofs.AsBox.{HandleRow, P}
use Rattle.inet_c.proofs.Handles.{both, both_good, handle_out, handle_in}

-- the struct of that name, of a pointer and the allocator
abbrev pub of_two : Sym → Ty
of_two ν = ty_struct ν (tcons ty_ptr (tcons (layout P) tnil))

abbrev pub moving : (from to : Sym) → Fn
moving from to =
    record {
      lifetimes = 0;
      outlives = [];
      ty_params = [];
      givens = 0;
      params = 1;
      locals = local (of_two to) value_local ∷ local (of_two from) value_local ∷ local ty_ptr value_local ∷ local (layout P) value_local ∷ local ty_ptr value_local ∷ [];
      body = seq (assign (place 2 []) (rv_opd (copy (place 1 (field 0 ∷ []))))) (seq (assign (place 3 []) (rv_opd (copy (place 1 (field 1 ∷ []))))) (seq (assign (place 4 []) (rv_opd (copy (place 2 [])))) (seq (assign (place 0 []) (aggregate (copy (place 4 []) ∷ copy (place 3 []) ∷ []))) return)));
    }

module _ {M : Type 1} (𝓤 : Ura M) (𝓛 : Logic 𝓤) (𝓜 : Model 𝓤 𝓛.H) (𝓡 : Running 𝓤 𝓛.H 𝓜) where
  pub moved : (X : RattleType) (from to : Sym) (d : (HandleRow X).Denot) (vs : List Val) (Post : Val → SProp 𝓤)
      → ((w : Val) → ent 𝓤 (⋆ 𝓛 (‵ ((HandleRow X).own_val d (w ∷ [])) ∷ [])) (Post w))
      → (let 𝓣 = tables 𝓤 𝓛.H 𝓜 𝓡 𝓡.env in ent 𝓤 (⋆ 𝓛 ((‵ ftrue ⊛ ‵ (fsep ((HandleRow X).own_val d vs) ftrue)) ∷ raw (emp 𝓤) ∷ [])) (WpFn 𝓤 𝓛.H 𝓣.C 𝓣.Λ (moving from to) (vs ++ []) Post))
  moved X from to d vs Post ends =
      let H = 𝓛.H in let 𝓣 = tables 𝓤 H 𝓜 𝓡 𝓡.env in let fn = moving from to in let Run : List Val → SProp 𝓤 = λ ws. WpFn 𝓤 H 𝓣.C 𝓣.Λ fn ws Post in
      qed 𝓛 ((‵ ftrue ⊛ ‵ (fsep ((HandleRow X).own_val d vs) ftrue)) ∷ raw (emp 𝓤) ∷ []) ∵ split ! $ drop ! $ fsplit ! $ move ! (1 ∷ 2 ∷ []) $ drop ! $ drop ! $
      handle_out X ! d vs (λ h ws fits. let w : Val = both (ptr_val d.ptr) h in
      handle_in X ! d.ptr h d.alloc d.held $
      suffices ! (Run (w ∷ [])) (subst (λ (us : List Val). ent 𝓤 (Run (w ∷ [])) (Run us)) (sym (λ i. ws i ++ [])) (id⊢ 𝓤 (Run (w ∷ [])))) $
      enter ! 𝓣.C 𝓣.Λ fn (w ∷ []) Post $ alloc_all ! (λ ls. pass_all ! refl (both_good from d.ptr h fits, tt) $
      sets ! (of_opd ! (get_in ! (fld ! refl (stop !)) (sub ! 0 refl (whole !)))) refl (Ptr-Good d.ptr) $ sets ! (of_opd ! (get_in ! (fld ! refl (stop !)) (sub ! 1 refl (whole !)))) refl fits $
      sets ! (of_opd ! (get ! refl)) refl (Ptr-Good d.ptr) $ sets ! (agg ! (and_then ! (get ! refl) (and_then ! (get ! refl) (no_more !)))) refl (both_good to d.ptr h fits) $ returns ! (look_at ! 0 refl) $ free_all ! refl $
      by ! (ends w)))
