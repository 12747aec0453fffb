-- The machine value of a handle: its pointer, with what it owns, and the allocator's. Assumes `Logic`.
use Rattle.std.proofs.Common.{◌≡◌, ℕ, List, [], ◌∷◌, ◌++◌, refl, subst}
use seplogic.Ra.Ura.{Ura}
use mir.Raw.{raw as bare}
use mir.Syntax.{Sym, ty_ptr, ty_struct, tcons, tnil}
use mir.Val.{has_ty, Val, vstruct, vcons, vnil, of_list}
use base.Logic.{guard_i, never_e}
use types.Logic.{Logic, sem}
use types.Kit.{Item, Goal, Seq, Step, step, ‵, given, ◌$◌, move, drop, keep, by, learn, fsplit, fjoin, fpick, fpack, feq_i, feq_l, use1}
use contract.Monad.{fact_use}
use denote.Param.{layout}
use denote.RattleType.{RattleType, Valss}
use denote.Builtin.{RawPtr}
use denote.Memory.{lone}
use denote.RawPtr.{Ptr, block_ptr, null_ptr, ptr_val, Testable}
use denote.Steps.{nothing}
use denote.Struct.Struct.{within}
use denote.Struct.Owning.{shape, to}
use lib.Dec
use Rattle.core.proofs.alloc.Calls.{Fits, handle_tells}
use Rattle.core.proofs.cell.Inside.{Good}
use Rattle.std_alloc.proofs.ResultValues.{and_tt}
use Rattle.std.specs.declared.alloc.Global.{Global}
use Rattle.std.specs.declared.option.Option.{Option}
use Rattle.std.specs.declared.option.Option.TheVariants.{None, Some}
use Rattle.std.specs.contracts.impls.GlobalAllocator.TheImpl.{ghosts}
use Rattle.std.proofs.GlobalToken.{dealloc_token-Testable}
use Rattle.std_alloc.specs.Box.Ownership.{box_owns}
use Rattle.inet_c.specs.Owned.{owned}
use Rattle.inet_c.specs.contracts.handle.Handle as handle
use Rattle.inet_c.proofs.AsBox.{Glob, HandleRow, P}

abbrev pub both : Val → Val → Val
both v w = vstruct (vcons v (vcons w vnil))

-- a pointer and an allocator's value are a value of a struct of both
pub both_good : (ν : Sym) (p : Ptr) (h : Val) → Good (layout P) h → Good (ty_struct ν (tcons ty_ptr (tcons (layout P) tnil))) (both (ptr_val p) h)
both_good ν (block_ptr b o) h good = (and_tt (has_ty (layout P) h) good.0, (tt, (good.1, tt)))
both_good ν null_ptr h good = (and_tt (has_ty (layout P) h) good.0, (record { fits = lib.Dec.lit< tt }, (good.1, tt)))

module _ (X : RattleType) {M : Type 1} {𝓤 : Ura M} {𝓛 : Logic 𝓤} {K : Type 0} {Γ : List (Item 𝓤)} {G : Goal 𝓤 𝓛.H} where
  pub handle_out : K → (d : (HandleRow X).Denot) (vs : List Val)
      → ((h : Val) → vs ≡ both (ptr_val d.ptr) h ∷ [] → Fits Glob h → Seq K 𝓛 (‵ (owned X d.alloc d.ptr d.held) ∷ ‵ (P.own_val d.alloc (h ∷ [])) ∷ Γ) G)
      → Seq K 𝓛 (‵ ((HandleRow X).own_val d vs) ∷ Γ) G
  handle_out t d vs k =
      fsplit t $ fpick t (λ vss. fsplit t $ feq_l t (λ ev. fsplit t $ feq_l t (λ ep. fsplit t $ handle_tells Glob t d.alloc vss.1.0 (λ h ea fits. move t (1 ∷ []) $ drop t $ move t (1 ∷ []) $
      k h (subst (λ (ws : List Val). vs ≡ vstruct (of_list (ptr_val d.ptr ∷ (ws ++ []))) ∷ []) ea (subst (λ (ps : List Val). vs ≡ vstruct (of_list (ps ++ (vss.1.0 ++ []))) ∷ []) ep ev)) fits))))

  pub handle_in : K → (p : Ptr) (h : Val) (a : Global) (x : Option X.Denot)
      → Step K 𝓛 (‵ ((HandleRow X).own_val (record { ptr = p; alloc = a; held = x }) (both (ptr_val p) h ∷ [])) ∷ Γ) G (‵ (owned X a p x) ∷ ‵ (P.own_val a (h ∷ [])) ∷ Γ) G
  handle_in t p h a x = step (λ s. let v : Val = both (ptr_val p) h in
      nothing t $ move t (2 ∷ 0 ∷ []) $ fjoin t $ feq_i t (List Val) (ptr_val p ∷ []) (ptr_val p ∷ []) refl $ fjoin t $ feq_i t (List Val) (v ∷ []) (v ∷ []) refl $ fjoin t $
      fpack t (Valss (RawPtr ∷ P ∷ [])) (within (shape (handle.the_type X)) (to (handle.the_type X) (record { ptr = p; alloc = a; held = x })) (v ∷ [])) (ptr_val p ∷ [], (h ∷ [], tt)) $ fjoin t $ s)

  -- nothing at null; else the tables, and a pointer that may be compared with null
  pub either : K → (a : Global) (p : Ptr) (x : Option X.Denot)
      → (p ≡ null_ptr → x ≡ None → Seq K 𝓛 Γ G)
      → ((b o : ℕ) (y : X.Denot) → p ≡ block_ptr b o → x ≡ Some y → Testable (block_ptr b o) → Seq K 𝓛 (‵ (box_owns (ghosts.dealloc_token a) X (block_ptr b o) y) ∷ Γ) G)
      → Seq K 𝓛 (‵ (owned X a p x) ∷ Γ) G
  either t a null_ptr None none one = drop t $ none refl refl
  either t a null_ptr (Some y) none one = keep t (0 ∷ []) $ by t (never_e 𝓤 _)
  either t a (block_ptr b o) None none one = keep t (0 ∷ []) $ by t (never_e 𝓤 _)
  either t a (block_ptr b o) (Some y) none one =
      let p : Ptr = block_ptr b o in let τ = bare (lone X.mir) in
      fsplit t $ move t (1 ∷ []) $ use1 𝓛 (given (Testable p) (‵ (ghosts.dealloc_token a τ p))) (fact_use 𝓤 _ (dealloc_token-Testable 𝓛 a τ p) (guard_i 𝓤 (Testable p) (sem 𝓛 (ghosts.dealloc_token a τ p)))) $ learn t (λ ok.
      move t (1 ∷ 0 ∷ []) $ fjoin t $ one b o y refl refl ok)
