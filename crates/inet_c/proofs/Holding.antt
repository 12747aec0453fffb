-- What is made in a handle that holds nothing.
use Rattle.std.proofs.Common.{◌≡◌, ◌↔◌, ◌⊎◌, inl, inr, false, List, [], ◌∷◌, ◌++◌, Option, None, Some, Result, Ok, IsErrOf, is_some, refl, sym, ap, subst, ◌∙◌}
use Rattle.crossbeam_utils.specs.Padded.{padded_value}
use Rattle.crossbeam_utils.specs.declared.cache_padded.CachePadded.{CachePadded}
use Rattle.shared_calls.specs.Callings.{Calling}
use Rattle.shared_calls.specs.Lookings.{Looking}
use Rattle.shared_calls.specs.Sharings.{Sharing, GivesCaller, GivesLooker, TakesBack, TakesLookerBack}
use Rattle.inet_c.specs.Handed.{Hands, MayMake}
use Rattle.inet_c.specs.declared.making.Making.{Making}
use Rattle.inet_c.specs.Owned.{held}

pub holds_nothing : {S : Type 0} → (o : Option (CachePadded S)) → false ≡ is_some o → held o ≡ None
holds_nothing None same = refl
holds_nothing (Some state) same = cc

-- what a handle holds that was made of a box
pub holds : {S : Type 0} (o : Option (CachePadded S)) (b : CachePadded S) (x : S) → o ≡ Some b → padded_value b ≡ x → held o ≡ Some x
holds o b x is same = ap held is ∙ ap Some same

-- what came of shared tables came of the handle that holds them, and of what the other handle held before
pub hands_on : {S : Type 0} (Is : Sharing → Sharing → S → Type 0) (All : Sharing → Type 0) (s t : Sharing) (from to : Option Sharing) (old before new : Option S) (making : Making) → Hands Is All (Some s) (Some t) old new making → old ≡ before → from ≡ Some s → to ≡ Some t → Hands Is All from to before new making
hands_on {S} Is All s t from to old before new making h e f g =
    subst (λ (x : Option Sharing). Hands Is All x to before new making) (sym f)
    (subst (λ (y : Option Sharing). Hands Is All (Some s) y before new making) (sym g) (subst (λ (z : Option S). Hands Is All (Some s) (Some t) z new making) e h))

-- something was left to hand out, since it was handed out
pub some_left : {T E : Type 0} (P : Type 0) (x : T) (e : E) → (let r : Result T E = Ok x in IsErrOf r e ↔ P) → P → ⊥
some_left P x e all p = let wrong = all.1 p in cc

-- a worker that is handed out and comes back waits, or waits again
pub worker_waits : (old mid new : Sharing) (c : Calling) → GivesCaller old mid c → TakesBack mid new c → MayMake old new
worker_waits old mid new c (inl h) takes =
    subst (MayMake old) (sym takes) (inr (inl (
      c,
      record {
        tables = h.tables;
        tag = h.tag;
        header = h.header;
        counted = h.counted;
        lookers = h.lookers;
        idle = (h.idle.0, refl);
        resting = h.resting;
        kept_is = h.kept_is;
        nothing = h.nothing;
      },
      ap (λ (l : List Calling). l ++ c ∷ []) h.idle.1,
    )))
worker_waits old mid new c (inr again) takes = inl (takes ∙ sym again)

-- so does a looker
pub looker_waits : (old mid new : Sharing) (l : Looking) → GivesLooker old mid l → TakesLookerBack mid new l → MayMake old new
looker_waits old mid new l (inl h) takes =
    subst (MayMake old) (sym takes) (inr (inr (
      l,
      record {
        tables = h.tables;
        tag = h.tag;
        header = h.header;
        callers = h.callers;
        counted = h.counted;
        idle = h.idle;
        resting = (h.resting.0, refl);
        nothing = h.nothing;
      },
      ap (λ (ls : List Looking). ls ++ l ∷ []) h.resting.1,
    )))
looker_waits old mid new l (inr again) takes = inl (takes ∙ sym again)
