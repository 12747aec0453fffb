use Rattle.std.proofs.Common.{◌≡◌, suc, List, ◌∷◌, All, IfOk, Result, Ok, arith, subst}
use Rattle.tickets.specs.Passes.{IsPassOf}
use Rattle.tickets.proofs.tests.join_all.Goals as goal

-- the first of the results is of a pass that has the fact
first_ok : {A B : Type 0} (P : A → Type 0) (rs rest : List (Result A B)) (r : Result A B) (a : A) → All (λ q. IfOk q P) rs → rs ≡ r ∷ rest → r ≡ Ok a → P a
first_ok {A} {B} P rs rest r a h e f =
    let all : All (λ (q : Result A B). IfOk q P) (r ∷ rest) = subst (λ (l : List (Result A B)). All (λ (q : Result A B). IfOk q P) l) e h in
    subst (λ (q : Result A B). IfOk q P) f (all 0 r (omega arith))

-- and each other has it too
others_ok : {A B : Type 0} (P : A → Type 0) (rs rest : List (Result A B)) (r : Result A B) → All (λ q. IfOk q P) rs → rs ≡ r ∷ rest → All (λ q. IfOk q P) rest
others_ok {A} {B} P rs rest r h e =
    let all : All (λ (q : Result A B). IfOk q P) (r ∷ rest) = subst (λ (l : List (Result A B)). All (λ (q : Result A B). IfOk q P) l) e h in
    λ k d below. all (suc k) d (omega arith)

pub join-requires : goal.join-requires
join-requires c = record { table = (c.loop-told.invariant.table, first_ok (λ t. IsPassOf c.args.tickets.now t.0) _ _ _ _ c.loop-told.invariant.others c.in-Some.ensures.steps.0 c.in_ok-pass.was) }

pub loop-told-preserved : goal.loop-told-preserved
loop-told-preserved c = record {
  table = c.join.ensures.table;
  others = others_ok (λ t. IsPassOf c.args.tickets.now t.0) _ _ _ c.loop-told.invariant.others c.in-Some.ensures.steps.0;
}
