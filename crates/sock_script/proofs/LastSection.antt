-- The last of some sections, which is still being read.
use Rattle.std.proofs.Common.{◌≡◌, ◌∙◌, List, [], ◌∷◌, ◌++◌, map, Bool, Option, Some, None, Result, Ok, Err, IfNone, IfOk, OnOk, IsTrue, sym, refl, ap, subst, true, false}
use Rattle.std.proofs.lemmas.Bool.{both_ways}
use Rattle.std.specs.Option.{option_to_list}
use Rattle.std.specs.declared.vec.Vec.{Vec}
use Rattle.std.specs.declared.alloc.Global.{Global}
use Rattle.flat_list.specs.declared.command.Command.{Command}
use Rattle.sock_script.specs.declared.parse.Mode.{Mode}
use Rattle.sock_script.specs.Reading.{MayCome, with_command, may_stand}

-- the sections that a draft stands for
abbrev pub made : List (Vec Command Global) → Option (List Command) → List (List Command)
made finished last = map (λ v. v.items) finished ++ option_to_list last

pub none_made : (finished : List (Vec Command Global)) (last : Option (List Command)) → last ≡ None → IfNone last (finished ≡ []) → made finished last ≡ []
none_made finished last e h = rw (e, subst (λ o. IfNone o (finished ≡ [])) e h) refl

pub with_command-last : (c : Command) (ss : List (List Command)) (s : List Command) → with_command c (ss ++ s ∷ []) ≡ ss ++ (s ++ c ∷ []) ∷ []
with_command-last c [] s = refl
with_command-last c (x ∷ []) s = refl
with_command-last c (x ∷ y ∷ ss) s = ap (λ r. x ∷ r) (with_command-last c (y ∷ ss) s)

module _ (mode : Mode) (c : Command) where
  pub MayCome-last : (ss : List (List Command)) (s : List Command) → IsTrue (may_stand mode s c) → MayCome mode (ss ++ s ∷ []) c
  MayCome-last [] s h = h
  MayCome-last (x ∷ []) s h = h
  MayCome-last (x ∷ y ∷ ss) s h = MayCome-last (y ∷ ss) s h

  pub last-may_stand : (ss : List (List Command)) (s : List Command) → MayCome mode (ss ++ s ∷ []) c → IsTrue (may_stand mode s c)
  last-may_stand [] s h = h
  last-may_stand (x ∷ []) s h = h
  last-may_stand (x ∷ y ∷ ss) s h = last-may_stand (y ∷ ss) s h

  -- a command that may not stand may not come
  pub refused : (finished : List (Vec Command Global)) (last : Option (List Command)) (s : List Command) (sections : List (List Command)) → last ≡ Some s → made finished last ≡ sections → may_stand mode s c ≡ false → MayCome mode sections c → ⊥
  refused finished last s sections e is denied h =
      both_ways (may_stand mode s c) denied (last-may_stand (map (λ v. v.items) finished) s (subst (λ ss. MayCome mode ss c) (sym is ∙ ap (made finished) e) h))

  -- a command that may stand comes last
  pub added : (finished : List (Vec Command Global)) (last : Option (List Command)) (s new : List Command) (sections : List (List Command)) → last ≡ Some s → made finished last ≡ sections → may_stand mode s c ≡ true → new ≡ s ++ c ∷ [] → MayCome mode sections c × (made finished (Some new) ≡ with_command c sections)
  added finished last s new sections e is granted more = (
    subst (λ ss. MayCome mode ss c) (sym (ap (made finished) e) ∙ is) (MayCome-last (map (λ v. v.items) finished) s granted),
    ap (λ l. made finished (Some l)) more ∙ sym (with_command-last c (map (λ v. v.items) finished) s) ∙ ap (with_command c) (sym (ap (made finished) e) ∙ is),
  )

-- what holds of each answer where another fact does
pub when_told : {E : Type 0} (r : Result Bool E) (P Q : Bool → Type 0) → (P true → Q true) → (P false → Q false) → IfOk r P → IfOk r Q
when_told (Ok true) P Q f g h = f h
when_told (Ok false) P Q f g h = g h
when_told (Err e) P Q f g h = tt

-- two facts at once
pub both_told : {A E : Type 0} (r : Result A E) (P : Type 0) (Q : A → Type 0) → OnOk r P → IfOk r Q → IfOk r (λ a. P × Q a)
both_told (Ok a) P Q h k = (h, k)
both_told (Err e) P Q h k = tt
