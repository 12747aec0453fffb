-- What follows from the definition of misfits.
use Rattle.std.specs.Prelude.{ℕ, List}
use Rattle.line_forms.specs.declared.kind.Kind.{Kind}
use Rattle.line_forms.specs.declared.misfit.Misfit.{Misfit}
use Rattle.line_forms.specs.Wants.{Fit, IsMisfit}

-- words that are as they are wanted have no misfit
abbrev pub FitsHaveNone : Type 0
FitsHaveNone =
    (wanted : List Kind) (words : List (List ℕ)) (misfit : Misfit) → IsMisfit wanted words misfit → ¬ (Fit wanted words)
