use Rattle.std.proofs.Common.{◌≡◌, ℕ, ◌<◌, slice_index_or}
use Rattle.line_forms.specs.declared.verb.Verb.TheVariants.{Table}
use Rattle.line_forms.specs.declared.verb.TheConstants.{VERBS}
use Rattle.line_forms.specs.Kinds.{verb_text}
use Rattle.line_forms.proofs.verb.verb_of.Given as goal

abbrev pub invariant-loop-verb : goal.invariant-loop-verb
invariant-loop-verb l = (k : ℕ) → k < l.verb-index → l.word ≡ verb_text (slice_index_or VERBS k Table) → ⊥
