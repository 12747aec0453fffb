use Rattle.std.proofs.Common.{ℕ, ◌==◌, List, length, ap, ◌∙◌, inl, inr}
use Rattle.capture_reader.proofs.flaw.head_flaw.Goals as goal

pub returns-clause-some : goal.returns-clause-some
returns-clause-some c =
    record {
      some = λ e. let empty = c.is_empty.ensures ∙ ap (λ (xs : List ℕ). length xs == 0) e in let not_empty = c.if-is_empty.false in cc;
      headless = λ h. elim h [ inl k ↦ c.in_default.ensures.none k.0 k.1 | inr k ↦ c.in_default-next_section.ensures.none k.0 k.1 k.2 ];
      flaw_is = c.flaw_of.ensures;
    }
