use Rattle.std.proofs.Common.{◌∙◌, inl, inr, sym, subst}
use Rattle.std.proofs.lemmas.Bool.{eqb-true}
use Rattle.sock_script.proofs.FirstWord.{first_byte_tells, TellsOfText}
use Rattle.sock_script.proofs.word.shows_passed_over.Goals as goal

pub returns-in-None : goal.returns-in-None
returns-in-None c t =
    subst (TellsOfText c.args.text.now) (sym c.first_byte.ensures ∙ c.in-None.is) (first_byte_tells c.args.text.now)

pub returns-then-first-eq35 : goal.returns-then-first-eq35
returns-then-first-eq35 c t =
    subst (TellsOfText c.args.text.now) (sym c.first_byte.ensures ∙ c.in-Some.is) (first_byte_tells c.args.text.now) (inl (eqb-true c.in-Some.first 35 t))

pub returns-else-first-eq35 : goal.returns-else-first-eq35
returns-else-first-eq35 c t =
    subst (TellsOfText c.args.text.now) (sym c.first_byte.ensures ∙ c.in-Some.is) (first_byte_tells c.args.text.now) (inr (eqb-true c.in-Some.first 10 t))
