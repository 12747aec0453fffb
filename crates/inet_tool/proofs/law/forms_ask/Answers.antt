use Rattle.clap.specs.Words.{Row, subcommand_of}
use Rattle.inet_tool.proofs.MakeWords.{row}
use Rattle.std.proofs.Common.{List, [], ◌∷◌, Some, ◌≡◌, ◌∙◌, refl, codes, decimal, arith, ap}
use Rattle.inet_tool.specs.Words as law
use Rattle.clap.proofs.OnLiterals.{clap_on_literals}
use Rattle.inet_tool.proofs.RaceForm.{race_asks}
use Rattle.inet_tool.proofs.Asks.{makes_in_range, races_in_range}
use Rattle.inet_tool.proofs.MakeForm.{both_found, both_pass, make_fault, make_found}
use Rattle.inet_tool.proofs.Numbers.{decimal_is_plain, decimal_passes, digits_value-decimal}
use Rattle.inet_tool.proofs.law.forms_ask.Goals as goal

pub returns-clause-run : goal.returns-clause-run
unfolding clap_on_literals
returns-clause-run c = λ name. (refl, refl)

pub returns-clause-audit : goal.returns-clause-audit
unfolding clap_on_literals
returns-clause-audit c = λ name. (refl, refl)

pub returns-clause-make : goal.returns-clause-make
returns-clause-make c = λ name seed count low high.
    let a = decimal_is_plain seed (omega arith) in
    let b = decimal_is_plain count (omega arith) in
    let found : subcommand_of law.inet_app (name ∷ codes "make" ∷ decimal seed ∷ decimal count ∷ [])
    ≡ Some (codes "make", row (codes "SEED") (decimal seed) ∷ row (codes "COUNT") (decimal count) ∷ []) =
    make_found name (decimal seed) (decimal count) ∙ ap (λ (rows : List Row). Some (codes "make", rows)) (both_found (decimal seed) (decimal count) a b) in (
      make_fault name (decimal seed) (decimal count)
          ∙ both_pass (decimal seed) (decimal count) a b (decimal_passes 0 _ seed (omega arith) (omega arith) (omega arith)) (decimal_passes 0 _ count (omega arith) high (omega arith)),
      rw found refl,
      rw (found, digits_value-decimal seed (omega arith)) refl,
      rw (found, digits_value-decimal count (omega arith)) refl,
    )

pub returns-clause-range : goal.returns-clause-range
returns-clause-range c = makes_in_range

pub returns-clause-race : goal.returns-clause-race
returns-clause-race c = race_asks

pub returns-clause-race_range : goal.returns-clause-race_range
returns-clause-race_range c = races_in_range
