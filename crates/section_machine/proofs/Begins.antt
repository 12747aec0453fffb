-- A section before its first command.
use Rattle.std.proofs.Common.{sym, subst, arith}
use Rattle.section_machine.specs.Begins.{SectionBegins, SectionComesNext}
use Rattle.section_machine.proofs.Names.{AllMiss}

pub section_comes_next : SectionComesNext
section_comes_next t header number w are ready few tells unspoken =
    record {
      tables = are;
      ready = ready;
      number = few;
      tells = tells;
      stand = tt;
      unspoken = λ name u. unspoken name (omega arith);
    }

pub section_begins : SectionBegins
section_begins t header number w are ready few tells none =
    section_comes_next t header number w are ready few tells (λ name u. subst (AllMiss name) (sym none) tt)
