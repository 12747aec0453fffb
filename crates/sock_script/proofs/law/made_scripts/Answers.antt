use Rattle.std.proofs.Common.{refl}
use Rattle.std.specs.Fmt.{digits}
use Rattle.sock_script.specs.Make.{next_words}
use Rattle.sock_script.proofs.MadeTexts.{texts_are_scripts}
use Rattle.sock_script.proofs.law.made_scripts.Goals as goal

pub returns-clause-scripts : goal.returns-clause-scripts
returns-clause-scripts c = texts_are_scripts

pub returns-clause-row : goal.returns-clause-row
unfolding digits next_words
returns-clause-row c = refl
