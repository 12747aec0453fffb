-- Words that clap refuses: worked examples of our own, by clap's statement of faults.
use Rattle.std.specs.Prelude.{List, ◌∷◌, codes}
use Rattle.clap.specs.Words.{Text, fault_of}
use Rattle.clap.specs.declared.error.kind.ErrorKind.{ErrorKind}
use Rattle.inet_tool.specs.Words.{inet_app}

-- what clap finds at fault in the words that follow the program's name
abbrev pub faults : List Text → List ErrorKind
faults words = fault_of inet_app (codes "inet" ∷ words)
