-- What a text says, once it is read: our own.
use Rattle.std.specs.Prelude.{◌≤◌, ◌<◌, ◌^◌, List, Option, length}
use Rattle.list_words.specs.Lists.{Each}
use Rattle.flat_list.specs.declared.header.Header.{Header}
use Rattle.flat_list.specs.declared.command.Command.{Command}
use Rattle.flat_list.specs.declared.script.CapturePlace.{CapturePlace}

-- the header's values, the commands of each section, and where a capture begins, if there is one
pub record Script : Type 0 where
  pub header : Header
  pub sections : List (List Command)
  pub capture : Option CapturePlace

-- sections have numbers to 64, and fewer commands than a section can name labels
pub record IsSmall (script : Script) : Type 0 where
  pub sections : length script.sections ≤ 64
  pub commands : Each (λ (commands : List Command). length commands < 2 ^ 24) script.sections
