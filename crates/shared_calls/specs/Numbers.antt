-- By which numbers the sockets of a caller go: our own.
use Rattle.std.specs.Prelude.{◌≡◌, ℕ, ◌+◌, ◌*◌, ◌<◌, ◌≤◌, ◌^◌, length}
use Rattle.list_words.specs.Lists.{Each}
use Rattle.flat_calls.specs.Numbers.{label_of}
use Rattle.flat_list.specs.declared.command.Command.{Command}
use Rattle.label_index.specs.Numbers.{labels_to}
use Rattle.section_machine.specs.Sections.{given_by}
use Rattle.table_model.specs.Own.{Own, open_socket, open_named}

-- a section's labels are its numbers
abbrev pub IsNumbered : Own → Type 0
IsNumbered own = own.labels ≡ labels_to (length own.labels)

-- the command makes no socket, or one of the next number
abbrev pub IsNext : ℕ → Command → Type 0
IsNext next command = Each (λ label. label ≡ label_of next) (given_by command)

-- what a number names is the socket of the name that has it in its lower 56 bits, and the caller's number above them
abbrev pub NumbersAreNames : Type 0
NumbersAreNames =
    (own : Own) (k : ℕ) → IsNumbered own → length own.labels < 2 ^ 56 → 1 ≤ k → k ≤ length own.labels
    → open_socket own (label_of k) ≡ open_named own (own.number * 2 ^ 56 + k)
