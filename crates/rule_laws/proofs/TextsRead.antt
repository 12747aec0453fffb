-- Two short texts are read, and what is written for one of them.
use Rattle.std.proofs.Common.{ℕ, List, [], ◌∷◌, refl, arith, codes, inl}
use Rattle.std.specs.Fmt.{digits}
use Rattle.sock_card.specs.Conflict.{overlap, refuses}
use Rattle.flat_list.specs.Step.{step}
use Rattle.flat_list.specs.declared.command.Command.{Command}
use Rattle.flat_list.specs.declared.command.Command.TheVariants as commands
use Rattle.capture_reader.specs.Grammar.{nothing}
use Rattle.sock_script.specs.declared.line.Line.TheVariants as lines
use Rattle.sock_script.specs.declared.parse.Mode.TheVariants as modes
use Rattle.sock_script.specs.Words.{words_of, lines_of}
use Rattle.sock_script.proofs.Printed.{are_lines}
use Rattle.sock_script.specs.Reading.{Draft, nothing_yet, script_of}
use Rattle.rule_laws.specs.TextRows.{IsUnsaid, IsWritten, IsDumped, two_sockets, one_dumped, no_options}

pub unsaid : IsUnsaid
unfolding words_of lines_of
unsaid =
    are_lines modes.Run (lines_of []) (script_of (record nothing_yet { bytes = 1 }))
    (record nothing_yet { bytes = 1 }, (record nothing_yet { bytes = 1 }, (lines.PassedOver, tt, refl), refl), refl)

abbrev made : List (List Command) → ℕ → Draft
made sections bytes = record nothing_yet { sections = sections; bytes = bytes }

abbrev socket_a : Command
socket_a = commands.Socket (codes "a") no_options

abbrev socket_b : Command
socket_b = commands.Socket (codes "b") no_options

abbrev bind_a : Command
bind_a = commands.Bind (codes "a") (record { addr = 0; port = 80 })

abbrev bind_b : Command
bind_b = commands.Bind (codes "b") (record { addr = 0x0A000001; port = 80 })

abbrev whole : Draft
whole = made ((socket_a ∷ socket_b ∷ bind_a ∷ bind_b ∷ []) ∷ []) 65

pub written : IsWritten
unfolding digits words_of lines_of step overlap refuses
written = (
  script_of whole,
  nothing,
  record {
    script_is = are_lines modes.Run (lines_of two_sockets) (script_of whole) (
      whole,
      (
        made ([] ∷ []) 9,
        (lines.Section 1, (refl, omega arith, omega arith), (refl, refl)),
        (
          made ((socket_a ∷ []) ∷ []) 18,
          (lines.Command socket_a, (refl, (refl, tt, tt, tt)), (refl, refl)),
          (
            made ((socket_a ∷ socket_b ∷ []) ∷ []) 27,
            (lines.Command socket_b, (refl, (refl, tt, tt, tt)), (refl, refl)),
            (
              made ((socket_a ∷ socket_b ∷ bind_a ∷ []) ∷ []) 45,
              (lines.Command bind_a, (refl, (refl, (omega arith, omega arith))), (refl, refl)),
              (
                made ((socket_a ∷ socket_b ∷ bind_a ∷ bind_b ∷ []) ∷ []) 64,
                (lines.Command bind_b, (refl, (refl, (omega arith, omega arith))), (refl, refl)),
                (whole, (lines.PassedOver, tt, refl), refl),
              ),
            ),
          ),
        ),
      ),
      refl,
    );
    capture_is = inl (refl, refl);
  },
  refl,
)

abbrev bind_here : Command
bind_here = commands.Bind (codes "a") (record { addr = 0x0A000001; port = 80 })

abbrev listen_a : Command
listen_a = commands.Listen (codes "a")

abbrev all_said : Draft
all_said = made ((socket_a ∷ bind_here ∷ listen_a ∷ commands.Dump ∷ []) ∷ []) 52

pub dumped : IsDumped
unfolding digits words_of lines_of step overlap refuses
dumped = (
  script_of all_said,
  nothing,
  record {
    script_is = are_lines modes.Run (lines_of one_dumped) (script_of all_said) (
      all_said,
      (
        made ([] ∷ []) 9,
        (lines.Section 1, (refl, omega arith, omega arith), (refl, refl)),
        (
          made ((socket_a ∷ []) ∷ []) 18,
          (lines.Command socket_a, (refl, (refl, tt, tt, tt)), (refl, refl)),
          (
            made ((socket_a ∷ bind_here ∷ []) ∷ []) 37,
            (lines.Command bind_here, (refl, (refl, (omega arith, omega arith))), (refl, refl)),
            (
              made ((socket_a ∷ bind_here ∷ listen_a ∷ []) ∷ []) 46,
              (lines.Command listen_a, (refl, refl), (refl, refl)),
              (
                made ((socket_a ∷ bind_here ∷ listen_a ∷ commands.Dump ∷ []) ∷ []) 51,
                (lines.Command commands.Dump, (refl, tt), (refl, refl)),
                (all_said, (lines.PassedOver, tt, refl), refl),
              ),
            ),
          ),
        ),
      ),
      refl,
    );
    capture_is = inl (refl, refl);
  },
  refl,
)
