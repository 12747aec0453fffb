-- The text of each form is read line by line.
use Rattle.std.proofs.Common.{ℕ, zero, suc, List, [], ◌∷◌, Some, refl, arith, codes, true}
use Rattle.std.specs.Fmt.{digits}
use Rattle.std.specs.List.Sorted.{IsStrictlyIncreasing}
use Rattle.flat_list.specs.declared.header.Range.{Range}
use Rattle.flat_list.specs.declared.command.Command.{Command}
use Rattle.flat_list.specs.declared.command.Command.TheVariants as commands
use Rattle.flat_list.specs.Ports.{none_reserved}
use Rattle.sock_script.specs.declared.line.Line.TheVariants as lines
use Rattle.sock_script.specs.declared.parse.Mode.TheVariants as modes
use Rattle.sock_script.specs.Forms.{reserved_ports, ReservedFits}
use Rattle.sock_script.specs.Words.{words_of, lines_of}
use Rattle.sock_script.proofs.Printed.{are_lines}
use Rattle.sock_script.specs.Reading.{Draft, nothing_yet}
use Rattle.rule_laws.specs.TextRows.{IsEachForm, every_form, every_value, largest, two_reserved, no_options, all_options}

abbrev widest : Range
widest = record { low = 2; high = 65535; reserved = none_reserved }

ascends : IsStrictlyIncreasing (reserved_ports two_reserved)
ascends zero h = omega arith
ascends (suc k) h = absurd (omega (arith, h))

reserved_fits : ReservedFits two_reserved
reserved_fits = record {
  count = (omega arith, omega arith);
  ports = ((omega arith, omega arith), ((omega arith, omega arith), tt));
  ascending = ascends;
  room = refl;
  rest = refl;
}

abbrev first : Command
first = commands.Socket (codes "abcdefghijklm-_9") all_options

abbrev second : Command
second = commands.Socket (codes "Z") no_options

abbrev bound : Command
bound = commands.Bind (codes "Z") (record { addr = 4294967295; port = 65535 })

abbrev listening : Command
listening = commands.Listen (codes "Z")

abbrev connecting : Command
connecting = commands.Connect (codes "Z") (Some 0x0A000001) (record { addr = 0x0A000002; port = 0 })

abbrev accepting : Command
accepting = commands.Accept (codes "Z") (codes "y") (record { addr = 0; port = 1 }) (record { addr = 0x0A000001; port = 80 })

abbrev requesting : Command
requesting = commands.Syn (codes "Z") (codes "x") (record { addr = 4294967295; port = 65535 }) (record { addr = 0x0A000001; port = 80 })

abbrev acknowledging : Command
acknowledging = commands.Ack (codes "x") (codes "w")

abbrev closing : Command
closing = commands.Close (codes "y")

abbrev dropping : Command
dropping = commands.Drop (codes "Z")

abbrev latest : Command
latest = commands.At 4294967295

abbrev reaping : Command
reaping = commands.Reap

abbrev looking : Command
looking = commands.Look (record { from = (record { addr = 0x0A000002; port = 5 }); to = (record { addr = 0x0A000001; port = 80 }); dev = Some 1; net = Some 0 })

abbrev taking : Command
taking = commands.Packets 1000000

abbrev listing : Command
listing = commands.Dump

-- what the header lines make, one after the other
abbrev shape_said : Draft
shape_said = record nothing_yet { table = Some largest; bytes = 50 }

abbrev range_said : Draft
range_said = record shape_said { range = Some widest; bytes = 64 }

abbrev reserved_said : Draft
reserved_said = record range_said { reserved = Some two_reserved; bytes = 81 }

abbrev seed_said : Draft
seed_said = record reserved_said { seed = Some 4294967295; bytes = 97 }

abbrev offset_said : Draft
offset_said = record seed_said { offset = Some 65535; bytes = 110 }

abbrev reuse_said : Draft
reuse_said = record offset_said { twreuse = Some true; bytes = 120 }

abbrev passed : Draft
passed = record reuse_said { bytes = 132 }

-- and with so many bytes these sections
abbrev made : List (List Command) → ℕ → Draft
made sections bytes = record passed { sections = sections; bytes = bytes }

abbrev whole : Draft
whole = record (made ((first ∷ second ∷ bound ∷ listening ∷ connecting ∷ accepting ∷ requesting ∷ acknowledging ∷ closing ∷ dropping ∷ []) ∷ (second ∷ latest ∷ reaping ∷ looking ∷ taking ∷ listing ∷ []) ∷ []) 546) { capture = Some (record { dev = 65535; net = 15; first = 546 }) }

pub each_form : IsEachForm
unfolding digits words_of lines_of
each_form = are_lines modes.Run (lines_of every_form) every_value (
  whole,
  (
    shape_said,
    (lines.Table largest, (refl, record { slots = (omega arith, omega arith); bind = ((8, refl), omega arith); hash = ((16, refl), omega arith); listen = ((12, refl), omega arith) }), ((refl, refl), refl)),
    (
      range_said,
      (lines.Range widest, (refl, record { low = omega arith; order = omega arith; high = omega arith; even = refl; reserved = refl }), ((refl, refl), refl)),
      (
        reserved_said,
        (lines.Reserved two_reserved, (refl, reserved_fits), ((refl, refl), refl)),
        (
          seed_said,
          (lines.Seed 4294967295, (refl, omega arith), ((refl, refl), refl)),
          (
            offset_said,
            (lines.Offset 65535, (refl, omega arith), ((refl, refl), refl)),
            (
              reuse_said,
              (lines.TimeWaitReuse true, refl, ((refl, refl), refl)),
              (
                passed,
                (lines.PassedOver, refl, refl),
                (
                  (made (([]) ∷ []) 141),
                  (lines.Section 1, (refl, omega arith, omega arith), (refl, refl)),
                  (
                    (made ((first ∷ []) ∷ []) 224),
                    (lines.Command first, (refl, (refl, omega arith, omega arith, (omega arith, omega arith))), (refl, refl)),
                    (
                      (made ((first ∷ second ∷ []) ∷ []) 233),
                      (lines.Command second, (refl, (refl, tt, tt, tt)), (refl, refl)),
                      (
                        (made ((first ∷ second ∷ bound ∷ []) ∷ []) 262),
                        (lines.Command bound, (refl, (refl, (omega arith, omega arith))), (refl, refl)),
                        (
                          (made ((first ∷ second ∷ bound ∷ listening ∷ []) ∷ []) 271),
                          (lines.Command listening, (refl, refl), (refl, refl)),
                          (
                            (made ((first ∷ second ∷ bound ∷ listening ∷ connecting ∷ []) ∷ []) 309),
                            (lines.Command connecting, (refl, (refl, omega arith, (omega arith, omega arith))), (refl, refl)),
                            (
                              (made ((first ∷ second ∷ bound ∷ listening ∷ connecting ∷ accepting ∷ []) ∷ []) 350),
                              (lines.Command accepting, (refl, (refl, refl, (omega arith, omega arith), (omega arith, omega arith))), (refl, refl)),
                              (
                                (made ((first ∷ second ∷ bound ∷ listening ∷ connecting ∷ accepting ∷ requesting ∷ []) ∷ []) 400),
                                (lines.Command requesting, (refl, (refl, refl, (omega arith, omega arith), (omega arith, omega arith))), (refl, refl)),
                                (
                                  (made ((first ∷ second ∷ bound ∷ listening ∷ connecting ∷ accepting ∷ requesting ∷ acknowledging ∷ []) ∷ []) 408),
                                  (lines.Command acknowledging, (refl, (refl, refl)), (refl, refl)),
                                  (
                                    (made ((first ∷ second ∷ bound ∷ listening ∷ connecting ∷ accepting ∷ requesting ∷ acknowledging ∷ closing ∷ []) ∷ []) 416),
                                    (lines.Command closing, (refl, refl), (refl, refl)),
                                    (
                                      (made ((first ∷ second ∷ bound ∷ listening ∷ connecting ∷ accepting ∷ requesting ∷ acknowledging ∷ closing ∷ dropping ∷ []) ∷ []) 423),
                                      (lines.Command dropping, (refl, refl), (refl, refl)),
                                      (
                                        (made ((first ∷ second ∷ bound ∷ listening ∷ connecting ∷ accepting ∷ requesting ∷ acknowledging ∷ closing ∷ dropping ∷ []) ∷ ([]) ∷ []) 432),
                                        (lines.Section 2, (refl, omega arith, omega arith), (refl, refl)),
                                        (
                                          (made ((first ∷ second ∷ bound ∷ listening ∷ connecting ∷ accepting ∷ requesting ∷ acknowledging ∷ closing ∷ dropping ∷ []) ∷ (second ∷ []) ∷ []) 441),
                                          (lines.Command second, (refl, (refl, tt, tt, tt)), (refl, refl)),
                                          (
                                            (made ((first ∷ second ∷ bound ∷ listening ∷ connecting ∷ accepting ∷ requesting ∷ acknowledging ∷ closing ∷ dropping ∷ []) ∷ (second ∷ latest ∷ []) ∷ []) 455),
                                            (lines.Command latest, (refl, omega arith), (refl, refl)),
                                            (
                                              (made ((first ∷ second ∷ bound ∷ listening ∷ connecting ∷ accepting ∷ requesting ∷ acknowledging ∷ closing ∷ dropping ∷ []) ∷ (second ∷ latest ∷ reaping ∷ []) ∷ []) 460),
                                              (lines.Command reaping, (refl, tt), (refl, refl)),
                                              (
                                                (made ((first ∷ second ∷ bound ∷ listening ∷ connecting ∷ accepting ∷ requesting ∷ acknowledging ∷ closing ∷ dropping ∷ []) ∷ (second ∷ latest ∷ reaping ∷ looking ∷ []) ∷ []) 500),
                                                (lines.Command looking, (refl, ((omega arith, omega arith), (omega arith, omega arith), (omega arith, omega arith), omega arith)), (refl, refl)),
                                                (
                                                  (made ((first ∷ second ∷ bound ∷ listening ∷ connecting ∷ accepting ∷ requesting ∷ acknowledging ∷ closing ∷ dropping ∷ []) ∷ (second ∷ latest ∷ reaping ∷ looking ∷ taking ∷ []) ∷ []) 516),
                                                  (lines.Command taking, (refl, omega arith), (refl, refl)),
                                                  (
                                                    (made ((first ∷ second ∷ bound ∷ listening ∷ connecting ∷ accepting ∷ requesting ∷ acknowledging ∷ closing ∷ dropping ∷ []) ∷ (second ∷ latest ∷ reaping ∷ looking ∷ taking ∷ listing ∷ []) ∷ []) 521),
                                                    (lines.Command listing, (refl, tt), (refl, refl)),
                                                    (
                                                      whole,
                                                      (lines.Capture (Some 65535) (Some 15), (refl, (omega arith, omega arith), omega arith), refl),
                                                      (whole, refl, (whole, refl, refl)),
                                                    ),
                                                  ),
                                                ),
                                              ),
                                            ),
                                          ),
                                        ),
                                      ),
                                    ),
                                  ),
                                ),
                              ),
                            ),
                          ),
                        ),
                      ),
                    ),
                  ),
                ),
              ),
            ),
          ),
        ),
      ),
    ),
  ),
  refl,
)
