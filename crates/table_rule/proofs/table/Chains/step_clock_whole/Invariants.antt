use Rattle.table_rule.specs.Wholes.{whole_of}
use Rattle.table_rule.proofs.table.Chains.step_clock_whole.Given as goal

abbrev pub ghosts-clock_whole_as : goal.ghosts-clock_whole_as
ghosts-clock_whole_as a = record { whole = whole_of a.packet a.seed a.from a.answer }
