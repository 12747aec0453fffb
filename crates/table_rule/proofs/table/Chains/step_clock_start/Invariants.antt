use Rattle.table_rule.proofs.table.Chains.step_clock_start.Given as goal

abbrev pub ghosts-clock_start_as : goal.ghosts-clock_start_as
ghosts-clock_start_as a = record { bucket = a.bucket; key = a.key; least = a.least }
