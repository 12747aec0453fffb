use Rattle.table_rule.proofs.table.Chains.step_begin_unhash.Given as goal

abbrev pub ghosts-begin_unhash_as : goal.ghosts-begin_unhash_as
ghosts-begin_unhash_as a = record { slot = a.slot }
