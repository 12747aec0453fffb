use Rattle.table_model.proofs.laws.beginnings.Goals as goal
use Rattle.table_model.proofs.parts.Start.{new_mean_empty, starts_meant}

pub returns-clause-tables : goal.returns-clause-tables
returns-clause-tables c = new_mean_empty

pub returns-clause-section : goal.returns-clause-section
returns-clause-section c = starts_meant
