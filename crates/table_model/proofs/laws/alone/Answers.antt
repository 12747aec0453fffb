use Rattle.table_model.proofs.commands.Alone.{goes_alone, went_alone}
use Rattle.table_model.proofs.laws.alone.Goals as goal

pub returns : goal.returns
returns c = record {
  operation = λ count given chains new plan told rest some lawful are leads. goes_alone count some given chains new plan told rest lawful are leads;
  command = λ count given chains new plan told rest some lawful are leads. goes_alone count some given chains new plan told rest lawful are leads;
  went = λ count chains plan rest v w some went alone knows. went_alone count chains plan rest v w some went alone knows;
}
