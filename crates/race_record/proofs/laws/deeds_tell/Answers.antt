use Rattle.race_record.proofs.Leads.{goes_leads, tells_entries}
use Rattle.race_record.proofs.laws.deeds_tell.Goals as goal

pub returns-clause-leads : goal.returns-clause-leads
returns-clause-leads c buckets = goes_leads buckets

pub returns-clause-entries : goal.returns-clause-entries
returns-clause-entries c = tells_entries
