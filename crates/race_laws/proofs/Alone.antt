-- A step at tables where nobody else is.
use Rattle.std.proofs.Common.{◌≡◌, ℕ, ◌+◌, ◌<◌, ◌≤◌, ◌^◌, false, length, ap, arith}
use Rattle.flat_list.specs.declared.command.Command.{Command}
use Rattle.flat_list.specs.Flat.{Flat}
use Rattle.flat_list.specs.Sections.{labels_of}
use Rattle.flat_list.specs.Step.{step}
use Rattle.flat_list.proofs.LabelsGrow.{gives_at_one, labels_stay}
use Rattle.table_model.specs.Tables.{Tables}
use Rattle.table_model.specs.Own.{Own}
use Rattle.table_model.specs.Commands.{answers, plan}
use Rattle.table_model.specs.Means.{Means, Refines, is_lookup}
use Rattle.table_model.proofs.commands.Laws.{plans_refine}
use Rattle.table_model.proofs.parts.Sections.{same_labels}
use Rattle.race_record.specs.Goes.{Goes}
use Rattle.race_record.specs.Record.{Step}
use Rattle.race_laws.specs.Plays.{Plays, StepRefines}
use Rattle.race_laws.proofs.Played.{played_runs}

pub step_refines : (n : ℕ) (own next : Own) (t after : Tables) (flat : Flat) (command : Command) (s : Step)
    → n ≤ 64 → length own.labels + 1 < 2 ^ 56 → is_lookup command ≡ false → Means n own t flat
    → Goes (plan flat.header own command) s.deeds (answers next s.reply) → Plays t s.deeds after
    → StepRefines n flat command s next after
step_refines n own next t new flat command s few room not_look means goes plays =
    let r : Refines n (record { tables = new; result = answers next s.reply }) flat command =
    plans_refine n own t flat command (record { tables = new; result = answers next s.reply }) (omega (arith, few)) room not_look means
    (played_runs (plan flat.header own command) t new s.deeds (answers next s.reply) goes plays) in
    record { reply = r.reply; means = r.means }

-- one more label at most
pub labels_grow : (n : ℕ) (own next : Own) (t new : Tables) (flat : Flat) (command : Command) → Means n own t flat → Means n next new (step flat n command).flat
    → length next.labels ≤ length own.labels + 1
labels_grow n own next t new flat command h k =
    let a : labels_of n flat.sections ≡ own.labels = same_labels n own t flat h.own_is in
    let b : labels_of n (step flat n command).flat.sections ≡ next.labels = same_labels n next new (step flat n command).flat k.own_is in
    omega (arith, ap length a, ap length b, (labels_stay n flat.sections (step flat n command).flat.sections (gives_at_one flat n command)).labels n)
