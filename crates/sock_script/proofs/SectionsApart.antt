-- A command gives one label at most, and none in other sections than its own.
use Rattle.std.proofs.Common.{ℕ, ◌+◌, ◌≤◌, ◌∙◌, List, [], ◌∷◌, length, refl}
use Rattle.flat_list.specs.declared.command.Command.{Command}
use Rattle.flat_list.specs.Flat.{Flat}
use Rattle.flat_list.specs.Sections.{labels_of, KeepsOthers}
use Rattle.flat_list.specs.Step.{step}
use Rattle.flat_list.proofs.LabelsGrow.{LabelsStay, labels_stay, gives_at_one}
use Rattle.flat_list.specs.Run.{after}
use Rattle.sock_script.specs.Steps.{issue}

one_command : (flat : Flat) (n : ℕ) (c : Command) → LabelsStay n flat.sections (step flat n c).flat.sections
one_command flat n c = labels_stay n flat.sections (step flat n c).flat.sections (gives_at_one flat n c)

-- so its section has one label more at most
pub grows_one : (flat : Flat) (n : ℕ) (c : Command) → length (labels_of n (step flat n c).flat.sections) ≤ length (labels_of n flat.sections) + 1
grows_one flat n c = (one_command flat n c).labels n

-- and a section's commands leave the others' labels as they were
pub others_stay : (flat : Flat) (n : ℕ) (commands : List Command) → KeepsOthers n flat.sections (after flat (issue n commands)).sections
others_stay flat n [] m apart = refl
others_stay flat n (c ∷ rest) m apart =
    others_stay (step flat n c).flat n rest m apart ∙ (one_command flat n c).others m apart
