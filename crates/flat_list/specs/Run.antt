-- Runs of commands: our own.
use Rattle.std.specs.Prelude.{ℕ, Bool, ◌==◌, List, [], ◌∷◌}
use Rattle.flat_list.specs.declared.command.Command.{Command}
use Rattle.flat_list.specs.declared.command.Reply.{Reply}
use Rattle.flat_list.specs.Flat.{Flat}
use Rattle.flat_list.specs.Step.{step}

-- a command, and the number of the section that issues it
pub record Issued : Type 0 where
  pub section : ℕ
  pub command : Command

abbrev pub is_of : ℕ → Issued → Bool
is_of n c = c.section == n

-- the list after these commands
abbrev pub after : Flat → List Issued → Flat
after flat [] = flat
after flat (c ∷ rest) = after (step flat c.section c.command).flat rest

-- the replies to commands of one section
abbrev pub replies_to : Flat → ℕ → List Command → List Reply
replies_to flat n [] = []
replies_to flat n (c ∷ rest) = let next = step flat n c in next.reply ∷ replies_to next.flat n rest
