-- What a command leaves of the header and of the sections: our own laws.
use Rattle.std.specs.Prelude.{◌≡◌, ◌≢◌, ℕ, true, false, List, [], ◌∷◌, ◌++◌, ◌⊎◌, find}
use Rattle.rand_pcg.specs.Pcg.{pcg32}
use Rattle.flat_list.specs.declared.command.Command.{Command}
use Rattle.flat_list.specs.declared.command.Command.TheVariants as commands
use Rattle.flat_list.specs.Flat.{Flat}
use Rattle.flat_list.specs.Sections.{Section, section_of, has_number}
use Rattle.flat_list.specs.Sound.{is_refusal}
use Rattle.flat_list.specs.Step.{step}

-- the label that a command gives, if it gives one
abbrev pub label_by : Command → List (List ℕ)
label_by (commands.Socket label options) = label ∷ []
label_by (commands.Accept listener label from at) = label ∷ []
label_by (commands.Syn listener label from at) = label ∷ []
label_by (commands.Ack request label) = label ∷ []
label_by _ = []

-- the moment that a command sets, or else that which was
abbrev pub moment_by : Command → ℕ → ℕ
moment_by (commands.At moment) old = moment
moment_by _ old = old

-- a section has given that label besides, if there is one, and its generator has gone on by one word at most
pub record GoesOn (label : List (List ℕ)) (old new : Section) : Type 0 where
  pub labels : new.labels ≡ old.labels ++ label
  pub words : (new.generator ≡ old.generator) ⊎ (new.generator ≡ (pcg32 old.generator).1)

-- the header and each section but that of number n are as they were
pub record LeavesOthers (n : ℕ) (old new : Flat) : Type 0 where
  pub header : new.header ≡ old.header
  pub others : (m : ℕ) → m ≢ n → find (has_number m) new.sections ≡ find (has_number m) old.sections

-- the section of that number, as it stands in a list
abbrev pub own : ℕ → Flat → Section
own n flat = section_of flat.header n flat.sections

-- a command leaves the header and all sections but its own, which gives the label that the command gives
abbrev pub CommandsLeave : Type 0
CommandsLeave =
    (flat : Flat) (n : ℕ) (command : Command)
    → let new : Flat = (step flat n command).flat in
    LeavesOthers n flat new × GoesOn (label_by command) (own n flat) (own n new)

-- a refused command leaves its section's moment, too
abbrev pub RefusalsLeave : Type 0
RefusalsLeave =
    (flat : Flat) (n : ℕ) (command : Command) → is_refusal (step flat n command).reply ≡ true
    → (own n (step flat n command).flat).moment ≡ (own n flat).moment

-- once a command is done its section is at the moment that the command sets, or where it was
abbrev pub MomentsAreSet : Type 0
MomentsAreSet =
    (flat : Flat) (n : ℕ) (command : Command) → is_refusal (step flat n command).reply ≡ false
    → (own n (step flat n command).flat).moment ≡ moment_by command (own n flat).moment
