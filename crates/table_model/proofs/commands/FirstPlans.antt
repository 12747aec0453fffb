-- The plans of `socket`, `bind`, `at` and `dump` beside the list's step,
-- and the laws of plans from what each comes to.
use Rattle.std.proofs.Common.{◌≡◌, ℕ, ◌+◌, ◌^◌, ◌<◌, ◌≤◌, false, List, length, Option, None, Some, refl, sym, subst}
use Rattle.flat_list.specs.declared.owned.Options.{Options}
use Rattle.flat_list.specs.declared.command.Command.{Command}
use Rattle.flat_list.specs.declared.command.Command.TheVariants as commands
use Rattle.flat_list.specs.declared.command.End.{End}
use Rattle.flat_list.specs.declared.command.Reply.TheVariants as replies
use Rattle.flat_list.specs.Flat.{Flat}
use Rattle.flat_list.specs.Outcome as outcome
use Rattle.flat_list.specs.Sound.{StaysSound}
use Rattle.flat_list.specs.Step.{step}
use Rattle.table_model.specs.Tables.{Tables, Ended, run}
use Rattle.table_model.specs.Own.{Own, Mine, open_socket}
use Rattle.table_model.specs.Commands.{Replied, plan, answers, bind_command}
use Rattle.table_model.specs.Means.{Means, PlansRefine, is_lookup}
use Rattle.table_model.proofs.parts.OpenSocket.{OpenThere, open_both, open_there}
use Rattle.table_model.proofs.parts.Sections.{same_labels}
use Rattle.table_model.proofs.commands.Carried.{Carried, refines}
use Rattle.table_model.proofs.commands.Bind.{bind_both, bind_open, bind_none}
use Rattle.table_model.proofs.commands.SocketAndAt.{socket_mine, at_mine}

-- a plan that comes to an end on these tables
abbrev pub Ends : Tables → Own → Flat → Command → Type 0
Ends t own flat command = (ended : Ended Replied) × (run t (plan flat.header own command) ≡ Some ended)

-- what is carried out comes to an end
pub ends_so : (n : ℕ) (own : Own) (t : Tables) (flat : Flat) (command : Command) (out : outcome.Outcome) → Carried n t (plan flat.header own command) out → Ends t own flat command
ends_so n own t flat command out c = (c.ended, c.runs)

module _ (n : ℕ) (own : Own) (t : Tables) (flat : Flat) (h : Means n own t flat) where
  -- `bind` beside the list's
  pub bind_carried : (label : List ℕ) (end : End) → length own.labels + 1 < 2 ^ 56 → Carried n t (plan flat.header own (commands.Bind label end)) (step flat n (commands.Bind label end))
  unfolding plan step
  bind_carried label end few = bind_both n own t flat h end (open_socket own label) (outcome.open_socket flat n label) (open_both n own t flat h.own_is h.sound.names label few)

  bind_ends_by : (end : End) (o : Option Mine) → OpenThere n t flat o → (ended : Ended Replied) × (run t (bind_command own o end) ≡ Some ended)
  bind_ends_by end None there = let c = bind_none n own t flat h end in (c.ended, c.runs)
  bind_ends_by end (Some m) there = let c = bind_open n own t flat h end m there.0 there.1 in (c.ended, c.runs)

  -- it comes to an end, however many labels there are
  pub bind_ends : (label : List ℕ) (end : End) → Ends t own flat (commands.Bind label end)
  unfolding plan
  bind_ends label end = bind_ends_by end (open_socket own label) (open_there n own t flat h.own_is h.sound.names label)

  -- `at` beside the list's
  pub at_carried : (moment : ℕ) → Carried n t (plan flat.header own (commands.At moment)) (step flat n (commands.At moment))
  unfolding plan step
  at_carried moment = at_mine n own t flat h moment

  -- it comes to an end
  pub at_ends : (moment : ℕ) → Ends t own flat (commands.At moment)
  at_ends moment = ends_so n own t flat (commands.At moment) (step flat n (commands.At moment)) (at_carried moment)

  -- `socket` beside the list's
  pub socket_carried : (label : List ℕ) (options : Options) → length own.labels + 1 < 2 ^ 56
      → Carried n t (plan flat.header own (commands.Socket label options)) (step flat n (commands.Socket label options))
  unfolding plan step
  socket_carried label options few = socket_mine n own t flat h label options few

  -- it comes to an end, however many labels there are
  pub socket_ends : (label : List ℕ) (options : Options) → Ends t own flat (commands.Socket label options)
  unfolding plan
  socket_ends label options = (_, refl)

  -- `dump` beside the list's
  pub dump_carried : Carried n t (plan flat.header own commands.Dump) (step flat n commands.Dump)
  unfolding plan step
  dump_carried = record { ended = record { tables = t; result = answers own replies.Ok }; runs = refl; reply = refl; means = λ sound. h }

  -- it comes to an end
  pub dump_ends : Ends t own flat commands.Dump
  unfolding plan
  dump_ends = (_, refl)

-- what each command comes to, beside the list
abbrev pub AllCarried : Type 0
AllCarried =
    (n : ℕ) (own : Own) (t : Tables) (flat : Flat) (command : Command) → n ≤ 255 → length own.labels + 1 < 2 ^ 56 → is_lookup command ≡ false
    → Means n own t flat → Carried n t (plan flat.header own command) (step flat n command)

-- all commands refine the list's, where those are carried out so and the list stays sound
pub plans_refine : StaysSound → AllCarried → PlansRefine
plans_refine stays all n own t flat command ended near few looks h runs =
    refines n t (plan flat.header own command) flat command ended (all n own t flat command near few looks h)
    (stays flat n command (subst (λ (l : List (List ℕ)). length l + 1 < 2 ^ 56) (sym (same_labels n own t flat h.own_is)) few) h.sound) runs
