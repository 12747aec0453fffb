-- The plans of all commands are carried out as the list's steps.
use Rattle.std.proofs.Common.{◌≡◌, ℕ, ◌+◌, ◌^◌, ◌<◌, ◌≤◌, List, length, Option, None, Some}
use Rattle.flat_list.specs.declared.command.Command.TheVariants as commands
use Rattle.flat_list.specs.Flat.{Flat}
use Rattle.flat_list.specs.Outcome as outcome
use Rattle.flat_list.specs.Sound.{StaysSound}
use Rattle.flat_list.specs.Step.{step}
use Rattle.table_model.specs.Tables.{Tables, Ended, run}
use Rattle.table_model.specs.Own.{Own, Mine, open_socket}
use Rattle.table_model.specs.Commands.{Replied, plan, close_command, drop_command}
use Rattle.table_model.specs.Means.{Means, PlansRefine, PlansEnd}
use Rattle.table_model.proofs.parts.OpenSocket.{OpenThere, open_both, open_there}
use Rattle.table_model.proofs.commands.Carried.{Carried}
use Rattle.table_model.proofs.commands.FirstPlans.{Ends, ends_so, AllCarried, plans_refine, bind_carried, bind_ends, at_carried, at_ends, socket_carried, socket_ends, dump_carried, dump_ends}
use Rattle.table_model.proofs.commands.ReapAll.{reap_mine}
use Rattle.table_model.proofs.commands.ConnectPlans.{connect_carried, connect_ends}
use Rattle.table_model.proofs.commands.HandshakePlans.{accept_carried, accept_ends, syn_carried, syn_ends, ack_carried, ack_ends}
use Rattle.table_model.proofs.commands.Drop.{drop_both, drop_open, drop_none}
use Rattle.table_model.proofs.commands.Close.{close_both, close_open, close_none}

module _ (n : ℕ) (own : Own) (t : Tables) (flat : Flat) (h : Means n own t flat) (near : n ≤ 255) where
  -- `reap` beside the list's
  pub reap_carried : Carried n t (plan flat.header own commands.Reap) (step flat n commands.Reap)
  unfolding plan step
  reap_carried = reap_mine n own t flat h

  -- `drop` beside the list's
  pub drop_carried : (label : List ℕ) → length own.labels + 1 < 2 ^ 56 → Carried n t (plan flat.header own (commands.Drop label)) (step flat n (commands.Drop label))
  unfolding plan step
  drop_carried label few = drop_both n own t flat h near (open_socket own label) (outcome.open_socket flat n label) (open_both n own t flat h.own_is h.sound.names label few)

  drop_ends_by : (o : Option Mine) → OpenThere n t flat o → (ended : Ended Replied) × (run t (drop_command own o) ≡ Some ended)
  drop_ends_by None there = let c = drop_none n own t flat h near in (c.ended, c.runs)
  drop_ends_by (Some m) there = let c = drop_open n own t flat h near m there.0 there.1 in (c.ended, c.runs)

  -- it comes to an end, however many labels there are
  pub drop_ends : (label : List ℕ) → Ends t own flat (commands.Drop label)
  unfolding plan
  drop_ends label = drop_ends_by (open_socket own label) (open_there n own t flat h.own_is h.sound.names label)

  -- `close` beside the list's
  pub close_carried : (label : List ℕ) → length own.labels + 1 < 2 ^ 56 → Carried n t (plan flat.header own (commands.Close label)) (step flat n (commands.Close label))
  unfolding plan step
  close_carried label few = close_both n own t flat h near (open_socket own label) (outcome.open_socket flat n label) (open_both n own t flat h.own_is h.sound.names label few)

  close_ends_by : (o : Option Mine) → OpenThere n t flat o → (ended : Ended Replied) × (run t (close_command flat.header own o) ≡ Some ended)
  close_ends_by None there = let c = close_none n own t flat h near in (c.ended, c.runs)
  close_ends_by (Some m) there = let c = close_open n own t flat h near m there.0 there.1 in (c.ended, c.runs)

  -- it comes to an end, however many labels there are
  pub close_ends : (label : List ℕ) → Ends t own flat (commands.Close label)
  unfolding plan
  close_ends label = close_ends_by (open_socket own label) (open_there n own t flat h.own_is h.sound.names label)

-- what is asked of `listen`
abbrev pub ListenCarried : Type 0
ListenCarried =
    (n : ℕ) (own : Own) (t : Tables) (flat : Flat) → Means n own t flat → n ≤ 255 → (label : List ℕ) → length own.labels + 1 < 2 ^ 56
    → Carried n t (plan flat.header own (commands.Listen label)) (step flat n (commands.Listen label))

abbrev pub ListenEnds : Type 0
ListenEnds = (n : ℕ) (own : Own) (t : Tables) (flat : Flat) → Means n own t flat → n ≤ 255 → (label : List ℕ) → Ends t own flat (commands.Listen label)

-- each command is carried out
pub all_carried : ListenCarried → AllCarried
all_carried listens n own t flat (commands.Socket label options) near few looks h = socket_carried n own t flat h label options few
all_carried listens n own t flat (commands.Bind label end) near few looks h = bind_carried n own t flat h label end few
all_carried listens n own t flat (commands.Listen label) near few looks h = listens n own t flat h near label few
all_carried listens n own t flat (commands.Connect label from to) near few looks h = connect_carried n own t flat h label from to few
all_carried listens n own t flat (commands.Accept listener label from at) near few looks h = accept_carried n own t flat h listener label from at few
all_carried listens n own t flat (commands.Syn listener label from at) near few looks h = syn_carried n own t flat h listener label from at few
all_carried listens n own t flat (commands.Ack request label) near few looks h = ack_carried n own t flat h request label few
all_carried listens n own t flat (commands.Close label) near few looks h = close_carried n own t flat h near label few
all_carried listens n own t flat (commands.Drop label) near few looks h = drop_carried n own t flat h near label few
all_carried listens n own t flat (commands.At moment) near few looks h = at_carried n own t flat h moment
all_carried listens n own t flat commands.Reap near few looks h = reap_carried n own t flat h near
all_carried listens n own t flat (commands.Look query) near few looks h = absurd (cc)
all_carried listens n own t flat (commands.Packets count) near few looks h = absurd (cc)
all_carried listens n own t flat commands.Dump near few looks h = dump_carried n own t flat h

-- each refines the list's
pub all_refine : ListenCarried → StaysSound → PlansRefine
all_refine listens stays = plans_refine stays (all_carried listens)

-- and each comes to an end
pub all_end : ListenEnds → PlansEnd
all_end listens n own t flat (commands.Socket label options) near looks h = socket_ends n own t flat h label options
all_end listens n own t flat (commands.Bind label end) near looks h = bind_ends n own t flat h label end
all_end listens n own t flat (commands.Listen label) near looks h = listens n own t flat h near label
all_end listens n own t flat (commands.Connect label from to) near looks h = connect_ends n own t flat h label from to
all_end listens n own t flat (commands.Accept listener label from at) near looks h = accept_ends n own t flat h listener label from at
all_end listens n own t flat (commands.Syn listener label from at) near looks h = syn_ends n own t flat h listener label from at
all_end listens n own t flat (commands.Ack request label) near looks h = ack_ends n own t flat h request label
all_end listens n own t flat (commands.Close label) near looks h = close_ends n own t flat h near label
all_end listens n own t flat (commands.Drop label) near looks h = drop_ends n own t flat h near label
all_end listens n own t flat (commands.At moment) near looks h = at_ends n own t flat h moment
all_end listens n own t flat commands.Reap near looks h = ends_so n own t flat commands.Reap (step flat n commands.Reap) (reap_carried n own t flat h near)
all_end listens n own t flat (commands.Look query) near looks h = absurd (cc)
all_end listens n own t flat (commands.Packets count) near looks h = absurd (cc)
all_end listens n own t flat commands.Dump near looks h = dump_ends n own t flat h
