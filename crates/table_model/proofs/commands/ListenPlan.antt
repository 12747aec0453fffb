-- The plan of `listen` beside the list's step.
use Rattle.std.proofs.Common.{◌≡◌, ℕ, ◌+◌, ◌^◌, ◌<◌, ◌≤◌, List, length, Some}
use Rattle.sock_card.specs.declared.owner.State.TheVariants as states
use Rattle.flat_list.specs.declared.command.Command.TheVariants as commands
use Rattle.flat_list.specs.declared.socket.Socket.{Socket}
use Rattle.flat_list.specs.Flat.{Flat}
use Rattle.flat_list.specs.Outcome.{open_socket as open_in_list}
use Rattle.flat_list.specs.Sound.{IsSound}
use Rattle.flat_list.proofs.Soundness.{bind_search_sound, is_open}
use Rattle.flat_list.specs.Step as flat_step
use Rattle.flat_list.specs.Step.{step}
use Rattle.table_model.specs.Tables.{Tables}
use Rattle.table_model.specs.Own.{Own, open_socket}
use Rattle.table_model.specs.Commands.{plan}
use Rattle.table_model.specs.Means.{Means}
use Rattle.table_model.proofs.parts.OpenSocket.{open_both}
use Rattle.table_model.proofs.commands.Carried.{Carried}
use Rattle.table_model.proofs.commands.Listen.{listen_both}

module _ (n : ℕ) (own : Own) (t : Tables) (flat : Flat) (h : Means n own t flat) (few : n ≤ 255) (label : List ℕ) where
  -- as `listen` binds a socket
  bound_sound : (s : Socket) → open_in_list flat n label ≡ Some s → s.owner.state ≡ states.Unbound → IsSound (flat_step.bind_search flat n s s.owner.addr).flat
  bound_sound s is unbound = bind_search_sound flat n s s.owner.addr unbound h.sound (is_open flat n label s is)

  -- `listen` beside the list's
  pub listen_carried : length own.labels + 1 < 2 ^ 56 → Carried n t (plan flat.header own (commands.Listen label)) (step flat n (commands.Listen label))
  unfolding plan step
  listen_carried room =
      listen_both n own t flat h few (open_socket own label) (open_in_list flat n label) (open_both n own t flat h.own_is h.sound.names label room) bound_sound
