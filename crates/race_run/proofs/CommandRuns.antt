-- What the items and the commands of a section come to is what the list that the tables mean replies and lists.
use Rattle.std.proofs.Common.{◌≡◌, ℕ, List, ◌∷◌, [], ◌++◌, take, drop, min, length, false, refl, ap}
use Rattle.capture_reader.specs.declared.packet.Item.{Item}
use Rattle.flat_list.specs.declared.command.Command.{Command}
use Rattle.flat_list.specs.declared.command.Command.TheVariants as commands
use Rattle.flat_list.specs.declared.command.Reply.{Reply}
use Rattle.flat_list.specs.Step.{step}
use Rattle.sock_script.specs.Output.{Replies}
use Rattle.sock_script.specs.Shown.{shown}
use Rattle.sock_script.specs.Steps.{takes_items}
use Rattle.socket_list.specs.Listing.{Listing}
use Rattle.sock_script.proofs.Events.{ran_packets, ran_asked}
use Rattle.section_machine.specs.Sections.{Kept}
use Rattle.table_model.specs.Own.{Own}
use Rattle.table_model.specs.Tables.{Tables}
use Rattle.race_run.specs.Steps.{AnswersAll, ListsFor, RefinesEach, RunsEach}

-- `packets` looks the next items up, and leaves tables and section as they were
pub packets_run : (m : Kept) (t : Tables) (count : ℕ) (xs next left : List Item) (before : Replies) (out : List Reply)
    → next ≡ take (min count (length xs)) xs → left ≡ drop (min count (length xs)) xs → AnswersAll t next before.each out
    → RunsEach m t (commands.Packets count) xs left before (record before { each = out }) m.own t
unfolding step
packets_run m t count xs next left before out front back answers flat header means = record {
  runs = ran_packets flat m.own.number count xs next left before (record before { each = out }) front back
      (ap (λ (r : List Reply). record before { each = r }) (answers flat means.shape means.sound means.tables));
  means = means;
}

-- any other command lists and replies as the list does
pub command_run : (m : Kept) (t t_after : Tables) (command : Command) (own : Own) (xs : List Item) (reply : Reply) (before : Replies) (out : List Reply) (listings : List Listing)
    → takes_items command ≡ false → ListsFor t command before.listings listings → RefinesEach m t command t_after own reply → out ≡ before.each ++ shown reply ∷ []
    → RunsEach m t command xs xs before (record { each = out; listings = listings }) own t_after
command_run m t t_after command own xs reply before out listings other lists refines is flat header means =
    let r = refines flat header means in
    record {
      runs = ran_asked flat (step flat m.own.number command).flat m.own.number command xs reply before (record { each = out; listings = listings }) other r.reply refl
          (λ i. record { each = is i; listings = lists flat means.shape means.sound means.tables i });
      means = r.means;
    }
