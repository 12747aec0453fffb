-- What a command of a section did at the tables, whoever else was there: our own.
use Rattle.std.specs.Prelude.{◌≡◌, ◌⊎◌, ℕ, ◌+◌, ◌≤◌, List, [], ◌∷◌, ◌++◌, length, Result, Ok, Err}
use Rattle.bind_buckets.specs.Turned.{View, Gave}
use Rattle.flat_list.specs.declared.command.Command.{Command}
use Rattle.flat_list.specs.declared.command.Command.TheVariants as commands
use Rattle.flat_list.specs.declared.command.Reply.{Reply}
use Rattle.flat_list.specs.declared.header.Header.{Header}
use Rattle.sock_ops.specs.Made.{Does}
use Rattle.sock_ops.specs.Sides.{Side}
use Rattle.race_record.specs.Deeds.{Deed, entries_in}
use Rattle.race_record.specs.Goes.{Goes}
use Rattle.table_model.specs.Commands.{plan, answers}
use Rattle.table_model.specs.Own.{Own}

-- a section's header, and what it knows of itself
pub record Kept : Type 0 where
  pub header : Header
  pub own : Own

abbrev pub kept : Header → Own → Kept
kept header own = record { header = header; own = own }

-- sockets to come get that mark
abbrev pub with_mark : Kept → ℕ → Kept
with_mark k mark = record k { own = record k.own { mark = mark } }

-- the header and the section's number stay, and one label more is given at most
pub record KeepsHeader (old new : Kept) : Type 0 where
  pub header : new.header ≡ old.header
  pub number : new.own.number ≡ old.own.number
  pub labels : length new.own.labels ≤ length old.own.labels + 1

-- the label that a command gives, if it makes a socket
abbrev pub given_by : Command → List (List ℕ)
given_by (commands.Socket label options) = label ∷ []
given_by (commands.Accept listener label from at) = label ∷ []
given_by (commands.Syn listener label from at) = label ∷ []
given_by (commands.Ack request label) = label ∷ []
given_by _ = []

-- the labels are the old ones, and behind them the one that the command gives; where it was left off, maybe without it
abbrev pub GivesLabels : {X E : Type 0} → Command → List (List ℕ) → List (List ℕ) → Result X E → Type 0
GivesLabels command old new (Ok x) = new ≡ old ++ given_by command
GivesLabels command old new (Err e) = (new ≡ old ++ given_by command) ⊎ (new ≡ old)

-- The command's plan went by these deeds to that reply, and left of the section's own what is next; the pass of the
-- buckets gave their entries, the pass of the chains made their changes, and neither did anything else.
pub record Did (header : Header) (own : Own) (command : Command) (v w : View) (c d : Side) (next : Own)
    (reply : Reply) : Type 0 where
  pub deeds : List Deed
  pub goes : Goes (plan header own command) deeds (answers next reply)
  pub gave : Gave v w (entries_in header.shape.bind deeds)
  pub does : Does deeds c d
