-- What a command of a section leaves that is left off, whoever else was at the tables: our own.
--
-- To be read from `LeftOff` upwards: contracts cite it, and `IsLeftOff`, below it, says it of tables and a worker.
-- `StopsReaping` is of private functions.
use Rattle.std.specs.Prelude.{◌≡◌, ◌≢◌, ◌⊎◌, ℕ, ◌&&◌, Bool, true, false, List, [], ◌++◌, Option, None, Some, filter}
use Rattle.std.specs.Option.{option_map, option_map_or}
use Rattle.list_words.specs.Lists.{Each}
use Rattle.turn_table.specs.declared.note.Placed.{Placed}
use Rattle.bind_buckets.specs.declared.request.Entry.{Entry}
use Rattle.bind_buckets.specs.Turned.{View, Gave}
use Rattle.flat_list.specs.declared.command.Command.{Command}
use Rattle.flat_list.specs.declared.command.Command.TheVariants as commands
use Rattle.flat_list.specs.declared.header.Header.{Header}
use Rattle.sock_ops.specs.Made.{Does}
use Rattle.sock_ops.specs.Sides.{Side, changes_by}
use Rattle.race_record.specs.Deeds.{Deed, entries_in}
use Rattle.table_model.specs.Asking.{Asking}
use Rattle.table_model.specs.Operations.{reap, reap_each, source_to}
use Rattle.table_model.specs.Commands.{Replied, plan, after_search, searches_port, is_unbound, is_some}
use Rattle.table_model.specs.Own.{Own, Mine, open_socket, next_name, with_label, is_over}
use Rattle.sock_ops.specs.declared.tables.Tables.{Tables}
use Rattle.sock_ops.specs.declared.tables.Worker.{Worker}
use Rattle.sock_ops.specs.Goes.{Went, GivesUp, IsUndecided}
use Rattle.sock_ops.specs.Leads.{Leads}
use Rattle.sock_ops.specs.Stands.{turned, chained}
use Rattle.section_machine.specs.Sections.{Kept}
use Rattle.section_machine.specs.Waits.{first_over}

-- the name of the label's open socket
abbrev pub socket_name : Own → List ℕ → Option ℕ
socket_name own label = option_map (λ (m : Mine). m.owner.name) (open_socket own label)

-- the name by which a command asks bind buckets: its socket's, or that of the socket which it is to make
abbrev pub speaker : Own → Command → Option ℕ
speaker own (commands.Bind label end) = socket_name own label
speaker own (commands.Listen label) = socket_name own label
speaker own (commands.Connect label from to) = socket_name own label
speaker own (commands.Accept listener label from at) = Some (next_name own)
speaker own (commands.Syn listener label from at) = Some (next_name own)
speaker own (commands.Ack request label) = Some (next_name own)
speaker own (commands.Close label) = socket_name own label
speaker own (commands.Drop label) = socket_name own label
speaker own _ = None

-- a port that the command had taken for the owner of that name is given up, if it had taken one
abbrev pub GivesBack : ℕ → Option ℕ → List (Placed Entry) → Type 0
GivesBack count (Some name) back = GivesUp count name back
GivesBack count None back = back ≡ []

-- the label names an open socket of which that is true
abbrev pub is_of_socket : (Mine → Bool) → Own → List ℕ → Bool
is_of_socket test own label = option_map_or test (open_socket own label) false

-- a search for a port begins by the command
abbrev pub searches : Own → Command → Bool
searches own (commands.Bind label end) = is_of_socket (λ m. searches_port m.owner end) own label
searches own (commands.Listen label) = is_of_socket (λ m. is_unbound m.owner.state) own label
searches own (commands.Connect label from to) =
    is_of_socket (λ m. is_unbound m.owner.state && is_some (source_to m.owner from to)) own label
searches own _ = false

-- nothing was asked, nothing done, and the section has what it had
pub record IsUntouched (own : Own) (deeds : List Deed) (back : List (Placed Entry)) (next : Own) : Type 0 where
  pub none : deeds ≡ []
  pub nor_back : back ≡ []
  pub same : next ≡ own

-- some TIME_WAITs are gone from the front, each of them over; and the first that is left is over, too
pub record FrontGone (all : List Mine) (moment : ℕ) (left : List Mine) : Type 0 where
  pub gone : List Mine
  pub split : all ≡ gone ++ left
  pub over : Each (λ (w : Mine). is_over moment w ≡ true) gone
  pub at : Mine
  pub first : first_over moment left ≡ Some at

-- these deeds reaped the section's first TIME_WAITs, which it has no more; of what it keeps nothing else has changed
pub record ReapsSome (own : Own) (deeds : List Deed) (next : Own) : Type 0 where
  pub front : FrontGone own.waits own.moment next.waits
  pub count : ℕ
  pub reaps : Leads (reap own.waits own.moment) deeds (reap_each (filter (is_over own.moment) next.waits) count)
  pub rest : next ≡ record own { waits = next.waits }

-- it has the label more, which is given before anything is asked or done; or nothing was done at all
abbrev pub GivesLabel : Own → List ℕ → List Deed → List (Placed Entry) → Own → Type 0
GivesLabel own label deeds back next = (next ≡ with_label own label) ⊎ IsUntouched own deeds back next

-- What the section keeps, by what was asked and done: what it had, past the offset of a search that began, and the
-- label of an accepted child or of a request. `at` and `dump` are never left off.
abbrev pub Leaves : Own → Command → List Deed → List (Placed Entry) → Own → Type 0
Leaves own (commands.Accept listener label from at) deeds back next = GivesLabel own label deeds back next
Leaves own (commands.Syn listener label from at) deeds back next = GivesLabel own label deeds back next
Leaves own (commands.Ack request label) deeds back next = GivesLabel own label deeds back next
Leaves own commands.Reap deeds back next = ReapsSome own deeds next
Leaves own (commands.At moment) deeds back next = ⊥
Leaves own commands.Dump deeds back next = ⊥
Leaves own command deeds back next = next ≡ after_search (searches own command) own

-- the label that the command gives was not given, and so nothing was done
abbrev pub LacksLabel : Own → Command → List Deed → List (Placed Entry) → Own → Type 0
LacksLabel own (commands.Socket label options) deeds back next = IsUntouched own deeds back next
LacksLabel own (commands.Accept listener label from at) deeds back next = IsUntouched own deeds back next
LacksLabel own (commands.Syn listener label from at) deeds back next = IsUntouched own deeds back next
LacksLabel own (commands.Ack request label) deeds back next = IsUntouched own deeds back next
LacksLabel own command deeds back next = ⊥

-- The command's plan went so far by these deeds, and was left off before it came to an end, or for want of its label; a
-- port that it had taken was given up. The pass of the buckets gave their entries, the pass of the chains made their
-- changes, and neither did anything else. Any but `reap` was left off before it changed a chain.
pub record LeftOff (header : Header) (own : Own) (command : Command) (v w : View) (c d : Side)
    (next : Own) : Type 0 where
  pub rest : Asking Replied
  pub deeds : List Deed
  pub leads : Leads (plan header own command) deeds rest
  pub back : List (Placed Entry)
  pub gives : GivesBack header.shape.bind (speaker own command) back
  pub gave : Gave v w (entries_in header.shape.bind deeds ++ back)
  pub does : Does deeds c d
  pub still : command ≢ commands.Reap → changes_by d ≡ changes_by c
  pub undecided : IsUndecided rest back ⊎ LacksLabel own command deeds back next
  pub leaves : Leaves own command deeds back next

-- so at these tables, by this worker
abbrev pub IsLeftOff : Tables → Kept → Command → Kept → Worker → Worker → Type 0
IsLeftOff t old command new w u =
    LeftOff old.header old.own command (turned w) (turned u) (chained t w) (chained t u) new.own

-- the plan of `reap` went on as far as the TIME_WAITs that are left
pub record StopsReaping (count : ℕ) (all : List Mine) (moment : ℕ) (v w : View) (c d : Side) (left : List Mine) : Type 0
  where
    pub front : FrontGone all moment left
    pub reaped : ℕ
    pub went : Went count (reap all moment) v w c d (reap_each (filter (is_over moment) left) reaped)
