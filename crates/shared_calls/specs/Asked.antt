-- What a caller tells of itself and of its open sockets. Our own.
--
-- In three parts: an open socket; what is left to do; and the clock.
use Rattle.std.specs.Prelude.{◌≡◌, ℕ, ◌+◌, ◌-◌, ◌*◌, ◌<◌, ◌≤◌, ◌^◌, ◌↔◌, length, map, Option}
use Rattle.std.specs.Option.{option_map}
use Rattle.list_words.specs.Lists.{Each}
use Rattle.sock_card.specs.declared.owner.Owner.{Owner}
use Rattle.sock_card.specs.declared.owner.State.{State}
use Rattle.sock_card.specs.declared.owner.State.TheVariants as states
use Rattle.chain_book.specs.declared.book.Change.{Change}
use Rattle.sock_ops.specs.Sides.{changes_by}
use Rattle.flat_calls.specs.declared.item.Item.{Item}
use Rattle.flat_list.specs.declared.command.Command.{Command}
use Rattle.section_machine.specs.Opened.{owner_of}
use Rattle.section_machine.specs.Sections.{given_by}
use Rattle.sock_ops.specs.Stands.{chained}
use Rattle.table_model.specs.Own.{Own}
use Rattle.table_rule.specs.Passes.{drawn_by}
use Rattle.turn_table.specs.Passes as words
use Rattle.shared_calls.specs.Callings.{Calling, MayCall, kept_back}
use Rattle.shared_calls.specs.declared.asked.Left.{Left}

-- What a socket is, as a number: those that lookups find have the numbers that a lookup gives them.
abbrev pub kind_of : State → ℕ
kind_of states.Full = 1
kind_of states.TimeWait = 2
kind_of states.Listening = 3
kind_of states.Request = 4
kind_of states.Bound = 5
kind_of states.Unbound = 6

-- what is told of the socket of that number, by what bind buckets know of it
abbrev pub item_of : (worker number : ℕ) → Owner → Item
item_of worker number a =
    record {
      kind = kind_of a.state;
      worker = worker;
      socket = number;
      addr = a.addr;
      peer_addr = a.remote;
      port = a.port;
      peer_port = a.rport;
      dev = a.dev;
      net = a.net;
    }

-- what is told of the open socket that a number names
abbrev pub item_in : Own → ℕ → Option Item
item_in own number = option_map (item_of own.number number) (owner_of own number)

-- How many sockets a caller may still make; and how many entries and numbers of the clock are left to it, beside those
-- that its TIME_WAITs will take and those that are kept back.
abbrev pub left_of : Calling → Left
left_of c =
    record {
      sockets = 2 ^ 56 - 2 - length c.kept.own.labels;
      entries = 2 ^ 48 - 2 ^ 32 - (words.draws c.worker.turns + length c.kept.own.waits);
      stamps = 2 ^ 48 - 2 ^ 32 - (drawn_by c.worker.chain.pass + 2 * length c.kept.own.waits);
      waits = length c.kept.own.waits;
    }

-- a call takes so many entries and numbers at most
pub record HasLeft (c : Calling) (command : Command) : Type 0 where
  pub entries : 65540 ≤ (left_of c).entries
  pub stamps : 7 ≤ (left_of c).stamps
  pub number : 0 < length (given_by command) → 0 < (left_of c).sockets

-- what is left tells exactly which commands can be carried out, of those that leave some to others
abbrev pub LeftTells : Type 0
LeftTells = (c : Calling) (command : Command) → kept_back command ≡ 2 ^ 32 → MayCall c command ↔ HasLeft c command
