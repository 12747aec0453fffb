-- What a command leaves and replies, and the parts that commands are made of: our own form.
--
-- To be read from the beginning: `Outcome` is what a command leaves, `Drawn` what it drew, and `Found` which port a
-- search found.
use Rattle.std.specs.Prelude.{ℕ, ◌%◌, Bool, List, [], ◌∷◌, ◌++◌, Option, None, Some, option_and_then, nat_lt, find}
use Rattle.flat_list.specs.declared.header.First.{First}
use Rattle.flat_list.specs.declared.command.Reply.{Reply}
use Rattle.flat_list.specs.declared.command.Reply.TheVariants as replies
use Rattle.flat_list.specs.declared.socket.Socket.{Socket}
use Rattle.flat_list.specs.Flat.{Flat}
use Rattle.flat_list.specs.Groups.{leave}
use Rattle.flat_list.specs.Ports.{size, port_order}
use Rattle.flat_list.specs.Sections.{name_in, with_given, word_of, with_drawn}
use Rattle.flat_list.specs.Sockets.{open_named, put, without, slots_used}

-- the list after a command, and the reply
pub record Outcome : Type 0 where
  pub flat : Flat
  pub reply : Reply

-- the list stays as it is
abbrev pub unchanged : Flat → Reply → Outcome
unchanged flat reply = record { flat = flat; reply = reply }

-- one socket changes
abbrev pub changed : Flat → Socket → Reply → Outcome
changed flat socket reply =
    record { flat = record flat { sockets = put socket flat.sockets }; reply = reply }

-- one socket comes last
abbrev pub added : Flat → Socket → Reply → Outcome
added flat socket reply =
    record { flat = record flat { sockets = flat.sockets ++ socket ∷ [] }; reply = reply }

-- one socket is gone, and from its group too
abbrev pub removed : Flat → Socket → Reply → Outcome
removed flat socket reply =
    let name = socket.owner.name in
    record {
      flat = record flat { sockets = without name flat.sockets; groups = leave name flat.groups };
      reply = reply;
    }

-- the section of that number has given one more label
abbrev pub with_new_label : Flat → ℕ → List ℕ → Flat
with_new_label flat n label = record flat { sections = with_given flat.header n label flat.sections }

-- the open socket that a label names in its section
abbrev pub open_socket : Flat → ℕ → List ℕ → Option Socket
open_socket flat n label =
    option_and_then (λ name. open_named name flat.sockets) (name_in n flat.sections label)

abbrev pub has_slot : Flat → Bool
has_slot flat = nat_lt (slots_used flat.sockets) flat.header.shape.slots

-- every slot is used, and none is only held by a lookup
abbrev pub no_slot : Flat → Outcome
no_slot flat = unchanged flat (replies.Enfile flat.header.shape.slots 0)

-- where a search begins, and the list after that was drawn
pub record Drawn : Type 0 where
  pub offset : ℕ
  pub flat : Flat

-- the offset that the header names, or else the next word of the section's generator, modulo the range's size
abbrev pub draw : Flat → ℕ → Option ℕ → Drawn
draw flat n (Some offset) = record { offset = offset % size flat.header.range; flat = flat }
draw flat n None =
    record {
      offset = word_of flat.header n flat.sections % size flat.header.range;
      flat = record flat { sections = with_drawn flat.header n flat.sections };
    }

-- the first port that suits, if there is one, and the list after the search, which keeps what was drawn
pub record Found : Type 0 where
  pub port : Option ℕ
  pub flat : Flat

abbrev pub found_from : Drawn → First → (ℕ → Bool) → Found
found_from drawn first suits =
    record { port = find suits (port_order drawn.flat.header.range drawn.offset first); flat = drawn.flat }

-- a section's search through the ports of the range, in that order
abbrev pub search_port : Flat → ℕ → First → (ℕ → Bool) → Found
search_port flat n first suits = found_from (draw flat n flat.header.offset) first suits
