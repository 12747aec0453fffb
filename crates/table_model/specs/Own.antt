-- What a section knows of itself: our own. Its own sockets and TIME_WAITs are known with the place where they stand.
--
-- To be read from the beginning: `Own` is what a section knows, and what stands below it reads or changes that.
use Rattle.std.specs.Prelude.{ℕ, ◌%◌, Bool, ◌==◌, not, List, [], ◌∷◌, ◌++◌, length, Option, option_and_then, if◌then◌else◌, find, map, filter, position, bytes_eq}
use Rattle.std.specs.Option.{option_map, option_map_or}
use Rattle.rand_pcg.specs.Lcg.{Lcg, started, increment_of}
use Rattle.rand_pcg.specs.Pcg.{multiplier_64, pcg32}
use Rattle.sock_card.specs.declared.owner.Owner.{Owner}
use Rattle.sock_card.specs.declared.card.Card.{Card}
use Rattle.sock_card.specs.declared.card.Kind.{Kind}
use Rattle.sock_card.specs.TimeWait.{expired}
use Rattle.chain_book.specs.declared.outcome.Place.{Place}
use Rattle.flat_list.specs.declared.header.Header.{Header}
use Rattle.flat_list.specs.declared.header.Range.{Range}
use Rattle.flat_list.specs.declared.header.First.{First}
use Rattle.flat_list.specs.Owned.{card_as}
use Rattle.flat_list.specs.Ports.{size, port_order}
use Rattle.flat_list.specs.Sections.{name_at}

-- a socket; what its card says besides, which is a listener's group and 1 or a TIME_WAIT's stamp; and where it is
-- hashed, if it is
pub record Mine : Type 0 where
  pub owner : Owner
  pub extra : ℕ
  pub place : Place

-- where each search of a section begins: at the header's offset, or at the next word of its generator
pub record Offsets : Type 0 where
  pub range : Range
  pub offset : Option ℕ
  pub generator : Lcg

-- the section's number, its labels in the order in which they were given, the mark of the sockets that it makes, its
-- moment, its offsets, its open sockets, and the TIME_WAITs that it left, in the order in which they were closed
pub record Own : Type 0 where
  pub number : ℕ
  pub labels : List (List ℕ)
  pub mark : ℕ
  pub moment : ℕ
  pub offsets : Offsets
  pub sockets : List Mine
  pub waits : List Mine

abbrev pub new_offsets : Header → ℕ → Offsets
new_offsets header n =
    record {
      range = header.range;
      offset = header.offset;
      generator = started 64 multiplier_64 header.seed (increment_of 64 n);
    }

abbrev pub new_own : Header → ℕ → Own
new_own header n =
    record {
      number = n;
      labels = [];
      mark = 0;
      moment = 0;
      offsets = new_offsets header n;
      sockets = [];
      waits = [];
    }

-- where the next search begins in the range
abbrev pub offset_of : Offsets → ℕ
offset_of o =
    option_map_or (λ (offset : ℕ). offset % size o.range) o.offset ((pcg32 o.generator).0 % size o.range)

-- the offsets after a search began
abbrev pub past_offset : Offsets → Offsets
past_offset o = option_map_or (λ (offset : ℕ). o) o.offset (record o { generator = (pcg32 o.generator).1 })

-- the ports as the next search tries them
abbrev pub ports_of : Offsets → First → List ℕ
ports_of o first = port_order o.range (offset_of o) first

abbrev pub is_named : ℕ → Mine → Bool
is_named name m = m.owner.name == name

-- the name that a label stands for
abbrev pub name_of : Own → List ℕ → Option ℕ
name_of own label = option_map (name_at own.number) (position (λ l. bytes_eq l label) own.labels)

-- the name that the next label will stand for
abbrev pub next_name : Own → ℕ
next_name own = name_at own.number (length own.labels)

-- the open socket that a label names
abbrev pub open_socket : Own → List ℕ → Option Mine
open_socket own label = option_and_then (λ name. find (is_named name) own.sockets) (name_of own label)

-- the open socket of that name
abbrev pub open_named : Own → ℕ → Option Mine
open_named own name = find (is_named name) own.sockets

abbrev pub replaced : Mine → Mine → Mine
replaced new m = if is_named new.owner.name m then new else m

-- one socket has become that
abbrev pub with_socket : Own → Mine → Own
with_socket own new = record own { sockets = map (replaced new) own.sockets }

abbrev pub with_new : Own → Mine → Own
with_new own new = record own { sockets = own.sockets ++ new ∷ [] }

abbrev pub without : Own → ℕ → Own
without own name = record own { sockets = filter (λ m. not (is_named name m)) own.sockets }

abbrev pub with_wait : Own → Mine → Own
with_wait own w = record own { waits = own.waits ++ w ∷ [] }

abbrev pub with_label : Own → List ℕ → Own
with_label own label = record own { labels = own.labels ++ label ∷ [] }

abbrev pub with_offsets : Own → Offsets → Own
with_offsets own o = record own { offsets = o }

abbrev pub is_over : ℕ → Mine → Bool
is_over moment w = expired w.extra moment

-- the card of that kind
abbrev pub card_of : Kind → Mine → Card
card_of kind m = card_as kind m.owner m.extra
