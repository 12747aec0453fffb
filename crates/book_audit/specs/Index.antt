-- An index of lives by what lookups compare of their cards: whether one was there throughout a call. Our own; what a
-- lookup compares is inet_match's and compute_score's of the kernel's net/ipv4/inet_hashtables.c, by sock_card's words.
--
-- To be read from `IsIndex` upwards: public contracts cite it alone. `connected_face`, `listening_face` and what
-- stands below `IsIndex` are of private functions.
use Rattle.std.specs.Prelude.{◌≡◌, ℕ, ◌<◌, ◌≤◌, ◌==◌, ◌&&◌, ◌||◌, not, nat_lt, nat_le, Bool, true, false, IsTrue, List, Option, None, Some}
use Rattle.list_words.specs.Lists.{Each, Pairs}
use Rattle.sock_card.specs.declared.card.Card.{Card}
use Rattle.sock_card.specs.declared.card.Kind.{Kind}
use Rattle.sock_card.specs.declared.card.Kind.TheVariants as kinds
use Rattle.sock_card.specs.declared.card.Packet.{Packet}
use Rattle.sock_card.specs.Words.{packed}
use Rattle.sock_card.specs.Rank.{rank}
use Rattle.race_book.specs.Among.{Among}
use Rattle.book_audit.specs.declared.printed.PrintedLife.{PrintedLife}
use Rattle.book_audit.specs.declared.printed.PrintedLook.{PrintedLook}
use Rattle.book_audit.specs.declared.stays.Stay.{Stay}
use Rattle.book_audit.specs.declared.index.Index.{Index}
use Rattle.book_audit.specs.Stays.{is_below, begin_of}

-- what lookups compare of a card: of a connected socket or a request its four-tuple and device, of a listener its own
-- end and device
abbrev pub face_as : Kind → Card → Card
face_as kinds.Listen c = record c { remote = 0; rport = 0; name = 0; extra = 0; mark = 0 }
face_as _ c = record c { kind = kinds.Full; name = 0; extra = 0; mark = 0 }

abbrev pub face : Card → Card
face c = face_as c.kind c

-- the face of a connected socket or a request that takes a packet, with that device
abbrev pub connected_face : Packet → ℕ → Card
connected_face p dev = record {
  local = p.dst;
  lport = p.dport;
  remote = p.src;
  rport = p.sport;
  dev = dev;
  net = p.net;
  kind = kinds.Full;
  name = 0;
  extra = 0;
  mark = 0;
}

-- a listener that takes it, at that address and with that device
abbrev pub listening_face : Packet → ℕ → ℕ → Card
listening_face p local dev = record {
  local = local;
  lport = p.dport;
  remote = 0;
  rport = 0;
  dev = dev;
  net = p.net;
  kind = kinds.Listen;
  name = 0;
  extra = 0;
  mark = 0;
}

-- the life among those of its card's face, once it is in and until it is on its way out
abbrev pub mark : PrintedLife → Stay
mark l = record {
  place = (packed (face l.card)).ends;
  part = (packed (face l.card)).ports;
  from = l.hash.end;
  until = begin_of l.unhash;
}

-- the first isn't over before the second
abbrev pub outlasts : Option ℕ → Option ℕ → Bool
outlasts None v = true
outlasts (Some n) None = false
outlasts (Some n) (Some k) = nat_le k n

-- in an earlier place, or in the same one, from no later and until no later
abbrev pub goes_before : Stay → Stay → Bool
goes_before s t =
    nat_lt s.place t.place
    || ((s.place == t.place)
    && (nat_lt s.part t.part || ((s.part == t.part) && nat_le s.from t.from && outlasts t.until s.until)))

-- the second stands for the first
pub record StandsFor (s t : Stay) : Type 0 where
  pub place : t.place ≡ s.place
  pub part : t.part ≡ s.part
  pub from : t.from ≡ s.from
  pub until : outlasts t.until s.until ≡ true

pub record IsMarked (stays : List Stay) (s : Stay) : Type 0 where
  pub stay : Stay
  pub there : Among stays stay
  pub stands : StandsFor s stay

abbrev pub AreOrdered : List Stay → Type 0
AreOrdered stays = Pairs (λ (s t : Stay). goes_before s t ≡ true) stays

abbrev pub AreMarked : List Stay → List PrintedLife → Type 0
AreMarked stays lives = Each (λ (l : PrintedLife). IsMarked stays (mark l)) lives

-- each life is marked, and where the index says so, the marks are in order
pub record IsIndex (index : Index) (lives : List PrintedLife) : Type 0 where
  pub marked : AreMarked index.stays.items lives
  pub ordered : IsTrue index.ordered → AreOrdered index.stays.items

-- an earlier place, or the same one from before that number on
abbrev pub precedes : Stay → ℕ → ℕ → ℕ → Bool
precedes s place part t0 =
    nat_lt s.place place || ((s.place == place) && (nat_lt s.part part || ((s.part == part) && nat_lt s.from t0)))

-- in another place, or over before that number
abbrev pub is_over : Stay → ℕ → ℕ → ℕ → Bool
is_over s place part t1 = not (s.place == place) || not (s.part == part) || is_below s.until t1

-- no stay in that place began before the one number and isn't over before the other
abbrev pub NoneStays : List Stay → ℕ → ℕ → ℕ → ℕ → Type 0
NoneStays stays place part t0 t1 =
    (s : Stay) → Among stays s → s.place ≡ place → s.part ≡ part → s.from < t0 → is_below s.until t1 ≡ true

-- no stay at the card's words was there throughout the call
abbrev pub GoneAt : List Stay → PrintedLook → Card → Type 0
GoneAt stays look c = NoneStays stays (packed c).ends (packed c).ports look.t0 look.t1

-- no life whose card matches so well or better was there throughout the call, as far as marks show
abbrev pub RulesOut : List Stay → PrintedLook → ℕ → Type 0
RulesOut stays look least = (c : Card) → least ≤ rank c look.packet → GoneAt stays look (face c)
