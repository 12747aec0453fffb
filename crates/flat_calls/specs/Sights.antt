-- What a lookup reports: the socket of the flat list's own lookup, by its numbers. Our own.
use Rattle.std.specs.Prelude.{◌≡◌, ℕ, ◌/◌, ◌^◌, Option, None, Some, length}
use Rattle.sock_card.specs.declared.card.Card.{Card}
use Rattle.sock_card.specs.declared.card.Kind.{Kind}
use Rattle.sock_card.specs.declared.card.Kind.TheVariants as kinds
use Rattle.sock_card.specs.declared.card.Packet.{Packet}
use Rattle.flat_list.specs.Look.{look}
use Rattle.flat_list.specs.Sections as sections
use Rattle.flat_calls.specs.declared.sight.Sight.{Sight}
use Rattle.flat_calls.specs.Calls.{Numbered}
use Rattle.flat_calls.specs.Numbers.{label_of}

-- what kind of socket it is, as a number
abbrev pub kind_of : Kind → ℕ
kind_of kinds.Full = 1
kind_of kinds.TimeWait = 2
kind_of kinds.Listen = 3
kind_of kinds.Request = 4

-- the sight is of the socket with that card: of its kind, its worker, and the number whose label is the socket's
pub record Sees (t : Numbered) (card : Card) (sight : Sight) : Type 0 where
  pub kind : sight.kind ≡ kind_of card.kind
  pub worker : sight.worker ≡ card.name / 2 ^ 56
  pub number :
      length (sections.label_of t.flat.sections card.name) ≡ 8
      → label_of sight.socket ≡ sections.label_of t.flat.sections card.name

-- the flat list finds a card exactly where there is a sight, and the sight is of that
abbrev pub SeesIf : Numbered → Option Card → Option Sight → Type 0
SeesIf t None None = Unit {0}
SeesIf t (Some card) (Some sight) = Sees t card sight
SeesIf t _ _ = ⊥

abbrev pub Finds : Numbered → Packet → Option Sight → Type 0
Finds t packet found = SeesIf t (look packet t.flat.header.seed t.flat.sockets t.flat.groups) found
