-- A socket that claims its four-tuple, full or a request: its card, and where it stands once that is inserted.
use Rattle.std.proofs.Common.{◌≡◌, ℕ, false, List, Option, Some, refl, ap, ◌∙◌}
use Rattle.sock_card.specs.Conflict.{is_time_wait}
use Rattle.sock_card.specs.TimeWait.{is_time_wait_kind}
use Rattle.sock_card.specs.declared.card.Card.{Card}
use Rattle.sock_card.specs.declared.card.Kind.{Kind}
use Rattle.sock_card.specs.declared.card.Kind.TheVariants as kinds
use Rattle.sock_card.specs.declared.owner.Owner.{Owner}
use Rattle.sock_card.specs.declared.owner.State.{State}
use Rattle.sock_card.specs.declared.owner.State.TheVariants as states
use Rattle.chain_book.specs.declared.outcome.Hashed.{Hashed}
use Rattle.chain_book.specs.declared.shape.Shape.{Shape}
use Rattle.flat_list.specs.declared.socket.Socket.{Socket}
use Rattle.flat_list.specs.Groups.{Group}
use Rattle.flat_list.specs.Look.{extra_as}
use Rattle.flat_list.specs.Owned.{card_as}
use Rattle.flat_list.specs.Sockets.{kind_of}
use Rattle.table_model.specs.Asking.{Asking, ends}
use Rattle.table_model.specs.Own.{Mine, card_of}
use Rattle.table_model.specs.Operations.{Did, done, plain, place_of, then_replaced}
use Rattle.table_model.proofs.parts.Cards.{weigh_as, card_weight}

-- the kind of its card
abbrev pub claim_kind : State → Kind
claim_kind states.Request = kinds.Request
claim_kind _ = kinds.Full

abbrev pub claim_card : Owner → Card
claim_card a = card_of (claim_kind a.state) (plain a)

-- the socket, hashed in that slot
abbrev pub claimed_in : Shape → ℕ → Owner → ℕ → Mine
claimed_in shape seed a slot = record { owner = a; extra = 0; place = place_of shape seed (claim_card a) slot }

-- it was hashed, and what it replaced leaves
abbrev pub claim_done : Shape → ℕ → Owner → ℕ → Option Hashed → Asking Did
claim_done shape seed a slot old = then_replaced old (ends (done (claimed_in shape seed a slot)))

-- a socket that is hashed by such a card
abbrev pub IsClaim : Owner → Type 0
IsClaim a = kind_of a.state ≡ Some (claim_kind a.state)

-- the card is of no TIME_WAIT
pub claim_awake : (st : State) → is_time_wait_kind (claim_kind st) ≡ false
claim_awake states.Request = refl
claim_awake _ = refl

no_extra : (st : State) (groups : List Group) (s : Socket) → extra_as (claim_kind st) groups s ≡ 0
no_extra states.Request groups s = refl
no_extra _ groups s = refl

-- what it weighs
pub claim_weight : (f : Card → ℕ) (groups : List Group) (s : Socket) → IsClaim s.owner → card_weight groups f s ≡ f (claim_card s.owner)
claim_weight f groups s is =
    ap (λ (kind : Option Kind). weigh_as f kind s.owner (λ kind. extra_as kind groups s)) is
    ∙ ap (λ (extra : ℕ). f (card_as (claim_kind s.owner.state) s.owner extra)) (no_extra s.owner.state groups s)

open_kind : (st : State) → kind_of st ≡ Some (claim_kind st) → is_time_wait st ≡ false
open_kind states.TimeWait is = absurd (cc)
open_kind _ is = refl

-- it isn't in TIME_WAIT
pub claim_open : (a : Owner) → IsClaim a → is_time_wait a.state ≡ false
claim_open a is = open_kind a.state is
