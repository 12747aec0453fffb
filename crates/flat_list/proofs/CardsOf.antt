-- What a card of the list says of its socket, and what listeners of one group have in common.
use Rattle.std.proofs.Common.{◌≡◌, Bool, true, ◌&&◌, ◌==◌, List, Option, Some, None, refl, ap, ◌∙◌, sym, subst}
use Rattle.std.specs.Prelude.{count_by}
use Rattle.std.specs.Option.{option_map}
use Rattle.std.proofs.lemmas.Bool.{and_parts, eqb-true}
use Rattle.list_words.proofs.EachLemmas.{some_same}
use Rattle.list_words.proofs.Items.{In, made_in, each_in, count_in}
use Rattle.list_words.proofs.Truths.{one_is_true}
use Rattle.sock_card.specs.declared.card.Card.{Card}
use Rattle.sock_card.specs.declared.card.Kind.{Kind}
use Rattle.sock_card.specs.declared.card.Kind.TheVariants as kinds
use Rattle.sock_card.specs.declared.owner.Owner.{Owner}
use Rattle.sock_card.specs.declared.owner.State.{State}
use Rattle.sock_card.specs.declared.owner.State.TheVariants as states
use Rattle.sock_card.specs.Conflict.{same_port, is_listening, both_reuse_port}
use Rattle.flat_list.specs.declared.socket.Socket.{Socket}
use Rattle.flat_list.specs.Flat.{Flat}
use Rattle.flat_list.specs.Groups.{Group, has_member}
use Rattle.flat_list.specs.Look.{card_of, cards_of, extra_as}
use Rattle.flat_list.specs.Owned.{card_as}
use Rattle.flat_list.specs.Sockets.{kind_of, is_mate}
use Rattle.flat_list.specs.Sound.{IsSound, IsInOneGroup, is_sharing}

-- what a socket's card says of the socket
pub record Says (groups : List Group) (s : Socket) (c : Card) : Type 0 where
  pub name : s.owner.name ≡ c.name
  pub kind : kind_of s.owner.state ≡ Some c.kind
  pub is : card_as c.kind s.owner (extra_as c.kind groups s) ≡ c

says_at : (groups : List Group) (s : Socket) (c : Card) (o : Option Kind) → kind_of s.owner.state ≡ o → option_map (λ (k : Kind). card_as k s.owner (extra_as k groups s)) o ≡ Some c → Says groups s c
says_at groups s c None e h = absurd (cc)
says_at groups s c (Some k) e h =
    let is : card_as k s.owner (extra_as k groups s) ≡ c = some_same (card_as k s.owner (extra_as k groups s)) c h in
    record {
      name = ap (λ (d : Card). d.name) is;
      kind = e ∙ ap (λ (d : Card). Some d.kind) is;
      is = subst (λ (d : Card). card_as d.kind s.owner (extra_as d.kind groups s) ≡ d) is refl;
    }

pub says : (groups : List Group) (s : Socket) (c : Card) → card_of groups s ≡ Some c → Says groups s c
says groups s c h = says_at groups s c (kind_of s.owner.state) refl h

-- the socket of a card of the list
pub record OfSocket (groups : List Group) (sockets : List Socket) (c : Card) : Type 0 where
  pub socket : Socket
  pub within : In socket sockets
  pub card : card_of groups socket ≡ Some c
  pub says : Says groups socket c

pub of_socket : (groups : List Group) (sockets : List Socket) (c : Card) → In c (cards_of groups sockets) → OfSocket groups sockets c
of_socket groups sockets c i =
    let m = made_in (card_of groups) c sockets i in
    record { socket = m.item; within = m.within; card = m.is; says = says groups m.item c m.is }

-- a listener has a card of its kind alone
pub listening_kind : (st : State) (k : Kind) → is_listening st ≡ true → kind_of st ≡ Some k → k ≡ kinds.Listen
listening_kind states.Listening k h e = sym (some_same kinds.Listen k e)
listening_kind states.Full k h e = absurd (cc)
listening_kind states.TimeWait k h e = absurd (cc)
listening_kind states.Request k h e = absurd (cc)
listening_kind states.Bound k h e = absurd (cc)
listening_kind states.Unbound k h e = absurd (cc)

mate_parts : (a b c d e f : Bool) → (a && b && c && d && e && f) ≡ true → (c ≡ true) × (d ≡ true) × (f ≡ true)
mate_parts a b c d e f h =
    let last = and_parts (a && b && c && d && e) f h in
    let user = and_parts (a && b && c && d) e last.0 in
    let dev = and_parts (a && b && c) d user.0 in
    let port = and_parts (a && b) c dev.0 in
    (port.1, dev.1, last.1)

-- two owners at one end and device of a namespace
pub record AtOneEnd (a b : Owner) : Type 0 where
  pub net : a.net ≡ b.net
  pub addr : a.addr ≡ b.addr
  pub port : a.port ≡ b.port
  pub dev : a.dev ≡ b.dev

-- so are a listener and its mate
pub by_mates : (a : Owner) (s : Socket) → is_mate a s ≡ true → AtOneEnd a s.owner
by_mates a s h =
    let p = mate_parts (is_listening s.owner.state) (both_reuse_port a s.owner) (same_port a s.owner) (a.dev == s.owner.dev) (a.uid == s.owner.uid) (a.addr == s.owner.addr) h in
    let port = and_parts (a.net == s.owner.net) (a.port == s.owner.port) p.0 in
    record { net = eqb-true _ _ port.0; addr = eqb-true _ _ p.2; port = eqb-true _ _ port.1; dev = eqb-true _ _ p.1 }

-- who is in a group of a sound list is a listener that shares its end
pub grouped_shares : (flat : Flat) (sound : IsSound flat) (s : Socket) (g : Group) → In s flat.sockets → In g flat.groups → has_member s.owner.name g ≡ true → is_sharing s ≡ true
grouped_shares flat sound s g i j h =
    one_is_true (is_sharing s) (count_by (has_member s.owner.name) flat.groups) (each_in (IsInOneGroup flat.groups) s flat.sockets sound.grouped.sharing i)
    (count_in (has_member s.owner.name) g flat.groups j h)
