-- What the cards of sockets weigh, and what the changes of a list of sockets make of that.
use Rattle.std.proofs.Common.{◌≡◌, ℕ, ◌+◌, ◌≤◌, Bool, true, false, cond, List, [], ◌∷◌, ◌++◌, find, Option, Some, None, refl, sym, ◌∙◌, arith}
use Rattle.std.specs.List.{cons_option}
use Rattle.std.specs.Option.{option_map}
use Rattle.std.proofs.lemmas.Bool.{eq-eqb, eqb-true, and_parts}
use Rattle.list_words.specs.Lists.{Pairs, total}
use Rattle.list_words.proofs.TotalLemmas.{total-append}
use Rattle.sock_card.specs.declared.card.Card.{Card}
use Rattle.sock_card.specs.declared.card.Kind.{Kind}
use Rattle.sock_card.specs.declared.owner.Owner.{Owner}
use Rattle.flat_list.specs.declared.socket.Socket.{Socket}
use Rattle.flat_list.specs.Groups.{Group}
use Rattle.flat_list.specs.Look.{cards_of, extra_as}
use Rattle.flat_list.specs.Owned.{card_as}
use Rattle.flat_list.specs.Sockets.{kind_of, has_name, put, without, waits_at, owner_tuple, have_one_tuple}
use Rattle.flat_list.specs.Sound.{NamesDiffer, TuplesDiffer, holds_tuple}
use Rattle.sock_card.proofs.Tuples.{PartsAgree, parts_agree}
use Rattle.sock_card.specs.Conflict.{is_time_wait}
use Rattle.sock_card.specs.declared.owner.State.{State}
use Rattle.sock_card.specs.declared.owner.State.TheVariants as states
use Rattle.table_model.proofs.lists.Passing.{only, ind, Only, only_found, without_only, pairs_once}

-- what a card of that kind weighs, if there is one
abbrev pub weigh_as : (Card → ℕ) → Option Kind → Owner → (Kind → ℕ) → ℕ
weigh_as f None o extra = 0
weigh_as f (Some kind) o extra = f (card_as kind o (extra kind))

-- what the card of a socket weighs, if it has one
abbrev pub card_weight : List Group → (Card → ℕ) → Socket → ℕ
card_weight groups f s = weigh_as f (kind_of s.owner.state) s.owner (λ kind. extra_as kind groups s)

card_more : (f : Card → ℕ) (o : Option Kind) (a : Owner) (extra : Kind → ℕ) (cs : List Card) (n : ℕ) → total f cs ≡ n
    → total f (cons_option (option_map (λ kind. card_as kind a (extra kind)) o) cs) ≡ weigh_as f o a extra + n
card_more f None a extra cs n h = omega (arith, h)
card_more f (Some kind) a extra cs n h = omega (arith, h)

-- the cards weigh as their sockets' do
pub cards_weigh : (groups : List Group) (f : Card → ℕ) (sockets : List Socket) → total f (cards_of groups sockets) ≡ total (card_weight groups f) sockets
cards_weigh groups f [] = refl
cards_weigh groups f (s ∷ rest) =
    card_more f (kind_of s.owner.state) s.owner (λ kind. extra_as kind groups s) (cards_of groups rest) (total (card_weight groups f) rest) (cards_weigh groups f rest)

same_names : (n : ℕ) (a b : Socket) → NamesDiffer a b → has_name n a ≡ true → has_name n b ≡ true → ⊥
same_names n a b q x y = q (eqb-true a.owner.name n x ∙ sym (eqb-true b.owner.name n y))

-- no two sockets have one name
pub name_once : (n : ℕ) (xs : List Socket) → Pairs NamesDiffer xs → total (ind (has_name n)) xs ≤ 1
name_once n xs h = pairs_once NamesDiffer (has_name n) xs (same_names n) h

-- a socket that is found is the only one of its name
pub only_named : (q : Socket → Bool) (xs : List Socket) (s : Socket) (n : ℕ) → find q xs ≡ Some s → s.owner.name ≡ n → Pairs NamesDiffer xs → Only (has_name n) s xs
only_named q xs s n found is h = only_found (has_name n) q xs s found (eq-eqb s.owner.name n is) (name_once n xs h)

-- two that have the four-tuple of one have one four-tuple
tuples_meet : (a b c : Owner) → have_one_tuple a b ≡ true → have_one_tuple a c ≡ true → have_one_tuple b c ≡ true
tuples_meet a b c x y =
    let p : PartsAgree (owner_tuple a) (owner_tuple b) = parts_agree (owner_tuple a) (owner_tuple b) x in
    let q : PartsAgree (owner_tuple a) (owner_tuple c) = parts_agree (owner_tuple a) (owner_tuple c) y in
    rw (eq-eqb b.net c.net (sym p.net ∙ q.net), eq-eqb b.addr c.addr (sym p.local ∙ q.local), eq-eqb b.port c.port (sym p.lport ∙ q.lport), eq-eqb b.remote c.remote (sym p.remote ∙ q.remote), eq-eqb b.rport c.rport (sym p.rport ∙ q.rport)) refl

waits_hold : (st : State) → is_time_wait st ≡ true → holds_tuple st ≡ true
waits_hold states.TimeWait h = refl
waits_hold states.Unbound h = absurd (cc)
waits_hold states.Bound h = absurd (cc)
waits_hold states.Listening h = absurd (cc)
waits_hold states.Full h = absurd (cc)
waits_hold states.Request h = absurd (cc)

two_wait : (a : Owner) (x y : Socket) → TuplesDiffer x y → waits_at a x ≡ true → waits_at a y ≡ true → ⊥
two_wait a x y q wx wy =
    let p = and_parts (is_time_wait x.owner.state) (have_one_tuple a x.owner) wx in
    let r = and_parts (is_time_wait y.owner.state) (have_one_tuple a y.owner) wy in
    let differ = q (waits_hold x.owner.state p.0) (waits_hold y.owner.state r.0) in
    let meet : have_one_tuple x.owner y.owner ≡ true = tuples_meet a x.owner y.owner p.1 r.1 in
    absurd (cc)

-- a four-tuple has one TIME_WAIT at most
pub wait_once : (a : Owner) (xs : List Socket) → Pairs TuplesDiffer xs → total (ind (waits_at a)) xs ≤ 1
wait_once a xs h = pairs_once TuplesDiffer (waits_at a) xs (two_wait a) h

put_at : (g : Socket → ℕ) (b : Bool) (new x : Socket) → g (cond b new x) + cond b (g x) 0 ≡ g x + cond b (g new) 0
put_at g true new x = omega arith
put_at g false new x = omega arith

put_all : (g : Socket → ℕ) (new : Socket) (xs : List Socket) → total g (put new xs) + total (only (has_name new.owner.name) g) xs ≡ total g xs + total (only (has_name new.owner.name) (λ (x : Socket). g new)) xs
put_all g new [] = refl
put_all g new (x ∷ xs) = omega (arith, put_at g (has_name new.owner.name x) new x, put_all g new xs)

-- one socket weighs as the new one of its name now
pub put_weighs : (g : Socket → ℕ) (new s : Socket) (xs : List Socket) → Only (has_name new.owner.name) s xs → total g (put new xs) + g s ≡ total g xs + g new
put_weighs g new s xs o = omega (arith, put_all g new xs, o g, o (λ (x : Socket). g new))

-- one socket weighs nothing any more
pub without_weighs : (g : Socket → ℕ) (name : ℕ) (s : Socket) (xs : List Socket) → Only (has_name name) s xs → total g (without name xs) + g s ≡ total g xs
without_weighs g name s xs o = without_only (has_name name) g s xs o

-- one socket weighs besides
pub added_weighs : (g : Socket → ℕ) (new : Socket) (xs : List Socket) → total g (xs ++ new ∷ []) ≡ total g xs + g new
added_weighs g new xs = omega (arith, total-append g xs (new ∷ []))
