-- Tables in which the card of a full socket or a request was inserted: who stands there, and what of the buckets.
use Rattle.std.proofs.Common.{◌≡◌, ◌≢◌, ℕ, ◌+◌, ◌%◌, ◌^◌, ◌<◌, Bool, true, false, ◌&&◌, cond, List, [], ◌∷◌, map, filter, find, length, Option, Some, None, refl, ap, sym, ◌∙◌, subst}
use Rattle.std.proofs.lemmas.Bool.{eq-eqb}
use Rattle.list_words.specs.Lists.{Each}
use Rattle.list_words.proofs.EachLemmas.{each_found, each_of_all}
use Rattle.sock_card.specs.declared.card.Card.{Card}
use Rattle.sock_card.specs.declared.card.Kind.{Kind}
use Rattle.sock_card.specs.declared.owner.Owner.{Owner}
use Rattle.sock_card.specs.Conflict.{is_time_wait}
use Rattle.chain_book.specs.declared.shape.Shape.{Shape}
use Rattle.chain_book.specs.declared.outcome.Hashed.{Hashed}
use Rattle.chain_book.specs.Chains.{Chains, row_at, home_in, waits, without_replaced}
use Rattle.chain_book.specs.Homes.{home}
use Rattle.chain_book.specs.Slots.{free_slot}
use Rattle.flat_list.specs.declared.socket.Socket.{Socket}
use Rattle.flat_list.specs.Flat.{Flat}
use Rattle.flat_list.specs.Groups.{Group, has_member}
use Rattle.flat_list.specs.Sockets.{has_name, have_one_tuple, waits_at, without, without_waiting, is_open_in}
use Rattle.flat_list.specs.Sound.{IsSound, IsInOneGroup, IsAwakeIfNamed}
use Rattle.table_model.specs.Tables.{Tables}
use Rattle.table_model.specs.Own.{Mine}
use Rattle.table_model.proofs.parts.Claims.{claim_kind, claim_card, claimed_in}
use Rattle.table_model.specs.Means.{ChainsMean, GroupsMean, StandsAs, IsShape, stands_in_some, owner_in, owner_of}
use Rattle.table_model.proofs.parts.Chains.{weighing}
use Rattle.table_model.proofs.questions.Inserts.{after_put, held, inside, still_found}
use Rattle.table_model.proofs.questions.Replaced.{Replaces, replaces, replaces_none}
use Rattle.table_model.proofs.parts.Places.{stand_placed, stand_unhashed, stand_new, no_such_name}
use Rattle.table_model.proofs.parts.MemberPlaces.{EachWord, words_weaken, words_both, words_differ, some_placed, some_unhashed, wait_in_no_group}
use Rattle.table_model.proofs.parts.OwnWaits.{wait_not_mine}

-- the list without what was replaced
abbrev pub drop_old : Option Hashed → List Socket → List Socket
drop_old None xs = xs
drop_old (Some x) xs = without x.card.name xs

-- a name isn't that of what was replaced
abbrev pub NotOld : Option Hashed → ℕ → Type 0
NotOld None k = Unit {0}
NotOld (Some x) k = x.card.name ≢ k

find_same : {A : Type 0} (p q : A → Bool) (xs : List A) → Each (λ y. p y ≡ q y) xs → find p xs ≡ find q xs
find_same p q [] h = refl
find_same p q (x ∷ xs) h = ap (λ (b : Bool). cond b (Some x) (find p xs)) h.0 ∙ ap (λ o. cond (q x) (Some x) o) (find_same p q xs h.1)

-- what a chain finds of the four-tuple, as a socket of the list
abbrev pub OldListed : Owner → Option Hashed → Flat → Type 0
OldListed a None flat = Unit {0}
OldListed a (Some x) flat = (s : Socket) × Replaces flat a x s

-- the socket whose TIME_WAIT is replaced is the first of its name
pub old_listed : (flat : Flat) (a : Owner) (x : Hashed) (s : Socket) → Replaces flat a x s → find (has_name x.card.name) flat.sockets ≡ Some s
old_listed flat a x s r = sym (find_same (waits_at a) (has_name x.card.name) flat.sockets r.same) ∙ r.found

-- a socket that doesn't wait has another name than what is replaced
pub other_name : (flat : Flat) (a : Owner) (x : Hashed) (s : Socket) (q : Socket → Bool) (y : Socket) → Replaces flat a x s → find q flat.sockets ≡ Some y → is_time_wait y.owner.state ≡ false → x.card.name ≢ y.owner.name
other_name flat a x s q y r found awake = λ e.
    let same : waits_at a y ≡ has_name x.card.name y = each_found (λ (z : Socket). waits_at a z ≡ has_name x.card.name z) q flat.sockets y r.same found in
    let no : waits_at a y ≡ false = ap (λ (b : Bool). b && have_one_tuple a y.owner) awake in
    let yes : has_name x.card.name y ≡ true = eq-eqb y.owner.name x.card.name (sym e) in
    absurd (cc)

module _ (c : Chains) (flat : Flat) (m : ChainsMean c flat) (sound : IsSound flat) (a : Owner) where
  abbrev old_row : List Hashed
  old_row = row_at c (home_in c (claim_card a))

  -- what is found there is in the list
  pub listed_by : (old : Option Hashed) → find (waits (claim_card a)) old_row ≡ old → OldListed a old flat
  listed_by None e = tt
  listed_by (Some x) e = replaces c flat a m sound x e

  -- the list drops it
  pub dropped_by : (old : Option Hashed) → find (waits (claim_card a)) old_row ≡ old → without_waiting a flat.sockets ≡ drop_old old flat.sockets
  dropped_by None e = replaces_none c flat a m sound e
  dropped_by (Some x) e = (replaces c flat a m sound x e).1.dropped

module _ (c : Chains) (flat : Flat) (m : ChainsMean c flat) (shape : IsShape flat.header) (sound : IsSound flat) (a : Owner) (slot : ℕ) (free : free_slot c.slots ≡ Some slot) where
  abbrev card : Card
  card = claim_card a

  abbrev b : ℕ
  b = home_in c card

  abbrev here : Chains
  here = after_put c flat m shape sound a slot free

  -- who stood there stands there still
  pub stand_hashed : (old : Option Hashed) → find (waits card) (row_at c b) ≡ old → (x : Mine) (kind : Option Kind) → NotOld old x.owner.name → StandsAs c x kind → StandsAs (without_replaced here b old) x kind
  stand_hashed None e x kind differs st = stand_placed c b slot card x kind (inside c flat m shape sound a slot free) st
  stand_hashed (Some y) e x kind differs st =
      stand_unhashed here flat.header.shape flat.header.seed (λ f. weighing flat f + f card) (held c flat m shape sound a slot free) b (waits card) y (still_found c flat m shape sound a slot free y e) x differs kind
      (stand_placed c b slot card x kind (inside c flat m shape sound a slot free) st)

  -- the socket that comes, with its place
  abbrev pub newcomer : Mine
  newcomer = claimed_in flat.header.shape flat.header.seed a slot

  came : StandsAs here newcomer (Some (claim_kind a.state))
  came =
      let home : newcomer.place.bucket ≡ home_in c card =
      ap (λ (x : Shape). home x flat.header.seed card) (sym m.shape) ∙ ap (λ (k : ℕ). home c.shape k card) (sym m.seed) in
      stand_new c newcomer (claim_kind a.state) home (subst (λ (k : ℕ). k < length c.rows) (sym home) (inside c flat m shape sound a slot free))

  -- and who has come stands in its place
  pub stand_newcomer : (old : Option Hashed) → find (waits card) (row_at c b) ≡ old → NotOld old a.name → StandsAs (without_replaced here b old) newcomer (Some (claim_kind a.state))
  stand_newcomer None e differs = came
  stand_newcomer (Some y) e differs =
      stand_unhashed here flat.header.shape flat.header.seed (λ f. weighing flat f + f card) (held c flat m shape sound a slot free) b (waits card) y (still_found c flat m shape sound a slot free y e) newcomer differs (Some (claim_kind a.state)) came

  -- so do members of groups
  pub words_hashed : (old : Option Hashed) → find (waits card) (row_at c b) ≡ old → (t : Tables) → t.chains ≡ c → GroupsMean t flat
      → EachWord (λ w. stands_in_some w (without_replaced here b old).rows ≡ true) t.buckets
  words_hashed None e t is gm =
      words_weaken (λ w. stands_in_some w t.chains.rows ≡ true) (λ w. stands_in_some w here.rows ≡ true) t.buckets
      (λ w st. some_placed c b slot card w (inside c flat m shape sound a slot free) (subst (λ (d : Chains). stands_in_some w d.rows ≡ true) is st)) gm.stand
  words_hashed (Some y) e t is gm =
      let rep = replaces c flat a m sound y e in
      let name : y.card.name ≡ rep.0.owner.name = rep.1.card (λ (z : Card). z.name) in
      let none : Each (λ (g : Group). has_member rep.0.owner.name g ≡ false) flat.groups =
      wait_in_no_group flat rep.0 (each_found (IsInOneGroup flat.groups) (waits_at a) flat.sockets rep.0 sound.grouped.sharing rep.1.found) rep.1.waits_there in
      words_both (λ w. stands_in_some w t.chains.rows ≡ true) (λ w. y.card.name ≢ w % 2 ^ 64) (λ w. stands_in_some w (without_replaced here b (Some y)).rows ≡ true) t.buckets
      (λ w st differs.
      some_unhashed here flat.header.shape flat.header.seed (λ f. weighing flat f + f card) (held c flat m shape sound a slot free) b (waits card) y (still_found c flat m shape sound a slot free y e) w differs
      (some_placed c b slot card w (inside c flat m shape sound a slot free) (subst (λ (d : Chains). stands_in_some w d.rows ≡ true) is st)))
      gm.stand
      (words_differ t flat y.card.name gm (subst (λ (k : ℕ). Each (λ (g : Group). has_member k g ≡ false) flat.groups) (sym name) none))

  -- none of a section's open sockets has the name of what is replaced
  pub names_not_old : (old : Option Hashed) → find (waits card) (row_at c b) ≡ old → (n : ℕ) (ms : List Mine) → map owner_in ms ≡ map owner_of (filter (is_open_in n) flat.sockets)
      → Each (λ (x : Mine). NotOld old x.owner.name) ms
  names_not_old None e n ms same = each_of_all (λ (x : Mine). Unit {0}) ms (λ x. tt)
  names_not_old (Some y) e n ms same =
      let rep = replaces c flat a m sound y e in
      no_such_name n y.card.name rep.0 flat.sockets ms rep.1.named
      (wait_not_mine n rep.0 (each_found IsAwakeIfNamed (waits_at a) flat.sockets rep.0 sound.awake rep.1.found) rep.1.waits_there) same
