-- One card comes into its chain, and then a socket's own leaves: what the chains mean, and who stands in its place.
use Rattle.std.proofs.Common.{◌≡◌, ◌≢◌, ℕ, ◌+◌, ◌%◌, ◌^◌, ◌≤◌, ◌<◌, ◌==◌, Bool, true, false, cond, List, [], ◌∷◌, length, find, Option, Some, ◌⊎◌, inl, inr, refl, ap, sym, ◌∙◌, subst, arith}
use Rattle.std.proofs.lemmas.Bool.{cases_eq, cond-false, eq-eqb, ne_eqb, and_left}
use Rattle.std.proofs.lemmas.List.{get_or-set_same, get_or-set_other}
use Rattle.list_words.specs.Lists.{Pairs, total}
use Rattle.sock_card.specs.declared.card.Card.{Card}
use Rattle.sock_card.specs.declared.card.Kind.{Kind}
use Rattle.chain_book.specs.declared.outcome.Place.{Place}
use Rattle.chain_book.specs.declared.outcome.Hashed.{Hashed}
use Rattle.chain_book.specs.declared.shape.Shape.{Shape}
use Rattle.chain_book.specs.Chains.{Chains, placed, unhashed, home_in, row_at, has_slot as in_slot}
use Rattle.chain_book.specs.Homes.{home}
use Rattle.chain_book.specs.Slots.{free_slot}
use Rattle.flat_list.specs.declared.socket.Socket.{Socket}
use Rattle.flat_list.specs.Flat.{Flat}
use Rattle.flat_list.specs.Sockets.{has_name}
use Rattle.flat_list.specs.Sound.{NamesDiffer}
use Rattle.table_model.specs.Own.{Mine, card_of}
use Rattle.table_model.specs.Operations.{place_of}
use Rattle.table_model.specs.Means.{ChainsMean, IsShape, StandsAs, stands_in_some}
use Rattle.table_model.proofs.lists.Passing.{Only, ind, found_counts}
use Rattle.table_model.proofs.lists.Rows.{row_least}
use Rattle.table_model.proofs.lists.Listed.{Listed}
use Rattle.table_model.proofs.parts.Slots.{free_is}
use Rattle.table_model.proofs.parts.Chains.{Holds, holds, means, weighing, unhashed_holds, home_below}
use Rattle.table_model.proofs.parts.Cards.{card_weight, only_named}
use Rattle.table_model.proofs.parts.Places.{stands_test, StandsThere, stands_there, stand_placed, stand_unhashed, stand_new, card_is}
use Rattle.table_model.proofs.parts.MemberPlaces.{some_placed, some_unhashed}
use Rattle.table_model.proofs.questions.Inserts.{added_holds}
use Rattle.table_model.proofs.questions.Asked.{with_sockets}

found_behind : {A : Type 0} (p : A → Bool) (new x : A) (xs : List A) → p new ≡ false → find p xs ≡ Some x → find p (new ∷ xs) ≡ Some x
found_behind p new x xs e h = cond-false (p new) (Some new) (find p xs) e ∙ h

-- what was found in a row is found there when a card comes that isn't that
still_found : (c : Chains) (b slot : ℕ) (card : Card) (p : Hashed → Bool) (k : ℕ) (x : Hashed) → (k ≡ b) ⊎ (k ≢ b) → b < length c.rows → p (record { slot = slot; card = card }) ≡ false
    → find p (row_at c k) ≡ Some x → find p (row_at (placed c b slot card) k) ≡ Some x
still_found c b slot card p k x (inl e) l fails h =
    let new : Hashed = record { slot = slot; card = card } in
    subst (λ (j : ℕ). find p (row_at (placed c b slot card) j) ≡ Some x) (sym e)
    (subst (λ (r : List Hashed). find p r ≡ Some x) (sym (get_or-set_same c.rows b (new ∷ row_at c b) [] l))
    (found_behind p new x (row_at c b) fails (subst (λ (j : ℕ). find p (row_at c j) ≡ Some x) e h)))
still_found c b slot card p k x (inr d) l fails h =
    subst (λ (r : List Hashed). find p r ≡ Some x) (sym (get_or-set_other c.rows b k (record { slot = slot; card = card } ∷ row_at c b) [] d)) h

-- the card of w comes as that kind, in a slot that was free; then that of s goes from its place
module _ (c : Chains) (flat : Flat) (mean : ChainsMean c flat) (shape : IsShape flat.header) (names : Pairs NamesDiffer flat.sockets)
    (s : Socket) (at : Listed s.owner.name flat.sockets s) (extra : ℕ) (place : Place) (kind : Kind) (stands : StandsAs c (record { owner = s.owner; extra = extra; place = place }) (Some kind))
    (w : Mine) (comes_as : Kind) (slot : ℕ) (free : free_slot c.slots ≡ Some slot) where
  abbrev m : Mine
  m = record { owner = s.owner; extra = extra; place = place }

  abbrev card : Card
  card = card_of comes_as w

  abbrev b : ℕ
  b = home_in c card

  abbrev between : Chains
  between = placed c b slot card

  -- the chains then
  abbrev pub handed : Chains
  handed = unhashed between place

  -- who has come, with its place
  abbrev pub newcomer : Mine
  newcomer = record w { place = place_of flat.header.shape flat.header.seed card slot }

  held : Holds between flat.header.shape flat.header.seed (λ f. weighing flat f + f card)
  held = added_holds c flat card slot mean shape free

  inside : b < length c.rows
  inside = omega (
    arith,
    home_below c.shape c.seed card (subst (λ (x : Shape). 1 ≤ x.hash) (sym mean.shape) shape.hash) (subst (λ (x : Shape). 1 ≤ x.listen) (sym mean.shape) shape.listen),
    mean.count,
  )

  -- what stands in the socket's place
  there : (x : Hashed) × StandsThere c m x
  there = stands_there c m kind stands

  abbrev x : Hashed
  x = there.0

  other_slot : slot ≢ place.slot
  other_slot e =
      let is = free_is c.slots slot free in
      let alone = (holds c flat mean).alone slot in
      let same : x.slot ≡ slot = there.1.slot ∙ sym e in
      let counts : 1 ≤ total (ind (in_slot slot)) (row_at c place.bucket) = found_counts (in_slot slot) (stands_test m) (row_at c place.bucket) x there.1.found (eq-eqb x.slot slot same) in
      absurd (omega (arith, counts, row_least (ind (in_slot slot)) c.rows place.bucket, alone, ap (λ (b : Bool). cond {A = ℕ} b 1 0) is.1))

  found : find (stands_test m) (row_at between place.bucket) ≡ Some x
  found =
      still_found c b slot card (stands_test m) place.bucket x (cases_eq place.bucket b) inside
      (and_left (slot == place.slot) (card.name == s.owner.name) (ne_eqb slot place.slot other_slot)) there.1.found

  in_place : (P : Chains → Type 0) → P (unhashed between (record { bucket = place.bucket; slot = x.slot })) → P handed
  in_place P p = subst (λ (k : ℕ). P (unhashed between (record { bucket = place.bucket; slot = k }))) there.1.slot p

  goes_weigh : (f : Card → ℕ) → f x.card ≡ card_weight flat.groups f s
  goes_weigh f =
      let one : Only (has_name s.owner.name) s flat.sockets = only_named (has_name s.owner.name) flat.sockets s s.owner.name at refl names in
      card_is c flat mean s.owner.name s (stands_test m) place.bucket x one there.1.found there.1.name f

  -- they mean a list in which the one card weighs in place of the other
  pub handed_means : (sockets : List Socket) → ((f : Card → ℕ) → weighing (with_sockets flat sockets) f + card_weight flat.groups f s ≡ weighing flat f + f card)
      → ChainsMean handed (with_sockets flat sockets)
  handed_means sockets weighs =
      means handed (with_sockets flat sockets)
      (in_place (λ c. Holds c flat.header.shape flat.header.seed (weighing (with_sockets flat sockets)))
      (unhashed_holds between flat.header.shape flat.header.seed (λ f. weighing flat f + f card) held place.bucket (stands_test m) x (weighing (with_sockets flat sockets)) found
      (λ f. omega (arith, weighs f, goes_weigh f))))

  gone_from : (y : Mine) (k : Option Kind) → s.owner.name ≢ y.owner.name → StandsAs between y k → StandsAs handed y k
  gone_from y k d st =
      in_place (λ c. StandsAs c y k)
      (stand_unhashed between flat.header.shape flat.header.seed (λ f. weighing flat f + f card) held place.bucket (stands_test m) x found y (λ e. d (sym there.1.name ∙ e)) k st)

  -- who stands elsewhere stays
  pub stays_handed : (y : Mine) (k : Option Kind) → s.owner.name ≢ y.owner.name → StandsAs c y k → StandsAs handed y k
  stays_handed y k d st = gone_from y k d (stand_placed c b slot card y k inside st)

  -- who has come stands in its place
  pub stands_handed : s.owner.name ≢ w.owner.name → StandsAs handed newcomer (Some comes_as)
  stands_handed d =
      let bucket : newcomer.place.bucket ≡ b = ap (λ (x : Shape). home x flat.header.seed card) (sym mean.shape) ∙ ap (λ (k : ℕ). home c.shape k card) (sym mean.seed) in
      gone_from newcomer (Some comes_as) d (stand_new c newcomer comes_as bucket (subst (λ (k : ℕ). k < length c.rows) (sym bucket) inside))

  -- and so do members of other names
  pub words_handed : (v : ℕ) → v % 2 ^ 64 ≢ s.owner.name → stands_in_some v c.rows ≡ true → stands_in_some v handed.rows ≡ true
  words_handed v d st =
      in_place (λ c. stands_in_some v c.rows ≡ true)
      (some_unhashed between flat.header.shape flat.header.seed (λ f. weighing flat f + f card) held place.bucket (stands_test m) x found v (λ e. d (sym e ∙ there.1.name))
      (some_placed c b slot card v inside st))
