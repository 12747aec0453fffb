-- Where a socket of one's own stands: its card there is the list's, and it stays as others come and go.
use Rattle.std.proofs.Common.{◌≡◌, ◌≢◌, ℕ, ◌+◌, ◌<◌, ◌≤◌, ◌==◌, Bool, true, false, ◌&&◌, ◌||◌, not, cond, List, [], ◌∷◌, map, filter, find, length, get_or, set, Option, Some, None, refl, ap, sym, ◌∙◌, subst, inl, inr, ◌⊎◌, arith}
use Rattle.std.specs.List.{list_any}
use Rattle.std.proofs.lemmas.Bool.{cases_eq, eq-eqb, eqb-true, ne_eqb, and_parts, and_from}
use Rattle.std.proofs.lemmas.List.{get_or-set_same, get_or-set_other}
use Rattle.list_words.specs.Lists.{Each, total}
use Rattle.list_words.proofs.EachLemmas.{found_passes, each_unmap}
use Rattle.sock_card.specs.declared.card.Card.{Card}
use Rattle.sock_card.specs.declared.card.Kind.{Kind}
use Rattle.sock_card.specs.declared.owner.Owner.{Owner}
use Rattle.chain_book.specs.declared.shape.Shape.{Shape}
use Rattle.chain_book.specs.declared.outcome.Hashed.{Hashed}
use Rattle.chain_book.specs.Chains.{Chains, row_at, home_in, has_slot, placed, unhashed}
use Rattle.flat_list.specs.declared.header.Header.{Header}
use Rattle.flat_list.specs.declared.socket.Socket.{Socket}
use Rattle.flat_list.specs.Flat.{Flat}
use Rattle.flat_list.specs.Look.{extra_as}
use Rattle.flat_list.specs.Sockets.{kind_of, has_name, is_open_in}
use Rattle.table_model.specs.Means.{ChainsMean, StandsAs, owner_of, owner_in}
use Rattle.table_model.specs.Own.{Mine, card_of}
use Rattle.table_model.proofs.lists.Passing.{Weighs, nothing_at, only, ind, Only, any_weighs, found_counts, only_found, total_same, each_zero, without_only, none_weigh}
use Rattle.table_model.proofs.lists.Rows.{weigh, weigh_set, row_least, within}
use Rattle.table_model.proofs.parts.Chains.{Holds, Weighing, holds, means, weighing, unhashed_holds, alone_in}
use Rattle.table_model.proofs.parts.Cards.{weigh_as, card_weight, cards_weigh}
use Rattle.table_model.proofs.questions.Replaced.{some_found}

none_in_rows : {A : Type 0} (p : A → Bool) (g : A → ℕ) (rows : List (List A)) → weigh (ind p) rows ≡ 0 → weigh (only p g) rows ≡ 0
none_in_rows p g [] h = refl
none_in_rows p g (r ∷ rs) h = omega (arith, none_weigh p g r (omega (arith, h)), none_in_rows p g rs (omega (arith, h)))

-- of all items of the rows one passes that was found in a row
only_in_rows : {A : Type 0} (p q : A → Bool) (g : A → ℕ) (rows : List (List A)) (b : ℕ) (x : A) → find q (get_or rows b []) ≡ Some x → p x ≡ true → weigh (ind p) rows ≤ 1 → weigh (only p g) rows ≡ g x
only_in_rows p q g rows b x found px one =
    let inside : b < length rows = within q rows b x found in
    let least : total (ind p) (get_or rows b []) ≤ 1 = omega (arith, row_least (ind p) rows b) in
    let some : 1 ≤ total (ind p) (get_or rows b []) = found_counts p q (get_or rows b []) x found px in
    let nothing : weigh (ind p) (set rows b []) ≡ 0 = omega (arith, weigh_set (ind p) rows b [] inside) in
    omega (arith, weigh_set (only p g) rows b [] inside, none_in_rows p g (set rows b []) nothing, only_found p q (get_or rows b []) x found px least g)

by_name : (n : ℕ) (f : Card → ℕ) (k : Option Kind) (o : Owner) (extra : Kind → ℕ) → weigh_as (only (λ (y : Card). y.name == n) f) k o extra ≡ cond (o.name == n) (weigh_as f k o extra) 0
by_name n f None o extra = sym (nothing_at (o.name == n))
by_name n f (Some kind) o extra = refl

-- by name, cards weigh in the chains as the one socket of that name
named_weigh : (c : Chains) (flat : Flat) (m : ChainsMean c flat) (n : ℕ) (s : Socket) (f : Card → ℕ) → Only (has_name n) s flat.sockets
    → weigh (only (λ (y : Hashed). y.card.name == n) (λ (y : Hashed). f y.card)) c.rows ≡ card_weight flat.groups f s
named_weigh c flat m n s f o =
    m.cards (only (λ (y : Card). y.name == n) f) ∙ (cards_weigh flat.groups (only (λ (y : Card). y.name == n) f) flat.sockets
    ∙ (total_same (card_weight flat.groups (only (λ (y : Card). y.name == n) f)) (only (has_name n) (card_weight flat.groups f)) flat.sockets
    (λ y. by_name n f (kind_of y.owner.state) y.owner (λ kind. extra_as kind flat.groups y))
    ∙ o (card_weight flat.groups f)))

one_card : (k : Option Kind) (o : Owner) (extra : Kind → ℕ) → weigh_as (λ (y : Card). 1) k o extra ≤ 1
one_card None o extra = omega arith
one_card (Some kind) o extra = omega arith

-- the card that stands there under a socket's name is the socket's
pub card_is : (c : Chains) (flat : Flat) (m : ChainsMean c flat) (n : ℕ) (s : Socket) (q : Hashed → Bool) (b : ℕ) (x : Hashed) → Only (has_name n) s flat.sockets
    → find q (row_at c b) ≡ Some x → x.card.name ≡ n → (f : Card → ℕ) → f x.card ≡ card_weight flat.groups f s
card_is c flat m n s q b x o found name f =
    sym (only_in_rows (λ (y : Hashed). y.card.name == n) q (λ (y : Hashed). f y.card) c.rows b x found (eq-eqb x.card.name n name)
    (omega (arith, named_weigh c flat m n s (λ (y : Card). 1) o, one_card (kind_of s.owner.state) s.owner (λ kind. extra_as kind flat.groups s))))
    ∙ named_weigh c flat m n s f o

any_at : (b : Bool) (n : ℕ) → Weighs b n → b ≡ true → 1 ≤ n
any_at b n h e = h.0 e

-- an item in the slot and under the name of a place
abbrev pub stands_test : Mine → Hashed → Bool
stands_test m x = has_slot m.place.slot x && (x.card.name == m.owner.name)

-- what stands in a place, by its slot and name
pub record StandsThere (c : Chains) (m : Mine) (x : Hashed) : Type 0 where
  pub found : find (stands_test m) (row_at c m.place.bucket) ≡ Some x
  pub slot : x.slot ≡ m.place.slot
  pub name : x.card.name ≡ m.owner.name

stands_parts : (c : Chains) (m : Mine) (x : Hashed) → find (stands_test m) (row_at c m.place.bucket) ≡ Some x → StandsThere c m x
stands_parts c m x f =
    let parts = and_parts (has_slot m.place.slot x) (x.card.name == m.owner.name) (found_passes (stands_test m) (row_at c m.place.bucket) x f) in
    record { found = f; slot = eqb-true x.slot m.place.slot parts.0; name = eqb-true x.card.name m.owner.name parts.1 }

-- who stands in its place is found there
pub stands_there : (c : Chains) (m : Mine) (kind : Kind) → StandsAs c m (Some kind) → (x : Hashed) × StandsThere c m x
stands_there c m kind st =
    let some = some_found (stands_test m) (row_at c m.place.bucket) (any_at _ _ (any_weighs (stands_test m) (row_at c m.place.bucket)) st.0) in
    (some.0, stands_parts c m some.0 some.1)

-- a socket of one's own has left its chain, and the list
pub left_means : (c : Chains) (flat left : Flat) (m : Mine) (kind : Kind) (s : Socket) → ChainsMean c flat → left.header ≡ flat.header → StandsAs c m (Some kind) → Only (has_name m.owner.name) s flat.sockets
    → ((f : Card → ℕ) → weighing left f + card_weight flat.groups f s ≡ weighing flat f) → ChainsMean (unhashed c m.place) left
left_means c flat left m kind s mean same st o less =
    let there = stands_there c m kind st in
    let x : Hashed = there.0 in
    let t : StandsThere c m x = there.1 in
    let gone : Holds (unhashed c (record { bucket = m.place.bucket; slot = x.slot })) flat.header.shape flat.header.seed (weighing left) =
    unhashed_holds c flat.header.shape flat.header.seed (weighing flat) (holds c flat mean) m.place.bucket (stands_test m) x (weighing left) t.found
    (λ f. omega (arith, less f, card_is c flat mean m.owner.name s (stands_test m) m.place.bucket x o t.found t.name f)) in
    let here : Holds (unhashed c m.place) flat.header.shape flat.header.seed (weighing left) =
    subst (λ (k : ℕ). Holds (unhashed c (record { bucket = m.place.bucket; slot = k })) flat.header.shape flat.header.seed (weighing left)) t.slot gone in
    means (unhashed c m.place) left (subst (λ (h : Header). Holds (unhashed c m.place) h.shape h.seed (weighing left)) (sym same) here)

any_more : {A : Type 0} (p : A → Bool) (b : Bool) (xs : List A) → list_any p xs ≡ true → (b || list_any p xs) ≡ true
any_more p true xs h = refl
any_more p false xs h = h

stand_placed_by : (c : Chains) (b slot : ℕ) (card : Card) (p : Hashed → Bool) (k : ℕ) → (k ≡ b) ⊎ (k ≢ b) → b < length c.rows → list_any p (row_at c k) ≡ true → list_any p (row_at (placed c b slot card) k) ≡ true
stand_placed_by c b slot card p k (inl e) l h =
    let new : Hashed = record { slot = slot; card = card } in
    subst (λ (j : ℕ). list_any p (get_or (set c.rows b (new ∷ row_at c b)) j []) ≡ true) (sym e)
    (subst (λ (r : List Hashed). list_any p r ≡ true) (sym (get_or-set_same c.rows b (new ∷ row_at c b) [] l))
    (any_more p (p new) (row_at c b) (subst (λ (j : ℕ). list_any p (row_at c j) ≡ true) e h)))
stand_placed_by c b slot card p k (inr q) l h =
    subst (λ (r : List Hashed). list_any p r ≡ true) (sym (get_or-set_other c.rows b k (record { slot = slot; card = card } ∷ row_at c b) [] q)) h

-- where some stand, they stand as a card comes
pub stand_placed : (c : Chains) (b slot : ℕ) (card : Card) (m : Mine) (kind : Option Kind) → b < length c.rows → StandsAs c m kind → StandsAs (placed c b slot card) m kind
stand_placed c b slot card m None l st = tt
stand_placed c b slot card m (Some kind) l st = (stand_placed_by c b slot card (stands_test m) m.place.bucket (cases_eq m.place.bucket b) l st.0, st.1)

any_true : (b : Bool) (n : ℕ) → Weighs b n → 1 ≤ n → b ≡ true
any_true true n h l = refl
any_true false n h l = absurd (omega (arith, h.1 refl))

any_from : {A : Type 0} (p : A → Bool) (xs : List A) → 1 ≤ total (ind p) xs → list_any p xs ≡ true
any_from p xs l = any_true (list_any p xs) (total (ind p) xs) (any_weighs p xs) l

no_second : (p q : Bool) → q ≡ false → cond {A = ℕ} (p && q) 1 0 ≡ 0
no_second true q e = ap (λ (b : Bool). cond {A = ℕ} b 1 0) e
no_second false q e = refl

name_differs : (x : Hashed) (m : Mine) → x.card.name ≢ m.owner.name → cond {A = ℕ} (stands_test m x) 1 0 ≡ 0
name_differs x m q = no_second (has_slot m.place.slot x) (x.card.name == m.owner.name) (ne_eqb x.card.name m.owner.name q)

module _ (c : Chains) (shape : Shape) (seed : ℕ) (w : Weighing) (h : Holds c shape seed w) (b : ℕ) (q : Hashed → Bool) (x : Hashed) (found : find q (row_at c b) ≡ Some x) (m : Mine) (differs : x.card.name ≢ m.owner.name) where
  abbrev left : List Hashed
  left = filter (λ y. not (has_slot x.slot y)) (row_at c b)

  stays_in_row : list_any (stands_test m) (row_at c b) ≡ true → list_any (stands_test m) left ≡ true
  stays_in_row st =
      any_from (stands_test m) left
      (omega (arith, (any_weighs (stands_test m) (row_at c b)).0 st, without_only (has_slot x.slot) (ind (stands_test m)) x (row_at c b) (alone_in c shape seed w h b q x found), name_differs x m differs))

  stays_by : (k : ℕ) → (k ≡ b) ⊎ (k ≢ b) → list_any (stands_test m) (row_at c k) ≡ true → list_any (stands_test m) (get_or (set c.rows b left) k []) ≡ true
  stays_by k (inl e) st =
      subst (λ (j : ℕ). list_any (stands_test m) (get_or (set c.rows b left) j []) ≡ true) (sym e)
      (subst (λ (r : List Hashed). list_any (stands_test m) r ≡ true) (sym (get_or-set_same c.rows b left [] (within q c.rows b x found)))
      (stays_in_row (subst (λ (j : ℕ). list_any (stands_test m) (row_at c j) ≡ true) e st)))
  stays_by k (inr n) st = subst (λ (r : List Hashed). list_any (stands_test m) r ≡ true) (sym (get_or-set_other c.rows b k left [] n)) st

  -- where one stands, it stands as the card of another goes
  pub stand_unhashed : (kind : Option Kind) → StandsAs c m kind → StandsAs (unhashed c (record { bucket = b; slot = x.slot })) m kind
  stand_unhashed None st = tt
  stand_unhashed (Some kind) st = (stays_by m.place.bucket (cases_eq m.place.bucket b) st.0, st.1)

first_any : {A : Type 0} (p : A → Bool) (x : A) (xs : List A) → p x ≡ true → list_any p (x ∷ xs) ≡ true
first_any p x xs h = rw h refl

-- who has just come stands in its place
pub stand_new : (c : Chains) (m : Mine) (kind : Kind) → m.place.bucket ≡ home_in c (card_of kind m) → m.place.bucket < length c.rows → StandsAs (placed c (home_in c (card_of kind m)) m.place.slot (card_of kind m)) m (Some kind)
stand_new c m kind home inside =
    let b : ℕ = m.place.bucket in
    let new : Hashed = record { slot = m.place.slot; card = card_of kind m } in
    let here : list_any (stands_test m) (row_at (placed c b m.place.slot (card_of kind m)) b) ≡ true =
    subst (λ (r : List Hashed). list_any (stands_test m) r ≡ true) (sym (get_or-set_same c.rows b (new ∷ row_at c b) [] inside))
    (first_any (stands_test m) new (row_at c b) (and_from (has_slot m.place.slot new) (new.card.name == m.owner.name) (eq-eqb m.place.slot m.place.slot refl) (eq-eqb m.owner.name m.owner.name refl))) in
    (subst (λ (j : ℕ). list_any (stands_test m) (row_at (placed c j m.place.slot (card_of kind m)) b) ≡ true) home here, home)

mine_at : (n k : ℕ) (b : Bool) (y : Socket) (ys : List Socket) → (b ≡ true → k ≢ y.owner.name) → Each (λ (a : Owner). k ≢ a.name) (map owner_of ys) → Each (λ (a : Owner). k ≢ a.name) (map owner_of (cond b (y ∷ ys) ys))
mine_at n k true y ys h rest = (h refl, rest)
mine_at n k false y ys h rest = rest

not_both : (p q : Bool) → cond {A = ℕ} p (cond {A = ℕ} q 1 0) 0 ≡ 0 → p ≡ true → q ≡ true → ⊥
not_both true true h e f = absurd (omega (arith, h))
not_both true false h e f = absurd (cc)
not_both false q h e f = absurd (cc)

mine_differ : (n k : ℕ) (sockets : List Socket) → Each (λ (y : Socket). only (has_name k) (ind (is_open_in n)) y ≡ 0) sockets → Each (λ (a : Owner). k ≢ a.name) (map owner_of (filter (is_open_in n) sockets))
mine_differ n k [] h = tt
mine_differ n k (y ∷ ys) h =
    mine_at n k (is_open_in n y) y (filter (is_open_in n) ys) (λ e named. not_both (has_name k y) (is_open_in n y) h.0 (eq-eqb y.owner.name k (sym named)) e) (mine_differ n k ys h.1)

-- a name that none of the section's open sockets has, since a socket of the list has it that isn't one of them
pub no_such_name : (n k : ℕ) (s : Socket) (sockets : List Socket) (ms : List Mine) → Only (has_name k) s sockets → is_open_in n s ≡ false
    → map owner_in ms ≡ map owner_of (filter (is_open_in n) sockets) → Each (λ (m : Mine). k ≢ m.owner.name) ms
no_such_name n k s sockets ms o not_mine same =
    let none : Each (λ (y : Socket). only (has_name k) (ind (is_open_in n)) y ≡ 0) sockets = each_zero (only (has_name k) (ind (is_open_in n))) sockets (o (ind (is_open_in n)) ∙ ap (λ (b : Bool). cond {A = ℕ} b 1 0) not_mine) in
    each_unmap (λ (a : Owner). k ≢ a.name) owner_in ms (subst (Each (λ (a : Owner). k ≢ a.name)) (sym same) (mine_differ n k sockets none))
