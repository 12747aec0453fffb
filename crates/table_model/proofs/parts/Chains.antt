-- Chains that hold cards of some weights, each at home and in a slot of its own, as one card comes or goes.
use Rattle.std.proofs.Common.{◌≡◌, ◌≢◌, ℕ, ◌+◌, ◌<◌, ◌≤◌, ◌==◌, Bool, true, false, not, cond, List, [], ◌∷◌, filter, find, length, get_or, set, Some, refl, ap, sym, ◌∙◌, inl, inr, ◌⊎◌, arith}
use Rattle.std.proofs.lemmas.Bool.{cases_eq, cases_lt, eq-eqb, ne_eqb}
use Rattle.std.proofs.lemmas.List.{get_or-set_same, get_or-set_other, get_or_past, set_past, length-set}
use Rattle.list_words.specs.Lists.{Each, total}
use Rattle.list_words.proofs.EachLemmas.{each_filter}
use Rattle.sock_card.specs.declared.card.Card.{Card}
use Rattle.sock_card.specs.declared.card.Kind.{Kind}
use Rattle.sock_card.specs.declared.card.Kind.TheVariants as kinds
use Rattle.chain_book.specs.declared.shape.Shape.{Shape}
use Rattle.chain_book.specs.declared.outcome.Hashed.{Hashed}
use Rattle.chain_book.specs.Chains.{Chains, row_at, home_in, has_slot, placed, unhashed}
use Rattle.chain_book.specs.Homes.{chain_count, home, home_as}
use Rattle.flat_list.specs.Flat.{Flat}
use Rattle.flat_list.specs.Look.{cards_of, extra_as}
use Rattle.sock_card.specs.declared.owner.State.{State}
use Rattle.sock_card.specs.declared.owner.State.TheVariants as states
use Rattle.flat_list.specs.declared.socket.Socket.{Socket}
use Rattle.flat_list.specs.Groups.{Group}
use Rattle.flat_list.specs.Owned.{card_as}
use Rattle.flat_list.specs.Sockets.{kind_of, is_hashed, slots_used}
use Rattle.std.specs.List.{cons_option}
use Rattle.std.specs.Option.{option_map}
use Rattle.table_model.proofs.parts.Slots.{one_most, below_count, all_used}
use Rattle.table_model.specs.Means.{is_used, ChainsMean, weigh_cards, count_in_slot}
use Rattle.table_model.proofs.lists.Passing.{only, ind, Only, total_same, count_is, only_found, without_only}
use Rattle.table_model.proofs.lists.Rows.{weigh, weigh_set, row_least, each_set, within, home_row}

counted_by : (f : Kind → Card) (st : State) (cs : List Card) (n : ℕ) → total (λ (x : Card). 1) cs ≡ n → total (λ (x : Card). 1) (cons_option (option_map f (kind_of st)) cs) ≡ cond (is_hashed st) 1 0 + n
counted_by f states.Unbound cs n h = omega (arith, h)
counted_by f states.Bound cs n h = omega (arith, h)
counted_by f states.Listening cs n h = omega (arith, h)
counted_by f states.Full cs n h = omega (arith, h)
counted_by f states.TimeWait cs n h = omega (arith, h)
counted_by f states.Request cs n h = omega (arith, h)

abbrev hashed_in : Socket → Bool
hashed_in s = is_hashed s.owner.state

counted : (groups : List Group) (sockets : List Socket) → total (λ (x : Card). 1) (cards_of groups sockets) ≡ total (ind hashed_in) sockets
counted groups [] = refl
counted groups (s ∷ rest) =
    counted_by (λ kind. card_as kind s.owner (extra_as kind groups s)) s.owner.state (cards_of groups rest) (total (ind hashed_in) rest) (counted groups rest)

-- a card for each socket that takes a slot
pub cards_count : (groups : List Group) (sockets : List Socket) → total (λ (x : Card). 1) (cards_of groups sockets) ≡ slots_used sockets
cards_count groups sockets = counted groups sockets ∙ sym (count_is hashed_in sockets)

-- a card weighs so in all
abbrev pub Weighing : Type 0
Weighing = (Card → ℕ) → ℕ

-- the chains hold cards of these weights, each at home, and each in a slot of its own
pub record Holds (c : Chains) (shape : Shape) (seed : ℕ) (w : Weighing) : Type 0 where
  pub shape_is : c.shape ≡ shape
  pub seed_is : c.seed ≡ seed
  pub count : length c.rows ≡ chain_count c.shape
  pub cards : (f : Card → ℕ) → weigh_cards f c.rows ≡ w f
  pub homes : (bucket : ℕ) → Each (λ (x : Hashed). home_in c x.card ≡ bucket) (row_at c bucket)
  pub slots : length c.slots.used ≡ shape.slots
  pub next : c.slots.next ≤ length c.slots.used
  pub alone : (slot : ℕ) → weigh (ind (has_slot slot)) c.rows ≡ cond (get_or c.slots.used slot false) 1 0

-- as the cards of a list weigh
abbrev pub weighing : Flat → Weighing
weighing flat f = total f (cards_of flat.groups flat.sockets)

slots_weigh : (k : ℕ) (rows : List (List Hashed)) → count_in_slot k rows ≡ weigh (ind (has_slot k)) rows
slots_weigh k rows = total_same _ _ rows (λ row. count_is (has_slot k) row)

-- chains that mean a list hold its cards
pub holds : (c : Chains) (flat : Flat) → ChainsMean c flat → Holds c flat.header.shape flat.header.seed (weighing flat)
holds c flat m = record {
  shape_is = m.shape;
  seed_is = m.seed;
  count = m.count;
  cards = m.cards;
  homes = m.homes;
  slots = m.slots;
  next = m.next;
  alone = λ k. sym (slots_weigh k c.rows) ∙ m.alone k;
}

-- and the other way round
pub means : (c : Chains) (flat : Flat) → Holds c flat.header.shape flat.header.seed (weighing flat) → ChainsMean c flat
means c flat h = record {
  shape = h.shape_is;
  seed = h.seed_is;
  count = h.count;
  cards = h.cards;
  homes = h.homes;
  slots = h.slots;
  next = h.next;
  alone = λ k. slots_weigh k c.rows ∙ h.alone k;
  used = count_is is_used c.slots.used ∙ (sym (below_count c.slots.used) ∙ (sym (all_used c.rows c.slots.used h.alone) ∙ (h.cards (λ (x : Card). 1) ∙ cards_count flat.groups flat.sockets)));
}

-- weights that are the same
pub weighs_same : (c : Chains) (shape : Shape) (seed : ℕ) (w v : Weighing) → ((f : Card → ℕ) → v f ≡ w f) → Holds c shape seed w → Holds c shape seed v
weighs_same c shape seed w v e h = record {
  shape_is = h.shape_is;
  seed_is = h.seed_is;
  count = h.count;
  cards = λ f. h.cards f ∙ sym (e f);
  homes = h.homes;
  slots = h.slots;
  next = h.next;
  alone = h.alone;
}

home_by : (shape : Shape) (seed : ℕ) (card : Card) (kind : Kind) → 1 ≤ shape.hash → 1 ≤ shape.listen → home_as kind shape seed card < chain_count shape
home_by shape seed card kinds.Listen h l = omega arith
home_by shape seed card kinds.Full h l = omega arith
home_by shape seed card kinds.TimeWait h l = omega arith
home_by shape seed card kinds.Request h l = omega arith

-- a card's home is one of the chains
pub home_below : (shape : Shape) (seed : ℕ) (card : Card) → 1 ≤ shape.hash → 1 ≤ shape.listen → home shape seed card < chain_count shape
unfolding home
home_below shape seed card h l = home_by shape seed card card.kind h l

-- a row's cards weigh as those whose home it is
pub row_weigh : (c : Chains) (shape : Shape) (seed : ℕ) (w : Weighing) → Holds c shape seed w → (f : Card → ℕ) (b : ℕ)
    → total (λ (x : Hashed). f x.card) (row_at c b) ≡ w (only (λ card. home_in c card == b) f)
row_weigh c shape seed w h f b =
    home_row (λ (x : Hashed). f x.card) (λ (x : Hashed). home_in c x.card) c.rows b h.homes ∙ h.cards (only (λ card. home_in c card == b) f)

claimed_at : (used : List Bool) (slot k : ℕ) (n m : ℕ) → (k ≡ slot) ⊎ (k ≢ slot) → slot < length used → get_or used slot false ≡ false
    → n ≡ cond (get_or used k false) 1 0 → m ≡ n + cond (slot == k) 1 0 → m ≡ cond (get_or (set used slot true) k false) 1 0
claimed_at used slot k n m (inl e) l free is more =
    let was : get_or used k false ≡ false = ap (λ (j : ℕ). get_or used j false) e ∙ free in
    let now : get_or (set used slot true) k false ≡ true = ap (λ (j : ℕ). get_or (set used slot true) j false) e ∙ get_or-set_same used slot true false l in
    omega (arith, is, more, ap (λ (b : Bool). cond {A = ℕ} b 1 0) was, ap (λ (b : Bool). cond {A = ℕ} b 1 0) now, ap (λ (b : Bool). cond {A = ℕ} b 1 0) (eq-eqb slot k (sym e)))
claimed_at used slot k n m (inr q) l free is more =
    omega (arith, is, more, ap (λ (b : Bool). cond {A = ℕ} b 1 0) (get_or-set_other used slot k true false q), ap (λ (b : Bool). cond {A = ℕ} b 1 0) (ne_eqb slot k (λ e. q (sym e))))

released_same : (used : List Bool) (slot : ℕ) → (slot < length used) ⊎ (length used ≤ slot) → get_or (set used slot false) slot false ≡ false
released_same used slot (inl l) = get_or-set_same used slot false false l
released_same used slot (inr l) = ap (λ (u : List Bool). get_or u slot false) (set_past used slot false l) ∙ get_or_past used slot false l

released_at : (used : List Bool) (slot k : ℕ) (n m : ℕ) → (k ≡ slot) ⊎ (k ≢ slot)
    → n ≡ cond (get_or used k false) 1 0 → m + cond (slot == k) 1 0 ≡ n → m ≡ cond (get_or (set used slot false) k false) 1 0
released_at used slot k n m (inl e) is less =
    let now : get_or (set used slot false) k false ≡ false = ap (λ (j : ℕ). get_or (set used slot false) j false) e ∙ released_same used slot (cases_lt slot (length used)) in
    omega (arith, is, less, one_most (get_or used k false), ap (λ (b : Bool). cond {A = ℕ} b 1 0) now, ap (λ (b : Bool). cond {A = ℕ} b 1 0) (eq-eqb slot k (sym e)))
released_at used slot k n m (inr q) is less =
    omega (arith, is, less, ap (λ (b : Bool). cond {A = ℕ} b 1 0) (get_or-set_other used slot k false false q), ap (λ (b : Bool). cond {A = ℕ} b 1 0) (ne_eqb slot k (λ e. q (sym e))))

module _ (c : Chains) (shape : Shape) (seed : ℕ) (w : Weighing) (h : Holds c shape seed w) where
  -- a card comes into its chain, in a free slot
  pub placed_holds : (card : Card) (slot : ℕ) (v : Weighing) → home_in c card < length c.rows → slot < length c.slots.used → get_or c.slots.used slot false ≡ false
      → ((f : Card → ℕ) → v f ≡ w f + f card) → Holds (placed c (home_in c card) slot card) shape seed v
  placed_holds card slot v inside low free more =
      let b : ℕ = home_in c card in
      let new : Hashed = record { slot = slot; card = card } in
      record {
        shape_is = h.shape_is;
        seed_is = h.seed_is;
        count = length-set c.rows b (new ∷ row_at c b) ∙ h.count;
        cards = λ f. omega (arith, weigh_set (λ (x : Hashed). f x.card) c.rows b (new ∷ row_at c b) inside, h.cards f, more f);
        homes = each_set (λ k (x : Hashed). home_in c x.card ≡ k) c.rows b (new ∷ row_at c b) inside (refl, h.homes b) h.homes;
        slots = length-set c.slots.used slot true ∙ h.slots;
        next = omega (arith, length-set c.slots.used slot true);
        alone = λ k. claimed_at c.slots.used slot k (weigh (ind (has_slot k)) c.rows) _ (cases_eq k slot) low free (h.alone k)
            (omega (arith, weigh_set (ind (has_slot k)) c.rows b (new ∷ row_at c b) inside));
      }

  -- of the items of a row there is one in a slot
  pub alone_in : (b : ℕ) (q : Hashed → Bool) (x : Hashed) → find q (row_at c b) ≡ Some x → Only (has_slot x.slot) x (row_at c b)
  alone_in b q x found =
      only_found (has_slot x.slot) q (row_at c b) x found (eq-eqb x.slot x.slot refl)
      (omega (arith, row_least (ind (has_slot x.slot)) c.rows b, h.alone x.slot, one_most (get_or c.slots.used x.slot false)))

  -- a card that was found in a chain goes
  pub unhashed_holds : (b : ℕ) (q : Hashed → Bool) (x : Hashed) (v : Weighing) → find q (row_at c b) ≡ Some x → ((f : Card → ℕ) → v f + f x.card ≡ w f)
      → Holds (unhashed c (record { bucket = b; slot = x.slot })) shape seed v
  unhashed_holds b q x v found less =
      let inside : b < length c.rows = within q c.rows b x found in
      let left : List Hashed = filter (λ y. not (has_slot x.slot y)) (row_at c b) in
      let one : Only (has_slot x.slot) x (row_at c b) = alone_in b q x found in
      record {
        shape_is = h.shape_is;
        seed_is = h.seed_is;
        count = length-set c.rows b left ∙ h.count;
        cards = λ f. omega (arith, weigh_set (λ (y : Hashed). f y.card) c.rows b left inside, without_only (has_slot x.slot) (λ (y : Hashed). f y.card) x (row_at c b) one, h.cards f, less f);
        homes = each_set (λ k (y : Hashed). home_in c y.card ≡ k) c.rows b left inside (each_filter (λ (y : Hashed). home_in c y.card ≡ b) (λ y. not (has_slot x.slot y)) (row_at c b) (h.homes b)) h.homes;
        slots = length-set c.slots.used x.slot false ∙ h.slots;
        next = omega (arith, length-set c.slots.used x.slot false, h.next);
        alone = λ k. released_at c.slots.used x.slot k (weigh (ind (has_slot k)) c.rows) _ (cases_eq k x.slot) (h.alone k)
            (omega (arith, weigh_set (ind (has_slot k)) c.rows b left inside, without_only (has_slot x.slot) (ind (has_slot k)) x (row_at c b) one));
      }
