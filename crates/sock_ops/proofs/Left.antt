-- What changes and searches leave at the chains.
use Rattle.std.proofs.Common.{◌≡◌, ℕ, ◌<◌, ◌≤◌, List, [], ◌∷◌, ◌++◌, map, refl, sym, ap, ◌∙◌, subst, arith, append-nil, append_assoc}
use Rattle.std.proofs.lemmas.List.{map-append}
use Rattle.list_words.specs.Lists.{Each, Pairs}
use Rattle.list_words.proofs.EachLemmas.{each_append}
use Rattle.sock_card.specs.Words.{packed, unpacked}
use Rattle.sock_card.specs.declared.card.Card.{Card}
use Rattle.chain_book.specs.declared.book.Change.{Change}
use Rattle.table_rule.specs.Beyond.{IsCardWords}
use Rattle.table_rule.specs.Plays.{beginning, dropping_beginning, settled, sight_of, sight_at, unlocking}
use Rattle.table_rule.specs.declared.view.Change.{Change as Closed}
use Rattle.table_rule.specs.declared.view.Layout.{Layout}
use Rattle.table_rule.specs.declared.view.Seen.{Seen}
use Rattle.table_rule.specs.declared.view.Sight.{Sight}
use Rattle.table_rule.specs.declared.view.View.{View}
use Rattle.sock_slots.specs.Claims.{sight_by, Read}
use Rattle.sock_slots.specs.declared.fresh.Full.{Full}
use Rattle.nulls_chain.specs.Changes.{Adds, Same, Sees}
use Rattle.established.specs.Rows.{card_words}
use Rattle.established.specs.Comings.{walking, FindsNone}
use Rattle.established.specs.Leavings.{Quiet}
use Rattle.race_record.specs.Deeds.{Deed, Vain, changes_of, vain_of, drawn_of}
use Rattle.sock_ops.specs.Sides.{Side, change_of, changes_by}
use Rattle.sock_ops.specs.Made.{Made, Fits, Shows, IsHomeIfHash, HasWords, AllHaveWords, number_of, SawNone}
use Rattle.nulls_chain.proofs.Saw.{are_settled}
use Rattle.sock_ops.proofs.Seen.{as_they_were, sees_both, sees_more}

abbrev pub side : Layout → View → ℕ → Side
side layout view next = record { layout = layout; view = view; next = next }

-- a change as it was closed, in a record's words
abbrev pub change_at : (kind bucket slot : ℕ) → Card → (b e : ℕ) → Change
change_at kind bucket slot card b e =
    change_of (record { kind = kind; bucket = bucket; slot = slot; card = card_words card; begins = b; ends = e })

-- what a deed leaves, apart from what it says of itself
pub record Left (changes : List Change) (vain : List Vain) (drawn : List ℕ) (c d : Side) : Type 0 where
  pub layout : d.layout ≡ c.layout
  pub closed : changes_by d ≡ changes_by c ++ changes
  pub homes : Each (IsHomeIfHash c.layout) changes
  pub words : AllHaveWords c → AllHaveWords d
  pub lost : d.view.book.lost ≡ map number_of vain ++ c.view.book.lost
  pub numbers : Each (λ (n : ℕ). (c.view.seen ≤ n) × (n < d.view.seen)) drawn
  pub ascend : Pairs (λ (n m : ℕ). n < m) drawn
  pub later : c.view.seen ≤ d.view.seen
  pub parts : d.view.slot.parts ≡ c.view.slot.parts
  pub holds : d.view.slot.holds ≡ c.view.slot.holds
  pub taken : d.view.slot.taken ≡ c.view.slot.taken
  pub read : d.view.read ≡ c.view.read
  pub sees : Sees c.view d.view

pub made : (deed : Deed) (c d : Side) → Fits deed → Left (changes_of deed) (vain_of deed) (drawn_of deed) c d → Shows deed c d → Made deed c d
made deed c d fits l shows = record {
  fits = fits;
  layout = l.layout;
  changes = l.closed;
  homes = l.homes;
  words = l.words;
  lost = l.lost;
  numbers = l.numbers;
  ascend = l.ascend;
  later = l.later;
  parts = l.parts;
  holds = l.holds;
  taken = l.taken;
  read = l.read;
  sees = l.sees;
  shows = shows;
}

-- as the lock is given back
pub left_unlocked : (changes : List Change) (vain : List Vain) (drawn : List ℕ) (layout : Layout) (from next : ℕ) (v u : View) (instant : ℕ) → Left changes vain drawn (side layout v from) (side layout u next)
    → Left changes vain drawn (side layout v from) (side layout (unlocking u instant) next)
left_unlocked changes vain drawn layout from next v u instant l = record {
  layout = l.layout;
  closed = l.closed;
  homes = l.homes;
  words = l.words;
  lost = l.lost;
  numbers = l.numbers;
  ascend = l.ascend;
  later = l.later;
  parts = l.parts;
  holds = l.holds;
  taken = l.taken;
  read = l.read;
  sees = sees_more v u instant l.sees;
}

-- it stands at home, if it is a hash, and its words say its card
abbrev pub StandsWell : Layout → (kind bucket slot : ℕ) → Card → (b e : ℕ) → Type 0
StandsWell layout kind bucket slot card b e = IsHomeIfHash layout (change_at kind bucket slot card b e) × (kind ≡ 1 → unpacked (packed card) ≡ card)

card_has_words : (card : Card) → unpacked (packed card) ≡ card → IsCardWords (card_words card)
card_has_words card told = record { words = packed card; is = refl; packs = ap packed told }

-- a change that was closed, and its numbers: what is said of it whatever was walked
abbrev pub Bare : View → View → (kind bucket slot : ℕ) → List ℕ → Type 0
Bare v w kind bucket slot card =
    (b : ℕ) × (e : ℕ) × (v.seen ≤ b) × (b < e) × (e < w.seen)
    × (w.book.closed ≡ v.book.closed ++ record { kind = kind; bucket = bucket; slot = slot; card = card; begins = b; ends = e } ∷ []) × Same v w

abbrev pub bare_of : (v w : View) (kind bucket slot : ℕ) (card : List ℕ) → Adds v w kind bucket slot card → Bare v w kind bucket slot card
bare_of v w kind bucket slot card a = (a.0, a.1, a.2.0, a.2.1, a.2.2, a.2.3, a.2.4)

-- one change
pub left_one : (layout : Layout) (from next : ℕ) (v u : View) (kind bucket slot : ℕ) (card : Card) (a : Bare v u kind bucket slot (card_words card)) → Quiet v u → Sees v u
    → StandsWell layout kind bucket slot card a.0 a.1
    → Left (change_at kind bucket slot card a.0 a.1 ∷ []) [] (a.0 ∷ a.1 ∷ []) (side layout v from) (side layout u next)
left_one layout from next v u kind bucket slot card a quiet saw home =
    let c : Closed = record { kind = kind; bucket = bucket; slot = slot; card = card_words card; begins = a.0; ends = a.1 } in
    let low : v.seen ≤ a.0 = a.2 in
    let order : a.0 < a.1 = a.3 in
    let high : a.1 < u.seen = a.4 in
    record {
      layout = refl;
      closed = ap (map change_of) a.5 ∙ map-append change_of v.book.closed (c ∷ []);
      homes = (home.0, tt);
      words = λ h. subst (Each HasWords) (sym a.5) (each_append HasWords v.book.closed (c ∷ []) h ((λ k. card_has_words card (home.1 k)), tt));
      lost = quiet.0;
      numbers = ((low, omega arith), ((omega arith, high), tt));
      ascend = ((order, tt), (tt, tt));
      later = omega arith;
      parts = a.6.0;
      holds = a.6.1;
      taken = quiet.1;
      read = quiet.2;
      sees = saw;
    }

-- two, one after the other
pub left_two : (layout : Layout) (from next : ℕ) (v u w : View) (k l bucket slot old : ℕ) (card gone : Card) (a : Bare v u k bucket slot (card_words card)) (d : Bare u w l bucket old (card_words gone))
    → Quiet v u → Quiet u w → Sees v u → Sees u w
    → StandsWell layout k bucket slot card a.0 a.1 → StandsWell layout l bucket old gone d.0 d.1
    → Left (change_at k bucket slot card a.0 a.1 ∷ change_at l bucket old gone d.0 d.1 ∷ []) [] (a.0 ∷ a.1 ∷ d.0 ∷ d.1 ∷ []) (side layout v from) (side layout w next)
left_two layout from next v u w k l bucket slot old card gone a d q r s t home else =
    let b : Closed = record { kind = k; bucket = bucket; slot = slot; card = card_words card; begins = a.0; ends = a.1 } in
    let c : Closed = record { kind = l; bucket = bucket; slot = old; card = card_words gone; begins = d.0; ends = d.1 } in
    let grown : w.book.closed ≡ v.book.closed ++ b ∷ c ∷ [] =
    d.5 ∙ (ap (λ (cs : List Closed). cs ++ c ∷ []) a.5 ∙ append_assoc v.book.closed (b ∷ []) (c ∷ [])) in
    let low : v.seen ≤ a.0 = a.2 in
    let one : a.0 < a.1 = a.3 in
    let mid : a.1 < u.seen = a.4 in
    let then_ : u.seen ≤ d.0 = d.2 in
    let two : d.0 < d.1 = d.3 in
    let high : d.1 < w.seen = d.4 in
    record {
      layout = refl;
      closed = ap (map change_of) grown ∙ map-append change_of v.book.closed (b ∷ c ∷ []);
      homes = (home.0, (else.0, tt));
      words = λ h. subst (Each HasWords) (sym grown) (each_append HasWords v.book.closed (b ∷ c ∷ []) h ((λ z. card_has_words card (home.1 z)), ((λ z. card_has_words gone (else.1 z)), tt)));
      lost = r.0 ∙ q.0;
      numbers = ((low, omega arith), ((omega arith, omega arith), ((omega arith, omega arith), ((omega arith, high), tt))));
      ascend = ((one, (omega arith, (omega arith, tt))), ((omega arith, (omega arith, tt)), ((two, tt), (tt, tt))));
      later = omega arith;
      parts = d.6.0 ∙ a.6.0;
      holds = d.6.1 ∙ a.6.1;
      taken = r.1 ∙ q.1;
      read = r.2 ∙ q.2;
      sees = sees_both v u w (omega arith) s t;
    }

-- a chain was walked under its lock, and nothing else
pub left_kept : (layout : Layout) (from next : ℕ) (v : View) (bucket instant : ℕ) (xs : List Seen) → Left [] [] [] (side layout v from) (side layout (unlocking (walking v bucket xs) instant) next)
left_kept layout from next v bucket instant xs = record {
  layout = refl;
  closed = sym (append-nil (map change_of v.book.closed));
  homes = tt;
  words = λ h. h;
  lost = refl;
  numbers = tt;
  ascend = tt;
  later = omega arith;
  parts = refl;
  holds = refl;
  taken = refl;
  read = refl;
  sees = (v.sights, sight_of (walking v bucket xs) instant ∷ [], as_they_were v.seen v.sights, refl);
}

-- A slot was sought in vain

-- what the pass knows then
abbrev pub in_vain : (v : View) (bucket : ℕ) (xs : List Seen) (b : ℕ) → List Read → View
in_vain v bucket xs b reads =
    let begun = beginning (walking v bucket xs) b in
    dropping_beginning (record begun { sights = begun.sights ++ map (sight_by begun) reads })

pub vain_is : (layout : Layout) (v : View) (bucket : ℕ) (xs : List Seen) (u : View) (f : Full) (h : FindsNone layout (walking v bucket xs) u f) → u ≡ in_vain v bucket xs h.begin h.full.1.reads
vain_is layout v bucket xs u f h = h.is ∙ ap dropping_beginning h.full.1.is

pub left_none : (layout : Layout) (from next : ℕ) (v : View) (bucket : ℕ) (xs : List Seen) (vain : Vain) (reads : List Read) → v.seen ≤ vain.number
    → Left [] (vain ∷ []) (vain.number ∷ []) (side layout v from) (side layout (in_vain v bucket xs vain.number reads) next)
left_none layout from next v bucket xs vain reads low = record {
  layout = refl;
  closed = sym (append-nil (map change_of v.book.closed));
  homes = tt;
  words = λ h. h;
  lost = refl;
  numbers = ((low, omega arith), tt);
  ascend = (tt, tt);
  later = omega arith;
  parts = refl;
  holds = refl;
  taken = refl;
  read = refl;
  sees =
      let begun = beginning (walking v bucket xs) vain.number in
      let walked : Sight = sight_at (walking v bucket xs) vain.number in
      (settled v.sights vain.number, walked ∷ map (sight_by begun) reads, are_settled v.seen vain.number v.sights low, append_assoc (settled v.sights vain.number) (walked ∷ []) (map (sight_by begun) reads));
}

pub saw_none : (layout : Layout) (from next : ℕ) (v : View) (bucket : ℕ) (xs : List Seen) (u : View) (f : Full) (h : FindsNone layout (walking v bucket xs) u f) (x : View) (more : List Sight)
    → x.sights ≡ (in_vain v bucket xs h.begin h.full.1.reads).sights ++ more
    → SawNone (record { number = h.begin; owned = f.owned; held = f.held }) (side layout v from) (side layout x next)
saw_none layout from next v bucket xs u f h x more is = record {
  earlier = settled v.sights h.begin;
  settled = are_settled v.seen h.begin v.sights h.later;
  walked = sight_at (walking v bucket xs) h.begin;
  by = beginning (walking v bucket xs) h.begin;
  since = refl;
  reads = h.full.1.reads;
  more = more;
  sights = is;
  owned = h.full.1.owned-is;
  held = h.full.1.held-is;
  all = h.full.0;
  below = h.full.1.in-them;
  once = h.full.1.once;
}
