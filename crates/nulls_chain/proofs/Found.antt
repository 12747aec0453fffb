-- A slot found in a walked list.
use Rattle.std.proofs.Common.{◌≡◌, ◌≢◌, ◌==◌, ◌%◌, ℕ, ◌+◌, ◌*◌, ◌<◌, ◌≤◌, List, [], ◌∷◌, ◌++◌, inl, ⊎_elim, Option, None, Some, true, false, cond, Bool, ne_eqb, eq-eqb, sym, refl, ap, ◌∙◌, arith, subst, length, append_assoc, find, eqb, slice_index}
use mathlib.Core.Logic.{dite}
use native.Mathlib.Decide.{ℕ_discrete}
use Rattle.list_words.specs.Lists.{Each}
use Rattle.table_rule.specs.Lists.{times, stands, slots_of}
use Rattle.table_rule.specs.ChainsOk.{first_link}
use Rattle.table_rule.specs.Owners.{time_waits, IsPlace}
use Rattle.table_rule.specs.Plays.{card_in, PlacesListed, PlacesApart}
use Rattle.table_rule.specs.Words.{words_of}
use Rattle.table_rule.specs.declared.view.BookView.{BookView}
use Rattle.table_rule.specs.declared.view.Change.{Change}
use Rattle.sock_card.specs.Words.{packed}
use Rattle.bucket_locks.specs.Locks.{WalkKnown}
use Rattle.nulls_chain.specs.declared.keeping.Place.{Place}
use Rattle.table_rule.specs.declared.view.View.{View}
use Rattle.table_rule.specs.declared.view.Layout.{Layout}
use Rattle.table_rule.specs.declared.view.Seen.{Seen}
use Rattle.table_rule.proofs.Lists.{times-here, times-else, times-append, slots-append}
use Rattle.table_rule.specs.Sole.{IsSole, SoleKnown, IsRead, chain_from}
use Rattle.table_rule.specs.declared.view.ChainView.{ChainView}
use Rattle.std.specs.Option.{option_or}
use Rattle.std.proofs.lemmas.List.Folds.{find-append}
use Rattle.nulls_chain.specs.Changes.{Stands, WasChain, IsPlaced, IsApart, OthersStay, OtherPlacesStay, going, waits_as, wait_in}

-- the front ends in that slot of the table, or is empty
abbrev pub EndsAt : Layout → Option ℕ → List Seen → Type 0
EndsAt layout None front = front ≡ []
EndsAt layout (Some p) front = (p < layout.shape.slots) × (f : List Seen) × (q : Seen) × (q.slot ≡ p) × (front ≡ f ++ q ∷ [])

-- the slot isn't among the first of the list, so many: what follows them is at the link
pub record Sought (layout : Layout) (bucket slot : ℕ) (walked : List Seen) (before : Option ℕ) (link count : ℕ) : Type 0 where
  pub front : List Seen
  pub back : List Seen
  pub is : walked ≡ front ++ back
  pub at : link ≡ first_link bucket (slots_of back)
  pub counted : length front ≡ count
  pub none : stands slot front ≡ 0
  pub ends : EndsAt layout before front

stands-append : (i : ℕ) (xs ys : List Seen) → stands i (xs ++ ys) ≡ stands i xs + stands i ys
stands-append i xs ys = ap (times i) (slots-append xs ys) ∙ times-append i (slots_of xs) (slots_of ys)

length-more : (xs : List Seen) (s : Seen) → length (xs ++ s ∷ []) ≡ length xs + 1
length-more [] s = refl
length-more (x ∷ xs) s = omega (arith, length-more xs s)

length-both : (xs ys : List Seen) → length (xs ++ ys) ≡ length xs + length ys
length-both [] ys = omega arith
length-both (x ∷ xs) ys = omega (arith, length-both xs ys)

each-back : (P : Seen → Type 0) (xs ys : List Seen) → Each P (xs ++ ys) → Each P ys
each-back P [] ys h = h
each-back P (x ∷ xs) ys h = each-back P xs ys h.1

-- the next slot of a list that isn't empty
pub record Next (layout : Layout) (front back walked : List Seen) (link : ℕ) : Type 0 where
  pub seen : Seen
  pub rest : List Seen
  pub is : back ≡ seen ∷ rest
  pub whole : walked ≡ front ++ seen ∷ rest
  pub longer : walked ≡ (front ++ seen ∷ []) ++ rest
  pub at : link ≡ 2 * seen.slot
  pub near : seen.slot < layout.shape.slots
  pub listed : 0 < stands seen.slot walked

module _ (layout : Layout) (bucket slot : ℕ) (walked : List Seen) (inside : Each (λ (s : Seen). s.slot < layout.shape.slots) walked) (listed : 0 < stands slot walked) where
  next_of : (front back : List Seen) (link : ℕ) → walked ≡ front ++ back → link ≡ first_link bucket (slots_of back) → 0 < stands slot back → Next layout front back walked link
  next_of front [] link is at h = absurd (omega (arith, h))
  next_of front (s ∷ rest) link is at h = record {
    seen = s;
    rest = rest;
    is = refl;
    whole = is;
    longer = is ∙ sym (append_assoc front (s ∷ []) rest);
    at = at;
    near = (each-back (λ (e : Seen). e.slot < layout.shape.slots) front (s ∷ rest) (subst (Each (λ (e : Seen). e.slot < layout.shape.slots)) is inside)).0;
    listed = omega (arith, ap (λ (l : List Seen). stands s.slot l) is, stands-append s.slot front (s ∷ rest), times-here s.slot (slots_of rest));
  }

  pub next : (before : Option ℕ) (link count : ℕ) (t : Sought layout bucket slot walked before link count) → Next layout t.front t.back walked link
  next before link count t = next_of t.front t.back link t.is t.at (omega (arith, listed, t.none, ap (λ (l : List Seen). stands slot l) t.is, stands-append slot t.front t.back))

  -- not all of the list was passed over
  pub within : (before : Option ℕ) (link count : ℕ) → Sought layout bucket slot walked before link count → count < length walked
  within before link count t = let n = next before link count t in omega (arith, t.counted, ap (length {A = Seen}) n.whole, length-both t.front (n.seen ∷ n.rest))

  pub next_sought : (before : Option ℕ) (link count : ℕ) (t : Sought layout bucket slot walked before link count) (here link' : ℕ) → here ≡ (next before link count t).seen.slot → here ≢ slot → link' ≡ first_link bucket (slots_of (next before link count t).rest) → Sought layout bucket slot walked (Some here) link' (count + 1)
  next_sought before link count t here link' is ne at =
      let n = next before link count t in record {
        front = t.front ++ n.seen ∷ [];
        back = n.rest;
        is = n.longer;
        at = at;
        counted = omega (arith, length-more t.front n.seen, t.counted);
        none = omega (arith, stands-append slot t.front (n.seen ∷ []), t.none, times-else n.seen.slot slot [] (λ e. ne (is ∙ e)));
        ends = (omega (arith, is, n.near), t.front, n.seen, sym is, refl);
      }

-- where the search ends
pub found_behind : (layout : Layout) (v : View) (o : Option ℕ) (front rest : List Seen) (s : Seen) (slot : ℕ) → EndsAt layout o front → v.chain.walked ≡ front ++ s ∷ rest → s.slot ≡ slot → v.chain.met ≡ 1 → Stands layout o slot v
found_behind layout v None front rest s slot ends is at met = (s, rest, at, is ∙ ap (λ (l : List Seen). l ++ s ∷ rest) ends, inl met)
found_behind layout v (Some p) front rest s slot ends is at met = (ends.0, (ends.1, ends.2, s, rest, ends.3, at, is ∙ ap (λ (l : List Seen). l ++ s ∷ rest) ends.4, inl met))

abbrev some_of : Seen → Option Seen → Seen
some_of d None = d
some_of d (Some z) = z

abbrev is-none : Option Seen → Type 0
is-none None = Unit {0}
is-none (Some z) = ⊥

found_step : (x s : Seen) (xs : List Seen) (rest : Option Seen) (b : Bool) → ((i : ℕ) → stands i (x ∷ xs) ≤ 1) → (rest ≡ Some s → (0 < stands s.slot xs) × (card_in s.slot xs ≡ s.words)) → cond b (Some x) rest ≡ Some s → (0 < stands s.slot (x ∷ xs)) × (card_in s.slot (x ∷ xs) ≡ s.words)
found_step x s xs rest true once deep q =
    let same : x ≡ s = ap (some_of x) q in
    subst (λ (y : Seen). (0 < stands y.slot (x ∷ xs)) × (card_in y.slot (x ∷ xs) ≡ y.words)) same (omega (arith, times-here x.slot (slots_of xs)), ap (λ (b : Bool). cond b x.words (card_in x.slot xs)) (eq-eqb x.slot x.slot refl))
found_step x s xs rest false once deep q =
    let there = deep q in
    let ne : x.slot ≢ s.slot = λ h. omega (arith, there.0, once x.slot, times-here x.slot (slots_of xs), ap (λ (i : ℕ). stands i xs) h) in
    (omega (arith, there.0, times-else x.slot s.slot (slots_of xs) ne), ap (λ (b : Bool). cond b x.words (card_in s.slot xs)) (ne_eqb x.slot s.slot ne) ∙ there.1)

-- the link that leads on where nothing is ahead
pub link_end : (b : ℕ) (rest ahead : List Seen) → ahead ≡ [] → first_link b (slots_of rest ++ slots_of ahead) ≡ first_link b (slots_of rest)
link_end b [] ahead none = ap (λ (l : List Seen). first_link b (slots_of l)) none
link_end b (x ∷ xs) ahead none = refl

-- what is found in a list stands there, with its words
pub found_in : (test : Seen → Bool) (xs : List Seen) (s : Seen) → ((i : ℕ) → stands i xs ≤ 1) → find test xs ≡ Some s → (0 < stands s.slot xs) × (card_in s.slot xs ≡ s.words)
found_in test [] s once e = absurd (subst is-none e tt)
found_in test (x ∷ xs) s once e = found_step x s xs (find test xs) (test x) once (found_in test xs s (λ i. let z : stands i (x ∷ xs) ≡ cond (eqb x.slot i) 1 0 + stands i xs = refl in omega (arith, z, once i))) e

-- a TIME_WAIT of the name, as the walk goes on
pub none_more : (name : ℕ) (xs : List Seen) (s : Seen) → wait_in name xs ≡ None → waits_as name s.words ≡ false → wait_in name (xs ++ s ∷ []) ≡ None
none_more name xs s none other = find-append (λ (e : Seen). waits_as name e.words) xs (s ∷ []) ∙ (ap (λ (o : Option Seen). option_or o (wait_in name (s ∷ []))) none ∙ ap (λ (b : Bool). cond b (Some s) None) other)

pub some_more : (name : ℕ) (xs more : List Seen) (s : Seen) → wait_in name xs ≡ None → waits_as name s.words ≡ true → wait_in name ((xs ++ s ∷ []) ++ more) ≡ Some s
some_more name xs more s none waits =
    let test : Seen → Bool = λ e. waits_as name e.words in
    let first : wait_in name (xs ++ s ∷ []) ≡ Some s = find-append test xs (s ∷ []) ∙ (ap (λ (o : Option Seen). option_or o (wait_in name (s ∷ []))) none ∙ ap (λ (b : Bool). cond b (Some s) None) waits) in
    find-append test (xs ++ s ∷ []) more ∙ ap (λ (o : Option Seen). option_or o (wait_in name more)) first

-- such a card is a TIME_WAIT's
pub waits_full : (name : ℕ) (ws : List ℕ) → waits_as name ws ≡ true → time_waits ws ≡ 1
waits_full name ws h = by (slice_index ws 1 % 16 == 2) h
  where
    by : (b : Bool) → cond b (slice_index ws 2 == name) false ≡ true → cond {A = ℕ} b 1 0 ≡ 1
    by true e = refl
    by false e = absurd (omega (arith, ap {B = ℕ} (λ (b : Bool). cond b 1 0) e))

-- one slot more was walked
pub went : (v w : ChainView) (s : Seen) → w ≡ going v (s ∷ []) 0 → (w.walked ++ w.ahead ≡ (v.walked ++ v.ahead) ++ s ∷ []) × (length w.walked + length w.ahead ≡ length v.walked + length v.ahead + 1)
went v w s is = (
  ap (λ (x : ChainView). x.walked ++ x.ahead) is,
  ap (λ (x : ChainView). length x.walked + length x.ahead) is ∙ omega (arith, length-both v.walked v.ahead),
)

-- a chain that is known whole to a pass that has only walked since was so before
pub was_before : (v w : View) (bucket : ℕ) (whole : List Seen) → w ≡ record v { chain = w.chain } → WasChain whole bucket w → WasChain whole bucket v
was_before v w bucket whole is was s = subst (λ (x : View). whole ≡ chain_from x.book.closed bucket) is (was (subst IsSole (sym is) (record { all = s.all; rises = s.rises; waits = s.waits })))

-- the chain as a walk found it whole
pub was_chain : (v w : View) (bucket : ℕ) → w ≡ record v { chain = w.chain } → SoleKnown w → w.chain.locked ≡ bucket ∷ [] → w.chain.met ≡ 1 → Each IsRead w.chain.walked → WasChain w.chain.walked bucket v
was_chain v w bucket is sole locked met read = was_before v w bucket w.chain.walked is (λ s. sole s bucket locked met read)

-- a place of the pass stands in a chain that was walked to its end, with its card
pub place_listed : (layout : Layout) (v : View) (b : BookView) (place : Place) → v.chain.locked ≡ place.bucket ∷ [] → v.chain.met ≡ 1 → v.book ≡ b → WalkKnown layout v → IsPlaced place b → (0 < stands place.slot v.chain.walked) × (card_in place.slot v.chain.walked ≡ words_of (packed place.card))
place_listed layout v b place locked met book k p =
    let listed : PlacesListed v = ⊎_elim (λ z. absurd (omega (arith, met, z))) (λ l. l) k.3 in
    let there = listed place.bucket p.0 locked met (subst (λ (x : BookView). IsPlace x p.0) (sym book) p.4) p.1 in
    subst (λ (i : ℕ). (0 < stands i v.chain.walked) × (card_in i v.chain.walked ≡ words_of (packed place.card))) p.2 (there.0, there.1 k.0 ∙ p.3)

-- A place of the pass in a chain that was walked to its end, and the other places
module _ (layout : Layout) (v : View) (place : Place) (locked : v.chain.locked ≡ place.bucket ∷ []) (met : v.chain.met ≡ 1) (k : WalkKnown layout v) (p : IsPlaced place v.book) where
  mine : (0 < stands place.slot v.chain.walked) × (card_in place.slot v.chain.walked ≡ words_of (packed place.card))
  mine = place_listed layout v v.book place locked met refl k p

  -- those of other buckets have other slots
  pub is_apart : PlacesApart v → IsApart place v.book
  is_apart apart hash h at = dite (ℕ_discrete hash.bucket place.bucket)
      (λ e. e)
      (λ ne. absurd (omega (arith, mine.0, apart place.bucket hash locked h ne, ap (λ (i : ℕ). stands i v.chain.walked) at)))

  -- and so has each of another card
  pub other_slot : IsApart place v.book → (hash : Change) → hash.card ≢ words_of (packed place.card) → IsPlace v.book hash → hash.slot ≢ place.slot
  other_slot apart hash other h at =
      let listed : PlacesListed v = ⊎_elim (λ z. absurd (omega (arith, met, z))) (λ l. l) k.3 in
      let there = listed place.bucket hash locked met h (apart hash h at) in
      other (sym (there.1 k.0) ∙ (ap (λ (i : ℕ). card_in i v.chain.walked) at ∙ mine.1))

  pub others_stay : (w : View) → IsApart place v.book → OthersStay place.slot v w → OtherPlacesStay place v w
  others_stay w apart stay hash other h = stay hash (other_slot apart hash other h) h
