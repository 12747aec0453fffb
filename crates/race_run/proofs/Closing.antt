-- What the first worker has, once all others were joined to it, is a lawful record.
use Rattle.std.proofs.Common.{◌≡◌, ◌≢◌, inl, inr, ℕ, zero, suc, ◌+◌, ◌<◌, ◌≤◌, ◌==◌, nat_le, Bool, true, false, cond, List, [], ◌∷◌, ◌++◌, length, map, filter, refl, sym, ap, ◌∙◌, subst, arith}
use Rattle.std.specs.List.{flat_map, range_with_len}
use Rattle.std.specs.Global.{Box}
use Rattle.std.proofs.lemmas.List.{append-nil, length-map}
use Rattle.std.proofs.lemmas.Grind.{flat_map-append}
use Rattle.std.proofs.lemmas.Bool.{true≢false, eqb-true, eq-eqb, ne_eqb}
use mathlib.Core.Option.{some}
use lib.ListN.{get_elem?}
use Rattle.list_words.specs.Lists.{Each, total, SameItems}
use Rattle.list_words.proofs.EachLemmas.{each_weaken, each_both}
use Rattle.turn_table.specs.declared.note.Placed.{Placed}
use Rattle.turn_table.specs.declared.note.Note.{Note}
use Rattle.turn_table.specs.Journals.{by_caller, notes_at, placed, numbers_below}
use Rattle.turn_table.specs.Values.{all_placed}
use Rattle.bind_buckets.specs.declared.request.Entry.{Entry}
use Rattle.bind_buckets.specs.Bucket.{Bucket}
use Rattle.bind_buckets.specs.Closed.{AreLeft, notes_in}
use Rattle.bind_buckets.specs.Turned.{View as BindView}
use Rattle.chain_book.specs.declared.book.Change.{Change}
use Rattle.flat_list.specs.declared.header.Header.{Header}
use Rattle.flat_list.specs.declared.command.Command.{Command}
use Rattle.table_rule.specs.Book.{open-end}
use Rattle.table_rule.specs.Plays.{seeing, settled}
use Rattle.table_rule.specs.declared.view.View.{View}
use Rattle.table_rule.specs.declared.view.Change.{Change as Raw}
use Rattle.table_rule.specs.declared.view.Sight.{Sight}
use Rattle.table_model.specs.Own.{Own, new_own}
use Rattle.nulls_chain.specs.Changes.{Sees}
use Rattle.race_book.specs.Among.{Among}
use Rattle.race_book.proofs.AmongLemmas.{among_left, among_right}
use Rattle.race_book.proofs.Endings.{to_each}
use Rattle.race_book.proofs.Joined.{each_flat}
use Rattle.race_record.specs.Deeds.{Vain, changes_of, vain_of, entries_in, changes_in, given_in, taken_in, vain_in, drawn_in}
use Rattle.race_record.specs.Gathered.{numbered, GaveItsOwn, IsInOrderOf, WereGathered}
use Rattle.race_record.specs.Record.{Race, Step, steps_of, deeds_of, all_deeds}
use Rattle.race_record.specs.Lawful.{EachFrom, AreStepsOf, AreSectionsOf, AreInOrder, IsSpanned, IsLegalJournal, IsCalledBy, AreJournalsOf, IsBookOf, itself, WasKept, WasFree, TakenWereKept, GivenWereFree, NoneWasFree, SlotsWereUsed, Lists}
use Rattle.race_record.proofs.Drawn.{weigh, drawn_weighs}
use Rattle.race_record.proofs.Gather.{gathered_journals}
use Rattle.race_record.proofs.Weights.{total_flat}
use Rattle.sock_ops.specs.Sides.{change_of}
use Rattle.sock_ops.specs.Made.{IsHomeIfHash, HasWords, number_of}
use Rattle.nulls_chain.proofs.Saw.{are_settled}
use Rattle.race_run.specs.Joins.{Part}
use Rattle.race_run.specs.Made.{SawFree, SawKeeper, SawNone, IsAny, IsBy, SawNoWait, missed_in}
use Rattle.race_run.specs.Races.{SectionDone, AllDone, steps_by, HasEnded, AreReaped, AllReaped, Looks, book_of, race_by, IsLawfulBut, SaysSo}
use Rattle.race_run.specs.Said.{Said}
use Rattle.race_run.specs.Sections.{Makes, IsShown, layout_in}
use Rattle.race_run.proofs.Dumping.{saw_as_moves}
use Rattle.sock_ops.proofs.Seen.{same_sees}
use Rattle.race_run.proofs.Freed.{was_free}
use Rattle.race_run.proofs.FromRaw.{AreGood, serial, fits, stamps}
use Rattle.race_run.proofs.Listings.{lists}
use Rattle.race_run.proofs.Refusals.{was_kept, none_was_free}
use Rattle.race_run.proofs.Sightings.{free_moves, keeper_moves, none_moves, no_wait_moves, ended_sees, any_sees, Moves}
use Rattle.race_run.proofs.Sums.{sum_sections, each_number, each_section, many_sections, replies_are, listings_are, weigh_all, sum_numbers, weigh_filter, flat_filter, flat_same}
use Rattle.race_run.proofs.Weights.{map_flat, among_flat, same_each, same_among, flipped, weigh_map}

-- what a number weighs that was drawn in vain
abbrev in_vain : (ℕ → ℕ) → Vain → ℕ
in_vain f t = f t.number

-- Steps

steps_are : (header : Header) (In : Change → Type 0) (own last : Own) (cs : List Command) (ss : List Step) → Makes header own cs ss last → AreReaped header In own cs ss → AreStepsOf header In own cs ss
steps_are header In own last [] [] m r = tt
steps_are header In own last (c ∷ cs) (s ∷ ss) m r = (m.0, record { command_is = m.1; goes = m.2; reaps = r.0 }, steps_are header In m.0 last cs ss m.3 (r.1 m.0 m.2))
steps_are header In own last [] (s ∷ ss) m r = absurd m
steps_are header In own last (c ∷ cs) [] m r = absurd m

sections_are : (header : Header) (In : Change → Type 0) (part : ℕ → Part) (n : ℕ) (scripts : List (List Command)) (says : List Said) (d : AllDone header part n scripts says)
    → AllReaped header In n scripts (steps_by header part n scripts says d) → AreSectionsOf header In n scripts (steps_by header part n scripts says d)
sections_are header In part n [] [] d r = tt
sections_are header In part n (cs ∷ scripts) (said ∷ says) d r =
    (steps_are header In (new_own header n) d.0.own cs d.0.done.steps d.0.done.makes r.0, sections_are header In part (n + 1) scripts says d.1 r.1)
sections_are header In part n [] (said ∷ says) d r = absurd d
sections_are header In part n (cs ∷ scripts) [] d r = absurd d

later_order : (a b : ℕ) → a ≤ b → (ss : List Step) → AreInOrder a ss → AreInOrder b ss
later_order a b le ss o = record { each = each_weaken (IsSpanned a) (IsSpanned b) ss (λ s z. record { order = z.order; most = omega (arith, z.most, le); within = z.within; ascend = z.ascend }) o.each; pairs = o.pairs }

-- Journals

all_same : (i : ℕ) (values : List (Box Bucket)) → all_placed itself i (map notes_in values) ≡ all_placed notes_in i values
all_same i [] = refl
all_same i (b ∷ bs) = ap (λ l. map (placed i) (notes_in b) ++ l) (all_same (i + 1) bs)

legal_all : (i n : ℕ) (values : List (Box Bucket)) → AreLeft i n values → EachFrom IsLegalJournal i (map notes_in values)
legal_all i n [] h = tt
legal_all i n (b ∷ bs) h = (h.0.legal, legal_all (i + 1) n bs h.1)

each_value : (P : ℕ → List (Note Entry) → Type 0) (i : ℕ) (values : List (Box Bucket)) → ((j : ℕ) (b : Box Bucket) → get_elem? values j ≡ some b → P (i + j) (notes_in b)) → EachFrom P i (map notes_in values)
each_value P i [] h = tt
each_value P i (b ∷ bs) h = (
  subst (λ k. P k (notes_in b)) (let e : i + 0 ≡ i = omega arith in e) (h 0 b refl),
  each_value P (i + 1) bs (λ j c e. subst (λ k. P k (notes_in c)) (let q : i + suc j ≡ i + 1 + j = omega arith in q) (h (suc j) c e)),
)

-- what a section's worker gave, and nobody else
module _ (header : Header) (part : ℕ → Part) where
  given_at : (n : ℕ) (scripts : List (List Command)) (says : List Said) → AllDone header part n scripts says → ℕ → List (Placed Entry)
  given_at n [] [] d m = []
  given_at n (cs ∷ scripts) (said ∷ says) d m = cond (m == n) (part n).turns.mine (given_at (n + 1) scripts says d.1 m)
  given_at n [] (said ∷ says) d m = []
  given_at n (cs ∷ scripts) [] d m = []

  by_called : (m n : ℕ) (xs ys : List (Placed Entry)) (b : Bool) → (m == n) ≡ b → Each (IsCalledBy n) xs → Each (IsCalledBy m) ys → Each (IsCalledBy m) (cond b xs ys)
  by_called m n xs ys true e h k = each_weaken (IsCalledBy n) (IsCalledBy m) xs (λ p q. q ∙ sym (eqb-true m n e)) h
  by_called m n xs ys false e h k = k

  given_called : (n : ℕ) (scripts : List (List Command)) (says : List Said) (d : AllDone header part n scripts says) (m : ℕ) → Each (IsCalledBy m) (given_at n scripts says d m)
  unfolding given_at
  given_called n [] [] d m = tt
  given_called n (cs ∷ scripts) (said ∷ says) d m = by_called m n (part n).turns.mine (given_at (n + 1) scripts says d.1 m) (m == n) refl d.0.done.callers (given_called (n + 1) scripts says d.1 m)
  given_called n [] (said ∷ says) d m = absurd d
  given_called n (cs ∷ scripts) [] d m = absurd d

  given_here : (n : ℕ) (cs : List Command) (scripts : List (List Command)) (said : Said) (says : List Said) (d : AllDone header part n (cs ∷ scripts) (said ∷ says)) → given_at n (cs ∷ scripts) (said ∷ says) d n ≡ (part n).turns.mine
  unfolding given_at
  given_here n cs scripts said says d = ap (λ b. cond b (part n).turns.mine (given_at (n + 1) scripts says d.1 n)) (eq-eqb n n refl)

  given_else : (n : ℕ) (cs : List Command) (scripts : List (List Command)) (said : Said) (says : List Said) (d : AllDone header part n (cs ∷ scripts) (said ∷ says)) (m : ℕ) → m ≢ n
      → given_at n (cs ∷ scripts) (said ∷ says) d m ≡ given_at (n + 1) scripts says d.1 m
  unfolding given_at
  given_else n cs scripts said says d m ne = ap (λ b. cond b (part n).turns.mine (given_at (n + 1) scripts says d.1 m)) (ne_eqb m n ne)

  given_none : (n : ℕ) (scripts : List (List Command)) (says : List Said) (d : AllDone header part n scripts says) (m : ℕ) → n + length scripts ≤ m → given_at n scripts says d m ≡ []
  unfolding given_at
  given_none n [] [] d m l = refl
  given_none n (cs ∷ scripts) (said ∷ says) d m l = given_else n cs scripts said says d m (λ e. absurd (omega (arith, e, l))) ∙ given_none (n + 1) scripts says d.1 m (omega (arith, l))
  given_none n [] (said ∷ says) d m l = absurd d
  given_none n (cs ∷ scripts) [] d m l = absurd d

  -- each section's entries are what its worker gave
  own_from : (buckets : ℕ) → header.shape.bind ≡ buckets → (given : ℕ → List (Placed Entry)) (n : ℕ) (scripts : List (List Command)) (says : List Said) (d : AllDone header part n scripts says)
      → ((m : ℕ) → n ≤ m → m < n + length scripts → given m ≡ (part m).turns.mine) → EachFrom (GaveItsOwn buckets given) n (steps_by header part n scripts says d)
  own_from buckets b given n [] [] d h = tt
  own_from buckets b given n (cs ∷ scripts) (said ∷ says) d h = (
    h n (omega arith) (omega arith) ∙ d.0.done.entries ∙ ap (λ k. entries_in k (deeds_of d.0.done.steps)) b,
    own_from buckets b given (n + 1) scripts says d.1 (λ m l u. h m (omega (arith, l)) (omega (arith, u))),
  )
  own_from buckets b given n [] (said ∷ says) d h = absurd d
  own_from buckets b given n (cs ∷ scripts) [] d h = absurd d

  given_mine : (n : ℕ) (scripts : List (List Command)) (says : List Said) (d : AllDone header part n scripts says) (m : ℕ) → n ≤ m → m < n + length scripts → given_at n scripts says d m ≡ (part m).turns.mine
  unfolding given_at
  given_mine n [] [] d m l u = absurd (omega (arith, l, u))
  given_mine n (cs ∷ scripts) (said ∷ says) d m l u = mathlib.Core.Logic.dite (native.Mathlib.Decide.ℕ_discrete m n)
      (λ e. subst (λ k. given_at n (cs ∷ scripts) (said ∷ says) d k ≡ (part k).turns.mine) (sym e) (given_here n cs scripts said says d))
      (λ ne. given_else n cs scripts said says d m ne ∙ given_mine (n + 1) scripts says d.1 m (omega (arith, l, ne)) (omega (arith, u)))
  given_mine n [] (said ∷ says) d m l u = absurd d
  given_mine n (cs ∷ scripts) [] d m l u = absurd d

-- The record

module _ (header : Header) (scripts : List (List Command)) (part : ℕ → Part) (lookers : ℕ) (v : BindView) (x : View) (values : List (Box Bucket)) (says : List Said) (clock : ℕ) (looks : Looks)
    (e : HasEnded header scripts part lookers v x values says clock) where
  abbrev pub y : View
  y = seeing x clock

  abbrev pub sections : List (List Step)
  sections = steps_by header part 1 scripts says e.done

  abbrev pub race : Race
  race = race_by header looks sections values y clock

  abbrev pub numbers : List ℕ
  numbers = range_with_len 1 (length scripts + lookers)

  -- a fact of each worker is one of each that was joined
  each_joined : (R : ℕ → Type 0) → ((m : ℕ) (cs : List Command) (said : Said) → SectionDone header m cs (part m) said → R m) → ((m : ℕ) → length scripts < m → R m) → Each R e.order
  each_joined R one none = same_each R e.order numbers e.each_once (each_number header part R 1 scripts says e.done lookers one (λ m l. none m (omega (arith, l))))

  -- what was joined weighs what the sections did
  sum_joined : (g : ℕ → ℕ) (weight : List Step → ℕ) → ((m : ℕ) (cs : List Command) (said : Said) (s : SectionDone header m cs (part m) said) → g m ≡ weight s.done.steps) → ((m : ℕ) → length scripts < m → g m ≡ 0)
      → total g e.order ≡ total weight sections
  sum_joined g weight one none = e.each_once g ∙ sum_sections header part 1 scripts says e.done lookers g weight one (λ m l. none m (omega (arith, l)))

  -- Changes

  abbrev pub closed_of : ℕ → List Change
  closed_of m = map change_of (part m).chain.book.closed

  pub book_is : book_of y ≡ flat_map closed_of e.order
  book_is = ap (map change_of) e.joined.closed ∙ map_flat change_of (λ m. (part m).chain.book.closed) e.order

  pub homes : Each (IsHomeIfHash (layout_in header)) (book_of y)
  homes = subst (Each (IsHomeIfHash (layout_in header))) (sym book_is)
      (each_flat (IsHomeIfHash (layout_in header)) closed_of e.order (each_joined (λ m. Each (IsHomeIfHash (layout_in header)) (closed_of m))
      (λ m cs said s. subst (Each (IsHomeIfHash (layout_in header))) (sym s.done.changes) s.done.homes)
      (λ m l. subst (λ (k : List Raw). Each (IsHomeIfHash (layout_in header)) (map change_of k)) (sym (e.others m l).closed) tt)))

  words : Each HasWords y.book.closed
  words = subst (Each HasWords) (sym e.joined.closed)
      (each_flat HasWords (λ m. (part m).chain.book.closed) e.order (each_joined (λ m. Each HasWords (part m).chain.book.closed)
      (λ m cs said s. s.done.words)
      (λ m l. subst (λ (k : List Raw). Each HasWords k) (sym (e.others m l).closed) tt)))

  pub good : AreGood header y
  good = record { homes = homes; words = words }

  once : SameItems (book_of y) (changes_in (all_deeds race))
  once f =
      ap (total f) book_is ∙ total_flat f closed_of e.order
      ∙ sum_joined (λ m. total f (closed_of m)) (λ steps. total f (changes_in (deeds_of steps))) (λ m cs said s. ap (total f) s.done.changes) (λ m l. ap (λ (k : List Raw). total f (map change_of k)) (e.others m l).closed)
      ∙ sym (weigh_all changes_of f sections)

  lost_once : (f : ℕ → ℕ) → total f y.book.lost ≡ total (in_vain f) (vain_in (all_deeds race))
  lost_once f =
      ap (total f) e.joined.lost ∙ total_flat f (λ m. (part m).chain.book.lost) e.order
      ∙ sum_joined (λ m. total f (part m).chain.book.lost) (λ steps. total (in_vain f) (vain_in (deeds_of steps))) (λ m cs said s. s.done.lost f ∙ weigh_map f number_of (vain_in (deeds_of s.done.steps))) (λ m l. ap (total f) (e.others m l).lost)
      ∙ sym (weigh_all vain_of (in_vain f) sections)

  drawn_once : SameItems (drawn_in (all_deeds race)) (numbers_below clock)
  drawn_once f = omega (arith, drawn_weighs f (all_deeds race), stamps header y clock e.whole good f, once (weigh f), lost_once f)

  book_ok : IsBookOf race
  book_ok = record { each_once = once; slots = fits header y clock e.whole good; numbers = drawn_once }

  -- Spans

  seen_all : Each (λ m. (part m).chain.seen ≤ x.seen) numbers
  seen_all = same_each (λ m. (part m).chain.seen ≤ x.seen) numbers e.order (flipped e.order numbers e.each_once) e.joined.seen

  spans : Each (AreInOrder clock) sections
  spans = each_section header part (AreInOrder clock) (λ m. (part m).chain.seen ≤ x.seen) 1 scripts says e.done lookers seen_all
      (λ m cs said s l. later_order (part m).chain.seen clock (omega (arith, l, e.later)) s.done.steps s.done.order)

  -- Refusals

  sees_load : Sees x y
  sees_load = (settled x.sights clock, [], are_settled x.seen clock x.sights e.later, sym (append-nil (settled x.sights clock)))

  abbrev pub IsThere : ℕ → Type 0
  IsThere m = Among e.order m

  pub there_all : Each IsThere numbers
  there_all = to_each IsThere numbers (same_among numbers e.order (flipped e.order numbers e.each_once))

  range_behind : (P : ℕ → Type 0) (n k l : ℕ) → Each P (range_with_len n (k + l)) → Each P (range_with_len (k + n) l)
  range_behind P n zero l h = subst (λ j. Each P (range_with_len j l)) (let q : n ≡ 0 + n = omega arith in q) (subst (λ j. Each P (range_with_len n j)) (let q : 0 + l ≡ l = omega arith in q) h)
  range_behind P n (suc k) l h =
      let s = subst (λ j. Each P (range_with_len n j)) (let q : suc k + l ≡ suc (k + l) = omega arith in q) h in
      subst (λ j. Each P (range_with_len j l)) (let q : k + (n + 1) ≡ suc k + n = omega arith in q) (range_behind P (n + 1) k l s.1)

  -- each looker was joined, and saw no more than the first worker then
  pub each_there : Each (λ m. Among e.order m × ((part m).chain.seen ≤ x.seen)) (range_with_len (length scripts + 1) lookers)
  each_there = range_behind (λ m. Among e.order m × ((part m).chain.seen ≤ x.seen)) 1 (length scripts) lookers (each_both IsThere (λ m. (part m).chain.seen ≤ x.seen) numbers there_all seen_all)

  moves : (m : ℕ) → IsThere m → (to : ℕ) → to < open-end → Moves (part m).chain.sights (IsBy to) y.sights (IsBy to)
  moves m there to few s a i = ended_sees to few x y sees_load s (subst (λ (l : List Sight). Among l s) (sym e.joined.sights) (among_flat (λ n. (part n).chain.sights) e.order m s there a)) i

  any_moves : (m : ℕ) → IsThere m → Moves (part m).chain.sights IsAny y.sights IsAny
  any_moves m there s a i = any_sees x y sees_load s (subst (λ (l : List Sight). Among l s) (sym e.joined.sights) (among_flat (λ n. (part n).chain.sights) e.order m s there a)) tt

  -- what it saw and had ended stands
  stays : (m : ℕ) → IsThere m → (s : Sight) → Among (part m).chain.sights s → s.until < open-end → Among y.sights s
  stays m there s a few = same_sees x y sees_load s (subst (λ (l : List Sight). Among l s) (sym e.joined.sights) (among_flat (λ n. (part n).chain.sights) e.order m s there a)) few

  shown_at : (m : ℕ) → IsThere m → (s : Step) → s.to < open-end → IsShown (layout_in header) (part m).chain.sights s → IsShown (layout_in header) y.sights s
  shown_at m there s few h = record {
    keepers = each_weaken (SawKeeper (part m).chain.sights s.from (IsBy s.to)) (SawKeeper y.sights s.from (IsBy s.to)) (taken_in s.deeds)
        (keeper_moves (part m).chain.sights y.sights s.from s.from (IsBy s.to) (IsBy s.to) (omega arith) (moves m there s.to few)) h.keepers;
    frees = each_weaken (SawFree (part m).chain.sights) (SawFree y.sights) (given_in s.deeds)
        (free_moves (part m).chain.sights y.sights IsAny (any_moves m there)) h.frees;
    nones = each_weaken (SawNone (part m).chain.sights (IsBy s.to) header.shape.slots) (SawNone y.sights (IsBy s.to) header.shape.slots) (vain_in s.deeds)
        (none_moves (part m).chain.sights y.sights (IsBy s.to) (IsBy s.to) (moves m there s.to few) header.shape.slots) h.nones;
    waits = each_weaken (SawNoWait (part m).chain.sights s.from (IsBy s.to) (layout_in header)) (SawNoWait y.sights s.from (IsBy s.to) (layout_in header)) (missed_in s.deeds)
        (no_wait_moves (part m).chain.sights y.sights s.from s.from (IsBy s.to) (IsBy s.to) (omega arith) (moves m there s.to few) (layout_in header)) h.waits;
    dumps = saw_as_moves (layout_in header) (part m).chain.sights y.sights s (λ a there_a u. stays m there a there_a (omega (arith, u, few))) s.command h.dumps;
  }

  -- each step of a section that was joined
  pub section_shown : (m : ℕ) (cs : List Command) (said : Said) (s : SectionDone header m cs (part m) said) → IsThere m → Each (IsShown (layout_in header) y.sights) s.done.steps
  section_shown m cs said s there =
      each_weaken (λ (t : Step). IsShown (layout_in header) (part m).chain.sights t × IsSpanned (part m).chain.seen t) (IsShown (layout_in header) y.sights) s.done.steps
      (λ t z. shown_at m there t (omega (arith, z.1.most, s.done.few)) z.0)
      (each_both (IsShown (layout_in header) (part m).chain.sights) (IsSpanned (part m).chain.seen) s.done.steps s.done.shown s.done.order.each)

  shown : Each (IsShown (layout_in header) y.sights) (steps_of race)
  shown = each_flat (IsShown (layout_in header) y.sights) (λ (steps : List Step). steps) sections
      (each_section header part (λ steps. Each (IsShown (layout_in header) y.sights) steps) IsThere 1 scripts says e.done lookers there_all section_shown)

  taken : Each (TakenWereKept race) (steps_of race)
  taken = each_weaken (IsShown (layout_in header) y.sights) (TakenWereKept race) (steps_of race)
      (λ s h. each_weaken (SawKeeper y.sights s.from (IsBy s.to)) (WasKept (Among race.book) s.from s.to) (taken_in s.deeds) (was_kept header y clock e.whole good s.from s.to) h.keepers) shown

  freed : Each (GivenWereFree race) (steps_of race)
  freed = each_weaken (IsShown (layout_in header) y.sights) (GivenWereFree race) (steps_of race)
      (λ s h. each_weaken (SawFree y.sights) (WasFree (Among race.book)) (given_in s.deeds) (was_free header y clock e.whole good) h.frees) shown

  used : Each (SlotsWereUsed race) (steps_of race)
  used = each_weaken (IsShown (layout_in header) y.sights) (SlotsWereUsed race) (steps_of race)
      (λ s h. each_weaken (SawNone y.sights (IsBy s.to) header.shape.slots) (λ (t : Vain). NoneWasFree (Among race.book) t.number s.to race.shape.slots race.counts race.sightings t) (vain_in s.deeds)
      (none_was_free header y clock e.whole good s.to) h.nones) shown

  dumps : Each (Lists race) (steps_of race)
  dumps = each_weaken (IsShown (layout_in header) y.sights) (Lists race) (steps_of race)
      (λ s h. lists header y clock e.whole good e.sized race refl s s.command h.dumps) shown

  -- Journals

  given : ℕ → List (Placed Entry)
  given m = given_at header part 1 scripts says e.done m

  abbrev keep : ℕ → Bool
  keep m = nat_le m (length scripts)

  abbrev order : List ℕ
  order = filter keep e.order

  above : (m : ℕ) → keep m ≡ false → length scripts < m
  above m f = mathlib.Core.Logic.dite (native.Mathlib.Decide.dec_le m (length scripts)) (λ l. absurd (true≢false (sym (Rattle.std.proofs.lemmas.Bool.le-leb m (length scripts) l) ∙ f))) (λ ne. omega (arith, ne))

  beyond : (m : ℕ) → length scripts < m → given m ≡ []
  unfolding given
  beyond m l = given_none header part 1 scripts says e.done m (omega (arith, l))

  within : (m : ℕ) → 1 ≤ m → m ≤ length scripts → given m ≡ (part m).turns.mine
  unfolding given
  within m l u = given_mine header part 1 scripts says e.done m l (omega (arith, u))

  each_given : Each (λ m. (part m).turns.mine ≡ given m) e.order
  each_given = same_each (λ m. (part m).turns.mine ≡ given m) e.order numbers e.each_once
      (each_weaken (λ m. (1 ≤ m) × (m < 1 + (length scripts + lookers))) (λ m. (part m).turns.mine ≡ given m) numbers
      (λ m z. mathlib.Core.Logic.dite (native.Mathlib.Decide.dec_le m (length scripts)) (λ l. sym (within m z.0 l)) (λ ne. let far : length scripts < m = omega (arith, ne) in (e.others m far).mine ∙ sym (beyond m far)))
      (Rattle.race_run.proofs.Weights.in_range 1 (length scripts + lookers)))

  mine_is : v.mine ≡ flat_map given order
  mine_is = e.joined.mine ∙ flat_same (λ m. (part m).turns.mine) given e.order each_given ∙ flat_filter given keep e.order (λ m f. beyond m (above m f))

  kept_one : (f : ℕ → ℕ) (m : ℕ) → m ≤ length scripts → cond (keep m) (f m) 0 ≡ f m
  kept_one f m l = ap (λ b. cond b (f m) 0) (Rattle.std.proofs.lemmas.Bool.le-leb m (length scripts) l)

  kept_none : (f : ℕ → ℕ) (m : ℕ) → length scripts < m → cond (keep m) (f m) 0 ≡ 0
  kept_none f m l = by_keep (keep m) refl
    where
      by_keep : (b : Bool) → keep m ≡ b → cond b (f m) 0 ≡ 0
      by_keep true t = absurd (omega (arith, l, Rattle.std.proofs.lemmas.Bool.leb-true m (length scripts) t))
      by_keep false t = refl

  joined_once : SameItems order (numbered 1 sections)
  joined_once f =
      let many = many_sections header part 1 scripts says e.done in
      weigh_filter f keep e.order ∙ e.each_once (λ m. cond (keep m) (f m) 0)
      ∙ ap (λ k. total (λ m. cond (keep m) (f m) 0) (range_with_len 1 (k + lookers))) (sym many)
      ∙ sum_numbers 1 sections lookers f (λ m. cond (keep m) (f m) 0) (λ m l u. kept_one f m (omega (arith, u, many))) (λ m l. kept_none f m (omega (arith, l, many)))

  called : (m : ℕ) → Each (IsCalledBy m) (given m)
  unfolding given
  called m = given_called header part 1 scripts says e.done m

  gathered : WereGathered race
  gathered = record {
    given = given;
    order = order;
    callers = called;
    own = own_from header part header.shape.bind refl given 1 scripts says e.done (λ m l u. within m l (omega (arith, u)));
    joined = joined_once;
    each_once = λ f. ap (total f) (all_same 0 values) ∙ e.given f ∙ ap (total f) mine_is;
    in_order = each_value (IsInOrderOf (flat_map given order)) 0 values
        (λ j b at caller. e.in_order j b at caller ∙ ap (λ l. by_caller caller (notes_at j l)) mine_is ∙ ap (λ k. by_caller caller (notes_at k (flat_map given order))) (let q : j ≡ 0 + j = omega arith in q));
  }

  journals : AreJournalsOf race
  journals = gathered_journals race (length-map values notes_in ∙ e.count) (legal_all 0 header.shape.bind values e.left) gathered

  pub closes : AllReaped header (Among race.book) 1 scripts race.sections → IsLawfulBut header scripts race × SaysSo race says
  closes reaped = (
    record {
      shape = refl;
      seed = refl;
      sections = sections_are header (Among race.book) part 1 scripts says e.done reaped;
      spans = spans;
      journals = journals;
      book = book_ok;
      serial = serial header y clock e.whole good;
      taken = taken;
      given = freed;
      slots = used;
      dumps = dumps;
    },
    record { replies = replies_are header part 1 scripts says e.done; listings = listings_are header part 1 scripts says e.done },
  )
