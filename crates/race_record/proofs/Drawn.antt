-- What the numbers that were drawn say of a book.
use Rattle.std.proofs.Common.{◌≡◌, ℕ, zero, suc, ◌+◌, ◌*◌, ◌<◌, ◌≤◌, Bool, true, false, cond, nat_lt, List, [], ◌∷◌, ◌++◌, length, filter, None, Some, refl, sym, ap, ◌∙◌, subst, arith, inl, inr, length-append}
use Rattle.std.specs.List.{flat_map}
use Rattle.std.proofs.lemmas.Bool.{ltb-true, ltb-false, lt-ltb}
use Rattle.std.proofs.lemmas.Grind.{flat_map-append}
use Rattle.list_words.specs.Lists.{Each, Pairs, total}
use Rattle.list_words.proofs.TotalLemmas.{total-append}
use Rattle.turn_table.specs.Journals.{numbers_below}
use Rattle.capture_reader.specs.Captures.{Capture}
use Rattle.chain_book.specs.declared.book.Change.{Change}
use Rattle.flat_list.specs.declared.header.Header.{Header}
use Rattle.flat_list.specs.declared.command.Command.{Command}
use Rattle.flat_list.specs.Script.{Script}
use Rattle.table_model.specs.Own.{Own, new_own}
use Rattle.race_book.specs.Among.{Among}
use Rattle.race_book.specs.Laws.{EndAfter}
use Rattle.race_book.specs.Listed.{stamps_of}
use Rattle.race_book.proofs.Joined.{pairs_front, pairs_back}
use Rattle.race_record.specs.Deeds.{Deed, Vain, hashed, kept_out, no_slot, entered, inserted, added, left, reaped, changes_of, changes_in, vain_of, vain_in, drawn_of, drawn_in}
use Rattle.race_record.specs.Record.{Race, Step, deeds_of, steps_of}
use Rattle.race_record.specs.Laws.{drew_in_vain}
use Rattle.race_record.specs.Lawful.{Lawful, AreInOrder, IsSpanned, AreStepsOf, AreSectionsOf}
use Rattle.race_record.specs.Headline.{NumbersTell}
use Rattle.race_record.proofs.Vain.{replies_tell}
use Rattle.race_record.proofs.Weights.{is, is_self, beyond, once, all_differ, ones, kept_join}

-- a change weighs what its numbers weigh
abbrev pub weigh : (ℕ → ℕ) → Change → ℕ
weigh f c = f c.begin + f c.end

abbrev in_vain : (ℕ → ℕ) → Vain → ℕ
in_vain f v = f v.number

drawn_deed : (f : ℕ → ℕ) (d : Deed) → total f (drawn_of d) ≡ total (weigh f) (changes_of d) + total (in_vain f) (vain_of d)
drawn_deed f (entered port note) = refl
drawn_deed f (inserted wish (hashed c None)) = omega arith
drawn_deed f (inserted wish (hashed c (Some u))) = omega arith
drawn_deed f (inserted wish (kept_out name)) = refl
drawn_deed f (inserted wish (no_slot number owned held)) = omega arith
drawn_deed f (added card (hashed c None)) = omega arith
drawn_deed f (added card (hashed c (Some u))) = omega arith
drawn_deed f (added card (kept_out name)) = refl
drawn_deed f (added card (no_slot number owned held)) = omega arith
drawn_deed f (left u) = omega arith
drawn_deed f (reaped card None) = refl
drawn_deed f (reaped card (Some u)) = omega arith

pub drawn_weighs : (f : ℕ → ℕ) (deeds : List Deed) → total f (drawn_in deeds) ≡ total (weigh f) (changes_in deeds) + total (in_vain f) (vain_in deeds)
drawn_weighs f [] = refl
drawn_weighs f (d ∷ deeds) = omega (
  arith,
  total-append f (drawn_of d) (drawn_in deeds),
  total-append (weigh f) (changes_of d) (changes_in deeds),
  total-append (in_vain f) (vain_of d) (vain_in deeds),
  drawn_deed f d,
  drawn_weighs f deeds,
)

pub stamps_weigh : (f : ℕ → ℕ) (book : List Change) → total f (stamps_of book) ≡ total (weigh f) book
stamps_weigh f [] = refl
stamps_weigh f (c ∷ book) = omega (arith, stamps_weigh f book)

below_by : (x c : ℕ) (rest : List ℕ) → (c ≤ x → total (is x) (x ∷ rest) ≡ 0) → (b : Bool) → nat_lt x c ≡ b → x < c
below_by x c rest h true e = ltb-true x c e
below_by x c rest h false e = absurd (omega (arith, h (ltb-false x c e), is_self x))

pub each_below : (c : ℕ) (xs : List ℕ) → ((n : ℕ) → c ≤ n → total (is n) xs ≡ 0) → Each (λ (n : ℕ). n < c) xs
each_below c [] h = tt
each_below c (x ∷ xs) h = (below_by x c xs (h x) (nat_lt x c) refl, each_below c xs (λ n l. omega (arith, h n l)))

-- a change that doesn't end after it begins weighs 1
abbrev bad : Change → ℕ
bad c = cond (nat_lt c.begin c.end) 0 1

good : (c : Change) → c.begin < c.end → bad c ≡ 0
good c l = ap {B = ℕ} (λ (b : Bool). cond b 0 1) (lt-ltb c.begin c.end l)

abbrev Ascend : List ℕ → Type 0
Ascend numbers = Pairs (λ (n m : ℕ). n < m) numbers

good_deed : (d : Deed) → Ascend (drawn_of d) → total bad (changes_of d) ≡ 0
good_deed (entered port note) p = refl
good_deed (inserted wish (hashed c None)) p = omega (arith, good c p.0.0)
good_deed (inserted wish (hashed c (Some u))) p = omega (arith, good c p.0.0, good u p.1.1.0.0)
good_deed (inserted wish (kept_out name)) p = refl
good_deed (inserted wish (no_slot number owned held)) p = refl
good_deed (added card (hashed c None)) p = omega (arith, good c p.0.0)
good_deed (added card (hashed c (Some u))) p = omega (arith, good c p.0.0, good u p.1.1.0.0)
good_deed (added card (kept_out name)) p = refl
good_deed (added card (no_slot number owned held)) p = refl
good_deed (left u) p = omega (arith, good u p.0.0)
good_deed (reaped card None) p = refl
good_deed (reaped card (Some u)) p = omega (arith, good u p.0.0)

good_deeds : (deeds : List Deed) → Ascend (drawn_in deeds) → total bad (changes_in deeds) ≡ 0
good_deeds [] p = refl
good_deeds (d ∷ deeds) p = omega (
  arith,
  total-append bad (changes_of d) (changes_in deeds),
  good_deed d (pairs_front (λ (n m : ℕ). n < m) (drawn_of d) (drawn_in deeds) p),
  good_deeds deeds (pairs_back (λ (n m : ℕ). n < m) (drawn_of d) (drawn_in deeds) p),
)

-- of the deeds of two lists of steps, the changes of both
changes_join : (f : Change → ℕ) (xs ys : List Deed) → total f (changes_in (xs ++ ys)) ≡ total f (changes_in xs) + total f (changes_in ys)
changes_join f xs ys = ap (total f) (flat_map-append changes_of xs ys) ∙ total-append f (changes_in xs) (changes_in ys)

pub deeds_join : (xs ys : List Step) → deeds_of (xs ++ ys) ≡ deeds_of xs ++ deeds_of ys
deeds_join xs ys = flat_map-append (λ (s : Step). s.deeds) xs ys

good_steps : (clock : ℕ) (steps : List Step) → Each (IsSpanned clock) steps → total bad (changes_in (deeds_of steps)) ≡ 0
good_steps clock [] e = refl
good_steps clock (s ∷ steps) e = omega (arith, changes_join bad s.deeds (deeds_of steps), good_deeds s.deeds e.0.ascend, good_steps clock steps e.1)

good_all : (clock : ℕ) (sections : List (List Step)) → Each (AreInOrder clock) sections → total bad (changes_in (deeds_of (flat_map (λ steps. steps) sections))) ≡ 0
good_all clock [] e = refl
good_all clock (steps ∷ sections) e =
    let rest : List Step = flat_map (λ steps. steps) sections in
    omega (
      arith,
      ap (λ ds. total bad (changes_in ds)) (deeds_join steps rest),
      changes_join bad (deeds_of steps) (deeds_of rest),
      good_steps clock steps e.0.each,
      good_all clock sections e.1,
    )

good_by : (c : Change) (b : Bool) → nat_lt c.begin c.end ≡ b → ◌≡◌ {A = ℕ} (cond b 0 1) 0 → c.begin < c.end
good_by c true e h = ltb-true c.begin c.end e
good_by c false e h = absurd (omega (arith, h))

good_book : (book : List Change) → total bad book ≡ 0 → EndAfter book
good_book [] h c a = absurd a
good_book (x ∷ xs) h c (inl e) = subst (λ (y : Change). y.begin < y.end) (sym e) (good_by x (nat_lt x.begin x.end) refl (omega (arith, h)))
good_book (x ∷ xs) h c (inr a) = good_book xs (omega (arith, h)) c a

vain_join : (xs ys : List Deed) → length (vain_in (xs ++ ys)) ≡ length (vain_in xs) + length (vain_in ys)
vain_join xs ys = ap length (flat_map-append vain_of xs ys) ∙ length-append (vain_in xs) (vain_in ys)

one_more : (s : Step) (steps : List Step) (b : Bool) → length (cond b (s ∷ filter drew_in_vain steps) (filter drew_in_vain steps)) ≡ cond b 1 0 + length (filter drew_in_vain steps)
one_more s steps true = omega arith
one_more s steps false = omega arith

module _ (header : Header) (In : Change → Type 0) where
  steps_vain : (own : Own) (cs : List Command) (steps : List Step) → AreStepsOf header In own cs steps → length (vain_in (deeds_of steps)) ≡ length (filter drew_in_vain steps)
  steps_vain own [] [] a = refl
  steps_vain own (c ∷ cs) (s ∷ steps) a = omega (
    arith,
    vain_join s.deeds (deeds_of steps),
    replies_tell header own a.0 c s.reply s.deeds a.1.goes,
    steps_vain a.0 cs steps a.2,
    one_more s steps (drew_in_vain s),
  )
  steps_vain own [] (s ∷ steps) a = absurd a
  steps_vain own (c ∷ cs) [] a = absurd a

  all_vain : (n : ℕ) (scripts : List (List Command)) (sections : List (List Step)) → AreSectionsOf header In n scripts sections
      → length (vain_in (deeds_of (flat_map (λ steps. steps) sections))) ≡ length (filter drew_in_vain (flat_map (λ steps. steps) sections))
  all_vain n [] [] a = refl
  all_vain n (cs ∷ scripts) (steps ∷ sections) a =
      let rest : List Step = flat_map (λ steps. steps) sections in
      omega (
        arith,
        ap (λ ds. length (vain_in ds)) (deeds_join steps rest),
        vain_join (deeds_of steps) (deeds_of rest),
        steps_vain (new_own header n) cs steps a.0,
        all_vain (n + 1) scripts sections a.1,
        kept_join drew_in_vain steps rest,
      )
  all_vain n [] (steps ∷ sections) a = absurd a
  all_vain n (cs ∷ scripts) [] a = absurd a

twos : (xs : List Change) → total (weigh (λ n. 1)) xs ≡ 2 * length xs
twos [] = refl
twos (x ∷ xs) = omega (arith, twos xs)

count_below : (c : ℕ) → total (λ n. 1) (numbers_below c) ≡ c
count_below zero = refl
count_below (suc c) = omega (arith, total-append (λ (n : ℕ). 1) (numbers_below c) (c ∷ []), count_below c)

pub numbers_tell : (script : Script) (capture : Capture) (race : Race) → Lawful script capture race → NumbersTell race
numbers_tell script capture race l =
    let deeds : List Deed = deeds_of (steps_of race) in
    let stamps : (f : ℕ → ℕ) → total f (stamps_of race.book) + total (in_vain f) (vain_in deeds) ≡ total f (numbers_below race.clock) =
    λ f. omega (arith, stamps_weigh f race.book, l.book.each_once (weigh f), drawn_weighs f deeds, l.book.numbers f) in
    let vain : total (in_vain (λ n. 1)) (vain_in deeds) ≡ length (vain_in deeds) = ones (vain_in deeds) in
    record {
      distinct = all_differ (stamps_of race.book) (λ n. omega (arith, stamps (is n), once n race.clock));
      below = each_below race.clock (stamps_of race.book) (λ n m. omega (arith, stamps (is n), beyond n race.clock m));
      order = good_book race.book (l.book.each_once bad ∙ good_all race.clock race.sections l.spans);
      count = omega (
        arith,
        stamps (λ n. 1),
        stamps_weigh (λ n. 1) race.book,
        twos race.book,
        vain,
        count_below race.clock,
        all_vain script.header (Among race.book) 1 script.sections race.sections l.sections,
      );
    }
