-- Each race has a finding.
use Rattle.std.proofs.Common.{◌≡◌, ℕ, zero, suc, ◌+◌, ◌*◌, ◌<◌, ◌≤◌, ◌==◌, ◌∙◌, Bool, true, false, List, [], ◌∷◌, take, length, ◌⊎◌, inl, inr, refl, sym, subst, arith}
use Rattle.std.proofs.lemmas.Bool.{true≢false, eqb-true, eq-eqb}
use Rattle.std.proofs.lemmas.List.{take_all}
use Rattle.list_words.specs.Lists.{Each, Pairs}
use Rattle.book_audit.specs.declared.printed.PrintedLife.{PrintedLife}
use Rattle.book_audit.specs.declared.printed.PrintedPacket.{PrintedPacket}
use Rattle.book_audit.specs.declared.printed.Printed.{Printed}
use Rattle.book_audit.specs.declared.printed.Why.{Why}
use Rattle.book_audit.specs.declared.printed.Why.TheVariants as whys
use Rattle.book_audit.specs.declared.printed.Finding.{Finding}
use Rattle.book_audit.specs.declared.printed.Finding.TheVariants as findings
use Rattle.book_audit.specs.Book.{book_of}
use Rattle.book_audit.specs.Lines.{NoTwo, AreStamped, ascends, shares_number, AreHoused, is_home, overlap, share_slot, are_twins}
use Rattle.book_audit.specs.Looks.{IsLineExplained}
use Rattle.book_audit.specs.Tried.{line_explained}
use Rattle.book_audit.specs.Findings.{Passes, FailsAt, Fails, order, CountsAll, IsFinding}
use Rattle.book_audit.specs.Laws.{SomeFinding}
use Rattle.book_audit.proofs.Looked.{line_is, line_back}
use Rattle.book_audit.proofs.Verdicts.{one_order}

next : (n : ℕ) → n + 1 ≡ suc n
next n = omega arith

-- it holds, or it doesn't
abbrev Decided : Type 0 → Type 0
Decided P = P ⊎ (P → ⊥)

by_test : (P : Type 0) (test : Bool) → (test ≡ true → P) → (test ≡ false → P → ⊥) → Decided P
by_test P true holds fails = inl (holds refl)
by_test P false holds fails = inr (fails refl)

is_decided : (test one : Bool) → Decided (test ≡ one)
is_decided true true = inl refl
is_decided true false = inr true≢false
is_decided false true = inr (λ e. true≢false (sym e))
is_decided false false = inl refl

equal_decided : (m n : ℕ) → Decided (m ≡ n)
equal_decided m n = by_test (m ≡ n) (m == n) (eqb-true m n) (λ fails e. true≢false (sym (eq-eqb m n e) ∙ fails))

both_decided : (P Q : Type 0) → Decided P → Decided Q → Decided (P × Q)
both_decided P Q (inl p) (inl q) = inl (p, q)
both_decided P Q (inl p) (inr q) = inr (λ both. q both.1)
both_decided P Q (inr p) q = inr (λ both. p both.0)

module _ {A : Type 0} where
  each_decided : (P : A → Type 0) → ((x : A) → Decided (P x)) → (xs : List A) → Decided (Each P xs)
  each_decided P test [] = inl tt
  each_decided P test (x ∷ xs) = both_decided (P x) (Each P xs) (test x) (each_decided P test xs)

  pairs_decided : (R : A → A → Type 0) → ((x y : A) → Decided (R x y)) → (xs : List A) → Decided (Pairs R xs)
  pairs_decided R test [] = inl tt
  pairs_decided R test (x ∷ xs) = both_decided (Each (R x) xs) (Pairs R xs) (each_decided (R x) (test x) xs) (pairs_decided R test xs)

  module _ (Test : List A → Type 0) (test : (xs : List A) → Decided (Test xs)) (none : Test []) (xs : List A) where
    -- so many lines pass the test, or there is a first that doesn't
    abbrev PassesOrFails : ℕ → Type 0
    PassesOrFails n = Test (take n xs) ⊎ ((at : ℕ) × FailsAt Test xs at)

    one_more : (n : ℕ) → n < length xs → Test (take n xs) → Decided (Test (take (n + 1) xs)) → PassesOrFails (n + 1)
    one_more n l t (inl more) = inl more
    one_more n l t (inr more) = inr (n, record { within = l; before = t; fails = more })

    goes_on : (n : ℕ) → n < length xs → PassesOrFails n → PassesOrFails (n + 1)
    goes_on n l (inl t) = one_more n l t (test (take (n + 1) xs))
    goes_on n l (inr fails) = inr fails

    up_to : (n : ℕ) → n ≤ length xs → PassesOrFails n
    up_to zero l = inl none
    up_to (suc n) l = subst PassesOrFails (next n) (goes_on n (omega (arith, l)) (up_to n (omega (arith, l))))

    pub all_or_first : Test xs ⊎ ((at : ℕ) × FailsAt Test xs at)
    all_or_first = subst (λ ys. Test ys ⊎ ((at : ℕ) × FailsAt Test xs at)) (take_all (length xs) xs (omega arith)) (up_to (length xs) (omega arith))

no_two_decided : (clash : PrintedLife → PrintedLife → Bool) (lives : List PrintedLife) → Decided (NoTwo clash lives)
no_two_decided clash = pairs_decided (λ l m. clash l m ≡ false) (λ l m. is_decided (clash l m) false)

housed_decided : (p : Printed) (lives : List PrintedLife) → Decided (AreHoused p.shape p.seed lives)
housed_decided p = each_decided (λ l. is_home p.shape p.seed l ≡ true) (λ l. is_decided (is_home p.shape p.seed l) true)

stamped_of : (clock : ℕ) (lives : List PrintedLife) → Decided (Each (λ (l : PrintedLife). ascends clock l ≡ true) lives × NoTwo shares_number lives) → Decided (AreStamped clock lives)
stamped_of clock lives (inl both) = inl (record { ascend = both.0; differ = both.1 })
stamped_of clock lives (inr fails) = inr (λ s. fails (s.ascend, s.differ))

stamped_decided : (clock : ℕ) (lives : List PrintedLife) → Decided (AreStamped clock lives)
stamped_decided clock lives =
    stamped_of clock lives (both_decided (Each (λ (l : PrintedLife). ascends clock l ≡ true) lives) (NoTwo shares_number lives)
    (each_decided (λ l. ascends clock l ≡ true) (λ l. is_decided (ascends clock l) true) lives) (no_two_decided shares_number lives))

module _ (p : Printed) where
  -- it passes the first so many tests
  abbrev PassedFirst : ℕ → Type 0
  PassedFirst n = (w : Why) → order w < n → Passes p w

  abbrev Tried : Why → Type 0
  Tried why = Passes p why ⊎ ((at : ℕ) × Fails p why at)

  explained_decided : PassedFirst 5 → (packets : List PrintedPacket) → Decided (Each (IsLineExplained p.shape p.seed p.lives.items) packets)
  explained_decided before =
      let stamps = before whys.Stamp (omega arith) in
      let homes = before whys.Home (omega arith) in
      let slots = before whys.Slot (omega arith) in
      each_decided (IsLineExplained p.shape p.seed p.lives.items) (λ packet.
      by_test (IsLineExplained p.shape p.seed p.lives.items packet) (line_explained p.shape p.seed p.lives.items packet)
      (line_is p.clock p.shape p.seed p.lives.items stamps slots homes packet) (line_back p.clock p.shape p.seed p.lives.items stamps slots homes packet))

  counted : Decided (CountsAll p) → Tried whys.Count
  counted (inl holds) = inl holds
  counted (inr fails) = inr (0, (refl, fails))

  tried : (why : Why) → PassedFirst (order why) → Tried why
  tried whys.Stamp before = all_or_first (AreStamped p.clock) (stamped_decided p.clock) (record { ascend = tt; differ = tt }) p.lives.items
  tried whys.Home before = all_or_first (AreHoused p.shape p.seed) (housed_decided p) tt p.lives.items
  tried whys.Overlap before = all_or_first (NoTwo overlap) (no_two_decided overlap) tt p.lives.items
  tried whys.Slot before = all_or_first (NoTwo share_slot) (no_two_decided share_slot) tt p.lives.items
  tried whys.Twin before = all_or_first (NoTwo are_twins) (no_two_decided are_twins) tt p.lives.items
  tried whys.Receipt before = all_or_first (Each (IsLineExplained p.shape p.seed p.lives.items)) (explained_decided before) tt p.packets.items
  tried whys.Count before = counted (equal_decided p.clock (2 * length (book_of p.lives.items) + p.vain))

  abbrev Found : Type 0
  Found = (f : Finding) × IsFinding p f

  by_order : (why w : Why) → PassedFirst (order why) → Passes p why → order w < order why + 1 → Decided (order w ≡ order why) → Passes p w
  by_order why w before passes l (inl same) = subst (Passes p) (sym (one_order w why same)) passes
  by_order why w before passes l (inr other) = before w (omega (arith, l, other))

  passed_one_more : (why : Why) → PassedFirst (order why) → Passes p why → PassedFirst (order why + 1)
  passed_one_more why before passes w l = by_order why w before passes l (equal_decided (order w) (order why))

  goes_by : (why : Why) → PassedFirst (order why) → Tried why → (PassedFirst (order why + 1) → Found) → Found
  goes_by why before (inl passes) next = next (passed_one_more why before passes)
  goes_by why before (inr fails) next = (findings.Wrong why fails.0, (before, fails.1))

  test_then : (why : Why) → PassedFirst (order why) → (PassedFirst (order why + 1) → Found) → Found
  test_then why before next = goes_by why before (tried why before) next

  among_seven : (w : Why) → order w < 7
  among_seven whys.Stamp = omega arith
  among_seven whys.Home = omega arith
  among_seven whys.Overlap = omega arith
  among_seven whys.Slot = omega arith
  among_seven whys.Twin = omega arith
  among_seven whys.Receipt = omega arith
  among_seven whys.Count = omega arith

  found : Found
  found =
      test_then whys.Stamp (λ w l. absurd (omega (arith, l))) (λ one. test_then whys.Home one (λ two. test_then whys.Overlap two
      (λ three. test_then whys.Slot three (λ four. test_then whys.Twin four (λ five. test_then whys.Receipt five (λ six. test_then whys.Count six
      (λ all. (findings.Sound, λ w. all w (among_seven w)))))))))

pub some_finding : SomeFinding
some_finding = found
