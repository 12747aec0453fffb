-- What the judge of a printed race finds: which test is the first that fails, and at which line. Our own.
use Rattle.std.specs.Prelude.{◌≡◌, ℕ, ◌+◌, ◌*◌, ◌<◌, List, take, length}
use Rattle.list_words.specs.Lists.{Each}
use Rattle.book_audit.specs.declared.printed.Printed.{Printed}
use Rattle.book_audit.specs.declared.printed.Why.{Why}
use Rattle.book_audit.specs.declared.printed.Why.TheVariants as whys
use Rattle.book_audit.specs.declared.printed.Finding.{Finding}
use Rattle.book_audit.specs.declared.printed.Finding.TheVariants as findings
use Rattle.book_audit.specs.Book.{book_of}
use Rattle.book_audit.specs.Lines.{AreStamped, AreHoused, NoTwo, overlap, share_slot, are_twins}
use Rattle.book_audit.specs.Looks.{IsLineExplained}

-- the clock counts two numbers for each change, and one for each reply that drew one in vain
abbrev pub CountsAll : Printed → Type 0
CountsAll p = p.clock ≡ 2 * length (book_of p.lives.items) + p.vain

-- the race passes that test
abbrev pub Passes : Printed → Why → Type 0
Passes p whys.Stamp = AreStamped p.clock p.lives.items
Passes p whys.Home = AreHoused p.shape p.seed p.lives.items
Passes p whys.Overlap = NoTwo overlap p.lives.items
Passes p whys.Slot = NoTwo share_slot p.lives.items
Passes p whys.Twin = NoTwo are_twins p.lives.items
Passes p whys.Receipt = Each (IsLineExplained p.shape p.seed p.lives.items) p.packets.items
Passes p whys.Count = CountsAll p

-- the first line at which a test of some lines fails: those before it pass the test, and with it they don't
pub record FailsAt {A : Type 0} (Test : List A → Type 0) (lines : List A) (at : ℕ) : Type 0 where
  pub within : at < length lines
  pub before : Test (take at lines)
  pub fails : ¬ (Test (take (at + 1) lines))

-- the race fails that test, first at that line
abbrev pub Fails : Printed → Why → ℕ → Type 0
Fails p whys.Stamp at = FailsAt (AreStamped p.clock) p.lives.items at
Fails p whys.Home at = FailsAt (AreHoused p.shape p.seed) p.lives.items at
Fails p whys.Overlap at = FailsAt (NoTwo overlap) p.lives.items at
Fails p whys.Slot at = FailsAt (NoTwo share_slot) p.lives.items at
Fails p whys.Twin at = FailsAt (NoTwo are_twins) p.lives.items at
Fails p whys.Receipt at = FailsAt (Each (IsLineExplained p.shape p.seed p.lives.items)) p.packets.items at
Fails p whys.Count at = (at ≡ 0) × (¬ (CountsAll p))

-- the order of testing
abbrev pub order : Why → ℕ
order whys.Stamp = 0
order whys.Home = 1
order whys.Overlap = 2
order whys.Slot = 3
order whys.Twin = 4
order whys.Receipt = 5
order whys.Count = 6

-- it passes each test that comes before that one
abbrev pub PassesBefore : Printed → Why → Type 0
PassesBefore p why = (w : Why) → order w < order why → Passes p w

-- sound where it passes each test; else the first test that it fails, and the first line at which it does
abbrev pub IsFinding : Printed → Finding → Type 0
IsFinding p findings.Sound = (w : Why) → Passes p w
IsFinding p (findings.Wrong why at) = PassesBefore p why × Fails p why at
