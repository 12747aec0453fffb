-- What a pass knows grows from lookup to lookup.
use Rattle.std.proofs.Common.{◌≡◌, ℕ, ◌≤◌, List, [], ◌∷◌, ◌++◌, ◌⊎◌, inl, inr, refl, sym, ap, ◌∙◌, subst, arith}
use Rattle.sock_card.specs.Words.{packed}
use Rattle.sock_card.specs.declared.card.Card.{Card}
use Rattle.sock_card.specs.declared.card.Packet.{Packet}
use Rattle.table_rule.specs.Plays.{Sat, settled}
use Rattle.table_rule.specs.Words.{words_of}
use Rattle.table_rule.specs.Wholes.{Clears, FoundIn, SeenIn, StoppedIn}
use Rattle.table_rule.specs.declared.view.Kept.{Kept}
use Rattle.table_rule.specs.declared.view.Sight.{Sight}
use Rattle.table_rule.specs.declared.view.Stop.{Stop}
use Rattle.table_rule.specs.declared.view.ReadView.{ReadView}
use Rattle.established.specs.Stays.{settled_by, adding, More, Adds, Stays, Holds}

-- What stands in a list of receipts stands in a longer one

pub more_same : (v : ReadView) → More v v
more_same v = record { receipts = λ k c e. e; sighted = λ k s e. e }

pub more_more : (u v w : ReadView) → More u v → More v w → More u w
more_more u v w a b = record { receipts = λ k c e. b.receipts k c (a.receipts k c e); sighted = λ k s e. b.sighted k s (a.sighted k s e) }

module _ (v w : ReadView) (m : More v w) where
  pub clears_on : (key : Packet) (from bucket least best : ℕ) → Clears v key from bucket least best → Clears w key from bucket least best
  clears_on key from bucket least best c = record { nth = c.nth; receipt = c.receipt; there = m.receipts c.nth c.receipt c.there; key-is = c.key-is; bucket-is = c.bucket-is; enough = c.enough; later = c.later; how = c.how }

  pub found_on : (from : ℕ) (card : List ℕ) → FoundIn v from card → FoundIn w from card
  found_on from card c = record { nth = c.nth; receipt = c.receipt; there = m.receipts c.nth c.receipt c.there; found = c.found; later = c.later; card-is = c.card-is }

  pub seen_on : (from from' : ℕ) (card : List ℕ) → from' ≤ from → SeenIn v from card → SeenIn w from' card
  seen_on from from' card low c = record { nth = c.nth; sighted = c.sighted; there = m.sighted c.nth c.sighted c.there; later = let z = c.later in omega arith; card-is = c.card-is }

-- since an earlier number, and above a better one

pub clears_up : (v : ReadView) (key : Packet) (from from' bucket least best best' : ℕ) → from' ≤ from → (best ≡ 0) ⊎ (best ≤ best') → Clears v key from bucket least best → Clears v key from' bucket least best'
clears_up v key from from' bucket least best best' low up c = record {
  nth = c.nth;
  receipt = c.receipt;
  there = c.there;
  key-is = c.key-is;
  bucket-is = c.bucket-is;
  enough = c.enough;
  later = let z = c.later in omega arith;
  how = elim c.how [ inl z ↦ inl z | inr z ↦ inr (z.0, elim up [ inl y ↦ omega (arith, z.1, y) | inr y ↦ omega (arith, z.1, y) ]) ];
}

pub found_up : (v : ReadView) (from from' : ℕ) (card : List ℕ) → from' ≤ from → FoundIn v from card → FoundIn v from' card
found_up v from from' card low c = record { nth = c.nth; receipt = c.receipt; there = c.there; found = c.found; later = let z = c.later in omega arith; card-is = c.card-is }

pub stopped_up : (v : ReadView) (from from' bucket : ℕ) (last : List Stop) → from' ≤ from → StoppedIn v from bucket last → StoppedIn v from' bucket last
stopped_up v from from' bucket last low c = record { nth = c.nth; receipt = c.receipt; there = c.there; stopped = c.stopped; bucket-is = c.bucket-is; later = let z = c.later in omega arith; front = c.front; stops-are = c.stops-are }

-- More and more

settled_more : (xs : List Sight) (a b : List ℕ) → settled_by (settled_by xs a) b ≡ settled_by xs (a ++ b)
settled_more xs [] b = refl
settled_more xs (n ∷ ns) b = settled_more (settled xs n) ns b

pub adds_on : (m k n : Sat) (ks ks' : List Kept) (hs hs' : List ℕ) → Adds m ks hs k → Adds k ks' hs' n → Adds m ks' hs' n
adds_on m k n ks ks' hs hs' a b = record {
  taken = b.taken;
  receipts = b.receipts;
  sighted = b.sighted;
  seen = b.seen;
  learned = a.learned ++ b.learned;
  often = let x = a.often in let y = b.often in let z : k.0.slot.taken ≡ a.taken = ap (λ (s : Sat). s.0.slot.taken) a.is in omega (arith, z);
  later = let x = a.later in let y = b.later in let z : k.0.seen ≡ a.seen = ap (λ (s : Sat). s.0.seen) a.is in omega (arith, z);
  is = b.is ∙ (ap (λ (s : Sat). (adding s.0 ks' hs' b.taken b.receipts b.sighted b.seen (settled_by s.0.sights b.learned), s.1)) a.is
      ∙ ap (λ (l : List Sight). (adding m.0 ks' hs' b.taken b.receipts b.sighted b.seen l, m.1)) (settled_more m.0.sights a.learned b.learned));
  more = more_more m.0.read k.0.read n.0.read a.more b.more;
}

pub stays_same : (m n : Sat) → n ≡ m → Stays m n
stays_same m n e = record {
  taken = m.0.slot.taken;
  receipts = m.0.read.receipts;
  sighted = m.0.read.sighted;
  seen = m.0.seen;
  learned = [];
  often = omega arith;
  later = omega arith;
  is = e;
  more = subst (λ (s : Sat). More m.0.read s.0.read) (sym e) (more_same m.0.read);
}

pub stays_on : (m k n : Sat) → Stays m k → Stays k n → Stays m n
stays_on m k n a b = adds_on m k n m.0.read.kept m.0.read.kept m.0.slot.holds m.0.slot.holds a
    (subst (λ (l : List Kept). Adds k l m.0.slot.holds n) (ap (λ (s : Sat). s.0.read.kept) a.is) (subst (λ (l : List ℕ). Adds k k.0.read.kept l n) (ap (λ (s : Sat). s.0.slot.holds) a.is) b))

pub holds_on : (m k n : Sat) (slot : ℕ) (card : Card) → Stays m k → Holds k slot card n → Holds m slot card n
holds_on m k n slot card a b = (
  b.0,
  adds_on m k n m.0.read.kept (record { slot = slot; since = b.0; words = words_of (packed card) } ∷ m.0.read.kept) m.0.slot.holds (slot ∷ m.0.slot.holds) a
      (subst (λ (l : List Kept). Adds k (record { slot = slot; since = b.0; words = words_of (packed card) } ∷ l) (slot ∷ m.0.slot.holds) n) (ap (λ (s : Sat). s.0.read.kept) a.is) (subst (λ (l : List ℕ). Adds k (record { slot = slot; since = b.0; words = words_of (packed card) } ∷ k.0.read.kept) (slot ∷ l) n) (ap (λ (s : Sat). s.0.slot.holds) a.is) b.1)),
)

pub idle_on : (m n : Sat) (ks : List Kept) (hs : List ℕ) → m.0.read.reader ≡ [] → Adds m ks hs n → n.0.read.reader ≡ []
idle_on m n ks hs idle a = ap (λ (s : Sat). s.0.read.reader) a.is ∙ idle

pub seen_later : (m n : Sat) (ks : List Kept) (hs : List ℕ) → Adds m ks hs n → m.0.seen ≤ n.0.seen
seen_later m n ks hs a = let z : n.0.seen ≡ a.seen = ap (λ (s : Sat). s.0.seen) a.is in let y = a.later in omega (arith, z)
