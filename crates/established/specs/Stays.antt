-- What lookups leave of all that a pass knows. Our own.
use Rattle.std.specs.Prelude.{◌≡◌, ℕ, ◌≤◌, List, [], ◌∷◌}
use mathlib.Core.Option.{some}
use lib.ListN.{get_elem?}
use Rattle.sock_card.specs.Words.{packed}
use Rattle.sock_card.specs.declared.card.Card.{Card}
use Rattle.table_rule.specs.Plays.{Sat, settled}
use Rattle.table_rule.specs.Words.{words_of}
use Rattle.table_rule.specs.declared.view.View.{View}
use Rattle.table_rule.specs.declared.view.Kept.{Kept}
use Rattle.table_rule.specs.declared.view.Sight.{Sight}
use Rattle.table_rule.specs.declared.view.Receipt.{Receipt}
use Rattle.table_rule.specs.declared.view.ReadView.{ReadView}
use Rattle.table_rule.specs.declared.view.Sighted.{Sighted}

-- sightings that wait for a number of the clock get the first of these
abbrev pub settled_by : List Sight → List ℕ → List Sight
settled_by sights [] = sights
settled_by sights (number ∷ numbers) = settled_by (settled sights number) numbers

-- a view with these counts, receipts and cards that were put
abbrev pub adding :
    View → List Kept → List ℕ → (taken : ℕ) → List Receipt → List Sighted → (seen : ℕ) → List Sight → View
adding v ks hs taken receipts sighted seen sights =
    record v {
      slot = record v.slot { holds = hs; taken = taken };
      read = record v.read { kept = ks; receipts = receipts; sighted = sighted };
      seen = seen;
      sights = sights;
    }

-- each receipt and each card that was put stands where it stood
pub record More (v w : ReadView) : Type 0 where
  pub receipts : (k : ℕ) (c : Receipt) → get_elem? v.receipts k ≡ some c → get_elem? w.receipts k ≡ some c
  pub sighted : (k : ℕ) (s : Sighted) → get_elem? v.sighted k ≡ some s → get_elem? w.sighted k ≡ some s

-- nothing else has changed than which counts are held, how often one was taken, the receipts and the cards that were
-- put, of which there are no fewer, and what was learned of the clock
pub record Adds (m : Sat) (ks : List Kept) (hs : List ℕ) (n : Sat) : Type 0 where
  pub taken : ℕ
  pub receipts : List Receipt
  pub sighted : List Sighted
  pub seen : ℕ
  pub learned : List ℕ
  pub often : m.0.slot.taken ≤ taken
  pub later : m.0.seen ≤ seen
  pub is : n ≡ (adding m.0 ks hs taken receipts sighted seen (settled_by m.0.sights learned), m.1)
  pub more : More m.0.read n.0.read

-- the same counts are held
abbrev pub Stays : Sat → Sat → Type 0
Stays m n = Adds m m.0.read.kept m.0.slot.holds n

-- and one more, of a card that was loaded under it
abbrev pub Holds : Sat → (slot : ℕ) → Card → Sat → Type 0
Holds m slot card n =
    (since : ℕ) × Adds m (record { slot = slot; since = since; words = words_of (packed card) } ∷ m.0.read.kept)
    (slot ∷ m.0.slot.holds) n
