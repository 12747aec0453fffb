-- How a plan goes on by the answers that it got, whoever else is at the tables: our own form.
--
-- To be read from the end: `GoesAlone` and `WentAlone` are laws, which src/laws.rt states, and each stands on those
-- above it.
use Rattle.std.specs.Prelude.{◌≡◌, ℕ, ◌%◌, ◌≤◌, Bool, List, [], ◌∷◌, ◌++◌}
use Rattle.sock_card.specs.declared.card.Card.{Card}
use Rattle.turn_table.specs.declared.note.Placed.{Placed}
use Rattle.bind_buckets.specs.declared.request.Entry.{Entry}
use Rattle.bind_buckets.specs.Turned.{View, Gave, IsAlone, KnowsAll, AreLawful, hash_of}
use Rattle.chain_book.specs.declared.outcome.Place.{Place}
use Rattle.chain_book.specs.declared.outcome.Replace.{Replace}
use Rattle.chain_book.specs.Chains.{Chains, Outcome, insert_outcome, add_outcome, hashed, unhashed, waiting}
use Rattle.table_model.specs.Asking.{Asking, asks, inserts, adds, unhashes, reaps}
use Rattle.table_model.specs.Tables.{Tables, run, was_found, reaped}

-- a question that was answered: a bind bucket's entry, or what a chain came to
pub data Told : Type 0 where
  entered : Placed Entry → Told
  inserted : Card → ℕ → Replace → Outcome → Told
  added : Card → Outcome → Told
  left : Place → Card → Told
  reaps_found : Card → Bool → Told

-- the plan's first question is that one, and then it goes on so
abbrev pub Takes : {R : Type 0} → ℕ → Asking R → Told → Asking R → Type 0
Takes count (asks key request then_) (entered x) next =
    (x.place ≡ key % count) × (x.note.entry.request ≡ request) × (next ≡ then_ x.note.entry.answer)
Takes count (inserts card moment rule then_) (inserted c m r outcome) next =
    (c ≡ card) × (m ≡ moment) × (r ≡ rule) × (next ≡ then_ outcome)
Takes count (adds card then_) (added c outcome) next = (c ≡ card) × (next ≡ then_ outcome)
Takes count (unhashes place card then_) (left p c) next = (p ≡ place) × (c ≡ card) × (next ≡ then_)
Takes count (reaps card then_) (reaps_found c found) next = (c ≡ card) × (next ≡ then_ found)
Takes count _ _ next = ⊥

-- after these questions, of so many buckets, that is left of the plan
abbrev pub Leads : {R : Type 0} → ℕ → Asking R → List Told → Asking R → Type 0
Leads count plan [] rest = plan ≡ rest
Leads {R} count plan (x ∷ xs) rest = (next : Asking R) × Takes count plan x next × Leads count next xs rest

-- the entries among these answers
abbrev pub entries_in : List Told → List (Placed Entry)
entries_in [] = []
entries_in (entered x ∷ xs) = x ∷ entries_in xs
entries_in (_ ∷ xs) = entries_in xs

-- and what chains came to
abbrev pub outcomes_in : List Told → List Told
outcomes_in [] = []
outcomes_in (entered x ∷ xs) = outcomes_in xs
outcomes_in (x ∷ xs) = x ∷ outcomes_in xs

-- the plan went on so far, by entries that its pass gave for it and no others; it asked no chain
pub record Went {R : Type 0} (count : ℕ) (plan : Asking R) (v w : View) (rest : Asking R) : Type 0 where
  pub told : List Told
  pub leads : Leads count plan told rest
  pub gave : Gave v w (entries_in told)
  pub quiet : outcomes_in told ≡ []

-- the chains answer so where nobody else is at them, and are left so
abbrev pub AreChains : Chains → List Told → Chains → Type 0
AreChains chains [] new = chains ≡ new
AreChains chains (entered x ∷ xs) new = AreChains chains xs new
AreChains chains (inserted card moment rule outcome ∷ xs) new =
    (insert_outcome chains card moment rule ≡ outcome) × AreChains (hashed chains card outcome) xs new
AreChains chains (added card outcome ∷ xs) new =
    (add_outcome chains ≡ outcome) × AreChains (hashed chains card outcome) xs new
AreChains chains (left place card ∷ xs) new = AreChains (unhashed chains place) xs new
AreChains chains (reaps_found card found ∷ xs) new =
    (was_found (waiting chains card) ≡ found) × AreChains (reaped chains card (waiting chains card)) xs new

abbrev pub tables_by : ℕ → List (Placed Entry) → Chains → Tables
tables_by count given chains = record { buckets = hash_of count given; chains = chains }

-- what a plan went on to among others is, where nobody else is there, what it comes to on tables of one's own: its
-- entries have to be lawful beside those that the pass gave before
abbrev pub GoesAlone : Type 0 → Type 0
GoesAlone R =
    (count : ℕ) (given : List (Placed Entry)) (chains new : Chains) (plan : Asking R) (told : List Told)
    (rest : Asking R)
    → 1 ≤ count → AreLawful count (given ++ entries_in told) → AreChains chains told new → Leads count plan told rest
    → run (tables_by count given chains) plan ≡ run (tables_by count (given ++ entries_in told) new) rest

-- and so of a plan that asked no chain, by the entries that its pass gave and no others
abbrev pub WentAlone : Type 0 → Type 0
WentAlone R =
    (count : ℕ) (chains : Chains) (plan rest : Asking R) (v w : View)
    → 1 ≤ count → Went count plan v w rest → IsAlone v → KnowsAll count w
    → run (tables_by count v.mine chains) plan ≡ run (tables_by count w.mine chains) rest
