-- The rule of a table of turns, which holds between any two steps: our own. Word 0 is the count of the numbers that
-- were drawn, and word 1 + i is 1 while the turn of the place i is out. It has five parts. Each reads the journals
-- (which exist in the rule alone, also of a value that is out) and, of the table, only what it names.
--
-- To be read from `Orderly`, near the end, upwards: it is the rule. The law `FindsAll` stands below it.
use Rattle.std.specs.Prelude.{◌≡◌, ◌≢◌, ℕ, zero, suc, ◌+◌, ◌*◌, ◌<◌, ◌≤◌, List, [], ◌∷◌, ◌++◌, map, length, slice_index, cond, ◌==◌, Option, Some}
use mathlib.Core.Option.{Option as Maybe, some}
use lib.ListN.{get_elem?}
use Rattle.atomic_table.specs.Table.{State}
use Rattle.list_words.specs.Lists.{Each, total}
use Rattle.turn_table.specs.Journals.{Ascends, number, number_of, placed, by_caller, notes_at, Begins, HasAllAt}
use Rattle.turn_table.specs.declared.note.Note.{Note}
use Rattle.turn_table.specs.declared.note.Placed.{Placed}
use Rattle.turn_table.specs.declared.note.Find.{Find}
use Rattle.turn_table.specs.declared.view.TurnView.{TurnView}

-- what the numbers below n weigh together
abbrev pub below : (ℕ → ℕ) → ℕ → ℕ
below f zero = 0
below f (suc n) = below f n + f n

-- the parts that a caller's pass begins with
abbrev pub start : ℕ → ℕ
start zero = 16384
start (suc caller) = 1

-- A pass draws at most 2^48 numbers. Only the first splits, at most 2^14 - 2 times, and gives a part away each time.
-- So the numbers that a pass and those that it joined drew are within 2^48 for each of its parts
pub record HasShare (caller parts splits draws tickets : ℕ) : Type 0 where
  pub own : draws ≤ 281474976710656
  pub few : splits ≤ 16382
  pub sole : caller ≢ 0 → splits ≡ 0
  pub covers : 0 < parts → start caller ≤ parts + splits
  pub budget : 0 < parts → tickets + start caller * 281474976710656 ≤ draws + (parts + splits) * 281474976710656
  pub spent : parts ≡ 0 → tickets ≡ 0

module _ {E H : Type 0} where
  -- First part: there are 16,384 parts, and the count is that of all numbers drawn
  pub record SharesOk (count : ℕ) (views : List (TurnView E H)) : Type 0 where
    pub parts : total (λ (v : TurnView E H). v.parts) views ≡ 16384
    pub tickets : total (λ (v : TurnView E H). v.tickets) views ≡ count
    pub each : (k : ℕ) (v : TurnView E H) → get_elem? views k ≡ some v
        → HasShare v.caller v.parts v.splits v.draws v.tickets

  abbrev pub has_turn : ℕ → TurnView E H → ℕ
  has_turn i v = cond (v.at == i + 1) 1 0

module _ {E : Type 0} where
  -- what the entries of the first n places weigh together
  abbrev pub entries : (Placed E → ℕ) → (ℕ → List (Note E)) → ℕ → ℕ
  entries f journals zero = 0
  entries f journals (suc n) = entries f journals n + total (λ (x : Note E). f (placed n x)) (journals n)

module _ {V E : Type 0} (notes : V → List (Note E)) where
  module _ (fits : ℕ → ℕ → V → Type 0) where
    -- the value of the place is at home, with this journal
    pub record Home (homes : List (Maybe (Option V))) (journal : List (Note E)) (i : ℕ) : Type 0 where
      pub value : V
      pub there : get_elem? homes i ≡ some (some (Some value))
      pub suits : fits i (length homes) value
      pub is : notes value ≡ journal

    -- Second part: a turn is out with one pass, or its value is at home
    pub record TurnsOk {H : Type 0} (homes : List (Maybe (Option V))) (journals : ℕ → List (Note E)) (turn : ℕ → ℕ)
        (views : List (TurnView E H)) : Type 0 where
      pub locks : (i : ℕ) → i < length homes → (total (has_turn i) views ≡ turn i) × (turn i ≤ 1)
      pub home : (i : ℕ) → i < length homes → turn i ≡ 0 → Home homes (journals i) i

module _ {E H : Type 0} where
  -- Third part: the journals have what the passes gave, and the numbers are those below the count
  pub record EntriesOk (count places : ℕ) (journals : ℕ → List (Note E)) (views : List (TurnView E H)) : Type 0 where
    pub rising : (i : ℕ) → i < places → Ascends count (map number (journals i))
    -- each entry that a pass gave stands in the journals, once, and no others do
    pub balance : (f : Placed E → ℕ) → entries f journals places ≡ total (λ (v : TurnView E H). total f v.mine) views
    -- each number below the count is one entry's, or was drawn for one that is still to come
    pub numbers : (f : ℕ → ℕ) → entries (λ (p : Placed E). f (number_of p)) journals places
        + total (λ (v : TurnView E H). total f v.drawn) views ≡ below f count

  -- what one pass knows is so
  pub record Knows (key : H) (journals : ℕ → List (Note E)) (count places : ℕ) (v : TurnView E H) : Type 0 where
    pub about : 0 < v.parts → v.home ≡ key ∷ []
    pub seen : v.seen ≤ count
    pub here : (i : ℕ) → v.at ≡ i + 1 → v.found ≡ journals i
    pub rising : Ascends v.seen (map number v.found ++ v.drawn)
    pub loose : v.at ≡ 0 → (v.found ≡ []) × (v.drawn ≡ [])
    pub idle : v.parts ≡ 0 → (v.mine ≡ []) × (v.at ≡ 0)
    pub finds : (k : ℕ) (x : Find E) → get_elem? v.finds k ≡ some x → (x.place < places) × (x.since ≤ v.seen)
        × Begins x (journals x.place)
    pub mine : Each (λ (p : Placed E). number_of p < v.seen) v.mine
    pub loads : Each (λ x. x ≤ v.seen) v.loads

  -- some pass found it
  pub record Found (views : List (TurnView E H)) (x : Find E) : Type 0 where
    pub who : ℕ
    pub view : TurnView E H
    pub has : get_elem? views who ≡ some view
    pub nth : ℕ
    pub is : get_elem? view.finds nth ≡ some x

  -- Fourth part: what each pass knows is so, and what is drawn at a place after some pass's find there is not below
  -- that find's count
  pub record KnowledgeOk (key : H) (count places : ℕ) (journals : ℕ → List (Note E))
      (views : List (TurnView E H)) : Type 0 where
    pub knows : (k : ℕ) (v : TurnView E H) → get_elem? views k ≡ some v → Knows key journals count places v
    pub ahead : (x : Find E) → Found views x → (l : ℕ) (u : TurnView E H) → get_elem? views l ≡ some u
        → u.at ≡ x.place + 1 → Each (λ (y : ℕ). x.since ≤ y) u.drawn

  -- Fifth part: one seat keeps the entries of a caller, whole and in order. A pass with a part keeps those of its own
  -- number, and the first pass those of the callers to come, who have none
  pub record CallersOk (places : ℕ) (journals : ℕ → List (Note E)) (views : List (TurnView E H)) : Type 0 where
    pub keeper : ℕ → ℕ
    pub inside : (c : ℕ) → keeper c < length views
    pub keeps : (k : ℕ) (v : TurnView E H) → get_elem? views k ≡ some v → (c : ℕ) → keeper c ≡ k → (i : ℕ) → i < places
        → by_caller c (journals i) ≡ by_caller c (notes_at i v.mine)
    pub strange : (k : ℕ) (v : TurnView E H) → get_elem? views k ≡ some v → (c : ℕ) → keeper c ≢ k
        → Each (λ (p : Placed E). p.note.caller ≢ c) v.mine
    pub live : (k : ℕ) (v : TurnView E H) → get_elem? views k ≡ some v → 0 < v.parts → keeper v.caller ≡ k
    pub unborn : (k : ℕ) (v : TurnView E H) → get_elem? views k ≡ some v → 0 < v.parts → v.caller ≡ 0 → (c : ℕ)
        → v.splits < c → (keeper c ≡ k) × Each (λ (p : Placed E). p.note.caller ≢ c) v.mine

module _ {V E : Type 0} (notes : V → List (Note E)) where
  pub record Orderly {H : Type 0} (fits : ℕ → ℕ → V → Type 0) (key : H)
      (s : State (Option V) (TurnView E H)) : Type 0 where
    pub journals : ℕ → List (Note E)
    pub wide : length s.words ≡ 1 + length s.homes
    pub shares : SharesOk (slice_index s.words 0) s.views
    pub turns : TurnsOk notes fits s.homes journals (λ (i : ℕ). slice_index s.words (1 + i)) s.views
    pub entries_ok : EntriesOk (slice_index s.words 0) (length s.homes) journals s.views
    pub knowledge : KnowledgeOk key (slice_index s.words 0) (length s.homes) journals s.views
    pub callers : CallersOk (length s.homes) journals s.views

  -- so a pass with a turn has found each entry that any pass gave at its place
  abbrev pub FindsAll : {H : Type 0} → (ℕ → ℕ → V → Type 0) → H → Type 0
  FindsAll {H} fits key =
      (s : State (Option V) (TurnView E H)) → Orderly fits key s → (k l i : ℕ) (v u : TurnView E H)
      → get_elem? s.views k ≡ some v → get_elem? s.views l ≡ some u → v.at ≡ i + 1 → i < length s.homes
      → HasAllAt i u.mine v.found
