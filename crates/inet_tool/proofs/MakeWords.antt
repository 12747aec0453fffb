-- What clap's walk over the words after `make` comes to: two numbers, or a refusal.
use Rattle.std.proofs.Common.{◌≡◌, ◌⊎◌, ℕ, Bool, true, false, List, [], ◌∷◌, Option, Some, None, refl, inl, inr, sym, subst, length, codes, fold, zero, suc}
use Rattle.std.specs.Prelude.{slice_get}
use Rattle.clap.specs.declared.error.kind.ErrorKind.{ErrorKind}
use Rattle.std.specs.Str.{bytes_eq, chars}
use Rattle.clap.specs.Lexer.{long_of, short_of}
use Rattle.clap.specs.Kinds.{Kinds, or_else}
use Rattle.clap.specs.Walk.{Held, Row, Text, Walk, after_step, bundle_met, bundle_step, finished, idle, plain, value, walk, walk_from, walked}
use Rattle.clap.specs.Simple.{Shape, built_leaf, inherited}
use Rattle.clap.specs.Faults.{bundle_step_fault, check_fault, defaults_fault, flags_fault, level_fault, settle_fault, step_fault, turn_fault, walk_fault}
use Rattle.clap.specs.Kinds.{value_kinds}
use Rattle.clap.specs.Walk.{nothing_held, rows_after, settled}
use Rattle.clap.specs.declared.parser.matches.ValueSource.TheVariants.{CommandLine}
use Rattle.clap.specs.declared.builder.value_parser.Reading.TheVariants as reading
use Rattle.clap.specs.declared.builder.value_parser.ValueParser.TheVariants.{Signed}
use Rattle.std.specs.Prelude.{pos, ◌||◌}
use Rattle.inet_tool.specs.Words.{inet_app, make_app}

-- `make` as it is built
abbrev pub make : Shape
make = built_leaf (inherited inet_app.top make_app.top)

-- where no kind comes, none comes of the first
pub first_none : (a b : Kinds) → or_else a b ≡ [] → a ≡ []
first_none [] b none = refl
first_none (k ∷ ks) b none = cc

-- and none of the second
pub second_none : (a b : Kinds) → or_else a b ≡ [] → b ≡ []
second_none [] b none = none
second_none (k ∷ ks) b none = cc

-- a kind that comes is not none
pub some_kind : {P : Type 0} (k : ErrorKind) (ks : Kinds) → k ∷ ks ≡ [] → P
some_kind k ks none = cc

-- a place of the walk between two words
abbrev pub place : ℕ → Bool → List Row → Option (Text × List Text) → Walk
place position trailing rows pending = record {
  held = record { rows = rows; pending = pending; skip = 0 };
  waiting = idle;
  position = position;
  is_trailing = trailing;
  stopped = None;
}

-- a word of short flags that is not refused is no flag
plain_flags : (k : ℕ) (flags : Text) (h : Held) → flags_fault make.rules false k flags 0 h ≡ []
    → bundle_met make.rules k flags 0 plain h ≡ (h, plain)
unfolding flags_fault bundle_met
plain_flags zero flags h none = refl
plain_flags (suc k) flags h none = go (slice_get (chars flags) 0) none
  where
    go : (o : Option ℕ) → bundle_step_fault make.rules false o flags 0 h (flags_fault make.rules false k) ≡ []
        → bundle_step make.rules o flags 0 plain h (bundle_met make.rules k) ≡ (h, plain)
    go None none = refl
    go (Some x) none = cc

module _ (position : ℕ) (rows : List Row) (pending : Option (Text × List Text)) where
  abbrev pub held : Held
  held = record { rows = rows; pending = pending; skip = 0 }

  -- the word makes the rest values, or goes to the next positional, which is there
  abbrev Goes : Bool → Text → Type 0
  Goes trailing word = (walked make.rules [] (place position trailing rows pending) word ≡ place position true rows pending)
      ⊎ ((walked make.rules [] (place position trailing rows pending) word ≡ after_step make.rules word (place position trailing rows pending) held value)
      × (step_fault make position held value ≡ []))

  -- a word that is not refused does one of the two
  goes : (trailing : Bool) (word : Text) → turn_fault make [] (place position trailing rows pending) word ≡ [] → Goes trailing word
  unfolding walked
  goes true word none = inr (refl, none)
  goes false word none = dashes (bytes_eq word (45 ∷ 45 ∷ [])) refl
    where
      short : bytes_eq word (45 ∷ 45 ∷ []) ≡ false → long_of word ≡ None → (o : Option Text) → short_of word ≡ o → Goes false word
      short no_dashes no_long None is = inr (rw (no_dashes, no_long, is) refl, rw (no_dashes, no_long, is) at none)
      short no_dashes no_long (Some flags) is =
          let faults = rw (no_dashes, no_long, is) at none in
          let met = plain_flags (length flags) flags held (first_none _ _ faults) in
          let goes_on = rw met at faults in
          inr (rw (no_dashes, no_long, is, met) refl, second_none _ _ goes_on)

      long : bytes_eq word (45 ∷ 45 ∷ []) ≡ false → (o : Option (Text × Option Text)) → long_of word ≡ o → Goes false word
      long no_dashes None is = short no_dashes is (short_of word) refl
      long no_dashes (Some p) is = let bad = rw (no_dashes, is) at none in cc

      dashes : (b : Bool) → bytes_eq word (45 ∷ 45 ∷ []) ≡ b → Goes false word
      dashes true is = inl (rw is refl)
      dashes false is = long is (long_of word) refl

-- what is found for a number
abbrev pub row : Text → Text → Row
row id text = record { id = id; values = text ∷ []; count = None; source = Some CommandLine; reading = reading.WithoutMinus }

-- the text is a number from the least to the most
abbrev pub Passes : ℕ → ℕ → Text → Type 0
Passes least most text = value_kinds false (Signed (pos least) (pos most)) text ≡ []

abbrev pub most_seed : ℕ
most_seed = 4294967295

abbrev pub most_count : ℕ
most_count = 100000

-- no number yet, one of them, both of them
abbrev pub start : Bool → Walk
start trailing = place 1 trailing [] None

abbrev pub one : Text → Bool → Walk
one a trailing = place 2 trailing [] (Some (codes "SEED", a ∷ []))

abbrev pub both : Text → Text → Bool → Walk
both a b trailing = place 3 trailing (row (codes "SEED") a ∷ []) (Some (codes "COUNT", b ∷ []))

-- the walk is at one of the three
abbrev At : Walk → Type 0
At w = (trailing : Bool) × ((w ≡ start trailing) ⊎ (((a : Text) × (w ≡ one a trailing))
    ⊎ ((a : Text) × (b : Text) × (w ≡ both a b trailing) × Passes 0 most_seed a)))

from_start : (trailing : Bool) (word : Text) → turn_fault make [] (start trailing) word ≡ [] → At (walked make.rules [] (start trailing) word)
from_start trailing word none = elim (goes 1 [] None trailing word none) [
  | inl same ↦ (true, inl same)
  | inr h ↦ (trailing || false, inr (inl (word, h.0)))
]

from_one : (a : Text) (trailing : Bool) (word : Text) → turn_fault make [] (one a trailing) word ≡ [] → At (walked make.rules [] (one a trailing) word)
from_one a trailing word none = elim (goes 2 [] (Some (codes "SEED", a ∷ [])) trailing word none) [
  | inl same ↦ (true, inr (inl (a, same)))
  | inr h ↦ (trailing || false, inr (inr (a, word, h.0, first_none _ _ h.1)))
]

from_both : (a b : Text) (trailing : Bool) (word : Text) → Passes 0 most_seed a → turn_fault make [] (both a b trailing) word ≡ []
    → At (walked make.rules [] (both a b trailing) word)
from_both a b trailing word passes none = elim (goes 3 (row (codes "SEED") a ∷ []) (Some (codes "COUNT", b ∷ [])) trailing word none) [
  | inl same ↦ (true, inr (inr (a, b, same, passes)))
  | inr h ↦ some_kind _ _ h.1
]

-- a word that is not refused leads from one of the three to one of them
next : (w : Walk) (word : Text) → At w → turn_fault make [] w word ≡ [] → At (walked make.rules [] w word)
next w word at none =
    let P : Walk → Type 0 = λ v. turn_fault make [] v word ≡ [] in
    let Q : Walk → Type 0 = λ v. At (walked make.rules [] v word) in
    elim at.1 [
      | inl is ↦ subst Q (sym is) (from_start at.0 word (subst P is none))
      | inr h ↦ elim h [
        | inl k ↦ subst Q (sym k.1) (from_one k.0 at.0 word (subst P k.1 none))
        | inr k ↦ subst Q (sym k.2) (from_both k.0 k.1 at.0 word k.3 (subst P k.2 none))
      ]
    ]

-- and so do words
ends : (words : List Text) (w : Walk) → At w → walk_fault make [] w words ≡ [] → At (fold (walked make.rules []) w words)
unfolding walk_fault
ends [] w at none = at
ends (word ∷ words) w at none =
    ends words (walked make.rules [] w word) (next w word at (first_none _ _ none)) (second_none _ _ none)

-- what `make` finds: its two numbers
abbrev pub Found : List Row → Type 0
Found rows = (a : Text) × (b : Text) × (rows ≡ row (codes "SEED") a ∷ row (codes "COUNT") b ∷ []) × Passes 0 most_seed a × Passes 0 most_count b

-- the kinds that come after the walk
abbrev after : Walk → Kinds
after w = or_else (settle_fault make.rules false w.held)
    (or_else (defaults_fault (settled make.rules w.held).rows make.rules) (check_fault make (finished make.rules w.held) false))

found : (w : Walk) → At w → after w ≡ [] → Found (finished make.rules w.held)
unfolding defaults_fault
found w at none =
    let P : Walk → Type 0 = λ v. after v ≡ [] in
    let Q : Walk → Type 0 = λ v. Found (finished make.rules v.held) in
    elim at.1 [
      | inl is ↦ some_kind _ _ (subst P is none)
      | inr h ↦ elim h [
        | inl k ↦ some_kind _ _ (second_none _ _ (subst P k.1 none))
        | inr k ↦ subst Q (sym k.2) (k.0, k.1, refl, k.3, first_none _ _ (first_none _ _ (subst P k.2 none)))
      ]
    ]

-- words that `make` takes have its two numbers
pub found_by : (words : List Text) → level_fault make [] nothing_held words false [] ≡ [] → Found (rows_after make.rules [] words)
found_by words none =
    found (walk make.rules [] nothing_held words) (ends words (walk_from nothing_held) (false, inl refl) (first_none _ _ none)) (second_none _ _ none)
