-- What clap's walk over the words after `race` comes to: two options with a number each, or a refusal.
use Rattle.std.proofs.Common.{◌≡◌, ◌⊎◌, ◌∙◌, ℕ, ◌==◌, Bool, true, false, cond, List, [], ◌∷◌, ◌++◌, Option, Some, None, refl, ap, inl, inr, sym, subst, length, codes, fold, zero, suc, append-nil, arith}
use Rattle.std.specs.Prelude.{slice_get, find, is_some, not, ◌||◌, ◌&&◌, pos}
use Rattle.std.specs.Str.{bytes_eq, chars}
use Rattle.list_words.specs.Lists.{Each}
use Rattle.clap.specs.declared.error.kind.ErrorKind.{ErrorKind}
use Rattle.clap.specs.declared.error.kind.ErrorKind.TheVariants.{MissingRequiredArgument}
use Rattle.clap.specs.declared.builder.value_parser.ValueParser.TheVariants.{Signed}
use Rattle.clap.specs.Lexer.{long_of, short_of, without_minus}
use Rattle.std.proofs.lemmas.Bool.{ne_eqb}
use Rattle.clap.specs.Kinds.{Kinds, or_else, range_kinds}
use Rattle.clap.specs.Walk.{Held, Row, Rule, has_long, Step, Text, Waiting, Walk, after_flag, after_step, long_met, arg_by_long, at_row, bundle_met, bundle_step, finished, has_row, idle, nothing_held, one_of, option, plain, plain_word, positional, rows_after, settled, settled_rows, started, subcommand_met, used, walk, walk_from, walked, with_default, without}
use Rattle.clap.specs.Simple.{Shape, built_leaf, filled, inherited}
use Rattle.clap.specs.Takes.{is_given}
use Rattle.clap.specs.Faults.{bundle_step_fault, check_fault, defaults_fault, flags_fault, level_fault, long_fault, settle_fault, step_fault, turn_fault, use_fault, walk_fault}
use Rattle.inet_tool.specs.Words.{inet_app, option_rule, race_app}
use Rattle.inet_tool.proofs.MakeWords.{Passes, first_none, row, second_none, some_kind}

-- `race` as it is built
abbrev pub race : Shape
race = built_leaf (inherited inet_app.top race_app.top)

-- one of the two options
pub data Which : Type 0 where
  lookers : Which
  passes : Which

abbrev pub id_of : Which → Text
id_of lookers = codes "lookers"
id_of passes = codes "passes"

abbrev pub most_of : Which → ℕ
most_of lookers = 16
most_of passes = 64

-- its rule, as it is built
abbrev pub built_rule : Which → Rule
built_rule k = filled (option_rule (id_of k) (Signed (pos 1) (pos (most_of k))))

-- a row of one of the two, with a number in its range
abbrev pub IsRow : Row → Type 0
IsRow r = (k : Which) × (v : Text) × (r ≡ row (id_of k) v) × Passes 1 (most_of k) v

-- what waits for a value is one of the two
abbrev pub IsPending : Option (Text × List Text) → Type 0
IsPending None = Unit {0}
IsPending (Some p) = (k : Which) × (p.0 ≡ id_of k)

abbrev pub IsWaiting : Waiting → Type 0
IsWaiting idle = Unit {0}
IsWaiting (option id) = (k : Which) × (id ≡ id_of k)
IsWaiting positional = ⊥

-- a place of the walk between two words
abbrev pub place : Waiting → Bool → List Row → Option (Text × List Text) → Walk
place waiting trailing rows pending = record {
  held = record { rows = rows; pending = pending; skip = 0 };
  waiting = waiting;
  position = 1;
  is_trailing = trailing;
  stopped = None;
}

-- the walk is at a place
pub record IsAt (w : Walk) : Type 0 where
  pub waiting : Waiting
  pub trailing : Bool
  pub rows : List Row
  pub pending : Option (Text × List Text)
  pub is : w ≡ place waiting trailing rows pending
  pub good : Each IsRow rows
  pub options : IsPending pending
  pub waits : IsWaiting waiting

-- ---- one use of an option

-- what has no row of that id is passed through
past_rows : (id : Text) (change : Row → List Row) (missing rows : List Row) → has_row id rows ≡ false → at_row id change missing rows ≡ rows ++ missing
past_rows id change missing [] none = refl
past_rows id change missing (r ∷ rs) none = go (bytes_eq r.id id) refl (λ rest. past_rows id change missing rs rest)
  where
    go : (b : Bool) → bytes_eq r.id id ≡ b → (has_row id rs ≡ false → at_row id change missing rs ≡ rs ++ missing)
        → at_row id change missing (r ∷ rs) ≡ r ∷ rs ++ missing
    go true is past = let bad = rw is at none in cc
    go false is past = let rest = rw is at none in rw is (ap (λ (l : List Row). r ∷ l) (past rest))

-- so nothing is taken out
none_out : (id : Text) (rows : List Row) → has_row id rows ≡ false → without id rows ≡ rows
none_out id rows none = past_rows id (λ _. []) [] rows none ∙ append-nil rows

each_last : (rows : List Row) (r : Row) → Each IsRow rows → IsRow r → Each IsRow (rows ++ r ∷ [])
each_last [] r each last = (last, tt)
each_last (x ∷ xs) r each last = (each.0, each_last xs r each.1 last)

-- a row that stands before isn't entered again
not_again : (b : Bool) (rest : Kinds) (k : ErrorKind) → or_else (cond (b && not false) (k ∷ []) []) rest ≡ [] → b ≡ false
not_again false rest k none = refl
not_again true rest k none = cc

-- two values of one option are refused
too_many : {P : Type 0} (n : ℕ) (rest : Kinds) → or_else (range_kinds 1 1 (suc (suc n))) rest ≡ [] → P
too_many n rest none =
    let some : (suc (suc n) == 0) ≡ false = ne_eqb _ _ (λ e. omega (arith, e)) in
    let two : (1 == suc (suc n)) ≡ false = ne_eqb _ _ (λ e. omega (arith, e)) in
    let bad = rw (some, two) at none in
    cc

-- a use of an option leaves rows of the two
use_good : (k : Which) (values : List Text) (rows : List Row) → Each IsRow rows → use_fault false (built_rule k) values rows ≡ []
    → Each IsRow (used (built_rule k) values rows)
use_good lookers [] rows each none = some_kind _ _ none
use_good passes [] rows each none = some_kind _ _ none
use_good lookers (v ∷ []) rows each none =
    let fresh : has_row (codes "lookers") rows ≡ false = not_again (has_row (codes "lookers") rows) _ _ none in
    let good : Passes 1 16 v = first_none _ [] (second_none _ _ none) in
    rw (none_out (codes "lookers") rows fresh, past_rows (codes "lookers") _ _ rows fresh) (each_last rows (row (codes "lookers") v) each (lookers, v, refl, good))
use_good passes (v ∷ []) rows each none =
    let fresh : has_row (codes "passes") rows ≡ false = not_again (has_row (codes "passes") rows) _ _ none in
    let good : Passes 1 64 v = first_none _ [] (second_none _ _ none) in
    rw (none_out (codes "passes") rows fresh, past_rows (codes "passes") _ _ rows fresh) (each_last rows (row (codes "passes") v) each (passes, v, refl, good))
use_good lookers (v ∷ u ∷ rest) rows each none = too_many (length rest) _ none
use_good passes (v ∷ u ∷ rest) rows each none = too_many (length rest) _ none

-- so does the end of what is pending
settled_good : (rows : List Row) (pending : Option (Text × List Text)) → Each IsRow rows → IsPending pending
    → settle_fault race.rules false (record { rows = rows; pending = pending; skip = 0 }) ≡ []
    → Each IsRow (settled_rows race.rules pending rows)
settled_good rows None each options none = each
settled_good rows (Some p) each options none =
    let F : Text → Type 0 = λ id. settle_fault race.rules false (record { rows = rows; pending = Some (id, p.1); skip = 0 }) ≡ [] in
    subst (λ (id : Text). Each IsRow (settled_rows race.rules (Some (id, p.1)) rows)) (sym options.1)
    (go options.0 (subst F options.1 none))
  where
    go : (k : Which) → settle_fault race.rules false (record { rows = rows; pending = Some (id_of k, p.1); skip = 0 }) ≡ []
        → Each IsRow (settled_rows race.rules (Some (id_of k, p.1)) rows)
    go lookers none = use_good lookers p.1 rows each none
    go passes none = use_good passes p.1 rows each none

-- ---- one word

-- the options are found by their long names
find_two : {X : Type 0} (test : X → Bool) (x y : X) → (find test (x ∷ y ∷ []) ≡ None)
    ⊎ ((find test (x ∷ y ∷ []) ≡ Some x) ⊎ (find test (x ∷ y ∷ []) ≡ Some y))
find_two {X} test x y = go (test x) (test y)
  where
    go : (a b : Bool) → (cond a (Some x) (cond b (Some y) None) ≡ None)
        ⊎ ((cond a (Some x) (cond b (Some y) None) ≡ Some x) ⊎ (cond a (Some x) (cond b (Some y) None) ≡ Some y))
    go true b = inr (inl refl)
    go false true = inr (inr refl)
    go false false = inl refl

-- a word of short flags that is not refused is no flag
plain_flags : (k : ℕ) (flags : Text) (h : Held) → flags_fault race.rules false k flags 0 h ≡ []
    → bundle_met race.rules k flags 0 plain h ≡ (h, plain)
unfolding flags_fault bundle_met
plain_flags zero flags h none = refl
plain_flags (suc k) flags h none = go (slice_get (chars flags) 0) none
  where
    go : (o : Option ℕ) → bundle_step_fault race.rules false o flags 0 h (flags_fault race.rules false k) ≡ []
        → bundle_step race.rules o flags 0 plain h (bundle_met race.rules k) ≡ (h, plain)
    go None none = refl
    go (Some x) none = cc

-- no word names a subcommand of it
no_subcommand : (waiting : Waiting) (word : Text) → subcommand_met [] waiting word ≡ None
no_subcommand idle word = refl
no_subcommand (option id) word = refl
no_subcommand positional word = refl

-- what is begun goes on
goes_on : (k : Which) (pending : Option (Text × List Text)) (word : Text) → IsPending pending
    → IsPending (Some ((started (id_of k) pending).0, (started (id_of k) pending).1 ++ word ∷ []))
goes_on k None word options = (k, refl)
goes_on k (Some p) word options = options

waits_or_not : (k : Which) (b : Bool) → IsWaiting (cond b (option (id_of k)) idle)
waits_or_not k true = (k, refl)
waits_or_not k false = tt

module _ (rows : List Row) (pending : Option (Text × List Text)) (good : Each IsRow rows) (options : IsPending pending) where
  abbrev held : Held
  held = record { rows = rows; pending = pending; skip = 0 }

  -- where a step leads to
  abbrev Leads : Waiting → Text → Held → Step → Type 0
  Leads waiting word h step = IsAt (after_step race.rules word (place waiting false rows pending) h step)

  -- a plain word is a value of the option that waits
  value_word : (waiting : Waiting) (word : Text) → IsWaiting waiting
      → step_fault race 1 (plain_word race.rules waiting word held).0 (plain_word race.rules waiting word held).1 ≡ []
      → Leads waiting word (plain_word race.rules waiting word held).0 (plain_word race.rules waiting word held).1
  value_word idle word waits none = some_kind _ _ none
  value_word positional word waits none = absurd waits
  value_word (option id) word waits none =
      subst (λ (i : Text). Leads (option id) word (plain_word race.rules (option i) word held).0 (plain_word race.rules (option i) word held).1) (sym waits.1)
      (go waits.0)
    where
      go : (k : Which) → Leads (option id) word (plain_word race.rules (option (id_of k)) word held).0 (plain_word race.rules (option (id_of k)) word held).1
      go lookers = record {
        waiting = _;
        trailing = false;
        rows = rows;
        pending = _;
        is = refl;
        good = good;
        options = goes_on lookers pending word options;
        waits = waits_or_not lookers _;
      }
      go passes = record {
        waiting = _;
        trailing = false;
        rows = rows;
        pending = _;
        is = refl;
        good = good;
        options = goes_on passes pending word options;
        waits = waits_or_not passes _;
      }

  -- a long flag is an option, with its value or before it
  abbrev LeadsLong : Waiting → Text → Option Rule → Option Text → Type 0
  LeadsLong waiting word rule attached =
      let met = long_met race.rules rule attached held in
      let after = after_flag race.rules waiting word met.0 met.1 in
      Leads waiting word after.0 after.1

  long_use : (waiting : Waiting) (word : Text) (k : Which) (attached : Option Text)
      → long_fault race.rules false (Some (built_rule k)) attached held ≡ [] → LeadsLong waiting word (Some (built_rule k)) attached
  long_use waiting word k None none = record {
    waiting = option (id_of k);
    trailing = false;
    rows = _;
    pending = Some (id_of k, []);
    is = refl;
    good = settled_good rows pending good options none;
    options = (k, refl);
    waits = (k, refl);
  }
  long_use waiting word k (Some v) none = record {
    waiting = idle;
    trailing = false;
    rows = _;
    pending = None;
    is = refl;
    good = use_good k (v ∷ []) (settled_rows race.rules pending rows) (settled_good rows pending good options (first_none _ _ none)) (second_none _ _ none);
    options = tt;
    waits = tt;
  }

  long_word_leads : (waiting : Waiting) (word name : Text) (attached : Option Text)
      → long_fault race.rules false (arg_by_long race.rules name) attached held ≡ [] → LeadsLong waiting word (arg_by_long race.rules name) attached
  long_word_leads waiting word name attached none =
      let F : Option Rule → Type 0 = λ rule. long_fault race.rules false rule attached held ≡ [] in
      elim (find_two (λ a. not (is_some a.index) && has_long a name) (built_rule lookers) (built_rule passes)) [
        | inl absent ↦ some_kind _ _ (subst F absent none)
        | inr one ↦ elim one [
          | inl is ↦ subst (λ rule. LeadsLong waiting word rule attached) (sym is) (long_use waiting word lookers attached (subst F is none))
          | inr is ↦ subst (λ rule. LeadsLong waiting word rule attached) (sym is) (long_use waiting word passes attached (subst F is none))
        ]
      ]

  -- a word that is not refused leads from a place to a place
  from_place : (waiting : Waiting) (trailing : Bool) (word : Text) → IsWaiting waiting
      → turn_fault race [] (place waiting trailing rows pending) word ≡ []
      → IsAt (walked race.rules [] (place waiting trailing rows pending) word)
  unfolding walked
  from_place waiting true word waits none = some_kind _ _ none
  from_place waiting false word waits none = dashes (bytes_eq word (45 ∷ 45 ∷ [])) refl
    where
      no_name : subcommand_met [] waiting word ≡ None
      no_name = no_subcommand waiting word

      short : bytes_eq word (45 ∷ 45 ∷ []) ≡ false → long_of word ≡ None → (o : Option Text) → short_of word ≡ o
          → IsAt (walked race.rules [] (place waiting false rows pending) word)
      short no_dashes no_long None is =
          let goes_on = rw (no_name, no_dashes, no_long, is) at none in
          rw (no_name, no_dashes, no_long, is) (value_word waiting word waits goes_on)
      short no_dashes no_long (Some flags) is =
          let faults = rw (no_name, no_dashes, no_long, is) at none in
          let met = plain_flags (length flags) flags held (first_none _ _ faults) in
          let goes_on = rw met at faults in
          rw (no_name, no_dashes, no_long, is, met) (value_word waiting word waits (second_none _ _ goes_on))

      long : bytes_eq word (45 ∷ 45 ∷ []) ≡ false → (o : Option (Text × Option Text)) → long_of word ≡ o
          → IsAt (walked race.rules [] (place waiting false rows pending) word)
      long no_dashes None is = short no_dashes is (short_of word) refl
      long no_dashes (Some p) is =
          let faults = rw (no_name, no_dashes, is) at none in
          rw (no_name, no_dashes, is) (long_word_leads waiting word p.0 p.1 (first_none _ _ faults))

      dashes : (b : Bool) → bytes_eq word (45 ∷ 45 ∷ []) ≡ b → IsAt (walked race.rules [] (place waiting false rows pending) word)
      dashes true is = rw (no_name, is) (record {
        waiting = waiting;
        trailing = true;
        rows = rows;
        pending = pending;
        is = refl;
        good = good;
        options = options;
        waits = waits;
      })
      dashes false is = long is (long_of word) refl

-- and so do words
ends : (words : List Text) (w : Walk) → IsAt w → walk_fault race [] w words ≡ [] → IsAt (fold (walked race.rules []) w words)
unfolding walk_fault
ends [] w at none = at
ends (word ∷ words) w at none =
    let P : Walk → Type 0 = λ v. turn_fault race [] v word ≡ [] in
    let Q : Walk → Type 0 = λ v. IsAt (walked race.rules [] v word) in
    let next : IsAt (walked race.rules [] w word) = subst Q (sym at.is)
    (from_place at.rows at.pending at.good at.options at.waiting at.trailing word at.waits (subst P at.is (first_none _ _ none))) in
    ends words (walked race.rules [] w word) next (second_none _ _ none)

-- ---- after the words

-- a number of one of the two that is given is there, in its range
pub record IsThere (k : Which) (rows : List Row) (text : Text) : Type 0 where
  pub is : one_of (id_of k) rows ≡ Some (without_minus text)
  pub passes_it : Passes 1 (most_of k) text

there_first : (k j : Which) (v : Text) (rs : List Row) → Passes 1 (most_of j) v → is_given (id_of k) (row (id_of j) v ∷ rs) ≡ true
    → (is_given (id_of k) rs ≡ true → (text : Text) × IsThere k rs text) → (text : Text) × IsThere k (row (id_of j) v ∷ rs) text
there_first lookers lookers v rs good given rest = (v, record { is = refl; passes_it = good })
there_first passes passes v rs good given rest = (v, record { is = refl; passes_it = good })
there_first lookers passes v rs good given rest =
    let later = rest given in (later.0, record { is = later.1.is; passes_it = later.1.passes_it })
there_first passes lookers v rs good given rest =
    let later = rest given in (later.0, record { is = later.1.is; passes_it = later.1.passes_it })

there : (k : Which) (rows : List Row) → Each IsRow rows → is_given (id_of k) rows ≡ true → (text : Text) × IsThere k rows text
there k [] each given = let bad : false ≡ true = given in cc
there k (r ∷ rs) each given =
    subst (λ (x : Row). (text : Text) × IsThere k (x ∷ rs) text) (sym each.0.2)
    (there_first k each.0.0 each.0.1 rs each.0.3 (subst (λ (x : Row). is_given (id_of k) (x ∷ rs) ≡ true) each.0.2 given)
    (λ later. there k rs each.1 later))

-- what `race` finds: its two numbers
pub record Found (rows : List Row) : Type 0 where
  pub lookers_text : Text
  pub passes_text : Text
  pub lookers_there : IsThere lookers rows lookers_text
  pub passes_there : IsThere passes rows passes_text

-- no option has a default
no_default : (k : Which) (rows : List Row) → with_default rows (built_rule k) ≡ rows
no_default k rows = go (has_row (id_of k) rows)
  where
    go : (b : Bool) → cond b rows rows ≡ rows
    go true = refl
    go false = refl

-- both are given where the last checks pass
both_given : (rows : List Row) → check_fault race rows false ≡ [] → (is_given (codes "lookers") rows ≡ true) × (is_given (codes "passes") rows ≡ true)
both_given rows none = go (is_given (codes "lookers") rows) (is_given (codes "passes") rows) none
  where
    go : (a b : Bool) → cond (not a || (not b || false)) (MissingRequiredArgument ∷ []) [] ≡ [] → (a ≡ true) × (b ≡ true)
    go true true none = (refl, refl)
    go true false none = cc
    go false b none = cc

-- the kinds that come after the walk
abbrev after : Walk → Kinds
after w = or_else (settle_fault race.rules false w.held)
    (or_else (defaults_fault (settled race.rules w.held).rows race.rules) (check_fault race (finished race.rules w.held) false))

found : (w : Walk) → IsAt w → after w ≡ [] → Found (finished race.rules w.held)
found w at none =
    let end = place at.waiting at.trailing at.rows at.pending in
    let here : after end ≡ [] = subst (λ (v : Walk). after v ≡ []) at.is none in
    let rows : List Row = settled_rows race.rules at.pending at.rows in
    let good : Each IsRow rows = settled_good at.rows at.pending at.good at.options (first_none _ _ here) in
    let same : finished race.rules end.held ≡ rows =
    ap (λ (r : List Row). with_default r (built_rule passes)) (no_default lookers rows) ∙ no_default passes rows in
    let given = both_given (finished race.rules end.held) (second_none _ _ (second_none _ _ here)) in
    let first = there lookers rows good (subst (λ (r : List Row). is_given (codes "lookers") r ≡ true) same given.0) in
    let second = there passes rows good (subst (λ (r : List Row). is_given (codes "passes") r ≡ true) same given.1) in
    let all : Found rows = record {
      lookers_text = first.0;
      passes_text = second.0;
      lookers_there = first.1;
      passes_there = second.1;
    } in
    subst (λ (v : Walk). Found (finished race.rules v.held)) (sym at.is) (subst Found (sym same) all)

-- words that `race` takes have its two numbers
pub found_by : (words : List Text) → level_fault race [] nothing_held words false [] ≡ [] → Found (rows_after race.rules [] words)
found_by words none =
    let start : IsAt (walk_from nothing_held) = record {
      waiting = idle;
      trailing = false;
      rows = [];
      pending = None;
      is = refl;
      good = tt;
      options = tt;
      waits = tt;
    } in
    found (walk race.rules [] nothing_held words) (ends words (walk_from nothing_held) start (first_none _ _ none)) (second_none _ _ none)
