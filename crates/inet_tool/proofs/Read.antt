-- What the matches of words that clap takes give to be read.
use Rattle.std.proofs.Common.{◌≡◌, ◌≤◌, ◌<◌, ◌^◌, ◌∙◌, ℕ, List, [], Option, Some, None, refl, ap, sym, subst, arith, codes, option_map}
use Rattle.std.specs.Prelude.{Result, true, unwrap_or}
use Rattle.std.specs.Str.Parse.{IsNumeral, ParsesUnsigned, digits_value, without_leading_plus}
use Rattle.clap.specs.Lexer.{without_minus}
use Rattle.clap.specs.declared.parser.matches.ArgMatches.TheViews.{out-ArgMatches}
use Rattle.clap.specs.Matches.{ReadsOne, found_of, one_text, subcommand_name_of}
use Rattle.clap.specs.Walk.{Row, Text, one_of, rows_of}
use Rattle.clap.specs.Simple.{App, HasMatchesOf, subcommand_of, subcommand_rows_of}
use Rattle.clap.specs.Faults.{fault_of, is_simple_and_free}
use Rattle.clap.specs.declared.parser.matches.ArgMatches.{ArgMatches}
use Rattle.clap.proofs.WalkLemmas.{one_text-rows}
use Rattle.inet_tool.specs.Words.{Asks, IsTaken, NamesPlain, inet_app, name_of, number_of}
use Rattle.inet_tool.specs.declared.words.Ask.{Ask}
use Rattle.inet_tool.specs.declared.words.Ask.TheVariants.{Run, Make, Race, Audit}
use Rattle.inet_tool.proofs.Asked.{Met, audits, makes, met_by, races, runs}
use Rattle.inet_tool.proofs.MakeWords.{Found, Passes, most_count, most_seed}
use Rattle.inet_tool.proofs.RaceWords.{Found as RaceFound}
use Rattle.inet_tool.proofs.Names.{audit_isnt_make, audit_isnt_race, audit_isnt_run, make_isnt_audit, make_isnt_race, make_isnt_run, race_isnt_audit, race_isnt_make, race_isnt_run, run_isnt_audit, run_isnt_make, run_isnt_race}
use Rattle.inet_tool.proofs.Numbers.{reads, u32_reads}

-- two names are not one
pub not_both : {P : Type 0} (o : Option Text) (a b : Text) → o ≡ Some a → o ≡ Some b → (a ≡ b → ⊥) → P
not_both o a b is_a is_b differ = absurd (differ (ap (λ (v : Option Text). unwrap_or v a) (sym is_a ∙ is_b)))

-- a text of the matches that is a number from the least to the most
pub record IsGiven (id : Text) (least most : ℕ) (m : ArgMatches) (text : Text) : Type 0 where
  pub text_is : one_text (found_of m) id ≡ Some text
  pub row_is : one_of id (rows_of (found_of m)) ≡ Some text
  pub numeral : IsNumeral 10 (without_leading_plus text)
  pub high : least ≤ digits_value 10 (without_leading_plus text)
  pub low : digits_value 10 (without_leading_plus text) ≤ most

-- what the rows have of a name that passes is given
given : (id : Text) (least most : ℕ) (m : ArgMatches) (text : Text) → one_of id (rows_of (found_of m)) ≡ Some (without_minus text) → Passes least most text
    → IsGiven id least most m (without_minus text)
given id least most m text is passes =
    let read = reads least most text passes in
    record { text_is = one_text-rows (found_of m) id ∙ is; row_is = is; numeral = read.0; high = read.1; low = read.2 }

-- the seed
pub seed_given : (m : ArgMatches) → Found (rows_of (found_of m)) → (text : Text) × IsGiven (codes "SEED") 0 most_seed m text
seed_given m found = (_, given (codes "SEED") 0 most_seed m found.0 (rw found.2 refl) found.3)

-- the count
pub count_given : (m : ArgMatches) → Found (rows_of (found_of m)) → (text : Text) × IsGiven (codes "COUNT") 0 most_count m text
count_given m found = (_, given (codes "COUNT") 0 most_count m found.1 (rw found.2 refl) found.4)

-- how many lookers
pub lookers_given : (m : ArgMatches) → RaceFound (rows_of (found_of m)) → (text : Text) × IsGiven (codes "lookers") 1 16 m text
lookers_given m found = (_, given (codes "lookers") 1 16 m found.lookers_text found.lookers_there.is found.lookers_there.passes_it)

-- how many passes
pub passes_given : (m : ArgMatches) → RaceFound (rows_of (found_of m)) → (text : Text) × IsGiven (codes "passes") 1 64 m text
passes_given m found = (_, given (codes "passes") 1 64 m found.passes_text found.passes_there.is found.passes_there.passes_it)

-- two steps on what is there are one
option_map-map : {X Y Z : Type 0} (f : X → Y) (g : Y → Z) (o : Option X) → option_map (λ x. g (f x)) o ≡ option_map g (option_map f o)
option_map-map f g None = refl
option_map-map f g (Some x) = refl

-- the name of a subcommand is that of its rows
pub named : (m : ArgMatches) → subcommand_name_of m ≡ option_map (λ p. p.0) (subcommand_rows_of m)
named m = option_map-map _ (λ (p : Text × List Row). p.0) (out-ArgMatches m).subcommand

module _ (words : List Text) (m : ArgMatches) (taken : IsTaken words) (met : subcommand_rows_of m ≡ subcommand_of inet_app words) where
  -- what is met is named
  pub name_is : (name : Text) → subcommand_name_of m ≡ Some name → name_of words ≡ Some name
  name_is name is = ap (option_map (λ p. p.0)) (sym met) ∙ sym (named m) ∙ is

  -- the rows of what is met
  rows_are : (n : ArgMatches) (name : Text) (found : List Row) → subcommand_of inet_app words ≡ Some (name, found)
      → option_map (λ p. p.1) (subcommand_rows_of m) ≡ Some (rows_of (found_of n)) → found ≡ rows_of (found_of n)
  rows_are n name found is rows = ap (λ (o : Option (List Row)). unwrap_or o found) (ap (option_map (λ p. p.1)) (sym (met ∙ is)) ∙ rows)

  -- where `make` is met, its two numbers are there
  pub make_met : (n : ArgMatches) → subcommand_name_of m ≡ Some (codes "make")
      → option_map (λ p. p.1) (subcommand_rows_of m) ≡ Some (rows_of (found_of n))
      → (subcommand_of inet_app words ≡ Some (codes "make", rows_of (found_of n))) × Found (rows_of (found_of n))
  make_met n name rows = go (met_by words taken)
    where
      named_make : name_of words ≡ Some (codes "make")
      named_make = name_is (codes "make") name

      go : Met (subcommand_of inet_app words) → (subcommand_of inet_app words ≡ Some (codes "make", rows_of (found_of n))) × Found (rows_of (found_of n))
      go (runs found is) = not_both (name_of words) (codes "run") (codes "make") (ap (option_map (λ p. p.0)) is) named_make run_isnt_make
      go (races found is numbers) = not_both (name_of words) (codes "race") (codes "make") (ap (option_map (λ p. p.0)) is) named_make race_isnt_make
      go (audits found is) = not_both (name_of words) (codes "audit") (codes "make") (ap (option_map (λ p. p.0)) is) named_make audit_isnt_make
      go (makes found is numbers) =
          let same : found ≡ rows_of (found_of n) = rows_are n (codes "make") found is rows in
          (is ∙ ap (λ (r : List Row). Some (codes "make", r)) same, subst Found same numbers)

  -- and where `race` is met its own
  pub race_met : (n : ArgMatches) → subcommand_name_of m ≡ Some (codes "race")
      → option_map (λ p. p.1) (subcommand_rows_of m) ≡ Some (rows_of (found_of n))
      → (subcommand_of inet_app words ≡ Some (codes "race", rows_of (found_of n))) × RaceFound (rows_of (found_of n))
  race_met n name rows = go (met_by words taken)
    where
      named_race : name_of words ≡ Some (codes "race")
      named_race = name_is (codes "race") name

      go : Met (subcommand_of inet_app words) → (subcommand_of inet_app words ≡ Some (codes "race", rows_of (found_of n))) × RaceFound (rows_of (found_of n))
      go (runs found is) = not_both (name_of words) (codes "run") (codes "race") (ap (option_map (λ p. p.0)) is) named_race run_isnt_race
      go (makes found is numbers) = not_both (name_of words) (codes "make") (codes "race") (ap (option_map (λ p. p.0)) is) named_race make_isnt_race
      go (audits found is) = not_both (name_of words) (codes "audit") (codes "race") (ap (option_map (λ p. p.0)) is) named_race audit_isnt_race
      go (races found is numbers) =
          let same : found ≡ rows_of (found_of n) = rows_are n (codes "race") found is rows in
          (is ∙ ap (λ (r : List Row). Some (codes "race", r)) same, subst RaceFound same numbers)

  -- what is neither `make`, `race` nor `audit` is `run`
  run_met : ¬ (subcommand_name_of m ≡ Some (codes "make")) → ¬ (subcommand_name_of m ≡ Some (codes "race")) → ¬ (subcommand_name_of m ≡ Some (codes "audit"))
      → name_of words ≡ Some (codes "run")
  run_met no_make no_race no_audit = go (met_by words taken)
    where
      go : Met (subcommand_of inet_app words) → name_of words ≡ Some (codes "run")
      go (runs found is) = ap (option_map (λ p. p.0)) is
      go (makes found is numbers) = absurd (no_make (named m ∙ ap (option_map (λ p. p.0)) (met ∙ is)))
      go (races found is numbers) = absurd (no_race (named m ∙ ap (option_map (λ p. p.0)) (met ∙ is)))
      go (audits found is) = absurd (no_audit (named m ∙ ap (option_map (λ p. p.0)) (met ∙ is)))

  -- so a subcommand that is neither `make` nor `race` asks for what its name says
  pub plain_met : ¬ (subcommand_name_of m ≡ Some (codes "make")) → ¬ (subcommand_name_of m ≡ Some (codes "race")) → (ask : Ask) → NamesPlain (subcommand_name_of m) ask
      → Asks words ask
  plain_met no_make no_race Run no_audit = (taken, run_met no_make no_race no_audit)
  plain_met no_make no_race (Make seed count) named_so = absurd named_so
  plain_met no_make no_race (Race n p) named_so = absurd named_so
  plain_met no_make no_race Audit named_so = (taken, name_is (codes "audit") named_so)

-- What a parse of the program's command gives is of its words.
pub parsed : (app : App) (words : List Text) (m : ArgMatches) → app ≡ inet_app → (is_simple_and_free app ≡ true → fault_of app words ≡ [])
    → HasMatchesOf app words m → IsTaken words × (subcommand_rows_of m ≡ subcommand_of inet_app words)
parsed app words m is kinds matches =
    (subst (λ (a : App). is_simple_and_free a ≡ true → fault_of a words ≡ []) is kinds refl, (subst (λ (a : App). HasMatchesOf a words m) is matches refl).1)

-- the number of a text that is given is what `u32` reads
pub read_given : (E : Type 0) (G : List ℕ → Result ℕ E → Type 0) (id : Text) (least most : ℕ) (m : ArgMatches) (text : Text) (r : Option ℕ)
    → IsGiven id least most m text → most < 2 ^ 32 → ((t : List ℕ) → one_text (found_of m) id ≡ Some t → ReadsOne G t r)
    → ((u : List ℕ) (x : Result ℕ E) → G u x → ParsesUnsigned 32 10 u x) → r ≡ Some (digits_value 10 (without_leading_plus text))
read_given E G id least most m text r given small read only =
    u32_reads E G text r (read text given.text_is) only given.numeral (omega (arith, given.low))

-- and the number of the words
pub given_number : (name id : Text) (least most : ℕ) (words : List Text) (m : ArgMatches) (text : Text) → IsGiven id least most m text
    → subcommand_of inet_app words ≡ Some (name, rows_of (found_of m)) → number_of id words ≡ Some (digits_value 10 (without_leading_plus text))
given_number name id least most words m text given met = rw (met, given.row_is) refl

-- words ask for one thing at most
pub one_ask : (words : List Text) (ask other : Ask) → Asks words ask → Asks words other → ask ≡ other
one_ask words Run Run a b = refl
one_ask words Run (Make s k) a b = not_both (name_of words) _ _ a.1 b.1 run_isnt_make
one_ask words Run (Race s k) a b = not_both (name_of words) _ _ a.1 b.1 run_isnt_race
one_ask words Run Audit a b = not_both (name_of words) _ _ a.1 b.1 run_isnt_audit
one_ask words (Make s k) Run a b = not_both (name_of words) _ _ a.1 b.1 make_isnt_run
one_ask words (Make s k) (Make t l) a b = cc
one_ask words (Make s k) (Race t l) a b = not_both (name_of words) _ _ a.1 b.1 make_isnt_race
one_ask words (Make s k) Audit a b = not_both (name_of words) _ _ a.1 b.1 make_isnt_audit
one_ask words (Race s k) Run a b = not_both (name_of words) _ _ a.1 b.1 race_isnt_run
one_ask words (Race s k) (Make t l) a b = not_both (name_of words) _ _ a.1 b.1 race_isnt_make
one_ask words (Race s k) (Race t l) a b = cc
one_ask words (Race s k) Audit a b = not_both (name_of words) _ _ a.1 b.1 race_isnt_audit
one_ask words Audit Run a b = not_both (name_of words) _ _ a.1 b.1 audit_isnt_run
one_ask words Audit (Make t l) a b = not_both (name_of words) _ _ a.1 b.1 audit_isnt_make
one_ask words Audit (Race t l) a b = not_both (name_of words) _ _ a.1 b.1 audit_isnt_race
one_ask words Audit Audit a b = refl
