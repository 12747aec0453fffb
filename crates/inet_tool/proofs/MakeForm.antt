-- The words `make SEED COUNT`, each number in range, are taken, and have these two.
use Rattle.std.proofs.Common.{◌≡◌, ℕ, false, List, [], ◌∷◌, Option, Some, None, refl, codes}
use Rattle.std.specs.Str.{bytes_eq}
use Rattle.clap.specs.Lexer.{long_of, short_of}
use Rattle.clap.specs.Walk.{Row, Text, after_step, nothing_held, rows_after, value, walked}
use Rattle.clap.specs.Kinds.{Kinds, or_else}
use Rattle.clap.specs.Simple.{subcommand_of}
use Rattle.clap.specs.Faults.{defaults_fault, fault_of, level_fault, step_fault, turn_fault, walk_fault}
use Rattle.clap.proofs.OnLiterals.{clap_on_literals}
use Rattle.inet_tool.specs.Words.{inet_app}
use Rattle.inet_tool.proofs.MakeWords.{Passes, both, held, make, most_count, most_seed, one, place, row, start}

-- nothing after a list of kinds
pub or_else-nil : (kinds : Kinds) → or_else kinds [] ≡ kinds
or_else-nil [] = refl
or_else-nil (k ∷ ks) = refl

-- the text is no flag
abbrev pub IsPlainText : Text → Type 0
IsPlainText text = (bytes_eq text (45 ∷ 45 ∷ []) ≡ false) × (long_of text ≡ None) × (short_of text ≡ None)

-- a text that is no flag goes to the next positional
goes_on : (position : ℕ) (rows : List Row) (pending : Option (Text × List Text)) (text : Text) → IsPlainText text
    → walked make.rules [] (place position false rows pending) text
    ≡ after_step make.rules text (place position false rows pending) (held position rows pending) value
unfolding walked
goes_on position rows pending text plain = rw (plain.0, plain.1, plain.2) refl

-- and what is refused there is that positional
turns_on : (position : ℕ) (rows : List Row) (pending : Option (Text × List Text)) (text : Text) → IsPlainText text
    → turn_fault make [] (place position false rows pending) text ≡ step_fault make position (held position rows pending) value
turns_on position rows pending text plain = rw (plain.0, plain.1, plain.2) refl

module _ (a b : Text) (a_plain : IsPlainText a) (b_plain : IsPlainText b) where
  -- after the first
  to_one : walked make.rules [] (start false) a ≡ one a false
  to_one = goes_on 1 [] None a a_plain

  -- after the second
  to_both : walked make.rules [] (one a false) b ≡ both a b false
  to_both = goes_on 2 [] (Some (codes "SEED", a ∷ [])) b b_plain

  -- both are found
  pub both_found : rows_after make.rules [] (a ∷ b ∷ []) ≡ row (codes "SEED") a ∷ row (codes "COUNT") b ∷ []
  both_found = rw (to_one, to_both) refl

  -- and nothing is refused
  pub both_pass : Passes 0 most_seed a → Passes 0 most_count b → level_fault make [] nothing_held (a ∷ b ∷ []) false [] ≡ []
  unfolding walk_fault defaults_fault
  both_pass a_passes b_passes =
      rw (turns_on 1 [] None a a_plain, to_one, turns_on 2 [] (Some (codes "SEED", a ∷ [])) b b_plain, to_both, a_passes, b_passes) refl

-- what is refused of `make` and two words is what the subcommand refuses of the two
pub make_fault : (name a b : Text) → fault_of inet_app (name ∷ codes "make" ∷ a ∷ b ∷ []) ≡ level_fault make [] nothing_held (a ∷ b ∷ []) false []
unfolding clap_on_literals
make_fault name a b = or_else-nil (level_fault make [] nothing_held (a ∷ b ∷ []) false [])

-- and what is found is what it finds
pub make_found : (name a b : Text) → subcommand_of inet_app (name ∷ codes "make" ∷ a ∷ b ∷ []) ≡ Some (codes "make", rows_after make.rules [] (a ∷ b ∷ []))
unfolding clap_on_literals
make_found name a b = refl
