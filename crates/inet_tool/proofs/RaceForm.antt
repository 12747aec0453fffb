-- The words of `race` with its two options, in either order, each number in range, are taken, and have these two.
use Rattle.std.proofs.Common.{◌≡◌, ◌∙◌, false, List, [], ◌∷◌, Some, None, refl, ap, codes, decimal, arith}
use Rattle.clap.specs.Walk.{Row, Text, idle, nothing_held, option, rows_after, walked}
use Rattle.clap.specs.Simple.{subcommand_of}
use Rattle.clap.specs.Faults.{defaults_fault, fault_of, level_fault, turn_fault, walk_fault}
use Rattle.clap.proofs.OnLiterals.{clap_on_literals}
use Rattle.inet_tool.specs.Words.{RaceAsks, inet_app}
use Rattle.inet_tool.proofs.MakeForm.{IsPlainText, or_else-nil}
use Rattle.inet_tool.proofs.MakeWords.{Passes, row}
use Rattle.inet_tool.proofs.Numbers.{decimal_is_plain, decimal_passes, digits_value-decimal}
use Rattle.inet_tool.proofs.RaceWords.{Which, lookers, passes, id_of, most_of, place, race}

-- the option as a word
abbrev flag_of : Which → Text
flag_of lookers = codes "--lookers"
flag_of passes = codes "--passes"

-- a plain text is the value of the option that waits
to_value : (k : Which) (rows : List Row) (text : Text) → IsPlainText text
    → walked race.rules [] (place (option (id_of k)) false rows (Some (id_of k, []))) text ≡ place idle false rows (Some (id_of k, text ∷ []))
unfolding walked
to_value lookers rows text plain = rw (plain.0, plain.1, plain.2) refl
to_value passes rows text plain = rw (plain.0, plain.1, plain.2) refl

-- and isn't refused
value_turn : (k : Which) (rows : List Row) (text : Text) → IsPlainText text
    → turn_fault race [] (place (option (id_of k)) false rows (Some (id_of k, []))) text ≡ []
value_turn lookers rows text plain = rw (plain.0, plain.1, plain.2) refl
value_turn passes rows text plain = rw (plain.0, plain.1, plain.2) refl

module _ (a b : Text) (a_plain : IsPlainText a) (b_plain : IsPlainText b) where
  -- the words, the one option first or the other
  abbrev words : Which → List Text
  words lookers = codes "--lookers" ∷ a ∷ codes "--passes" ∷ b ∷ []
  words passes = codes "--passes" ∷ a ∷ codes "--lookers" ∷ b ∷ []

  abbrev other : Which → Which
  other lookers = passes
  other passes = lookers

  -- before the first value
  to_first : (k : Which) → walked race.rules [] (place idle false [] None) (flag_of k) ≡ place (option (id_of k)) false [] (Some (id_of k, []))
  unfolding clap_on_literals
  to_first lookers = refl
  to_first passes = refl

  first_turn : (k : Which) → turn_fault race [] (place idle false [] None) (flag_of k) ≡ []
  unfolding clap_on_literals
  first_turn lookers = refl
  first_turn passes = refl

  -- before the second
  to_second : (k : Which) → walked race.rules [] (place idle false [] (Some (id_of k, a ∷ []))) (flag_of (other k))
      ≡ place (option (id_of (other k))) false (row (id_of k) a ∷ []) (Some (id_of (other k), []))
  unfolding clap_on_literals
  to_second lookers = refl
  to_second passes = refl

  second_turn : (k : Which) → Passes 1 (most_of k) a → turn_fault race [] (place idle false [] (Some (id_of k, a ∷ []))) (flag_of (other k)) ≡ []
  unfolding clap_on_literals
  second_turn lookers good = rw good refl
  second_turn passes good = rw good refl

  -- both are found
  both_found : (k : Which) → rows_after race.rules [] (words k) ≡ row (id_of k) a ∷ row (id_of (other k)) b ∷ []
  both_found lookers = rw (to_first lookers, to_value lookers [] a a_plain, to_second lookers, to_value passes (row (id_of lookers) a ∷ []) b b_plain) refl
  both_found passes = rw (to_first passes, to_value passes [] a a_plain, to_second passes, to_value lookers (row (id_of passes) a ∷ []) b b_plain) refl

  -- and nothing is refused
  both_pass : (k : Which) → Passes 1 (most_of k) a → Passes 1 (most_of (other k)) b → level_fault race [] nothing_held (words k) false [] ≡ []
  unfolding walk_fault defaults_fault
  both_pass lookers a_good b_good =
      rw (
        first_turn lookers,
        to_first lookers,
        value_turn lookers [] a a_plain,
        to_value lookers [] a a_plain,
        second_turn lookers a_good,
        to_second lookers,
        value_turn passes (row (id_of lookers) a ∷ []) b b_plain,
        to_value passes (row (id_of lookers) a ∷ []) b b_plain,
        b_good,
      ) refl
  both_pass passes a_good b_good =
      rw (
        first_turn passes,
        to_first passes,
        value_turn passes [] a a_plain,
        to_value passes [] a a_plain,
        second_turn passes a_good,
        to_second passes,
        value_turn lookers (row (id_of passes) a ∷ []) b b_plain,
        to_value lookers (row (id_of passes) a ∷ []) b b_plain,
        b_good,
      ) refl

  -- what is refused of the whole line is what the subcommand refuses
  fault : (name : Text) (k : Which) → fault_of inet_app (name ∷ codes "race" ∷ words k) ≡ level_fault race [] nothing_held (words k) false []
  unfolding clap_on_literals
  fault name lookers = or_else-nil (level_fault race [] nothing_held (words lookers) false [])
  fault name passes = or_else-nil (level_fault race [] nothing_held (words passes) false [])

  -- and what is found is what it finds
  found : (name : Text) (k : Which) → subcommand_of inet_app (name ∷ codes "race" ∷ words k) ≡ Some (codes "race", rows_after race.rules [] (words k))
  unfolding clap_on_literals
  found name lookers = refl
  found name passes = refl

pub race_asks : RaceAsks
race_asks name n p low high least most =
    let a = decimal_is_plain n (omega arith) in
    let b = decimal_is_plain p (omega arith) in
    let n_good = decimal_passes 1 16 n low high (omega arith) in
    let p_good = decimal_passes 1 64 p least most (omega arith) in
    let first = found (decimal n) (decimal p) a b name lookers ∙ ap (λ (rows : List Row). Some (codes "race", rows)) (both_found (decimal n) (decimal p) a b lookers) in
    let second = found (decimal p) (decimal n) b a name passes ∙ ap (λ (rows : List Row). Some (codes "race", rows)) (both_found (decimal p) (decimal n) b a passes) in (
      (
        fault (decimal n) (decimal p) a b name lookers ∙ both_pass (decimal n) (decimal p) a b lookers n_good p_good,
        rw first refl,
        rw (first, digits_value-decimal n (omega arith)) refl,
        rw (first, digits_value-decimal p (omega arith)) refl,
      ),
      (
        fault (decimal p) (decimal n) b a name passes ∙ both_pass (decimal p) (decimal n) b a passes p_good n_good,
        rw second refl,
        rw (second, digits_value-decimal n (omega arith)) refl,
        rw (second, digits_value-decimal p (omega arith)) refl,
      ),
    )
