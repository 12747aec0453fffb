-- Words ask for one thing at most.
use Rattle.std.proofs.Common.{◌≡◌, ◌<◌, ◌≤◌, ◌^◌, ℕ, ◌∙◌, List, Option, Some, codes, option_map, arith, refl, ap, sym, subst}
use Rattle.std.specs.Str.Parse.{digits_value}
use Rattle.clap.specs.Words.{Text, Row, one_of, subcommand_of, without_minus}
use Rattle.sock_script.specs.declared.parse.Mode.{Mode}
use Rattle.sock_script.specs.declared.parse.Mode.TheVariants as modes
use Rattle.inet_tool.specs.Words.{inet_app, name_of, number_of, IsMake, IsRace, IsRefused, MakesInRange, RacesInRange, AsksToRead}
use Rattle.inet_tool.proofs.Asked.{Met, audits, makes, met_by, races, runs}
use Rattle.inet_tool.proofs.MakeWords.{most_seed, most_count}
use Rattle.inet_tool.proofs.Names.{audit_isnt_make, audit_isnt_race, make_isnt_race, race_isnt_make, run_isnt_make, run_isnt_race}
use Rattle.inet_tool.proofs.Numbers.{digits, reads}

-- what is the same
one_value : {A : Type 0} {o : Option A} {x y : A} → o ≡ Some x → o ≡ Some y → x ≡ y
one_value e f = let both : Some _ ≡ Some _ = sym e ∙ f in cc

module _ (words : List Text) where
  -- from one seed, and so many steps
  pub one_make : (a b c d : ℕ) → IsMake words a b → IsMake words c d → (a ≡ c) × (b ≡ d)
  one_make a b c d h k = (one_value h.2 k.2, one_value h.3 k.3)

  -- with so many lookers, and so many passes
  pub one_race : (a b c d : ℕ) → IsRace words a b → IsRace words c d → (a ≡ c) × (b ≡ d)
  one_race a b c d h k = (one_value h.2 k.2, one_value h.3 k.3)

  -- a script is read for one thing
  pub one_mode : (m n : Mode) → AsksToRead m words → AsksToRead n words → m ≡ n
  one_mode modes.Run modes.Run h k = refl
  one_mode modes.Run modes.Race h k = absurd (run_isnt_race (one_value h.1 k.2.1))
  one_mode modes.Race modes.Run h k = absurd (run_isnt_race (one_value k.1 h.2.1))
  one_mode modes.Race modes.Race h k = refl

  -- so what holds of that holds of whatever it is read for
  pub by_mode : (P : Mode → Type 0) (m : Mode) → AsksToRead m words → P m → (n : Mode) → AsksToRead n words → P n
  by_mode P m h p n k = subst P (one_mode m n h k) p

-- the number of an argument is what its text says, and no more than its parser allows
module _ (words : List Text) (name : Text) (rows : List Row) (met : subcommand_of inet_app words ≡ Some (name, rows)) where
  number_is : (id text : Text) → one_of id rows ≡ Some (without_minus text) → number_of id words ≡ Some (digits_value 10 (digits text))
  number_is id text is = rw (met, is) refl

  not_named : {P : Type 0} (other : Text) → name_of words ≡ Some other → (name ≡ other → ⊥) → P
  not_named other is differ = absurd (differ (one_value (ap (option_map (λ met. met.0)) met) is))

pub makes_in_range : MakesInRange
makes_in_range words seed count h = go (met_by words h.0)
  where
    go : Met (subcommand_of inet_app words) → (seed < 2 ^ 32) × (count ≤ 100000)
    go (runs rows met) = not_named words (codes "run") rows met (codes "make") h.1 run_isnt_make
    go (races rows met found) = not_named words (codes "race") rows met (codes "make") h.1 race_isnt_make
    go (audits rows met) = not_named words (codes "audit") rows met (codes "make") h.1 audit_isnt_make
    go (makes rows met found) =
        let s = one_value h.2 (number_is words (codes "make") rows met (codes "SEED") found.0 (rw found.2 refl)) in
        let n = one_value h.3 (number_is words (codes "make") rows met (codes "COUNT") found.1 (rw found.2 refl)) in
        (omega (arith, s, (reads 0 most_seed found.0 found.3).2), omega (arith, n, (reads 0 most_count found.1 found.4).2))

pub races_in_range : RacesInRange
races_in_range words n p h = go (met_by words h.0)
  where
    go : Met (subcommand_of inet_app words) → (1 ≤ n) × (n ≤ 16) × (1 ≤ p) × (p ≤ 64)
    go (runs rows met) = not_named words (codes "run") rows met (codes "race") h.1 run_isnt_race
    go (makes rows met found) = not_named words (codes "make") rows met (codes "race") h.1 make_isnt_race
    go (audits rows met) = not_named words (codes "audit") rows met (codes "race") h.1 audit_isnt_race
    go (races rows met found) =
        let a = one_value h.2 (number_is words (codes "race") rows met (codes "lookers") found.lookers_text found.lookers_there.is) in
        let b = one_value h.3 (number_is words (codes "race") rows met (codes "passes") found.passes_text found.passes_there.is) in
        let first = reads 1 16 found.lookers_text found.lookers_there.passes_it in
        let second = reads 1 64 found.passes_text found.passes_there.passes_it in
        (omega (arith, a, first.1), omega (arith, a, first.2), omega (arith, b, second.1), omega (arith, b, second.2))

-- words ask for one command at most
module _ {P : Type 0} (words : List Text) where
  pub race_or_make : (n p seed count : ℕ) → IsRace words n p → IsMake words seed count → P
  race_or_make n p seed count h k = absurd (race_isnt_make (one_value h.1 k.1))

  pub read_or_made : (mode : Mode) (seed count : ℕ) → AsksToRead mode words → IsMake words seed count → P
  read_or_made modes.Run seed count h k = absurd (run_isnt_make (one_value h.1 k.1))
  read_or_made modes.Race seed count h k = race_or_make h.0 h.1 seed count h.2 k

  -- words that are refused ask for none
  pub refused_read : (mode : Mode) → AsksToRead mode words → IsRefused words → P
  refused_read modes.Run h refused = absurd (refused h.0)
  refused_read modes.Race h refused = absurd (refused h.2.0)
