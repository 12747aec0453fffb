-- The steps of all sections hash no name twice as one kind.
use Rattle.std.proofs.Common.{◌≡◌, ℕ, ◌+◌, ◌*◌, ◌^◌, ◌<◌, ◌≤◌, List, [], ◌∷◌, ◌++◌, length, None, refl, ap, ◌∙◌, arith, inl, inr}
use Rattle.std.specs.List.{flat_map}
use Rattle.std.proofs.lemmas.Bool.{cases_lt}
use Rattle.std.proofs.lemmas.Grind.{flat_map-append}
use Rattle.list_words.specs.Lists.{Each}
use Rattle.sock_card.specs.declared.card.Kind.{Kind}
use Rattle.chain_book.specs.declared.book.Change.{Change}
use Rattle.flat_list.specs.declared.header.Header.{Header}
use Rattle.flat_list.specs.declared.command.Command.{Command}
use Rattle.table_model.specs.Own.{Own, new_own}
use Rattle.table_model.specs.Commands.{answers, plan}
use Rattle.race_record.specs.Deeds.{Deed, changes_of, changes_in}
use Rattle.race_record.specs.Record.{Step, deeds_of}
use Rattle.race_record.specs.Lawful.{AreStepsOf, AreSectionsOf}
use Rattle.race_laws.proofs.Counted.{hashes, hashes_more}
use Rattle.race_laws.proofs.Hashed.{Comes, comes}
use Rattle.race_laws.proofs.Kept.{History, after, after_is, begun}
use Rattle.race_laws.proofs.Plans.{OwnKept, Leaves, plan_keeps}

pub changes_more : (first rest : List Deed) → changes_in (first ++ rest) ≡ changes_in first ++ changes_in rest
changes_more first rest = flat_map-append changes_of first rest

module _ (header : Header) (In : Change → Type 0) where
  module _ (number : ℕ) where
    -- with what was hashed before, these changes hash no name twice as one kind, and none that isn't this section's
    record HashOnce (f : History) (changes : List Change) : Type 0 where
      once : (name : ℕ) (kind : Kind) → f name kind + hashes name kind changes ≤ 1
      below : (name : ℕ) (kind : Kind) → name ≤ number * 2 ^ 56 → f name kind + hashes name kind changes ≡ 0
      above : (name : ℕ) (kind : Kind) → (number + 1) * 2 ^ 56 ≤ name → f name kind + hashes name kind changes ≡ 0

    at_end : (given : ℕ) (f : History) (own : Own) → OwnKept number given f own → given < 2 ^ 56 → HashOnce f []
    at_end given f own h few =
        let n = h.kept.names in record {
          once = λ name kind. omega (arith, n.once name kind);
          below = λ name kind l. omega (arith, n.below name kind l);
          above = λ name kind l. omega (arith, n.above name kind (omega (arith, l, few)));
        }

    steps_once : (given : ℕ) (f : History) (own : Own) (cs : List Command) (steps : List Step) → AreStepsOf header In own cs steps → OwnKept number given f own → given + length cs < 2 ^ 56
        → HashOnce f (changes_in (deeds_of steps))
    steps_once given f own [] [] a h few = at_end given f own h (omega (arith, few))
    steps_once given f own (c ∷ cs) (s ∷ steps) a h few =
        let r : Comes (Leaves number given f) None s.deeds (answers a.0 s.reply) =
        comes (Leaves number given f) (plan header own c) None s.deeds (answers a.0 s.reply) (plan_keeps number given f header own h c) a.1.goes in
        let rest : HashOnce (after f r.now) (changes_in (deeds_of steps)) =
        steps_once r.result.now (after f r.now) a.0 cs steps a.2 r.result.own (omega (arith, few, r.result.few)) in
        let same : (name : ℕ) (kind : Kind) → f name kind + hashes name kind (changes_in (deeds_of (s ∷ steps))) ≡ after f r.now name kind + hashes name kind (changes_in (deeds_of steps)) =
        λ name kind.
        let split : hashes name kind (changes_in (deeds_of (s ∷ steps))) ≡ hashes name kind (changes_in s.deeds) + hashes name kind (changes_in (deeds_of steps)) =
        ap (hashes name kind) (changes_more s.deeds (deeds_of steps)) ∙ hashes_more name kind (changes_in s.deeds) (changes_in (deeds_of steps)) in
        omega (arith, split, r.made name kind, after_is f r.now name kind) in record {
          once = λ name kind. omega (arith, same name kind, rest.once name kind);
          below = λ name kind l. omega (arith, same name kind, rest.below name kind l);
          above = λ name kind l. omega (arith, same name kind, rest.above name kind l);
        }
    steps_once given f own [] (s ∷ steps) a h few = absurd a
    steps_once given f own (c ∷ cs) [] a h few = absurd a

    section_once : (cs : List Command) (steps : List Step) → AreStepsOf header In (new_own header number) cs steps → length cs < 2 ^ 24 → HashOnce (λ name kind. 0) (changes_in (deeds_of steps))
    section_once cs steps a few =
        steps_once 0 (λ name kind. 0) (new_own header number) cs steps a (record { number_is = refl; given_is = refl; kept = begun number }) (omega (arith, few))

  -- the sections from that number on hash no name twice as one kind, and none of a section before
  pub record AllOnce (number : ℕ) (changes : List Change) : Type 0 where
    pub once : (name : ℕ) (kind : Kind) → hashes name kind changes ≤ 1
    pub below : (name : ℕ) (kind : Kind) → name ≤ number * 2 ^ 56 → hashes name kind changes ≡ 0

  one_or_rest : (number first rest name : ℕ) → first ≤ 1 → rest ≤ 1 → ((number + 1) * 2 ^ 56 ≤ name → first ≡ 0) → (name ≤ (number + 1) * 2 ^ 56 → rest ≡ 0) → first + rest ≤ 1
  one_or_rest number first rest name few left high low = elim (cases_lt name ((number + 1) * 2 ^ 56)) as (λ _. first + rest ≤ 1) [
    | inl l ↦ omega (arith, few, low (omega (arith, l)))
    | inr l ↦ omega (arith, left, high (omega (arith, l)))
  ]

  pub sections_once : (number : ℕ) (scripts : List (List Command)) (sections : List (List Step)) → AreSectionsOf header In number scripts sections → Each (λ (cs : List Command). length cs < 2 ^ 24) scripts
      → AllOnce number (changes_in (deeds_of (flat_map (λ steps. steps) sections)))
  sections_once number [] [] a few = record { once = λ name kind. omega arith; below = λ name kind l. refl }
  sections_once number (cs ∷ scripts) (steps ∷ sections) a few =
      let others : List Step = flat_map (λ xs. xs) sections in
      let first : HashOnce number (λ name kind. 0) (changes_in (deeds_of steps)) = section_once number cs steps a.0 few.0 in
      let rest : AllOnce (number + 1) (changes_in (deeds_of others)) = sections_once (number + 1) scripts sections a.1 few.1 in
      let split : (name : ℕ) (kind : Kind) → hashes name kind (changes_in (deeds_of (steps ++ others))) ≡ hashes name kind (changes_in (deeds_of steps)) + hashes name kind (changes_in (deeds_of others)) =
      λ name kind.
      ap (λ (ds : List Deed). hashes name kind (changes_in ds)) (flat_map-append (λ (s : Step). s.deeds) steps others)
      ∙ ap (hashes name kind) (changes_more (deeds_of steps) (deeds_of others)) ∙ hashes_more name kind (changes_in (deeds_of steps)) (changes_in (deeds_of others)) in record {
        once = λ name kind.
            let both : hashes name kind (changes_in (deeds_of steps)) + hashes name kind (changes_in (deeds_of others)) ≤ 1 =
            one_or_rest number (hashes name kind (changes_in (deeds_of steps))) (hashes name kind (changes_in (deeds_of others))) name
            (omega (arith, first.once name kind)) (rest.once name kind) (λ l. omega (arith, first.above name kind l)) (rest.below name kind) in
            omega (arith, split name kind, both);
        below = λ name kind l. omega (arith, split name kind, first.below name kind l, rest.below name kind (omega (arith, l)));
      }
  sections_once number [] (steps ∷ sections) a few = absurd a
  sections_once number (cs ∷ scripts) [] a few = absurd a
