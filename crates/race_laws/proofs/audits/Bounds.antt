-- The clock of a race and the counts of its journals are bounded by how much its commands do.
use Rattle.std.proofs.Common.{◌≡◌, ℕ, ◌+◌, ◌*◌, ◌<◌, ◌≤◌, ◌^◌, List, [], ◌∷◌, length, length-append, map, None, Some, sym, ap, ◌∙◌, arith}
use Rattle.std.proofs.lemmas.List.{length-map}
use Rattle.std.specs.List.{flat_map}
use Rattle.list_words.specs.Lists.{Each, SameItems}
use Rattle.turn_table.specs.declared.note.Note.{Note}
use Rattle.turn_table.specs.Journals.{placed}
use Rattle.turn_table.specs.Values.{all_placed}
use Rattle.bind_buckets.specs.declared.request.Entry.{Entry}
use Rattle.race_record.specs.Deeds.{Deed, added, changes_in, changes_of, entered, entries_in, entry_of, hashed, inserted, kept_out, left, no_slot, reaped}
use Rattle.race_record.specs.Headline.{NumbersTell}
use Rattle.race_record.specs.Laws.{drew_in_vain}
use Rattle.race_record.specs.Record.{Race, Step, all_deeds, deeds_of, steps_of}
use Rattle.race_record.specs.Lawful.{AreJournalsOf, IsBookOf, itself}
use Rattle.race_record.proofs.Weights.{ones}
use Rattle.race_laws.proofs.audits.Owners.{shorter}

-- a step did so much at most
abbrev pub DoesFew : Step → Type 0
DoesFew s = length s.deeds ≤ 2 ^ 26

abbrev pub IsShort : List Step → Type 0
IsShort steps = length steps < 2 ^ 24

deeds_count : (steps : List Step) → Each DoesFew steps → length (deeds_of steps) ≤ 2 ^ 26 * length steps
deeds_count [] h = omega arith
deeds_count (s ∷ steps) h = omega (arith, length-append s.deeds (deeds_of steps), h.0, deeds_count steps h.1)

steps_count : (sections : List (List Step)) → Each IsShort sections → length (flat_map (λ steps. steps) sections) ≤ 2 ^ 24 * length sections
steps_count [] h = omega arith
steps_count (steps ∷ rest) h = omega (arith, length-append steps (flat_map (λ ss. ss) rest), h.0, steps_count rest h.1)

two_changes : (d : Deed) → length (changes_of d) ≤ 2
two_changes (entered port note) = omega arith
two_changes (inserted wish (hashed c None)) = omega arith
two_changes (inserted wish (hashed c (Some u))) = omega arith
two_changes (inserted wish (kept_out name)) = omega arith
two_changes (inserted wish (no_slot number owned held)) = omega arith
two_changes (added card (hashed c None)) = omega arith
two_changes (added card (hashed c (Some u))) = omega arith
two_changes (added card (kept_out name)) = omega arith
two_changes (added card (no_slot number owned held)) = omega arith
two_changes (left u) = omega arith
two_changes (reaped card None) = omega arith
two_changes (reaped card (Some u)) = omega arith

changes_count : (deeds : List Deed) → length (changes_in deeds) ≤ 2 * length deeds
changes_count [] = omega arith
changes_count (d ∷ deeds) = omega (arith, length-append (changes_of d) (changes_in deeds), two_changes d, changes_count deeds)

one_entry : (buckets : ℕ) (d : Deed) → length (entry_of buckets d) ≤ 1
one_entry buckets (entered key note) = omega arith
one_entry buckets d = omega arith

entries_count : (buckets : ℕ) (deeds : List Deed) → length (entries_in buckets deeds) ≤ length deeds
entries_count buckets [] = omega arith
entries_count buckets (d ∷ deeds) =
    omega (arith, length-append (entry_of buckets d) (entries_in buckets deeds), one_entry buckets d, entries_count buckets deeds)

-- as many items
pub same_length : {A : Type 0} (xs ys : List A) → SameItems xs ys → length xs ≡ length ys
same_length xs ys s = sym (ones xs) ∙ s (λ x. 1) ∙ ones ys

journals_short : (most i : ℕ) (journals : List (List (Note Entry))) → length (all_placed itself i journals) ≤ most → Each (λ (journal : List (Note Entry)). length journal ≤ most) journals
journals_short most i [] h = tt
journals_short most i (journal ∷ rest) h =
    let parts : length (all_placed itself i (journal ∷ rest)) ≡ length journal + length (all_placed itself (i + 1) rest) =
    length-append (map (placed i) journal) (all_placed itself (i + 1) rest) ∙ ap (λ n. n + length (all_placed itself (i + 1) rest)) (length-map journal (placed i)) in
    (omega (arith, h, parts), journals_short most (i + 1) rest (omega (arith, h, parts)))

module _ (race : Race) (few : Each DoesFew (steps_of race)) (short : Each IsShort race.sections) (sections : length race.sections ≤ 64) where
  steps_few : length (steps_of race) ≤ 2 ^ 30
  steps_few = omega (arith, steps_count race.sections short, sections)

  deeds_few : length (all_deeds race) ≤ 2 ^ 56
  deeds_few = omega (arith, deeds_count (steps_of race) few, steps_few)

  pub clock_below : IsBookOf race → NumbersTell race → race.clock < 2 ^ 64
  clock_below book numbers = omega (
    arith,
    numbers.count,
    shorter drew_in_vain (steps_of race),
    steps_few,
    same_length race.book (changes_in (all_deeds race)) book.each_once,
    changes_count (all_deeds race),
    deeds_few,
  )

  pub journals_below : AreJournalsOf race → Each (λ (journal : List (Note Entry)). length journal ≤ 2 ^ 56) race.journals
  journals_below journals = journals_short (2 ^ 56) 0 race.journals (omega (
    arith,
    same_length (all_placed itself 0 race.journals) (entries_in race.shape.bind (all_deeds race)) journals.each_once,
    entries_count race.shape.bind (all_deeds race),
    deeds_few,
  ))
