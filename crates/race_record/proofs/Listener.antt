-- The listener of the first worked record stands from the first two numbers on.
use Rattle.std.proofs.Common.{◌≤◌, refl, sym, ap, ◌∙◌, arith, inl, inr}
use Rattle.std.proofs.lemmas.Bool.{true≢false}
use Rattle.race_book.specs.Among.{Among}
use Rattle.race_book.specs.Lives.{IsLife, Throughout, comes_after}
use Rattle.race_record.specs.Worked.{first_race, hash_a}

pub lives : IsLife (Among first_race.book) hash_a
lives = record { there = inl refl; hash = refl }

pub stays : Throughout (Among first_race.book) hash_a 2 2
stays = record {
  before = omega arith;
  still = λ u a t. elim a as (λ _. 2 ≤ u.begin) [ inl e ↦ absurd (true≢false (sym t ∙ ap (comes_after hash_a) e)) | inr b ↦ absurd b ];
}
