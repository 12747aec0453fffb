use Rattle.std.proofs.Common.{[], ◌∷◌, refl, ap, arith, inl, inr}
use Rattle.list_words.specs.Lists.{Each}
use Rattle.sock_card.specs.Conflict.{overlap, refuses, agree}
use Rattle.jhash_words.specs.Jhash.{jhash_1word, jhash_3words, started_mix, final_mix, mixed}
use Rattle.jhash_words.specs.Places.{tuple_hash, listen_hash}
use Rattle.bind_buckets.specs.OwnerStep.{owner_step}
use Rattle.chain_book.specs.declared.book.Change.{Change}
use Rattle.chain_book.specs.Homes.{home}
use Rattle.table_model.specs.Commands.{plan}
use Rattle.race_book.specs.Among.{Among}
use Rattle.race_book.specs.Serial.{IsSerial}
use Rattle.race_book.proofs.Checks.{serial_if, begin_apart_if, stood_if}
use Rattle.race_record.specs.Lawful.{AreSectionsOf, AreJournalsOf, AreInOrder, IsListed}
use Rattle.race_record.specs.Worked.{dump_script, dump_race, card_a, hash_a}
use Rattle.race_record.proofs.Checks.{in_order_if, stands_if}
use Rattle.race_record.proofs.Listener.{lives}
use Rattle.race_record.proofs.rows.one_dump.Goals as goal

serial : IsSerial (Among dump_race.book) dump_race.shape 0
unfolding home tuple_hash listen_hash jhash_1word jhash_3words started_mix final_mix mixed
serial = serial_if dump_race.book dump_race.shape 0 (begin_apart_if dump_race.book refl) refl refl refl refl refl

sections : AreSectionsOf dump_script.header (Among dump_race.book) 1 dump_script.sections dump_race.sections
unfolding plan home tuple_hash listen_hash jhash_1word jhash_3words started_mix final_mix mixed
sections = (
  (
    _,
    record { command_is = refl; goes = refl; reaps = tt },
    (
      _,
      record { command_is = refl; goes = (refl, refl, refl); reaps = tt },
      (
        _,
        record {
          command_is = refl;
          goes = (refl, refl, (refl, record { act = refl; card_is = refl }, (refl, refl, refl)));
          reaps = tt;
        },
        (_, record { command_is = refl; goes = refl; reaps = tt }, tt),
      ),
    ),
  ),
  tt,
)

journals : AreJournalsOf dump_race
unfolding owner_step overlap refuses agree
journals = record {
  count = refl;
  legal = ((refl, (tt, tt), (refl, (tt, tt), (refl, (tt, tt), tt))), tt);
  each_once = λ f. refl;
  sections = (record { callers = (refl, (refl, (refl, tt))); in_order = (refl, tt) }, tt);
}

spans : Each (AreInOrder dump_race.clock) dump_race.sections
spans = (in_order_if 2 _ refl refl, tt)

listed : IsListed (Among dump_race.book) 2 2 (card_a ∷ []) (record { t0 = 2; t1 = 2 })
listed = record {
  begins = omega arith;
  order = omega arith;
  ends = omega arith;
  sorted = refl;
  number = λ b. 2;
  since = λ b. omega arith;
  until = λ b. omega arith;
  ascend = λ b c le. omega arith;
  lives = hash_a ∷ [];
  cards_are = λ f. refl;
  stood = ((lives, stood_if dump_race.book (begin_apart_if dump_race.book refl) hash_a 2 2 refl), tt);
  stands = (stands_if dump_race.book hash_a 2 refl refl, tt);
  apart = (tt, tt);
  all = λ h l t. elim l.there as (λ _. Among (card_a ∷ []) h.card) [ inl e ↦ inl (ap (λ (x : Change). x.card) e) | inr n ↦ absurd n ];
}

pub returns : goal.returns
returns c = record {
  shape = refl;
  seed = refl;
  sections = sections;
  spans = spans;
  journals = journals;
  book = record { each_once = λ f. refl; slots = (omega arith, tt); numbers = λ f. omega arith };
  serial = serial;
  taken = (tt, (tt, (tt, (tt, tt))));
  given = (tt, (tt, (tt, (tt, tt))));
  slots = (tt, (tt, (tt, (tt, tt))));
  counted = λ h. refl;
  dumps = (refl, (refl, (refl, ((_, _, refl, listed), tt))));
  items = tt;
  shares = record { count = refl; each_once = λ f. refl; turns = (record { ascend = tt; turns = tt }, tt) };
  cut = refl;
}
