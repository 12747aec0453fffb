use Rattle.std.proofs.Common.{refl, arith}
use Rattle.list_words.specs.Lists.{Each}
use Rattle.sock_card.specs.Conflict.{overlap, refuses, agree}
use Rattle.jhash_words.specs.Jhash.{jhash_1word, jhash_3words, started_mix, final_mix, mixed}
use Rattle.jhash_words.specs.Places.{tuple_hash, listen_hash}
use Rattle.bind_buckets.specs.OwnerStep.{owner_step}
use Rattle.chain_book.specs.Homes.{home}
use Rattle.table_model.specs.Commands.{plan}
use Rattle.race_book.specs.Among.{Among}
use Rattle.race_book.specs.Serial.{IsSerial}
use Rattle.race_book.proofs.Checks.{serial_if, begin_apart_if}
use Rattle.race_record.specs.Lawful.{AreSectionsOf, AreJournalsOf, AreInOrder}
use Rattle.race_record.specs.Worked.{first_script, first_race}
use Rattle.race_record.proofs.Checks.{in_order_if}
use Rattle.race_record.proofs.rows.one_listener.Goals as goal

serial : IsSerial (Among first_race.book) first_race.shape 0
unfolding home tuple_hash listen_hash jhash_1word jhash_3words started_mix final_mix mixed
serial = serial_if first_race.book first_race.shape 0 (begin_apart_if first_race.book refl) refl refl refl refl refl

sections : AreSectionsOf first_script.header (Among first_race.book) 1 first_script.sections first_race.sections
unfolding plan home tuple_hash listen_hash jhash_1word jhash_3words started_mix final_mix mixed
sections = (
  (
    _,
    record { command_is = refl; goes = refl; reaps = tt },
    (
      _,
      record { command_is = refl; goes = (refl, refl, refl); reaps = tt },
      (
        _,
        record {
          command_is = refl;
          goes = (refl, refl, (refl, record { act = refl; card_is = refl }, (refl, refl, refl)));
          reaps = tt;
        },
        tt,
      ),
    ),
  ),
  tt,
)

journals : AreJournalsOf first_race
unfolding owner_step overlap refuses agree
journals = record {
  count = refl;
  legal = ((refl, (tt, tt), (refl, (tt, tt), (refl, (tt, tt), tt))), tt);
  each_once = λ f. refl;
  sections = (record { callers = (refl, (refl, (refl, tt))); in_order = (refl, tt) }, tt);
}

spans : Each (AreInOrder first_race.clock) first_race.sections
spans = (in_order_if 2 _ refl refl, tt)

pub returns : goal.returns
returns c = record {
  shape = refl;
  seed = refl;
  sections = sections;
  spans = spans;
  journals = journals;
  book = record { each_once = λ f. refl; slots = (omega arith, tt); numbers = λ f. omega arith };
  serial = serial;
  taken = (tt, (tt, (tt, tt)));
  given = (tt, (tt, (tt, tt)));
  slots = (tt, (tt, (tt, tt)));
  counted = λ h. refl;
  dumps = (refl, (refl, (refl, tt)));
  items = tt;
  shares = record { count = refl; each_once = λ f. refl; turns = (record { ascend = tt; turns = tt }, tt) };
  cut = refl;
}
