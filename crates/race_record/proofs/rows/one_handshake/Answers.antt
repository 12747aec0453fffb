use Rattle.std.proofs.Common.{refl, arith, inl, inr}
use Rattle.list_words.specs.Lists.{Each}
use Rattle.sock_card.specs.Conflict.{overlap, refuses, agree}
use Rattle.sock_card.specs.Rank.{rank}
use Rattle.jhash_words.specs.Jhash.{jhash_1word, jhash_3words, started_mix, final_mix, mixed}
use Rattle.jhash_words.specs.Places.{tuple_hash, listen_hash}
use Rattle.bind_buckets.specs.OwnerStep.{owner_step}
use Rattle.chain_book.specs.Homes.{home}
use Rattle.table_model.specs.Commands.{plan}
use Rattle.race_book.specs.Among.{Among}
use Rattle.race_book.specs.Explained.{at_home, in_bucket}
use Rattle.race_book.specs.Serial.{IsSerial}
use Rattle.race_book.proofs.Checks.{serial_if, begin_apart_if, find_if, none_if, stood_if}
use Rattle.race_record.specs.Lawful.{AreSectionsOf, AreJournalsOf, IsBookOf, AreInOrder, AreAnswered, AreSharesOf}
use Rattle.race_record.specs.Worked.{handshake_script, handshake_capture, handshake_race, hash_r, hash_child}
use Rattle.race_record.proofs.Checks.{in_order_if, free_if}
use Rattle.race_record.proofs.rows.one_handshake.Goals as goal

serial : IsSerial (Among handshake_race.book) handshake_race.shape 0
unfolding home tuple_hash listen_hash jhash_1word jhash_3words started_mix final_mix mixed
serial = serial_if handshake_race.book handshake_race.shape 0 (begin_apart_if handshake_race.book refl) refl refl refl refl refl

sections : AreSectionsOf handshake_script.header (Among handshake_race.book) 1 handshake_script.sections handshake_race.sections
unfolding plan home tuple_hash listen_hash jhash_1word jhash_3words started_mix final_mix mixed
sections = (
  (
    _,
    record { command_is = refl; goes = refl; reaps = tt },
    (
      _,
      record { command_is = refl; goes = (refl, refl, refl); reaps = tt },
      (
        _,
        record { command_is = refl; goes = (refl, refl, (refl, record { act = refl; card_is = refl }, (refl, refl, refl))); reaps = tt },
        (
          _,
          record { command_is = refl; goes = (refl, record { act = refl; card_is = refl }, refl); reaps = tt },
          (
            _,
            record {
              command_is = refl;
              goes = (
                refl,
                record { act = refl; card_is = refl },
                (record { unhash = record { act = refl; card_is = refl }; bucket = refl; slot = refl }, (refl, refl, refl)),
              );
              reaps = tt;
            },
            tt,
          ),
        ),
      ),
    ),
  ),
  tt,
)

journals : AreJournalsOf handshake_race
unfolding owner_step overlap refuses agree
journals = record {
  count = refl;
  legal = ((refl, (tt, tt), (refl, (tt, tt), (refl, (tt, tt), (refl, ((refl, tt), (tt, tt)), tt)))), tt);
  each_once = λ f. refl;
  sections = (record { callers = (refl, (refl, (refl, (refl, tt)))); in_order = (refl, tt) }, tt);
}

spans : Each (AreInOrder handshake_race.clock) handshake_race.sections
spans = (in_order_if 8 _ refl refl, tt)

book : IsBookOf handshake_race
book = record {
  each_once = λ f. refl;
  slots = (omega arith, (omega arith, (omega arith, (omega arith, tt))));
  numbers = λ f. omega arith;
}

items : AreAnswered (Among handshake_race.book) handshake_race.shape 0 8 handshake_capture.items handshake_race.looked
unfolding rank
items = (
  record {
    packet_is = refl;
    seed_is = refl;
    order = omega arith;
    most = omega arith;
    explained = find_if handshake_race.book (begin_apart_if handshake_race.book refl) (at_home handshake_race.shape 0) _ 4 6 hash_r (inr (inl refl)) refl refl refl;
    stages = inl (omega arith, none_if handshake_race.book (in_bucket _ 5) _ 4 6 6 refl);
    life = record {
      life = hash_r;
      is = record { there = inr (inl refl); hash = refl };
      card_is = refl;
      stood = stood_if handshake_race.book (begin_apart_if handshake_race.book refl) hash_r 4 6 refl;
      newest = λ g l slot later. omega (arith, later);
    };
    bucket = tt;
  },
  (
    record {
      packet_is = refl;
      seed_is = refl;
      order = omega arith;
      most = omega arith;
      explained = find_if handshake_race.book (begin_apart_if handshake_race.book refl) (at_home handshake_race.shape 0) _ 6 8 hash_child (inr (inr (inl refl))) refl refl refl;
      stages = inl (omega arith, none_if handshake_race.book (in_bucket _ 5) _ 6 8 6 refl);
      life = record {
        life = hash_child;
        is = record { there = inr (inr (inl refl)); hash = refl };
        card_is = refl;
        stood = stood_if handshake_race.book (begin_apart_if handshake_race.book refl) hash_child 6 8 refl;
        newest = λ g l slot later. omega (arith, later);
      };
      bucket = tt;
    },
    tt,
  ),
)

shares : AreSharesOf handshake_race
shares = record {
  count = refl;
  each_once = λ f. omega arith;
  turns = (record { ascend = ((omega arith, tt), (tt, tt)); turns = ((omega arith, tt), (tt, tt)) }, tt);
}

pub returns : goal.returns
returns c = record {
  shape = refl;
  seed = refl;
  sections = sections;
  spans = spans;
  journals = journals;
  book = book;
  serial = serial;
  taken = (tt, (tt, (tt, (tt, (tt, tt)))));
  given = (tt, (tt, (tt, ((free_if handshake_race.book _ refl refl refl, tt), (tt, tt)))));
  slots = (tt, (tt, (tt, (tt, (tt, tt)))));
  counted = λ h. refl;
  dumps = (refl, (refl, (refl, (refl, (refl, tt)))));
  items = items;
  shares = shares;
  cut = refl;
}
