use Rattle.std.proofs.Common.{◌≡◌, refl, arith, inl, inr}
use Rattle.list_words.specs.Lists.{Each}
use Rattle.sock_card.specs.Conflict.{overlap, refuses, agree}
use Rattle.jhash_words.specs.Jhash.{jhash_1word, jhash_3words, started_mix, final_mix, mixed}
use Rattle.jhash_words.specs.Places.{tuple_hash, listen_hash}
use Rattle.bind_buckets.specs.OwnerStep.{owner_step}
use Rattle.chain_book.specs.Homes.{home}
use Rattle.table_model.specs.Commands.{plan}
use Rattle.race_book.specs.Among.{Among}
use Rattle.race_book.specs.Serial.{IsSerial}
use Rattle.std.proofs.Common.{Option, None, Some, ◌/◌, ◌^◌, ◌<◌, nat_lt, IsTrue, ap, sym, subst}
use Rattle.std.proofs.lemmas.Bool.{ltb-true}
use Rattle.sock_card.specs.declared.card.Kind.TheVariants as kinds
use Rattle.sock_card.specs.TimeWait.{expired, is_time_wait_kind}
use Rattle.chain_book.specs.declared.book.Change.{Change}
use Rattle.race_book.specs.Lives.{IsLife, Leaves}
use Rattle.race_book.proofs.Checks.{leaves_if, serial_if, begin_apart_if, each_if, find_if, none_if}
use Rattle.race_record.specs.Lawful.{AreSectionsOf, AreJournalsOf, IsBookOf, AreInOrder, AreAnswered, AreSharesOf, EachFrom, IsLegalJournal, GaveWay, WasFree}
use Rattle.race_record.proofs.Checks.{in_order_if, free_if, unkept_if, stands_if}
use Rattle.race_book.specs.Explained.{at_home, in_bucket}
use Rattle.chain_book.specs.declared.book.PacketAnswer.TheVariants as found
use Rattle.race_record.specs.Stages.{IsInStages, LedAstray, CanStop}
use Rattle.race_book.specs.Explained.{MayEnd, NamesItsBucket}
use Rattle.race_book.proofs.Checks.{stood_if}
use Rattle.race_book.proofs.Endings.{ending_ends}
use Rattle.chain_book.specs.Homes.{packet_home}
use Rattle.chain_book.specs.declared.book.PassEnd.{PassEnd}
use Rattle.chain_book.specs.declared.book.PassEnd.TheVariants as ends
use Rattle.std.proofs.Common.{ℕ, ◌≤◌, sym, subst}
use Rattle.sock_card.specs.Rank.{rank}
use Rattle.race_record.specs.Worked.{second_script, second_capture, second_race, newcomer, packet, card_b, card_d, hash_b, hash_w, hash_d, unhash_w, unhash_b, hash_e}
use Rattle.race_record.proofs.rows.two_sections.Goals as goal

serial : IsSerial (Among second_race.book) second_race.shape 0
unfolding home tuple_hash listen_hash jhash_1word jhash_3words started_mix final_mix mixed
serial = serial_if second_race.book second_race.shape 0 (begin_apart_if second_race.book refl) refl refl refl refl refl

left_in_time : (h : Change) → IsLife (Among second_race.book) h → h.card.kind ≡ kinds.TimeWait → h.card.name / 2 ^ 56 ≡ 1 → IsTrue (expired h.card.extra 60) → Leaves (Among second_race.book) h 14
left_in_time h l k n e = leaves_if second_race.book (λ (x : Change). is_time_wait_kind x.card.kind) 14 refl h l (ap is_time_wait_kind k)

sections : AreSectionsOf second_script.header (Among second_race.book) 1 second_script.sections second_race.sections
unfolding plan home tuple_hash listen_hash jhash_1word jhash_3words started_mix final_mix mixed
sections = (
  (
    _,
    record { command_is = refl; goes = refl; reaps = tt },
    (
      _,
      record { command_is = refl; goes = (refl, refl, refl); reaps = tt },
      (
        _,
        record { command_is = refl; goes = (refl, refl, (refl, record { act = refl; card_is = refl }, (refl, refl, refl))); reaps = tt },
        (
          _,
          record { command_is = refl; goes = (refl, record { act = refl; card_is = refl }, (refl, refl, refl)); reaps = tt },
          (
            _,
            record {
              command_is = refl;
              goes = (
                refl,
                record { act = refl; card_is = refl },
                (record { unhash = record { act = refl; card_is = refl }; bucket = refl; slot = refl }, (refl, refl, refl)),
              );
              reaps = tt;
            },
            (
              _,
              record {
                command_is = refl;
                goes = (
                  refl,
                  (record { act = refl; card_is = refl }, record { act = refl; tuple = refl; may = refl }),
                  (refl, refl, (refl, refl, refl)),
                );
                reaps = tt;
              },
              (_, record { command_is = refl; goes = refl; reaps = tt }, (_, record { command_is = refl; goes = (refl, tt, refl); reaps = left_in_time }, tt)),
            ),
          ),
        ),
      ),
    ),
  ),
  (
    (
      _,
      record { command_is = refl; goes = refl; reaps = tt },
      (
        _,
        record { command_is = refl; goes = (refl, refl, refl); reaps = tt },
        (
          _,
          record { command_is = refl; goes = (refl, refl, (refl, record { act = refl; card_is = refl }, (refl, refl, refl))); reaps = tt },
          tt,
        ),
      ),
    ),
    tt,
  ),
)

legal : EachFrom IsLegalJournal 0 second_race.journals
unfolding owner_step overlap refuses agree
legal = ((refl, (tt, tt), (refl, (tt, tt), (refl, ((refl, tt), (tt, tt)), (refl, ((refl, tt), (tt, tt)), (refl, ((refl, tt), (tt, tt)), (refl, ((refl, (refl, tt)), ((refl, tt), (tt, tt))), (refl, ((refl, (refl, tt)), ((refl, tt), (tt, tt))), (refl, ((refl, (refl, tt)), ((refl, tt), (tt, tt))), (refl, ((refl, (refl, (refl, tt))), ((refl, (refl, tt)), ((refl, tt), (tt, tt)))), (refl, ((refl, (refl, tt)), ((refl, tt), (tt, tt))), tt)))))))))), tt)

journals : AreJournalsOf second_race
journals = record {
  count = refl;
  legal = legal;
  each_once = λ f. omega arith;
  sections = (
    record { callers = (refl, (refl, (refl, (refl, (refl, (refl, (refl, tt))))))); in_order = (refl, tt) },
    (record { callers = (refl, (refl, (refl, tt))); in_order = (refl, tt) }, tt),
  );
}

spans : Each (AreInOrder second_race.clock) second_race.sections
spans = (in_order_if 14 _ refl refl, (in_order_if 14 _ refl refl, tt))

book : IsBookOf second_race
book = record {
  each_once = λ f. omega arith;
  slots = each_if (λ (c : Change). c.slot < 4) (λ c. nat_lt c.slot 4) second_race.book (λ c e. ltb-true c.slot 4 e) refl;
  numbers = λ f. omega arith;
}

shares : AreSharesOf second_race
shares = record {
  count = refl;
  each_once = λ f. omega arith;
  turns = (
    record { ascend = ((omega arith, tt), (tt, tt)); turns = ((tt, tt), (tt, tt)) },
    (
      record { ascend = (tt, tt); turns = (tt, tt) },
      (record { ascend = (tt, tt); turns = (tt, tt) }, (record { ascend = (tt, tt); turns = (tt, tt) }, (record { ascend = (tt, tt); turns = (tt, tt) }, tt))),
    ),
  );
}

-- nothing that takes the packet was there throughout, nor in any part of the span
missed_each : IsInStages (Among second_race.book) second_race.shape 0 (packet 0x0A000009 90) 4 6 found.None
unfolding rank
missed_each = inr (
  4,
  omega arith,
  omega arith,
  none_if second_race.book (in_bucket _ 5) _ 4 4 5 refl,
  inr (4, omega arith, omega arith, none_if second_race.book (in_bucket _ 3) _ 4 4 3 refl, none_if second_race.book (in_bucket _ 1) _ 4 6 1 refl),
)

-- the chain of the connections
connections : packet_home second_race.shape 0 (packet 0x0A000001 80) ≡ 0
unfolding tuple_hash jhash_3words started_mix final_mix mixed
connections = refl

-- the first connection left its slot, and the second came into it
astray : (t0 : ℕ) → t0 ≤ 9 → LedAstray (Among second_race.book) 0 t0 11
astray t0 low = record {
  life = hash_b;
  is = record { there = inr (inl refl); hash = refl };
  bucket_is = refl;
  unhash = unhash_b;
  ends = ending_ends second_race.book hash_b unhash_b refl;
  left = record { begun = omega arith; lasting = omega (arith, low) };
  again = hash_d;
  again_is = record { there = inr (inr (inr (inr (inl refl)))); hash = refl };
  slot_is = refl;
  after = omega arith;
  hashed = record { begun = omega arith; lasting = omega (arith, low) };
}

abbrev Gives : ℕ → PassEnd → Type 0
Gives t0 end = MayEnd (Among second_race.book) 4 0 t0 11 end × CanStop (Among second_race.book) 0 t0 11 end

changed : Gives 8 (ends.Changed 1)
changed = (record { change = unhash_b; there = inr (inr (inr (inl refl))); sort = refl; meets = record { begun = omega arith; lasting = omega arith } }, astray 8 (omega arith))

foreign : Gives 4 (ends.Foreign 1)
foreign = ((λ e. absurd (omega (arith, e)), record { change = hash_e; there = inr (inr (inr (inr (inr (inr (inl refl)))))); sort = (refl, refl); meets = record { begun = omega arith; lasting = omega arith } }), astray 4 (omega arith))

long : Gives 8 (ends.Long 5)
long = ((refl, record { change = hash_d; there = inr (inr (inr (inr (inl refl)))); sort = refl; meets = record { begun = omega arith; lasting = omega arith } }), astray 8 (omega arith))

given_up : (t0 : ℕ) (end : PassEnd) → Gives t0 end → IsInStages (Among second_race.book) second_race.shape 0 (packet 0x0A000001 80) t0 11 (found.Again 0 end)
given_up t0 end g = inl (
  sym connections,
  subst (λ (b : ℕ). MayEnd (Among second_race.book) 4 b t0 11 end) (sym connections) g.0,
  subst (λ (b : ℕ). CanStop (Among second_race.book) b t0 11 end) (sym connections) g.1,
)

names : (end : PassEnd) → NamesItsBucket second_race.shape 0 (packet 0x0A000001 80) (found.Again 0 end)
names end = inl (sym connections)

items : AreAnswered (Among second_race.book) second_race.shape 0 14 second_capture.items second_race.looked
unfolding rank
items = (
  record {
    packet_is = refl;
    seed_is = refl;
    order = omega arith;
    most = omega arith;
    explained = find_if second_race.book (begin_apart_if second_race.book refl) (at_home second_race.shape 0) _ 9 11 hash_d (inr (inr (inr (inr (inl refl))))) refl refl refl;
    stages = inl (omega arith, none_if second_race.book (in_bucket _ 5) _ 9 11 6 refl);
    life = record {
      life = hash_d;
      is = record { there = inr (inr (inr (inr (inl refl)))); hash = refl };
      card_is = refl;
      stood = stood_if second_race.book (begin_apart_if second_race.book refl) hash_d 9 11 refl;
      newest = λ g l slot later. omega (arith, later);
    };
    bucket = tt;
  },
  (
    record { packet_is = refl; seed_is = refl; order = omega arith; most = omega arith; explained = none_if second_race.book (at_home second_race.shape 0) _ 4 6 1 refl; stages = missed_each; life = tt; bucket = tt },
    (
      record { packet_is = refl; seed_is = refl; order = omega arith; most = omega arith; explained = changed.0; stages = given_up 8 (ends.Changed 1) changed; life = tt; bucket = names (ends.Changed 1) },
      (
        record { packet_is = refl; seed_is = refl; order = omega arith; most = omega arith; explained = foreign.0; stages = given_up 4 (ends.Foreign 1) foreign; life = tt; bucket = names (ends.Foreign 1) },
        (
          record { packet_is = refl; seed_is = refl; order = omega arith; most = omega arith; explained = long.0; stages = given_up 8 (ends.Long 5) long; life = tt; bucket = names (ends.Long 5) },
          (tt, tt),
        ),
      ),
    ),
  ),
)

first_free : WasFree (Among second_race.book) (record { wish = newcomer card_b; hash = hash_b; replaced = None })
first_free = free_if second_race.book _ refl refl refl

abbrev IsNone : Option Change → Type 0
IsNone None = Unit {0}
IsNone (Some u) = ⊥

gone_by : Change → Option Change → Change
gone_by u None = u
gone_by u (Some w) = w

then_free : WasFree (Among second_race.book) (record { wish = newcomer card_d; hash = hash_d; replaced = Some unhash_w })
unfolding gone_by
then_free = record {
  unkept = unkept_if second_race.book (record { wish = newcomer card_d; hash = hash_d; replaced = Some unhash_w }) refl;
  unwaited = λ none. absurd (subst IsNone (sym none) tt);
  gave = λ u e. subst (GaveWay (Among second_race.book) (record { wish = newcomer card_d; hash = hash_d; replaced = Some unhash_w })) (ap (gone_by unhash_w) e) record {
    life = hash_w;
    is = record { there = inr (inr (inl refl)); hash = refl };
    slot_is = refl;
    card_is = refl;
    stands = stands_if second_race.book hash_w hash_d.begin refl refl;
  };
}

pub returns : goal.returns
returns c = record {
  shape = refl;
  seed = refl;
  sections = sections;
  spans = spans;
  journals = journals;
  book = book;
  serial = serial;
  taken = (tt, (tt, (tt, (tt, (tt, (tt, (tt, (tt, (tt, (tt, (tt, tt)))))))))));
  given = (tt, (tt, (tt, ((first_free, tt), (tt, ((then_free, tt), (tt, (tt, (tt, (tt, (tt, tt)))))))))));
  slots = (tt, (tt, (tt, (tt, (tt, (tt, (tt, (tt, (tt, (tt, (tt, tt)))))))))));
  counted = λ h. absurd h.0;
  dumps = (refl, (refl, (refl, (refl, (refl, (refl, (refl, (refl, (refl, (refl, (refl, tt)))))))))));
  items = items;
  shares = shares;
  cut = refl;
}
