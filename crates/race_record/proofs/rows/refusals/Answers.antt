use Rattle.std.proofs.Common.{◌≡◌, ℕ, IsTrue, [], ◌∷◌, refl, sym, ap, ◌∙◌, subst, arith, inl, inr}
use Rattle.list_words.specs.Lists.{Each}
use Rattle.sock_card.specs.Conflict.{overlap, refuses, agree}
use Rattle.jhash_words.specs.Jhash.{jhash_1word, jhash_3words, started_mix, final_mix, mixed}
use Rattle.jhash_words.specs.Places.{tuple_hash, listen_hash}
use Rattle.bind_buckets.specs.OwnerStep.{owner_step}
use Rattle.chain_book.specs.Homes.{home, packet_home, listen_home}
use Rattle.table_model.specs.Commands.{plan}
use Rattle.race_book.specs.Among.{Among}
use Rattle.race_book.specs.Serial.{IsSerial}
use Rattle.race_book.proofs.Checks.{serial_if, begin_apart_if, distinct_if, stood_if, none_if}
use Rattle.race_record.specs.Lawful.{AreSectionsOf, AreJournalsOf, IsBookOf, AreInOrder, AreAnswered, AreSharesOf, IsReceiptOf, WasKept, NoneWasFree, EachFrom, IsLegalJournal}
use Rattle.race_record.proofs.Checks.{in_order_if, free_if, stands_if}
use Rattle.race_book.specs.Explained.{IsExplained, MayEnd, NamesItsBucket, buckets_of, in_bucket}
use Rattle.race_record.specs.Stages.{IsInStages, IsOfItsTime, CanStop}
use Rattle.race_book.specs.Lives.{IsLife, Throughout, comes_after, is_unhash}
use Rattle.chain_book.specs.declared.book.Change.{Change}
use Rattle.std.proofs.lemmas.Bool.{true≢false}
use Rattle.sock_card.specs.Rank.{rank}
use Rattle.chain_book.specs.declared.book.PassEnd.{PassEnd}
use Rattle.chain_book.specs.declared.book.PassEnd.TheVariants as ends
use Rattle.chain_book.specs.declared.book.PacketAnswer.TheVariants as found
use Rattle.chain_book.specs.declared.book.Receipt.{Receipt}
use Rattle.race_record.specs.Refused.{refused_script, refused_capture, refused_race, hash_a, hash_d, unhash_d, held_d, to_d, wished, owner_b}
use Rattle.flat_list.specs.Sections.{name_at}
use Rattle.std.proofs.Common.{◌≤◌}
use Rattle.race_record.proofs.rows.refusals.Goals as goal

serial : IsSerial (Among refused_race.book) refused_race.shape 0
unfolding home tuple_hash listen_hash jhash_1word jhash_3words started_mix final_mix mixed
serial = serial_if refused_race.book refused_race.shape 0 (begin_apart_if refused_race.book refl) refl refl refl refl refl

sections : AreSectionsOf refused_script.header (Among refused_race.book) 1 refused_script.sections refused_race.sections
unfolding plan home tuple_hash listen_hash jhash_1word jhash_3words started_mix final_mix mixed
sections = ((_, record { command_is = refl; goes = refl; reaps = tt }, (_, record { command_is = refl; goes = (refl, refl, refl); reaps = tt }, (_, record { command_is = refl; goes = (refl, record { act = refl; card_is = refl }, (refl, refl, refl)); reaps = tt }, (_, record { command_is = refl; goes = refl; reaps = tt }, (_, record { command_is = refl; goes = (refl, refl, refl); reaps = tt }, (_, record { command_is = refl; goes = (refl, record { act = refl; card_is = refl }, (refl, refl, refl)); reaps = tt }, (_, record { command_is = refl; goes = (record { unhash = record { act = refl; card_is = refl }; bucket = refl; slot = refl }, (refl, refl, refl)); reaps = tt }, tt))))))), ((_, record { command_is = refl; goes = refl; reaps = tt }, (_, record { command_is = refl; goes = (refl, refl, refl); reaps = tt }, (_, record { command_is = refl; goes = (refl, tt, refl); reaps = tt }, (_, record { command_is = refl; goes = refl; reaps = tt }, (_, record { command_is = refl; goes = (refl, refl, refl); reaps = tt }, (_, record { command_is = refl; goes = (refl, tt, refl); reaps = tt }, tt)))))), tt))

legal : EachFrom IsLegalJournal 0 refused_race.journals
unfolding owner_step overlap refuses agree
legal = ((refl, (tt, tt), (refl, (tt, tt), (refl, ((refl, tt), (tt, tt)), (refl, ((refl, (refl, tt)), ((refl, tt), (tt, tt))), (refl, ((refl, (refl, tt)), ((refl, tt), (tt, tt))), (refl, ((refl, (refl, (refl, tt))), ((refl, (refl, tt)), ((refl, tt), (tt, tt)))), (refl, ((refl, (refl, tt)), ((refl, tt), (tt, tt))), tt))))))), tt)

journals : AreJournalsOf refused_race
journals = record {
  count = refl;
  legal = legal;
  each_once = λ f. omega arith;
  sections = (record { callers = (refl, (refl, (refl, (refl, (refl, tt))))); in_order = (refl, tt) }, (record { callers = (refl, (refl, tt)); in_order = (refl, tt) }, tt));
}

spans : Each (AreInOrder refused_race.clock) refused_race.sections
spans = (in_order_if 7 _ refl refl, (in_order_if 7 _ refl refl, tt))

book : IsBookOf refused_race
book = record { each_once = λ f. omega arith; slots = (omega arith, (omega arith, (omega arith, tt))); numbers = λ f. omega arith }

a_there : Among refused_race.book hash_a
a_there = inl refl

d_there : Among refused_race.book hash_d
d_there = inr (inl refl)

gone_there : Among refused_race.book unhash_d
gone_there = inr (inr (inl refl))

-- the bucket of the packet
connections : Among (buckets_of refused_race.shape 0 to_d) 0
unfolding tuple_hash listen_hash jhash_1word jhash_3words started_mix final_mix mixed
connections = inl refl

receipt_of : (r : Receipt) → r.packet ≡ to_d → r.seed ≡ 0 → r.t0 ≤ r.t1 → r.t1 ≤ 7 → IsExplained (Among refused_race.book) refused_race.shape r
    → IsInStages (Among refused_race.book) refused_race.shape 0 to_d r.t0 r.t1 r.answer → IsOfItsTime (Among refused_race.book) r.t0 r.t1 r.answer → NamesItsBucket refused_race.shape 0 to_d r.answer → IsReceiptOf (Among refused_race.book) refused_race.shape 0 7 to_d r
receipt_of r p s o m e g l b = record { packet_is = p; seed_is = s; order = o; most = m; explained = e; stages = g; life = l; bucket = b }

-- its first chain
first_chain : packet_home refused_race.shape 0 to_d ≡ 0
unfolding tuple_hash jhash_3words started_mix final_mix mixed
first_chain = refl

abbrev Ends : ℕ → ℕ → ℕ → PassEnd → Type 0
Ends bucket t0 t1 end = MayEnd (Among refused_race.book) 2 bucket t0 t1 end

abbrev Staged : ℕ → ℕ → ℕ → PassEnd → Type 0
Staged bucket t0 t1 end = IsInStages (Among refused_race.book) refused_race.shape 0 to_d t0 t1 (found.Again bucket end)

-- given up in the first
at_first : (t0 t1 : ℕ) (end : PassEnd) → Ends 0 t0 t1 end → CanStop (Among refused_race.book) 0 t0 t1 end → Staged 0 t0 t1 end
at_first t0 t1 end m c = inl (sym first_chain, subst (λ (b : ℕ). Ends b t0 t1 end) (sym first_chain) m, subst (λ (b : ℕ). CanStop (Among refused_race.book) b t0 t1 end) (sym first_chain) c)

dead : Ends 0 4 5 (ends.Dead 1)
dead = record { change = unhash_d; there = gone_there; sort = refl; meets = record { begun = omega arith; lasting = omega arith } }

-- the one card that stood in the slot began to leave as the lookup began
none_stayed : (h : Change) → IsLife (Among refused_race.book) h → h.slot ≡ 1 → ¬ (Throughout (Among refused_race.book) h 4 5)
none_stayed h l s t = elim l.there as (λ _. ⊥) [
  | inl e ↦ omega (arith, s, ap (λ (x : Change). x.slot) e)
  | inr b ↦ elim b as (λ _. ⊥) [
    | inl e ↦ let u = t.still unhash_d gone_there (subst (λ (x : Change). IsTrue (comes_after x unhash_d)) (sym e) refl) in omega (arith, u)
    | inr d ↦ elim d as (λ _. ⊥) [
      | inl e ↦ true≢false (sym (ap is_unhash (sym l.hash ∙ ap (λ (x : Change). x.act) e)))
      | inr n ↦ n
    ]
  ]
]

cause : CanStop (Among refused_race.book) 0 4 5 (ends.Dead 1)
cause = (
  inl record { life = hash_d; is = record { there = d_there; hash = refl }; bucket_is = refl; slot_is = refl; stood = stood_if refused_race.book (begin_apart_if refused_race.book refl) hash_d 4 5 refl },
  none_stayed,
)

items : AreAnswered (Among refused_race.book) refused_race.shape 0 7 refused_capture.items refused_race.looked
items = (
  receipt_of _ refl refl (omega arith) (omega arith) dead (at_first 4 5 (ends.Dead 1) dead cause) tt connections,
  (tt, tt),
)

shares : AreSharesOf refused_race
shares = record {
  count = refl;
  each_once = λ f. omega arith;
  turns = (record { ascend = ((omega arith, tt), (tt, tt)); turns = ((tt, tt), (tt, tt)) }, tt);
}

kept : WasKept (Among refused_race.book) 2 4 (record { wish = wished owner_b; name = name_at 1 0 })
kept = record {
  life = hash_a;
  is = record { there = a_there; hash = refl };
  name = refl;
  keeps = refl;
  number = 2;
  since = omega arith;
  until = omega arith;
  stands = stands_if refused_race.book hash_a 2 refl refl;
}

used : NoneWasFree (Among refused_race.book) 6 7 2 1 refused_race.sightings (record { number = 6; owned = 1; held = 1 })
used = record {
  owned = 0 ∷ [];
  held = 1 ∷ [];
  all = refl;
  owned_count = refl;
  held_count = refl;
  distinct = distinct_if (0 ∷ 1 ∷ []) refl;
  below = (omega arith, (omega arith, tt));
  owned_each = (record { life = hash_a; is = record { there = a_there; hash = refl }; slot_is = refl; stood = stood_if refused_race.book (begin_apart_if refused_race.book refl) hash_a 6 7 refl }, tt);
  held_each = (record { sighting = held_d; there = inl refl; slot_is = refl; since = omega arith; until = omega arith }, tt);
  counted = λ l. omega arith;
}

pub returns : goal.returns
returns c = record {
  shape = refl;
  seed = refl;
  sections = sections;
  spans = spans;
  journals = journals;
  book = book;
  serial = serial;
  taken = (tt, (tt, (tt, (tt, (tt, (tt, (tt, (tt, (tt, ((kept, tt), (tt, (tt, (tt, tt)))))))))))));
  given = (tt, (tt, ((free_if refused_race.book _ refl refl refl, tt), (tt, (tt, ((free_if refused_race.book _ refl refl refl, tt), (tt, (tt, (tt, (tt, (tt, (tt, (tt, tt)))))))))))));
  slots = (tt, (tt, (tt, (tt, (tt, (tt, (tt, (tt, (tt, (tt, (tt, (tt, ((used, tt), tt)))))))))))));
  counted = λ h. absurd h.0;
  dumps = (refl, (refl, (refl, (refl, (refl, (refl, (refl, (refl, (refl, (refl, (refl, (refl, (refl, tt)))))))))))));
  items = items;
  shares = shares;
  cut = refl;
}
