-- A text has an answer.
use Rattle.std.proofs.Common.{◌≡◌, ℕ, zero, suc, ◌+◌, ◌-◌, ◌^◌, ◌<◌, ◌≤◌, List, [], length, take, count_by, refl, sym, subst, ap, ◌∙◌, arith}
use Rattle.std.specs.Prelude.{IsSomeAnd, IsTrue, slice_get}
use Rattle.std.specs.Global.{Global, Vec}
use Rattle.std.specs.List.{filter_map}
use Rattle.std.proofs.lemmas.List.Sums.{count_by-le-length}
use Rattle.std.proofs.lemmas.List.Splits.{length-slice_split}
use denote.RawPtr.{null_ptr}
use Rattle.book_audit.specs.declared.printed.Printed.{Printed}
use Rattle.book_audit.specs.declared.printed.Why.{Why}
use Rattle.book_audit.specs.declared.printed.Finding.{Finding}
use Rattle.book_audit.specs.declared.printed.Finding.TheVariants as findings
use Rattle.book_audit.specs.Findings.{IsFinding}
use Rattle.book_audit.proofs.Found.{some_finding}
use Rattle.record_reader.specs.declared.line.Line.{Line}
use Rattle.record_reader.specs.declared.line.Name.{Name}
use Rattle.record_reader.specs.declared.audit.Verdict.{Verdict}
use Rattle.record_reader.specs.declared.audit.Verdict.TheVariants as verdicts
use Rattle.record_reader.specs.Words.{is_line_feed, pieces_of}
use Rattle.record_reader.specs.Names.{number_in}
use Rattle.record_reader.specs.Record.{Begins, IsFirstOutside, IsRecord}
use Rattle.record_reader.specs.Steps.{TellsShape}
use Rattle.record_reader.specs.Told.{Tells, names_of, life_in, packet_in, is_vain}
use Rattle.record_reader.specs.Verdicts.{Answers, IsLineOf, IsVerdict, is_tried}
use Rattle.record_reader.specs.Laws.{HasSomeRecord, HasSomeVerdict}
use Rattle.record_reader.proofs.Judged.{Numbered, numbered, told_within, fewer_mapped}
use Rattle.record_reader.proofs.Reading.{one_less, record_size, some_piece}
use Rattle.record_reader.proofs.Shapes.{tells_shape}

one_more : (n : ℕ) → n + 1 ≡ suc n
one_more n = omega arith

module _ (text : List ℕ) (none : (n : ℕ) → IsFirstOutside text n → ⊥) where
  -- it can't be that so many of its lines, and not all, begin never record
  begins : (n : ℕ) → n < length (pieces_of text) → (Begins (take n (pieces_of text)) → ⊥) → ⊥
  begins zero l never = never ([], record { forms = tt; order = tt })
  begins (suc n) l never = begins n (omega (arith, l)) (λ b. none (n + 1) record {
    within = (omega arith, omega (arith, l));
    before = subst (λ k. Begins (take k (pieces_of text))) (sym (one_less n)) b;
    outside = λ h more. never (subst (λ k. Begins (take k (pieces_of text))) (one_more n) more);
    unended = λ e found. omega (arith, e, l);
  })

  is_some_record : ((all : List Line) → IsRecord text all → ⊥) → ⊥
  is_some_record never =
      let least = some_piece text in
      begins (length (pieces_of text) - 1) (omega (arith, least)) (λ b. none (length (pieces_of text)) record {
        within = (least, omega arith);
        before = b;
        outside = λ h more. omega (arith, h);
        unended = λ e found. never found.0 found.1;
      })

pub some_record : HasSomeRecord
some_record = is_some_record

-- a list in memory
in_memory : {X : Type 0} (alloc : Global) (xs : List X) → length xs < 2 ^ 63 → Vec X
in_memory alloc xs few = record { ptr = null_ptr; len = length xs; cap = length xs; alloc = alloc; items = xs; ok = (refl, omega arith); small = few }

items_of : {X : Type 0} (alloc : Global) (xs : List X) (few : length xs < 2 ^ 63) → (in_memory alloc xs few).items ≡ xs
unfolding in_memory
items_of alloc xs few = refl

module _ (alloc : Global) (text : List ℕ) (all : List Line) (small : length text < 2 ^ 63) (is : IsRecord text all) where
  few : length all < 2 ^ 63
  few = omega (arith, small, record_size text all is, length-slice_split is_line_feed text, count_by-le-length is_line_feed text)

  shape : TellsShape all
  shape = tells_shape all is.begins.order (is.clock, is.ends)

  abbrev number : Name → ℕ
  number = number_in (names_of all)

  few_lives : length (filter_map (life_in number) all) < 2 ^ 63
  few_lives = omega (arith, few, fewer_mapped (life_in number) all)

  few_packets : length (filter_map (packet_in number) all) < 2 ^ 63
  few_packets = omega (arith, few, fewer_mapped (packet_in number) all)

  printed : Printed
  printed = record {
    shape = shape.0;
    seed = shape.1;
    lives = in_memory alloc (filter_map (life_in number) all) few_lives;
    packets = in_memory alloc (filter_map (packet_in number) all) few_packets;
    vain = count_by is_vain all;
    clock = is.clock;
  }

  tells : Tells all printed
  unfolding printed
  tells = record {
    shape = shape.2;
    lives = items_of alloc (filter_map (life_in number) all) few_lives;
    packets = items_of alloc (filter_map (packet_in number) all) few_packets;
    vain = refl;
    clock = is.ends;
  }

  line_of : (why : Why) (at : ℕ) (found : Numbered (is_tried why) all at) → IsLineOf why all at (found.at + 1)
  line_of why at found = record {
    within = (omega arith, omega (arith, found.within));
    is = subst (λ k. IsSomeAnd (slice_get all k) (λ line. IsTrue (is_tried why line))) (sym (one_less found.at)) found.is;
    before = ap (λ k. count_by (is_tried why) (take k all)) (one_less found.at) ∙ found.before;
  }

  verdict_of : (p : Printed) → Tells all p → (f : Finding) → IsFinding p f → (v : Verdict) × Answers all p v
  verdict_of p t findings.Sound f = (verdicts.Yes (length p.lives.items) (length p.packets.items) p.clock, (f, refl, refl, refl))
  verdict_of p t (findings.Wrong why at) f =
      let found = numbered (is_tried why) all at (told_within all p why at t f.1) in
      (verdicts.No (found.at + 1) why, (at, f, line_of why at found))

  has_verdict : (v : Verdict) × IsVerdict text v
  has_verdict =
      let f = some_finding printed in
      let v = verdict_of printed tells f.0 f.1 in
      (v.0, record { record_lines = all; printed = printed; reads = record { is = is; told = tells }; answers = v.1 })

pub some_verdict : HasSomeVerdict
some_verdict alloc text all small is = has_verdict alloc text all small is
