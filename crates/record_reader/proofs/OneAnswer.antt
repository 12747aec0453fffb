-- A text has one answer.
use Rattle.std.proofs.Common.{◌≡◌, ℕ, ◌+◌, ◌-◌, ◌*◌, ◌<◌, List, length, Some, sym, ap, subst, ◌∙◌, arith}
use Rattle.list_words.specs.Lists.{Each}
use Rattle.chain_book.specs.declared.shape.Shape.{Shape}
use Rattle.book_audit.specs.declared.printed.PrintedLife.{PrintedLife}
use Rattle.book_audit.specs.declared.printed.PrintedPacket.{PrintedPacket}
use Rattle.book_audit.specs.declared.printed.Printed.{Printed}
use Rattle.book_audit.specs.declared.printed.Why.{Why}
use Rattle.book_audit.specs.declared.printed.Why.TheVariants as whys
use Rattle.book_audit.specs.declared.printed.Finding.{Finding}
use Rattle.book_audit.specs.declared.printed.Finding.TheVariants as findings
use Rattle.book_audit.specs.Book.{book_of}
use Rattle.book_audit.specs.Lines.{AreStamped, AreHoused, NoTwo, overlap, share_slot, are_twins}
use Rattle.book_audit.specs.Looks.{IsLineExplained}
use Rattle.book_audit.specs.Findings.{FailsAt, Fails, Passes, IsFinding}
use Rattle.book_audit.proofs.Verdicts.{one_finding}
use Rattle.record_reader.specs.declared.line.Line.{Line}
use Rattle.record_reader.specs.declared.line.Line.TheVariants as lines
use Rattle.record_reader.specs.declared.audit.Verdict.{Verdict}
use Rattle.record_reader.specs.declared.audit.Verdict.TheVariants as verdicts
use Rattle.record_reader.specs.Words.{pieces_of}
use Rattle.record_reader.specs.Record.{IsFirstOutside}
use Rattle.record_reader.specs.Told.{Tells}
use Rattle.record_reader.specs.Verdicts.{Answers, IsLineOf, is_tried}
use Rattle.record_reader.specs.Laws.{ExcludesRecords, HasOneFirst, HasOneVerdict}
use Rattle.record_reader.proofs.Judged.{counts_before}
use Rattle.record_reader.proofs.Reading.{begins_fewer, one_record, record_size}

pub excludes_records : ExcludesRecords
excludes_records text n all out is =
    let size = record_size text all is in
    let below : n < length (pieces_of text) → ⊥ =
    λ h. out.outside h (begins_fewer n (length all) (pieces_of text) (omega arith) (all, is.begins)) in
    let last : n ≡ length (pieces_of text) → ⊥ = λ h. out.unended h (all, is) in
    omega (arith, out.within.1)

earlier : (text : List ℕ) (m n : ℕ) → IsFirstOutside text m → IsFirstOutside text n → m < n → ⊥
earlier text m n a b h =
    a.outside (omega (arith, b.within.1)) (begins_fewer m (n - 1) (pieces_of text) (omega arith) b.before)

pub one_first : HasOneFirst
one_first text m n a b = omega (arith, earlier text m n a b, earlier text n m b a)

-- two races that say the same to the judge
record Same (p q : Printed) : Type 0 where
  shape : p.shape ≡ q.shape
  seed : p.seed ≡ q.seed
  lives : p.lives.items ≡ q.lives.items
  packets : p.packets.items ≡ q.packets.items
  vain : p.vain ≡ q.vain
  clock : p.clock ≡ q.clock

same_head : (s t : Shape) (m n : ℕ) → Some (lines.Shape s m) ≡ Some (lines.Shape t n) → (s ≡ t) × (m ≡ n)
same_head s t m n e = (cc, cc)

same_clock : (m n : ℕ) → Some (lines.Clock m) ≡ Some (lines.Clock n) → m ≡ n
same_clock m n e = cc

-- the lines of a record describe one race
told_once : (all : List Line) (p q : Printed) → Tells all p → Tells all q → Same p q
told_once all p q a b =
    let head = same_head p.shape q.shape p.seed q.seed (sym a.shape ∙ b.shape) in
    record {
      shape = head.0;
      seed = head.1;
      lives = a.lives ∙ sym b.lives;
      packets = a.packets ∙ sym b.packets;
      vain = a.vain ∙ sym b.vain;
      clock = same_clock p.clock q.clock (sym a.clock ∙ b.clock);
    }

module _ (p q : Printed) (same : Same p q) where
  passes_same : (w : Why) → Passes p w → Passes q w
  passes_same whys.Stamp h =
      subst (λ c. AreStamped c q.lives.items) same.clock (subst (λ (ls : List PrintedLife). AreStamped p.clock ls) same.lives h)
  passes_same whys.Home h =
      subst (λ s. AreHoused s q.seed q.lives.items) same.shape
      (subst (λ n. AreHoused p.shape n q.lives.items) same.seed (subst (λ (ls : List PrintedLife). AreHoused p.shape p.seed ls) same.lives h))
  passes_same whys.Overlap h = subst (NoTwo overlap) same.lives h
  passes_same whys.Slot h = subst (NoTwo share_slot) same.lives h
  passes_same whys.Twin h = subst (NoTwo are_twins) same.lives h
  passes_same whys.Receipt h =
      subst (λ (ps : List PrintedPacket). Each (IsLineExplained q.shape q.seed q.lives.items) ps) same.packets
      (subst (λ s. Each (IsLineExplained s q.seed q.lives.items) p.packets.items) same.shape
      (subst (λ n. Each (IsLineExplained p.shape n q.lives.items) p.packets.items) same.seed
      (subst (λ (ls : List PrintedLife). Each (IsLineExplained p.shape p.seed ls) p.packets.items) same.lives h)))
  passes_same whys.Count h =
      sym same.clock ∙ h ∙ ap (λ (ls : List PrintedLife). 2 * length (book_of ls) + p.vain) same.lives ∙ ap (λ n. 2 * length (book_of q.lives.items) + n) same.vain

module _ (p q : Printed) (same : Same p q) (back : Same q p) where
  fails_same : (w : Why) (at : ℕ) → Fails p w at → Fails q w at
  fails_same whys.Stamp at h =
      subst (λ c. FailsAt (AreStamped c) q.lives.items at) same.clock (subst (λ (ls : List PrintedLife). FailsAt (AreStamped p.clock) ls at) same.lives h)
  fails_same whys.Home at h =
      subst (λ s. FailsAt (AreHoused s q.seed) q.lives.items at) same.shape
      (subst (λ n. FailsAt (AreHoused p.shape n) q.lives.items at) same.seed (subst (λ (ls : List PrintedLife). FailsAt (AreHoused p.shape p.seed) ls at) same.lives h))
  fails_same whys.Overlap at h = subst (λ (ls : List PrintedLife). FailsAt (NoTwo overlap) ls at) same.lives h
  fails_same whys.Slot at h = subst (λ (ls : List PrintedLife). FailsAt (NoTwo share_slot) ls at) same.lives h
  fails_same whys.Twin at h = subst (λ (ls : List PrintedLife). FailsAt (NoTwo are_twins) ls at) same.lives h
  fails_same whys.Receipt at h =
      subst (λ (ps : List PrintedPacket). FailsAt (Each (IsLineExplained q.shape q.seed q.lives.items)) ps at) same.packets
      (subst (λ s. FailsAt (Each (IsLineExplained s q.seed q.lives.items)) p.packets.items at) same.shape
      (subst (λ n. FailsAt (Each (IsLineExplained p.shape n q.lives.items)) p.packets.items at) same.seed
      (subst (λ (ls : List PrintedLife). FailsAt (Each (IsLineExplained p.shape p.seed ls)) p.packets.items at) same.lives h)))
  fails_same whys.Count at h = (h.0, λ c. h.1 (passes_same q p back whys.Count c))

  -- so the judge finds the same
  finding_same : (f : Finding) → IsFinding p f → IsFinding q f
  finding_same findings.Sound h = λ w. passes_same p q same w (h w)
  finding_same (findings.Wrong why at) h = ((λ w l. passes_same p q same w (h.0 w l)), fails_same why at h.1)

not_before : (why : Why) (all : List Line) (at m n : ℕ) → IsLineOf why all at m → IsLineOf why all at n → m < n → ⊥
not_before why all at m n a b h =
    omega (arith, counts_before (is_tried why) all (m - 1) (n - 1) (omega (arith, a.within.0)) a.is, a.before, b.before)

one_line : (why : Why) (all : List Line) (at m n : ℕ) → IsLineOf why all at m → IsLineOf why all at n → m ≡ n
one_line why all at m n a b = omega (arith, not_before why all at m n a b, not_before why all at n m b a)

wrong_parts : (v w : Why) (a b : ℕ) → findings.Wrong v a ≡ findings.Wrong w b → (v ≡ w) × (a ≡ b)
wrong_parts v w a b e = (cc, cc)

module _ (all : List Line) (p q : Printed) (same : Same p q) (back : Same q p) where
  found_once : (f g : Finding) → IsFinding p f → IsFinding q g → f ≡ g
  found_once f g a b = one_finding p f g a (finding_same q p back same g b)

  answered_once : (a b : Verdict) → Answers all p a → Answers all q b → a ≡ b
  answered_once (verdicts.Yes l n c) (verdicts.Yes m o d) h k =
      let el : l ≡ m = h.1 ∙ ap length same.lives ∙ sym k.1 in
      let en : n ≡ o = h.2 ∙ ap length same.packets ∙ sym k.2 in
      let ec : c ≡ d = h.3 ∙ same.clock ∙ sym k.3 in
      λ i. verdicts.Yes (el i) (en i) (ec i)
  answered_once (verdicts.Yes l n c) (verdicts.No m w) h k = let e = found_once findings.Sound (findings.Wrong w k.0) h.0 k.1 in absurd (cc)
  answered_once (verdicts.No l v) (verdicts.Yes m o d) h k = let e = found_once (findings.Wrong v h.0) findings.Sound h.1 k.0 in absurd (cc)
  answered_once (verdicts.No l v) (verdicts.No m w) h k =
      let parts = wrong_parts v w h.0 k.0 (found_once (findings.Wrong v h.0) (findings.Wrong w k.0) h.1 k.1) in
      let line : IsLineOf v all h.0 m =
      subst (λ u. IsLineOf u all h.0 m) (sym parts.0) (subst (λ at. IsLineOf w all at m) (sym parts.1) k.2) in
      let number = one_line v all h.0 l m h.2 line in
      λ i. verdicts.No (number i) (parts.0 i)

pub one_verdict : HasOneVerdict
one_verdict text a b va vb =
    let same_lines = one_record text vb.record_lines va.record_lines vb.reads.is va.reads.is in
    let told = subst (λ (ls : List Line). Tells ls vb.printed) same_lines vb.reads.told in
    let answers = subst (λ (ls : List Line). Answers ls vb.printed b) same_lines vb.answers in
    answered_once va.record_lines va.printed vb.printed
    (told_once va.record_lines va.printed vb.printed va.reads.told told)
    (told_once va.record_lines vb.printed va.printed told va.reads.told) a b va.answers answers
