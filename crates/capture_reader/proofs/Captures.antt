-- Which texts are captures, and of how much.
use Rattle.std.proofs.Common.{◌≡◌, ℕ, List, [], false, refl, ap, sym, ◌∙◌, subst, arith, inl, inr, length, drop}
use Rattle.capture_reader.specs.declared.number.Order.{Order}
use Rattle.capture_reader.specs.declared.header.Header.{Header}
use Rattle.capture_reader.specs.Numbers.{AreBytes}
use Rattle.capture_reader.specs.Header.{BeginsWithHeader, BeginsWithSection}
use Rattle.capture_reader.specs.Sections.{begun}
use Rattle.capture_reader.specs.Blocks.{AreBlocks, items_of}
use Rattle.capture_reader.specs.Captures.{Capture}
use Rattle.capture_reader.specs.Grammar.{AreRecords, IsOfRecords, IsOfBlocks, IsOneCapture, TakesEach, TakesNoOther}
use Rattle.capture_reader.proofs.Heads.{one_header}
use Rattle.capture_reader.proofs.Sections.{front, no_magic, one_section}
use Rattle.capture_reader.proofs.Records.{one_reading, same_capture, some_records}
use Rattle.capture_reader.proofs.Wholes.{fits_rest}
use Rattle.capture_reader.proofs.Blocks.{some_blocks}
use Rattle.capture_reader.proofs.Blocks as blocks

-- no header stands in no bytes
no_header : (bytes : List ℕ) (header : Header) → bytes ≡ [] → BeginsWithHeader bytes header → ⊥
no_header bytes header e h = omega (arith, h.whole, ap length e)

-- nor a section
no_section : (bytes : List ℕ) (order : Order) (rest : List ℕ) → bytes ≡ [] → BeginsWithSection bytes order rest → ⊥
no_section bytes order rest e h = omega (arith, (front bytes order rest h).least, ap length e)

-- no bytes begin with both
pub not_both : (bytes : List ℕ) (header : Header) (order : Order) (rest : List ℕ) → AreBytes bytes → BeginsWithHeader bytes header → BeginsWithSection bytes order rest → ⊥
not_both bytes header order rest fits h k = no_magic bytes header.order fits (front bytes order rest k).kind h.magic

module _ (dev net : ℕ) (bytes : List ℕ) where
  -- a text is one capture of records at most
  one_of_records : (a b : Capture) → AreBytes bytes → IsOfRecords dev net bytes a → IsOfRecords dev net bytes b → a ≡ b
  one_of_records a b fits h k =
      let head : k.0 ≡ h.0 = one_header bytes k.0 h.0 fits k.1 h.1 in
      let again = subst (λ (header : Header). AreRecords header dev net (drop 24 bytes) b.items b.cut) head k.2 in
      let same = one_reading h.0 dev net (drop 24 bytes) a.items b.items a.cut b.cut h.2 again in
      same_capture a b same.0 same.1

  -- a text is one capture of blocks at most
  one_of_blocks : (a b : Capture) → AreBytes bytes → IsOfBlocks dev net bytes a → IsOfBlocks dev net bytes b → a ≡ b
  one_of_blocks a b fits h k =
      let same = one_section bytes k.0 h.0 k.1 h.1 fits k.3 h.3 in
      let moved = subst (λ (o : Order). AreBlocks dev net (begun o) k.1 k.2 b.cut) same.0 k.4 in
      let again = subst (λ (rest : List ℕ). AreBlocks dev net (begun h.0) rest k.2 b.cut) same.1 moved in
      let one = blocks.one_reading dev net (begun h.0) h.1 h.2 k.2 a.cut b.cut (fits_rest bytes h.3.0 h.1 h.3.1 fits) h.4 again in
      same_capture a b (h.5 ∙ ap items_of one.0 ∙ sym k.5) one.1

-- a text of bytes is one capture at most
pub one_capture : IsOneCapture
one_capture dev net bytes a b fits (inl h) (inl k) = h.1 ∙ sym k.1
one_capture dev net bytes a b fits (inl h) (inr (inl k)) = absurd (no_header bytes k.0 h.0 k.1)
one_capture dev net bytes a b fits (inl h) (inr (inr k)) = absurd (no_section bytes k.0 k.1 h.0 k.3)
one_capture dev net bytes a b fits (inr (inl h)) (inl k) = absurd (no_header bytes h.0 k.0 h.1)
one_capture dev net bytes a b fits (inr (inl h)) (inr (inl k)) = one_of_records dev net bytes a b fits h k
one_capture dev net bytes a b fits (inr (inl h)) (inr (inr k)) = absurd (not_both bytes h.0 k.0 k.1 fits h.1 k.3)
one_capture dev net bytes a b fits (inr (inr h)) (inl k) = absurd (no_section bytes h.0 h.1 k.0 h.3)
one_capture dev net bytes a b fits (inr (inr h)) (inr (inl k)) = absurd (not_both bytes k.0 h.0 h.1 fits k.1 h.3)
one_capture dev net bytes a b fits (inr (inr h)) (inr (inr k)) = one_of_blocks dev net bytes a b fits h k

-- each text that may begin a capture is one
pub some_capture : TakesEach
some_capture dev net bytes (inl e) = (record { items = []; cut = false }, inl (e, refl))
some_capture dev net bytes (inr (inl h)) =
    let records = some_records h.0 dev net (drop 24 bytes) in
    (record { items = records.0; cut = records.1.0 }, inr (inl (h.0, h.1, records.1.1)))
some_capture dev net bytes (inr (inr h)) =
    let found = some_blocks dev net (begun h.0) h.1 in
    (record { items = items_of found.0; cut = found.1.0 }, inr (inr (h.0, h.1, found.0, h.2, found.1.1, refl)))

-- no other text is a capture
pub no_other : TakesNoOther
no_other dev net bytes capture some none (inl h) = some h.0
no_other dev net bytes capture some none (inr (inl h)) = none (inl (h.0, h.1))
no_other dev net bytes capture some none (inr (inr h)) = none (inr (h.0, h.1, h.3))
