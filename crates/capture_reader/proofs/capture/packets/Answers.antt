use Rattle.std.proofs.Common.{◌≡◌, ℕ, List, [], ◌==◌, length, inl, inr, refl, ap, ◌∙◌, subst, arith}
use Rattle.std.proofs.lemmas.List.{take_rest}
use Rattle.capture_reader.specs.Grammar.{AreRecords}
use Rattle.capture_reader.proofs.Captures.{one_capture}
use Rattle.capture_reader.proofs.capture.packets.Goals as goal

pub returns-in-Some-clause-capture : goal.returns-in-Some-clause-capture
returns-in-Some-clause-capture c =
    let header = c.in-Some.header in
    let capture = c.in_ok-read_records.field-0 in
    let records = subst (λ (rest : List ℕ). AreRecords header c.args.dev c.args.net rest capture.items capture.cut) (take_rest c.args.bytes.now 24) c.in_ok-read_records.ensures in
    inr (inl (header, c.in-Some.ensures.some, records))

pub returns-in-Some-clause-only : goal.returns-in-Some-clause-only
returns-in-Some-clause-only c other h =
    one_capture c.args.dev c.args.net c.args.bytes.now c.in_ok-read_records.field-0 other (λ i. omega (arith, c.type_inv.bytes i)) (returns-in-Some-clause-capture c) h

pub returns-in_default-next_section-clause-bad_head : goal.returns-in_default-next_section-clause-bad_head
returns-in_default-next_section-clause-bad_head c =
    let some : c.args.bytes.now ≡ [] → ⊥ = (λ e. let empty = c.is_empty.ensures ∙ ap (λ (xs : List ℕ). length xs == 0) e in let not_empty = c.if-is_empty.false in cc) in
    (λ e. (some, λ h. elim h [ inl k ↦ c.in_default.ensures.none k.0 k.1 | inr k ↦ c.in_default-next_section.ensures.none k.0 k.1 k.2 ]), λ h. refl)

pub returns-clause-capture : goal.returns-clause-capture
returns-clause-capture c =
    let found = c.in-Some-next_section in
    let blocks = c.in_ok-read_blocks.ensures in
    inr (inr (found.order, found.rest.now, blocks.0, found.ensures.some, blocks.1, blocks.2))

pub returns-clause-only : goal.returns-clause-only
returns-clause-only c other h =
    one_capture c.args.dev c.args.net c.args.bytes.now c.in_ok-read_blocks.field-0 other (λ i. omega (arith, c.type_inv.bytes i)) (returns-clause-capture c) h
