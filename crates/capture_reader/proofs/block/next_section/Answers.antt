use Rattle.std.proofs.Common.{ℕ, List, refl, sym, ◌∙◌, subst, arith}
use Rattle.capture_reader.specs.declared.number.Order.{Order}
use Rattle.capture_reader.specs.declared.number.Order.TheVariants as orders
use Rattle.capture_reader.specs.Header.{IsSectionBlock}
use Rattle.capture_reader.proofs.Wholes.{number_in, one_whole}
use Rattle.capture_reader.proofs.Sections.{front, section_in}
use Rattle.capture_reader.proofs.block.next_section.Goals as goal
use Rattle.capture_reader.proofs.block.next_section.Goals.{then-bytes-lt-BLOCK-via-then-bytes-lt-BLOCK, then-bytes-lt-BLOCK-via-else-bytes-lt-BLOCK+then-not-is_section, then-block-lt-SECTION-via-then-block-lt-SECTION, then-block-lt-SECTION-via-else-block-lt-SECTION+then-u16_at-ne1}

pub returns-then-bytes-lt-BLOCK-clause-none : goal.returns-then-bytes-lt-BLOCK-clause-none
returns-then-bytes-lt-BLOCK-clause-none c = λ order rest h.
    let first = front c.args.bytes.now order rest h in
    elim c.then-bytes-lt-BLOCK.branch [
      | then-bytes-lt-BLOCK-via-then-bytes-lt-BLOCK w ↦ omega (arith, first.least)
      | then-bytes-lt-BLOCK-via-else-bytes-lt-BLOCK+then-not-is_section w ↦ (let off = w.if-not-is_section.ensures.1 first.kind in cc)
    ]

pub returns-in_err-order-clause-none : goal.returns-in_err-order-clause-none
returns-in_err-order-clause-none c = rw c.from_residual.ensures (λ order rest h.
    c.in_err-order.ensures.none order (front c.args.bytes.now order rest h).mark)

pub returns-in_err-block-clause-none : goal.returns-in_err-block-clause-none
returns-in_err-block-clause-none c = rw c.from_residual-in_err-block.ensures (λ order rest h.
    let again = section_in c.args.bytes.now c.in_ok-order.order order rest (λ i. omega (arith, c.type_inv.bytes i)) c.in_ok-order.ensures.some h in
    c.in_err-block.ensures.none again.0 rest again.1 again.2.whole)

pub returns-then-block-lt-SECTION-clause-none : goal.returns-then-block-lt-SECTION-clause-none
returns-then-block-lt-SECTION-clause-none c = λ order rest h.
    let o : Order = c.in_ok-order.order in
    let bytes = c.args.bytes.now in
    let found = c.in_ok-block.ensures.some in
    let again = section_in bytes o order rest (λ i. omega (arith, c.type_inv.bytes i)) c.in_ok-order.ensures.some h in
    let same = one_whole o bytes again.0 rest c.in_ok-block.block.now c.in_ok-block.rest.now again.1 again.2.whole found.0 found.1 in
    let here : IsSectionBlock o c.in_ok-block.block.now = subst (λ (b : List ℕ). IsSectionBlock o b) same.0 again.2 in
    elim c.then-block-lt-SECTION.branch [
      | then-block-lt-SECTION-via-then-block-lt-SECTION w ↦ omega (arith, here.least)
      | then-block-lt-SECTION-via-else-block-lt-SECTION+then-u16_at-ne1 w ↦ w.if-u16_at-ne1.true (w.u16_at.ensures ∙ here.major)
    ]

pub returns-clause-some : goal.returns-clause-some
returns-clause-some c =
    let o : Order = c.in_ok-order.order in
    let bytes = c.args.bytes.now in
    let block = c.in_ok-block.block.now in
    let rest = c.in_ok-block.rest.now in
    let found = c.in_ok-block.ensures.some in (
      block,
      found.0,
      record {
        whole = found.1;
        least = omega arith;
        kind = sym (number_in orders.Big 4 0 bytes block rest found.0 (omega (arith, found.1.least))) ∙ c.if-not-is_section.ensures.0 refl;
        mark = sym (number_in o 4 8 bytes block rest found.0 (omega (arith, found.1.least))) ∙ c.in_ok-order.ensures.some;
        major = sym c.u16_at.ensures ∙ c.if-u16_at-ne1.false;
      },
    )
