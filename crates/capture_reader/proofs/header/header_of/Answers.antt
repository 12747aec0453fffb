use Rattle.std.proofs.Common.{arith, ◌∙◌}
use Rattle.capture_reader.proofs.Heads.{head_in}
use Rattle.capture_reader.proofs.header.header_of.Goals as goal
use Rattle.capture_reader.proofs.header.header_of.Goals.{then-u16_at-ne2-via-then-u16_at-ne2, then-u16_at-ne2-via-else-u16_at-ne2+then-u16_at-ne4}

pub returns-then-u16_at-ne2-clause-none : goal.returns-then-u16_at-ne2-clause-none
returns-then-u16_at-ne2-clause-none c = λ header h.
    let head = head_in c.args.bytes.now c.in_ok-order.order header h (λ i. omega (arith, c.type_inv.bytes i)) c.in_ok-order.ensures.some in
    elim c.then-u16_at-ne2.branch [
      | then-u16_at-ne2-via-then-u16_at-ne2 w ↦ omega (arith, head.major)
      | then-u16_at-ne2-via-else-u16_at-ne2+then-u16_at-ne4 w ↦ omega (arith, head.minor)
    ]

pub returns-in_err-link-clause-none : goal.returns-in_err-link-clause-none
returns-in_err-link-clause-none c = rw c.from_residual-in_err-link.ensures (λ header h.
    let head = head_in c.args.bytes.now c.in_ok-order.order header h (λ i. omega (arith, c.type_inv.bytes i)) c.in_ok-order.ensures.some in
    c.in_err-link.ensures header.link (c.u32_at.ensures ∙ head.link))
