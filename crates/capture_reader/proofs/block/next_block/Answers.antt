use Rattle.std.proofs.Common.{refl, ◌∙◌, arith}
use Rattle.capture_reader.specs.declared.number.Order.TheVariants as orders
use Rattle.capture_reader.proofs.Wholes.{number_in}
use Rattle.capture_reader.proofs.Blocks.{none_whole, none_valid, none_of_type}
use Rattle.capture_reader.proofs.block.next_block.Goals as goal

pub returns-in_err-whole-clause-none : goal.returns-in_err-whole-clause-none
returns-in_err-whole-clause-none c = rw c.from_residual.ensures
    (none_whole c.args.dev c.args.net c.args.section.now c.args.bytes.now c.in_default.ensures.none (λ whole rest parts is.
    c.in_err-whole.ensures.none whole rest parts (rw c.order.ensures is)))

pub returns-then-is_section-clause-none : goal.returns-then-is_section-clause-none
returns-then-is_section-clause-none c =
    let found = c.in_ok-whole.ensures.some in
    let kind = number_in orders.Big 4 0 c.args.bytes.now c.in_ok-whole.whole.now c.in_ok-whole.rest.now found.0 (omega (arith, found.1.least)) in
    none_of_type c.args.dev c.args.net c.args.section.now c.args.bytes.now c.in_default.ensures.none (λ i. omega (arith, c.type_inv.bytes i)) (kind ∙ c.if-is_section.ensures.0 refl)

pub returns-in_err-block_of-clause-none : goal.returns-in_err-block_of-clause-none
returns-in_err-block_of-clause-none c = rw c.from_residual-in_err-block_of.ensures
    (let found = c.in_ok-whole.ensures.some in
    none_valid c.args.dev c.args.net c.args.section.now c.args.bytes.now c.in_default.ensures.none c.in_ok-whole.whole.now c.in_ok-whole.rest.now found.0 (rw (← c.order.ensures) found.1) c.in_err-block_of.ensures.none)
