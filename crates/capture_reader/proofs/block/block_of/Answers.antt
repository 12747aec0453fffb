use Rattle.std.proofs.Common.{◌≡◌, ap, sym, ◌∙◌, arith}
use Rattle.capture_reader.specs.declared.number.Order.{Order}
use Rattle.capture_reader.specs.declared.block.Block.{Block}
use Rattle.capture_reader.specs.declared.block.Block.TheVariants as blocks
use Rattle.capture_reader.specs.Numbers.{number}
use Rattle.capture_reader.specs.Blocks.{IsBlock}
use Rattle.capture_reader.proofs.block.block_of.Goals as goal

pub returns-in_err-link-in-6-clause-none : goal.returns-in_err-link-in-6-clause-none
returns-in_err-link-in-6-clause-none c = rw c.from_residual-in_err-link-in-6.ensures (λ found.
    let read : number c.args.section.now.order 4 0 c.args.block.now ≡ 6 =
    sym (ap (λ (o : Order). number o 4 0 c.args.block.now) c.order.ensures) ∙ sym c.u32_at.ensures ∙ c.in-6.is in
    elim found as (λ (b : Block). IsBlock c.args.dev c.args.net c.args.section.now c.args.block.now b → ⊥) [
      | blocks.Section o ↦ λ h. c.requires.no_section h.kind
      | blocks.Interface l ↦ λ h. omega (arith, read, h.kind)
      | blocks.Packet i ↦ λ h. c.in_err-link-in-6.ensures.none h.0 h.1 h.2
      | blocks.Other ↦ λ h. h.no_packet read
    ])
