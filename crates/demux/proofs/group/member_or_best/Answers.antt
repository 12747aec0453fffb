use Rattle.std.proofs.Common.{◌∙◌, sym, refl, inl, inr, arith}
use Rattle.demux.proofs.Sights.{was_taken}
use Rattle.demux.proofs.group.member_or_best.Goals.{else-card-name_of-via-then-card-name_of+else-rank_of, else-card-name_of-via-else-card-name_of}
use Rattle.demux.proofs.group.member_or_best.Goals as goal
use Rattle.table_rule.specs.Calls.{me, layout_of}

pub returns-then-rank_of-clause-chosen : goal.returns-then-rank_of-clause-chosen
returns-then-rank_of-clause-chosen g c = was_taken (layout_of c.args.chains.now).shape.slots c.args.packet.now (me c.args.steps.now) (me c.sight.new.steps) c.args.best.now c.in-Some.card c.in-Some.card c.args.member c.slot_of-slot.result
    c.slot_of-slot.ensures (omega (arith, c.if-slot-slot_count.false, c.slot_count.ensures)) c.in-Some.ensures.some c.in-Some.ensures.stands
    (inl ((c.if-card-name_of.true ∙ c.name_of.ensures, sym c.rank_of.ensures ∙ (c.if-rank_of.true ∙ c.rank_of-then-card-name_of.ensures)), refl))

pub returns-else-card-name_of-clause-chosen : goal.returns-else-card-name_of-clause-chosen
returns-else-card-name_of-clause-chosen g c = was_taken (layout_of c.args.chains.now).shape.slots c.args.packet.now (me c.args.steps.now) (me c.sight.new.steps) c.args.best.now c.args.best.now c.in-Some.card c.args.member c.slot_of-slot.result
    c.slot_of-slot.ensures (omega (arith, c.if-slot-slot_count.false, c.slot_count.ensures)) c.in-Some.ensures.some c.in-Some.ensures.stands
    (inr (
      λ l. elim c.else-card-name_of.branch [
        | else-card-name_of-via-then-card-name_of+else-rank_of w ↦ w.if-rank_of.false (w.rank_of.ensures ∙ (l.1 ∙ sym w.rank_of-then-card-name_of.ensures))
        | else-card-name_of-via-else-card-name_of w ↦ w.if-card-name_of.false (l.0 ∙ sym c.name_of.ensures)
      ],
      refl,
    ))
