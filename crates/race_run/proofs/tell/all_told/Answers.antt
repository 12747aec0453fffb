use Rattle.std.proofs.Common.{replicate, arith}
use Rattle.std.proofs.lemmas.List.{length-replicate}
use Rattle.race_record.specs.declared.record.Looked.TheVariants as looks
use Rattle.race_run.proofs.Placing.{all_put, all_told, put_more, told_inside}
use Rattle.race_run.proofs.tell.all_told.Goals as goal

pub put_told-requires : goal.put_told-requires
put_told-requires c = told_inside c.args.outcomes.now c.args.count c.requires.once c.loop-outcome.outcome-index c.outcome-item.result c.deref.result.now (replicate c.args.count looks.Skip) c.loop-outcome.looked.items c.deref_mut.result.now
    c.loop-outcome.looked.items c.loop-outcome.looked.len (length-replicate c.args.count looks.Skip) c.loop-outcome-test.true c.outcome-item.is c.deref.ensures.value c.deref_mut.ensures.value c.loop-outcome.invariant

pub loop-outcome-preserved : goal.loop-outcome-preserved
loop-outcome-preserved c = put_more c.args.outcomes.now c.args.count c.requires.once c.loop-outcome.outcome-index c.outcome-item.result c.deref.result.now (replicate c.args.count looks.Skip) c.loop-outcome.looked.items c.deref_mut.result.now
    c.put_told.new.looked c.loop-outcome.looked.len (length-replicate c.args.count looks.Skip) c.loop-outcome-test.true c.outcome-item.is c.deref.ensures.value c.deref_mut.ensures.value c.loop-outcome.invariant c.put_told.ensures c.loop-outcome.looked.ok.0

pub returns-clause-count : goal.returns-clause-count
returns-clause-count c = all_put c.args.outcomes.now c.args.count c.requires.once c.loop-outcome.outcome-index (omega (arith, c.loop-outcome-test.false)) (replicate c.args.count looks.Skip) c.loop-outcome.looked.items (length-replicate c.args.count looks.Skip) c.loop-outcome.invariant

pub returns-clause-told : goal.returns-clause-told
returns-clause-told c = all_told c.args.outcomes.now c.args.count c.requires.once c.loop-outcome.outcome-index (omega (arith, c.loop-outcome-test.false)) (replicate c.args.count looks.Skip) c.loop-outcome.looked.items (length-replicate c.args.count looks.Skip) c.loop-outcome.invariant
