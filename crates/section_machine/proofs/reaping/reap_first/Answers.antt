use Rattle.std.proofs.Common.{ℕ, refl, sym, subst}
use Rattle.section_machine.proofs.Published.{goes_listed}
use Rattle.section_machine.proofs.Reaps.{Reaping, begins, enters_one, draws_one, goes_on, stops, stopped}
use Rattle.section_machine.proofs.ReapsMost.{first_all, first_more, one_more}
use Rattle.section_machine.proofs.reaping.reap_first.Goals as goal

pub returns-in-Err-clause-drawn : goal.returns-in-Err-clause-drawn
returns-in-Err-clause-drawn g c =
    (stops c.args.tables.now c.args.worker.now c.loop-waiting.worker c.reap_one.new.worker c.args.items.now.items c.loop-waiting.items.items c.args.moment c.loop-waiting.count
    c.loop-waiting.invariant.reaping c.reap_one.ensures.ready c.reap_one.ensures.caller c.in-Err.ensures.none c.in-Err.ensures.side c.reap_one.ensures.listed).drawn

pub returns-in-Err-clause-listed : goal.returns-in-Err-clause-listed
returns-in-Err-clause-listed g c =
    goes_listed c.args.tables.now c.args.worker.now c.loop-waiting.worker c.reap_one.new.worker c.loop-waiting.invariant.reaping.listed c.reap_one.ensures.listed

pub loop-waiting-init : goal.loop-waiting-init
loop-waiting-init g c =
    record {
      reaping = begins c.args.tables.now c.args.worker.now c.args.items.now.items c.args.moment c.requires.ready c.requires.order c.requires.before;
      bound = refl;
    }

pub reap_one-requires-clause-enters : goal.reap_one-requires-clause-enters
reap_one-requires-clause-enters g c =
    enters_one c.args.tables.now c.args.worker.now c.loop-waiting.worker c.args.items.now.items c.loop-waiting.items.items c.args.moment c.loop-waiting.count c.in-Some.waiting.now
    c.loop-waiting.invariant.reaping (sym c.in-Some.ensures) c.requires.enters

pub reap_one-requires-clause-draws : goal.reap_one-requires-clause-draws
reap_one-requires-clause-draws g c =
    draws_one c.args.tables.now c.args.worker.now c.loop-waiting.worker c.args.items.now.items c.loop-waiting.items.items c.args.moment c.loop-waiting.count c.in-Some.waiting.now
    c.loop-waiting.invariant.reaping (sym c.in-Some.ensures) c.requires.draws

pub loop-waiting-preserved : goal.loop-waiting-preserved
loop-waiting-preserved g c =
    one_more c.args.tables.now c.args.worker.now c.loop-waiting.worker c.reap_one.new.worker c.args.items.now.items c.loop-waiting.items.items c.pop_front-reaped.new.self.items c.args.moment c.loop-waiting.count c.counted-count.result c.args.most c.loop-waiting.left c.in-Some.waiting.now
    c.loop-waiting.invariant c.if-left-eq0.false (sym c.in-Some.ensures) c.pop_front-reaped.ensures.rest
    (subst (λ (n : ℕ). Reaping c.args.tables.now c.args.worker.now c.reap_one.new.worker c.args.items.now.items c.pop_front-reaped.new.self.items c.args.moment n) (sym c.counted-count.ensures)
    (goes_on c.args.tables.now c.args.worker.now c.loop-waiting.worker c.reap_one.new.worker c.args.items.now.items c.loop-waiting.items.items c.pop_front-reaped.new.self.items c.args.moment c.loop-waiting.count c.in-Some.waiting.now c.in-Ok.found
    c.loop-waiting.invariant.reaping (sym c.in-Some.ensures) c.pop_front-reaped.ensures.rest c.reap_one.ensures.ready c.reap_one.ensures.caller c.reap_one.ensures.entered c.reap_one.ensures.drawn c.in-Ok.ensures.reaps c.reap_one.ensures.listed))

pub returns-clause-reaps : goal.returns-clause-reaps
returns-clause-reaps g c =
    first_all c.args.tables.now c.args.worker.now c.loop-waiting.worker c.args.items.now.items c.loop-waiting.items.items c.args.moment c.loop-waiting.count c.args.most c.loop-waiting.left c.loop-waiting.invariant (sym c.in_default.ensures)

pub returns-then-left-eq0-clause-reaps : goal.returns-then-left-eq0-clause-reaps
returns-then-left-eq0-clause-reaps g c =
    first_more c.args.tables.now c.args.worker.now c.loop-waiting.worker c.args.items.now.items c.loop-waiting.items.items c.args.moment c.loop-waiting.count c.args.most c.loop-waiting.left c.in-Some.waiting.now c.loop-waiting.invariant c.if-left-eq0.true (sym c.in-Some.ensures)

pub returns-in-Err-clause-stops : goal.returns-in-Err-clause-stops
returns-in-Err-clause-stops g c =
    stopped c.args.tables.now c.args.worker.now c.reap_one.new.worker c.args.items.now.items c.loop-waiting.items.items c.args.moment c.loop-waiting.count c.in-Some.waiting.now
    (stops c.args.tables.now c.args.worker.now c.loop-waiting.worker c.reap_one.new.worker c.args.items.now.items c.loop-waiting.items.items c.args.moment c.loop-waiting.count
    c.loop-waiting.invariant.reaping c.reap_one.ensures.ready c.reap_one.ensures.caller c.in-Err.ensures.none c.in-Err.ensures.side c.reap_one.ensures.listed) (sym c.in-Some.ensures)
