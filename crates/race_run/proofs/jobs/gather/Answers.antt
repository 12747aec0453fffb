use Rattle.std.proofs.Common.{◌≡◌, ◌+◌, ℕ, length, arith, vec_len, refl, ap, ◌∙◌}
use Rattle.bind_buckets.specs.Turned.{View}
use Rattle.table_rule.specs.declared.view.View.{View as ChainView}
use Rattle.tickets.specs.Passes as draw
use Rattle.tickets.specs.declared.view.TicketView.{TicketView}
use Rattle.race_run.specs.Workers.{part_of}
use Rattle.race_run.proofs.Taking.{over, still_before, outcomes, more, one_more, missed_more, drawn_more, drawn_all}
use Rattle.race_run.proofs.jobs.gather.Goals as goal

pub join-requires-clause-other : goal.join-requires-clause-other
join-requires-clause-other c =
    let i = c.loop-result.invariant in
    let job = c.in_ok-worker.field-0 in
    let n : ℕ = length c.pop.new.self.items in
    let less : vec_len c.loop-result.left ≡ n + 1 = omega (arith, c.in-Some.ensures.cases, c.pop.new.self.ok.0) in
    (over c.args.done.items c.loop-result.left.items c.pop.new.self.items c.in-Some.result n (vec_len c.loop-result.left) i.few less i.before c.in-Some.ensures.items refl job c.in_ok-worker.was c.args.tables.now c.args.tickets.now c.requires.done).rest

pub join-requires-in-Some : goal.join-requires-in-Some
join-requires-in-Some c =
    let i = c.loop-result.invariant in
    let job = c.in_ok-worker.field-0 in
    let n : ℕ = length c.pop.new.self.items in
    let less : vec_len c.loop-result.left ≡ n + 1 = omega (arith, c.in-Some.ensures.cases, c.pop.new.self.ok.0) in
    let o = over c.args.done.items c.loop-result.left.items c.pop.new.self.items c.in-Some.result n (vec_len c.loop-result.left) i.few less i.before c.in-Some.ensures.items refl job c.in_ok-worker.was c.args.tables.now c.args.tickets.now c.requires.done in
    record { table = (i.table, o.draws.table) }

pub returns-clause-draws : goal.returns-clause-draws
returns-clause-draws c =
    let i = c.loop-result.invariant in
    drawn_all c.args.tickets.now c.args.done.items c.loop-result.given.items c.backwards.result.items (vec_len c.loop-result.left) c.loop-result.draws i.table i.draw_parts (omega (arith, c.in_default.ensures.cases)) i.drawn i.missed c.backwards.ensures

pub loop-result-preserved : goal.loop-result-preserved
loop-result-preserved c =
    let i = c.loop-result.invariant in
    let job = c.in_ok-worker.field-0 in
    let n : ℕ = vec_len c.pop.new.self in
    let k : ℕ = vec_len c.loop-result.left in
    let len : length c.pop.new.self.items ≡ n = omega (arith, c.pop.new.self.ok.0) in
    let less : k ≡ n + 1 = omega (arith, c.in-Some.ensures.cases) in
    let turns = c.in_ok-join.ensures.turns in
    let chain = c.in_ok-join.ensures.chain in
    let o = over c.args.done.items c.loop-result.left.items c.pop.new.self.items c.in-Some.result n k i.few less i.before c.in-Some.ensures.items len job c.in_ok-worker.was c.args.tables.now c.args.tickets.now c.requires.done in
    record {
      rest = c.in_ok-join.ensures.rest;
      turn_parts = omega (arith, ap (λ (v : View). v.parts) turns, i.turn_parts, o.turn_part, less);
      chain_parts = omega (arith, ap (λ (x : ChainView). x.slot.parts) chain, i.chain_parts, o.chain_part, less);
      table = c.join-in-Some.ensures.table;
      draw_parts = omega (arith, ap (λ (v : TicketView). v.parts) c.join-in-Some.ensures.view, i.draw_parts, o.draws.part, less);
      drawn = ap (λ (v : TicketView). v.drawn) c.join-in-Some.ensures.view ∙ drawn_more c.loop-result.given.items c.push.new.self.items job (draw.drawn c.loop-result.draws) (draw.drawn job.draws) i.drawn c.in_ok-push.ensures.items o.draws.drawn;
      missed = missed_more c.args.done.items c.loop-result.left.items c.pop.new.self.items c.in-Some.result n k i.few less i.before c.in-Some.ensures.items len job c.in_ok-worker.was c.loop-result.draws c.join-in-Some.new.self c.join-in-Some.ensures.view i.missed;
      few = omega (arith, less, i.few);
      before = still_before c.args.done.items c.loop-result.left.items c.pop.new.self.items c.in-Some.result n k i.few less i.before c.in-Some.ensures.items len c.in-Some.ensures.rest;
      joined = λ other. more c.args.done.items c.loop-result.left.items c.pop.new.self.items c.in-Some.result n k i.few less i.before c.in-Some.ensures.items len job c.in_ok-worker.was other
          (part_of c.loop-result.first) (part_of c.join.new.self) (part_of job.worker) refl turns chain (i.joined other);
      counted = let more = one_more c.loop-result.given.items c.push.new.self.items (record { replies = job.replies; listings = job.listings; told = job.told }) c.in_ok-push.ensures.items in omega (arith, more, i.counted, less, len);
      outcomes = outcomes c.args.done.items c.loop-result.left.items c.pop.new.self.items c.in-Some.result n k i.few less i.before c.in-Some.ensures.items len job c.in_ok-worker.was c.loop-result.given.items c.push.new.self.items i.outcomes c.in_ok-push.ensures.items;
    }
