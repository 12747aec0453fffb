use Rattle.std.proofs.Common.{◌≡◌, ◌≤◌, ◌+◌, ℕ, arith, subst, refl, sym, ap, ◌∙◌}
use Rattle.tickets.specs.declared.view.TicketView.{TicketView}
use Rattle.race_run.specs.Workers.{IsFirst}
use Rattle.turn_table.specs.Passes as words
use Rattle.race_run.proofs.Dealing.{dealt}
use Rattle.race_run.proofs.jobs.deal.Goals as goal

pub loop-number-preserved : goal.loop-number-preserved
loop-number-preserved c =
    let i = c.loop-number.invariant in
    let splits = i.first.splits in
    let p = c.split-in-loop-number.ensures in
    let one : words.splits c.loop-number.first.turns + 1 ≡ c.loop-number.number + 1 = omega (arith, splits) in
    record {
      first = subst (λ (k : ℕ). IsFirst c.args.tables.now k c.split.new.first) one c.split.ensures.first;
      draws = record {
        table = p.table.0;
        still = subst (λ (v : TicketView). v.seen ≤ v.limit) (sym p.old) i.draws.still;
        parts = omega (arith, ap (λ (v : TicketView). v.parts) p.old, i.draws.parts, c.loop-number-test.true, c.requires.count);
        drawn = ap (λ (v : TicketView). v.drawn) p.old ∙ i.draws.drawn;
      };
      ready = dealt c.args.tables.now c.args.tickets.now c.loop-number.jobs.items c.push_reserved.new.self.items _ c.loop-number.number (words.splits c.loop-number.first.turns + 1) i.ready (omega (arith, i.len, c.loop-number.jobs.ok.0)) c.split.ensures.fresh one
          (record {
            table = p.table.1;
            still = subst (λ (v : TicketView). v.seen ≤ v.limit) (sym p.new) i.draws.still;
            part = ap (λ (v : TicketView). v.parts) p.new;
            drawn = ap (λ (v : TicketView). v.drawn) p.new;
          })
          refl
          c.new.ensures.items c.new-in-loop-number.ensures.items c.new-in-loop-number-2.ensures.items c.push_reserved.ensures.items;
      len = omega (arith, c.push_reserved.ensures.len, i.len);
      room = omega (arith, c.push_reserved.ensures.capacity, i.room);
    }
