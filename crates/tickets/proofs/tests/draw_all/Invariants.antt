use Rattle.std.proofs.Common.{◌≡◌, ◌-◌}
use Rattle.tickets.specs.Draws.{Ascend}
use Rattle.tickets.specs.Passes.{IsPassOf, IsOpen, tickets, parts, drawn, seen}
use Rattle.tickets.proofs.tests.draw_all.Given as goal

abbrev pub invariant-loop-number : goal.invariant-loop-number
invariant-loop-number l = record {
  table : IsPassOf l.tickets l.pass;
  still : IsOpen l.pass;
  parts : parts l.pass ≡ parts l.initial.pass;
  drawn : drawn l.pass ≡ l.numbers.items;
  rising : Ascend l.numbers.items;
}

abbrev pub decreases-loop-number : goal.decreases-loop-number
decreases-loop-number l = tickets l.tickets - seen l.pass
