use Rattle.std.proofs.Common.{rules, ◌∙◌}
use Rattle.race_run.specs.Looking.{MayLook}
use Rattle.table_rule.specs.Calls.{me}
use Rattle.race_run.proofs.Sharing.{may_look, looked_of}
use Rattle.race_run.proofs.share.look_share.Goals as goal

pub look_drawn-requires-clause-looks : goal.look_drawn-requires-clause-looks
look_drawn-requires-clause-looks g c =
    let it : MayLook c.args.tables.now.chains c.args.worker.now.chain = may_look c.requires.tables.0 c.args.tables.now c.requires.tables.2 c.args.worker.now c.requires.tables.3 in
    search rules

pub returns : goal.returns
returns g c =
    let fresh = c.requires.tables.3 in
    let e = c.in_ok-told.ensures in
    record {
      rest = record { turns = fresh.rest.turns; free = fresh.rest.free; rests = e.looks.rests; nothing = e.looks.nothing; groups = record { many = fresh.rest.groups.many; passes = e.groups } };
      turn_part = fresh.turn_part;
      chain_part = e.part ∙ fresh.chain_part;
      draws = e.draws;
      missed = e.missed;
      looked = λ other tables. looked_of c.requires.tables.0 c.args.tables.now c.requires.tables.2 c.args.worker.now fresh other tables c.args.passes c.args.items.now (me c.look_drawn.new.pass.pass.steps) c.in_ok-told.told.items e.takes;
    }
