use Rattle.std.proofs.Common.{refl, ap, subst}
use Rattle.race_book.specs.Explained.{NamesItsBucket}
use Rattle.reuseport_group.specs.Passes as lists
use Rattle.demux.specs.Concludes.{whole_to}
use Rattle.table_rule.specs.Calls.{layout_of, me}
use Rattle.table_rule.specs.Plays.{Sat}
use Rattle.table_rule.specs.declared.view.Layout.{Layout}
use Rattle.race_run.proofs.Holding.{held_then}
use Rattle.race_run.proofs.Looked.{names_bucket}
use Rattle.race_run.proofs.Searching.{went}
use Rattle.race_run.proofs.Staging.{went_in_stages}
use Rattle.race_run.specs.Searches.{WentInStages}
use Rattle.race_run.proofs.looker.look_one.Goals as goal

pub returns-clause-up : goal.returns-clause-up
returns-clause-up g c header is =
    let e = c.look_packet-end.ensures in
    let look = c.look_packet-end.result in
    let layout : Layout = c.args.table.now.layout in
    let packet = c.args.packet.now in
    let slots = (layout_of c.args.table.now.chains).shape.slots in
    let groups = lists.groups c.args.groups.now in
    let old : Sat = me c.args.pass.now.pass.steps in
    let new : Sat = me c.look_packet-end.new.steps in
    let whole = whole_to packet layout.seed look.t0 look.t1 look.end in
    let named = names_bucket slots groups layout packet c.args.passes old c.args.group_passes.now c.look_packet-end.new.group_passes look.end look.t0 whole new e.order in
    let ways = went layout packet c.args.passes old slots groups c.args.group_passes.now c.look_packet-end.new.group_passes look.end look.t0 whole new e.order in
    let staged = went_in_stages layout packet c.args.passes slots groups old c.args.group_passes.now c.look_packet-end.new.group_passes look.end look.t0 whole new e.order in
    let held = held_then layout packet c.args.passes slots groups old c.args.group_passes.now c.look_packet-end.new.group_passes look.end look.t0 whole new e.order in
    record {
      concluded = e.concluded;
      packet_is = refl;
      seed_is = ap (λ (l : Layout). l.seed) is;
      fresh = e.fresh;
      order = e.span;
      told = c.know_card.ensures;
      bucket = subst (λ (l : Layout). NamesItsBucket l.shape l.seed packet look.end) is named;
      searches = ways.0;
      searched = ways.1;
      after = ways.2;
      stages = subst (λ (l : Layout). WentInStages new.0.read.receipts l.shape l.seed packet look.t0 look.t1 look.end) is staged;
      held = held;
    }
