use Rattle.std.proofs.Common.{◌≡◌, ◌+◌, ◌^◌, ◌<◌, List, sym, ap, ◌∙◌, subst, arith}
use Rattle.reuseport_group.specs.Passes as lists
use Rattle.demux.specs.Concludes.{ByOrder, whole_to}
use Rattle.sock_ops.specs.Stands.{buckets_of}
use Rattle.established.specs.Alone.{chains_of}
use Rattle.table_model.specs.Goes.{tables_by}
use Rattle.table_model.specs.Means.{TablesMean}
use Rattle.table_rule.specs.Calls.{me}
use Rattle.table_rule.specs.Passes.{known}
use Rattle.table_rule.specs.Sole.{IsNow}
use Rattle.table_rule.specs.declared.view.Change.{Change}
use Rattle.table_rule.specs.declared.view.Layout.{Layout}
use Rattle.table_rule.specs.declared.view.View.{View}
use Rattle.turn_table.specs.Passes.{given}
use Rattle.race_run.proofs.SeesNow.{sees_now}
use Rattle.race_run.proofs.LooksSame.{answered}
use Rattle.race_run.proofs.script_run.look.look.Goals as goal

pub returns-clause-found : goal.returns-clause-found
returns-clause-found c = λ flat shape sound mean.
    let alone = c.requires.sole in
    let tables = c.args.tables.now in
    let worker = c.args.worker.now in
    let packet = c.args.packet.now in
    let layout = tables.chains.layout in
    let slots = lists.groups tables.groups in
    let look = c.look_packet-look in
    let m = me c.now.new.pass.pass.steps in
    let n = me look.new.steps in
    let now : IsNow m.0 = sees_now (known worker.chain.pass) m.0 c.now.result c.now.ensures.later c.now.ensures.sees alone.chains in
    let laid : m.0.layout ≡ layout = c.now.ensures.rests.table.1 ∙ sym tables.chains.laid in
    let fits : layout.shape.slots < 2 ^ 32 = omega (arith, subst (λ (l : Layout). l.shape.slots + 1 < 2 ^ 32) (sym tables.chains.laid) c.slots_are_few.ensures) in
    let same : (known worker.chain.pass).book.closed ≡ m.0.book.closed = sym (ap (λ (v : View). v.book.closed) c.now.ensures.sees) in
    let mean_now = subst (λ (closed : List Change). TablesMean (tables_by (buckets_of tables) (given worker.turns) (chains_of layout worker.chain.next closed)) flat) same mean in
    let order = subst (λ (l : Layout). ByOrder l.shape.slots slots layout packet 1 m worker.groups look.result.end look.new.group_passes look.result.t0 (whole_to packet layout.seed look.result.t0 look.result.t1 look.result.end) n) (sym tables.chains.laid) look.ensures.order in
    c.card_of.ensures.card
    ∙ answered m now c.now.result c.now.ensures.whole layout laid fits worker.chain.next (buckets_of tables) (given worker.turns) worker.groups alone.groups slots alone.ready.groups.many alone.listed flat packet shape sound mean_now
    look.result.end 1 look.new.group_passes look.result.t0 look.result.t1 n c.card_of.ensures.told (look.ensures.sole (now.bare.0.all, now.idle)) order
