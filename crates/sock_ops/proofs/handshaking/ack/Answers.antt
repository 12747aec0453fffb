use Rattle.table_model.specs.Operations.{done, refused, ack}
use Rattle.sock_ops.specs.Handshaking.{mine_found}
use Rattle.sock_ops.specs.Socks.{mine_of}
use Rattle.sock_ops.proofs.Spares.{ack_spares, lists_kept}
use Rattle.sock_ops.proofs.handshaking.ack.Goals as goal

pub returns-clause-listed : goal.returns-clause-listed
returns-clause-listed g c =
    let t = c.args.tables.now in
    let l = t.chains.layout in
    let m = mine_of c.args.request in
    let e = c.ack_shared-child.ensures in
    lists_kept done refused t c.args.worker.now c.ack_shared-child.new.worker (ack l.shape l.seed m (mine_found c.args.listener) c.args.newcomer.name c.args.newcomer.mark) c.ack_shared-child.result e.groups
    (ack_spares l.shape l.seed m (mine_found c.args.listener) c.args.newcomer.name c.args.newcomer.mark) e.carried
