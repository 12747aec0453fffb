use Rattle.std.proofs.Common.{sym, subst}
use Rattle.table_rule.specs.Passes.{known}
use Rattle.table_model.specs.Asking.{Asking, ends}
use Rattle.table_model.specs.Operations as plans
use Rattle.sock_ops.specs.Goes.{LeftOff, Went}
use Rattle.sock_ops.specs.Socks.{mine_of}
use Rattle.sock_ops.specs.Stands.{buckets_of, chained, turned}
use Rattle.sock_ops.proofs.CloseGoes.{close_drops, fewer}
use Rattle.sock_ops.proofs.leaving.close_as.Goals as goal

pub returns-in-Ok : goal.returns-in-Ok
returns-in-Ok g c =
    let t = c.args.tables.now in
    let l = t.chains.layout in
    let old = c.args.worker.now in
    let new = c.leave.new.worker in
    let e = c.in-Ok.ensures in
    let plan = close_drops l.shape l.seed c.args.socket.now c.args.moment c.owner-owner.ensures.state c.in_default.not-Full in
    record {
      ready = e.ready;
      caller = e.caller;
      entered = e.entered;
      drawn = λ more may. e.drawn more (fewer more (known old.chain.pass) may);
      carried = subst (λ (p : Asking plans.Closed). Went (buckets_of t) p (turned old) (turned new) (chained t old) (chained t new) (ends plans.gone)) (sym plan) e.carried;
      kept = tt;
      nothing = tt;
      side = tt;
      lists = e.lists;
      listed = e.listed;
      stay = e.stay;
      patient = λ endless. tt;
    }

pub returns-in-Err : goal.returns-in-Err
returns-in-Err g c =
    let t = c.args.tables.now in
    let l = t.chains.layout in
    let old = c.args.worker.now in
    let new = c.leave.new.worker in
    let e = c.in-Err.ensures in
    let plan = close_drops l.shape l.seed c.args.socket.now c.args.moment c.owner-owner.ensures.state c.in_default.not-Full in
    record {
      ready = e.ready;
      caller = e.caller;
      entered = e.entered;
      drawn = λ more may. e.drawn more (fewer more (known old.chain.pass) may);
      carried = subst (λ (p : Asking plans.Closed). LeftOff (buckets_of t) (mine_of c.args.socket.now).owner.name p (turned old) (turned new) (chained t old) (chained t new)) (sym plan) e.carried;
      kept = e.kept;
      nothing = e.nothing;
      side = e.side;
      lists = e.lists;
      listed = e.listed;
      stay = e.stay;
      patient = e.patient;
    }
