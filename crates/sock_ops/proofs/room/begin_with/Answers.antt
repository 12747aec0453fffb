use Rattle.std.proofs.Common.{◌≡◌, ◌%◌, ℕ, IfOk, subst}
use Rattle.sock_card.specs.Conflict.{owner_key}
use Rattle.sock_ops.specs.Stands.{buckets_of, turned}
use Rattle.sock_ops.proofs.There.{there_if}
use Rattle.sock_ops.proofs.room.begin_with.Goals as goal

pub returns-clause-there : goal.returns-clause-there
returns-clause-there g c =
    let a = c.args.owner.now in
    let t = c.args.tables.now in
    let n = buckets_of t in
    let e = c.begin.ensures in
    there_if t.buckets c.begin.new.worker.turns a (owner_key a % n) (turned c.args.worker.now) c.begin.result e.out e.sound e.none
    (subst (λ (k : ℕ). IfOk c.begin.result (λ turn. turn.place ≡ k % n)) c.bind_key.ensures e.place) e.within c.requires.stands
