use Rattle.std.proofs.Common.{Result, Err, List, [], ◌+◌, false, sym, subst, ◌%◌}
use Rattle.sock_card.specs.Conflict.{owner_key}
use Rattle.bind_buckets.specs.Bucket.{entries_of}
use Rattle.bind_buckets.specs.Notes.{Note}
use Rattle.table_rule.specs.Calls.{HasShares}
use Rattle.sock_ops.specs.Sides.{Side, side_of}
use Rattle.table_model.specs.declared.operation.OpEnd.{OpEnd}
use Rattle.table_model.specs.declared.operation.OpEnd.TheVariants as errors
use Rattle.table_model.specs.Own.{Mine}
use Rattle.table_model.specs.Operations.{done, refused, listen_at}
use Rattle.reuseport_group.specs.Passes as lists
use Rattle.sock_ops.specs.Goes.{CarriedOut, HoldsAfter}
use Rattle.sock_ops.specs.Groups.{StartsLists}
use Rattle.sock_ops.specs.Listens.{TellsAs}
use Rattle.sock_ops.specs.Stands.{buckets_of, turned}
use Rattle.sock_ops.proofs.AskedFirst.{carried_at_once, tells_at_once}
use Rattle.sock_ops.proofs.Goes.{left_nowhere}
use Rattle.sock_ops.proofs.ListenStands.{none_told}
use Rattle.sock_ops.proofs.ListTurns.{start_keeps}
use Rattle.sock_ops.proofs.listening.start.Goals as goal

pub returns-in-Ok-clause-drawn : goal.returns-in-Ok-clause-drawn
returns-in-Ok-clause-drawn g c = λ more may.
    c.start_in_turn.ensures.drawn more (subst (λ (s : Side). HasShares (more + 2) s.view) (sym c.begin_with.ensures.side) may)

pub returns-in-Ok-clause-carried : goal.returns-in-Ok-clause-carried
returns-in-Ok-clause-carried g c =
    let a = c.args.owner.now in
    let t = c.args.tables.now in
    let n = buckets_of t in
    let v = turned c.args.worker.now in
    let w = turned c.start_in_turn.new.worker in
    let plan = listen_at t.chains.layout.shape t.chains.layout.seed false a in
    let d = side_of t.chains c.start_in_turn.new.worker.chain in
    let r = c.start_in_turn.result in
    let h = subst (λ (ms : List Note). HoldsAfter (owner_key a % n) (entries_of ms) v (λ u. CarriedOut {X = Mine} done refused n a.name plan u w (side_of t.chains c.begin_with.new.worker.chain) d r)) c.in-Ok.ensures.none (c.start_in_turn.ensures.carried v c.in-Ok.ensures.within) in
    subst (λ (k : Side). CarriedOut {X = Mine} done refused n a.name plan v w k d r) c.begin_with.ensures.side
    (carried_at_once {X = Mine} done refused n a.name (owner_key a % n) plan v w _ d r h)

pub returns-in-Err-clause-carried : goal.returns-in-Err-clause-carried
returns-in-Err-clause-carried g c =
    let a = c.args.owner.now in
    let t = c.args.tables.now in
    let l = t.chains.layout in
    left_nowhere (buckets_of t) a.name (listen_at l.shape l.seed false a) (turned c.args.worker.now) (turned c.begin_with.new.worker) (side_of t.chains c.args.worker.now.chain) (side_of t.chains c.begin_with.new.worker.chain) (sym c.begin_with.ensures.side) tt c.in-Err.ensures.nothing

pub returns-in-Ok-clause-tells : goal.returns-in-Ok-clause-tells
returns-in-Ok-clause-tells g c =
    let a = c.args.owner.now in
    let place = owner_key a % buckets_of c.args.tables.now in
    let v = turned c.args.worker.now in
    let w = turned c.start_in_turn.new.worker in
    let r = c.start_in_turn.result in
    tells_at_once place place a false v w r
    (subst (λ (ms : List Note). HoldsAfter place (entries_of ms) v (λ u. TellsAs place a false u w r)) c.in-Ok.ensures.none (c.start_in_turn.ensures.tells v c.in-Ok.ensures.within))

pub returns-in-Err-clause-tells : goal.returns-in-Err-clause-tells
returns-in-Err-clause-tells g c =
    let a = c.args.owner.now in
    none_told (owner_key a % buckets_of c.args.tables.now) a (turned c.args.worker.now) (turned c.begin_with.new.worker) false (record { xs = []; asked = tt; gave = c.in-Err.ensures.nothing })

pub returns-in-Ok-clause-lists : goal.returns-in-Ok-clause-lists
returns-in-Ok-clause-lists g c =
    let a = c.args.owner.now in
    let u = c.start_in_turn.new.worker in
    subst (λ p. StartsLists false (owner_key a % buckets_of c.args.tables.now) a (turned u) p u.groups c.start_in_turn.result) c.begin_with.ensures.groups
    (c.start_in_turn.ensures.lists (turned c.args.worker.now) c.in-Ok.ensures.within)

pub returns-in-Ok-clause-listed : goal.returns-in-Ok-clause-listed
returns-in-Ok-clause-listed g c =
    let a = c.args.owner.now in
    let t = c.args.tables.now in
    let u = c.start_in_turn.new.worker in
    start_keeps (lists.groups t.groups) (owner_key a % buckets_of t) a (turned c.args.worker.now) (turned u) c.args.worker.now.groups u.groups false c.start_in_turn.result
    (returns-in-Ok-clause-tells g c) (returns-in-Ok-clause-lists g c)

pub returns-in-Err-clause-listed : goal.returns-in-Err-clause-listed
returns-in-Err-clause-listed g c =
    let a = c.args.owner.now in
    let t = c.args.tables.now in
    let u = c.begin_with.new.worker in
    let end : Result Mine OpEnd = Err (errors.LeftOff c.in-Err.cause) in
    start_keeps (lists.groups t.groups) (owner_key a % buckets_of t) a (turned c.args.worker.now) (turned u) c.args.worker.now.groups u.groups false end
    (returns-in-Err-clause-tells g c) c.begin_with.ensures.groups
