use Rattle.std.proofs.Common.{◌+◌, IfOk, ◌∙◌, sym, subst}
use Rattle.table_rule.specs.Calls.{HasShares}
use Rattle.sock_ops.specs.Sides.{Side, side_of}
use Rattle.sock_ops.specs.Reaping.{ReapsOne}
use Rattle.sock_ops.specs.Stands.{buckets_of, turned}
use Rattle.sock_ops.proofs.CloseGoes.{never_fails, none_listed}
use Rattle.sock_ops.proofs.ReapGoes.{turn_nothing, turn_reaps}
use Rattle.reuseport_group.specs.Passes as lists
use Rattle.sock_ops.proofs.Lists.{sparing_same}
use Rattle.sock_ops.proofs.Spares.{reaped_so}
use Rattle.sock_ops.proofs.reaping.reap_one.Goals as goal

pub returns-in_err-turn-clause-listed : goal.returns-in_err-turn-clause-listed
returns-in_err-turn-clause-listed g c =
    none_listed (lists.groups c.args.tables.now.groups) (turned c.args.worker.now) (turned c.begin.new.worker) c.args.worker.now.groups c.begin.new.worker.groups c.begin.ensures.groups c.in_err-turn.ensures.nothing

pub returns-clause-drawn : goal.returns-clause-drawn
returns-clause-drawn g c = λ more may.
    c.reap_in.ensures.drawn more (subst (λ (s : Side). HasShares (more + 2) s.view) (sym c.begin.ensures.side) may)

pub returns-clause-reaps : goal.returns-clause-reaps
returns-clause-reaps g c =
    let t = c.args.tables.now in
    let v = turned c.args.worker.now in
    let p = c.begin.new.worker in
    let w = c.reap_in.new.worker in
    subst (λ (k : Side). IfOk c.reap_in.result (λ found. ReapsOne (buckets_of t) c.args.waiting.now found v (turned w) k (side_of t.chains w.chain))) c.begin.ensures.side
    (turn_reaps (turned p) v (turned w) c.in_ok-turn.ensures.within (buckets_of t) c.args.waiting.now (side_of t.chains p.chain) (side_of t.chains w.chain) c.reap_in.result c.reap_in.ensures.reaps)

pub returns-clause-none : goal.returns-clause-none
returns-clause-none g c =
    turn_nothing (turned c.begin.new.worker) (turned c.args.worker.now) (turned c.reap_in.new.worker) c.in_ok-turn.ensures.within c.reap_in.result c.reap_in.ensures.nothing

pub returns-clause-listed : goal.returns-clause-listed
returns-clause-listed g c =
    let t = c.args.tables.now in
    let v = turned c.args.worker.now in
    let p = c.begin.new.worker in
    let u = c.reap_in.new.worker in
    let r = c.reap_in.result in
    let m = c.args.waiting.now in
    let n = buckets_of t in
    let within = c.in_ok-turn.ensures.within in
    let from = side_of t.chains p.chain in
    let to = side_of t.chains u.chain in
    sparing_same (lists.groups t.groups) v (turned u) c.args.worker.now.groups u.groups (c.reap_in.ensures.groups ∙ c.begin.ensures.groups)
    (reaped_so n m v (turned u) from to r (turn_reaps (turned p) v (turned u) within n m from to r c.reap_in.ensures.reaps) (turn_nothing (turned p) v (turned u) within r c.reap_in.ensures.nothing))

pub returns-clause-patient : goal.returns-clause-patient
returns-clause-patient g c = λ endless. never_fails c.reap_in.result _ (c.reap_in.ensures.patient endless)
