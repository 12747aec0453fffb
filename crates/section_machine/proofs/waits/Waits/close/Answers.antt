use Rattle.std.proofs.Common.{List, refl, sym, ap, subst, ◌∙◌}
use Rattle.sock_card.specs.declared.owner.Owner.{Owner}
use Rattle.table_model.specs.Own.{Mine}
use Rattle.table_model.specs.Operations as plans
use Rattle.port_search.proofs.TurnSearch.{gave_none}
use Rattle.sock_ops.specs.Closes.{became}
use Rattle.sock_ops.specs.Socks.{mine_of}
use Rattle.sock_ops.specs.Stands.{buckets_of, turned, chained}
use Rattle.sock_ops.proofs.Goes.{left_there, went_nowhere}
use Rattle.section_machine.specs.Carried.{waits_by}
use Rattle.section_machine.specs.Waits.{AreBefore, AreInOrder}
use Rattle.section_machine.proofs.Closes.{closed_off, unclosed_left, has_room, asks_full, since, stays_before, stays_in_order}
use Rattle.section_machine.proofs.Gives.{off_patient}
use Rattle.section_machine.proofs.waits.Waits.close.Goals as goal

pub invariant_of-self-in-Ok-close : goal.invariant_of-self-in-Ok-close
invariant_of-self-in-Ok-close g c =
    let closed = became c.in-Ok-close.closed in
    subst AreInOrder (sym (◌∙◌ {A = List Mine} c.keep.ensures.left (ap (λ (ws : List Mine). waits_by ws closed) c.make_room.ensures.same)))
    (stays_in_order c.args.moment c.self.inside.items.items closed (since _ _ _ (mine_of c.args.socket) c.args.moment _ _ _ _ closed c.in-Ok-close.ensures.carried)
    (subst (AreBefore c.args.moment) (sym c.self.view_is) c.requires.before) c.self.invariant)

pub returns-in-Ok-close-clause-before : goal.returns-in-Ok-close-clause-before
returns-in-Ok-close-clause-before g c =
    let closed = became c.in-Ok-close.closed in
    subst (AreBefore c.args.moment) (sym (◌∙◌ {A = List Mine} c.keep.ensures.left (ap (λ (ws : List Mine). waits_by ws closed) c.make_room.ensures.same)))
    (stays_before c.args.moment c.self.inside.items.items closed (since _ _ _ (mine_of c.args.socket) c.args.moment _ _ _ _ closed c.in-Ok-close.ensures.carried)
    (subst (AreBefore c.args.moment) (sym c.self.view_is) c.requires.before))

pub returns-in-Err-clause-nothing : goal.returns-in-Err-clause-nothing
returns-in-Err-clause-nothing g c = gave_none (turned c.args.worker.now)

pub returns-in-Err-clause-left : goal.returns-in-Err-clause-left
returns-in-Err-clause-left g c =
    let t = c.args.tables.now in
    let m = mine_of c.args.socket in
    let p = plans.close t.chains.layout.shape t.chains.layout.seed m c.args.moment in
    let v = turned c.args.worker.now in
    let d = chained t c.args.worker.now in
    left_there (buckets_of t) m.owner.name p p v v d d refl
    (asks_full t.chains.layout.shape t.chains.layout.seed m c.args.moment m.owner.state (ap (λ (a : Owner). a.state) (sym c.owner.ensures.owner) ∙ c.in-Err.ensures.full))
    (went_nowhere (buckets_of t) p v d)

pub returns-in-Err-close-clause-left : goal.returns-in-Err-close-clause-left
returns-in-Err-close-clause-left g c =
    unclosed_left became (buckets_of c.args.tables.now) (mine_of c.args.socket).owner.name _ _ _ _ _ c.in-Err-close.end c.in-Err-close.ensures.carried

pub cause_of-requires : goal.cause_of-requires
cause_of-requires g c =
    closed_off became (buckets_of c.args.tables.now) (mine_of c.args.socket).owner.name _ _ _ _ _ c.in-Err-close.end c.in-Err-close.ensures.carried

pub returns-in-Err-close-clause-patient : goal.returns-in-Err-close-clause-patient
returns-in-Err-close-clause-patient g c = λ endless.
    off_patient c.in-Err-close.end c.cause_of.result c.cause_of.ensures (c.in-Err-close.ensures.patient endless)

pub keep-requires : goal.keep-requires
keep-requires g c =
    let m = mine_of c.args.socket in
    let same = ap (λ (a : Owner). a.state) c.owner.ensures.owner in
    has_room _ _ _ m c.args.moment _ _ _ _ _ _ (became c.in-Ok-close.closed) c.in-Ok-close.ensures.carried
    (λ full. c.in-Ok.ensures.room (same ∙ full))
