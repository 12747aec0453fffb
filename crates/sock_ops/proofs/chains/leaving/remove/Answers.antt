use Rattle.std.proofs.Common.{◌≡◌, [], sym, subst}
use Rattle.table_rule.specs.Calls.{IsIdle}
use Rattle.table_rule.specs.Passes.{known}
use Rattle.table_rule.specs.declared.view.Layout.{Layout}
use Rattle.table_rule.specs.declared.view.View.{View}
use Rattle.nulls_chain.specs.Changes.{OtherPlacesStay, OthersStay, TwoDrawn}
use Rattle.established.specs.Alone.{LeavesAlone}
use Rattle.sock_ops.specs.Answers.{Removes}
use Rattle.sock_ops.specs.Sides.{Side}
use Rattle.sock_ops.proofs.Homes.{near_of}
use Rattle.sock_ops.proofs.ChainGoes.{removes_of}
use Rattle.sock_ops.proofs.chains.leaving.remove.Goals as goal

pub remove-requires-clause-bucket : goal.remove-requires-clause-bucket
remove-requires-clause-bucket c = near_of c.args.table.now c.args.place c.requires.home

pub remove-requires-clause-locked : goal.remove-requires-clause-locked
remove-requires-clause-locked c = (c.requires.locked.0.view, c.requires.locked.1.lock)

pub remove-requires-clause-idle : goal.remove-requires-clause-idle
remove-requires-clause-idle c =
    let h = c.requires.locked.1 in
    subst (λ (v : View). IsIdle v.slot × (v.book.opened ≡ [])) (sym h.lock.view) (h.idle, h.opened)

pub returns-clause-removes : goal.returns-clause-removes
returns-clause-removes c = λ s since.
    let t = c.args.table.now in
    let p = c.args.place in
    let w : View = known c.remove.new.pass in
    let alone = subst (λ (l : Layout). LeavesAlone l p s.view w) (sym t.laid) (c.remove.ensures.alone s.view since.lock) in
    let others = subst (λ (v : View). OtherPlacesStay p v w) since.lock.view c.remove.ensures.others in
    subst (λ (x : Side). Removes p x (record { layout = t.layout; view = w; next = c.args.pass.now.next })) (sym since.side_is)
    (removes_of t.layout c.args.pass.now.next p s.view w c.is_told.ensures (c.remove.ensures.goes s.view since.lock) alone others)

pub returns-clause-stay : goal.returns-clause-stay
returns-clause-stay c = λ s since. subst (λ (v : View). OthersStay c.args.place.slot v (known c.remove.new.pass)) since.lock.view c.remove.ensures.stay

pub returns-clause-others : goal.returns-clause-others
returns-clause-others c = λ s since. subst (λ (v : View). OtherPlacesStay c.args.place v (known c.remove.new.pass)) since.lock.view c.remove.ensures.others

pub returns-clause-share : goal.returns-clause-share
returns-clause-share c = λ s since. subst (λ (v : View). TwoDrawn v (known c.remove.new.pass)) since.lock.view c.remove.ensures.share
