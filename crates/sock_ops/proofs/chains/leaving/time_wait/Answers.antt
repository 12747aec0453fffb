use Rattle.std.proofs.Common.{◌≡◌, ℕ, ap, sym, subst}
use Rattle.table_rule.specs.Calls.{layout_of}
use Rattle.table_rule.specs.Passes.{known}
use Rattle.table_rule.specs.declared.view.Layout.{Layout}
use Rattle.table_rule.specs.declared.view.View.{View}
use Rattle.established.specs.Leavings as spec
use Rattle.established.specs.Alone.{WaitsAlone}
use Rattle.sock_ops.specs.Answers.{Waits}
use Rattle.sock_ops.proofs.Homes.{near_of}
use Rattle.sock_ops.proofs.Left.{side}
use Rattle.sock_ops.proofs.Comes.{next_after_add}
use Rattle.sock_ops.proofs.ChainGoes.{waits_of}
use Rattle.sock_ops.proofs.chains.leaving.time_wait.Goals as goal

pub time_wait-requires-clause-bucket : goal.time_wait-requires-clause-bucket
time_wait-requires-clause-bucket g c = near_of c.args.table.now c.args.place c.requires.home

pub returns-in-Ok-clause-waits : goal.returns-in-Ok-clause-waits
returns-in-Ok-clause-waits g c =
    let t = c.args.table.now in
    let p = c.args.place in
    let from : ℕ = c.args.pass.now.next in
    let card = c.args.card.now in
    let r = c.in_ok-answer.answer in
    let v : View = known c.args.pass.now.pass in
    let w : View = known c.time_wait.new.pass in
    let laid : layout_of t.chains ≡ t.layout = sym t.laid in
    let answer = subst (λ (l : Layout). spec.Waits l from p card r v w) laid c.in_ok-answer.ensures.answer in
    let alone = subst (λ (l : Layout). WaitsAlone l from p card r v w) laid c.in_ok-answer.ensures.alone in
    subst (λ (n : ℕ). Waits p card r (side t.layout v from) (side t.layout w n)) (ap (next_after_add from) c.in-Ok.is)
    (waits_of t.layout from p card r v w c.is_told.ensures c.requires.chain answer alone c.in_ok-answer.ensures.others)

pub returns-in_default-clause-waits : goal.returns-in_default-clause-waits
returns-in_default-clause-waits g c =
    let t = c.args.table.now in
    let p = c.args.place in
    let from : ℕ = c.args.pass.now.next in
    let card = c.args.card.now in
    let r = c.in_ok-answer.answer in
    let v : View = known c.args.pass.now.pass in
    let w : View = known c.time_wait.new.pass in
    let laid : layout_of t.chains ≡ t.layout = sym t.laid in
    let answer = subst (λ (l : Layout). spec.Waits l from p card r v w) laid c.in_ok-answer.ensures.answer in
    let alone = subst (λ (l : Layout). WaitsAlone l from p card r v w) laid c.in_ok-answer.ensures.alone in
    subst (λ (n : ℕ). Waits p card r (side t.layout v from) (side t.layout w n)) (ap (next_after_add from) c.in_default.is)
    (waits_of t.layout from p card r v w c.is_told.ensures c.requires.chain answer alone c.in_ok-answer.ensures.others)
