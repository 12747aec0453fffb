use Rattle.std.proofs.Common.{IfSome, sym, subst}
use Rattle.table_rule.specs.Passes.{known}
use Rattle.table_rule.specs.declared.view.Layout.{Layout}
use Rattle.table_rule.specs.declared.view.View.{View}
use Rattle.established.specs.Alone.{ReapsAlone}
use Rattle.sock_ops.proofs.Reaps.{reaps_if}
use Rattle.sock_ops.proofs.chains.leaving.remove_tw.Goals as goal

pub returns-clause-reaps : goal.returns-clause-reaps
returns-clause-reaps g c =
    let t = c.args.table.now in
    let card = c.args.card.now in
    let v : View = known c.args.pass.now.pass in
    let w : View = known c.remove_tw.new.pass in
    let r = c.remove_tw.result in
    let b = c.bucket_of-bucket.result in
    let alone = subst (λ (l : Layout). IfSome r (λ slot. ReapsAlone l b card.name slot v w)) (sym t.laid) c.remove_tw.ensures.alone in
    reaps_if t.layout c.args.pass.now.next b card r v w c.requires.waits (sym c.bucket_of-bucket.ensures.home) c.remove_tw.ensures.answer alone c.remove_tw.ensures.stay
