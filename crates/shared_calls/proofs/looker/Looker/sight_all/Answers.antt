use Rattle.std.proofs.Common.{◌≡◌, ◌+◌, ◌<◌, ◌++◌, ◌∷◌, [], take, length, slice_index_or, slice_set, sym, subst, ◌∙◌}
use Rattle.std.proofs.lemmas.List.{take_more, take_more_set, length-set}
use Rattle.shared_calls.specs.Batches.{LooksMany}
use Rattle.shared_calls.specs.declared.batch.Asking.{Asking}
use Rattle.shared_calls.proofs.Batches.{one_more}
use Rattle.shared_calls.proofs.looker.Looker.sight_all.Goals as goal

pub loop-i-preserved : goal.loop-i-preserved
loop-i-preserved c =
    let ps = c.args.packets.now in
    let ss = c.loop-i.sightings in
    let i = c.loop-i.i in
    let s = c.sight.result in
    let new = c.sight.new.self in
    let within = c.loop-i-test.true in
    let none : Asking = record { src = 0; dst = 0; sport = 0; dport = 0; dev = 0; net = 0 } in
    let asked = slice_index_or ps i none in
    let many = one_more c.args.passes c.args.after c.args.self.now (take i ps) (take i ss) c.loop-i.self asked s new c.loop-i.invariant.0 c.sight.ensures in
    let told = subst (λ ys. LooksMany c.args.passes c.args.after c.args.self.now (take i ps ++ asked ∷ []) ys new) (sym (take_more_set ss i s (subst (λ n. i < n) (sym c.loop-i.invariant.1) within))) many in
    (subst (λ xs. LooksMany c.args.passes c.args.after c.args.self.now xs (take (i + 1) (slice_set ss i s)) new) (sym (take_more ps i none within)) told, length-set ss i s ∙ c.loop-i.invariant.1)
