use Rattle.std.proofs.Common.{◌≤◌, ◌∙◌, sym, ap, take, length, arith}
use Rattle.flat_list.specs.Padded.{padded}
use Rattle.flat_list.proofs.ShortLabels.{short_back}
use Rattle.flat_list.proofs.kept.ShortLabel.of.Goals as goal

pub invariant_of-result : goal.invariant_of-result
invariant_of-result c =
    let text = c.args.label.now in
    let all = c.copy_from_slice.ensures.after ∙ ap (take 7) c.padded.ensures in
    let few : length c.as_bytes-used.result.now ≤ 7 = omega arith in
    (few, all ∙ ap (λ t. take 7 (padded t)) (sym (short_back text _ _ (ap length c.as_bytes-used.ensures) few all)))

pub returns-clause-some : goal.returns-clause-some
returns-clause-some c =
    let all = c.copy_from_slice.ensures.after ∙ ap (take 7) c.padded.ensures in
    short_back c.args.label.now _ _ (ap length c.as_bytes-used.ensures) (omega arith) all
