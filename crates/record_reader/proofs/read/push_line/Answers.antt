use Rattle.std.proofs.Common.{◌≡◌, refl, ap, ◌∙◌}
use Rattle.std.proofs.lemmas.Bool.{false≢true}
use Rattle.record_reader.specs.Record.{may_follow}
use Rattle.record_reader.specs.Steps.{last_of}
use Rattle.record_reader.proofs.OneForm.{one_form}
use Rattle.record_reader.proofs.read.push_line.Goals as goal

pub returns-then-not-may_follow : goal.returns-then-not-may_follow
returns-then-not-may_follow c = (
  refl,
  λ line may.
      let same : c.in-Some.line ≡ line = one_form _ c.in-Some.line line c.in-Some.ensures.some may.0 in
      false≢true
      (c.if-not-may_follow.ensures ∙ ap (λ o. may_follow o c.in-Some.line) (c.last.ensures.value ∙ ap last_of c.deref.ensures.value)
      ∙ ap (may_follow (last_of c.args.lines.now.items)) same ∙ may.1),
)
