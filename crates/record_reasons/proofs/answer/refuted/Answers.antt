use Rattle.std.proofs.Common.{◌≡◌, ◌∙◌, ◌++◌, List, ℕ, ap}
use Rattle.record_reader.specs.Words.{pieces_of, texts}
use Rattle.record_reasons.specs.Texts.{refuted_text}
use Rattle.record_reasons.proofs.Judged.{within}
use Rattle.record_reasons.proofs.answer.refuted.Goals as goal

pub put_refuted-requires-clause-within : goal.put_refuted-requires-clause-within
put_refuted-requires-clause-within c =
    (within c.args.text.now c.args.number c.args.why c.args.race.now.lines.items c.requires.verdict c.requires.reads.is).0

pub put_refuted-requires-clause-there : goal.put_refuted-requires-clause-there
put_refuted-requires-clause-there c =
    (within c.args.text.now c.args.number c.args.why c.args.race.now.lines.items c.requires.verdict c.requires.reads.is).1

pub returns : goal.returns
returns c =
    let written : List (List ℕ) → List ℕ = λ ps. refuted_text ps c.args.race.now.printed c.args.race.now.lines.items c.args.number c.args.why in
    let pieces : texts c.deref.result.now ≡ pieces_of c.args.text.now = ap texts c.deref.ensures.value ∙ c.in_ok-pieces.ensures in (
      c.args.why,
      c.args.race.now.lines.items,
      c.args.race.now.printed,
      c.requires.verdict,
      c.requires.reads,
      c.in_ok-put_refuted.ensures ∙ ap (λ (xs : List ℕ). xs ++ written (texts c.deref.result.now)) c.new-out.ensures.items ∙ ap written pieces,
    )
