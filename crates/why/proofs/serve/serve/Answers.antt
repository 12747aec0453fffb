use Rattle.std.proofs.Common.{ℕ, ◌≤◌, List, length, inl, subst, arith}
use Rattle.why.specs.Written.{IsAnswer, limit}
use Rattle.why.proofs.Answered.{answered, one_answer}
use Rattle.why.proofs.Told.{told}
use Rattle.why.proofs.serve.serve.Goals as goal

pub returns-clause-verdict : goal.returns-clause-verdict
returns-clause-verdict g c =
    let bytes : List ℕ = c.in-Ok.bytes.items in
    let mine : IsAnswer c.args.input bytes c.in-Ok-answer_of.status c.in-Ok-answer_of.text.items =
    subst (λ (b : List ℕ). IsAnswer c.args.input b c.in-Ok-answer_of.status c.in-Ok-answer_of.text.items) c.deref.ensures.value c.in-Ok-answer_of.ensures.answer in
    let within : length bytes ≤ limit = omega (arith, c.in-Ok.ensures.within, c.in-Ok.bytes.ok) in
    told _ _ _ bytes c.in-Ok.ensures.whole (answered c.args.input bytes c.in-Ok-answer_of.status _ within mine c.in-Ok-answer_of.ensures.end)

pub returns-clause-complete : goal.returns-clause-complete
returns-clause-complete g c =
    let bytes : List ℕ = c.in-Ok.bytes.items in
    let mine : IsAnswer c.args.input bytes c.in-Ok-answer_of.status c.in-Ok-answer_of.text.items =
    subst (λ (b : List ℕ). IsAnswer c.args.input b c.in-Ok-answer_of.status c.in-Ok-answer_of.text.items) c.deref.ensures.value c.in-Ok-answer_of.ensures.answer in
    told _ _ _ bytes c.in-Ok.ensures.whole
    (λ status text within is read written. inl (one_answer c.args.input bytes c.in-Ok-answer_of.status status _ text mine is))
