use Rattle.std.proofs.Common.{◌∙◌, arith, refl, sym, subst}
use Rattle.std.proofs.lemmas.Bool.{false≢true}
use Rattle.inet_io.specs.Fronts.{IsPlain, BeginsWith}
use Rattle.inet_io.proofs.Fronts.{many_is_none, same_value, plain_front, plain_number}
use Rattle.inet_io.proofs.text.number_first.Goals as goal
use Rattle.inet_io.proofs.text.number_first.Goals.{then-not-is_plain-via-then-not-is_plain, then-not-is_plain-via-else-not-is_plain+then-n-most}

pub returns-in_err-n-clause-none : goal.returns-in_err-n-clause-none
returns-in_err-n-clause-none c = rw c.from_residual.ensures (λ n rest h. many_is_none c.args.text.now c.args.most n rest c.in_err-n.ensures.none h)

pub returns-then-not-is_plain-clause-none : goal.returns-then-not-is_plain-clause-none
returns-then-not-is_plain-clause-none c = λ m rest h.
    let digits = c.in_ok-n.ensures.some in
    let plain = subst IsPlain (sym c.split_at.ensures.front) (plain_front c.args.text.now c.in_ok-n.n c.in_ok-n.count c.args.most m rest digits h) in
    let same = same_value c.args.text.now c.in_ok-n.n c.in_ok-n.count c.args.most m rest digits h in
    elim c.then-not-is_plain.branch [
      | then-not-is_plain-via-then-not-is_plain w ↦ false≢true (sym w.if-not-is_plain.true ∙ c.is_plain.ensures.1 plain)
      | then-not-is_plain-via-else-not-is_plain+then-n-most w ↦ omega (arith, same, h.high, w.if-n-most.true)
    ]

pub returns-clause-some : goal.returns-clause-some
returns-clause-some c =
    let digits = c.in_ok-n.ensures.some in
    let plain = subst IsPlain c.split_at.ensures.front (c.if-not-is_plain.ensures.0 refl) in
    subst (λ rest. BeginsWith c.args.most c.args.text.now c.in_ok-n.n rest) (sym c.split_at.ensures.back)
    (plain_number c.args.text.now c.in_ok-n.n c.in_ok-n.count c.args.most digits plain c.if-n-most.false)
