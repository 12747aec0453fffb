use Rattle.std.proofs.Common.{◌≡◌, ℕ, ◌<◌, ◌^◌, List, length, sym, ap, ◌∙◌, arith}
use Rattle.flat_calls.specs.Numbers.{label_of, number_of}
use Rattle.label_index.specs.Places.{place_in}
use Rattle.label_index.specs.Numbers.{labels_to}
use Rattle.label_index.proofs.Numbers.{eight_bytes, no_place, place}
use Rattle.label_index.proofs.index.place_among.Goals as goal
use Rattle.label_index.proofs.index.place_among.Goals.{then-number-eq0-via-then-number-eq0, then-number-eq0-via-else-number-eq0+then-number-count}

pub returns-then-number-eq0-clause-place : goal.returns-then-number-eq0-clause-place
returns-then-number-eq0-clause-place c =
    let few : c.args.count < 2 ^ 64 = omega (arith, c.ranges.count.fits) in
    let is : c.number_of-number.result ≡ number_of c.args.label.now = c.number_of-number.ensures.number ∙ ap number_of c.as_bytes.ensures in
    elim c.then-number-eq0.branch [
      | then-number-eq0-via-then-number-eq0 w ↦ sym (no_place c.args.count c.args.label.now few (λ a b. let none = w.if-number-eq0.true in omega (arith, a, is, none)))
      | then-number-eq0-via-else-number-eq0+then-number-count w ↦ sym (no_place c.args.count c.args.label.now few (λ a b. let past = w.if-number-count.true in omega (arith, b, is, past)))
    ]

pub returns-clause-place : goal.returns-clause-place
returns-clause-place c =
    let few : c.args.count < 2 ^ 64 = omega (arith, c.ranges.count.fits) in
    let is : c.number_of-number.result ≡ number_of c.args.label.now = c.number_of-number.ensures.number ∙ ap number_of c.as_bytes.ensures in
    let some = c.if-number-eq0.false in
    let within = c.if-number-count.false in
    let label : label_of c.number_of-number.result ≡ c.args.label.now = c.number_of-number.ensures.label (ap length c.as_bytes.ensures ∙ eight_bytes c.args.label.now (λ e. omega (arith, e, is, some))) ∙ c.as_bytes.ensures in
    sym (ap (place_in (labels_to c.args.count)) (sym label) ∙ place c.args.count c.number_of-number.result few (omega (arith, some)) (omega (arith, within)))
