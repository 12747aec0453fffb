use Rattle.std.proofs.Common.{◌≡◌, ◌<◌, ◌≤◌, ◌+◌, ◌*◌, ◌++◌, ◌∷◌, ◌∙◌, is_some, ap, sym, arith, true, false}
use Rattle.std.proofs.lemmas.Fmt.{decimal_digit}
use Rattle.inet_io.specs.Fronts.{NoDigit}
use Rattle.inet_io.proofs.Octets.{no_digit, zero_leads, four_digits, past_octets, octet_of, two_digits, three_digits, some_of, none_of}
use Rattle.inet_io.proofs.text.octet_first.Goals as goal

pub returns-in_err-a-clause-none : goal.returns-in_err-a-clause-none
returns-in_err-a-clause-none c = rw c.from_residual.ensures (λ n rest h. no_digit c.args.text.now n rest h c.in_err-a.ensures.none)

pub returns-in_default-clause-some : goal.returns-in_default-clause-some
returns-in_default-clause-some c =
    let digit = c.in_ok-a.ensures.some in
    let a = c.in_ok-a.a in
    let rest = c.in_ok-a.after_a.now in
    octet_of c.args.text.now a rest (omega (arith, digit.0)) (digit.1 ∙ ap (λ ds. ds ++ rest) (sym (decimal_digit a digit.0))) c.in_default.ensures.none

pub returns-then-a-eq0-clause-none : goal.returns-then-a-eq0-clause-none
returns-then-a-eq0-clause-none c = λ n rest h.
    let first = c.in_ok-a.ensures.some in
    let second = c.in-Some.ensures.some in
    zero_leads c.args.text.now n rest h c.in-Some.b c.in-Some.after_b.now second.0
    (first.1 ∙ (λ i. (48 + c.if-a-eq0.true i) ∷ second.1 i))

pub returns-in_default-digit_first-clause-some : goal.returns-in_default-digit_first-clause-some
returns-in_default-digit_first-clause-some c =
    let first = c.in_ok-a.ensures.some in
    let second = c.in-Some.ensures.some in
    let a = c.in_ok-a.a in
    let b = c.in-Some.b in
    let rest = c.in-Some.after_b.now in
    let some : 1 ≤ a = omega (arith, c.if-a-eq0.false) in
    octet_of c.args.text.now (a * 10 + b) rest (omega (arith, first.0, second.0))
    (first.1 ∙ ap (λ l. (48 + a) ∷ l) second.1 ∙ ap (λ ds. ds ++ rest) (sym (two_digits a b some first.0 second.0)))
    c.in_default-digit_first.ensures.none

pub returns-then-is_some-clause-none : goal.returns-then-is_some-clause-none
returns-then-is_some-clause-none c = λ n rest h.
    let first = c.in_ok-a.ensures.some in
    let second = c.in-Some.ensures.some in
    let third = c.in-Some-digit_first.ensures.some in
    let is : is_some c.digit_first-4.result ≡ true = cc in
    let fourth = some_of c.digit_first-4.result (λ r. (r.0 < 10) × (c.in-Some-digit_first.after_c.now ≡ (48 + r.0) ∷ r.1.now)) is c.digit_first-4.ensures.some in
    four_digits c.args.text.now n rest h c.in_ok-a.a c.in-Some.b c.in-Some-digit_first.c fourth.0.0 fourth.0.1.now first.0 second.0 third.0 fourth.1.0
    (first.1 ∙ ap (λ l. (48 + c.in_ok-a.a) ∷ l) (second.1 ∙ ap (λ l. (48 + c.in-Some.b) ∷ l) (third.1 ∙ ap (λ l. (48 + c.in-Some-digit_first.c) ∷ l) fourth.1.1)))

pub returns-then-n-gt255-clause-none : goal.returns-then-n-gt255-clause-none
returns-then-n-gt255-clause-none c = λ n rest h.
    let first = c.in_ok-a.ensures.some in
    let second = c.in-Some.ensures.some in
    let third = c.in-Some-digit_first.ensures.some in
    let a = c.in_ok-a.a in
    let is : is_some c.digit_first-4.result ≡ false = cc in
    let ends = none_of c.digit_first-4.result (NoDigit c.in-Some-digit_first.after_c.now) is c.digit_first-4.ensures.none in
    let some : 1 ≤ a = omega (arith, c.if-a-eq0.false) in
    past_octets c.args.text.now n rest h a c.in-Some.b c.in-Some-digit_first.c c.in-Some-digit_first.after_c.now some first.0 second.0 third.0
    (omega (arith, c.if-n-gt255.true)) ends
    (first.1 ∙ ap (λ l. (48 + a) ∷ l) (second.1 ∙ ap (λ l. (48 + c.in-Some.b) ∷ l) third.1))

pub returns-clause-some : goal.returns-clause-some
returns-clause-some c =
    let first = c.in_ok-a.ensures.some in
    let second = c.in-Some.ensures.some in
    let third = c.in-Some-digit_first.ensures.some in
    let a = c.in_ok-a.a in
    let b = c.in-Some.b in
    let d = c.in-Some-digit_first.c in
    let rest = c.in-Some-digit_first.after_c.now in
    let is : is_some c.digit_first-4.result ≡ false = cc in
    let ends = none_of c.digit_first-4.result (NoDigit rest) is c.digit_first-4.ensures.none in
    let some : 1 ≤ a = omega (arith, c.if-a-eq0.false) in
    octet_of c.args.text.now (a * 100 + b * 10 + d) rest (omega (arith, c.if-n-gt255.false))
    (first.1 ∙ ap (λ l. (48 + a) ∷ l) (second.1 ∙ ap (λ l. (48 + b) ∷ l) third.1) ∙ ap (λ ds. ds ++ rest) (sym (three_digits a b d some first.0 second.0 third.0)))
    ends
