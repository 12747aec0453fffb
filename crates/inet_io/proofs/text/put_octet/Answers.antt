use Rattle.std.proofs.Common.{◌≡◌, ℕ, ◌+◌, ◌*◌, ◌/◌, ◌%◌, ◌<◌, ◌≤◌, List, [], ◌∷◌, decimal, length, arith, sym, ap, ◌∙◌, subst}
use Rattle.std.proofs.lemmas.Fmt.{decimal_digit}
use Rattle.inet_io.specs.Texts.{PutsAt}
use Rattle.inet_io.proofs.Octets.{two_digits, three_digits}
use Rattle.inet_io.proofs.text.put_octet.Goals as goal

-- its digits, where they are two
two : (n : ℕ) → 10 ≤ n → n < 100 → decimal n ≡ (48 + n / 10) ∷ (48 + n % 10) ∷ []
two n some few =
    let whole : n ≡ n / 10 * 10 + n % 10 = omega arith in
    ap decimal whole ∙ two_digits (n / 10) (n % 10) (omega arith) (omega arith) (omega arith)

-- and where they are three
three : (n : ℕ) → 100 ≤ n → n < 256 → decimal n ≡ (48 + n / 100) ∷ (48 + n / 10 % 10) ∷ (48 + n % 10) ∷ []
three n some few =
    let whole : n ≡ n / 100 * 100 + n / 10 % 10 * 10 + n % 10 = omega arith in
    ap decimal whole ∙ three_digits (n / 100) (n / 10 % 10) (n % 10) (omega arith) (omega arith) (omega arith) (omega arith)

module _ (old new : List ℕ) (at n : ℕ) where
  -- what was put are the number's digits, if those are these
  put_as : (ds : List ℕ) → decimal n ≡ ds → PutsAt old at ds new → PutsAt old at (decimal n) new
  put_as ds is put = subst (λ t. PutsAt old at t new) (sym is) put

pub put-requires : goal.put-requires
put-requires c = omega (arith, ap length (decimal_digit c.args.n c.if-n-lt10.true), c.requires.room)

pub returns-then-n-lt10-clause-place : goal.returns-then-n-lt10-clause-place
returns-then-n-lt10-clause-place c = omega (arith, ap length (decimal_digit c.args.n c.if-n-lt10.true), c.put.ensures.place)

pub returns-then-n-lt10-clause-put : goal.returns-then-n-lt10-clause-put
returns-then-n-lt10-clause-put c =
    put_as c.args.out.now c.put.new.out c.args.at c.args.n (c.digit.result ∷ []) (decimal_digit c.args.n c.if-n-lt10.true ∙ (λ i. sym c.digit.ensures i ∷ [])) c.put.ensures.put

pub put-requires-then-n-lt100 : goal.put-requires-then-n-lt100
put-requires-then-n-lt100 c = omega (arith, ap length (two c.args.n c.if-n-lt10.false c.if-n-lt100.true), c.requires.room)

pub returns-then-n-lt100-clause-place : goal.returns-then-n-lt100-clause-place
returns-then-n-lt100-clause-place c = omega (arith, ap length (two c.args.n c.if-n-lt10.false c.if-n-lt100.true), c.put-then-n-lt100.ensures.place)

pub returns-then-n-lt100-clause-put : goal.returns-then-n-lt100-clause-put
returns-then-n-lt100-clause-put c =
    let a = c.digit-then-n-lt100 in
    let b = c.digit-then-n-lt100-2 in
    put_as c.args.out.now c.put-then-n-lt100.new.out c.args.at c.args.n (a.result ∷ b.result ∷ [])
    (two c.args.n c.if-n-lt10.false c.if-n-lt100.true ∙ (λ i. sym a.ensures i ∷ sym b.ensures i ∷ [])) c.put-then-n-lt100.ensures.put

pub put-requires-2 : goal.put-requires-2
put-requires-2 c = omega (arith, ap length (three c.args.n c.if-n-lt100.false c.requires.small), c.requires.room)

pub returns-clause-place : goal.returns-clause-place
returns-clause-place c = omega (arith, ap length (three c.args.n c.if-n-lt100.false c.requires.small), c.put-2.ensures.place)

pub returns-clause-put : goal.returns-clause-put
returns-clause-put c =
    put_as c.args.out.now c.put-2.new.out c.args.at c.args.n (c.digit-2.result ∷ c.digit-3.result ∷ c.digit-4.result ∷ [])
    (three c.args.n c.if-n-lt100.false c.requires.small ∙ (λ i. sym c.digit-2.ensures i ∷ sym c.digit-3.ensures i ∷ sym c.digit-4.ensures i ∷ [])) c.put-2.ensures.put
