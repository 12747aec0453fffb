use Rattle.inet_io.proofs.Fronts.{address_of, first_octet, second_octet, third_octet, fourth_octet}
use Rattle.inet_io.proofs.text.address_first.Goals as goal

pub returns-in_err-a-clause-none : goal.returns-in_err-a-clause-none
returns-in_err-a-clause-none c = rw c.from_residual.ensures (λ addr rest h.
    let first = first_octet c.args.text.now addr rest h in c.in_err-a.ensures.none _ _ first.0 first.1)

pub returns-in_err-b-clause-none : goal.returns-in_err-b-clause-none
returns-in_err-b-clause-none c = rw c.from_residual-in_err-b.ensures (λ addr rest h.
    let second = second_octet c.args.text.now addr rest h c.in_ok-a.text.now c.in_ok-a.a c.in_ok-a.ensures.some in
    c.in_err-b.ensures.none _ _ second.0 second.1)

pub returns-in_err-c-clause-none : goal.returns-in_err-c-clause-none
returns-in_err-c-clause-none c = rw c.from_residual-in_err-c.ensures (λ addr rest h.
    let third = third_octet c.args.text.now addr rest h c.in_ok-a.text.now c.in_ok-b.text.now c.in_ok-a.a c.in_ok-b.b c.in_ok-a.ensures.some c.in_ok-b.ensures.some in
    c.in_err-c.ensures.none _ _ third.0 third.1)

pub returns-in_err-d-clause-none : goal.returns-in_err-d-clause-none
returns-in_err-d-clause-none c = rw c.from_residual-in_err-d.ensures (λ addr rest h.
    c.in_err-d.ensures.none _ _
    (fourth_octet c.args.text.now addr rest h c.in_ok-a.text.now c.in_ok-b.text.now c.in_ok-c.text.now c.in_ok-a.a c.in_ok-b.b c.in_ok-c.c
    c.in_ok-a.ensures.some c.in_ok-b.ensures.some c.in_ok-c.ensures.some))

pub returns-clause-some : goal.returns-clause-some
returns-clause-some c =
    address_of c.args.text.now c.in_ok-a.text.now c.in_ok-b.text.now c.in_ok-c.text.now c.in_ok-a.a c.in_ok-b.b c.in_ok-c.c c.in_ok-d.d c.in_ok-d.rest.now
    c.in_ok-a.ensures.some c.in_ok-b.ensures.some c.in_ok-c.ensures.some c.in_ok-d.ensures.some
