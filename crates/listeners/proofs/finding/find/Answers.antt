use Rattle.std.proofs.Common.{ℕ, arith, subst, inr}
use Rattle.null_reader.specs.Looked.{LookedAs, SoleAs, words_end}
use Rattle.null_reader.specs.declared.answers.LookEnd.{LookEnd}
use Rattle.null_reader.specs.declared.answers.LookEnd.TheVariants as answers
use Rattle.listeners.proofs.Finds.{at_exact, seen_after, exact_found, exact_again, then_any, none_stays, whole_on, then_sole}
use Rattle.listeners.proofs.finding.find.Goals as goal
use Rattle.established.specs.Homes.{exact_home}
use Rattle.table_rule.specs.Calls.{view, me}

pub returns-in-Found-clause-finds : goal.returns-in-Found-clause-finds
returns-in-Found-clause-finds g c = exact_found c.args.layout.now c.args.packet.now c.args.passes c.look-end.result.t0 c.look-end.result.t1 (me c.args.steps.now) (me c.look-end.new.steps) c.requires.idle (omega (arith, c.look-end.ensures.fresh, c.look-end.ensures.span)) c.in-Found.held c.in-Found.card
    (at_exact c.args.layout.now c.args.packet.now c.args.passes c.look-end.result.t0 c.look-end.result.t1 (me c.args.steps.now) (me c.look-end.new.steps) c.listen_home-exact.result c.look-end.result.end (answers.Found c.in-Found.held c.in-Found.card) c.listen_home-exact.ensures.home c.in-Found.is c.look-end.ensures.looked)

pub returns-in-Again-clause-finds : goal.returns-in-Again-clause-finds
returns-in-Again-clause-finds g c = exact_again c.args.layout.now c.args.packet.now c.args.passes c.look-end.result.t0 c.look-end.result.t1 (me c.args.steps.now) (me c.look-end.new.steps) c.requires.idle (omega (arith, c.look-end.ensures.fresh, c.look-end.ensures.span)) c.in-Again.bucket c.in-Again.stop
    (at_exact c.args.layout.now c.args.packet.now c.args.passes c.look-end.result.t0 c.look-end.result.t1 (me c.args.steps.now) (me c.look-end.new.steps) c.listen_home-exact.result c.look-end.result.end (answers.Again c.in-Again.bucket c.in-Again.stop) c.listen_home-exact.ensures.home c.in-Again.is c.look-end.ensures.looked)

pub returns-in-None-clause-finds : goal.returns-in-None-clause-finds
returns-in-None-clause-finds g c =
    let none = at_exact c.args.layout.now c.args.packet.now c.args.passes c.look-end.result.t0 c.look-end.result.t1 (me c.args.steps.now) (me c.look-end.new.steps) c.listen_home-exact.result c.look-end.result.end answers.None c.listen_home-exact.ensures.home c.in-None.is c.look-end.ensures.looked in
    then_any c.args.layout.now c.args.packet.now c.args.passes c.look-end.result.t0 c.look-end.result.t1 (me c.args.steps.now) (me c.look-end.new.steps) c.requires.idle (omega (arith, c.look-end.ensures.fresh, c.look-end.ensures.span))
    (me c.look-end-in-None.new.steps) c.look-end-in-None.result.t0 c.look-end-in-None.result.t1 none
    (omega (arith, c.look-end.ensures.span, c.look-end-in-None.ensures.fresh, seen_after c.args.layout.now c.args.packet.now c.args.passes c.look-end.result.t0 c.look-end.result.t1 (me c.args.steps.now) (me c.look-end.new.steps) none))
    (omega (arith, c.look-end-in-None.ensures.fresh, c.look-end-in-None.ensures.span)) c.look-end-in-None.result.end
    (subst (λ (b : ℕ). LookedAs b c.args.packet.now 1 c.args.passes (me c.look-end.new.steps) (words_end c.look-end-in-None.result.end) c.look-end-in-None.result.t0 c.look-end-in-None.result.t1 (me c.look-end-in-None.new.steps)) c.listen_home-any.ensures.home c.look-end-in-None.ensures.looked)

pub returns-in-None-clause-sole : goal.returns-in-None-clause-sole
returns-in-None-clause-sole g c = λ whole.
    let none = at_exact c.args.layout.now c.args.packet.now c.args.passes c.look-end.result.t0 c.look-end.result.t1 (me c.args.steps.now) (me c.look-end.new.steps) c.listen_home-exact.result c.look-end.result.end answers.None c.listen_home-exact.ensures.home c.in-None.is c.look-end.ensures.looked in
    let stays = none_stays c.args.layout.now c.args.packet.now c.args.passes c.look-end.result.t0 c.look-end.result.t1 (me c.args.steps.now) (me c.look-end.new.steps) c.requires.idle (omega (arith, c.look-end.ensures.fresh, c.look-end.ensures.span)) none in
    then_sole (me c.args.steps.now) (me c.look-end.new.steps) stays c.args.layout.now c.args.packet.now c.look-end-in-None.result.end
    (subst (λ (e : LookEnd). SoleAs (exact_home c.args.layout.now c.args.packet.now) c.args.packet.now 3 (view c.args.steps.now) (words_end e)) c.in-None.is (subst (λ (b : ℕ). SoleAs b c.args.packet.now 3 (view c.args.steps.now) (words_end c.look-end.result.end)) c.listen_home-exact.ensures.home (c.look-end.ensures.sole whole)))
    (subst (λ (b : ℕ). SoleAs b c.args.packet.now 1 (view c.look-end.new.steps) (words_end c.look-end-in-None.result.end)) c.listen_home-any.ensures.home (c.look-end-in-None.ensures.sole (whole_on (me c.args.steps.now) (me c.look-end.new.steps) stays whole)))

pub returns-in-None-clause-own : goal.returns-in-None-clause-own
returns-in-None-clause-own g c =
    let none = at_exact c.args.layout.now c.args.packet.now c.args.passes c.look-end.result.t0 c.look-end.result.t1 (me c.args.steps.now) (me c.look-end.new.steps) c.listen_home-exact.result c.look-end.result.end answers.None c.listen_home-exact.ensures.home c.in-None.is c.look-end.ensures.looked in
    let seen = seen_after c.args.layout.now c.args.packet.now c.args.passes c.look-end.result.t0 c.look-end.result.t1 (me c.args.steps.now) (me c.look-end.new.steps) none in
    inr (c.look-end.result.t1, me c.look-end.new.steps, omega (arith, c.look-end-in-None.ensures.fresh, c.look-end-in-None.ensures.span, seen), c.look-end.ensures.own, c.look-end-in-None.ensures.own)
