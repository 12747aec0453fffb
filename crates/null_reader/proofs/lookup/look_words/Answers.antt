use Rattle.std.proofs.Common.{ℕ, ◌<◌, Ok, Option, Some, None, sym, arith, subst}
use Rattle.null_reader.specs.Looked.{Passed, LookedAs, SoleAs, KnownAs}
use Rattle.table_rule.specs.Beyond.{IsCardWords}
use Rattle.table_rule.specs.Calls.{view, me, layout_of}
use Rattle.null_reader.specs.declared.answers.WordsEnd.TheVariants as ends
use Rattle.null_reader.specs.declared.answers.Best.{Best}
use Rattle.null_reader.specs.declared.answers.PassEnd.TheVariants.{Dead}
use Rattle.null_reader.proofs.Looks.{begun, looked_again, between_none, looks_between, seen_between, is_none, looked_none, is_found, looked_found, few_none, few_found, few_again, own_none, own_found, own_again, card_found, passed_seen, sole_none, sole_found, known_none, known_found, Between}
use Rattle.null_reader.proofs.lookup.look_words.Goals as goal
use Rattle.table_rule.specs.Words.{words_of}

pub loop-done-init : goal.loop-done-init
loop-done-init g c = record { table = c.step_clock_start-from.ensures.table; inside = tt; between = between_none (layout_of c.args.chains.now) c.args.bucket c.args.key c.args.least c.args.passes c.step_clock_start-from.result (me c.args.steps.now) (me c.step_clock_start-from.new.steps) c.step_clock_start-from.ensures.view (Dead 0) }

pub step_clock_found-to-requires-clause-found : goal.step_clock_found-to-requires-clause-found
step_clock_found-to-requires-clause-found g c = is_found (layout_of c.args.chains.now) c.args.bucket c.args.key c.args.least c.args.passes c.step_clock_start-from.result (me c.args.steps.now) (me c.step_clock_start-from.new.steps) c.step_clock_start-from.ensures.view c.loop-done.done c.loop-done.last (me c.loop-done.steps) (me c.one_pass.new.steps) c.loop-done.invariant.between (me c.one_pass.new.steps) 0 c.in-Ok-Some.best (subst (λ (x : Option Best). Passed (layout_of c.args.chains.now) (me c.loop-done.steps) c.loop-done.invariant.between.q (Ok x) (me c.one_pass.new.steps)) c.in-Ok-Some.field-0-is (c.in-Ok-Some.ensures.passed c.loop-done.invariant.between.q (looks_between (layout_of c.args.chains.now) c.args.bucket c.args.key c.args.least c.args.passes c.step_clock_start-from.result (me c.args.steps.now) (me c.step_clock_start-from.new.steps) c.step_clock_start-from.ensures.view c.loop-done.done c.loop-done.last (me c.loop-done.steps) (me c.one_pass.new.steps) c.loop-done.invariant.between)))

pub returns-in-Ok-Some-clause-fresh : goal.returns-in-Ok-Some-clause-fresh
returns-in-Ok-Some-clause-fresh g c = (c.step_clock_start-from.ensures.seen, omega (arith, c.step_clock_found-to.ensures.seen, seen_between (layout_of c.args.chains.now) c.args.bucket c.args.key c.args.least c.args.passes c.step_clock_start-from.result (me c.args.steps.now) (me c.step_clock_start-from.new.steps) c.step_clock_start-from.ensures.view c.loop-done.done c.loop-done.last (me c.loop-done.steps) (me c.one_pass.new.steps) c.loop-done.invariant.between, passed_seen (layout_of c.args.chains.now) (me c.loop-done.steps) (me c.one_pass.new.steps) c.loop-done.invariant.between.q (Ok (Some c.in-Ok-Some.best)) (subst (λ (x : Option Best). Passed (layout_of c.args.chains.now) (me c.loop-done.steps) c.loop-done.invariant.between.q (Ok x) (me c.one_pass.new.steps)) c.in-Ok-Some.field-0-is (c.in-Ok-Some.ensures.passed c.loop-done.invariant.between.q (looks_between (layout_of c.args.chains.now) c.args.bucket c.args.key c.args.least c.args.passes c.step_clock_start-from.result (me c.args.steps.now) (me c.step_clock_start-from.new.steps) c.step_clock_start-from.ensures.view c.loop-done.done c.loop-done.last (me c.loop-done.steps) (me c.one_pass.new.steps) c.loop-done.invariant.between)))))

pub returns-in-Ok-Some-clause-looked : goal.returns-in-Ok-Some-clause-looked
returns-in-Ok-Some-clause-looked g c = subst (λ (x : Best). LookedAs c.args.bucket c.args.key c.args.least c.args.passes (me c.args.steps.now) (ends.Found (record { slot = x.slot }) x.card) c.step_clock_start-from.result c.step_clock_found-to.result (me c.step_clock_found-to.new.steps)) (sym c.in-Ok-Some.best-is) (looked_found (layout_of c.args.chains.now) c.args.bucket c.args.key c.args.least c.args.passes c.step_clock_start-from.result (me c.args.steps.now) (me c.step_clock_start-from.new.steps) c.step_clock_start-from.ensures.view c.loop-done.done c.loop-done.last (me c.loop-done.steps) (me c.one_pass.new.steps) c.loop-done.invariant.between (me c.step_clock_found-to.new.steps) c.step_clock_found-to.result c.in-Ok-Some.best (subst (λ (x : Option Best). Passed (layout_of c.args.chains.now) (me c.loop-done.steps) c.loop-done.invariant.between.q (Ok x) (me c.one_pass.new.steps)) c.in-Ok-Some.field-0-is (c.in-Ok-Some.ensures.passed c.loop-done.invariant.between.q (looks_between (layout_of c.args.chains.now) c.args.bucket c.args.key c.args.least c.args.passes c.step_clock_start-from.result (me c.args.steps.now) (me c.step_clock_start-from.new.steps) c.step_clock_start-from.ensures.view c.loop-done.done c.loop-done.last (me c.loop-done.steps) (me c.one_pass.new.steps) c.loop-done.invariant.between))) c.step_clock_found-to.ensures.view)

pub step_clock_none-to-requires-clause-none : goal.step_clock_none-to-requires-clause-none
step_clock_none-to-requires-clause-none g c = is_none (layout_of c.args.chains.now) c.args.bucket c.args.key c.args.least c.args.passes c.step_clock_start-from.result (me c.args.steps.now) (me c.step_clock_start-from.new.steps) c.step_clock_start-from.ensures.view c.loop-done.done c.loop-done.last (me c.loop-done.steps) (me c.one_pass.new.steps) c.loop-done.invariant.between (subst (λ (x : Option Best). Passed (layout_of c.args.chains.now) (me c.loop-done.steps) c.loop-done.invariant.between.q (Ok x) (me c.one_pass.new.steps)) c.in-Ok-None.field-0-is (c.in-Ok-None.ensures.passed c.loop-done.invariant.between.q (looks_between (layout_of c.args.chains.now) c.args.bucket c.args.key c.args.least c.args.passes c.step_clock_start-from.result (me c.args.steps.now) (me c.step_clock_start-from.new.steps) c.step_clock_start-from.ensures.view c.loop-done.done c.loop-done.last (me c.loop-done.steps) (me c.one_pass.new.steps) c.loop-done.invariant.between)))

pub returns-in-Ok-None-clause-fresh : goal.returns-in-Ok-None-clause-fresh
returns-in-Ok-None-clause-fresh g c = (c.step_clock_start-from.ensures.seen, omega (arith, c.step_clock_none-to.ensures.seen, seen_between (layout_of c.args.chains.now) c.args.bucket c.args.key c.args.least c.args.passes c.step_clock_start-from.result (me c.args.steps.now) (me c.step_clock_start-from.new.steps) c.step_clock_start-from.ensures.view c.loop-done.done c.loop-done.last (me c.loop-done.steps) (me c.one_pass.new.steps) c.loop-done.invariant.between, passed_seen (layout_of c.args.chains.now) (me c.loop-done.steps) (me c.one_pass.new.steps) c.loop-done.invariant.between.q (Ok None) (subst (λ (x : Option Best). Passed (layout_of c.args.chains.now) (me c.loop-done.steps) c.loop-done.invariant.between.q (Ok x) (me c.one_pass.new.steps)) c.in-Ok-None.field-0-is (c.in-Ok-None.ensures.passed c.loop-done.invariant.between.q (looks_between (layout_of c.args.chains.now) c.args.bucket c.args.key c.args.least c.args.passes c.step_clock_start-from.result (me c.args.steps.now) (me c.step_clock_start-from.new.steps) c.step_clock_start-from.ensures.view c.loop-done.done c.loop-done.last (me c.loop-done.steps) (me c.one_pass.new.steps) c.loop-done.invariant.between)))))

pub returns-in-Ok-None-clause-looked : goal.returns-in-Ok-None-clause-looked
returns-in-Ok-None-clause-looked g c = looked_none (layout_of c.args.chains.now) c.args.bucket c.args.key c.args.least c.args.passes c.step_clock_start-from.result (me c.args.steps.now) (me c.step_clock_start-from.new.steps) c.step_clock_start-from.ensures.view c.loop-done.done c.loop-done.last (me c.loop-done.steps) (me c.one_pass.new.steps) c.loop-done.invariant.between (me c.step_clock_none-to.new.steps) c.step_clock_none-to.result (subst (λ (x : Option Best). Passed (layout_of c.args.chains.now) (me c.loop-done.steps) c.loop-done.invariant.between.q (Ok x) (me c.one_pass.new.steps)) c.in-Ok-None.field-0-is (c.in-Ok-None.ensures.passed c.loop-done.invariant.between.q (looks_between (layout_of c.args.chains.now) c.args.bucket c.args.key c.args.least c.args.passes c.step_clock_start-from.result (me c.args.steps.now) (me c.step_clock_start-from.new.steps) c.step_clock_start-from.ensures.view c.loop-done.done c.loop-done.last (me c.loop-done.steps) (me c.one_pass.new.steps) c.loop-done.invariant.between))) c.step_clock_none-to.ensures.view

pub returns-in-Ok-None-clause-sole : goal.returns-in-Ok-None-clause-sole
returns-in-Ok-None-clause-sole g c = λ whole. sole_none (layout_of c.args.chains.now) c.args.bucket c.args.key c.args.least c.args.passes c.step_clock_start-from.result (me c.args.steps.now) (me c.step_clock_start-from.new.steps) c.step_clock_start-from.ensures.view whole c.step_clock_start-from.ensures.before c.loop-done.done c.loop-done.last (me c.loop-done.steps) (me c.one_pass.new.steps) c.loop-done.invariant.between (subst (λ (x : Option Best). Passed (layout_of c.args.chains.now) (me c.loop-done.steps) c.loop-done.invariant.between.q (Ok x) (me c.one_pass.new.steps)) c.in-Ok-None.field-0-is (c.in-Ok-None.ensures.passed c.loop-done.invariant.between.q (looks_between (layout_of c.args.chains.now) c.args.bucket c.args.key c.args.least c.args.passes c.step_clock_start-from.result (me c.args.steps.now) (me c.step_clock_start-from.new.steps) c.step_clock_start-from.ensures.view c.loop-done.done c.loop-done.last (me c.loop-done.steps) (me c.one_pass.new.steps) c.loop-done.invariant.between))) c.step_clock_none-to.ensures.sole

pub returns-in-Ok-Some-clause-sole : goal.returns-in-Ok-Some-clause-sole
returns-in-Ok-Some-clause-sole g c = λ whole. subst (λ (x : Best). SoleAs c.args.bucket c.args.key c.args.least (view c.args.steps.now) (ends.Found (record { slot = x.slot }) x.card)) (sym c.in-Ok-Some.best-is) (sole_found (layout_of c.args.chains.now) c.args.bucket c.args.key c.args.least c.args.passes c.step_clock_start-from.result (me c.args.steps.now) (me c.step_clock_start-from.new.steps) c.step_clock_start-from.ensures.view whole c.step_clock_start-from.ensures.before c.loop-done.done c.loop-done.last (me c.loop-done.steps) (me c.one_pass.new.steps) c.loop-done.invariant.between c.in-Ok-Some.best (subst (λ (x : Option Best). Passed (layout_of c.args.chains.now) (me c.loop-done.steps) c.loop-done.invariant.between.q (Ok x) (me c.one_pass.new.steps)) c.in-Ok-Some.field-0-is (c.in-Ok-Some.ensures.passed c.loop-done.invariant.between.q (looks_between (layout_of c.args.chains.now) c.args.bucket c.args.key c.args.least c.args.passes c.step_clock_start-from.result (me c.args.steps.now) (me c.step_clock_start-from.new.steps) c.step_clock_start-from.ensures.view c.loop-done.done c.loop-done.last (me c.loop-done.steps) (me c.one_pass.new.steps) c.loop-done.invariant.between))) c.step_clock_found-to.ensures.sole)

pub returns-in-Ok-Some-clause-card : goal.returns-in-Ok-Some-clause-card
returns-in-Ok-Some-clause-card g c = subst (λ (x : Best). IsCardWords (words_of x.card)) (sym c.in-Ok-Some.best-is) (card_found (layout_of c.args.chains.now) c.args.bucket c.args.key c.args.least c.args.passes c.step_clock_start-from.result (me c.args.steps.now) (me c.step_clock_start-from.new.steps) c.step_clock_start-from.ensures.view c.loop-done.done c.loop-done.last (me c.loop-done.steps) (me c.one_pass.new.steps) c.loop-done.invariant.between c.in-Ok-Some.best (subst (λ (x : Option Best). Passed (layout_of c.args.chains.now) (me c.loop-done.steps) c.loop-done.invariant.between.q (Ok x) (me c.one_pass.new.steps)) c.in-Ok-Some.field-0-is (c.in-Ok-Some.ensures.passed c.loop-done.invariant.between.q (looks_between (layout_of c.args.chains.now) c.args.bucket c.args.key c.args.least c.args.passes c.step_clock_start-from.result (me c.args.steps.now) (me c.step_clock_start-from.new.steps) c.step_clock_start-from.ensures.view c.loop-done.done c.loop-done.last (me c.loop-done.steps) (me c.one_pass.new.steps) c.loop-done.invariant.between))) c.step_clock_found-to.ensures.card)

pub returns-in-Ok-Some-clause-inside : goal.returns-in-Ok-Some-clause-inside
returns-in-Ok-Some-clause-inside g c =
    let passed = (subst (λ (x : Option Best). Passed (layout_of c.args.chains.now) (me c.loop-done.steps) c.loop-done.invariant.between.q (Ok x) (me c.one_pass.new.steps)) c.in-Ok-Some.field-0-is (c.in-Ok-Some.ensures.passed c.loop-done.invariant.between.q (looks_between (layout_of c.args.chains.now) c.args.bucket c.args.key c.args.least c.args.passes c.step_clock_start-from.result (me c.args.steps.now) (me c.step_clock_start-from.new.steps) c.step_clock_start-from.ensures.view c.loop-done.done c.loop-done.last (me c.loop-done.steps) (me c.one_pass.new.steps) c.loop-done.invariant.between))) in
    subst (λ (x : Best). x.slot < (layout_of c.args.chains.now).shape.slots) (sym c.in-Ok-Some.best-is) passed.5.7

pub returns-in-Ok-None-clause-known : goal.returns-in-Ok-None-clause-known
returns-in-Ok-None-clause-known g c = known_none (layout_of c.args.chains.now) c.args.bucket c.args.key c.args.least c.args.passes c.step_clock_start-from.result (me c.args.steps.now) (me c.step_clock_start-from.new.steps) c.step_clock_start-from.ensures.view c.loop-done.done c.loop-done.last (me c.loop-done.steps) (me c.one_pass.new.steps) c.loop-done.invariant.between (subst (λ (x : Option Best). Passed (layout_of c.args.chains.now) (me c.loop-done.steps) c.loop-done.invariant.between.q (Ok x) (me c.one_pass.new.steps)) c.in-Ok-None.field-0-is (c.in-Ok-None.ensures.passed c.loop-done.invariant.between.q (looks_between (layout_of c.args.chains.now) c.args.bucket c.args.key c.args.least c.args.passes c.step_clock_start-from.result (me c.args.steps.now) (me c.step_clock_start-from.new.steps) c.step_clock_start-from.ensures.view c.loop-done.done c.loop-done.last (me c.loop-done.steps) (me c.one_pass.new.steps) c.loop-done.invariant.between))) c.step_clock_none-to.ensures.known

pub returns-in-Ok-Some-clause-known : goal.returns-in-Ok-Some-clause-known
returns-in-Ok-Some-clause-known g c = subst (λ (x : Best). KnownAs c.args.bucket c.args.key c.args.least (view c.args.steps.now) (ends.Found (record { slot = x.slot }) x.card) c.step_clock_start-from.result) (sym c.in-Ok-Some.best-is) (known_found (layout_of c.args.chains.now) c.args.bucket c.args.key c.args.least c.args.passes c.step_clock_start-from.result (me c.args.steps.now) (me c.step_clock_start-from.new.steps) c.step_clock_start-from.ensures.view c.loop-done.done c.loop-done.last (me c.loop-done.steps) (me c.one_pass.new.steps) c.loop-done.invariant.between c.in-Ok-Some.best (subst (λ (x : Option Best). Passed (layout_of c.args.chains.now) (me c.loop-done.steps) c.loop-done.invariant.between.q (Ok x) (me c.one_pass.new.steps)) c.in-Ok-Some.field-0-is (c.in-Ok-Some.ensures.passed c.loop-done.invariant.between.q (looks_between (layout_of c.args.chains.now) c.args.bucket c.args.key c.args.least c.args.passes c.step_clock_start-from.result (me c.args.steps.now) (me c.step_clock_start-from.new.steps) c.step_clock_start-from.ensures.view c.loop-done.done c.loop-done.last (me c.loop-done.steps) (me c.one_pass.new.steps) c.loop-done.invariant.between))) c.step_clock_found-to.ensures.known)

pub returns-clause-looked : goal.returns-clause-looked
returns-clause-looked g c =
    let between = subst (λ (d : ℕ). Between (me c.step_clock_start-from.new.steps) (begun c.args.bucket c.args.key c.args.least c.step_clock_start-from.result) d c.loop-done.last (me c.loop-done.steps)) (omega (arith, c.loop-done-test.false, c.loop-done.auto.done-end)) c.loop-done.invariant.between in
    looked_again (layout_of c.args.chains.now) c.args.bucket c.args.key c.args.least c.args.passes c.step_clock_start-from.result (me c.args.steps.now) (me c.step_clock_start-from.new.steps) c.step_clock_start-from.ensures.view c.loop-done.last (me c.loop-done.steps) between c.requires.passes (me c.step_clock_again-to.new.steps) c.step_clock_again-to.result c.step_clock_again-to.ensures.view

pub returns-in-Ok-None-clause-few : goal.returns-in-Ok-None-clause-few
returns-in-Ok-None-clause-few g c = few_none (layout_of c.args.chains.now) c.args.bucket c.args.key c.args.least c.args.passes c.step_clock_start-from.result (me c.args.steps.now) (me c.step_clock_start-from.new.steps) c.step_clock_start-from.ensures.view c.loop-done.done c.loop-done.last (me c.loop-done.steps) (me c.one_pass.new.steps) c.loop-done.invariant.between (me c.step_clock_none-to.new.steps) c.step_clock_none-to.result (subst (λ (x : Option Best). Passed (layout_of c.args.chains.now) (me c.loop-done.steps) c.loop-done.invariant.between.q (Ok x) (me c.one_pass.new.steps)) c.in-Ok-None.field-0-is (c.in-Ok-None.ensures.passed c.loop-done.invariant.between.q (looks_between (layout_of c.args.chains.now) c.args.bucket c.args.key c.args.least c.args.passes c.step_clock_start-from.result (me c.args.steps.now) (me c.step_clock_start-from.new.steps) c.step_clock_start-from.ensures.view c.loop-done.done c.loop-done.last (me c.loop-done.steps) (me c.one_pass.new.steps) c.loop-done.invariant.between))) c.step_clock_none-to.ensures.view (omega (arith, c.loop-done-test.true))

pub returns-in-Ok-Some-clause-few : goal.returns-in-Ok-Some-clause-few
returns-in-Ok-Some-clause-few g c = few_found (layout_of c.args.chains.now) c.args.bucket c.args.key c.args.least c.args.passes c.step_clock_start-from.result (me c.args.steps.now) (me c.step_clock_start-from.new.steps) c.step_clock_start-from.ensures.view c.loop-done.done c.loop-done.last (me c.loop-done.steps) (me c.one_pass.new.steps) c.loop-done.invariant.between (me c.step_clock_found-to.new.steps) c.step_clock_found-to.result c.in-Ok-Some.best (subst (λ (x : Option Best). Passed (layout_of c.args.chains.now) (me c.loop-done.steps) c.loop-done.invariant.between.q (Ok x) (me c.one_pass.new.steps)) c.in-Ok-Some.field-0-is (c.in-Ok-Some.ensures.passed c.loop-done.invariant.between.q (looks_between (layout_of c.args.chains.now) c.args.bucket c.args.key c.args.least c.args.passes c.step_clock_start-from.result (me c.args.steps.now) (me c.step_clock_start-from.new.steps) c.step_clock_start-from.ensures.view c.loop-done.done c.loop-done.last (me c.loop-done.steps) (me c.one_pass.new.steps) c.loop-done.invariant.between))) c.step_clock_found-to.ensures.view (omega (arith, c.loop-done-test.true))

pub returns-clause-few : goal.returns-clause-few
returns-clause-few g c =
    let between = subst (λ (d : ℕ). Between (me c.step_clock_start-from.new.steps) (begun c.args.bucket c.args.key c.args.least c.step_clock_start-from.result) d c.loop-done.last (me c.loop-done.steps)) (omega (arith, c.loop-done-test.false, c.loop-done.auto.done-end)) c.loop-done.invariant.between in
    few_again (layout_of c.args.chains.now) c.args.bucket c.args.key c.args.least c.args.passes c.step_clock_start-from.result (me c.args.steps.now) (me c.step_clock_start-from.new.steps) c.step_clock_start-from.ensures.view c.loop-done.last (me c.loop-done.steps) between c.requires.passes (me c.step_clock_again-to.new.steps) c.step_clock_again-to.result c.step_clock_again-to.ensures.view

pub returns-in-Ok-None-clause-own : goal.returns-in-Ok-None-clause-own
returns-in-Ok-None-clause-own g c = own_none (layout_of c.args.chains.now) c.args.bucket c.args.key c.args.least c.args.passes c.step_clock_start-from.result (me c.args.steps.now) (me c.step_clock_start-from.new.steps) c.step_clock_start-from.ensures.view c.loop-done.done c.loop-done.last (me c.loop-done.steps) (me c.one_pass.new.steps) c.loop-done.invariant.between (me c.step_clock_none-to.new.steps) c.step_clock_none-to.result (subst (λ (x : Option Best). Passed (layout_of c.args.chains.now) (me c.loop-done.steps) c.loop-done.invariant.between.q (Ok x) (me c.one_pass.new.steps)) c.in-Ok-None.field-0-is (c.in-Ok-None.ensures.passed c.loop-done.invariant.between.q (looks_between (layout_of c.args.chains.now) c.args.bucket c.args.key c.args.least c.args.passes c.step_clock_start-from.result (me c.args.steps.now) (me c.step_clock_start-from.new.steps) c.step_clock_start-from.ensures.view c.loop-done.done c.loop-done.last (me c.loop-done.steps) (me c.one_pass.new.steps) c.loop-done.invariant.between))) c.step_clock_none-to.ensures.view c.step_clock_none-to.ensures.own

pub returns-in-Ok-Some-clause-own : goal.returns-in-Ok-Some-clause-own
returns-in-Ok-Some-clause-own g c = own_found (layout_of c.args.chains.now) c.args.bucket c.args.key c.args.least c.args.passes c.step_clock_start-from.result (me c.args.steps.now) (me c.step_clock_start-from.new.steps) c.step_clock_start-from.ensures.view c.loop-done.done c.loop-done.last (me c.loop-done.steps) (me c.one_pass.new.steps) c.loop-done.invariant.between (me c.step_clock_found-to.new.steps) c.step_clock_found-to.result c.in-Ok-Some.best (subst (λ (x : Option Best). Passed (layout_of c.args.chains.now) (me c.loop-done.steps) c.loop-done.invariant.between.q (Ok x) (me c.one_pass.new.steps)) c.in-Ok-Some.field-0-is (c.in-Ok-Some.ensures.passed c.loop-done.invariant.between.q (looks_between (layout_of c.args.chains.now) c.args.bucket c.args.key c.args.least c.args.passes c.step_clock_start-from.result (me c.args.steps.now) (me c.step_clock_start-from.new.steps) c.step_clock_start-from.ensures.view c.loop-done.done c.loop-done.last (me c.loop-done.steps) (me c.one_pass.new.steps) c.loop-done.invariant.between))) c.step_clock_found-to.ensures.view c.step_clock_found-to.ensures.own

pub returns-clause-own : goal.returns-clause-own
returns-clause-own g c =
    let between = subst (λ (d : ℕ). Between (me c.step_clock_start-from.new.steps) (begun c.args.bucket c.args.key c.args.least c.step_clock_start-from.result) d c.loop-done.last (me c.loop-done.steps)) (omega (arith, c.loop-done-test.false, c.loop-done.auto.done-end)) c.loop-done.invariant.between in
    own_again (layout_of c.args.chains.now) c.args.bucket c.args.key c.args.least c.args.passes c.step_clock_start-from.result (me c.args.steps.now) (me c.step_clock_start-from.new.steps) c.step_clock_start-from.ensures.view c.loop-done.last (me c.loop-done.steps) between c.requires.passes (me c.step_clock_again-to.new.steps) c.step_clock_again-to.result c.step_clock_again-to.ensures.view c.step_clock_again-to.ensures.own
