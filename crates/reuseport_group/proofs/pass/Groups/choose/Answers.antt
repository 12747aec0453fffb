use Rattle.std.proofs.Common.{arith}
use Rattle.reuseport_group.proofs.Uses.{chose, chose_none, of_published, nothing, something, counts, sole_word, sole_member, picks, absent, there, positive}
use Rattle.reuseport_group.proofs.pass.Groups.choose.Goals as goal

pub overflow_cast-count : goal.overflow_cast-count
overflow_cast-count c = let few = counts _ _ _ _ c.load-count.ensures.value c.load-count.ensures.known in omega arith

pub load-member-requires-clause-word : goal.load-member-requires-clause-word
load-member-requires-clause-word c = let few = counts _ _ _ _ c.load-count.ensures.value c.load-count.ensures.known in (c.requires.group, omega (arith, c.scale-place.ensures.below))

pub returns-then-member-eq0-clause-sole : goal.returns-then-member-eq0-clause-sole
returns-then-member-eq0-clause-sole c = λ t.
    let few = counts _ _ _ _ c.load-count.ensures.value c.load-count.ensures.known in
    absent _ _ _ _ c.load-member.result (sole_word c.args.passes.now.seat.me.0 _ 0 _ _ c.load-count.ensures.value c.load-count.ensures.known c.requires.table.2 (omega arith) t) c.if-count-eq0.false c.scale-place.ensures.place
    (sole_member c.args.passes.now.seat.me.0 c.load-count.new.passes.seat.me.0 _ c.scale-place.result _ _ _ c.load-count.ensures.view c.load-member.ensures.value c.load-member.ensures.known c.requires.table.2 (omega (arith, c.scale-place.ensures.below)) t) c.if-member-eq0.true

pub returns-then-member-eq0-clause-pick : goal.returns-then-member-eq0-clause-pick
returns-then-member-eq0-clause-pick c = λ t all.
    let few = counts _ _ _ _ c.load-count.ensures.value c.load-count.ensures.known in
    let count = sole_word c.args.passes.now.seat.me.0 _ 0 _ _ c.load-count.ensures.value c.load-count.ensures.known c.requires.table.2 (omega arith) t in
    let member = sole_member c.args.passes.now.seat.me.0 c.load-count.new.passes.seat.me.0 _ c.scale-place.result _ _ _ c.load-count.ensures.view c.load-member.ensures.value c.load-member.ensures.known c.requires.table.2 (omega (arith, c.scale-place.ensures.below)) t in
    let more = positive _ c.scale-place.result all (omega (arith, c.scale-place.ensures.below)) in
    absurd (omega (arith, c.if-member-eq0.true))

pub returns-clause-count : goal.returns-clause-count
returns-clause-count c = counts _ _ _ _ c.load-count.ensures.value c.load-count.ensures.known

pub returns-clause-sole : goal.returns-clause-sole
returns-clause-sole c = λ t.
    let few = counts _ _ _ _ c.load-count.ensures.value c.load-count.ensures.known in
    there _ _ _ _ c.load-member.result (sole_word c.args.passes.now.seat.me.0 _ 0 _ _ c.load-count.ensures.value c.load-count.ensures.known c.requires.table.2 (omega arith) t) c.if-count-eq0.false c.scale-place.ensures.place
    (sole_member c.args.passes.now.seat.me.0 c.load-count.new.passes.seat.me.0 _ c.scale-place.result _ _ _ c.load-count.ensures.view c.load-member.ensures.value c.load-member.ensures.known c.requires.table.2 (omega (arith, c.scale-place.ensures.below)) t) c.if-member-eq0.false

pub returns-clause-pick : goal.returns-clause-pick
returns-clause-pick c = λ t all.
    let few = counts _ _ _ _ c.load-count.ensures.value c.load-count.ensures.known in
    picks _ _ _ _ c.load-member.result (sole_word c.args.passes.now.seat.me.0 _ 0 _ _ c.load-count.ensures.value c.load-count.ensures.known c.requires.table.2 (omega arith) t) c.if-count-eq0.false c.scale-place.ensures.place
    (sole_member c.args.passes.now.seat.me.0 c.load-count.new.passes.seat.me.0 _ c.scale-place.result _ _ _ c.load-count.ensures.view c.load-member.ensures.value c.load-member.ensures.known c.requires.table.2 (omega (arith, c.scale-place.ensures.below)) t)

pub returns-then-count-eq0-clause-loads : goal.returns-then-count-eq0-clause-loads
returns-then-count-eq0-clause-loads c = chose_none c.args.passes.now c.load-count.new.passes _ _ _ c.load-count.ensures.known c.load-count.ensures.value c.if-count-eq0.true

pub returns-then-member-eq0-clause-loads : goal.returns-then-member-eq0-clause-loads
returns-then-member-eq0-clause-loads c = chose c.args.passes.now c.load-count.new.passes c.load-member.new.passes _ _ c.load-count.result c.scale-place.result c.load-member.result _ c.load-count.ensures.view c.load-count.ensures.known c.load-member.ensures.known c.load-count.ensures.value c.if-count-eq0.false c.scale-place.ensures.place c.load-member.ensures.value (nothing _ _ _ c.if-member-eq0.true)

pub returns-clause-loads : goal.returns-clause-loads
returns-clause-loads c = chose c.args.passes.now c.load-count.new.passes c.load-member.new.passes _ _ c.load-count.result c.scale-place.result c.load-member.result _ c.load-count.ensures.view c.load-count.ensures.known c.load-member.ensures.known c.load-count.ensures.value c.if-count-eq0.false c.scale-place.ensures.place c.load-member.ensures.value (something _ _ _ c.if-member-eq0.false)

pub returns-clause-published : goal.returns-clause-published
returns-clause-published c = of_published c.args.passes.now c.load-count.new.passes c.load-member.new.passes _ c.load-count.result c.scale-place.result c.load-member.result c.load-count.ensures.view c.load-count.ensures.known c.load-member.ensures.known c.load-count.ensures.value c.if-count-eq0.false c.load-member.ensures.value c.if-member-eq0.false
