use Rattle.std.proofs.Common.{◌+◌, ◌*◌, ◌≤◌, ℕ, Ok, sym, ap, ◌∙◌, arith, subst}
use Rattle.null_reader.specs.Looked.{Turned}
use Rattle.table_rule.specs.declared.view.Reader.{Reader}
use Rattle.null_reader.specs.declared.answers.Turn.{Turn}
use Rattle.null_reader.proofs.Walks.{walks_first, room_for, passed_own, walk_nth, passed_foreign, passed_long}
use Rattle.null_reader.proofs.LookViews.{same_reader}
use Rattle.null_reader.proofs.lookup.one_pass.Goals as goal
use Rattle.table_rule.specs.Calls.{view, me, layout_of}

pub loop-followed-init : goal.loop-followed-init
loop-followed-init g c = record { table = c.step_peek_head-link.ensures.table; walking = λ q e. walks_first (layout_of c.args.chains.now) (me c.args.steps.now) (me c.step_peek_head-link.new.steps) q c.step_peek_head-link.result c.requires.table.1 e c.step_peek_head-link.ensures.met; few = omega arith }

pub returns-then-link-bucket-clause-passed : goal.returns-then-link-bucket-clause-passed
returns-then-link-bucket-clause-passed g c = λ q e. passed_own (layout_of c.args.chains.now) (me c.args.steps.now) q c.loop-followed.best c.loop-followed.link c.loop-followed.followed (me c.loop-followed.steps) (c.loop-followed.invariant.walking q e) (c.if-link-bucket.true ∙ ap (λ (k : ℕ). 2 * k + 1) (sym c.requires.looks.2 ∙ (ap (λ (p : Reader). p.bucket) (same_reader (view c.args.steps.now) c.requires.looks.0 q c.requires.looks.1 e))))

pub drop_best-requires-clause-held : goal.drop_best-requires-clause-held
drop_best-requires-clause-held g c = walk_nth (layout_of c.args.chains.now) (me c.args.steps.now) c.requires.looks.0 c.loop-followed.best c.loop-followed.link c.loop-followed.followed (me c.loop-followed.steps) (c.loop-followed.invariant.walking c.requires.looks.0 c.requires.looks.1)

pub returns-then-link-eq1-clause-passed : goal.returns-then-link-eq1-clause-passed
returns-then-link-eq1-clause-passed g c = λ q e. passed_foreign (layout_of c.args.chains.now) (me c.args.steps.now) q c.loop-followed.best c.loop-followed.link c.loop-followed.followed (me c.loop-followed.steps) (c.loop-followed.invariant.walking q e) (me c.drop_best.new.steps) c.drop_best.ensures.none c.drop_best.ensures.some c.if-link-eq1.true (λ z. c.if-link-bucket.false (z ∙ ap (λ (k : ℕ). 2 * k + 1) (sym (sym c.requires.looks.2 ∙ (ap (λ (p : Reader). p.bucket) (same_reader (view c.args.steps.now) c.requires.looks.0 q c.requires.looks.1 e))))))

pub drop_best-requires-then-followed-slots-clause-held : goal.drop_best-requires-then-followed-slots-clause-held
drop_best-requires-then-followed-slots-clause-held g c = walk_nth (layout_of c.args.chains.now) (me c.args.steps.now) c.requires.looks.0 c.loop-followed.best c.loop-followed.link c.loop-followed.followed (me c.loop-followed.steps) (c.loop-followed.invariant.walking c.requires.looks.0 c.requires.looks.1)

pub returns-then-followed-slots-clause-passed : goal.returns-then-followed-slots-clause-passed
returns-then-followed-slots-clause-passed g c = λ q e. passed_long (layout_of c.args.chains.now) (me c.args.steps.now) q c.loop-followed.best c.loop-followed.link c.loop-followed.followed (me c.loop-followed.steps) (c.loop-followed.invariant.walking q e) (me c.drop_best-then-followed-slots.new.steps) c.drop_best-then-followed-slots.ensures.none c.drop_best-then-followed-slots.ensures.some (omega (arith, c.if-link-eq1.false)) (omega (arith, c.if-followed-slots.true, c.slot_count-slots.ensures))

pub pass_by-requires-clause-room : goal.pass_by-requires-clause-room
pass_by-requires-clause-room g c = room_for (layout_of c.args.chains.now) (me c.args.steps.now) c.requires.looks.0 c.loop-followed.best c.loop-followed.link c.loop-followed.followed (me c.loop-followed.steps) (c.loop-followed.invariant.walking c.requires.looks.0 c.requires.looks.1) c.requires.room

pub returns-in-Ok-Found-clause-passed : goal.returns-in-Ok-Found-clause-passed
returns-in-Ok-Found-clause-passed g c = λ q e. subst (λ (x : Turn). Turned (layout_of c.args.chains.now) (me c.args.steps.now) q c.loop-followed.followed (Ok x) (me c.pass_by.new.steps)) c.in-Ok-Found.field-0-is (c.in-Ok-Found.ensures.turned (me c.args.steps.now) q (c.loop-followed.invariant.walking q e) (ap (λ (p : Reader). p.key) (sym (same_reader (view c.args.steps.now) c.requires.looks.0 q c.requires.looks.1 e)) ∙ c.requires.looks.3) (ap (λ (p : Reader). p.least) (sym (same_reader (view c.args.steps.now) c.requires.looks.0 q c.requires.looks.1 e)) ∙ c.requires.looks.4) (subst (λ (p : Reader). p.since ≤ (view c.args.steps.now).seen) (same_reader (view c.args.steps.now) c.requires.looks.0 q c.requires.looks.1 e) c.requires.looks.5))

pub loop-followed-preserved : goal.loop-followed-preserved
loop-followed-preserved g c = record { table = c.pass_by.ensures.table; walking = λ q e. subst (λ (x : Turn). Turned (layout_of c.args.chains.now) (me c.args.steps.now) q c.loop-followed.followed (Ok x) (me c.pass_by.new.steps)) c.in-Ok-On.field-0-is (c.in-Ok-On.ensures.turned (me c.args.steps.now) q (c.loop-followed.invariant.walking q e) (ap (λ (p : Reader). p.key) (sym (same_reader (view c.args.steps.now) c.requires.looks.0 q c.requires.looks.1 e)) ∙ c.requires.looks.3) (ap (λ (p : Reader). p.least) (sym (same_reader (view c.args.steps.now) c.requires.looks.0 q c.requires.looks.1 e)) ∙ c.requires.looks.4) (subst (λ (p : Reader). p.since ≤ (view c.args.steps.now).seen) (same_reader (view c.args.steps.now) c.requires.looks.0 q c.requires.looks.1 e) c.requires.looks.5)); few = omega (arith, c.if-followed-slots.false, c.slot_count-slots.ensures) }

pub returns-then-link-eq1-clause-inside : goal.returns-then-link-eq1-clause-inside
returns-then-link-eq1-clause-inside g c = (c.loop-followed.invariant.walking c.requires.looks.0 c.requires.looks.1).near c.if-link-eq1.true

pub returns-then-followed-slots-clause-inside : goal.returns-then-followed-slots-clause-inside
returns-then-followed-slots-clause-inside g c = omega (arith, c.if-followed-slots.true, c.loop-followed.invariant.few, c.slot_count-slots.ensures)
