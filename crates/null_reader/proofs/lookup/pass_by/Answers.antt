use Rattle.std.proofs.Common.{◌+◌, ◌/◌, ℕ, List, [], ◌∷◌, ◌++◌, Ok, Err, Option, Some, None, ap, arith, subst, refl}
use Rattle.null_reader.specs.Looked.{Visited, stopped, stop_of}
use Rattle.table_rule.specs.declared.view.Stop.{Stop}
use Rattle.null_reader.specs.declared.answers.Best.{Best}
use Rattle.null_reader.proofs.Walks.{looks, is_passed, on_passed, better_nth, turned_found, is_passed_better, on_better, stopped_at, drop_nth, dropped}
use Rattle.null_reader.proofs.lookup.pass_by.Goals as goal
use Rattle.table_rule.specs.Calls.{me, layout_of}

pub step_peek_link-next-requires-clause-passed : goal.step_peek_link-next-requires-clause-passed
step_peek_link-next-requires-clause-passed g c = is_passed (layout_of c.args.chains.now) c.requires.walking.0 c.requires.walking.1 c.args.best c.args.link c.args.followed (me c.args.steps.now) c.requires.walking.5 c.requires.even.0 c.requires.even.1 c.args.key c.args.least c.requires.walking.2 c.requires.walking.3 (me c.visit.new.steps) (subst (λ (k : ℕ). Visited (c.args.link / 2) c.args.key c.args.least k c.requires.walking.5.q (me c.args.steps.now) (Ok None) (me c.visit.new.steps)) c.rank_so_far.ensures (subst (λ (x : Option Best). Visited (c.args.link / 2) c.args.key c.args.least c.rank_so_far.result c.requires.walking.5.q (me c.args.steps.now) (Ok x) (me c.visit.new.steps)) c.in-Ok-None.field-0-is (c.in-Ok-None.ensures.visited c.requires.walking.5.q (looks (layout_of c.args.chains.now) c.requires.walking.0 c.requires.walking.1 c.args.best c.args.link c.args.followed (me c.args.steps.now) c.requires.walking.5 c.requires.even.0 c.requires.even.1))))

pub returns-in-Ok-None-clause-turned : goal.returns-in-Ok-None-clause-turned
returns-in-Ok-None-clause-turned g c = λ m q w k l early. on_passed (layout_of c.args.chains.now) m q c.args.best c.args.link c.args.followed (me c.args.steps.now) w c.requires.even.0 c.requires.even.1 c.args.key c.args.least k l (me c.visit.new.steps) (subst (λ (k : ℕ). Visited (c.args.link / 2) c.args.key c.args.least k w.q (me c.args.steps.now) (Ok None) (me c.visit.new.steps)) c.rank_so_far.ensures (subst (λ (x : Option Best). Visited (c.args.link / 2) c.args.key c.args.least c.rank_so_far.result w.q (me c.args.steps.now) (Ok x) (me c.visit.new.steps)) c.in-Ok-None.field-0-is (c.in-Ok-None.ensures.visited w.q (looks (layout_of c.args.chains.now) m q c.args.best c.args.link c.args.followed (me c.args.steps.now) w c.requires.even.0 c.requires.even.1)))) c.step_peek_link-next.result (me c.step_peek_link-next.new.steps) c.in-Ok-None.ensures.table.1 c.step_peek_link-next.ensures.met

pub change_best-requires-clause-held : goal.change_best-requires-clause-held
change_best-requires-clause-held g c = better_nth (layout_of c.args.chains.now) c.requires.walking.0 c.requires.walking.1 c.args.best c.args.link c.args.followed (me c.args.steps.now) c.requires.walking.5 c.requires.even.0 c.requires.even.1 c.args.key c.args.least c.requires.walking.2 c.requires.walking.3 c.requires.walking.4 c.in-Ok-Some.better (me c.visit.new.steps) (subst (λ (k : ℕ). Visited (c.args.link / 2) c.args.key c.args.least k c.requires.walking.5.q (me c.args.steps.now) (Ok (Some c.in-Ok-Some.better)) (me c.visit.new.steps)) c.rank_so_far.ensures (subst (λ (x : Option Best). Visited (c.args.link / 2) c.args.key c.args.least c.rank_so_far.result c.requires.walking.5.q (me c.args.steps.now) (Ok x) (me c.visit.new.steps)) c.in-Ok-Some.field-0-is (c.in-Ok-Some.ensures.visited c.requires.walking.5.q (looks (layout_of c.args.chains.now) c.requires.walking.0 c.requires.walking.1 c.args.best c.args.link c.args.followed (me c.args.steps.now) c.requires.walking.5 c.requires.even.0 c.requires.even.1))))

pub returns-then-better-eq5-clause-turned : goal.returns-then-better-eq5-clause-turned
returns-then-better-eq5-clause-turned g c = λ m q w k l early. turned_found (layout_of c.args.chains.now) m q c.args.best c.args.link c.args.followed (me c.args.steps.now) w c.requires.even.0 c.requires.even.1 c.args.key c.args.least k l early c.in-Ok-Some.better (me c.visit.new.steps) (subst (λ (k : ℕ). Visited (c.args.link / 2) c.args.key c.args.least k w.q (me c.args.steps.now) (Ok (Some c.in-Ok-Some.better)) (me c.visit.new.steps)) c.rank_so_far.ensures (subst (λ (x : Option Best). Visited (c.args.link / 2) c.args.key c.args.least c.rank_so_far.result w.q (me c.args.steps.now) (Ok x) (me c.visit.new.steps)) c.in-Ok-Some.field-0-is (c.in-Ok-Some.ensures.visited w.q (looks (layout_of c.args.chains.now) m q c.args.best c.args.link c.args.followed (me c.args.steps.now) w c.requires.even.0 c.requires.even.1)))) (me c.change_best.new.steps) c.change_best.ensures.none c.change_best.ensures.some c.if-better-eq5.true

pub step_peek_link-next-requires-in-Ok-Some-clause-passed : goal.step_peek_link-next-requires-in-Ok-Some-clause-passed
step_peek_link-next-requires-in-Ok-Some-clause-passed g c = is_passed_better (layout_of c.args.chains.now) c.requires.walking.0 c.requires.walking.1 c.args.best c.args.link c.args.followed (me c.args.steps.now) c.requires.walking.5 c.requires.even.0 c.requires.even.1 c.args.key c.args.least c.requires.walking.2 c.requires.walking.3 c.requires.walking.4 c.in-Ok-Some.better (me c.visit.new.steps) (subst (λ (k : ℕ). Visited (c.args.link / 2) c.args.key c.args.least k c.requires.walking.5.q (me c.args.steps.now) (Ok (Some c.in-Ok-Some.better)) (me c.visit.new.steps)) c.rank_so_far.ensures (subst (λ (x : Option Best). Visited (c.args.link / 2) c.args.key c.args.least c.rank_so_far.result c.requires.walking.5.q (me c.args.steps.now) (Ok x) (me c.visit.new.steps)) c.in-Ok-Some.field-0-is (c.in-Ok-Some.ensures.visited c.requires.walking.5.q (looks (layout_of c.args.chains.now) c.requires.walking.0 c.requires.walking.1 c.args.best c.args.link c.args.followed (me c.args.steps.now) c.requires.walking.5 c.requires.even.0 c.requires.even.1)))) (me c.change_best.new.steps) c.change_best.ensures.none c.change_best.ensures.some

pub returns-else-better-eq5-clause-turned : goal.returns-else-better-eq5-clause-turned
returns-else-better-eq5-clause-turned g c = λ m q w k l early. on_better (layout_of c.args.chains.now) m q c.args.best c.args.link c.args.followed (me c.args.steps.now) w c.requires.even.0 c.requires.even.1 c.args.key c.args.least k l early c.in-Ok-Some.better (me c.visit.new.steps) (subst (λ (k : ℕ). Visited (c.args.link / 2) c.args.key c.args.least k w.q (me c.args.steps.now) (Ok (Some c.in-Ok-Some.better)) (me c.visit.new.steps)) c.rank_so_far.ensures (subst (λ (x : Option Best). Visited (c.args.link / 2) c.args.key c.args.least c.rank_so_far.result w.q (me c.args.steps.now) (Ok x) (me c.visit.new.steps)) c.in-Ok-Some.field-0-is (c.in-Ok-Some.ensures.visited w.q (looks (layout_of c.args.chains.now) m q c.args.best c.args.link c.args.followed (me c.args.steps.now) w c.requires.even.0 c.requires.even.1)))) (me c.change_best.new.steps) c.change_best.ensures.none c.change_best.ensures.some c.step_peek_link-next-in-Ok-Some.result (me c.step_peek_link-next-in-Ok-Some.new.steps) c.change_best.ensures.table.1 c.step_peek_link-next-in-Ok-Some.ensures.met

pub drop_best-requires-clause-held : goal.drop_best-requires-clause-held
drop_best-requires-clause-held g c = let w = c.requires.walking.5 in drop_nth (layout_of c.args.chains.now) c.requires.walking.0 w.q (stopped w.q c.in-Err.stop) c.args.best w.ks w.hs (w.taken + 1) (me c.visit.new.steps) w.best-is (stopped_at (layout_of c.args.chains.now) c.requires.walking.0 c.requires.walking.1 c.args.best c.args.link c.args.followed (me c.args.steps.now) c.requires.walking.5 c.requires.even.0 c.requires.even.1 c.args.key c.args.least c.in-Err.stop (me c.visit.new.steps) (subst (λ (k : ℕ). Visited (c.args.link / 2) c.args.key c.args.least k c.requires.walking.5.q (me c.args.steps.now) (Err c.in-Err.stop) (me c.visit.new.steps)) c.rank_so_far.ensures (c.in-Err.ensures.visited c.requires.walking.5.q (looks (layout_of c.args.chains.now) c.requires.walking.0 c.requires.walking.1 c.args.best c.args.link c.args.followed (me c.args.steps.now) c.requires.walking.5 c.requires.even.0 c.requires.even.1))))

pub returns-in-Err-clause-turned : goal.returns-in-Err-clause-turned
returns-in-Err-clause-turned g c = λ m q w k l early. (stopped w.q c.in-Err.stop, record { bucket = w.same.bucket; key = w.same.key; least = w.same.least; since = w.same.since }, ap (λ (x : List Stop). x ++ stop_of c.in-Err.stop ∷ []) (w.slot c.requires.even.0 c.requires.even.1).5, w.taken + 1, omega (arith, w.more), dropped (layout_of c.args.chains.now) m w.q (stopped w.q c.in-Err.stop) c.args.best w.ks w.hs (w.taken + 1) (me c.visit.new.steps) w.best-is (stopped_at (layout_of c.args.chains.now) m q c.args.best c.args.link c.args.followed (me c.args.steps.now) w c.requires.even.0 c.requires.even.1 c.args.key c.args.least c.in-Err.stop (me c.visit.new.steps) (subst (λ (k : ℕ). Visited (c.args.link / 2) c.args.key c.args.least k w.q (me c.args.steps.now) (Err c.in-Err.stop) (me c.visit.new.steps)) c.rank_so_far.ensures (c.in-Err.ensures.visited w.q (looks (layout_of c.args.chains.now) m q c.args.best c.args.link c.args.followed (me c.args.steps.now) w c.requires.even.0 c.requires.even.1)))) (me c.drop_best.new.steps) c.drop_best.ensures.none c.drop_best.ensures.some, refl)

pub overflow_cast-slot : goal.overflow_cast-slot
overflow_cast-slot g c = omega (arith, c.args.chains.now.small, (c.requires.walking.5.slot c.requires.even.0 c.requires.even.1).4)
