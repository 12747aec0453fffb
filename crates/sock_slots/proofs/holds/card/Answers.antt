use Rattle.std.proofs.Common.{[], ◌∷◌, refl, ap}
use Rattle.table_rule.proofs.Kepts.{knows_none, knows_more, is_kept}
use Rattle.sock_slots.proofs.holds.card.Goals as goal
use Rattle.table_rule.specs.LookCalls.{with_words}
use Rattle.table_rule.specs.Plays.{Sat}
use Rattle.table_rule.specs.Calls.{me}

pub step_read_held-ports-requires-clause-kept : goal.step_read_held-ports-requires-clause-kept
step_read_held-ports-requires-clause-kept c = let a = c.requires.held in let m = (me c.args.steps.now) in
    is_kept c.args.held.now.slot m (me c.step_read_held-ends.new.steps) a.kept (c.step_read_held-ends.result ∷ []) a.others a.slot-is (knows_more m m (me c.step_read_held-ends.new.steps) a.kept [] a.others c.step_read_held-ends.result (knows_none m a.kept a.others a.there a.none) c.step_read_held-ends.ensures.view)

pub step_read_held-name-requires-clause-kept : goal.step_read_held-name-requires-clause-kept
step_read_held-name-requires-clause-kept c = let a = c.requires.held in let m = (me c.args.steps.now) in
    is_kept c.args.held.now.slot m (me c.step_read_held-ports.new.steps) a.kept (c.step_read_held-ends.result ∷ c.step_read_held-ports.result ∷ []) a.others a.slot-is
    (knows_more m (me c.step_read_held-ends.new.steps) (me c.step_read_held-ports.new.steps) a.kept (c.step_read_held-ends.result ∷ []) a.others c.step_read_held-ports.result (knows_more m m (me c.step_read_held-ends.new.steps) a.kept [] a.others c.step_read_held-ends.result (knows_none m a.kept a.others a.there a.none) c.step_read_held-ends.ensures.view) c.step_read_held-ports.ensures.view)

pub step_read_held-extra-requires-clause-kept : goal.step_read_held-extra-requires-clause-kept
step_read_held-extra-requires-clause-kept c = let a = c.requires.held in let m = (me c.args.steps.now) in
    is_kept c.args.held.now.slot m (me c.step_read_held-name.new.steps) a.kept (c.step_read_held-ends.result ∷ c.step_read_held-ports.result ∷ c.step_read_held-name.result ∷ []) a.others a.slot-is
    (knows_more m (me c.step_read_held-ports.new.steps) (me c.step_read_held-name.new.steps) a.kept (c.step_read_held-ends.result ∷ c.step_read_held-ports.result ∷ []) a.others c.step_read_held-name.result (knows_more m (me c.step_read_held-ends.new.steps) (me c.step_read_held-ports.new.steps) a.kept (c.step_read_held-ends.result ∷ []) a.others c.step_read_held-ports.result (knows_more m m (me c.step_read_held-ends.new.steps) a.kept [] a.others c.step_read_held-ends.result (knows_none m a.kept a.others a.there a.none) c.step_read_held-ends.ensures.view) c.step_read_held-ports.ensures.view) c.step_read_held-name.ensures.view)

pub known_card-requires : goal.known_card-requires
known_card-requires c = let a = c.requires.held in let m = (me c.args.steps.now) in
    record {
      card = c.step_read_held-extra.ensures.card (with_words a.kept (c.step_read_held-ends.result ∷ c.step_read_held-ports.result ∷ c.step_read_held-name.result ∷ [])) a.others
          (ap (λ (s : Sat). s.0.read.kept) (knows_more m (me c.step_read_held-ports.new.steps) (me c.step_read_held-name.new.steps) a.kept (c.step_read_held-ends.result ∷ c.step_read_held-ports.result ∷ []) a.others c.step_read_held-name.result (knows_more m (me c.step_read_held-ends.new.steps) (me c.step_read_held-ports.new.steps) a.kept (c.step_read_held-ends.result ∷ []) a.others c.step_read_held-ports.result (knows_more m m (me c.step_read_held-ends.new.steps) a.kept [] a.others c.step_read_held-ends.result (knows_none m a.kept a.others a.there a.none) c.step_read_held-ends.ensures.view) c.step_read_held-ports.ensures.view) c.step_read_held-name.ensures.view))
          refl;
    }
