use Rattle.std.proofs.Common.{rules, [], ap, ◌∙◌, refl, subst}
use mathlib.Core.Option.{none}
use Rattle.atomic_table.specs.Table.{step}
use Rattle.table_rule.specs.Words.{head_at}
use Rattle.table_rule.specs.Plays.{looked, Inside, Sat}
use Rattle.table_rule.specs.declared.view.Layout.{Layout}
use Rattle.table_rule.proofs.Allowed.{looks}
use Rattle.table_rule.proofs.Calls.{moved_to}
use Rattle.table_rule.proofs.table.Chains.step_again_head.Goals as goal

pub load-requires : goal.load-requires
load-requires c = (search rules, search rules, moved_to c.args.self.now.layout c.args.self.now.table.shared.key c.args.self.now.table.shared.table_id.slots c.args.steps.now.seat.id c.args.steps.now.seat.me (head_at c.args.bucket) c.head_word-word.result (λ n. n) (λ x. looked (step c.args.self.now.table.shared.table_id.slots x 0 0 none) c.args.steps.now.seat.me) c.args.self.now.keyed c.head_word-word.ensures.is (looks c.args.self.now.layout c.args.self.now.table.shared.table_id.slots c.args.steps.now.seat.id c.args.steps.now.seat.me c.requires.table.1 c.args.bucket c.requires.held (head_at c.args.bucket)))

pub returns-clause-table : goal.returns-clause-table
returns-clause-table c = (c.load.ensures.0 ∙ c.requires.table.0, ap (λ (s : Sat). s.0.layout) c.load.ensures.2.0 ∙ c.requires.table.1)

pub returns-clause-told : goal.returns-clause-told
returns-clause-told c = let t = c.load.ensures.2.1 c.args.bucket [] c.args.steps.now.seat.me.0.chain.walked c.requires.held refl c.head_word-word.ensures.is c.requires.told in
    (t.0, subst (λ (g : Layout). Inside g c.load.result) c.requires.table.1 t.1)
