use Rattle.std.proofs.Common.{rules, ◌≡◌, ℕ, ◌+◌, ◌%◌, ◌^◌, ap, ◌∙◌, refl, sym, subst, ◌<◌, ◌⊎◌}
use mathlib.Core.Option.{none}
use Rattle.atomic_table.specs.Table.{step}
use Rattle.table_rule.specs.Plays.{left, card_in}
use Rattle.table_rule.proofs.Allowed.{leaves-it}
use Rattle.table_rule.specs.Lists.{stands}
use Rattle.table_rule.specs.Owners.{time_waits, HasPlace}
use Rattle.table_rule.proofs.Calls.{moved_to}
use Rattle.table_rule.proofs.table.Chains.begin_unhash_as.Goals as goal

pub fetch_add-number-requires : goal.fetch_add-number-requires
fetch_add-number-requires g c = (search rules, search rules, moved_to c.args.self.now.layout c.args.self.now.table.shared.key c.args.self.now.table.shared.table_id.slots c.args.steps.now.seat.id c.args.steps.now.seat.me 0 0 (λ n. (n + 1) % 2 ^ 64) (λ x. left g.T.Told.slot (step c.args.self.now.table.shared.table_id.slots x 1 0 none) c.args.steps.now.seat.me) c.args.self.now.keyed refl (leaves-it c.args.self.now.layout c.args.self.now.table.shared.table_id.slots c.args.steps.now.seat.id c.args.steps.now.seat.me c.requires.table.1 c.requires.held.0 c.requires.held.1 c.requires.share g.T.Told.slot c.requires.card.0 c.requires.card.1 c.requires.card.2 c.requires.card.3 c.requires.closed c.requires.idle.0 c.requires.idle.1 (subst (λ (k : ℕ). 0 < stands k c.args.steps.now.seat.me.0.chain.walked) c.requires.told c.requires.listed) (ap (λ (k : ℕ). card_in k c.args.steps.now.seat.me.0.chain.walked) (sym c.requires.told) ∙ c.requires.card.4) (subst (λ (k : ℕ). (time_waits (card_in k c.args.steps.now.seat.me.0.chain.walked) ≡ 1) ⊎ HasPlace k c.args.steps.now.seat.me.0.book) c.requires.told c.requires.own)))
