use Rattle.std.proofs.Common.{◌+◌, ◌∙◌, sym, ap, subst}
use Rattle.sock_card.specs.Words.{packed}
use Rattle.table_rule.specs.Calls.{view, HasShares}
use Rattle.table_rule.specs.Owners.{IsPlace}
use Rattle.table_rule.specs.Plays.{Sat, card_in}
use Rattle.nulls_chain.proofs.Changed.{places_stay, two_drawn}
use Rattle.nulls_chain.proofs.keeping.unhash_slot_with.Goals as goal

pub unhash_numbered-done-requires-clause-card : goal.unhash_numbered-done-requires-clause-card
unhash_numbered-done-requires-clause-card g c =
    let w = packed c.args.card.now in
    (w.ends, w.ports, w.name, w.extra, ap (λ (s : Sat). card_in c.args.slot s.0.chain.walked) c.slot_before-before.ensures.same ∙ c.requires.card)

pub returns-clause-stay : goal.returns-clause-stay
returns-clause-stay g c = λ hash ne place.
    let v = view c.slot_before-before.new.steps in
    let done = c.unhash_numbered-done in
    places_stay v (view done.new.steps) 0 c.args.locked.now.bucket c.args.slot (card_in c.args.slot v.chain.walked) hash (λ _. ne) (done.result.begin, done.result.end, done.ensures.change) (subst (λ (s : Sat). IsPlace s.0.book hash) (sym c.slot_before-before.ensures.same) place)

pub returns-clause-share : goal.returns-clause-share
returns-clause-share g c = λ more share.
    let v = view c.slot_before-before.new.steps in
    let same = c.slot_before-before.ensures.same in
    let done = c.unhash_numbered-done in
    two_drawn v (view done.new.steps) 0 c.args.locked.now.bucket c.args.slot (card_in c.args.slot v.chain.walked) (ap (λ (s : Sat). s.0.book.opened) same ∙ c.requires.idle.1) (done.result.begin, done.result.end, done.ensures.change) done.ensures.rest more (subst (λ (s : Sat). HasShares (more + 2) s.0) (sym same) share)
