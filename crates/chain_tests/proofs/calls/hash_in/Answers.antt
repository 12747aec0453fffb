use Rattle.std.proofs.Common.{◌≡◌, ◌+◌, List, false, sym, ap, subst, arith, inl, ◌∙◌}
use Rattle.std.proofs.lemmas.Bool.{true≢false}
use Rattle.sock_card.specs.Words.{packed}
use Rattle.sock_card.specs.declared.words.CardWords.{CardWords}
use Rattle.table_rule.specs.CardsOk.{has_tuple}
use Rattle.table_rule.specs.declared.view.Seen.{Seen}
use Rattle.nulls_chain.specs.Changes.{IsAlone}
use Rattle.nulls_chain.proofs.Changed.{no_twin}
use Rattle.table_rule.specs.Plays.{Sat}
use Rattle.table_rule.specs.Calls.{view, HasShares}
use Rattle.chain_tests.proofs.Readied.{unlocked_ready, shares_split}
use Rattle.chain_tests.proofs.calls.hash_in.Goals as goal

pub returns-clause-ready : goal.returns-clause-ready
returns-clause-ready g c =
    let n = c.args.rest in
    let e = c.hash_with-answer.ensures in
    let lent = shares_split (view c.args.pass.now.steps) n c.requires.ready.4 in
    let share = e.share (n + n) (subst (λ (s : Sat). HasShares ((n + n) + 2) s.0) (sym c.walk_to_end.ensures.kept) (subst (λ (s : Sat). HasShares ((n + n) + 2) s.0) (sym (rw c.unwrap-locked.ensures at c.lock.ensures.view)) lent)) in
    let r = unlocked_ready (view c.hash_with-answer.new.pass.steps) (view c.unlock.new.steps) (n + n) c.unlock.ensures.view.0 (ap (λ (s : Sat). s.0) c.unlock.ensures.view.2) e.idle.0 e.idle.1 share in
    (c.unlock.ensures.table, r.0, r.1, r.2, r.3, omega (arith, c.requires.ready.5, e.len, e.room))

-- a card without a four-tuple of its own is alone
alone : (card : CardWords) (xs : List Seen) → has_tuple card.ports ≡ false → IsAlone card xs
alone card xs none has = absurd (true≢false (sym has ∙ none))

pub hash_with-answer-requires-clause-twin : goal.hash_with-answer-requires-clause-twin
hash_with-answer-requires-clause-twin g c = no_twin (packed c.args.card.now) (view c.walk_to_end.new.steps).chain.walked (alone (packed c.args.card.now) (view c.walk_to_end.new.steps).chain.walked c.requires.kind)

pub unlock-requires-clause-alone : goal.unlock-requires-clause-alone
unlock-requires-clause-alone g c = inl (c.hash_with-answer.ensures.twice (alone (packed c.args.card.now) (view c.walk_to_end.new.steps).chain.walked c.requires.kind) ∙ (ap (λ (s : Sat). s.0.twice) c.walk_to_end.ensures.kept ∙ ap (λ (s : Sat). s.0.twice) (rw c.unwrap-locked.ensures at c.lock.ensures.view)))
