use Rattle.std.proofs.Common.{◌≡◌, ◌+◌, ℕ, inl, ◌∷◌, [], ap, ◌∙◌, sym, subst}
use Rattle.table_rule.specs.Calls.{layout_of, view, HasShares}
use Rattle.table_rule.specs.Passes.{known}
use Rattle.table_rule.specs.Plays.{Sat, locking}
use Rattle.table_rule.specs.declared.view.View.{View}
use Rattle.table_rule.proofs.ChainSteps.{cons_is}
use Rattle.nulls_chain.specs.Changes.{WasChain}
use Rattle.established.specs.Comings.{ComesTo}
use Rattle.established.proofs.Known.{walking_is, chain_is}
use Rattle.established.proofs.Alone.{insert_alone}
use Rattle.established.proofs.coming.insert.Goals as goal

pub returns-clause-answer : goal.returns-clause-answer
returns-clause-answer g c =
    let layout = layout_of c.args.chains.now in
    let v : View = known c.args.pass.now in
    let u : View = view c.lock.new.steps in
    let w : View = view c.survey_chain-survey.new.steps in
    let b : ℕ = c.args.bucket in
    let s = c.survey_chain-survey.ensures in
    let lv : u ≡ locking v b = ap (λ (x : Sat). x.0) c.in_ok-locked.ensures.view in
    let b0 : c.in_ok-locked.locked.bucket ≡ b = cons_is c.in_ok-locked.locked.bucket b (sym c.in_ok-locked.ensures.at.0 ∙ ap (λ (x : View). x.chain.locked) lv) in
    let b1 : c.survey_chain-survey.new.locked.bucket ≡ b = s.at.2 ∙ b0 in
    let is = walking_is v u w b lv (ap (λ (x : Sat). x.0) s.kept) (s.at.0.0 ∙ ap (λ (n : ℕ). n ∷ []) b1) s.whole.0 s.whole.1 in
    let left = known c.admit-answer.new.pass in
    record {
      chain = w.chain.walked;
      seen = chain_is v u b w.chain.walked lv (subst (λ (n : ℕ). WasChain w.chain.walked n u) b0 s.sole) s.known.2;
      cards = s.surveyed.cards;
      left = left;
      comes = subst (λ (x : View). ComesTo layout c.args.from b c.args.new.now w.chain.walked c.admit-answer.result x left) is
          (subst (λ (n : ℕ). ComesTo layout c.args.from n c.args.new.now w.chain.walked c.admit-answer.result w left) b1 c.admit-answer.ensures.comes);
      instant = c.unlock.ensures.view.0;
      unlocked = ap (λ (x : Sat). x.0) c.unlock.ensures.view.2;
    }

pub returns-clause-alone : goal.returns-clause-alone
returns-clause-alone g c = insert_alone (layout_of c.args.chains.now) c.args.from c.args.bucket c.args.new.now c.admit-answer.result (known c.args.pass.now) (view c.unlock.new.steps) c.requires.from c.requires.bucket c.requires.home (returns-clause-answer g c)

pub returns-clause-share : goal.returns-clause-share
returns-clause-share g c = λ more share.
    let v : View = known c.args.pass.now in
    let u : View = view c.lock.new.steps in
    let w : View = view c.survey_chain-survey.new.steps in
    let is : w ≡ record (locking v c.args.bucket) { chain = w.chain } =
    ap (λ (x : Sat). x.0) c.survey_chain-survey.ensures.kept ∙ ap (λ (x : Sat). record x.0 { chain = w.chain }) c.in_ok-locked.ensures.view in
    subst (HasShares more) (sym (ap (λ (x : Sat). x.0) c.unlock.ensures.view.2)) (c.admit-answer.ensures.share more (subst (HasShares (more + 4)) (sym is) share))

pub unlock-requires-clause-alone : goal.unlock-requires-clause-alone
unlock-requires-clause-alone g c = inl (c.admit-answer.ensures.twice ∙ (ap (λ (x : Sat). x.0.twice) c.survey_chain-survey.ensures.kept ∙ ap (λ (x : Sat). x.0.twice) c.in_ok-locked.ensures.view))
