use Rattle.std.proofs.Common.{◌≡◌, ◌+◌, ℕ, [], ◌∷◌, ap, ◌∙◌, sym, subst}
use Rattle.table_rule.specs.Calls.{layout_of, view, HasShares}
use Rattle.table_rule.specs.Owners.{IsPlace}
use Rattle.table_rule.specs.Passes.{known}
use Rattle.table_rule.specs.Plays.{Sat, locking}
use Rattle.table_rule.specs.declared.view.View.{View}
use Rattle.table_rule.proofs.ChainSteps.{cons_is}
use Rattle.nulls_chain.specs.Changes.{IsPlaced, WasChain}
use Rattle.established.specs.Handovers.{HandsTo}
use Rattle.established.proofs.Known.{walking_is, chain_is}
use Rattle.established.proofs.Handed.{newest_still}
use Rattle.established.proofs.Alone.{hands_alone}
use Rattle.established.proofs.handover.hand_over.Goals as goal

pub replace_request-answer-requires-clause-place : goal.replace_request-answer-requires-clause-place
replace_request-answer-requires-clause-place g c =
    let v : View = known c.args.pass.now in
    let p = c.args.place in
    let w : View = view c.walk_to_end.new.steps in
    let lv : view c.lock.new.steps ≡ locking v p.bucket = ap (λ (x : Sat). x.0) c.in_ok-locked.ensures.view in
    let b0 : c.in_ok-locked.locked.bucket ≡ p.bucket = cons_is c.in_ok-locked.locked.bucket p.bucket (sym c.in_ok-locked.ensures.at.0 ∙ ap (λ (x : View). x.chain.locked) lv) in
    let is : w ≡ record (locking v p.bucket) { chain = w.chain } =
    ap (λ (x : Sat). x.0) c.walk_to_end.ensures.kept ∙ ap (λ (x : Sat). record x.0 { chain = w.chain }) c.in_ok-locked.ensures.view in
    (subst (λ (x : View). IsPlaced p x.book) (sym is) c.requires.place, sym (c.walk_to_end.ensures.at.2 ∙ b0))

pub returns-clause-answer : goal.returns-clause-answer
returns-clause-answer g c =
    let layout = layout_of c.args.chains.now in
    let v : View = known c.args.pass.now in
    let u : View = view c.lock.new.steps in
    let w : View = view c.walk_to_end.new.steps in
    let p = c.args.place in
    let b : ℕ = p.bucket in
    let s = c.walk_to_end.ensures in
    let lv : u ≡ locking v b = ap (λ (y : Sat). y.0) c.in_ok-locked.ensures.view in
    let b0 : c.in_ok-locked.locked.bucket ≡ b = cons_is c.in_ok-locked.locked.bucket b (sym c.in_ok-locked.ensures.at.0 ∙ ap (λ (y : View). y.chain.locked) lv) in
    let is = walking_is v u w b lv (ap (λ (y : Sat). y.0) s.kept) (s.at.0.0 ∙ ap (λ (n : ℕ). n ∷ []) (s.at.2 ∙ b0)) s.whole.0 s.whole.1 in
    let left = known c.replace_request-answer.new.pass in
    record {
      chain = w.chain.walked;
      seen = chain_is v u b w.chain.walked lv (subst (λ (n : ℕ). WasChain w.chain.walked n u) b0 (s.sole (ap (λ (y : View). y.chain.met) lv))) s.known.2;
      left = left;
      hands = subst (λ (y : View). HandsTo layout c.args.from p c.args.card.now w.chain.walked c.replace_request-answer.result y left) is c.replace_request-answer.ensures.hands;
      instant = c.unlock.ensures.view.0;
      unlocked = ap (λ (y : Sat). y.0) c.unlock.ensures.view.2;
    }

pub returns-clause-alone : goal.returns-clause-alone
returns-clause-alone g c = hands_alone (layout_of c.args.chains.now) c.args.from c.args.place c.args.card.now c.replace_request-answer.result (known c.args.pass.now) (view c.unlock.new.steps) c.requires.from c.requires.bucket c.requires.home (returns-clause-answer g c)

pub returns-clause-stay : goal.returns-clause-stay
returns-clause-stay g c = λ hash ne place.
    let v : View = known c.args.pass.now in
    let w : View = view c.walk_to_end.new.steps in
    let is : w ≡ record (locking v c.args.place.bucket) { chain = w.chain } =
    ap (λ (x : Sat). x.0) c.walk_to_end.ensures.kept ∙ ap (λ (x : Sat). record x.0 { chain = w.chain }) c.in_ok-locked.ensures.view in
    subst (λ (y : View). IsPlace y.book hash) (sym (ap (λ (y : Sat). y.0) c.unlock.ensures.view.2)) (c.replace_request-answer.ensures.stay hash ne (subst (λ (y : View). IsPlace y.book hash) (sym is) place))

pub returns-clause-others : goal.returns-clause-others
returns-clause-others g c = λ hash other place.
    let v : View = known c.args.pass.now in
    let w : View = view c.walk_to_end.new.steps in
    let is : w ≡ record (locking v c.args.place.bucket) { chain = w.chain } =
    ap (λ (x : Sat). x.0) c.walk_to_end.ensures.kept ∙ ap (λ (x : Sat). record x.0 { chain = w.chain }) c.in_ok-locked.ensures.view in
    subst (λ (y : View). IsPlace y.book hash) (sym (ap (λ (y : Sat). y.0) c.unlock.ensures.view.2)) (c.replace_request-answer.ensures.others hash other (subst (λ (y : View). IsPlace y.book hash) (sym is) place))

pub returns-clause-share : goal.returns-clause-share
returns-clause-share g c = λ more share.
    let v : View = known c.args.pass.now in
    let w : View = view c.walk_to_end.new.steps in
    let is : w ≡ record (locking v c.args.place.bucket) { chain = w.chain } =
    ap (λ (x : Sat). x.0) c.walk_to_end.ensures.kept ∙ ap (λ (x : Sat). record x.0 { chain = w.chain }) c.in_ok-locked.ensures.view in
    subst (HasShares more) (sym (ap (λ (x : Sat). x.0) c.unlock.ensures.view.2)) (c.replace_request-answer.ensures.share more (subst (HasShares (more + 4)) (sym is) share))

pub returns-clause-newest : goal.returns-clause-newest
returns-clause-newest g c =
    let v : View = known c.args.pass.now in
    let w : View = view c.walk_to_end.new.steps in
    newest_still c.replace_request-answer.result v w (known c.replace_request-answer.new.pass) (view c.unlock.new.steps)
    (ap (λ (x : Sat). x.0.book) c.walk_to_end.ensures.kept ∙ ap (λ (x : Sat). x.0.book) c.in_ok-locked.ensures.view) (ap (λ (x : Sat). x.0.book) c.unlock.ensures.view.2) c.replace_request-answer.ensures.newest
