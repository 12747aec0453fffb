use Rattle.std.proofs.Common.{◌≡◌, ◌+◌, ℕ, inl, ◌∷◌, [], ap, ◌∙◌, sym, subst}
use Rattle.table_rule.specs.Calls.{layout_of, view, HasShares}
use Rattle.table_rule.specs.Owners.{IsPlace}
use Rattle.table_rule.specs.Passes.{known}
use Rattle.table_rule.specs.Plays.{Sat, locking}
use Rattle.table_rule.specs.declared.view.View.{View}
use Rattle.table_rule.proofs.ChainSteps.{cons_is}
use Rattle.sock_card.specs.Words.{packed}
use Rattle.nulls_chain.specs.Changes.{WasChain}
use Rattle.nulls_chain.proofs.Changed.{no_twin}
use Rattle.established.specs.Comings.{HashesTo}
use Rattle.established.proofs.Hashes.{Said, listens_alone, placed_of, hashes_to}
use Rattle.established.proofs.Known.{walking_is, chain_is}
use Rattle.established.proofs.Alone.{adds_alone}
use Rattle.listeners.proofs.coming.add.Goals as goal

pub hash-answer-requires-clause-twin : goal.hash-answer-requires-clause-twin
hash-answer-requires-clause-twin g c = no_twin (packed c.args.card.now) (view c.walk_to_end.new.steps).chain.walked (listens_alone c.args.card.now (view c.walk_to_end.new.steps).chain.walked c.requires.listens)

pub returns-clause-answer : goal.returns-clause-answer
returns-clause-answer g c =
    let layout = layout_of c.args.chains.now in
    let v : View = known c.args.pass.now in
    let u : View = view c.lock.new.steps in
    let w : View = view c.walk_to_end.new.steps in
    let x : View = known c.hash-answer.new.pass in
    let b : ℕ = c.args.bucket in
    let s = c.walk_to_end.ensures in
    let e = c.hash-answer.ensures in
    let lv : u ≡ locking v b = ap (λ (y : Sat). y.0) c.in_ok-locked.ensures.view in
    let b0 : c.in_ok-locked.locked.bucket ≡ b = cons_is c.in_ok-locked.locked.bucket b (sym c.in_ok-locked.ensures.at.0 ∙ ap (λ (y : View). y.chain.locked) lv) in
    let b1 : c.walk_to_end.new.locked.bucket ≡ b = s.at.2 ∙ b0 in
    let is = walking_is v u w b lv (ap (λ (y : Sat). y.0) s.kept) (s.at.0.0 ∙ ap (λ (n : ℕ). n ∷ []) b1) s.whole.0 s.whole.1 in
    let said : Said layout c.args.from c.walk_to_end.new.locked.bucket c.args.card.now w x c.hash-answer.result = record { told = c.is_told.ensures.told; some = e.some; far = e.far; first = e.first; chain = e.chain; change = e.change; rest = e.rest; saw = e.saw; full = e.full; all = e.all } in
    record {
      chain = w.chain.walked;
      seen = chain_is v u b w.chain.walked lv (subst (λ (n : ℕ). WasChain w.chain.walked n u) b0 (s.sole (ap (λ (y : View). y.chain.met) lv))) s.known.2;
      left = x;
      comes = subst (λ (y : View). HashesTo layout c.args.from b c.args.card.now w.chain.walked c.hash-answer.result y x) is
          (subst (λ (n : ℕ). HashesTo layout c.args.from n c.args.card.now w.chain.walked c.hash-answer.result w x) b1
          (hashes_to layout c.args.from c.walk_to_end.new.locked.bucket c.args.card.now w x c.hash-answer.result said));
      instant = c.unlock.ensures.view.0;
      unlocked = ap (λ (y : Sat). y.0) c.unlock.ensures.view.2;
    }

pub returns-clause-alone : goal.returns-clause-alone
returns-clause-alone g c = adds_alone (layout_of c.args.chains.now) c.args.from c.args.bucket c.args.card.now c.hash-answer.result (known c.args.pass.now) (view c.unlock.new.steps) c.requires.from c.requires.bucket c.requires.home (returns-clause-answer g c)

pub returns-clause-place : goal.returns-clause-place
returns-clause-place g c =
    placed_of c.hash-answer.result c.args.card.now (known c.hash-answer.new.pass) (view c.unlock.new.steps) (ap (λ (y : Sat). y.0.book) c.unlock.ensures.view.2) c.requires.listens c.hash-answer.ensures.place

pub returns-clause-stay : goal.returns-clause-stay
returns-clause-stay g c = λ hash place.
    let v : View = known c.args.pass.now in
    let w : View = view c.walk_to_end.new.steps in
    let is : w ≡ record (locking v c.args.bucket) { chain = w.chain } =
    ap (λ (x : Sat). x.0) c.walk_to_end.ensures.kept ∙ ap (λ (x : Sat). record x.0 { chain = w.chain }) c.in_ok-locked.ensures.view in
    subst (λ (y : View). IsPlace y.book hash) (sym (ap (λ (y : Sat). y.0) c.unlock.ensures.view.2)) (c.hash-answer.ensures.stay hash (subst (λ (y : View). IsPlace y.book hash) (sym is) place))

pub returns-clause-share : goal.returns-clause-share
returns-clause-share g c = λ more share.
    let v : View = known c.args.pass.now in
    let w : View = view c.walk_to_end.new.steps in
    let is : w ≡ record (locking v c.args.bucket) { chain = w.chain } =
    ap (λ (x : Sat). x.0) c.walk_to_end.ensures.kept ∙ ap (λ (x : Sat). record x.0 { chain = w.chain }) c.in_ok-locked.ensures.view in
    subst (HasShares more) (sym (ap (λ (x : Sat). x.0) c.unlock.ensures.view.2)) (c.hash-answer.ensures.share more (subst (HasShares (more + 2)) (sym is) share))

pub unlock-requires-clause-alone : goal.unlock-requires-clause-alone
unlock-requires-clause-alone g c = inl (c.hash-answer.ensures.twice (listens_alone c.args.card.now (view c.walk_to_end.new.steps).chain.walked c.requires.listens) ∙ (ap (λ (x : Sat). x.0.twice) c.walk_to_end.ensures.kept ∙ ap (λ (x : Sat). x.0.twice) c.in_ok-locked.ensures.view))
