use Rattle.std.proofs.Common.{◌≡◌, ◌+◌, ℕ, ◌∷◌, [], inl, ⊎_elim, Option, ap, ◌∙◌, sym, subst, arith, rules}
use Rattle.chain_book.specs.declared.outcome.Hashed.{Hashed}
use Rattle.table_rule.specs.Calls.{layout_of, view, HasShares}
use Rattle.table_rule.specs.Owners.{IsPlace}
use Rattle.table_rule.specs.Passes.{known}
use Rattle.table_rule.specs.Plays.{Sat, locking, PlacesListed}
use Rattle.table_rule.specs.declared.view.View.{View}
use Rattle.table_rule.proofs.ChainSteps.{cons_is}
use Rattle.nulls_chain.specs.Changes.{WasChain}
use Rattle.established.specs.Comings.{walking, Goes}
use Rattle.established.specs.declared.survey.Sought.TheVariants as seeks
use Rattle.established.proofs.Admitted.{out_of, stay_of}
use Rattle.established.proofs.Known.{walking_is, chain_is, is_read}
use Rattle.established.proofs.Alone.{reaps_alone}
use Rattle.established.proofs.leaving.remove_tw.Goals as goal

pub take_out-requires-clause-found : goal.take_out-requires-clause-found
take_out-requires-clause-found g c =
    let s = c.survey_chain-survey.ensures in
    out_of (seeks.Waiting c.args.name) c.survey_chain-survey.result (view c.survey_chain-survey.new.steps) s.surveyed s.known.2

pub take_out-requires-clause-share : goal.take_out-requires-clause-share
take_out-requires-clause-share g c =
    let w : View = view c.survey_chain-survey.new.steps in
    let is : w ≡ record (locking (known c.args.pass.now) c.args.bucket) { chain = w.chain } =
    ap (λ (x : Sat). x.0) c.survey_chain-survey.ensures.kept ∙ ap (λ (x : Sat). record x.0 { chain = w.chain }) c.in_ok-locked.ensures.view in
    subst (HasShares 2) (sym is) c.requires.share

pub returns-clause-answer : goal.returns-clause-answer
returns-clause-answer g c =
    let v : View = known c.args.pass.now in
    let u : View = view c.lock.new.steps in
    let w : View = view c.survey_chain-survey.new.steps in
    let x : View = known c.take_out.new.pass in
    let b : ℕ = c.args.bucket in
    let s = c.survey_chain-survey.ensures in
    let found : Option Hashed = c.survey_chain-survey.result.waiting in
    let lv : u ≡ locking v b = ap (λ (y : Sat). y.0) c.in_ok-locked.ensures.view in
    let b0 : c.in_ok-locked.locked.bucket ≡ b = cons_is c.in_ok-locked.locked.bucket b (sym c.in_ok-locked.ensures.at.0 ∙ ap (λ (y : View). y.chain.locked) lv) in
    let b1 : c.survey_chain-survey.new.locked.bucket ≡ b = s.at.2 ∙ b0 in
    let is = walking_is v u w b lv (ap (λ (y : Sat). y.0) s.kept) (s.at.0.0 ∙ ap (λ (n : ℕ). n ∷ []) b1) s.whole.0 s.whole.1 in
    record {
      chain = w.chain.walked;
      seen = chain_is v u b w.chain.walked lv (subst (λ (n : ℕ). WasChain w.chain.walked n u) b0 s.sole) s.known.2;
      cards = s.surveyed.cards;
      slot = search rules;
      left = x;
      goes = subst (λ (o : Option Hashed). Goes (walking v b w.chain.walked) x b o) s.surveyed.waiting
          (subst (λ (y : View). Goes y x b found) is (subst (λ (n : ℕ). Goes w x n found) b1 c.take_out.ensures.goes));
      instant = c.unlock.ensures.view.0;
      unlocked = ap (λ (y : Sat). y.0) c.unlock.ensures.view.2;
    }

pub returns-clause-alone : goal.returns-clause-alone
returns-clause-alone g c = reaps_alone (layout_of c.args.chains.now) c.args.bucket c.args.name _ (known c.args.pass.now) (view c.unlock.new.steps) c.requires.bucket (returns-clause-answer g c)

pub returns-clause-stay : goal.returns-clause-stay
returns-clause-stay g c = λ hash place.
    let v : View = known c.args.pass.now in
    let w : View = view c.survey_chain-survey.new.steps in
    let s = c.survey_chain-survey.ensures in
    let is : w ≡ record (locking v c.args.bucket) { chain = w.chain } =
    ap (λ (x : Sat). x.0) s.kept ∙ ap (λ (x : Sat). record x.0 { chain = w.chain }) c.in_ok-locked.ensures.view in
    let listed : PlacesListed w = ⊎_elim (λ z. absurd (omega (arith, z, s.whole.0))) (λ z. z) s.known.3 in
    subst (λ (y : View). IsPlace y.book hash) (sym (ap (λ (y : Sat). y.0) c.unlock.ensures.view.2))
    (stay_of (seeks.Waiting c.args.name) c.survey_chain-survey.result w (known c.take_out.new.pass) s.surveyed s.known.2 c.survey_chain-survey.new.locked.bucket s.at.0.0 s.whole.0 (is_read w.chain.walked s.surveyed.cards) listed s.apart
    c.take_out.ensures.goes c.take_out.ensures.stay hash (subst (λ (y : View). IsPlace y.book hash) (sym is) place))

pub returns-clause-share : goal.returns-clause-share
returns-clause-share g c = λ more share.
    let w : View = view c.survey_chain-survey.new.steps in
    let is : w ≡ record (locking (known c.args.pass.now) c.args.bucket) { chain = w.chain } =
    ap (λ (x : Sat). x.0) c.survey_chain-survey.ensures.kept ∙ ap (λ (x : Sat). record x.0 { chain = w.chain }) c.in_ok-locked.ensures.view in
    subst (HasShares more) (sym (ap (λ (x : Sat). x.0) c.unlock.ensures.view.2)) (c.take_out.ensures.share more (subst (HasShares (more + 2)) (sym is) share))

pub unlock-requires-clause-alone : goal.unlock-requires-clause-alone
unlock-requires-clause-alone g c = inl (c.take_out.ensures.twice ∙ (ap (λ (x : Sat). x.0.twice) c.survey_chain-survey.ensures.kept ∙ ap (λ (x : Sat). x.0.twice) c.in_ok-locked.ensures.view))
