use Rattle.std.proofs.Common.{◌≡◌, ℕ, ◌∷◌, [], ap, ◌∙◌, sym, subst}
use Rattle.table_rule.specs.Calls.{view}
use Rattle.table_rule.specs.Plays.{Sat, locking, IsAbove}
use Rattle.table_rule.specs.declared.view.View.{View}
use Rattle.table_rule.proofs.ChainSteps.{cons_is}
use Rattle.nulls_chain.specs.Changes.{WasChain}
use Rattle.race_run.proofs.Seeings.{saw_one, sole_locking}
use Rattle.race_run.proofs.chain_dump.listing.list_bucket.Goals as goal

pub returns-clause-lists : goal.returns-clause-lists
returns-clause-lists g c =
    let v : View = view c.args.steps.now in
    let u : View = view c.lock.new.steps in
    let w : View = view c.list.new.steps in
    let b : ℕ = c.args.bucket in
    let s = c.list.ensures in
    let had = c.unwrap-locked.ensures in
    let lv : u ≡ locking v b = ap (λ (y : Sat). y.0) (rw had at c.lock.ensures.view) in
    let at = rw had at c.lock.ensures.at in
    let b0 : c.unwrap-locked.result.bucket ≡ b = cons_is c.unwrap-locked.result.bucket b (sym at.0 ∙ ap (λ (y : View). y.chain.locked) lv) in
    let b1 : c.list.new.locked.bucket ≡ b = s.at.2 ∙ b0 in
    let walked : w ≡ record (locking v b) { chain = w.chain } = ap (λ (y : Sat). y.0) s.kept ∙ ap (λ (y : View). record y { chain = w.chain }) lv in
    record {
      row = record { instant = c.unlock.ensures.view.0; chain = w.chain.walked };
      above = subst (λ (y : View). IsAbove y c.unlock.ensures.view.0) walked c.unlock.ensures.view.1;
      is-chain = (s.known.0, s.known.2);
      listed = s.listed;
      sole = sole_locking v b w.chain.walked (subst (λ (y : View). WasChain w.chain.walked b y) lv (subst (λ (n : ℕ). WasChain w.chain.walked n u) b0 s.sole));
      saw = saw_one v w (view c.unlock.new.steps) b c.unlock.ensures.view.0 walked (s.at.0.0 ∙ ap (λ (n : ℕ). n ∷ []) b1) s.whole.0 (ap (λ (y : Sat). y.0) c.unlock.ensures.view.2);
    }
