use Rattle.std.proofs.Common.{◌≡◌, ℕ, inl, ap, ◌∙◌, sym, subst}
use Rattle.table_rule.specs.Calls.{layout_of, view, HasShares}
use Rattle.table_rule.specs.Passes.{known}
use Rattle.table_rule.specs.Plays.{Sat, locking}
use Rattle.table_rule.specs.Owners.{IsPlace}
use Rattle.table_rule.specs.declared.view.View.{View}
use Rattle.nulls_chain.specs.Changes.{Adds}
use Rattle.established.specs.Rows.{card_words}
use Rattle.established.proofs.Known.{sees_unlocked, since_at, since_known}
use Rattle.established.proofs.Alone.{leaves_alone}
use Rattle.established.proofs.leaving.remove.Goals as goal

pub unhash-requires-clause-at : goal.unhash-requires-clause-at
unhash-requires-clause-at c = since_at (layout_of c.args.chains.now) c.requires.locked.0 (known c.args.pass.now) c.args.locked c.args.place.bucket c.requires.bucket c.requires.locked.1

pub unhash-requires-clause-known : goal.unhash-requires-clause-known
unhash-requires-clause-known c = since_known (layout_of c.args.chains.now) c.requires.locked.0 (known c.args.pass.now) c.args.locked c.args.place.bucket c.requires.locked.1

pub unhash-requires-clause-place : goal.unhash-requires-clause-place
unhash-requires-clause-place c = (c.requires.place, sym c.requires.locked.1.bucket_is)

pub returns-clause-goes : goal.returns-clause-goes
returns-clause-goes c = λ v since.
    let u : View = known c.args.pass.now in
    let x : View = known c.unhash.new.pass in
    let p = c.args.place in
    let lv : u ≡ locking v p.bucket = since.view in
    let un = ap (λ (y : Sat). y.0) c.unlock.ensures.view.2 in
    record {
      change = subst (λ (y : View). Adds v y 0 p.bucket p.slot (card_words p.card)) (sym un)
          (subst (λ (y : View). Adds y x 0 p.bucket p.slot (card_words p.card)) lv
          (subst (λ (n : ℕ). Adds u x 0 n p.slot (card_words p.card)) since.bucket_is c.unhash.ensures.change));
      saw = sees_unlocked u x (view c.unlock.new.steps) v c.unlock.ensures.view.0 lv un c.unhash.ensures.saw;
      quiet = (
        ap (λ (y : View). y.book.lost) un ∙ (c.unhash.ensures.rest.2 ∙ ap (λ (y : View). y.book.lost) lv),
        ap (λ (y : View). y.slot.taken) un ∙ (c.unhash.ensures.rest.3 ∙ ap (λ (y : View). y.slot.taken) lv),
        ap (λ (y : View). y.read) un ∙ (c.unhash.ensures.rest.4 ∙ ap (λ (y : View). y.read) lv),
      );
    }

pub returns-clause-alone : goal.returns-clause-alone
returns-clause-alone c = λ v since. leaves_alone (layout_of c.args.chains.now) c.args.place v (view c.unlock.new.steps) c.requires.bucket (returns-clause-goes c v since).change

pub returns-clause-stay : goal.returns-clause-stay
returns-clause-stay c = λ hash ne place. subst (λ (y : View). IsPlace y.book hash) (sym (ap (λ (y : Sat). y.0) c.unlock.ensures.view.2)) (c.unhash.ensures.stay hash ne place)

pub returns-clause-others : goal.returns-clause-others
returns-clause-others c = λ hash other place.
    let unmet = inl (ap (λ (y : View). y.chain.met) c.requires.locked.1.view) in
    subst (λ (y : View). IsPlace y.book hash) (sym (ap (λ (y : Sat). y.0) c.unlock.ensures.view.2)) (c.unhash.ensures.others unmet hash other place)

pub returns-clause-share : goal.returns-clause-share
returns-clause-share c = λ more share. subst (HasShares more) (sym (ap (λ (y : Sat). y.0) c.unlock.ensures.view.2)) (c.unhash.ensures.share more share)

pub unlock-requires-clause-alone : goal.unlock-requires-clause-alone
unlock-requires-clause-alone c = inl (c.unhash.ensures.twice ∙ ap (λ (x : View). x.twice) c.requires.locked.1.view)
