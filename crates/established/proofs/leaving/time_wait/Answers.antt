use Rattle.std.proofs.Common.{◌≡◌, ◌+◌, ℕ, inl, ◌∷◌, [], ap, ◌∙◌, sym, subst, arith}
use Rattle.table_rule.specs.Calls.{layout_of, view, HasShares}
use Rattle.table_rule.specs.Owners.{IsPlace}
use Rattle.table_rule.specs.Passes.{known}
use Rattle.table_rule.specs.Plays.{Sat, locking}
use Rattle.table_rule.specs.declared.view.View.{View}
use Rattle.table_rule.proofs.ChainSteps.{cons_is}
use Rattle.nulls_chain.specs.Changes.{Adds, IsPlaced, WasChain}
use Rattle.sock_card.specs.Words.{packed}
use Rattle.nulls_chain.proofs.Changed.{no_twin}
use Rattle.nulls_chain.proofs.Found.{is_apart, other_slot}
use Rattle.established.specs.Rows.{card_words}
use Rattle.established.specs.Comings.{HashesTo}
use Rattle.established.proofs.Hashes.{Said, waits_alone as alone_where_waits, hashes_to, known_after, placed_still, met_still}
use Rattle.established.proofs.Known.{walking_is, chain_is}
use Rattle.established.proofs.Alone.{waits_alone}
use Rattle.established.proofs.leaving.time_wait.Goals as goal

pub hash-answer-requires-clause-twin : goal.hash-answer-requires-clause-twin
hash-answer-requires-clause-twin g c = no_twin (packed c.args.card.now) (view c.walk_to_end.new.steps).chain.walked (alone_where_waits c.args.card.now (view c.walk_to_end.new.steps).chain.walked c.requires.waits)

pub unhash-requires-clause-known : goal.unhash-requires-clause-known
unhash-requires-clause-known g c =
    let e = c.hash-answer.ensures in
    known_after (layout_of c.args.chains.now) c.args.from c.walk_to_end.new.locked.bucket c.args.card.now (view c.walk_to_end.new.steps) (known c.hash-answer.new.pass) c.hash-answer.result
    (record { told = c.is_told.ensures.told; some = e.some; far = e.far; first = e.first; chain = e.chain; change = e.change; rest = e.rest; saw = e.saw; full = e.full; all = e.all })
    (ap (λ (x : Sat). x.0.book.opened) c.walk_to_end.ensures.kept ∙ (ap (λ (x : Sat). x.0.book.opened) c.in_ok-locked.ensures.view ∙ c.requires.idle.1)) e.known e.same c.walk_to_end.ensures.known

pub unhash-requires-clause-place : goal.unhash-requires-clause-place
unhash-requires-clause-place g c =
    let v : View = known c.args.pass.now in
    let p = c.args.place in
    let w : View = view c.walk_to_end.new.steps in
    let lv : view c.lock.new.steps ≡ locking v p.bucket = ap (λ (x : Sat). x.0) c.in_ok-locked.ensures.view in
    let b0 : c.in_ok-locked.locked.bucket ≡ p.bucket = cons_is c.in_ok-locked.locked.bucket p.bucket (sym c.in_ok-locked.ensures.at.0 ∙ ap (λ (x : View). x.chain.locked) lv) in
    let is : w ≡ record (locking v p.bucket) { chain = w.chain } =
    ap (λ (x : Sat). x.0) c.walk_to_end.ensures.kept ∙ ap (λ (x : Sat). record x.0 { chain = w.chain }) c.in_ok-locked.ensures.view in
    (placed_still p w (known c.hash-answer.new.pass) c.hash-answer.ensures.stay (subst (λ (x : View). IsPlaced p x.book) (sym is) c.requires.place), sym (c.walk_to_end.ensures.at.2 ∙ b0))

pub unhash-requires-clause-share : goal.unhash-requires-clause-share
unhash-requires-clause-share g c =
    let v : View = known c.args.pass.now in
    let w : View = view c.walk_to_end.new.steps in
    let is : w ≡ record (locking v c.args.place.bucket) { chain = w.chain } =
    ap (λ (x : Sat). x.0) c.walk_to_end.ensures.kept ∙ ap (λ (x : Sat). record x.0 { chain = w.chain }) c.in_ok-locked.ensures.view in
    c.hash-answer.ensures.share 2 (subst (HasShares 4) (sym is) c.requires.share)

pub returns-clause-answer : goal.returns-clause-answer
returns-clause-answer g c =
    let layout = layout_of c.args.chains.now in
    let v : View = known c.args.pass.now in
    let u : View = view c.lock.new.steps in
    let w : View = view c.walk_to_end.new.steps in
    let x : View = known c.hash-answer.new.pass in
    let p = c.args.place in
    let b : ℕ = p.bucket in
    let s = c.walk_to_end.ensures in
    let e = c.hash-answer.ensures in
    let lv : u ≡ locking v b = ap (λ (y : Sat). y.0) c.in_ok-locked.ensures.view in
    let b0 : c.in_ok-locked.locked.bucket ≡ b = cons_is c.in_ok-locked.locked.bucket b (sym c.in_ok-locked.ensures.at.0 ∙ ap (λ (y : View). y.chain.locked) lv) in
    let b1 : c.walk_to_end.new.locked.bucket ≡ b = s.at.2 ∙ b0 in
    let is = walking_is v u w b lv (ap (λ (y : Sat). y.0) s.kept) (s.at.0.0 ∙ ap (λ (n : ℕ). n ∷ []) b1) s.whole.0 s.whole.1 in
    let said : Said layout c.args.from c.walk_to_end.new.locked.bucket c.args.card.now w x c.hash-answer.result = record { told = c.is_told.ensures.told; some = e.some; far = e.far; first = e.first; chain = e.chain; change = e.change; rest = e.rest; saw = e.saw; full = e.full; all = e.all } in
    let came = hashes_to layout c.args.from c.walk_to_end.new.locked.bucket c.args.card.now w x c.hash-answer.result said in
    record {
      chain = w.chain.walked;
      seen = chain_is v u b w.chain.walked lv (subst (λ (n : ℕ). WasChain w.chain.walked n u) b0 (s.sole (ap (λ (y : View). y.chain.met) lv))) s.known.2;
      between = x;
      comes = subst (λ (y : View). HashesTo layout c.args.from b c.args.card.now w.chain.walked c.hash-answer.result y x) is
          (subst (λ (n : ℕ). HashesTo layout c.args.from n c.args.card.now w.chain.walked c.hash-answer.result w x) b1
          came);
      left = known c.unhash.new.pass;
      departs = record {
        chain = c.unhash.ensures.gone (met_still layout c.args.from c.walk_to_end.new.locked.bucket c.args.card.now w.chain.walked w x c.hash-answer.result came s.whole.0);
        change = subst (λ (n : ℕ). Adds x (known c.unhash.new.pass) 0 n p.slot (card_words p.card)) b1 c.unhash.ensures.change;
        rest = c.unhash.ensures.rest;
        saw = c.unhash.ensures.saw;
      };
      instant = c.unlock.ensures.view.0;
      unlocked = ap (λ (y : Sat). y.0) c.unlock.ensures.view.2;
    }

pub returns-clause-alone : goal.returns-clause-alone
returns-clause-alone g c = waits_alone (layout_of c.args.chains.now) c.args.from c.args.place c.args.card.now c.hash-answer.result (known c.args.pass.now) (view c.unlock.new.steps) c.requires.from c.requires.bucket c.requires.home (returns-clause-answer g c)

pub returns-clause-stay : goal.returns-clause-stay
returns-clause-stay g c = λ hash ne place.
    let v : View = known c.args.pass.now in
    let w : View = view c.walk_to_end.new.steps in
    let is : w ≡ record (locking v c.args.place.bucket) { chain = w.chain } =
    ap (λ (x : Sat). x.0) c.walk_to_end.ensures.kept ∙ ap (λ (x : Sat). record x.0 { chain = w.chain }) c.in_ok-locked.ensures.view in
    subst (λ (y : View). IsPlace y.book hash) (sym (ap (λ (y : Sat). y.0) c.unlock.ensures.view.2)) (c.unhash.ensures.stay hash ne (c.hash-answer.ensures.stay hash (subst (λ (y : View). IsPlace y.book hash) (sym is) place)))

pub returns-clause-others : goal.returns-clause-others
returns-clause-others g c = λ hash other place.
    let v : View = known c.args.pass.now in
    let p = c.args.place in
    let u : View = view c.lock.new.steps in
    let w : View = view c.walk_to_end.new.steps in
    let s = c.walk_to_end.ensures in
    let lv : u ≡ locking v p.bucket = ap (λ (y : Sat). y.0) c.in_ok-locked.ensures.view in
    let b0 : c.in_ok-locked.locked.bucket ≡ p.bucket = cons_is c.in_ok-locked.locked.bucket p.bucket (sym c.in_ok-locked.ensures.at.0 ∙ ap (λ (y : View). y.chain.locked) lv) in
    let is : w ≡ record (locking v p.bucket) { chain = w.chain } = ap (λ (y : Sat). y.0) s.kept ∙ ap (λ (y : View). record y { chain = w.chain }) lv in
    let locked : w.chain.locked ≡ p.bucket ∷ [] = s.at.0.0 ∙ ap (λ (n : ℕ). n ∷ []) (s.at.2 ∙ b0) in
    let placed : IsPlaced p w.book = subst (λ (y : View). IsPlaced p y.book) (sym is) c.requires.place in
    let apart = is_apart (layout_of c.args.chains.now) w p locked s.whole.0 s.known placed (s.apart (ap (λ (y : View). y.chain.met) lv)) in
    returns-clause-stay g c hash (other_slot (layout_of c.args.chains.now) w p locked s.whole.0 s.known placed apart hash other (subst (λ (y : View). IsPlace y.book hash) (sym is) place)) place

pub returns-clause-share : goal.returns-clause-share
returns-clause-share g c = λ more share.
    let v : View = known c.args.pass.now in
    let w : View = view c.walk_to_end.new.steps in
    let is : w ≡ record (locking v c.args.place.bucket) { chain = w.chain } =
    ap (λ (x : Sat). x.0) c.walk_to_end.ensures.kept ∙ ap (λ (x : Sat). record x.0 { chain = w.chain }) c.in_ok-locked.ensures.view in
    subst (HasShares more) (sym (ap (λ (x : Sat). x.0) c.unlock.ensures.view.2)) (c.unhash.ensures.share more (c.hash-answer.ensures.share (more + 2) (let z = subst (HasShares (more + 4)) (sym is) share in omega (arith, z))))

pub unlock-requires-clause-alone : goal.unlock-requires-clause-alone
unlock-requires-clause-alone g c = inl (c.unhash.ensures.twice ∙ (c.hash-answer.ensures.twice (alone_where_waits c.args.card.now (view c.walk_to_end.new.steps).chain.walked c.requires.waits) ∙ (ap (λ (x : Sat). x.0.twice) c.walk_to_end.ensures.kept ∙ ap (λ (x : Sat). x.0.twice) c.in_ok-locked.ensures.view)))
