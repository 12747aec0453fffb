use Rattle.std.proofs.Common.{◌≡◌, ◌+◌, ◌++◌, ◌∷◌, [], ℕ, List, None, Some, true, inl, sym, ap, ◌∙◌, subst, refl}
use Rattle.table_rule.specs.Calls.{view, HasShares, seen_of}
use Rattle.table_rule.specs.Owners.{time_waits}
use Rattle.table_rule.specs.Plays.{Sat}
use Rattle.table_rule.specs.Words.{words_of}
use Rattle.table_rule.specs.declared.view.View.{View}
use Rattle.table_rule.specs.declared.view.Seen.{Seen}
use Rattle.table_rule.specs.declared.view.ChainView.{ChainView}
use Rattle.nulls_chain.specs.Changes.{Adds, OthersStay, Sees, WasChain, wait_in, waits_as}
use Rattle.nulls_chain.proofs.Found.{found_in, some_more, waits_full, was_before}
use Rattle.nulls_chain.proofs.Saw.{saw_same}
use Rattle.nulls_chain.proofs.leaving.unhash_tw.Goals as goal

-- the list with the TIME_WAIT that was met, and what follows
wait_met : (name : ℕ) (walked ahead more whole : List Seen) (s : Seen) → ahead ≡ s ∷ [] → whole ≡ (walked ++ ahead) ++ more → wait_in name walked ≡ None → waits_as name s.words ≡ true → wait_in name whole ≡ Some s
wait_met name walked ahead more whole s one is none waits = ap (wait_in name) (is ∙ ap (λ (l : List Seen). (walked ++ l) ++ more) one) ∙ some_more name walked more s none waits

pub unhash_slot-requires-clause-listed : goal.unhash_slot-requires-clause-listed
unhash_slot-requires-clause-listed c =
    let e = c.in_ok-slot.ensures in
    let s : Seen = seen_of c.in_ok-slot.slot c.in_ok-slot.card in
    let f = view c.find_wait.new.steps in
    let whole = (view c.walk_to_end.new.steps).chain.walked in
    let on = c.walk_to_end.ensures.on in
    (found_in (λ (x : Seen). waits_as c.args.name x.words) whole s c.walk_to_end.ensures.known.2 (wait_met c.args.name f.chain.walked f.chain.ahead on.0 whole s e.some.0 on.1 e.some.2 e.card.0)).0

pub unhash_slot-requires-clause-card : goal.unhash_slot-requires-clause-card
unhash_slot-requires-clause-card c =
    let e = c.in_ok-slot.ensures in
    let s : Seen = seen_of c.in_ok-slot.slot c.in_ok-slot.card in
    let f = view c.find_wait.new.steps in
    let whole = (view c.walk_to_end.new.steps).chain.walked in
    let on = c.walk_to_end.ensures.on in
    (found_in (λ (x : Seen). waits_as c.args.name x.words) whole s c.walk_to_end.ensures.known.2 (wait_met c.args.name f.chain.walked f.chain.ahead on.0 whole s e.some.0 on.1 e.some.2 e.card.0)).1 ∙ ap words_of (sym c.known_card.ensures)

pub unhash_slot-requires-clause-own : goal.unhash_slot-requires-clause-own
unhash_slot-requires-clause-own c =
    let e = c.in_ok-slot.ensures in
    let s : Seen = seen_of c.in_ok-slot.slot c.in_ok-slot.card in
    let f = view c.find_wait.new.steps in
    let whole = (view c.walk_to_end.new.steps).chain.walked in
    let on = c.walk_to_end.ensures.on in
    inl (ap time_waits (found_in (λ (x : Seen). waits_as c.args.name x.words) whole s c.walk_to_end.ensures.known.2 (wait_met c.args.name f.chain.walked f.chain.ahead on.0 whole s e.some.0 on.1 e.some.2 e.card.0)).1 ∙ waits_full c.args.name s.words e.card.0)

pub returns-clause-took : goal.returns-clause-took
returns-clause-took c =
    let e = c.in_ok-slot.ensures in
    let v = view c.args.pass.now.steps in
    let w = view c.unhash_slot.new.pass.steps in
    let s : Seen = seen_of c.in_ok-slot.slot c.in_ok-slot.card in
    let f = view c.find_wait.new.steps in
    let g = view c.walk_to_end.new.steps in
    let whole = g.chain.walked in
    let on = c.walk_to_end.ensures.on in
    let before : f ≡ record v { chain = f.chain } = ap (λ (x : Sat). x.0) c.find_wait.ensures.kept in
    let after : g ≡ record v { chain = g.chain } = ap (λ (x : Sat). x.0) c.walk_to_end.ensures.kept ∙ ap (λ (x : View). record x { chain = g.chain }) before in
    let bucket = c.find_wait.ensures.at.1 in
    let adds : Adds v w 0 c.walk_to_end.new.locked.bucket c.in_ok-slot.slot (words_of c.in_ok-slot.card) = subst (λ (x : View). Adds x w 0 c.walk_to_end.new.locked.bucket c.in_ok-slot.slot (words_of c.in_ok-slot.card)) after (subst (λ x. Adds g w 0 c.walk_to_end.new.locked.bucket c.in_ok-slot.slot (words_of x)) c.known_card.ensures c.unhash_slot.ensures.change) in (
      whole,
      s,
      was_before v f c.args.locked.now.bucket whole before (subst (λ (b : ℕ). WasChain whole b f) bucket (c.walk_to_end.ensures.sole e.some.1)),
      wait_met c.args.name f.chain.walked f.chain.ahead on.0 whole s e.some.0 on.1 e.some.2 e.card.0,
      refl,
      subst (λ (b : ℕ). Adds v w 0 b c.in_ok-slot.slot (words_of c.in_ok-slot.card)) (c.walk_to_end.ensures.at.2 ∙ bucket) adds,
      ap (λ (x : ChainView). x.walked) c.unhash_slot.ensures.gone,
    )

pub returns-clause-share : goal.returns-clause-share
returns-clause-share c = λ more share.
    let kept = c.walk_to_end.ensures.kept ∙ ap (λ (s : Sat). (record s.0 { chain = (view c.walk_to_end.new.steps).chain }, s.1)) c.find_wait.ensures.kept in
    c.unhash_slot.ensures.share more (subst (λ (s : Sat). HasShares (more + 2) s.0) (sym kept) share)

pub returns-clause-stay : goal.returns-clause-stay
returns-clause-stay c =
    let kept = c.walk_to_end.ensures.kept ∙ ap (λ (s : Sat). (record s.0 { chain = (view c.walk_to_end.new.steps).chain }, s.1)) c.find_wait.ensures.kept in
    subst (λ (s : Sat). OthersStay c.in_ok-slot.slot s.0 (view c.unhash_slot.new.pass.steps)) kept c.unhash_slot.ensures.stay

pub returns-clause-saw : goal.returns-clause-saw
returns-clause-saw c =
    let kept = c.walk_to_end.ensures.kept ∙ ap (λ (s : Sat). (record s.0 { chain = (view c.walk_to_end.new.steps).chain }, s.1)) c.find_wait.ensures.kept in
    subst (λ (s : Sat). Sees s.0 (view c.unhash_slot.new.pass.steps)) kept c.unhash_slot.ensures.saw

pub returns-in_err-slot-clause-saw : goal.returns-in_err-slot-clause-saw
returns-in_err-slot-clause-saw c = saw_same (view c.args.pass.now.steps) (view c.find_wait.new.steps) (ap (λ (s : Sat). s.0.sights) c.find_wait.ensures.kept)
