use Rattle.std.proofs.Common.{◌≡◌, ◌+◌, ◌∷◌, [], ⊎_elim, sym, ap, ◌∙◌, subst}
use Rattle.table_rule.specs.Calls.{view, layout_of, HasShares}
use Rattle.table_rule.specs.Plays.{Sat}
use Rattle.table_rule.specs.declared.view.View.{View}
use Rattle.nulls_chain.specs.Changes.{Sees, IsPlaced, IsApart, OtherPlacesStay}
use Rattle.nulls_chain.proofs.Walked.{inside_of}
use Rattle.nulls_chain.proofs.Found.{place_listed, is_apart, others_stay}
use Rattle.nulls_chain.proofs.leaving.unhash_with.Goals as goal

pub unhash_slot_with-requires-clause-slot : goal.unhash_slot_with-requires-clause-slot
unhash_slot_with-requires-clause-slot g c =
    let e = c.walk_to_end.ensures in
    let v = view c.walk_to_end.new.steps in
    let there = place_listed (layout_of c.args.chains.now) v (view c.args.pass.now.steps).book c.args.place (e.at.0.0 ∙ ap (λ b. b ∷ []) (e.at.2 ∙ sym c.requires.place.1)) e.whole.0 (ap (λ (s : Sat). s.0.book) e.kept) e.known c.requires.place.0 in
    inside_of (layout_of c.args.chains.now).shape.slots c.args.place.slot v.chain.walked e.known.1 there.0

pub unhash_slot_with-requires-clause-card : goal.unhash_slot_with-requires-clause-card
unhash_slot_with-requires-clause-card g c =
    let e = c.walk_to_end.ensures in
    (place_listed (layout_of c.args.chains.now) (view c.walk_to_end.new.steps) (view c.args.pass.now.steps).book c.args.place (e.at.0.0 ∙ ap (λ b. b ∷ []) (e.at.2 ∙ sym c.requires.place.1)) e.whole.0 (ap (λ (s : Sat). s.0.book) e.kept) e.known c.requires.place.0).1

pub returns-clause-share : goal.returns-clause-share
returns-clause-share g c = λ more share. c.unhash_slot_with.ensures.share more (subst (λ (s : Sat). HasShares (more + 2) s.0) (sym c.walk_to_end.ensures.kept) share)

pub returns-clause-saw : goal.returns-clause-saw
returns-clause-saw g c = subst (λ (s : Sat). Sees s.0 (view c.unhash_slot_with.new.pass.steps)) c.walk_to_end.ensures.kept c.unhash_slot_with.ensures.saw

pub returns-clause-others : goal.returns-clause-others
returns-clause-others g c = λ how.
    let e = c.walk_to_end.ensures in
    let layout = layout_of c.args.chains.now in
    let p = c.args.place in
    let v : View = view c.walk_to_end.new.steps in
    let w : View = view c.unhash_slot_with.new.pass.steps in
    let locked : v.chain.locked ≡ p.bucket ∷ [] = e.at.0.0 ∙ ap (λ b. b ∷ []) (e.at.2 ∙ sym c.requires.place.1) in
    let placed : IsPlaced p v.book = subst (λ (s : Sat). IsPlaced p s.0.book) (sym e.kept) c.requires.place.0 in
    let apart : IsApart p v.book =
    ⊎_elim
    (λ fresh. is_apart layout v p locked e.whole.0 e.known placed (e.apart fresh))
    (λ was. subst (λ (s : Sat). IsApart p s.0.book) (sym e.kept) was)
    how in
    subst (λ (s : Sat). OtherPlacesStay p s.0 w) e.kept (others_stay layout v p locked e.whole.0 e.known placed w apart c.unhash_slot_with.ensures.stay)
