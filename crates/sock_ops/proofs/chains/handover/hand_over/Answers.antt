use Rattle.std.proofs.Common.{◌≡◌, ℕ, Result, IfErr, ap, sym, subst, ◌∙◌}
use Rattle.chain_book.specs.Homes.{home}
use Rattle.table_rule.specs.Calls.{layout_of}
use Rattle.table_rule.specs.Passes.{known}
use Rattle.table_rule.specs.declared.view.Layout.{Layout}
use Rattle.table_rule.specs.declared.view.View.{View}
use Rattle.sock_slots.specs.declared.fresh.Full.{Full}
use Rattle.nulls_chain.specs.Changes.{PlacesStay}
use Rattle.nulls_chain.specs.declared.keeping.Place.{Place}
use Rattle.established.specs.Handovers as spec
use Rattle.established.specs.Alone.{HandsAlone}
use Rattle.sock_ops.specs.Answers.{HandsOver, RoomBy}
use Rattle.sock_ops.specs.declared.chains.table.ChainPass.{ChainPass}
use Rattle.sock_ops.proofs.Homes.{near_of}
use Rattle.sock_ops.proofs.Left.{side}
use Rattle.sock_ops.proofs.Hands.{one_home, next_after_hand, hands_of, none_closed}
use Rattle.sock_ops.proofs.Rooms.{no_room_taken}
use Rattle.sock_ops.proofs.chains.handover.hand_over.Goals as goal

pub hand_over-requires-clause-bucket : goal.hand_over-requires-clause-bucket
hand_over-requires-clause-bucket g c = near_of c.args.table.now c.args.place c.requires.home

pub hand_over-requires-clause-home : goal.hand_over-requires-clause-home
hand_over-requires-clause-home g c =
    let t = c.args.table.now in
    let p = c.args.place in
    let card = c.args.card.now in
    subst (λ (l : Layout). home l.shape l.seed card ≡ p.bucket) t.laid
    (one_home t.layout.shape t.layout.seed card p.card c.requires.full c.requires.pending c.requires.tuple ∙ sym c.requires.home)

pub returns-in-Ok-clause-hands : goal.returns-in-Ok-clause-hands
returns-in-Ok-clause-hands g c =
    let t = c.args.table.now in
    let p = c.args.place in
    let from : ℕ = c.args.pass.now.next in
    let card = c.args.card.now in
    let r = c.in_ok-answer.answer in
    let v : View = known c.args.pass.now.pass in
    let w : View = known c.hand_over.new.pass in
    let laid : layout_of t.chains ≡ t.layout = sym t.laid in
    let answer = subst (λ (l : Layout). spec.HandsOver l from p card r v w) laid c.in_ok-answer.ensures.answer in
    let alone = subst (λ (l : Layout). HandsAlone l from p card r v w) laid c.in_ok-answer.ensures.alone in
    let at = one_home t.layout.shape t.layout.seed card p.card c.requires.full c.requires.pending c.requires.tuple ∙ sym c.requires.home in
    subst (λ (n : ℕ). HandsOver p card r (side t.layout v from) (side t.layout w n)) (ap (next_after_hand from) c.in-Ok.is)
    (hands_of t.layout from p card v w r c.is_told.ensures at answer alone c.in_ok-answer.ensures.others
    (λ e is. subst (λ (x : Result Place (Place × Full)). IfErr x (λ y. PlacesStay v w)) is c.in_ok-answer.ensures.all))

pub returns-in_default-clause-hands : goal.returns-in_default-clause-hands
returns-in_default-clause-hands g c =
    let t = c.args.table.now in
    let p = c.args.place in
    let from : ℕ = c.args.pass.now.next in
    let card = c.args.card.now in
    let r = c.in_ok-answer.answer in
    let v : View = known c.args.pass.now.pass in
    let w : View = known c.hand_over.new.pass in
    let laid : layout_of t.chains ≡ t.layout = sym t.laid in
    let answer = subst (λ (l : Layout). spec.HandsOver l from p card r v w) laid c.in_ok-answer.ensures.answer in
    let alone = subst (λ (l : Layout). HandsAlone l from p card r v w) laid c.in_ok-answer.ensures.alone in
    let at = one_home t.layout.shape t.layout.seed card p.card c.requires.full c.requires.pending c.requires.tuple ∙ sym c.requires.home in
    subst (λ (n : ℕ). HandsOver p card r (side t.layout v from) (side t.layout w n)) (ap (next_after_hand from) c.in_default.is)
    (hands_of t.layout from p card v w r c.is_told.ensures at answer alone c.in_ok-answer.ensures.others
    (λ e is. subst (λ (x : Result Place (Place × Full)). IfErr x (λ y. PlacesStay v w)) is c.in_ok-answer.ensures.all))

pub returns-in_default-clause-room : goal.returns-in_default-clause-room
returns-in_default-clause-room g c =
    let p : ChainPass = c.args.pass.now in
    let q : ChainPass = record { pass = c.hand_over.new.pass; next = p.next } in
    let l : Layout = layout_of c.args.table.now.chains in
    let card = c.args.card.now in
    let answer = subst (λ (r : Result Place (Place × Full)). spec.HandsOver l p.next c.args.place card r (known p.pass) (known q.pass)) c.in_default.is c.in_ok-answer.ensures.answer in
    let none = no_room_taken p q c.in_ok-answer.ensures.room (none_closed l p.next c.args.place card (known p.pass) (known q.pass) c.in_default.field-0 answer) in
    subst (λ (r : Result Place (Place × Full)). RoomBy 2 r p q) (sym c.in_default.is) none
