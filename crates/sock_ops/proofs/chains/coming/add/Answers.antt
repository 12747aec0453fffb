use Rattle.std.proofs.Common.{◌≡◌, ℕ, Result, ap, sym, subst}
use Rattle.table_rule.specs.Calls.{layout_of}
use Rattle.table_rule.specs.Passes.{known}
use Rattle.table_rule.specs.declared.view.Layout.{Layout}
use Rattle.table_rule.specs.declared.view.View.{View}
use Rattle.established.specs.Comings as spec
use Rattle.established.specs.Alone.{AddsAlone}
use Rattle.nulls_chain.specs.declared.keeping.Place.{Place}
use Rattle.sock_slots.specs.declared.fresh.Full.{Full}
use Rattle.sock_ops.specs.Answers.{Adds, RoomBy}
use Rattle.sock_ops.specs.declared.chains.table.ChainPass.{ChainPass}
use Rattle.sock_ops.proofs.Left.{side}
use Rattle.sock_ops.proofs.Comes.{next_after_add, adds_of, full_closed}
use Rattle.sock_ops.proofs.Rooms.{no_room_taken}
use Rattle.sock_ops.proofs.chains.coming.add.Goals as goal

pub returns-in-Ok-clause-adds : goal.returns-in-Ok-clause-adds
returns-in-Ok-clause-adds g c =
    let t = c.args.table.now in
    let from : ℕ = c.args.pass.now.next in
    let card = c.args.card.now in
    let r = c.in_ok-answer.answer in
    let b : ℕ = c.bucket_of-bucket.result in
    let v : View = known c.args.pass.now.pass in
    let w : View = known c.add.new.pass in
    let laid : layout_of t.chains ≡ t.layout = sym t.laid in
    let answer = subst (λ (l : Layout). spec.Adds l from b card r v w) laid c.in_ok-answer.ensures.answer in
    let alone = subst (λ (l : Layout). AddsAlone l from b card r v w) laid c.in_ok-answer.ensures.alone in
    subst (λ (n : ℕ). Adds card r (side t.layout v from) (side t.layout w n)) (ap (next_after_add from) c.in-Ok.is)
    (adds_of t.layout from b card r v w (sym c.bucket_of-bucket.ensures.home) answer alone c.in_ok-answer.ensures.stay)

pub returns-in_default-clause-adds : goal.returns-in_default-clause-adds
returns-in_default-clause-adds g c =
    let t = c.args.table.now in
    let from : ℕ = c.args.pass.now.next in
    let card = c.args.card.now in
    let r = c.in_ok-answer.answer in
    let b : ℕ = c.bucket_of-bucket.result in
    let v : View = known c.args.pass.now.pass in
    let w : View = known c.add.new.pass in
    let laid : layout_of t.chains ≡ t.layout = sym t.laid in
    let answer = subst (λ (l : Layout). spec.Adds l from b card r v w) laid c.in_ok-answer.ensures.answer in
    let alone = subst (λ (l : Layout). AddsAlone l from b card r v w) laid c.in_ok-answer.ensures.alone in
    subst (λ (n : ℕ). Adds card r (side t.layout v from) (side t.layout w n)) (ap (next_after_add from) c.in_default.is)
    (adds_of t.layout from b card r v w (sym c.bucket_of-bucket.ensures.home) answer alone c.in_ok-answer.ensures.stay)

pub returns-in_default-clause-room : goal.returns-in_default-clause-room
returns-in_default-clause-room g c =
    let p : ChainPass = c.args.pass.now in
    let q : ChainPass = record { pass = c.add.new.pass; next = p.next } in
    let l : Layout = layout_of c.args.table.now.chains in
    let b : ℕ = c.bucket_of-bucket.result in
    let card = c.args.card.now in
    let answer = subst (λ (r : Result Place Full). spec.Adds l p.next b card r (known p.pass) (known q.pass)) c.in_default.is c.in_ok-answer.ensures.answer in
    let none = no_room_taken p q c.in_ok-answer.ensures.room (full_closed l p.next b card c.in_default.field-0 (known p.pass) (known q.pass) answer) in
    subst (λ (r : Result Place Full). RoomBy 1 r p q) (sym c.in_default.is) none
