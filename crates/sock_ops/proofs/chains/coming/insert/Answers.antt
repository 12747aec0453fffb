use Rattle.std.proofs.Common.{◌≡◌, ℕ, Result, ap, sym, subst}
use Rattle.table_rule.specs.Calls.{layout_of}
use Rattle.table_rule.specs.Passes.{known}
use Rattle.table_rule.specs.declared.view.Layout.{Layout}
use Rattle.table_rule.specs.declared.view.View.{View}
use Rattle.established.specs.Comings as spec
use Rattle.established.specs.Alone.{InsertsAlone}
use Rattle.established.specs.declared.survey.Newcomer.{Newcomer}
use Rattle.race_record.specs.Deeds.{Wish}
use Rattle.established.specs.declared.coming.Inserted.{Inserted}
use Rattle.established.specs.declared.coming.InsertEnd.{InsertEnd}
use Rattle.sock_ops.specs.Answers.{Inserts, RoomBy}
use Rattle.sock_ops.specs.declared.chains.table.ChainPass.{ChainPass}
use Rattle.sock_ops.proofs.Left.{side}
use Rattle.sock_ops.proofs.Comes.{next_by, inserts_of, refused_closed}
use Rattle.sock_ops.proofs.Rooms.{no_room_taken}
use Rattle.sock_ops.proofs.chains.coming.insert.Goals as goal

pub returns-in-Ok-clause-inserts : goal.returns-in-Ok-clause-inserts
returns-in-Ok-clause-inserts g c =
    let t = c.args.table.now in
    let from : ℕ = c.args.pass.now.next in
    let wish : Wish = record { card = c.args.card.now; moment = c.args.moment; rule = c.args.rule } in
    let new : Newcomer = record { card = c.args.card.now; moment = c.args.moment; replace = c.args.rule } in
    let r = c.in_ok-answer.answer in
    let b : ℕ = c.bucket_of-bucket.result in
    let v : View = known c.args.pass.now.pass in
    let w : View = known c.insert.new.pass in
    let laid : layout_of t.chains ≡ t.layout = sym t.laid in
    let answer = subst (λ (l : Layout). spec.Inserts l from b new r v w) laid c.in_ok-answer.ensures.answer in
    let alone = subst (λ (l : Layout). InsertsAlone l from b new r v w) laid c.in_ok-answer.ensures.alone in
    subst (λ (n : ℕ). Inserts wish r (side t.layout v from) (side t.layout w n)) (ap (next_by from) c.in-Ok.is)
    (inserts_of t.layout from b wish r v w c.bucket_of-bucket.ensures.below (sym c.bucket_of-bucket.ensures.home) answer alone c.in_ok-answer.ensures.stay)

pub returns-in_default-clause-inserts : goal.returns-in_default-clause-inserts
returns-in_default-clause-inserts g c =
    let t = c.args.table.now in
    let from : ℕ = c.args.pass.now.next in
    let wish : Wish = record { card = c.args.card.now; moment = c.args.moment; rule = c.args.rule } in
    let new : Newcomer = record { card = c.args.card.now; moment = c.args.moment; replace = c.args.rule } in
    let r = c.in_ok-answer.answer in
    let b : ℕ = c.bucket_of-bucket.result in
    let v : View = known c.args.pass.now.pass in
    let w : View = known c.insert.new.pass in
    let laid : layout_of t.chains ≡ t.layout = sym t.laid in
    let answer = subst (λ (l : Layout). spec.Inserts l from b new r v w) laid c.in_ok-answer.ensures.answer in
    let alone = subst (λ (l : Layout). InsertsAlone l from b new r v w) laid c.in_ok-answer.ensures.alone in
    subst (λ (n : ℕ). Inserts wish r (side t.layout v from) (side t.layout w n)) (ap (next_by from) c.in_default.is)
    (inserts_of t.layout from b wish r v w c.bucket_of-bucket.ensures.below (sym c.bucket_of-bucket.ensures.home) answer alone c.in_ok-answer.ensures.stay)

pub returns-in_default-clause-room : goal.returns-in_default-clause-room
returns-in_default-clause-room g c =
    let p : ChainPass = c.args.pass.now in
    let q : ChainPass = record { pass = c.insert.new.pass; next = p.next } in
    let l : Layout = layout_of c.args.table.now.chains in
    let b : ℕ = c.bucket_of-bucket.result in
    let new : Newcomer = record { card = c.args.card.now; moment = c.args.moment; replace = c.args.rule } in
    let answer = subst (λ (r : Result Inserted InsertEnd). spec.Inserts l p.next b new r (known p.pass) (known q.pass)) c.in_default.is c.in_ok-answer.ensures.answer in
    let none = no_room_taken p q c.in_ok-answer.ensures.room (refused_closed l p.next b new c.in_default.field-0 (known p.pass) (known q.pass) answer) in
    subst (λ (r : Result Inserted InsertEnd). RoomBy 2 r p q) (sym c.in_default.is) none
