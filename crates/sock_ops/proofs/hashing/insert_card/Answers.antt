use Rattle.std.proofs.Common.{Err, Result, IfOk, sym, subst}
use Rattle.table_rule.specs.Passes.{known}
use Rattle.nulls_chain.specs.Changes.{IsPlaced}
use Rattle.established.specs.declared.coming.Inserted.{Inserted}
use Rattle.established.specs.declared.coming.InsertEnd.{InsertEnd}
use Rattle.sock_ops.specs.Answers.{Inserts, DrawnBy}
use Rattle.sock_ops.specs.Sides.{side_of}
use Rattle.sock_ops.specs.Hashing.{InsertsAs, DrawnAs, wish_of}
use Rattle.sock_ops.proofs.Inserted.{inserted_ok, inserted_err, drawn_err}
use Rattle.sock_ops.proofs.hashing.insert_card.Goals as goal

pub returns-in-Ok-clause-inserts : goal.returns-in-Ok-clause-inserts
returns-in-Ok-clause-inserts g c =
    let t = c.args.chains.now in
    let a = side_of t c.args.pass.now in
    let b = side_of t c.insert.new.pass in
    let wish = wish_of c.args.card.now c.args.moment c.args.rule in
    let inserts = subst (λ (r : Result Inserted InsertEnd). Inserts wish r a b) c.in-Ok.is c.in-Some.ensures.inserts in
    let place = subst (λ (r : Result Inserted InsertEnd). IfOk r (λ (i : Inserted). IsPlaced i.place (known c.insert.new.pass.pass).book)) c.in-Ok.is c.in-Some.ensures.place in
    inserted_ok wish a b c.in-Ok.inserted inserts place

pub returns-in-Err-clause-inserts : goal.returns-in-Err-clause-inserts
returns-in-Err-clause-inserts g c =
    let t = c.args.chains.now in
    let a = side_of t c.args.pass.now in
    let b = side_of t c.insert.new.pass in
    let wish = wish_of c.args.card.now c.args.moment c.args.rule in
    let inserts = subst (λ (r : Result Inserted InsertEnd). Inserts wish r a b) c.in-Err.is c.in-Some.ensures.inserts in
    subst (λ e. InsertsAs wish a b (Err e)) (sym c.end_of.ensures) (inserted_err wish a b c.in-Err.end inserts)

pub returns-in-Err-clause-share : goal.returns-in-Err-clause-share
returns-in-Err-clause-share g c =
    let v = known c.args.pass.now.pass in
    let w = known c.insert.new.pass.pass in
    let share = subst (λ (r : Result Inserted InsertEnd). DrawnBy r v w) c.in-Err.is c.in-Some.ensures.share in
    subst (λ e. DrawnAs (Err e) v w) (sym c.end_of.ensures) (drawn_err c.in-Err.end v w share)
