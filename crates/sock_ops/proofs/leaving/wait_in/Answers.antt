use Rattle.std.proofs.Common.{inl, inr, refl, ◌≡◌, ◌++◌, ◌∷◌, [], List, Ok, Err, ap, sym, subst, ◌∙◌, ◌%◌}
use Rattle.sock_card.specs.Conflict.{owner_key}
use Rattle.sock_card.specs.declared.owner.Owner.{Owner}
use Rattle.sock_card.specs.declared.card.Kind.TheVariants as kinds
use Rattle.sock_card.specs.Became.{as_waiting}
use Rattle.turn_table.specs.Passes.{known}
use Rattle.bind_buckets.specs.Notes.{Note}
use Rattle.bind_buckets.specs.Bucket.{entries_of}
use Rattle.bind_buckets.specs.Turned.{made}
use Rattle.chain_book.specs.Homes.{home}
use Rattle.flat_list.specs.Owned.{card_as}
use Rattle.nulls_chain.specs.declared.keeping.Place.{Place as Stood}
use Rattle.sock_ops.specs.Sides.{side_of}
use Rattle.table_model.specs.Own.{Mine}
use Rattle.sock_ops.specs.Closes.{WaitsAs, leave_entry}
use Rattle.sock_ops.specs.Stands.{buckets_of}
use Rattle.sock_ops.proofs.Goes.{asked_all}
use Rattle.sock_ops.proofs.CloseGoes.{same_home, wait_entry, close_waits, close_goes, none_listed}
use Rattle.reuseport_group.specs.Passes as lists
use Rattle.port_search.proofs.TurnSearch.{nothing_made}
use Rattle.sock_ops.specs.Groups.{LeavesAs}
use Rattle.sock_ops.proofs.Lists.{made_none, made_more, given_spares, sparing_keeps}
use Rattle.sock_ops.proofs.ListTurns.{leaves_as, left_keeps}
use Rattle.sock_ops.proofs.leaving.wait_in.Goals as goal

pub replace-requires-clause-chain : goal.replace-requires-clause-chain
replace-requires-clause-chain g c =
    let m : Mine = c.args.full.now in
    let own : c.full.inside.owner ≡ m.owner = ap (λ (x : Mine). x.owner) c.full.view_is in
    let l = c.args.tables.now.chains.layout in
    ap (home l.shape l.seed) (c.card_as-card.ensures ∙ ap (λ (o : Owner). card_as kinds.TimeWait o c.args.moment) (c.as_waiting-waiting.ensures ∙ ap as_waiting own))
    ∙ same_home l.shape l.seed m.owner c.args.moment m.extra ∙ sym c.requires.hashed.home ∙ sym (ap (λ (p : Stood). p.bucket) c.full_place.ensures)

pub returns-in_default-clause-nothing : goal.returns-in_default-clause-nothing
returns-in_default-clause-nothing g c = λ v within.
    nothing_made c.args.turn.place v (known c.give.new.pass) (made c.args.worker.now.turns c.args.turn) c.requires.made (c.give.ensures.gave v within)

pub returns-in_default-clause-lists : goal.returns-in_default-clause-lists
returns-in_default-clause-lists g c = λ v within. inl refl

pub returns-in_default-clause-listed : goal.returns-in_default-clause-listed
returns-in_default-clause-listed g c = λ v within.
    let p = c.args.worker.now.groups in
    none_listed (lists.groups c.args.tables.now.groups) v (known c.give.new.pass) p p refl
    (nothing_made c.args.turn.place v (known c.give.new.pass) (made c.args.worker.now.turns c.args.turn) c.requires.made (c.give.ensures.gave v within))

pub returns-in-Ok-clause-went : goal.returns-in-Ok-clause-went
returns-in-Ok-clause-went g c = λ v within.
    let m : Mine = c.args.full.now in
    let own : c.full.inside.owner ≡ m.owner = ap (λ (x : Mine). x.owner) c.full.view_is in
    let t = c.args.tables.now in
    let n = buckets_of t in
    let w = known c.give-in-Ok.new.pass in
    let k = side_of t.chains c.args.worker.now.chain in
    let d = side_of t.chains c.replace.new.pass in
    let asks = c.to_time_wait.ensures.asks in
    let once = asks.made_is ∙ ap (λ (ms : List Note). entries_of ms ++ wait_entry c.full.inside.owner ∷ []) c.requires.made ∙ ap (λ (o : Owner). wait_entry o ∷ []) own in
    let all = asked_all c.to_time_wait.new.turn.place (owner_key m.owner % n) (wait_entry m.owner ∷ []) v w (made c.to_time_wait.new.pass c.to_time_wait.new.turn) (asks.place ∙ c.requires.place) once (c.give-in-Ok.ensures.gave v (asks.within v within)) in
    let did = subst (λ r. WaitsAs c.full_place.result c.card_as-card.result k d r) c.in-Ok.is c.in-Some.ensures.waits in
    let waits = subst (λ (p : Stood). WaitsAs p c.card_as-card.result k d (Ok c.in-Ok.place)) c.full_place.ensures did in
    close_waits n m c.args.moment v w k d c.as_waiting-waiting.result c.card_as-card.result c.in-Ok.place (c.as_waiting-waiting.ensures ∙ ap as_waiting own) c.card_as-card.ensures waits all

pub returns-in-Err-clause-went : goal.returns-in-Err-clause-went
returns-in-Err-clause-went g c = λ v within.
    let m : Mine = c.args.full.now in
    let own : c.full.inside.owner ≡ m.owner = ap (λ (x : Mine). x.owner) c.full.view_is in
    let t = c.args.tables.now in
    let n = buckets_of t in
    let w = known c.give-in-Err.new.pass in
    let k = side_of t.chains c.args.worker.now.chain in
    let d = side_of t.chains c.replace.new.pass in
    let asks = c.leave-unlisted.ensures.asks in
    let once = asks.made_is ∙ ap (λ (ms : List Note). entries_of ms ++ leave_entry c.full.inside.owner ∷ []) c.requires.made ∙ ap (λ (o : Owner). leave_entry o ∷ []) own in
    let all = asked_all c.leave-unlisted.new.turn.place (owner_key m.owner % n) (leave_entry m.owner ∷ []) v w (made c.leave-unlisted.new.pass c.leave-unlisted.new.turn) (asks.place ∙ c.requires.place) once (c.give-in-Err.ensures.gave v (asks.within v within)) in
    let slots = c.in-Err.slots in
    let did = subst (λ r. WaitsAs c.full_place.result c.card_as-card.result k d r) c.in-Err.is c.in-Some.ensures.waits in
    let goes = subst (λ (p : Stood). WaitsAs p c.card_as-card.result k d (Err slots)) c.full_place.ensures did in
    close_goes n m c.args.moment v w k d c.as_waiting-waiting.result c.card_as-card.result slots.owned slots.held (c.as_waiting-waiting.ensures ∙ ap as_waiting own) c.card_as-card.ensures goes all

pub returns-in-Ok-clause-lists : goal.returns-in-Ok-clause-lists
returns-in-Ok-clause-lists g c = λ v within. inl refl

pub returns-in-Ok-clause-listed : goal.returns-in-Ok-clause-listed
returns-in-Ok-clause-listed g c = λ v within.
    let asks = c.to_time_wait.ensures.asks in
    let q = c.to_time_wait.new.pass in
    let turn = c.to_time_wait.new.turn in
    sparing_keeps (lists.groups c.args.tables.now.groups) v (known c.give-in-Ok.new.pass) c.args.worker.now.groups
    (given_spares turn.place v (known c.give-in-Ok.new.pass) (made q turn) (c.give-in-Ok.ensures.gave v (asks.within v within))
    (made_more c.args.tables.now.buckets c.args.worker.now.turns c.args.turn q turn _ _ asks (made_none (made c.args.worker.now.turns c.args.turn) c.requires.made) tt))

pub returns-in-Err-clause-lists : goal.returns-in-Err-clause-lists
returns-in-Err-clause-lists g c = λ v within.
    let m : Mine = c.args.full.now in
    let own : c.full.inside.owner ≡ m.owner = ap (λ (x : Mine). x.owner) c.full.view_is in
    let t = c.args.tables.now in
    let n = buckets_of t in
    let w = known c.give-in-Err.new.pass in
    let p = c.args.worker.now.groups in
    let q = c.leave-unlisted.new.passes in
    let e = c.leave-unlisted.ensures in
    let inside = e.asks.within v within in
    let leaves = subst (λ (o : Owner). LeavesAs (owner_key m.owner % n) o w p q) own
    (subst (λ i. LeavesAs i c.full.inside.owner w p q) c.requires.place
    (leaves_as t.buckets c.args.worker.now.turns c.args.turn c.leave-unlisted.new.pass c.leave-unlisted.new.turn c.full.inside.owner v w e.lists.0 p q e.sound.0 e.sound.1 c.requires.out e.asks
    inside (c.give-in-Err.ensures.gave v inside) e.lists.1)) in
    inr leaves

pub returns-in-Err-clause-listed : goal.returns-in-Err-clause-listed
returns-in-Err-clause-listed g c = λ v within.
    let m : Mine = c.args.full.now in
    let own : c.full.inside.owner ≡ m.owner = ap (λ (x : Mine). x.owner) c.full.view_is in
    let t = c.args.tables.now in
    let n = buckets_of t in
    let w = known c.give-in-Err.new.pass in
    let p = c.args.worker.now.groups in
    let q = c.leave-unlisted.new.passes in
    let e = c.leave-unlisted.ensures in
    let inside = e.asks.within v within in
    let leaves = subst (λ (o : Owner). LeavesAs (owner_key m.owner % n) o w p q) own
    (subst (λ i. LeavesAs i c.full.inside.owner w p q) c.requires.place
    (leaves_as t.buckets c.args.worker.now.turns c.args.turn c.leave-unlisted.new.pass c.leave-unlisted.new.turn c.full.inside.owner v w e.lists.0 p q e.sound.0 e.sound.1 c.requires.out e.asks
    inside (c.give-in-Err.ensures.gave v inside) e.lists.1)) in
    let once = e.asks.made_is ∙ ap (λ (ms : List Note). entries_of ms ++ leave_entry c.full.inside.owner ∷ []) c.requires.made ∙ ap (λ (o : Owner). leave_entry o ∷ []) own in
    let all = asked_all c.leave-unlisted.new.turn.place (owner_key m.owner % n) (leave_entry m.owner ∷ []) v w (made c.leave-unlisted.new.pass c.leave-unlisted.new.turn) (e.asks.place ∙ c.requires.place) once (c.give-in-Err.ensures.gave v inside) in
    left_keeps (lists.groups t.groups) (owner_key m.owner % n) m.owner v w p q all leaves
