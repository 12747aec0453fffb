use Rattle.std.proofs.Common.{◌++◌, ◌∙◌, length, map, ap, arith}
use Rattle.std.proofs.lemmas.List.{length-map}
use Rattle.sock_script.specs.Output.{Replies, new_flat}
use Rattle.sock_script.specs.Steps.{item_shown}
use Rattle.sock_script.proofs.Events.{same_replies}
use Rattle.sock_script.proofs.RunTurns.{commands_at, has_room, sections_next, sections_replied, sections_listed}
use Rattle.sock_script.proofs.SoundLists.{lists_sound}
use Rattle.sock_script.proofs.run.replies.Goals as goal

pub run_section-requires-clause-room : goal.run_section-requires-clause-room
run_section-requires-clause-room c =
    let at = commands_at _ c.args.script.now.sections c.loop-i.i c.commands-item.result c.sections-commands-items.ensures c.loop-i-test.true c.commands-item.is in
    let room = has_room (new_flat c.args.script.now.header) c.loop-i.flat c.args.script.now c.args.items.now c.loop-i.left.now c.loop-i.replies c.loop-i.i c.commands-item.result.items c.requires at.0 at.1 c.loop-i.invariant in
    rw c.deref.ensures.value room.1

pub loop-i-preserved : goal.loop-i-preserved
loop-i-preserved c =
    let at = commands_at _ c.args.script.now.sections c.loop-i.i c.commands-item.result c.sections-commands-items.ensures c.loop-i-test.true c.commands-item.is in
    sections_next (new_flat c.args.script.now.header) c.loop-i.flat c.run_section.new.flat c.args.script.now.sections c.args.items.now c.loop-i.left.now c.in_ok-left.left.now _ _ c.loop-i.i c.commands-item.result.items at.0 at.1 c.loop-i.invariant
    (rw c.deref.ensures.value at c.in_ok-left.ensures)

pub returns-in_err-left-clause-sound : goal.returns-in_err-left-clause-sound
returns-in_err-left-clause-sound c = lists_sound c.args.script.now c.requires

pub returns-clause-sound : goal.returns-clause-sound
returns-clause-sound c = lists_sound c.args.script.now c.requires

pub returns-in_err-look_up-clause-sound : goal.returns-in_err-look_up-clause-sound
returns-in_err-look_up-clause-sound c = lists_sound c.args.script.now c.requires

pub returns-clause-replied : goal.returns-clause-replied
returns-clause-replied c =
    let ran = c.loop-i.replies in
    let out : Replies = record { each = c.look_up.new.replies.items; listings = c.replies-2.inside.listings.items } in
    let looked = map (item_shown c.loop-i.flat) c.loop-i.left.now in
    sections_replied (new_flat c.args.script.now.header) c.loop-i.flat c.args.script.now.sections c.args.items.now c.loop-i.left.now ran out c.loop-i.i
    (omega (arith, ap length c.sections-commands-items.ensures, length-map c.sections-commands-items.result.now (λ v. v.items))) c.loop-i.invariant
    (same_replies out (record ran { each = ran.each ++ looked })
    (c.in_ok-look_up.ensures ∙ ap (λ (r : Replies). r.each ++ looked) c.replies-2.view_is) (ap (λ (r : Replies). r.listings) c.replies-2.view_is))

pub returns-clause-listed : goal.returns-clause-listed
returns-clause-listed c =
    let ran = c.loop-i.replies in
    let out : Replies = record { each = c.look_up.new.replies.items; listings = c.replies-2.inside.listings.items } in
    let looked = map (item_shown c.loop-i.flat) c.loop-i.left.now in
    sections_listed (new_flat c.args.script.now.header) c.loop-i.flat c.args.script.now.sections c.args.items.now c.loop-i.left.now ran out c.loop-i.i
    (omega (arith, ap length c.sections-commands-items.ensures, length-map c.sections-commands-items.result.now (λ v. v.items))) c.loop-i.invariant
    (same_replies out (record ran { each = ran.each ++ looked })
    (c.in_ok-look_up.ensures ∙ ap (λ (r : Replies). r.each ++ looked) c.replies-2.view_is) (ap (λ (r : Replies). r.listings) c.replies-2.view_is))
