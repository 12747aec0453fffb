use Rattle.std.proofs.Common.{◌≡◌, ℕ, ◌+◌, ◌-◌, ◌^◌, ◌<◌, ◌∙◌, List, [], length, get_or, ap, subst, sym, arith}
use Rattle.std.proofs.lemmas.List.{length-map}
use Rattle.sock_script.specs.Output.{Replies, listings_from, events_from, issued_from}
use Rattle.sock_script.specs.Steps.{shown_from}
use Rattle.flat_list.specs.Flat.{new_flat}
use Rattle.flat_list.specs.declared.command.Command.{Command}
use Rattle.list_words.proofs.Items.{each_in, place_in}
use Rattle.sock_script.proofs.RunTurns.{commands_at, has_room}
use Rattle.flat_list.specs.Fits.{FitsTables}
use Rattle.race_run.specs.Sole.{tables_of}
use Rattle.section_machine.specs.Carried.{MayCarry}
use Rattle.race_run.specs.Steps.{commands_after}
use Rattle.race_run.proofs.SectionTurns.{Ran, ran_none, ran_next, every_replied, every_listed}
use Rattle.race_run.proofs.script_run.running.run.Goals as goal

-- the sections before the next one
before : (i : ℕ) → i ≡ i + 1 - 1
before i = omega arith

pub loop-i-init : goal.loop-i-init
loop-i-init g c =
    let e = c.in_ok-tables.ensures in
    let header = c.header-header.result.now in
    rw c.in_ok-replies.ensures
    (record {
      sole = e.sole;
      unspoken = e.unspoken;
      may = e.may;
      ran = subst (λ xs. Ran header c.args.script.now.sections xs c.items-left.result.now (record { each = []; listings = [] }) 0 (tables_of c.in_ok-tables.tables c.in_ok-tables.worker)) c.items-left.ensures
          (ran_none header c.args.script.now.sections c.items-left.result.now (tables_of c.in_ok-tables.tables c.in_ok-tables.worker) (subst FitsTables (sym c.header-header.ensures) c.requires.header) e.empty);
    })

pub run_section-requires : goal.run_section-requires
run_section-requires g c =
    let at = commands_at _ c.args.script.now.sections c.loop-i.i c.commands-item.result c.sections-commands-items.ensures c.loop-i-test.true c.commands-item.is in
    let i = c.loop-i.invariant in
    let room = has_room (new_flat c.header-header.result.now) i.ran.flat c.args.script.now c.args.capture.now.items c.loop-i.left.now c.loop-i.replies c.loop-i.i c.commands-item.result.items c.requires.small at.0 at.1 i.ran.ran in
    let commands : List Command = c.commands-item.result.items in
    let sections : List (List Command) = c.args.script.now.sections in
    let few : length commands < 2 ^ 24 = subst (λ (cs : List Command). length cs < 2 ^ 24) (sym at.1) (each_in (λ (cs : List Command). length cs < 2 ^ 24) (get_or sections c.loop-i.i commands) sections c.requires.small.commands (place_in sections c.loop-i.i commands at.0)) in
    record {
      header = subst FitsTables (sym c.header-header.ensures) c.requires.header;
      tables = c.in_ok-tables.ensures.of;
      first = omega arith;
      number = omega (arith, room.0);
      room = rw c.deref.ensures.value (omega (arith, few));
      sole = i.sole;
      unspoken = i.unspoken;
      may = subst (λ n. MayCarry (commands_after n) c.loop-i.worker) (before c.loop-i.i) i.may;
    }

pub loop-i-preserved : goal.loop-i-preserved
loop-i-preserved g c =
    let at = commands_at _ c.args.script.now.sections c.loop-i.i c.commands-item.result c.sections-commands-items.ensures c.loop-i-test.true c.commands-item.is in
    let e = c.in_ok-left.ensures in
    record {
      sole = e.sole;
      unspoken = e.unspoken;
      may = e.may;
      ran = ran_next c.header-header.result.now c.args.script.now.sections c.args.capture.now.items c.loop-i.left.now c.in_ok-left.left.now c.loop-i.replies c.run_section.new.replies c.loop-i.i (tables_of c.in_ok-tables.tables c.loop-i.worker) (tables_of c.in_ok-tables.tables c.run_section.new.worker) c.commands-item.result.items at.0 at.1
          (rw c.deref.ensures.value at e.runs) c.loop-i.invariant.ran;
    }

pub returns-clause-replied : goal.returns-clause-replied
returns-clause-replied g c =
    let header = c.header-header.result.now in
    let sections = c.args.script.now.sections in
    let items = c.args.capture.now.items in
    let left = c.loop-i.left.now in
    let t = tables_of c.in_ok-tables.tables c.loop-i.worker in
    let out : Replies = record { each = c.replies-2.inside.each.items; listings = c.replies-2.inside.listings.items } in
    let ran : Ran header sections items left out c.loop-i.i t =
    subst (λ (r : Replies). Ran header sections items left r c.loop-i.i t) (sym c.replies-2.view_is) c.loop-i.invariant.ran in
    every_replied header sections items left out c.look_up.new.replies.items c.loop-i.i t
    (omega (arith, ap length c.sections-commands-items.ensures, length-map c.sections-commands-items.result.now (λ v. v.items))) ran c.in_ok-look_up.ensures.answers
    ∙ ap (λ h. shown_from (new_flat h) (events_from items (issued_from 1 sections))) c.header-header.ensures

pub returns-clause-listed : goal.returns-clause-listed
returns-clause-listed g c =
    let header = c.header-header.result.now in
    let sections = c.args.script.now.sections in
    let items = c.args.capture.now.items in
    let left = c.loop-i.left.now in
    let t = tables_of c.in_ok-tables.tables c.loop-i.worker in
    let out : Replies = record { each = c.replies-2.inside.each.items; listings = c.replies-2.inside.listings.items } in
    let ran : Ran header sections items left out c.loop-i.i t =
    subst (λ (r : Replies). Ran header sections items left r c.loop-i.i t) (sym c.replies-2.view_is) c.loop-i.invariant.ran in
    every_listed header sections items left out c.look_up.new.replies.items c.loop-i.i t
    (omega (arith, ap length c.sections-commands-items.ensures, length-map c.sections-commands-items.result.now (λ v. v.items))) ran c.in_ok-look_up.ensures.answers
    ∙ ap (λ h. listings_from (new_flat h) (events_from items (issued_from 1 sections))) c.header-header.ensures
