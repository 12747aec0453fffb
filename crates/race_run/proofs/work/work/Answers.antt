use Rattle.std.proofs.Common.{◌≡◌, ◌+◌, ◌%◌, ℕ, List, [], length, get_or, arith, rules, subst, sym, ap, ◌∙◌, Vec}
use Rattle.std.specs.Global.{Global}
use Rattle.capture_reader.specs.declared.packet.Item.{Item}
use Rattle.flat_list.specs.Ports.{size}
use Rattle.flat_list.specs.declared.header.Header.{Header}
use Rattle.flat_list.specs.declared.command.Command.{Command}
use Rattle.sock_ops.specs.declared.tables.Worker.{Worker}
use Rattle.race_run.specs.declared.jobs.Job.{Job}
use Rattle.race_run.specs.Scripts.{LooksNothingUp}
use Rattle.flat_list.specs.Fits.{FitsTables}
use Rattle.race_run.specs.Lookers.{HasLooked}
use Rattle.race_run.specs.Workers.{AreTables, IsFresh, part_of}
use Rattle.race_run.specs.Works.{IsWorked}
use Rattle.race_run.proofs.Working.{commands_at, count_is, few_in, looks_in, worked_section, worked_looker, told_none, ran}
use Rattle.race_run.proofs.work.work.Goals as goal

pub run_section-requires-clause-tables : goal.run_section-requires-clause-tables
run_section-requires-clause-tables g c =
    let it : AreTables c.header.result.now c.args.tables.now = subst (λ (h : Header). AreTables h c.args.tables.now) (sym c.header.ensures) c.requires.tables in
    search rules

pub run_section-requires-clause-worker : goal.run_section-requires-clause-worker
run_section-requires-clause-worker g c =
    let held = sym (c.deref_mut.ensures.value ∙ c.new-worker.ensures) in
    let it : IsFresh c.header.result.now c.args.tables.now (c.args.job.number + 1) c.deref_mut.result.now =
    subst (λ (w : Worker). IsFresh c.header.result.now c.args.tables.now (c.args.job.number + 1) w) held
    (subst (λ (h : Header). IsFresh h c.args.tables.now (c.args.job.number + 1) c.args.job.worker) (sym c.header.ensures) c.requires.ready.fresh) in
    search rules

pub run_section-requires-clause-number : goal.run_section-requires-clause-number
run_section-requires-clause-number g c =
    let count = count_is (λ (v : Vec Command Global). v.items) c.args.script.now c.sections-sections.result.now c.sections-sections.ensures in
    let few = c.requires.script.small.sections in
    omega (arith, count, few, c.if-number-sections.true)

pub run_section-requires-clause-range : goal.run_section-requires-clause-range
run_section-requires-clause-range g c =
    let it : FitsTables c.header.result.now = subst FitsTables (sym c.header.ensures) c.requires.script.header in
    let range = it.range in
    omega (arith, range)

pub run_section-requires-clause-even : goal.run_section-requires-clause-even
run_section-requires-clause-even g c =
    let it : FitsTables c.header.result.now = subst FitsTables (sym c.header.ensures) c.requires.script.header in
    let even : size c.header.result.now.range % 2 ≡ 0 = it.even in
    search rules

pub run_section-requires-clause-few : goal.run_section-requires-clause-few
run_section-requires-clause-few g c =
    let count = count_is (λ (v : Vec Command Global). v.items) c.args.script.now c.sections-sections.result.now c.sections-sections.ensures in
    let is = c.as_slice.ensures.value ∙ commands_at (λ (v : Vec Command Global). v.items) c.args.script.now c.sections-sections.result.now c.args.job.number c.index-sections-number.result c.sections-sections.ensures c.if-number-sections.true c.index-sections-number.is in
    let few = few_in c.args.script.now c.args.job.number c.as_slice.result.now c.requires.script (omega (arith, count, c.if-number-sections.true)) is in
    omega (arith, few)

pub run_section-requires-clause-looks : goal.run_section-requires-clause-looks
run_section-requires-clause-looks g c =
    let count = count_is (λ (v : Vec Command Global). v.items) c.args.script.now c.sections-sections.result.now c.sections-sections.ensures in
    let is = c.as_slice.ensures.value ∙ commands_at (λ (v : Vec Command Global). v.items) c.args.script.now c.sections-sections.result.now c.args.job.number c.index-sections-number.result c.sections-sections.ensures c.if-number-sections.true c.index-sections-number.is in
    let looks : LooksNothingUp c.as_slice.result.now = looks_in c.args.script.now c.args.job.number c.as_slice.result.now c.requires.script (omega (arith, count, c.if-number-sections.true)) is in
    search rules

pub look_share-requires-clause-tables : goal.look_share-requires-clause-tables
look_share-requires-clause-tables g c =
    let held = sym (c.deref_mut-2.ensures.value ∙ c.new-worker.ensures) in
    let fresh = subst (λ (w : Worker). IsFresh c.args.script.now.header c.args.tables.now (c.args.job.number + 1) w) held c.requires.ready.fresh in
    let it : (x : Header) × AreTables x c.args.tables.now × (m : ℕ) × IsFresh x c.args.tables.now m c.deref_mut-2.result.now =
    (c.args.script.now.header, c.requires.tables, c.args.job.number + 1, fresh) in
    search rules

pub look_share-requires-clause-tickets : goal.look_share-requires-clause-tickets
look_share-requires-clause-tickets g c κs within = omega (arith, c.requires.tickets, ap (λ (l : List Item). length l) c.items.ensures)

pub returns : goal.returns
returns g c =
    let e = c.in_ok-told.ensures in
    let count = count_is (λ (v : Vec Command Global). v.items) c.args.script.now c.sections-sections.result.now c.sections-sections.ensures in
    let j : Worker → Job = λ w. record { worker = w; draws = c.look_share.new.draws; number = c.args.job.number; replies = c.args.job.replies; listings = c.args.job.listings; told = c.in_ok-told.told } in
    let looked = subst (λ (l : List Item). HasLooked c.args.script.now.header c.args.passes l (part_of c.look_share.new.worker) c.in_ok-told.told.items) c.items.ensures (e.looked c.args.script.now.header c.requires.tables) in
    let worked = worked_looker c.args.script.now c.args.passes c.args.capture.now.items c.args.tables.now c.args.tickets.now c.args.job.number (j c.look_share.new.worker)
    (record { rest = e.rest; turn_part = e.turn_part; chain_part = e.chain_part; draws = e.draws })
    (omega (arith, count, c.if-number-sections.false))
    (record { looked = looked; missed = e.missed; replies = c.requires.ready.replies; listings = c.requires.ready.listings }) in
    subst (λ (w : Worker). IsWorked c.args.script.now c.args.passes c.args.capture.now.items c.args.tables.now c.args.tickets.now c.args.job.number (j w)) (sym c.into_inner-2.ensures) worked

pub returns-then-number-sections : goal.returns-then-number-sections
returns-then-number-sections g c =
    let e = c.in_ok-replies.ensures in
    let count = count_is (λ (v : Vec Command Global). v.items) c.args.script.now c.sections-sections.result.now c.sections-sections.ensures in
    let is = c.as_slice.ensures.value ∙ commands_at (λ (v : Vec Command Global). v.items) c.args.script.now c.sections-sections.result.now c.args.job.number c.index-sections-number.result c.sections-sections.ensures c.if-number-sections.true c.index-sections-number.is in
    let j : Worker → Job = λ w. record { worker = w; draws = c.args.job.draws; number = c.args.job.number; replies = c.in_ok-replies.field-0.replies; listings = c.in_ok-replies.field-0.listings; told = c.args.job.told } in
    let drawn = told_none c.args.tickets.now c.args.job.draws c.args.job.told.items c.requires.ready.draws c.requires.ready.told in
    let worked = worked_section c.args.script.now c.args.passes c.args.capture.now.items c.args.tables.now c.args.tickets.now c.args.job.number (j c.run_section.new.worker)
    (record { rest = e.rest; turn_part = e.turn_part; chain_part = e.chain_part; draws = drawn })
    (omega (arith, count, c.if-number-sections.true))
    (ran c.header.result.now c.args.script.now.header (c.args.job.number + 1) c.as_slice.result.now (get_or c.args.script.now.sections c.args.job.number []) (j c.run_section.new.worker) c.header.ensures is e.done c.requires.ready.told) in
    subst (λ (w : Worker). IsWorked c.args.script.now c.args.passes c.args.capture.now.items c.args.tables.now c.args.tickets.now c.args.job.number (j w)) (sym c.into_inner.ensures) worked
