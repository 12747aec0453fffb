use Rattle.std.proofs.Common.{rules, arith, ◌≡◌}
use Rattle.std.specs.Prelude.{Err}
use Rattle.capture_reader.specs.declared.capture.CaptureEnd.TheVariants as ends
use Rattle.race_run.proofs.ForRace.{scripts_are_for_race}
use Rattle.inet_tool.specs.declared.fault.Fault.TheVariants as faults
use Rattle.inet_tool.specs.Races.{IsRaceOf}
use Rattle.sock_script.specs.declared.parse.Mode.TheVariants as modes
use Rattle.inet_tool.proofs.Faults.{bad_reply}
use Rattle.inet_tool.proofs.Raced.{differ, fits, race_out}
use Rattle.inet_tool.proofs.race.reply_to.Goals as goal

pub start-requires : goal.start-requires
start-requires g c =
    (scripts_are_for_race c.args.bytes.now c.in-Ok.script c.in-Ok.ensures.script (c.in-Ok.ensures.small c.requires.within)).header

pub race-requires-clause-script : goal.race-requires-clause-script
race-requires-clause-script g c = λ lives within.
    scripts_are_for_race c.args.bytes.now c.in-Ok.script c.in-Ok.ensures.script (c.in-Ok.ensures.small c.requires.within)

pub tell-requires-clause-script : goal.tell-requires-clause-script
tell-requires-clause-script g c =
    scripts_are_for_race c.args.bytes.now c.in-Ok.script c.in-Ok.ensures.script (c.in-Ok.ensures.small c.requires.within)

pub render-requires-clause-slots : goal.render-requires-clause-slots
render-requires-clause-slots g c =
    fits c.in-Ok.script c.in-Ok-read.capture c.args.lookers c.args.passes c.in_ok-ended.ended c.in_ok-told.told c.in_ok-told.ensures

pub render-requires-clause-stamps : goal.render-requires-clause-stamps
render-requires-clause-stamps g c =
    differ c.in-Ok.script c.in-Ok-read.capture c.args.lookers c.args.passes c.in_ok-ended.ended c.in_ok-told.told c.in_ok-told.ensures

pub returns : goal.returns
returns g c =
    race_out c.in-Ok.script c.in-Ok-read.capture c.args.lookers c.args.passes c.in_ok-ended.ended c.in_ok-told.told c.in_ok-told.ensures
    c.args.bytes.now c.in_ok-text.text.items (λ i. omega (arith, c.type_inv.bytes i)) c.requires.within (omega arith) (omega arith) (c.in-Ok.ensures.small c.requires.within)
    c.in-Ok.ensures.script c.in-Ok-read.ensures.capture c.in_ok-text.ensures

pub returns-in-Err-BadHead : goal.returns-in-Err-BadHead
returns-in-Err-BadHead g c =
    let is : c.read.result ≡ Err ends.BadHead = search rules in
    let none = c.read.ensures.bad_head.0 is in
    bad_reply modes.Race (IsRaceOf c.args.lookers c.args.passes) c.args.bytes.now faults.Capture c.refusal-in-Err-BadHead.result
    (c.in-Ok.script, c.in-Ok.ensures.script, none.0, none.1)
    c.refusal-in-Err-BadHead.ensures.text c.refusal-in-Err-BadHead.ensures.fault
