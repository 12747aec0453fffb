use Rattle.std.proofs.Common.{rules, ◌≡◌, ◌≤◌, None, Some, ℕ, List, length, subst, inl, ap}
use Rattle.sock_script.specs.declared.parse.Mode.TheVariants as modes
use Rattle.inet_tool.specs.declared.fault.Fault.TheVariants as faults
use Rattle.inet_tool.specs.Races.{IsRaceOf}
use Rattle.inet_tool.specs.Table.{limit, HasFault, IsGood, ReadsInput, WritesFault, fault_text}
use Rattle.std.specs.Io.KnownBytes.{Appends}
use Rattle.inet_tool.specs.Verdict.{fault_status}
use Rattle.inet_tool.proofs.Faults.{good_by, no_fault, one_fault, told_by}
use Rattle.inet_tool.proofs.Told.{told}
use Rattle.inet_tool.proofs.race.serve.Given.{Over}
use Rattle.inet_tool.proofs.race.serve.Goals as goal

pub returns-in-Ok-Some-Line-clause-bad_script : goal.returns-in-Ok-Some-Line-clause-bad_script
returns-in-Ok-Some-Line-clause-bad_script g c = λ n is.
    let same : c.in-Ok-Some-Line.n ≡ n = cc in
    let stands : WritesFault modes.Race (g.S.Source.left c.args.source.now) (g.S.Source.left c.read_all.new.source)
    (g.K.Sink.written c.args.sink.now) (g.K.Sink.written c.write_all.new.sink) (faults.Line c.in-Ok-Some-Line.n) = search rules in
    subst (λ m. WritesFault modes.Race (g.S.Source.left c.args.source.now) (g.S.Source.left c.read_all.new.source)
    (g.K.Sink.written c.args.sink.now) (g.K.Sink.written c.write_all.new.sink) (faults.Line m)) same stands

pub returns-in-Ok-Some-Line-clause-broken : goal.returns-in-Ok-Some-Line-clause-broken
returns-in-Ok-Some-Line-clause-broken g c =
    let bytes : List ℕ = c.in-Ok.bytes.items in
    let bad : HasFault modes.Race bytes (faults.Line c.in-Ok-Some-Line.n) = search rules in
    told _ _ _ bytes c.in-Ok.ensures.whole
    (λ fault within other. inl (ap fault_status (one_fault modes.Race bytes (faults.Line c.in-Ok-Some-Line.n) fault bad other)))

pub returns-in-Ok-Some-Line-clause-complete : goal.returns-in-Ok-Some-Line-clause-complete
returns-in-Ok-Some-Line-clause-complete g c =
    let bytes : List ℕ = c.in-Ok.bytes.items in
    let bad : HasFault modes.Race bytes (faults.Line c.in-Ok-Some-Line.n) = search rules in
    told _ _ _ bytes c.in-Ok.ensures.whole
    (λ within good read written. absurd (no_fault modes.Race bytes (faults.Line c.in-Ok-Some-Line.n) good bad))

-- the capture is bad, and the reply says so
bad_capture : (g : Over) (c : goal.After-drop-bytes-in-Ok-Some-Capture g) → HasFault modes.Race c.in-Ok.bytes.items faults.Capture × (c.in-Ok-reply_to.reply.text.items ≡ fault_text faults.Capture)
bad_capture g c =
    let told : c.in-Ok-reply_to.reply.fault ≡ Some faults.Capture = search rules in
    told_by modes.Race (IsRaceOf c.args.lookers c.args.passes) c.in-Ok.bytes.items _ _ _ faults.Capture c.deref.ensures.value told c.in-Ok-reply_to.ensures

pub returns-in-Ok-Some-Capture-clause-bad_capture : goal.returns-in-Ok-Some-Capture-clause-bad_capture
returns-in-Ok-Some-Capture-clause-bad_capture g c = λ is.
    let reads : ReadsInput (g.S.Source.left c.args.source.now) (g.S.Source.left c.read_all.new.source) c.in-Ok.bytes.items = search rules in
    let out : Appends (g.K.Sink.written c.args.sink.now) (g.K.Sink.written c.write_all.new.sink) c.in-Ok-reply_to.reply.text.items = search rules in (
      c.in-Ok.bytes.items,
      reads,
      (bad_capture g c).0,
      subst (λ (text : List ℕ). Appends (g.K.Sink.written c.args.sink.now) (g.K.Sink.written c.write_all.new.sink) text) (bad_capture g c).1 out,
    )

pub returns-in-Ok-Some-Capture-clause-verdict : goal.returns-in-Ok-Some-Capture-clause-verdict
returns-in-Ok-Some-Capture-clause-verdict g c =
    let bytes : List ℕ = c.in-Ok.bytes.items in
    let bad : HasFault modes.Race bytes faults.Capture = (bad_capture g c).0 in
    let within : length bytes ≤ limit = search rules in
    told _ _ _ bytes c.in-Ok.ensures.whole (within, bad)

pub returns-in-Ok-Some-Capture-clause-broken : goal.returns-in-Ok-Some-Capture-clause-broken
returns-in-Ok-Some-Capture-clause-broken g c =
    let bytes : List ℕ = c.in-Ok.bytes.items in
    let bad : HasFault modes.Race bytes faults.Capture = (bad_capture g c).0 in
    told _ _ _ bytes c.in-Ok.ensures.whole
    (λ fault within other. inl (ap fault_status (one_fault modes.Race bytes faults.Capture fault bad other)))

pub returns-in-Ok-Some-Capture-clause-complete : goal.returns-in-Ok-Some-Capture-clause-complete
returns-in-Ok-Some-Capture-clause-complete g c =
    let bytes : List ℕ = c.in-Ok.bytes.items in
    let bad : HasFault modes.Race bytes faults.Capture = (bad_capture g c).0 in
    told _ _ _ bytes c.in-Ok.ensures.whole
    (λ within good read written. absurd (no_fault modes.Race bytes faults.Capture good bad))

-- the script is served, and its text written
raced : (g : Over) (c : goal.After-drop-bytes-2 g) → IsRaceOf c.args.lookers c.args.passes c.in-Ok.bytes.items c.in-Ok-reply_to.reply.text.items
raced g c =
    let told : c.in-Ok-reply_to.reply.fault ≡ None = search rules in
    good_by modes.Race (IsRaceOf c.args.lookers c.args.passes) c.in-Ok.bytes.items _ _ _ c.deref.ensures.value told c.in-Ok-reply_to.ensures

pub returns-clause-done : goal.returns-clause-done
returns-clause-done g c = λ is.
    let reads : ReadsInput (g.S.Source.left c.args.source.now) (g.S.Source.left c.read_all.new.source) c.in-Ok.bytes.items = search rules in
    let out : Appends (g.K.Sink.written c.args.sink.now) (g.K.Sink.written c.write_all.new.sink) c.in-Ok-reply_to.reply.text.items = search rules in
    (c.in-Ok.bytes.items, c.in-Ok-reply_to.reply.text.items, reads, raced g c, out)

-- so the input is good
good : (g : Over) (c : goal.After-drop-bytes-2 g) → IsGood modes.Race c.in-Ok.bytes.items
good g c = let out = (raced g c).0 in (out.0, out.1, out.3.script_is, out.3.capture_is)

pub returns-clause-verdict : goal.returns-clause-verdict
returns-clause-verdict g c =
    let bytes : List ℕ = c.in-Ok.bytes.items in
    let within : length bytes ≤ limit = search rules in
    told _ _ _ bytes c.in-Ok.ensures.whole (within, good g c)

pub returns-clause-broken : goal.returns-clause-broken
returns-clause-broken g c =
    let bytes : List ℕ = c.in-Ok.bytes.items in
    told _ _ _ bytes c.in-Ok.ensures.whole (λ fault within other. absurd (no_fault modes.Race bytes fault (good g c) other))
