use Rattle.std.proofs.Common.{rules, ◌≡◌, ◌⊎◌, ◌≤◌, ◌<◌, ℕ, map, string_bytes, subst, length}
use Rattle.std.specs.Prelude.{IfSome}
use Rattle.inet_io.specs.Ends.{Rose}
use Rattle.sock_script.specs.declared.parse.Mode.TheVariants as modes
use Rattle.inet_tool.specs.declared.fault.Fault.{Fault}
use Rattle.inet_tool.specs.declared.fault.Fault.TheVariants as faults
use Rattle.inet_tool.specs.declared.status.Status.TheVariants as statuses
use Rattle.inet_tool.specs.Races.{IsRaceOf, WritesRace}
use Rattle.inet_tool.specs.Table.{limit, HasFault, IsGood, WritesCounts, WritesFault, WritesFront, WritesFrontOfCounts}
use Rattle.inet_tool.specs.Verdict.{Answers, fault_status}
use Rattle.inet_tool.specs.Words.{Asks, IsRace, AsksToRead}
use Rattle.inet_tool.proofs.Asks.{by_mode, one_make, one_race, read_or_made, refused_read}
use Rattle.inet_tool.proofs.inet.Goals as goal

pub returns-in-Ok-Run-clause-bad_script : goal.returns-in-Ok-Run-clause-bad_script
returns-in-Ok-Run-clause-bad_script g c =
    let reads : AsksToRead modes.Run (map string_bytes c.args.words.now) = subst (Asks (map string_bytes c.args.words.now)) c.in-Ok-Run.field-0-is c.in-Ok-Run.ensures.asks in
    let left = g.S.Source.left c.args.source.now in
    let left_new = g.S.Source.left c.run.new.source in
    let written = g.K.Sink.written c.args.sink.now in
    let written_new = g.K.Sink.written c.run.new.sink in
    by_mode (map string_bytes c.args.words.now) (λ mode. (n : ℕ) → c.run.result ≡ statuses.BadScript n → WritesFault mode left left_new written written_new (faults.Line n)) modes.Run reads c.run.ensures.bad_script

pub returns-in-Ok-Run-clause-bad_capture : goal.returns-in-Ok-Run-clause-bad_capture
returns-in-Ok-Run-clause-bad_capture g c =
    let reads : AsksToRead modes.Run (map string_bytes c.args.words.now) = subst (Asks (map string_bytes c.args.words.now)) c.in-Ok-Run.field-0-is c.in-Ok-Run.ensures.asks in
    let left = g.S.Source.left c.args.source.now in
    let left_new = g.S.Source.left c.run.new.source in
    let written = g.K.Sink.written c.args.sink.now in
    let written_new = g.K.Sink.written c.run.new.sink in
    by_mode (map string_bytes c.args.words.now) (λ mode. c.run.result ≡ statuses.BadCapture → WritesFault mode left left_new written written_new faults.Capture) modes.Run reads c.run.ensures.bad_capture

pub returns-in-Ok-Run-clause-verdict : goal.returns-in-Ok-Run-clause-verdict
returns-in-Ok-Run-clause-verdict g c =
    let reads : AsksToRead modes.Run (map string_bytes c.args.words.now) = subst (Asks (map string_bytes c.args.words.now)) c.in-Ok-Run.field-0-is c.in-Ok-Run.ensures.asks in
    let left = g.S.Source.left c.args.source.now in
    let left_new = g.S.Source.left c.run.new.source in
    let written = g.K.Sink.written c.args.sink.now in
    let written_new = g.K.Sink.written c.run.new.sink in
    by_mode (map string_bytes c.args.words.now) (λ mode. IfSome left (λ bytes. Answers mode bytes c.run.result)) modes.Run reads c.run.ensures.verdict

pub returns-in-Ok-Run-clause-over_limit : goal.returns-in-Ok-Run-clause-over_limit
returns-in-Ok-Run-clause-over_limit g c =
    let reads : AsksToRead modes.Run (map string_bytes c.args.words.now) = subst (Asks (map string_bytes c.args.words.now)) c.in-Ok-Run.field-0-is c.in-Ok-Run.ensures.asks in
    let left = g.S.Source.left c.args.source.now in
    let left_new = g.S.Source.left c.run.new.source in
    let written = g.K.Sink.written c.args.sink.now in
    let written_new = g.K.Sink.written c.run.new.sink in
    by_mode (map string_bytes c.args.words.now) (λ mode. IfSome left (λ bytes. limit < length bytes → (c.run.result ≡ statuses.TooLong) ⊎ ((c.run.result ≡ statuses.ReadFault) ⊎ (c.run.result ≡ statuses.Memory)))) modes.Run reads c.run.ensures.over_limit

pub returns-in-Ok-Run-clause-broken : goal.returns-in-Ok-Run-clause-broken
returns-in-Ok-Run-clause-broken g c =
    let reads : AsksToRead modes.Run (map string_bytes c.args.words.now) = subst (Asks (map string_bytes c.args.words.now)) c.in-Ok-Run.field-0-is c.in-Ok-Run.ensures.asks in
    let left = g.S.Source.left c.args.source.now in
    let left_new = g.S.Source.left c.run.new.source in
    let written = g.K.Sink.written c.args.sink.now in
    let written_new = g.K.Sink.written c.run.new.sink in
    by_mode (map string_bytes c.args.words.now) (λ mode. IfSome left (λ bytes. (fault : Fault) → length bytes ≤ limit → HasFault mode bytes fault → (c.run.result ≡ fault_status fault) ⊎ ((c.run.result ≡ statuses.ReadFault) ⊎ ((c.run.result ≡ statuses.WriteFault) ⊎ (c.run.result ≡ statuses.Memory))))) modes.Run reads c.run.ensures.broken

pub returns-in-Ok-Run-clause-complete : goal.returns-in-Ok-Run-clause-complete
returns-in-Ok-Run-clause-complete g c =
    let reads : AsksToRead modes.Run (map string_bytes c.args.words.now) = subst (Asks (map string_bytes c.args.words.now)) c.in-Ok-Run.field-0-is c.in-Ok-Run.ensures.asks in
    let left = g.S.Source.left c.args.source.now in
    let left_new = g.S.Source.left c.run.new.source in
    let written = g.K.Sink.written c.args.sink.now in
    let written_new = g.K.Sink.written c.run.new.sink in
    by_mode (map string_bytes c.args.words.now) (λ mode. IfSome left (λ bytes. length bytes ≤ limit → IsGood mode bytes → (Rose (g.S.Source.faults c.args.source.now) (g.S.Source.faults c.run.new.source) → ⊥)
    → (Rose (g.K.Sink.faults c.args.sink.now) (g.K.Sink.faults c.run.new.sink) → ⊥) → (c.run.result ≡ statuses.Done) ⊎ (c.run.result ≡ statuses.Memory))) modes.Run reads c.run.ensures.complete

pub returns-in-Ok-Race-clause-bad_script : goal.returns-in-Ok-Race-clause-bad_script
returns-in-Ok-Race-clause-bad_script g c =
    let asks : IsRace (map string_bytes c.args.words.now) c.in-Ok-Race.lookers c.in-Ok-Race.passes = subst (Asks (map string_bytes c.args.words.now)) c.in-Ok-Race.field-0-is c.in-Ok-Race.ensures.asks in
    let reads : AsksToRead modes.Race (map string_bytes c.args.words.now) = (c.in-Ok-Race.lookers, c.in-Ok-Race.passes, asks) in
    let left = g.S.Source.left c.args.source.now in
    let left_new = g.S.Source.left c.serve.new.source in
    let written = g.K.Sink.written c.args.sink.now in
    let written_new = g.K.Sink.written c.serve.new.sink in
    by_mode (map string_bytes c.args.words.now) (λ mode. (n : ℕ) → c.serve.result ≡ statuses.BadScript n → WritesFault mode left left_new written written_new (faults.Line n)) modes.Race reads c.serve.ensures.bad_script

pub returns-in-Ok-Race-clause-bad_capture : goal.returns-in-Ok-Race-clause-bad_capture
returns-in-Ok-Race-clause-bad_capture g c =
    let asks : IsRace (map string_bytes c.args.words.now) c.in-Ok-Race.lookers c.in-Ok-Race.passes = subst (Asks (map string_bytes c.args.words.now)) c.in-Ok-Race.field-0-is c.in-Ok-Race.ensures.asks in
    let reads : AsksToRead modes.Race (map string_bytes c.args.words.now) = (c.in-Ok-Race.lookers, c.in-Ok-Race.passes, asks) in
    let left = g.S.Source.left c.args.source.now in
    let left_new = g.S.Source.left c.serve.new.source in
    let written = g.K.Sink.written c.args.sink.now in
    let written_new = g.K.Sink.written c.serve.new.sink in
    by_mode (map string_bytes c.args.words.now) (λ mode. c.serve.result ≡ statuses.BadCapture → WritesFault mode left left_new written written_new faults.Capture) modes.Race reads c.serve.ensures.bad_capture

pub returns-in-Ok-Race-clause-verdict : goal.returns-in-Ok-Race-clause-verdict
returns-in-Ok-Race-clause-verdict g c =
    let asks : IsRace (map string_bytes c.args.words.now) c.in-Ok-Race.lookers c.in-Ok-Race.passes = subst (Asks (map string_bytes c.args.words.now)) c.in-Ok-Race.field-0-is c.in-Ok-Race.ensures.asks in
    let reads : AsksToRead modes.Race (map string_bytes c.args.words.now) = (c.in-Ok-Race.lookers, c.in-Ok-Race.passes, asks) in
    let left = g.S.Source.left c.args.source.now in
    let left_new = g.S.Source.left c.serve.new.source in
    let written = g.K.Sink.written c.args.sink.now in
    let written_new = g.K.Sink.written c.serve.new.sink in
    by_mode (map string_bytes c.args.words.now) (λ mode. IfSome left (λ bytes. Answers mode bytes c.serve.result)) modes.Race reads c.serve.ensures.verdict

pub returns-in-Ok-Race-clause-over_limit : goal.returns-in-Ok-Race-clause-over_limit
returns-in-Ok-Race-clause-over_limit g c =
    let asks : IsRace (map string_bytes c.args.words.now) c.in-Ok-Race.lookers c.in-Ok-Race.passes = subst (Asks (map string_bytes c.args.words.now)) c.in-Ok-Race.field-0-is c.in-Ok-Race.ensures.asks in
    let reads : AsksToRead modes.Race (map string_bytes c.args.words.now) = (c.in-Ok-Race.lookers, c.in-Ok-Race.passes, asks) in
    let left = g.S.Source.left c.args.source.now in
    let left_new = g.S.Source.left c.serve.new.source in
    let written = g.K.Sink.written c.args.sink.now in
    let written_new = g.K.Sink.written c.serve.new.sink in
    by_mode (map string_bytes c.args.words.now) (λ mode. IfSome left (λ bytes. limit < length bytes → (c.serve.result ≡ statuses.TooLong) ⊎ ((c.serve.result ≡ statuses.ReadFault) ⊎ (c.serve.result ≡ statuses.Memory)))) modes.Race reads c.serve.ensures.over_limit

pub returns-in-Ok-Race-clause-broken : goal.returns-in-Ok-Race-clause-broken
returns-in-Ok-Race-clause-broken g c =
    let asks : IsRace (map string_bytes c.args.words.now) c.in-Ok-Race.lookers c.in-Ok-Race.passes = subst (Asks (map string_bytes c.args.words.now)) c.in-Ok-Race.field-0-is c.in-Ok-Race.ensures.asks in
    let reads : AsksToRead modes.Race (map string_bytes c.args.words.now) = (c.in-Ok-Race.lookers, c.in-Ok-Race.passes, asks) in
    let left = g.S.Source.left c.args.source.now in
    let left_new = g.S.Source.left c.serve.new.source in
    let written = g.K.Sink.written c.args.sink.now in
    let written_new = g.K.Sink.written c.serve.new.sink in
    by_mode (map string_bytes c.args.words.now) (λ mode. IfSome left (λ bytes. (fault : Fault) → length bytes ≤ limit → HasFault mode bytes fault → (c.serve.result ≡ fault_status fault) ⊎ ((c.serve.result ≡ statuses.ReadFault) ⊎ ((c.serve.result ≡ statuses.WriteFault) ⊎ (c.serve.result ≡ statuses.Memory))))) modes.Race reads c.serve.ensures.broken

pub returns-in-Ok-Race-clause-complete : goal.returns-in-Ok-Race-clause-complete
returns-in-Ok-Race-clause-complete g c =
    let asks : IsRace (map string_bytes c.args.words.now) c.in-Ok-Race.lookers c.in-Ok-Race.passes = subst (Asks (map string_bytes c.args.words.now)) c.in-Ok-Race.field-0-is c.in-Ok-Race.ensures.asks in
    let reads : AsksToRead modes.Race (map string_bytes c.args.words.now) = (c.in-Ok-Race.lookers, c.in-Ok-Race.passes, asks) in
    let left = g.S.Source.left c.args.source.now in
    let left_new = g.S.Source.left c.serve.new.source in
    let written = g.K.Sink.written c.args.sink.now in
    let written_new = g.K.Sink.written c.serve.new.sink in
    by_mode (map string_bytes c.args.words.now) (λ mode. IfSome left (λ bytes. length bytes ≤ limit → IsGood mode bytes → (Rose (g.S.Source.faults c.args.source.now) (g.S.Source.faults c.serve.new.source) → ⊥)
    → (Rose (g.K.Sink.faults c.args.sink.now) (g.K.Sink.faults c.serve.new.sink) → ⊥) → (c.serve.result ≡ statuses.Done) ⊎ (c.serve.result ≡ statuses.Memory))) modes.Race reads c.serve.ensures.complete

pub returns-in-Ok-Race-clause-raced : goal.returns-in-Ok-Race-clause-raced
returns-in-Ok-Race-clause-raced g c = λ n p asked is.
    let asks : IsRace (map string_bytes c.args.words.now) c.in-Ok-Race.lookers c.in-Ok-Race.passes = subst (Asks (map string_bytes c.args.words.now)) c.in-Ok-Race.field-0-is c.in-Ok-Race.ensures.asks in
    let left = g.S.Source.left c.args.source.now in
    let left_new = g.S.Source.left c.serve.new.source in
    let written = g.K.Sink.written c.args.sink.now in
    let written_new = g.K.Sink.written c.serve.new.sink in
    let same = one_race (map string_bytes c.args.words.now) c.in-Ok-Race.lookers c.in-Ok-Race.passes n p asks asked in
    subst (λ m. WritesRace m p left left_new written written_new) same.0 (subst (λ m. WritesRace c.in-Ok-Race.lookers m left left_new written written_new) same.1 (c.serve.ensures.done is))

pub returns-in-Ok-Race-clause-raced_front : goal.returns-in-Ok-Race-clause-raced_front
returns-in-Ok-Race-clause-raced_front g c = λ n p asked is.
    let asks : IsRace (map string_bytes c.args.words.now) c.in-Ok-Race.lookers c.in-Ok-Race.passes = subst (Asks (map string_bytes c.args.words.now)) c.in-Ok-Race.field-0-is c.in-Ok-Race.ensures.asks in
    let left = g.S.Source.left c.args.source.now in
    let left_new = g.S.Source.left c.serve.new.source in
    let written = g.K.Sink.written c.args.sink.now in
    let written_new = g.K.Sink.written c.serve.new.sink in
    let same = one_race (map string_bytes c.args.words.now) c.in-Ok-Race.lookers c.in-Ok-Race.passes n p asks asked in
    subst (λ m. WritesFront modes.Race (IsRaceOf m p) left left_new written written_new) same.0 (subst (λ m. WritesFront modes.Race (IsRaceOf c.in-Ok-Race.lookers m) left left_new written written_new) same.1 ((c.serve.ensures.write_fault is).1))

pub returns-in-Ok-Make-clause-made : goal.returns-in-Ok-Make-clause-made
returns-in-Ok-Make-clause-made g c = λ seed count asked done.
    let same = one_make (map string_bytes c.args.words.now) c.in-Ok-Make.seed c.in-Ok-Make.count seed count (subst (Asks (map string_bytes c.args.words.now)) c.in-Ok-Make.field-0-is c.in-Ok-Make.ensures.asks) asked in
    let old = g.K.Sink.written c.args.sink.now in
    let new = g.K.Sink.written c.make.new.sink in
    subst (λ s. WritesCounts old new s count) same.0 (subst (λ n. WritesCounts old new c.in-Ok-Make.seed n) same.1 (c.make.ensures.done done))

pub returns-in-Ok-Make-clause-made_front : goal.returns-in-Ok-Make-clause-made_front
returns-in-Ok-Make-clause-made_front g c = λ seed count asked fault.
    let same = one_make (map string_bytes c.args.words.now) c.in-Ok-Make.seed c.in-Ok-Make.count seed count (subst (Asks (map string_bytes c.args.words.now)) c.in-Ok-Make.field-0-is c.in-Ok-Make.ensures.asks) asked in
    let old = g.K.Sink.written c.args.sink.now in
    let new = g.K.Sink.written c.make.new.sink in
    subst (λ s. WritesFrontOfCounts old new s count) same.0 (subst (λ n. WritesFrontOfCounts old new c.in-Ok-Make.seed n) same.1 (c.make.ensures.write_fault fault).1)

pub returns-in-Ok-Make-clause-bad_script : goal.returns-in-Ok-Make-clause-bad_script
returns-in-Ok-Make-clause-bad_script g c = λ mode reads. read_or_made (map string_bytes c.args.words.now) mode c.in-Ok-Make.seed c.in-Ok-Make.count reads (subst (Asks (map string_bytes c.args.words.now)) c.in-Ok-Make.field-0-is c.in-Ok-Make.ensures.asks)

pub returns-in-Err-Usage-clause-bad_script : goal.returns-in-Err-Usage-clause-bad_script
returns-in-Err-Usage-clause-bad_script g c = λ mode reads. refused_read (map string_bytes c.args.words.now) mode reads (c.in-Err-Usage.ensures.usage (search rules))

pub returns-in-Ok-Make-clause-bad_capture : goal.returns-in-Ok-Make-clause-bad_capture
returns-in-Ok-Make-clause-bad_capture g c = λ mode reads. read_or_made (map string_bytes c.args.words.now) mode c.in-Ok-Make.seed c.in-Ok-Make.count reads (subst (Asks (map string_bytes c.args.words.now)) c.in-Ok-Make.field-0-is c.in-Ok-Make.ensures.asks)

pub returns-in-Err-Usage-clause-bad_capture : goal.returns-in-Err-Usage-clause-bad_capture
returns-in-Err-Usage-clause-bad_capture g c = λ mode reads. refused_read (map string_bytes c.args.words.now) mode reads (c.in-Err-Usage.ensures.usage (search rules))

pub returns-in-Ok-Make-clause-verdict : goal.returns-in-Ok-Make-clause-verdict
returns-in-Ok-Make-clause-verdict g c = λ mode reads. read_or_made (map string_bytes c.args.words.now) mode c.in-Ok-Make.seed c.in-Ok-Make.count reads (subst (Asks (map string_bytes c.args.words.now)) c.in-Ok-Make.field-0-is c.in-Ok-Make.ensures.asks)

pub returns-in-Err-Usage-clause-verdict : goal.returns-in-Err-Usage-clause-verdict
returns-in-Err-Usage-clause-verdict g c = λ mode reads. refused_read (map string_bytes c.args.words.now) mode reads (c.in-Err-Usage.ensures.usage (search rules))

pub returns-in-Ok-Make-clause-over_limit : goal.returns-in-Ok-Make-clause-over_limit
returns-in-Ok-Make-clause-over_limit g c = λ mode reads. read_or_made (map string_bytes c.args.words.now) mode c.in-Ok-Make.seed c.in-Ok-Make.count reads (subst (Asks (map string_bytes c.args.words.now)) c.in-Ok-Make.field-0-is c.in-Ok-Make.ensures.asks)

pub returns-in-Err-Usage-clause-over_limit : goal.returns-in-Err-Usage-clause-over_limit
returns-in-Err-Usage-clause-over_limit g c = λ mode reads. refused_read (map string_bytes c.args.words.now) mode reads (c.in-Err-Usage.ensures.usage (search rules))

pub returns-in-Ok-Make-clause-broken : goal.returns-in-Ok-Make-clause-broken
returns-in-Ok-Make-clause-broken g c = λ mode reads. read_or_made (map string_bytes c.args.words.now) mode c.in-Ok-Make.seed c.in-Ok-Make.count reads (subst (Asks (map string_bytes c.args.words.now)) c.in-Ok-Make.field-0-is c.in-Ok-Make.ensures.asks)

pub returns-in-Err-Usage-clause-broken : goal.returns-in-Err-Usage-clause-broken
returns-in-Err-Usage-clause-broken g c = λ mode reads. refused_read (map string_bytes c.args.words.now) mode reads (c.in-Err-Usage.ensures.usage (search rules))

pub returns-in-Ok-Make-clause-complete : goal.returns-in-Ok-Make-clause-complete
returns-in-Ok-Make-clause-complete g c = λ mode reads. read_or_made (map string_bytes c.args.words.now) mode c.in-Ok-Make.seed c.in-Ok-Make.count reads (subst (Asks (map string_bytes c.args.words.now)) c.in-Ok-Make.field-0-is c.in-Ok-Make.ensures.asks)

pub returns-in-Err-Usage-clause-complete : goal.returns-in-Err-Usage-clause-complete
returns-in-Err-Usage-clause-complete g c = λ mode reads. refused_read (map string_bytes c.args.words.now) mode reads (c.in-Err-Usage.ensures.usage (search rules))
