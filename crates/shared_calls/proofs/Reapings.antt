-- A caller after the reaping of so many TIME_WAITs at most.
use Rattle.std.proofs.Common.{◌≡◌, ℕ, true, false, List, ◌++◌, Result, Ok, Err, inr, sym, ◌∙◌, append-nil}
use Rattle.std.specs.Prelude.{IfOk, OnErr}
use Rattle.bind_buckets.specs.Turned.{View}
use Rattle.flat_list.specs.declared.command.Command.TheVariants as commands
use Rattle.flat_list.specs.declared.header.Header.{Header}
use Rattle.section_machine.specs.Carried.{Spends}
use Rattle.section_machine.specs.LeftOff.{LeftOff}
use Rattle.section_machine.specs.Reaping.{ReapsMost}
use Rattle.section_machine.specs.Sections.{Kept, GivesLabels}
use Rattle.section_machine.specs.Standing.{IsSection}
use Rattle.section_machine.specs.declared.reaping.Gone.{Gone}
use Rattle.section_machine.specs.declared.reaping.Gone.TheVariants as reapings
use Rattle.sock_ops.specs.Sides.{Side}
use Rattle.sock_ops.specs.Stands.{turned, chained}
use Rattle.sock_ops.specs.declared.tables.Tables.{Tables}
use Rattle.sock_ops.specs.declared.tables.Worker.{Worker}
use Rattle.table_model.specs.Own.{Own}
use Rattle.shared_calls.specs.Callings.{HasStamps, IsCalling, calling}
use Rattle.shared_calls.proofs.Callings.{goes_on}
use Rattle.shared_calls.proofs.Ended.{AllEnded, ended_deeds}

gives_none : {X E : Type 0} (old new : List (List ℕ)) (r : Result X E) → new ≡ old → GivesLabels commands.Reap old new r
gives_none old new (Ok x) same = same ∙ sym (append-nil old)
gives_none old new (Err e) same = inr same

ended_by : {E : Type 0} (header : Header) (own : Own) (most : ℕ) (v w : View) (c d : Side) (next : Own) (r : Result Gone E) → IfOk r (ReapsMost header own most v w c d next)
    → OnErr r (LeftOff header own commands.Reap v w c d next) → AllEnded c → AllEnded d
ended_by header own most v w c d next (Ok (reapings.All count)) did off were =
    ended_deeds did.deeds c d did.does.leaves were
ended_by header own most v w c d next (Ok (reapings.More count)) more off were =
    ended_deeds more.0.deeds c d more.0.does.leaves were
ended_by header own most v w c d next (Err e) did off were = ended_deeds off.deeds c d off.does.leaves were

-- the caller may go on
pub goes_on_reaped : {E : Type 0} (t : Tables) (k l : Kept) (w u : Worker) (tag most : ℕ) (r : Result Gone E) → IsCalling (calling t k w tag) → HasStamps (calling t k w tag) commands.Reap → IsSection t l u → Spends k l w u
    → l.own.labels ≡ k.own.labels → IfOk r (ReapsMost k.header k.own most (turned w) (turned u) (chained t w) (chained t u) l.own)
    → OnErr r (LeftOff k.header k.own commands.Reap (turned w) (turned u) (chained t w) (chained t u) l.own) → IsCalling (calling t l u tag)
goes_on_reaped t k l w u tag most r was stamps section spends labels reaps left =
    goes_on t k l w u tag commands.Reap r was stamps (λ e. absurd (let no : false ≡ true = e in cc)) tt section spends (gives_none k.own.labels l.own.labels r labels)
    (ended_by k.header k.own most (turned w) (turned u) (chained t w) (chained t u) l.own r reaps left was.ended)
