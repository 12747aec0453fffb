-- What a step did.
use Rattle.std.proofs.Common.{Result, Ok, Err}
use Rattle.std.specs.Prelude.{IfOk, OnErr}
use Rattle.flat_list.specs.declared.command.Command.{Command}
use Rattle.flat_list.specs.declared.command.Reply.{Reply}
use Rattle.table_model.specs.Commands.{plan}
use Rattle.sock_ops.specs.declared.tables.Tables.{Tables}
use Rattle.sock_ops.specs.declared.tables.Worker.{Worker}
use Rattle.sock_ops.specs.Stands.{turned, chained}
use Rattle.section_machine.specs.Carried.{Carries}
use Rattle.section_machine.specs.Sections.{Kept, Did}
use Rattle.section_machine.specs.Standing.{IsSection}

module _ {E : Type 0} (t : Tables) (old new : Kept) (command : Command) (w u : Worker) where
  pub did_so : (r : Result Reply E) → IfOk r (Carries t old (plan old.header old.own command) new w u) → IfOk r (Did old.header old.own command (turned w) (turned u) (chained t w) (chained t u) new.own)
  did_so (Ok reply) c = record { deeds = c.deeds; goes = c.goes; gave = c.gave; does = c.does }
  did_so (Err e) c = tt

  pub section_so : (r : Result Reply E) → IfOk r (Carries t old (plan old.header old.own command) new w u) → OnErr r (IsSection t new u) → IsSection t new u
  section_so (Ok reply) c off = c.section
  section_so (Err e) c off = off
