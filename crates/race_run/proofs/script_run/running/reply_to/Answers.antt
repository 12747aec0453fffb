use Rattle.std.proofs.Common.{refl, sym, ap, subst}
use Rattle.flat_list.specs.declared.command.Reply.TheVariants as replies
use Rattle.race_run.specs.Looks.{AnswersItem}
use Rattle.race_run.specs.Sole.{tables_of}
use Rattle.race_run.proofs.Lookups.{looked_none}
use Rattle.race_run.proofs.script_run.running.reply_to.Goals as goal

pub returns-in-Packet : goal.returns-in-Packet
returns-in-Packet c = record {
  sole = c.look.ensures.sole;
  looked = c.look.ensures.looked;
  answers = subst (λ item. AnswersItem (tables_of c.args.tables.now c.args.worker.now) item (replies.Found c.look.result)) (sym c.in-Packet.is)
      (λ flat shape sound mean. ap replies.Found (c.look.ensures.found flat shape sound mean));
}

pub returns-in-Skip : goal.returns-in-Skip
returns-in-Skip c = record {
  sole = c.requires.sole;
  looked = looked_none c.args.tables.now c.args.worker.now;
  answers = subst (λ item. AnswersItem (tables_of c.args.tables.now c.args.worker.now) item replies.Skip) (sym c.in-Skip.is) (λ flat shape sound mean. refl);
}

pub returns-in-Short : goal.returns-in-Short
returns-in-Short c = record {
  sole = c.requires.sole;
  looked = looked_none c.args.tables.now c.args.worker.now;
  answers = subst (λ item. AnswersItem (tables_of c.args.tables.now c.args.worker.now) item replies.Short) (sym c.in-Short.is) (λ flat shape sound mean. refl);
}
