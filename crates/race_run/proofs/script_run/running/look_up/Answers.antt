use Rattle.std.proofs.Common.{◌≡◌, ◌+◌, ◌∙◌, [], ◌∷◌, ◌++◌, take, get_or, refl, ap, subst}
use Rattle.std.proofs.lemmas.List.{take_more, take_all}
use Rattle.capture_reader.specs.declared.packet.Item.{Item}
use Rattle.capture_reader.specs.declared.packet.Item.TheVariants as items
use Rattle.flat_list.specs.declared.command.Reply.{Reply}
use Rattle.race_run.specs.Looks.{AnswersItem}
use Rattle.race_run.specs.Sole.{tables_of}
use Rattle.race_run.specs.Steps.{AnswersAll}
use Rattle.race_run.proofs.Lookups.{answers_none, answers_more, looked_none, looked_both, tables_same}
use Rattle.race_run.proofs.script_run.running.look_up.Goals as goal

pub loop-item-init : goal.loop-item-init
loop-item-init c = record {
  sole = c.requires.sole;
  looked = looked_none c.args.tables.now c.args.worker.now;
  answers = answers_none (tables_of c.args.tables.now c.args.worker.now) (take 0 c.args.items.now) c.args.replies.now.items refl;
}

-- what stands for an item where there is none
abbrev no_item : Item
no_item = items.Packet (record { src = 0; sport = 0; dst = 0; dport = 0; dev = 0; net = 0 })

pub loop-item-preserved : goal.loop-item-preserved
loop-item-preserved c =
    let i = c.loop-item.invariant in
    let t = c.args.tables.now in
    let w = c.args.worker.now in
    let u = c.loop-item.worker in
    let at = c.loop-item.item-index in
    let item : Item = get_or c.args.items.now at no_item in
    record {
      sole = c.reply_to.ensures.sole;
      looked = looked_both t w u c.reply_to.new.worker i.looked c.reply_to.ensures.looked;
      answers = answers_more (tables_of t w) (take at c.args.items.now) (take (at + 1) c.args.items.now) item c.args.replies.now.items c.loop-item.replies.items c.push.new.self.items c.reply_to.result
          i.answers (subst (λ x. AnswersItem x item c.reply_to.result) (tables_same t w u i.looked) c.reply_to.ensures.answers) (take_more c.args.items.now at no_item c.loop-item-test.true)
          (c.in_ok-push.ensures.items ∙ ap (λ (r : Reply). c.loop-item.replies.items ++ r ∷ []) c.of.ensures);
    }

pub returns : goal.returns
returns c =
    let i = c.loop-item.invariant in
    let all : take c.loop-item.item-index c.args.items.now ≡ c.args.items.now = take_all c.loop-item.item-index c.args.items.now c.loop-item-test.false in
    record {
      sole = i.sole;
      looked = i.looked;
      answers = subst (λ xs. AnswersAll (tables_of c.args.tables.now c.args.worker.now) xs c.args.replies.now.items c.loop-item.replies.items) all i.answers;
    }
