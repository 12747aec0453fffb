use Rattle.std.proofs.Common.{List, ap, ◌∙◌, sym, subst, refl}
use Rattle.sock_card.specs.declared.card.Card.{Card}
use Rattle.table_rule.specs.Calls.{view}
use Rattle.table_rule.specs.declared.view.View.{View}
use Rattle.race_run.specs.Dumps.{ListsAll}
use Rattle.race_run.proofs.Seeings.{keeps_same, keeps_seen, lists_none, lists_more}
use Rattle.race_run.proofs.chain_dump.dumping.list_buckets.Goals as goal

pub loop-bucket-init : goal.loop-bucket-init
loop-bucket-init g c = record {
  table = c.requires.table;
  free = c.requires.free;
  keeps = keeps_same (view c.args.steps.now);
  seen = refl;
  lists = lists_none c.args.items.now.items (view c.args.steps.now);
  hand = refl;
}

pub loop-bucket-preserved : goal.loop-bucket-preserved
loop-bucket-preserved g c =
    let i = c.loop-bucket.invariant in
    let e = c.list_bucket.ensures in
    let v : View = view c.args.steps.now in
    let u : View = view c.loop-bucket.steps in
    let w : View = view c.list_bucket.new.steps in
    record {
      table = e.table;
      free = ap (λ (x : View). x.chain.locked) e.lists.saw;
      keeps = keeps_seen v u w c.loop-bucket.bucket e.lists.row i.keeps e.lists.saw;
      seen = ap (λ (x : View). x.seen) e.lists.saw ∙ i.seen;
      lists = lists_more c.loop-bucket.bucket c.args.items.now.items c.reserve.new.self.items c.list_bucket.new.items.items v u w i.keeps i.seen
          (subst (λ (x : List Card). ListsAll c.loop-bucket.bucket c.args.items.now.items x v u) (sym {A = List Card} c.reserve.ensures.items) i.lists) e.lists;
      hand = e.hand ∙ i.hand;
    }
