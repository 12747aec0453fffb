use Rattle.std.proofs.Common.{◌∙◌, List, refl, ap, sym, subst, arith}
use Rattle.turn_table.specs.declared.note.Placed.{Placed}
use Rattle.bind_buckets.specs.declared.request.Entry.{Entry}
use Rattle.bind_buckets.specs.Turned.{View as BindView}
use Rattle.reuseport_group.specs.Words.{list_at}
use Rattle.reuseport_group.specs.declared.view.GroupView.{GroupView}
use Rattle.section_machine.proofs.Names.{AllMiss}
use Rattle.sock_ops.specs.Groups.{list_by}
use Rattle.table_model.specs.Goes.{tables_by}
use Rattle.table_rule.specs.Rule.{drawn}
use Rattle.table_rule.specs.Sole.{IsNow}
use Rattle.table_rule.specs.declared.view.Layout.{Layout}
use Rattle.table_rule.specs.declared.view.View.{View}
use Rattle.established.specs.Alone.{chains_of}
use Rattle.race_run.proofs.Starting.{tables_empty, first_now, none_listed}
use Rattle.race_run.proofs.script_run.start.start.Goals as goal

pub returns : goal.returns
returns c =
    let n = c.in_ok-tables.ensures in
    let v = n.turns.2 in
    let x = n.chain in
    let l = n.published in
    let mine = ap (λ (y : BindView). y.mine) v in
    let closed = ap (λ (y : View). y.book.closed) x in
    record {
      counts = n.keeps_changes;
      of = record { shape = ap (λ (y : Layout). y.shape) n.layout; seed = ap (λ (y : Layout). y.seed) n.layout; buckets = n.buckets };
      sole = record {
        ready = record { idle = n.idle refl; rests = n.rests; groups = n.groups };
        turns = (ap (λ (y : BindView). y.caller) v, ap (λ (y : BindView). y.splits) v);
        chains = subst IsNow (sym x) (first_now c.in_ok-tables.tables.chains.layout);
        nothing = record { holds = ap (λ (y : View). y.slot.holds) x; kept = ap (λ (y : View). y.read.kept) x; reader = ap (λ (y : View). y.read.reader) x };
        groups = ap (λ (y : GroupView). y.sole) l;
        listed = λ group below. ap (λ (y : GroupView). list_at group y.mine) l ∙ none_listed group ∙ ap (λ (xs : List (Placed Entry)). list_by xs group) (sym mine);
      };
      empty = (λ i. tables_by (n.buckets i) (mine i) (chains_of (n.layout i) (n.next i) (closed i))) ∙ tables_empty c.args.header.now.shape c.args.header.now.seed;
      unspoken = λ name least. subst (AllMiss name) (sym mine) tt;
      may = record {
        enters = let e = ap (λ (y : BindView). y.draws) v in omega (arith, e);
        draws = let e = ap drawn x in let p = ap (λ (y : View). y.slot.parts) x in omega (arith, e, p);
      };
    }
