use Rattle.std.proofs.Common.{ap, arith, subst, sym}
use Rattle.bind_buckets.specs.Turned.{View as BindView}
use Rattle.flat_list.specs.Fits.{FitsTables}
use Rattle.flat_list.specs.declared.header.Header.{Header}
use Rattle.reuseport_group.specs.declared.view.GroupView.{GroupView}
use Rattle.sock_ops.specs.declared.tables.Tables.{Tables}
use Rattle.table_rule.specs.declared.view.View.{View}
use Rattle.race_run.specs.Workers.{AreTables}
use Rattle.race_run.proofs.start.start.Goals as goal

pub returns : goal.returns
returns c =
    let n = c.in_ok-tables.ensures in
    let v = n.turns.2 in
    let x = n.chain in
    let l = n.published in
    let header = c.header-header.result.now in
    let fits : FitsTables header = subst FitsTables (sym c.header-header.ensures) c.requires in
    let given : Tables = c.in_ok-tables.tables in
    let bind = fits.bind in
    let are : AreTables header given = record { layout = n.layout; buckets = n.buckets; some = omega (arith, n.buckets, bind); shared = n.home; keeps = n.keeps_changes } in
    record {
      tables = subst (λ (h : Header). AreTables h given) c.header-header.ensures are;
      first = record {
        rest = record {
          turns = n.turns.0;
          free = n.turns.1;
          rests = n.rests;
          nothing = record { holds = ap (λ (y : View). y.slot.holds) x; kept = ap (λ (y : View). y.read.kept) x; reader = ap (λ (y : View). y.read.reader) x };
          groups = n.groups;
        };
        turn_parts = let e = ap (λ (y : BindView). y.parts) v in omega (arith, e);
        chain_parts = let e = ap (λ (y : View). y.slot.parts) x in omega (arith, e);
        group_parts = let e = ap (λ (y : GroupView). y.parts) l in omega (arith, e);
        caller = ap (λ (y : BindView). y.caller) v;
        splits = ap (λ (y : BindView). y.splits) v;
        seen = ap (λ (y : View). y.seen) x;
        opened = ap (λ (y : View). y.book.opened) x;
        blank = record {
          mine = ap (λ (y : BindView). y.mine) v;
          closed = ap (λ (y : View). y.book.closed) x;
          lost = ap (λ (y : View). y.book.lost) x;
          sights = ap (λ (y : View). y.sights) x;
          wholes = ap (λ (y : View). y.read.wholes) x;
          receipts = ap (λ (y : View). y.read.receipts) x;
          taken = ap (λ (y : View). y.slot.taken) x;
        };
      };
    }
