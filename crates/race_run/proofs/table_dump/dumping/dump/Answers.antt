use Rattle.std.proofs.Common.{◌≡◌, List, ap, sym, ◌∙◌, subst, refl}
use Rattle.sock_card.specs.declared.card.Card.{Card}
use Rattle.socket_list.specs.Order.{ascending}
use Rattle.socket_list.proofs.Same.{stays_listed}
use Rattle.race_run.specs.Books.{AreTold}
use Rattle.table_rule.specs.Words.{bucket_count}
use Rattle.table_rule.specs.declared.view.Layout.{Layout}
use Rattle.race_run.proofs.Sorted.{told_in_order}
use Rattle.race_run.proofs.table_dump.dumping.dump.Goals as goal

pub returns-clause-lists : goal.returns-clause-lists
returns-clause-lists g c =
    let e = c.in_ok-dump.ensures in
    let dump = c.in_ok-dump.dump in
    let cards : List Card = c.in_ok-cards.cards.items in
    let is : cards ≡ ascending dump.items.items = c.in_ok-cards.ensures in
    let laid = sym c.args.tables.now.chains.laid in
    record {
      span = record { t0 = dump.t0; t1 = dump.t1 };
      span-is = refl;
      begins = e.fresh;
      order = e.span;
      ends = e.ends;
      sorted = is ∙ (stays_listed dump.items.items ∙ ap ascending (sym is));
      rows = e.saw.rows;
      sights = e.saw.sights;
      told = λ views k.
          subst (λ (l : Layout). AreTold views (bucket_count l) dump.t0 dump.t1 cards) laid
          (subst (AreTold views _ dump.t0 dump.t1) (sym is) (told_in_order views _ dump.t0 dump.t1 dump.items.items (e.saw.told views k)));
    }
