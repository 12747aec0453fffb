use Rattle.std.proofs.Common.{◌≡◌, List, ap, sym, ◌∙◌, subst}
use Rattle.flat_list.specs.declared.command.Command.{Command}
use Rattle.flat_list.specs.declared.command.Command.TheVariants as commands
use Rattle.sock_card.specs.declared.card.Card.{Card}
use Rattle.race_run.specs.Dumps.{cards_from}
use Rattle.sock_ops.specs.Stands.{chained}
use Rattle.socket_list.specs.Listing.{Listing}
use Rattle.socket_list.specs.Order.{ascending}
use Rattle.race_run.specs.Sole.{tables_of}
use Rattle.race_run.specs.Steps.{ListsFor}
use Rattle.race_run.proofs.RunListings.{dump_lists}
use Rattle.race_run.proofs.script_run.listing.list.Goals as goal

pub returns-in_ok-push-clause-lists : goal.returns-in_ok-push-clause-lists
returns-in_ok-push-clause-lists g c =
    let t = c.args.tables.now in
    let w = c.args.worker.now in
    let before : List Listing = c.args.listings.now.items in
    let cards : List Card = c.listing.inside.cards.items in
    let is : cards ≡ ascending (cards_from t.chains.layout (chained t w).view.book.closed) =
    ap (λ (l : Listing). l.cards) c.listing.view_is ∙ c.in_ok-listing.ensures.alone c.requires.sole.chains.bare.0 in
    subst (λ (command : Command). ListsFor (tables_of t w) command before c.push.new.self.items) (sym (rw c.in-Dump.is at c.form.ensures))
    (subst (λ (l : List Listing). ListsFor (tables_of t w) commands.Dump before l) (sym c.in_ok-push.ensures.items) (dump_lists t w before cards is))
