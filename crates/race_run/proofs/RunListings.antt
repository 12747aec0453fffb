-- What a dump lists, by a worker that is alone: the cards of the list that the tables mean.
use Rattle.std.proofs.Common.{◌≡◌, ◌≢◌, ℕ, ◌+◌, ◌<◌, List, [], ◌∷◌, ◌++◌, map, None, refl, sym, ap, ◌∙◌, arith}
use Rattle.std.specs.List.{range_with_len}
use Rattle.list_words.specs.Lists.{SameItems, total}
use Rattle.list_words.proofs.PairsLemmas.{pairs_filter_map}
use Rattle.list_words.proofs.TotalLemmas.{total-append}
use Rattle.sock_card.specs.Words.{number_of}
use Rattle.sock_card.specs.declared.card.Card.{Card}
use Rattle.sock_card.specs.declared.card.Kind.{Kind}
use Rattle.sock_card.specs.declared.card.Kind.TheVariants as kinds
use Rattle.socket_list.specs.Laws.{HavePlaces}
use Rattle.socket_list.specs.Order.{order_of, ascending}
use Rattle.socket_list.proofs.Same.{lists_as_one}
use Rattle.socket_list.specs.Listing.{Listing}
use Rattle.chain_book.specs.declared.outcome.Hashed.{Hashed}
use Rattle.flat_list.specs.Flat.{Flat}
use Rattle.flat_list.specs.Listed.{listed}
use Rattle.flat_list.specs.Look.{cards_of, card_of}
use Rattle.flat_list.specs.Sound.{IsSound, NamesDiffer}
use Rattle.flat_list.specs.declared.command.Command.TheVariants as commands
use Rattle.race_run.specs.Dumps.{cards_from}
use Rattle.race_run.specs.Rows as rows
use Rattle.sock_ops.specs.Stands.{chained}
use Rattle.sock_ops.specs.declared.tables.Tables.{Tables}
use Rattle.sock_ops.specs.declared.tables.Worker.{Worker}
use Rattle.established.specs.Alone.{chains_of}
use Rattle.established.specs.Rows.{row_of}
use Rattle.table_model.specs.Means.{ChainsMean, weigh_cards}
use Rattle.table_rule.specs.Sole.{chain_from}
use Rattle.table_rule.specs.Words.{bucket_count}
use Rattle.table_rule.specs.declared.view.Change.{Change}
use Rattle.table_rule.specs.declared.view.Layout.{Layout}
use Rattle.table_rule.specs.declared.view.Seen.{Seen}
use Rattle.race_run.specs.Sole.{tables_of}
use Rattle.race_run.specs.Steps.{ListsFor}
use Rattle.flat_list.proofs.CardsOf.{says}

-- What stands in the chains weighs as the list's cards

weigh_row : (f : Card → ℕ) (xs : List Seen) → total f (rows.cards_of xs) ≡ total (λ (x : Hashed). f x.card) (row_of xs)
weigh_row f [] = refl
weigh_row f (x ∷ xs) = ap (λ (n : ℕ). f (rows.card_of x) + n) (weigh_row f xs)

weigh_rows : (f : Card → ℕ) (chain : ℕ → List Seen) (bs : List ℕ)
    → total f (rows.all_cards (map chain bs)) ≡ weigh_cards f (map (λ b. row_of (chain b)) bs)
weigh_rows f chain [] = refl
weigh_rows f chain (b ∷ bs) =
    total-append f (rows.cards_of (chain b)) (rows.all_cards (map chain bs))
    ∙ ap (λ (n : ℕ). n + total f (rows.all_cards (map chain bs))) (weigh_row f (chain b))
    ∙ ap (λ (n : ℕ). total (λ (x : Hashed). f x.card) (row_of (chain b)) + n) (weigh_rows f chain bs)

-- Names

few_kinds : (k : Kind) → number_of k < 8
few_kinds kinds.Full = omega arith
few_kinds kinds.TimeWait = omega arith
few_kinds kinds.Listen = omega arith
few_kinds kinds.Request = omega arith

differ : (a b : Card) → a.name ≢ b.name → order_of a ≢ order_of b
differ a b names same = names (omega (arith, same, few_kinds a.kind, few_kinds b.kind))

have_places : (flat : Flat) → IsSound flat → HavePlaces (cards_of flat.groups flat.sockets)
have_places flat sound =
    pairs_filter_map NamesDiffer (λ (x y : Card). order_of x ≢ order_of y) (card_of flat.groups) flat.sockets
    (λ x y c d is at q. differ c d (λ h. q ((says flat.groups x c is).name ∙ h ∙ sym (says flat.groups y d at).name))) sound.names

-- the cards of the chains that these changes make, ascending, are what the list lists
pub lists_flat : (layout : Layout) (next : ℕ) (closed : List Change) (flat : Flat) → IsSound flat → ChainsMean (chains_of layout next closed) flat
    → ascending (cards_from layout closed) ≡ listed flat
lists_flat layout next closed flat sound mean =
    let same : SameItems (cards_of flat.groups flat.sockets) (cards_from layout closed) =
    λ f. sym (weigh_rows f (chain_from closed) (range_with_len 0 (bucket_count layout)) ∙ mean.cards f) in
    sym (lists_as_one (cards_of flat.groups flat.sockets) (cards_from layout closed) same (have_places flat sound))

-- What is appended

-- a dump's listing, without its span
pub dump_lists : (t : Tables) (w : Worker) (before : List Listing) (cards : List Card)
    → cards ≡ ascending (cards_from t.chains.layout (chained t w).view.book.closed)
    → ListsFor (tables_of t w) commands.Dump before (before ++ record { cards = cards; span = None } ∷ [])
dump_lists t w before cards is flat shape sound mean =
    ap (λ (l : List Card). before ++ record { cards = l; span = None } ∷ [])
    (is ∙ lists_flat t.chains.layout w.chain.next (chained t w).view.book.closed flat sound mean.chains)
