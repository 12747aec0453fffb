use Rattle.std.proofs.Common.{◌≡◌, rules}
use Rattle.std.proofs.lemmas.Fn.{always_returns_same}
use Rattle.std.proofs.lemmas.List.Sorted.{IsNonDecreasingBy-from_sort_by_key}
use Rattle.socket_list.specs.Order.{order_of}
use Rattle.list_words.proofs.AscendingLemmas.{sorted_is}
use Rattle.socket_list.proofs.order.in_order.Goals as goal

pub returns : goal.returns
returns c =
    sorted_is order_of c.args.cards.items _ (IsNonDecreasingBy-from_sort_by_key order_of _ c.in_ok-sort_by_key.ensures.sorted (λ a r q k. search rules))
    (c.in_ok-sort_by_key.ensures.stable order_of (always_returns_same _ (λ a r. r ≡ order_of a.0.now) _ (λ a r q k. search rules)))
