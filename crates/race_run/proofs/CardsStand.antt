-- The cards of the list are those that stand in the chains, each at home.
use Rattle.std.proofs.Common.{◌≡◌, ℕ, zero, suc, Bool, true, false, ◌||◌, List, [], ◌∷◌, get_or, refl, sym, ap, ◌∙◌, subst}
use Rattle.std.specs.List.{list_any}
use Rattle.std.proofs.lemmas.Bool.{or_left, or_right}
use Rattle.list_words.specs.Lists.{total}
use Rattle.sock_card.specs.declared.card.Card.{Card}
use Rattle.chain_book.specs.declared.outcome.Hashed.{Hashed}
use Rattle.chain_book.specs.Chains.{Chains, row_at, home_in}
use Rattle.flat_list.specs.Flat.{Flat}
use Rattle.flat_list.specs.Look.{cards_of}
use Rattle.table_model.specs.Means.{ChainsMean, weigh_cards}
use Rattle.table_model.proofs.lists.Passing.{Weighs, ind, any_weighs, same_answer}
use Rattle.table_model.proofs.lists.Rows.{weigh}
use Rattle.table_model.proofs.parts.MemberPlaces.{weighs_or}
use Rattle.list_words.proofs.Items.{In, each_in, any_in, any_item}
use Rattle.race_run.proofs.CardsSame.{is_card, card_is, card_itself}

module _ {A : Type 0} (p : A → Bool) where
  rows_weigh : (rows : List (List A)) → Weighs (list_any (λ row. list_any p row) rows) (weigh (ind p) rows)
  rows_weigh [] = (λ e. absurd (cc), λ e. refl)
  rows_weigh (r ∷ rs) = weighs_or (list_any p r) (list_any (λ row. list_any p row) rs) (total (ind p) r) (weigh (ind p) rs) (any_weighs p r) (rows_weigh rs)

  -- what stands in a row stands in some row
  pub some_row : (rows : List (List A)) (b : ℕ) (x : A) → In x (get_or rows b []) → p x ≡ true → list_any (λ row. list_any p row) rows ≡ true
  some_row [] b x i h = absurd i
  some_row (r ∷ rs) zero x i h = or_left (list_any p r) (list_any (λ row. list_any p row) rs) (any_in p x r i h)
  some_row (r ∷ rs) (suc b) x i h = or_right (list_any p r) (list_any (λ row. list_any p row) rs) (some_row rs b x i h)

  -- an item of a row that passes
  pub record InRow (rows : List (List A)) : Type 0 where
    pub row : ℕ
    pub item : A
    pub within : In item (get_or rows row [])
    pub passes : p item ≡ true

  row_later : (r : List A) (rs : List (List A)) → InRow rs → InRow (r ∷ rs)
  row_later r rs q = record { row = suc q.row; item = q.item; within = q.within; passes = q.passes }

  row_here : (r : List A) (rs : List (List A)) (b : Bool) → list_any p r ≡ b → (b || list_any (λ row. list_any p row) rs) ≡ true → (list_any (λ row. list_any p row) rs ≡ true → InRow rs) → InRow (r ∷ rs)
  row_here r rs true e h next =
      let q = any_item p r e in record { row = 0; item = q.item; within = q.within; passes = q.passes }
  row_here r rs false e h next = row_later r rs (next h)

  -- where some row has one that passes
  pub in_row : (rows : List (List A)) → list_any (λ row. list_any p row) rows ≡ true → InRow rows
  in_row [] h = absurd (cc)
  in_row (r ∷ rs) h = row_here r rs (list_any p r) refl h (in_row rs)

-- where a card stands
pub record StandsAt (chains : Chains) (c : Card) : Type 0 where
  pub hashed : Hashed
  pub within : In hashed (row_at chains (home_in chains c))
  pub card : hashed.card ≡ c

module _ (chains : Chains) (flat : Flat) (mean : ChainsMean chains flat) where
  abbrev all : List Card
  all = cards_of flat.groups flat.sockets

  -- a test of cards passes for some in the rows where it does for some of the list
  any_same : (q : Card → Bool) → list_any (λ row. list_any (λ (x : Hashed). q x.card) row) chains.rows ≡ list_any q all
  any_same q =
      same_answer (list_any (λ row. list_any (λ (x : Hashed). q x.card) row) chains.rows) (list_any q all) (weigh_cards (ind q) chains.rows) (total (ind q) all)
      (rows_weigh (λ (x : Hashed). q x.card) chains.rows) (any_weighs q all) (mean.cards (ind q))

  -- what stands in a row is of the list
  pub stands_of : (b : ℕ) (x : Hashed) → In x (row_at chains b) → In x.card all
  stands_of b x i =
      let some = any_item (is_card x.card) all (sym (any_same (is_card x.card)) ∙ some_row (λ (y : Hashed). is_card x.card y.card) chains.rows b x i (card_itself x.card)) in
      subst (λ (c : Card). In c all) (sym (card_is x.card some.item some.passes)) some.within

  -- and stands at home
  pub at_home : (b : ℕ) (x : Hashed) → In x (row_at chains b) → home_in chains x.card ≡ b
  at_home b x i = each_in (λ (y : Hashed). home_in chains y.card ≡ b) x (row_at chains b) (mean.homes b) i

  -- a card of the list stands at home
  pub of_stands : (c : Card) → In c all → StandsAt chains c
  of_stands c i =
      let there = in_row (λ (y : Hashed). is_card c y.card) chains.rows (any_same (is_card c) ∙ any_in (is_card c) c all i (card_itself c)) in
      let is : c ≡ there.item.card = card_is c there.item.card there.passes in
      let home : home_in chains c ≡ there.row = ap (home_in chains) is ∙ at_home there.row there.item there.within in
      record { hashed = there.item; within = subst (λ b. In there.item (row_at chains b)) (sym home) there.within; card = sym is }
