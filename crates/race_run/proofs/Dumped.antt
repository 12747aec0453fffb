-- From the two loads of the clock and what was listed between them to what the pass knows.
use Rattle.std.proofs.Common.{◌≡◌, ℕ, suc, List, [], ◌∷◌, ◌++◌, refl, sym, ap, ◌∙◌, ◌≤◌, map}
use mathlib.Core.Option.{some}
use lib.ListN.{get_elem?}
use Rattle.list_words.specs.Lists.{Each}
use Rattle.sock_card.specs.declared.card.Card.{Card}
use Rattle.table_rule.specs.Alone.{mine}
use Rattle.table_rule.specs.Beyond.{SightTrue}
use Rattle.table_rule.specs.Book.{open-end}
use Rattle.table_rule.specs.Plays.{settled, seeing}
use Rattle.table_rule.specs.Sole.{WholeBook}
use Rattle.table_rule.specs.Words.{bucket_count}
use Rattle.table_rule.specs.declared.view.Layout.{Layout}
use Rattle.table_rule.specs.declared.view.Sight.{Sight}
use Rattle.table_rule.specs.declared.view.View.{View}
use Rattle.nulls_chain.proofs.Saw.{settled-append}
use Rattle.race_run.specs.Books.{AreTold}
use Rattle.race_run.specs.Dumps.{Keeps, ListsAll, Saw}
use Rattle.race_run.specs.Rows.{all_cards, chain_in}
use Rattle.race_run.specs.Sightings.{sightings}
use Rattle.race_run.specs.declared.chain_dump.dumping.Dump.{Dump}
use Rattle.race_run.proofs.Lives.{is_true}
use Rattle.race_run.proofs.Seeings.{settled_sights}

-- before and after the loads, and between
module _ (v u w x : View) (t0 t1 : ℕ) (first : u ≡ seeing v t0) (last : x ≡ seeing w t1) where
  pub keeps_all : Keeps u w → Keeps v x
  keeps_all k = record {
    layout = ap (λ (y : View). y.layout) last ∙ (k.layout ∙ ap (λ (y : View). y.layout) first);
    slot = ap (λ (y : View). y.slot) last ∙ (k.slot ∙ ap (λ (y : View). y.slot) first);
    book = ap (λ (y : View). y.book) last ∙ (k.book ∙ ap (λ (y : View). y.book) first);
    read = ap (λ (y : View). y.read) last ∙ (k.read ∙ ap (λ (y : View). y.read) first);
    done = ap (λ (y : View). y.done) last ∙ (k.done ∙ ap (λ (y : View). y.done) first);
  }

  module _ (layout : Layout) (count : ℕ) (all : count ≡ bucket_count layout) (old items : List Card) (none : old ≡ []) (l : ListsAll count old items u w) where
    are_cards : items ≡ all_cards (map chain_in l.rows)
    are_cards = l.listed ∙ ap (λ (m : List Card). m ++ all_cards (map chain_in l.rows)) none

    sights_are : x.sights ≡ settled (settled v.sights t0) t1 ++ sightings t0 t1 0 l.rows
    sights_are =
        ap (λ (y : View). y.sights) last
        ∙ (ap (λ (m : List Sight). settled m t1) (l.sights ∙ ap (λ (y : View). y.sights ++ sightings y.seen open-end 0 l.rows) first)
        ∙ (settled-append (settled v.sights t0) (sightings t0 open-end 0 l.rows) t1
        ∙ ap (λ (m : List Sight). settled (settled v.sights t0) t1 ++ m) (settled_sights t0 t1 0 l.rows)))

    pub saw_all : (dump : Dump) → dump.items.items ≡ items → dump.t0 ≡ t0 → dump.t1 ≡ t1 → dump.t0 ≤ dump.t1 → Saw layout dump v x
    saw_all dump e a b order = record {
      rows = l.rows;
      each = l.each ∙ all;
      items = e ∙ are_cards;
      sights = sights_are ∙ λ i. settled (settled v.sights (sym a i)) (sym b i) ++ sightings (sym a i) (sym b i) 0 l.rows;
      told = λ views k. is_true views dump.t0 dump.t1 (bucket_count layout) l.rows dump.items.items (l.each ∙ all) order l.ascend (e ∙ are_cards) l.chains k;
    }

  each-of : {A : Type 0} (P : A → Type 0) (xs ys : List A) → ((n : ℕ) (y : A) → get_elem? (xs ++ ys) n ≡ some y → P y) → Each P ys
  each-of P [] [] f = tt
  each-of P [] (y ∷ ys) f = (f 0 y refl, each-of P [] ys (λ n z. f (suc n) z))
  each-of P (x ∷ xs) ys f = each-of P xs ys (λ n z. f (suc n) z)

  -- where the pass has all parts, its own book is the whole one
  pub own_book : (layout : Layout) (dump : Dump) → dump.t1 ≡ t1 → WholeBook x t1 → Saw layout dump v x → Keeps v x → v.book.opened ≡ [] → v.slot.parts ≡ 16384 → AreTold (mine x) (bucket_count layout) dump.t0 dump.t1 dump.items.items
  own_book layout dump b whole saw k idle parts =
      let truth = (whole (ap (λ y. y.parts) k.slot ∙ parts) (ap (λ y. y.opened) k.book ∙ idle)).2 in
      saw.told (mine x) (each-of (SightTrue (mine x)) (settled (settled v.sights dump.t0) dump.t1) (sightings dump.t0 dump.t1 0 saw.rows)
      (λ n s e. truth n s (ap (λ (m : List Sight). get_elem? m n) saw.sights ∙ e)))
