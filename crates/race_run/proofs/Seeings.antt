-- What is known as one bucket more is listed.
use Rattle.std.proofs.Common.{◌≡◌, ℕ, ◌+◌, List, [], ◌∷◌, ◌++◌, refl, sym, ap, ◌∙◌, arith, length, subst, append_assoc, ◌≤◌, map, suc}
use Rattle.std.proofs.lemmas.List.FromFn.{map-range_with_len_more}
use Rattle.std.proofs.lemmas.List.{map-append}
use mathlib.Core.Option.{some}
use lib.ListN.{get_elem?}
use Rattle.list_words.specs.Lists.{Each, Pairs}
use Rattle.list_words.proofs.EachLemmas.{each_append}
use Rattle.list_words.proofs.PlaceLemmas.{length_push}
use Rattle.nulls_chain.specs.Changes.{WasChain}
use Rattle.sock_card.specs.declared.card.Card.{Card}
use Rattle.table_rule.specs.Book.{open-end}
use Rattle.table_rule.specs.Plays.{locking, unlocking, settled}
use Rattle.table_rule.specs.Sole.{IsSole, Rises, chain_from}
use Rattle.table_rule.specs.declared.view.Change.{Change}
use Rattle.table_rule.specs.declared.view.Seen.{Seen}
use Rattle.table_rule.specs.declared.view.Sight.{Sight}
use Rattle.table_rule.specs.declared.view.View.{View}
use Rattle.race_run.specs.Rows.{Row, chain_in, NotAfter, cards_of, all_cards, IsChain}
use Rattle.race_run.specs.Sightings.{sighting, sightings, having_seen, Lists}
use Rattle.race_run.specs.Dumps.{Keeps, ListsAll, chains_from}
use Rattle.race_run.proofs.Cards.{all-more}

-- a pass that has one bucket locked is alone where it was
pub sole_locking : (v : View) (bucket : ℕ) (xs : List Seen) → WasChain xs bucket (locking v bucket) → WasChain xs bucket v
sole_locking v bucket xs was s = was (record { all = s.all; rises = s.rises; waits = s.waits })

-- its lock is given back after the walk
pub saw_one : (v w x : View) (bucket instant : ℕ) → w ≡ record (locking v bucket) { chain = w.chain } → w.chain.locked ≡ bucket ∷ [] → w.chain.met ≡ 1 → x ≡ unlocking w instant → x ≡ having_seen v bucket (record { instant = instant; chain = w.chain.walked })
saw_one v w x bucket instant walked locked met is =
    is ∙ (ap (λ (y : View). unlocking y instant) walked ∙ λ i. record v {
      chain = record { locked = []; walked = []; ahead = []; met = 0 };
      since = v.seen;
      twice = 0;
      sights = v.sights ++ record { bucket = locked i; listed = w.chain.walked; held = []; whole = met i; since = v.seen; instant = instant; until = open-end } ∷ [];
    })

sights-more : (from to b c : ℕ) (rows : List Row) (xs : Row) → c ≡ b + length rows → sightings from to b (rows ++ xs ∷ []) ≡ sightings from to b rows ++ sighting from to c xs ∷ []
sights-more from to b c [] xs e = let h : b ≡ c = omega (arith, e) in ap (λ (n : ℕ). sighting from to n xs ∷ []) h
sights-more from to b c (row ∷ rows) xs e = ap (λ (l : List Sight). sighting from to b row ∷ l) (sights-more from to (b + 1) c rows xs (omega (arith, e)))

pub settled_sights : (from to b : ℕ) (rows : List Row) → settled (sightings from open-end b rows) to ≡ sightings from to b rows
settled_sights from to b [] = refl
settled_sights from to b (row ∷ rows) = ap (λ (l : List Sight). sighting from to b row ∷ l) (settled_sights from to (b + 1) rows)

pub keeps_same : (v : View) → Keeps v v
keeps_same v = record { layout = refl; slot = refl; book = refl; read = refl; done = refl }

pub keeps_seen : (v u w : View) (bucket : ℕ) (xs : Row) → Keeps v u → w ≡ having_seen u bucket xs → Keeps v w
keeps_seen v u w bucket xs k is = record {
  layout = ap (λ (x : View). x.layout) is ∙ k.layout;
  slot = ap (λ (x : View). x.slot) is ∙ k.slot;
  book = ap (λ (x : View). x.book) is ∙ k.book;
  read = ap (λ (x : View). x.read) is ∙ k.read;
  done = ap (λ (x : View). x.done) is ∙ k.done;
}

pub sole_kept : (v u : View) → Keeps v u → IsSole v → IsSole u
sole_kept v u k s = record {
  all = ap (λ x. x.parts) k.slot ∙ s.all;
  rises = subst (λ x. Rises x.closed) (sym k.book) s.rises;
  waits = subst (λ x. (m : ℕ) (c : Change) → get_elem? x.opened m ≡ some c → c.kind ≡ 2) (sym k.book) s.waits;
}

pub lists_none : (items : List Card) (v : View) → ListsAll 0 items items v v
lists_none items v = record {
  rows = [];
  each = refl;
  ascend = tt;
  listed = sym (append-none items);
  chains = tt;
  sole = λ _. refl;
  sights = sym (append-none v.sights);
}
  where
    append-none : {A : Type 0} (l : List A) → l ++ [] ≡ l
    append-none [] = refl
    append-none (x ∷ l) = ap (λ (m : List _). x ∷ m) (append-none l)

-- no row so far is of a later instant
rows_below : (from to b number : ℕ) (front : List Sight) (rows : List Row) → ((n : ℕ) (s : Sight) → get_elem? (front ++ sightings from to b rows) n ≡ some s → s.instant ≤ number) → Each (λ (r : Row). r.instant ≤ number) rows
rows_below from to b number (x ∷ front) rows f = rows_below from to b number front rows (λ n s. f (suc n) s)
rows_below from to b number [] [] f = tt
rows_below from to b number [] (row ∷ rows) f = (f 0 (sighting from to b row) refl, rows_below from to (b + 1) number [] rows (λ n s. f (suc n) s))

ascend_more : (rows : List Row) (last : Row) → Pairs NotAfter rows → Each (λ (r : Row). r.instant ≤ last.instant) rows → Pairs NotAfter (rows ++ last ∷ [])
ascend_more [] last p e = (tt, tt)
ascend_more (r ∷ rows) last p e = (each_append (NotAfter r) rows (last ∷ []) p.0 (e.0, tt), ascend_more rows last p.1 e.1)

-- one bucket more
pub lists_more : (count : ℕ) (old mid new : List Card) (v u w : View) → Keeps v u → u.seen ≡ v.seen → ListsAll count old mid v u → Lists count mid new u w → ListsAll (count + 1) old new v w
lists_more count old mid new v u w k seen all one =
    let chains : List (List Seen) = map chain_in all.rows in
    let last : List Seen = one.row.chain in
    let grown : map chain_in (all.rows ++ one.row ∷ []) ≡ chains ++ last ∷ [] = map-append chain_in all.rows (one.row ∷ []) in
    record {
      rows = all.rows ++ one.row ∷ [];
      each = length_push all.rows one.row ∙ ap (λ (n : ℕ). n + 1) all.each;
      ascend = ascend_more all.rows one.row all.ascend (rows_below v.seen open-end 0 one.row.instant v.sights all.rows
          (λ n s e. one.above n s (ap (λ (l : List Sight). get_elem? l n) all.sights ∙ e)));
      listed = one.listed ∙ (ap (λ (l : List Card). l ++ cards_of last) all.listed ∙ (append_assoc old (all_cards chains) (cards_of last) ∙ ap (λ (l : List Card). old ++ l) (sym (ap all_cards grown ∙ all-more chains last))));
      chains = subst (Each IsChain) (sym grown) (each_append IsChain chains (last ∷ []) all.chains (one.is-chain, tt));
      sole = λ s.
          let is : last ≡ chain_from v.book.closed count = one.sole (sole_kept v u k s) ∙ ap (λ x. chain_from x.closed count) k.book in
          grown
          ∙ (ap (λ (l : List (List Seen)). l ++ last ∷ []) (all.sole s)
          ∙ (ap (λ (xs : List Seen). chains_from count v.book.closed ++ xs ∷ []) is
          ∙ sym (map-range_with_len_more (chain_from v.book.closed) 0 count count (omega arith))));
      sights = ap (λ (x : View). x.sights) one.saw
          ∙ (ap (λ (n : ℕ). u.sights ++ sighting n open-end count one.row ∷ []) seen
          ∙ (ap (λ (l : List Sight). l ++ sighting v.seen open-end count one.row ∷ []) all.sights
          ∙ (append_assoc v.sights (sightings v.seen open-end 0 all.rows) (sighting v.seen open-end count one.row ∷ [])
          ∙ ap (λ (l : List Sight). v.sights ++ l) (sym (sights-more v.seen open-end 0 count all.rows one.row (omega (arith, all.each)))))));
    }
