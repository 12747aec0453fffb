-- Where a TIME_WAIT was sought and was gone, its life is on its way out before the search ends.
use Rattle.std.proofs.Common.{◌≡◌, ℕ, zero, suc, ◌<◌, ◌≤◌, ◌==◌, Bool, true, false, cond, List, [], ◌∷◌, Option, None, Some, find, refl, sym, ap, ◌∙◌, subst, arith}
use Rattle.std.proofs.lemmas.Bool.{true≢false, eq-eqb, and_from}
use mathlib.Core.Option.{some, some-injective, some-ne-none}
use mathlib.Core.Logic.{dite}
use native.Mathlib.Decide.{dec_le}
use lib.ListN.{get_elem?}
use Rattle.sock_card.specs.declared.card.Card.{Card}
use Rattle.sock_card.specs.declared.card.Kind.TheVariants as kinds
use Rattle.sock_card.specs.TimeWait.{is_time_wait_kind}
use Rattle.chain_book.specs.declared.book.Change.{Change}
use Rattle.chain_book.specs.declared.outcome.Hashed.{Hashed}
use Rattle.chain_book.specs.Chains.{waits_as}
use Rattle.chain_book.specs.Homes.{home}
use Rattle.flat_list.specs.declared.header.Header.{Header}
use Rattle.table_rule.specs.Alone.{mine}
use Rattle.table_rule.specs.Beyond.{SightTrue, ListedOf}
use Rattle.table_rule.specs.Words.{card_from}
use Rattle.table_rule.specs.declared.view.View.{View}
use Rattle.table_rule.specs.declared.view.Seen.{Seen}
use Rattle.established.specs.Rows.{row_of, hashed_in, HasCard}
use Rattle.race_book.specs.Among.{Among}
use Rattle.race_book.specs.Lives.{IsLife, Ends, Leaves, ending}
use Rattle.race_book.proofs.Endings.{ending_ends, no_ending, ends_together}
use Rattle.sock_ops.specs.Sides.{change_of}
use Rattle.race_run.specs.Made.{SawNoWait, IsBy}
use Rattle.race_run.specs.Races.{IsWhole, book_of}
use Rattle.race_run.specs.Sections.{layout_in}
use Rattle.race_run.proofs.CardsTold.{same_told}
use Rattle.race_run.proofs.FromRaw.{AreGood, each_at, place_of, raw_of, RawOf, raw_hash, ends_book, serial}

not_by : (test : Hashed → Bool) (s : Seen) (ss : List Seen) (b : Bool) → test (hashed_in s) ≡ b → cond b (Some (hashed_in s)) (find test (row_of ss)) ≡ None → (test (hashed_in s) ≡ false) × (find test (row_of ss) ≡ None)
not_by test s ss true t e = absurd (cc)
not_by test s ss false t e = (t, e)

-- who is not found passes the test nowhere
not_found : (test : Hashed → Bool) (listed : List Seen) (n : ℕ) (s : Seen) → get_elem? listed n ≡ some s → find test (row_of listed) ≡ None → test (hashed_in s) ≡ false
not_found test [] n s a e = absurd (some-ne-none s (sym a))
not_found test (x ∷ xs) zero s a e = ap (λ y. test (hashed_in y)) (sym (some-injective x s a)) ∙ (not_by test x xs (test (hashed_in x)) refl e).0
not_found test (x ∷ xs) (suc n) s a e = not_found test xs n s a (not_by test x xs (test (hashed_in x)) refl e).1

module _ (header : Header) (v : View) (clock : ℕ) (w : IsWhole v clock) (good : AreGood header v)
    (from to : ℕ) (card : Card) (saw : SawNoWait v.sights from (IsBy to) (layout_in header) card)
    (h : Change) (life : IsLife (Among (book_of v)) h) (is : h.card ≡ card) (kind : card.kind ≡ kinds.TimeWait) (before : h.end < from) where
  abbrev r : RawOf header v clock w good h
  r = raw_of header v clock w good h life.there

  seen_true : SightTrue (mine v) saw.sight
  seen_true =
      let p = place_of v.sights saw.sight saw.there in
      let b = w.book w.parts w.opened in
      b.2 p.0 saw.sight p.1

  at_home : r.change.bucket ≡ home header.shape header.seed card
  at_home = ap (λ (x : Change). x.bucket) (sym r.is) ∙ (serial header v clock w good).homes h life.there ∙ ap (home header.shape header.seed) is

  unlisted : ListedOf saw.sight r.change → ⊥
  unlisted l =
      let c = each_at HasCard saw.sight.listed l.nth l.seen l.there saw.cards in
      let same : card_from l.seen.words ≡ card = sym (same_told l.seen.words r.change.card c.0 l.words) ∙ ap (λ (x : Change). x.card) (sym r.is) ∙ is in
      let named = eq-eqb (card_from l.seen.words).name card.name (ap (λ (x : Card). x.name) same) in
      let waits : is_time_wait_kind (card_from l.seen.words).kind ≡ true = ap (λ (x : Card). is_time_wait_kind x.kind) same ∙ ap is_time_wait_kind kind in
      true≢false (sym (and_from ((card_from l.seen.words).name == card.name) (is_time_wait_kind (card_from l.seen.words).kind) named waits) ∙ not_found (waits_as card.name) saw.sight.listed l.nth l.seen l.there saw.none)

  -- it does not stay to the end of the walk
  stays_not : ((u : Change) → Ends (Among (book_of v)) h u → saw.sight.until ≤ u.begin) → ⊥
  stays_not still = unlisted (seen_true.whole saw.whole (home header.shape header.seed card) saw.bucket r.change r.there (raw_hash header v clock w good h r life.hash) at_home (
    let low = seen_true.since in omega (arith, before, saw.since, low, ap (λ (x : Change). x.end) r.is),
    λ u e.
        let high = seen_true.until in
        let late = still (change_of u) (subst (λ (x : Change). Ends (Among (book_of v)) x (change_of u)) (sym r.is) (ends_book header v clock w good r.change u e)) in
        omega (arith, high, late),
  ))

  by_ending : (o : Option Change) → ending (book_of v) h ≡ o → Leaves (Among (book_of v)) h to
  by_ending None e = absurd (stays_not (λ u q. absurd (no_ending (book_of v) h e u q.there q.after)))
  by_ending (Some u) e =
      let q : Ends (Among (book_of v)) h u = ending_ends (book_of v) h u e in
      dite (dec_le saw.sight.until u.begin)
      (λ l. absurd (stays_not (λ x p. omega (arith, l, ends_together h x u p q))))
      (λ ne. record { unhash = u; ends = q; before = omega (arith, ne, saw.is) })

  pub left : Leaves (Among (book_of v)) h to
  left = by_ending (ending (book_of v) h) refl
