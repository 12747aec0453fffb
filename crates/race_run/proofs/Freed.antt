-- Where a four-tuple was given, nobody who keeps it stood as the hash began.
use Rattle.std.proofs.Common.{◌≡◌, ℕ, zero, suc, Bool, true, false, cond, List, [], ◌∷◌, Option, None, Some, find, refl, sym, ap, ◌∙◌, subst}
use Rattle.std.proofs.lemmas.Bool.{true≢false}
use mathlib.Core.Option.{some, some-injective, some-ne-none}
use lib.ListN.{get_elem?}
use Rattle.chain_book.specs.declared.book.Change.{Change}
use Rattle.chain_book.specs.declared.outcome.Hashed.{Hashed}
use Rattle.chain_book.specs.Chains.{keeps, waits}
use Rattle.chain_book.specs.Tuples.{keeps_from, waits_at}
use Rattle.sock_card.specs.declared.card.Card.{Card}
use Rattle.flat_list.specs.declared.header.Header.{Header}
use Rattle.table_rule.specs.Alone.{mine}
use Rattle.table_rule.specs.Beyond.{IsThere, SightTrue, ListedOf}
use Rattle.table_rule.specs.Words.{card_from}
use Rattle.table_rule.specs.declared.view.View.{View}
use Rattle.table_rule.specs.declared.view.Seen.{Seen}
use Rattle.established.specs.Rows.{row_of, hashed_in, HasCard}
use Rattle.race_book.specs.Among.{Among}
use Rattle.race_book.specs.Lives.{IsLife, Throughout}
use Rattle.race_record.specs.Deeds.{Given}
use Rattle.race_record.specs.Lawful.{StandsAt, GaveWay, WasFree}
use Rattle.sock_ops.specs.Made.{GaveWayIn}
use Rattle.race_run.specs.Made.{SawFree}
use Rattle.race_run.specs.Races.{IsWhole, book_of}
use Rattle.race_run.proofs.CardsTold.{same_told}
use Rattle.race_run.proofs.FromRaw.{AreGood, each_at, place_of, raw_of, RawOf, raw_hash, raw_throughout, standing_life}

not_by : (test : Hashed → Bool) (s : Seen) (ss : List Seen) (b : Bool) → test (hashed_in s) ≡ b → cond b (Some (hashed_in s)) (find test (row_of ss)) ≡ None → (test (hashed_in s) ≡ false) × (find test (row_of ss) ≡ None)
not_by test s ss true t e = absurd (cc)
not_by test s ss false t e = (t, e)

-- who is not found passes the test nowhere
none_passes : (test : Hashed → Bool) (xs : List Seen) (n : ℕ) (s : Seen) → get_elem? xs n ≡ some s → find test (row_of xs) ≡ None → test (hashed_in s) ≡ false
none_passes test [] n s a e = absurd (some-ne-none s (sym a))
none_passes test (x ∷ xs) zero s a e = ap (λ y. test (hashed_in y)) (sym (some-injective x s a)) ∙ (not_by test x xs (test (hashed_in x)) refl e).0
none_passes test (x ∷ xs) (suc n) s a e = none_passes test xs n s a (not_by test x xs (test (hashed_in x)) refl e).1

-- who is found stands in the list
record FoundAt (xs : List Seen) (h : Hashed) : Type 0 where
  nth : ℕ
  seen : Seen
  there : get_elem? xs nth ≡ some seen
  is : hashed_in seen ≡ h

found_by : (test : Hashed → Bool) (s : Seen) (ss : List Seen) (h : Hashed) (b : Bool) → cond b (Some (hashed_in s)) (find test (row_of ss)) ≡ Some h → (find test (row_of ss) ≡ Some h → FoundAt ss h) → FoundAt (s ∷ ss) h
found_by test s ss h true e rest = record { nth = 0; seen = s; there = refl; is = cc }
found_by test s ss h false e rest = let f = rest e in record { nth = suc f.nth; seen = f.seen; there = f.there; is = f.is }

found_at : (test : Hashed → Bool) (xs : List Seen) (h : Hashed) → find test (row_of xs) ≡ Some h → FoundAt xs h
found_at test [] h e = absurd cc
found_at test (x ∷ xs) h e = found_by test x xs h (test (hashed_in x)) e (λ f. found_at test xs h f)

module _ (header : Header) (v : View) (clock : ℕ) (w : IsWhole v clock) (good : AreGood header v) (g : Given) (saw : SawFree v.sights g) where
  seen_true : SightTrue (mine v) saw.sight
  seen_true =
      let p = place_of v.sights saw.sight saw.there in
      let b = w.book w.parts w.opened in
      b.2 p.0 saw.sight p.1

  module _ (h : Change) (life : IsLife (Among (book_of v)) h) (near : h.bucket ≡ g.hash.bucket) (stands : StandsAt (Among (book_of v)) h g.hash.begin) where
    abbrev r : RawOf header v clock w good h
    r = raw_of header v clock w good h life.there

    is_there : IsThere (mine v) r.change saw.sight.instant
    is_there = subst (IsThere (mine v) r.change) (sym saw.instant) (raw_throughout header v clock w good h r g.hash.begin g.hash.begin stands)

    is_listed : ListedOf saw.sight r.change
    is_listed = seen_true.whole saw.whole g.hash.bucket saw.bucket r.change r.there (raw_hash header v clock w good h r life.hash) (ap (λ (x : Change). x.bucket) (sym r.is) ∙ near) is_there

    same_card : card_from is_listed.seen.words ≡ h.card
    same_card =
        let l = is_listed in
        let c = each_at HasCard saw.sight.listed l.nth l.seen l.there saw.cards in
        sym (same_told l.seen.words r.change.card c.0 l.words) ∙ ap (λ (x : Change). x.card) (sym r.is)

    keeps_not : keeps_from g.wish.card g.wish.moment g.wish.rule h.card ≡ true → ⊥
    keeps_not k =
        let l = is_listed in
        true≢false (sym k ∙ ap (keeps_from g.wish.card g.wish.moment g.wish.rule) (sym same_card) ∙ none_passes (keeps g.wish.card g.wish.moment g.wish.rule) saw.sight.listed l.nth l.seen l.there saw.unkept)

    waits_not : g.replaced ≡ None → waits_at g.wish.card h.card ≡ true → ⊥
    waits_not none k =
        let l = is_listed in
        let gone : GaveWayIn g.wish None saw.sight.listed = subst (λ (o : Option Change). GaveWayIn g.wish o saw.sight.listed) none saw.gave in
        true≢false (sym k ∙ ap (waits_at g.wish.card) (sym same_card) ∙ none_passes (waits g.wish.card) saw.sight.listed l.nth l.seen l.there gone)

  gave : (u : Change) → g.replaced ≡ Some u → GaveWay (Among (book_of v)) g u
  gave u some' =
      let k : GaveWayIn g.wish (Some u) saw.sight.listed = subst (λ (o : Option Change). GaveWayIn g.wish o saw.sight.listed) some' saw.gave in
      let f = found_at (waits g.wish.card) saw.sight.listed k.0 k.1 in
      let l = (standing_life header v clock w good saw.sight saw.there f.nth f.seen f.there g.hash.bucket saw.bucket).2 in
      let c = each_at HasCard saw.sight.listed f.nth f.seen f.there saw.cards in
      record {
        life = l.life;
        is = l.is;
        slot_is = l.slot ∙ (ap (λ (x : Hashed). x.slot) f.is ∙ k.2);
        card_is = l.card ∙ (same_told f.seen.words l.words c.0 l.told ∙ (ap (λ (x : Hashed). x.card) f.is ∙ k.3));
        stands = subst (StandsAt (Among (book_of v)) l.life) saw.instant l.stands;
      }

  pub was_free : WasFree (Among (book_of v)) g
  was_free = record {
    unkept = λ h life near k stands. keeps_not h life near stands k;
    unwaited = λ none h life near k stands. waits_not h life near stands none k;
    gave = gave;
  }
