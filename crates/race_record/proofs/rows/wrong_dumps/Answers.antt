use Rattle.std.proofs.Common.{◌≡◌, ℕ, ◌<◌, ◌≤◌, ◌⊎◌, inl, inr, ⊎_elim, List, [], ◌∷◌, length, map, refl, sym, ap, ◌∙◌, subst, arith}
use Rattle.std.proofs.lemmas.Bool.{true≢false}
use mathlib.Core.Logic.{dite}
use native.Mathlib.Decide.{dec_le}
use Rattle.list_words.specs.Lists.{Each, SameItems, total}
use Rattle.list_words.proofs.EachLemmas.{each_weaken, each_both}
use Rattle.std.specs.Prelude.{unwrap_or}
use Rattle.sock_card.specs.declared.card.Card.{Card}
use Rattle.socket_list.specs.Listing.{Listing}
use Rattle.socket_list.specs.declared.listing.Span.{Span}
use Rattle.chain_book.specs.declared.book.Change.{Change}
use Rattle.race_book.specs.Among.{Among}
use Rattle.race_book.specs.Lives.{IsLife, comes_after}
use Rattle.race_record.specs.Lawful.{StandsAt}
use Rattle.race_record.specs.Refused as refused
use Rattle.race_record.specs.Wrong.{closing_race, hash_w, later_race}
use Rattle.race_record.specs.Worked.{card_a, hash_a}
use Rattle.race_record.proofs.Listener.{lives, stays}
use Rattle.race_record.proofs.rows.wrong_dumps.Goals as goal

abbrev cards_at : List Listing → List Card
cards_at [] = []
cards_at (l ∷ rest) = l.cards

abbrev span_at : List Listing → Span
span_at [] = record { t0 = 0; t1 = 0 }
span_at (l ∷ rest) = unwrap_or l.span (record { t0 = 0; t1 = 0 })

pub returns-clause-nothing : goal.returns-clause-nothing
returns-clause-nothing c l =
    let d = l.dumps.1.1.1.0 in
    let low = d.3.since hash_a.bucket in
    let high = d.3.until hash_a.bucket in
    let t0 = ap (λ (ls : List Listing). (span_at ls).t0) d.2 in
    let t1 = ap (λ (ls : List Listing). (span_at ls).t1) d.2 in
    subst (λ (cards : List Card). Among cards card_a) (sym (ap cards_at d.2)) (d.3.all hash_a lives record {
      before = omega (arith, low, t0, stays.before);
      still = λ u there after. let late = stays.still u there after in omega (arith, late, high, t1);
    })

pub returns-clause-before : goal.returns-clause-before
returns-clause-before c l = let d = l.dumps.1.1.1.0 in omega (arith, d.3.begins, ap (λ (ls : List Listing). (span_at ls).t0) d.2)

pub returns-clause-backwards : goal.returns-clause-backwards
returns-clause-backwards c l = omega (arith, l.spans.1.0.pairs.0.0)

-- at each number one of the two stands
one_stands : (n : ℕ) → 2 ≤ n → StandsAt (Among closing_race.book) refused.hash_a n ⊎ StandsAt (Among closing_race.book) hash_w n
one_stands n low = dite (dec_le n 4)
    (λ le. inl record {
      before = omega (arith, low);
      still = λ u a t. elim a as (λ _. n ≤ u.begin) [
        | inl e ↦ absurd (true≢false (sym t ∙ ap (comes_after refused.hash_a) e))
        | inr r ↦ elim r as (λ _. n ≤ u.begin) [
          | inl e ↦ absurd (true≢false (sym t ∙ ap (comes_after refused.hash_a) e))
          | inr s ↦ elim s as (λ _. n ≤ u.begin) [ inl e ↦ omega (arith, le, ap (λ (x : Change). x.begin) e) | inr q ↦ absurd q ]
        ]
      ];
    })
    (λ gt. inr record {
      before = omega (arith, gt);
      still = λ u a t. elim a as (λ _. n ≤ u.begin) [
        | inl e ↦ absurd (true≢false (sym t ∙ ap (comes_after hash_w) e))
        | inr r ↦ elim r as (λ _. n ≤ u.begin) [
          | inl e ↦ absurd (true≢false (sym t ∙ ap (comes_after hash_w) e))
          | inr s ↦ elim s as (λ _. n ≤ u.begin) [ inl e ↦ absurd (true≢false (sym t ∙ ap (comes_after hash_w) e)) | inr q ↦ absurd q ]
        ]
      ];
    })

pub returns-clause-neither : goal.returns-clause-neither
returns-clause-neither c l =
    let d = l.dumps.1.1.1.1.0 in
    let low = d.3.since 0 in
    let t0 = ap (λ (ls : List Listing). (span_at ls).t0) d.2 in
    let none : (h : Change) → IsLife (Among closing_race.book) h → h.bucket ≡ 0 → StandsAt (Among closing_race.book) h (d.3.number 0) → ⊥ =
    λ h life at stands. subst (λ (cards : List Card). Among cards h.card) (sym (ap cards_at d.2))
    (d.3.all h life (subst (λ (b : ℕ). StandsAt (Among closing_race.book) h (d.3.number b)) (sym at) stands)) in
    ⊎_elim
    (λ s. none refused.hash_a (record { there = inl refl; hash = refl }) refl s)
    (λ s. none hash_w (record { there = inr (inl refl); hash = refl }) refl s)
    (one_stands (d.3.number 0) (omega (arith, low, t0)))

-- the listener stands from its hash on
listens : (n : ℕ) → 1 < n → StandsAt (Among later_race.book) hash_a n
listens n low = record {
  before = omega (arith, low);
  still = λ u a t. elim a as (λ _. n ≤ u.begin) [
    | inl e ↦ absurd (true≢false (sym t ∙ ap (comes_after hash_a) e))
    | inr r ↦ elim r as (λ _. n ≤ u.begin) [ inl e ↦ absurd (true≢false (sym t ∙ ap (comes_after hash_a) e)) | inr q ↦ absurd q ]
  ];
}

-- a list of one card has a life
first_life : (cards : List Card) (lives : List Change) → SameItems cards (map (λ (h : Change). h.card) lives) → 0 < length cards → (P : Change → Type 0) → Each P lives → (h : Change) × P h
first_life cards [] same one P k = absurd (omega (arith, same (λ _. 1), one, ones cards))
  where
    ones : (l : List Card) → total (λ (_ : Card). 1) l ≡ length l
    ones [] = refl
    ones (x ∷ xs) = omega (arith, ones xs)
first_life cards (h ∷ rest) same one P k = (h, k.0)

pub returns-clause-order : goal.returns-clause-order
returns-clause-order c l =
    let d = l.dumps.1.1.1.1.1.1.0 in
    let i = d.3 in
    let first : d.0 ≡ refused.full_card refused.owner_b ∷ [] = sym (ap cards_at d.2) in
    let soon : i.number 1 ≤ 1 = dite (dec_le (i.number 1) 1)
    (λ le. le)
    (λ gt. absurd (others (subst (λ (cards : List Card). Among cards card_a) first (i.all hash_a (record { there = inl refl; hash = refl }) (listens (i.number 1) (omega (arith, gt))))))) in
    let h = first_life d.0 i.lives i.cards_are (omega (arith, ap (length {A = Card}) first)) (λ x. Among later_race.book x × StandsAt (Among later_race.book) x (i.number x.bucket)) (each_both _ _ i.lives (each_weaken _ _ i.lives (λ x s. s.0.there) i.stood) i.stands) in
    elim h.1.0 as (λ _. ⊥) [
      | inl e ↦ let s = h.1.1.before in omega (arith, soon, s, ap (λ (x : Change). x.end) e, ap (λ (x : Change). i.number x.bucket) e)
      | inr r ↦ elim r as (λ _. ⊥) [
        | inl e ↦ let s = h.1.1.before in let up = i.ascend 0 1 (omega arith) in omega (arith, soon, up, s, ap (λ (x : Change). x.end) e, ap (λ (x : Change). i.number x.bucket) e)
        | inr q ↦ q
      ]
    ]
  where
    others : Among (refused.full_card refused.owner_b ∷ []) card_a → ⊥
    others a = elim a as (λ _. ⊥) [ inl e ↦ (let z = ap (λ (x : Card). x.kind) e in cc) | inr n ↦ n ]
