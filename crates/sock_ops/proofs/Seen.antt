-- What a pass saw, over two changes and over a search for a slot.
use Rattle.std.proofs.Common.{◌≡◌, ℕ, ◌<◌, ◌≤◌, List, [], ◌∷◌, ◌++◌, ⊎_elim, inl, inr, refl, sym, ap, ◌∙◌, append_assoc, subst, arith}
use Rattle.table_rule.specs.Book.{open-end}
use Rattle.table_rule.specs.Plays.{sight_of, sight_at, unlocking}
use Rattle.table_rule.specs.declared.view.Sight.{Sight}
use Rattle.table_rule.specs.declared.view.View.{View}
use Rattle.nulls_chain.specs.Changes.{AreSettled, Sees, SawAt}
use Rattle.race_book.specs.Among.{Among}
use Rattle.race_book.proofs.AmongLemmas.{among_left, among_right}
use Rattle.nulls_chain.proofs.Saw.{one-then}

pub as_they_were : (least : ℕ) (xs : List Sight) → AreSettled least xs xs
as_they_were least [] = tt
as_they_were least (x ∷ xs) = (inl refl, as_they_were least xs)

-- what was seen before, and more, is settled again: both parts are
pub record InTwo (a b : ℕ) (xs more all : List Sight) : Type 0 where
  pub earlier : List Sight
  pub rest : List Sight
  pub settled_so : AreSettled a xs earlier
  pub is : all ≡ earlier ++ rest

in_two : (a b : ℕ) (xs ys more all : List Sight) → a ≤ b → AreSettled a xs ys → AreSettled b (ys ++ more) all → InTwo a b xs more all
in_two a b [] [] more all le f g = record { earlier = []; rest = all; settled_so = tt; is = refl }
in_two a b [] (y ∷ ys) more all le f g = absurd f
in_two a b (x ∷ xs) [] more all le f g = absurd f
in_two a b (x ∷ xs) (y ∷ ys) more [] le f g = absurd g
in_two a b (x ∷ xs) (y ∷ ys) more (z ∷ zs) le f g =
    let t = in_two a b xs ys more zs le f.1 g.1 in
    record {
      earlier = z ∷ t.earlier;
      rest = t.rest;
      settled_so = (one-then a b x y z le f.0 g.0, t.settled_so);
      is = ap (λ (l : List Sight). z ∷ l) t.is;
    }

-- all that a pass saw before two changes stands after them
pub sees_both : (v u w : View) → v.seen ≤ u.seen → Sees v u → Sees u w → Sees v w
sees_both v u w le s t =
    let g : AreSettled u.seen (s.0 ++ s.1) t.0 = subst (λ (l : List Sight). AreSettled u.seen l t.0) s.3 t.2 in
    let k = in_two v.seen u.seen v.sights s.0 s.1 t.0 le s.2 g in
    (k.earlier, k.rest ++ t.1, k.settled_so, t.3 ∙ (ap (λ (l : List Sight). l ++ t.1) k.is ∙ append_assoc k.earlier k.rest t.1))

-- as the lock is given back, what was walked is one sighting more
pub sees_more : (v u : View) (instant : ℕ) → Sees v u → Sees v (unlocking u instant)
sees_more v u instant s = (s.0, s.1 ++ sight_of u instant ∷ [], s.2, ap (λ (l : List Sight). l ++ sight_of u instant ∷ []) s.3 ∙ append_assoc s.0 s.1 (sight_of u instant ∷ []))

-- a sighting that had ended stands as it is
pub same_settled : (least : ℕ) (xs ys : List Sight) → AreSettled least xs ys → (s : Sight) → Among xs s → s.until < open-end → Among ys s
same_settled least [] ys h s a few = absurd a
same_settled least (x ∷ xs) [] h s a few = absurd h
same_settled least (x ∷ xs) (y ∷ ys) h s a few = ⊎_elim
    (λ e. ⊎_elim
    (λ same. inl (e ∙ sym same))
    (λ z. let still : s.until ≡ open-end = ap (λ (w : Sight). w.until) e ∙ z.0 in absurd (omega (arith, still, few))) h.0)
    (λ b. inr (same_settled least xs ys h.1 s b few)) a

pub same_sees : (v w : View) → Sees v w → (s : Sight) → Among v.sights s → s.until < open-end → Among w.sights s
same_sees v w h s a few = subst (λ l. Among l s) (sym h.3) (among_left s h.0 h.1 (same_settled v.seen v.sights h.0 h.2 s a few))

-- what was seen as a hash began
pub was_seen : (v w : View) (number : ℕ) → SawAt v w number → Among w.sights (sight_at v number)
was_seen v w number h = subst (λ l. Among l (sight_at v number)) (sym h.3) (among_right (sight_at v number) h.1 (sight_at v number ∷ h.2) (inl refl))
