-- A name's number determines the name.
use Rattle.std.proofs.Common.{◌≡◌, ℕ, ◌+◌, ◌<◌, List, [], ◌∷◌, length, get_or, Some, None, Bool, true, false, not, cond, sym, ap, ◌∙◌, arith, inl, inr, suc}
use Rattle.std.specs.Prelude.{unwrap_or}
use Rattle.std.specs.List.{position_or_len}
use Rattle.std.proofs.lemmas.Bool.{lt-ltb}
use Rattle.std.proofs.lemmas.List.Quantifiers.{position-Some}
use Rattle.race_book.specs.Among.{Among}
use Rattle.record_reader.specs.declared.line.Name.{Name}
use Rattle.record_reader.specs.Names.{name_text, number_in, place_in, same_name}
use Rattle.record_reader.specs.Laws.{NumbersTellNames}
use Rattle.record_reader.proofs.Keys.{same_told, same_itself}
use Rattle.record_reader.proofs.OneName.{one_name}

found_here : (t : Bool) (n m : ℕ) → t ≡ true → cond (not t) (1 + n) 0 < suc m
found_here true n m e = omega arith
found_here false n m e = absurd (cc)

found_later : (t : Bool) (n m : ℕ) → n < m → cond (not t) (1 + n) 0 < suc m
found_later true n m h = omega arith
found_later false n m h = omega arith

-- a name among others stands somewhere first
stands : (names : List Name) (a : Name) → Among names a → position_or_len (same_name a) names < length names
stands [] a h = absurd h
stands (x ∷ xs) a (inl e) = found_here (same_name a x) (position_or_len (same_name a) xs) (length xs) (ap (same_name a) (sym e) ∙ same_itself a)
stands (x ∷ xs) a (inr h) = found_later (same_name a x) (position_or_len (same_name a) xs) (length xs) (stands xs a h)

placed : (names : List Name) (a : Name) → Among names a → place_in names a ≡ Some (position_or_len (same_name a) names)
placed names a h = ap (λ b. cond b (Some (position_or_len (same_name a) names)) None) (lt-ltb _ _ (stands names a h))

-- and there it stands
at_its_place : (names : List Name) (a d : Name) → Among names a → a ≡ get_or names (number_in names a) d
at_its_place names a d h =
    let place = placed names a h in
    let number : number_in names a ≡ position_or_len (same_name a) names = ap (λ o. unwrap_or o 0) place in
    same_told a _ (position-Some (same_name a) names _ d place).1 ∙ ap (λ i. get_or names i d) (sym number)

pub numbers_tell : NumbersTellNames
numbers_tell names a b fa fb ha hb = (
  λ e. ap name_text (at_its_place names a a ha ∙ ap (λ i. get_or names i a) e ∙ sym (at_its_place names b a hb)),
  λ e. ap (number_in names) (one_name a b fa fb e),
)
