-- What a write at a section's place, or a push, makes of the sections.
use Rattle.std.proofs.Common.{◌≡◌, ℕ, ◌<◌, ◌≤◌, List, [], ◌∷◌, ◌++◌, length, get_or, arith, Bool, refl, Some, None, find, position, ap, slice_get, subst, sym, ◌∙◌, unwrap_or, bytes_eq, cond, Option}
use Rattle.std.specs.Option.{option_map}
use Rattle.std.proofs.lemmas.Option.{slice_get-get_or, slice_get_past, get_or_from_slice_get}
use Rattle.std.proofs.lemmas.List.Quantifiers.{position-Some}
use Rattle.std.proofs.lemmas.Bool.{eqb-true, eq-eqb}
use Rattle.std.proofs.Math.ListN.{set}
use Rattle.std.specs.List.{position_or_len}
use Rattle.std.proofs.lemmas.List.Folds.{find_at}
use Rattle.flat_list.specs.declared.header.Header.{Header}
use Rattle.flat_list.specs.Sections.{Section, section_of, labels_of, new_section, put_section, has_number, GivesLabel, with_label, with_drawn, past_word, at_moment, with_moment, name_at, name_in}
use Rattle.list_words.proofs.EachLemmas.{found_passes}
use Rattle.flat_list.proofs.LabelsGrow.{labels_are, find_put}

pub put_section_at : (new : Section) (xs : List Section) → position_or_len (has_number new.number) xs < length xs → put_section new xs ≡ set xs (position_or_len (has_number new.number) xs) new
put_section_at new [] h = absurd (omega arith)
put_section_at new (x ∷ xs) h = grind (arith, put_section_at new xs)

pub put_section_absent : (new : Section) (xs : List Section) → length xs ≤ position_or_len (has_number new.number) xs → put_section new xs ≡ xs ++ new ∷ []
put_section_absent new [] h = refl
put_section_absent new (x ∷ xs) h = grind (arith, put_section_absent new xs)

-- the section of that number is the one that was put
pub section_put : (header : Header) (n : ℕ) (new : Section) (sections : List Section) → new.number ≡ n → section_of header n (put_section new sections) ≡ new
section_put header n new sections is =
    ap (λ (o : Option Section). unwrap_or o (new_section header n))
    (find_put n new sections ∙ ap (λ (b : Bool). cond b (Some new) (find (has_number n) sections)) (eq-eqb new.number n is))

-- what `position` says of the first place
pub place_is : {X : Type 0} (p : X → Bool) (xs : List X) (i : ℕ) → position p xs ≡ Some i → (i ≡ position_or_len p xs) × (i < length xs)
place_is p xs i h = grind (arith, h)

pub no_place : {X : Type 0} (p : X → Bool) (xs : List X) → position p xs ≡ None → length xs ≤ position_or_len p xs
no_place p xs h = grind (arith, h)

-- the section that stands at the place of its number
pub record IsAt (header : Header) (n i : ℕ) (xs : List Section) : Type 0 where
  pub within : i < length xs
  pub at : slice_get xs i ≡ Some (section_of header n xs)
  pub number : (section_of header n xs).number ≡ n
  pub put : (new : Section) → new.number ≡ n → put_section new xs ≡ set xs i new

put_at : (n i : ℕ) (xs : List Section) → (i ≡ position_or_len (has_number n) xs) × (i < length xs) → (new : Section) → new.number ≡ n → put_section new xs ≡ set xs i new
put_at n i xs place new e =
    let here : i ≡ position_or_len (has_number new.number) xs = rw e place.0 in
    rw here (put_section_at new xs (subst (λ k. k < length xs) here place.1))

pub section_at : (header : Header) (n i : ℕ) (xs : List Section) → position (has_number n) xs ≡ Some i → IsAt header n i xs
section_at header n i xs h =
    let p = has_number n in
    let place = place_is p xs i h in
    let reads : slice_get xs i ≡ Some (get_or xs i (new_section header n)) = slice_get-get_or xs i (new_section header n) place.1 in
    let found : find p xs ≡ Some (get_or xs i (new_section header n)) = find_at p xs ∙ ap (slice_get xs) (sym place.0) ∙ reads in
    let is : section_of header n xs ≡ get_or xs i (new_section header n) = ap (λ o. unwrap_or o (new_section header n)) found in
    record {
      within = place.1;
      at = rw is reads;
      number = rw is (eqb-true _ _ (position-Some p xs i (new_section header n) h).1);
      put = λ new e. put_at n i xs place new e;
    }

-- no section has that number
pub section_absent : (header : Header) (n : ℕ) (xs : List Section) → position (has_number n) xs ≡ None → section_of header n xs ≡ new_section header n
section_absent header n xs h =
    let end : slice_get xs (position_or_len (has_number n) xs) ≡ None = slice_get_past xs _ (no_place (has_number n) xs h) in
    ap (λ o. unwrap_or o (new_section header n)) (find_at (has_number n) xs ∙ end)

-- then it has given no label
pub none_given : (header : Header) (n : ℕ) (xs : List Section) → position (has_number n) xs ≡ None → labels_of n xs ≡ []
none_given header n xs h = sym (labels_are header n xs) ∙ ap (λ s. s.labels) (section_absent header n xs h)

pub put_absent : (n : ℕ) (xs : List Section) → position (has_number n) xs ≡ None → (new : Section) → new.number ≡ n → put_section new xs ≡ xs ++ new ∷ []
put_absent n xs h new e =
    put_section_absent new xs (no_place (has_number new.number) xs (rw e h))

-- the section at that place, as the code reads it
pub read_at : (header : Header) (n i : ℕ) (xs : List Section) (s : Section) → position (has_number n) xs ≡ Some i → s ≡ get_or xs i s → s ≡ section_of header n xs
read_at header n i xs s h e = e ∙ get_or_from_slice_get xs i _ s (section_at header n i xs h).at

pub gives_at : (header : Header) (n i : ℕ) (xs : List Section) (label : List ℕ) (old new : Section) (name : ℕ) → position (has_number n) xs ≡ Some i → old ≡ get_or xs i old → new ≡ with_label label old → name ≡ name_at old.number (length old.labels) → GivesLabel header n label xs (set xs i new) name
gives_at header n i xs label old new name h read given named =
    let at = section_at header n i xs h in
    let is : old ≡ section_of header n xs = read_at header n i xs old h read in
    record {
      named =
          named ∙ ap (λ s. name_at s.number (length s.labels)) is ∙ ap (λ k. name_at k (length (section_of header n xs).labels)) at.number
          ∙ ap (λ labels. name_at n (length labels)) (labels_are header n xs);
      given = rw (given, is) (sym (at.put (with_label label (section_of header n xs)) at.number));
    }

pub gives_first : (header : Header) (n : ℕ) (xs : List Section) (label : List ℕ) (new : Section) (name : ℕ) → position (has_number n) xs ≡ None → new ≡ with_label label (new_section header n) → name ≡ name_at n 0 → GivesLabel header n label xs (xs ++ new ∷ []) name
gives_first header n xs label new name h given named =
    let is : section_of header n xs ≡ new_section header n = section_absent header n xs h in
    record {
      named = named ∙ sym (ap (λ s. name_at n (length s.labels)) is) ∙ ap (λ labels. name_at n (length labels)) (labels_are header n xs);
      given = rw (given, is) (sym (put_absent n xs h (with_label label (new_section header n)) refl));
    }

-- the section that is written at its place, past a word
pub drawn_at : (header : Header) (n i : ℕ) (xs : List Section) (old new : Section) → position (has_number n) xs ≡ Some i → old ≡ get_or xs i old → new ≡ past_word old → set xs i new ≡ with_drawn header n xs
drawn_at header n i xs old new h read past =
    let at = section_at header n i xs h in
    let is : old ≡ section_of header n xs = read_at header n i xs old h read in
    rw (past, is) (sym (at.put (past_word (section_of header n xs)) at.number))

-- the section that is found under a number gives the names of that number
pub names_found : (n : ℕ) (xs : List Section) (s : Section) (label : List ℕ) → find (has_number n) xs ≡ Some s → option_map (name_at s.number) (position (λ l. bytes_eq l label) s.labels) ≡ name_in n xs label
names_found n xs s label h =
    let same : s.number ≡ n = eqb-true s.number n (found_passes (has_number n) xs s h) in
    let labels : labels_of n xs ≡ s.labels = ap (λ o. unwrap_or (option_map (λ t. t.labels) o) []) h in
    rw (labels, same) refl

-- the section that is written at its place, at another moment
pub moment_at : (header : Header) (n i moment : ℕ) (xs : List Section) (old new : Section) → position (has_number n) xs ≡ Some i → old ≡ get_or xs i old → new ≡ at_moment moment old → set xs i new ≡ with_moment header n moment xs
moment_at header n i moment xs old new h read set =
    let at = section_at header n i xs h in
    let is : old ≡ section_of header n xs = read_at header n i xs old h read in
    rw (set, is) (sym (at.put (at_moment moment (section_of header n xs)) at.number))

-- the section that comes last, at a moment
pub moment_first : (header : Header) (n moment : ℕ) (xs : List Section) (new : Section) → position (has_number n) xs ≡ None → new ≡ at_moment moment (new_section header n) → xs ++ new ∷ [] ≡ with_moment header n moment xs
moment_first header n moment xs new h set =
    let is : section_of header n xs ≡ new_section header n = section_absent header n xs h in
    rw (set, is) (sym (put_absent n xs h (at_moment moment (new_section header n)) refl))
