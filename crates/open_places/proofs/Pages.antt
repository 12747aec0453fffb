-- What places on pages have, and what becomes of them where one cell of one page changes.
use Rattle.std.proofs.Common.{Result, Ok, Err, OnErr, ◌≡◌, ◌≢◌, ◌==◌, ℕ, ◌+◌, ◌*◌, ◌-◌, ◌^◌, ◌/◌, ◌%◌, ◌<◌, ◌≤◌, Bool, true, false, cond, List, [], ◌∷◌, ◌++◌, length, take, Option, Some, None, is_some, set, refl, sym, ap, subst, ◌∙◌, arith, eq-eqb, ne_eqb, ⊎_elim}
use mathlib.Core.Logic.{dite}
use Rattle.std.proofs.Math.Decide.{dec_le}
use Rattle.std.specs.Prelude.{IfSome, IsSome}
use Rattle.std.specs.List.{slice_index_or}
use Rattle.std.specs.Option.{option_flatten, option_map}
use Rattle.std.specs.BTreeMap.{BTreeMap, get, Updates}
use Rattle.std.specs.Cmp.{nat_cmp_is}
use Rattle.std.specs.Ordering.{nat_cmp, is_eq}
use Rattle.std.specs.declared.cmp.Ordering.TheVariants.{Less, Greater}
use Rattle.std.proofs.lemmas.Bool.{cases_eq, false≢true}
use Rattle.std.proofs.lemmas.List.{get_or_past, get_or_push, get_or_append_left, get_or-set_same, get_or-set_other, get_or-take, length-set, length-take-le, length-append}
use Rattle.open_places.specs.Cells.{Places, one_more}
use Rattle.open_places.specs.Pages.{Cell, ArePages, Sets, Turns, cells_of, cell_at, cell_on, earlier_cell, earlier_page, kept_on, page_of, places_of, places_on}
use Rattle.open_places.proofs.Counts.{none_kept}
use Rattle.open_places.proofs.Ranges.{AreGiven, cells_more, cells_set, counted, found, kept_found, kept_more, kept_set, same_places, set_to, taken_back}

module _ {X : Type 0} where
  -- a cell that is set, where nothing is set past the end
  pub set_here : (xs : List (Option X)) (i : ℕ) (c : Option X) → (slice_index_or xs i None ≡ None → c ≡ None) → slice_index_or (set xs i c) i None ≡ c
  set_here xs i c past = dite (dec_le (length xs) i)
      (λ out. get_or_past (set xs i c) i None (omega (arith, length-set xs i c, out)) ∙ sym (past (get_or_past xs i None out)))
      (λ l. get_or-set_same xs i c None (omega (arith, l)))

  -- the items but for the last
  all_but : (xs : List X) (d : X) (i : ℕ) → 0 < length xs → i ≢ length xs - 1 → slice_index_or (take (length xs - 1) xs) i d ≡ slice_index_or xs i d
  all_but xs d i some ne = dite (dec_le (length xs) i)
      (λ out. get_or_past (take (length xs - 1) xs) i d (let count = length-take-le (length xs - 1) xs (omega arith) in omega (arith, count, out)) ∙ sym (get_or_past xs i d out))
      (λ l. get_or-take (length xs - 1) xs i d (omega (arith, l, ne)))

  -- the items, with one more
  before_more : (xs : List X) (x d : X) (i : ℕ) → i ≢ length xs → slice_index_or (xs ++ x ∷ []) i d ≡ slice_index_or xs i d
  before_more xs x d i ne = dite (dec_le (length xs) i)
      (λ out. get_or_past (xs ++ x ∷ []) i d (let count = length-append xs (x ∷ []) in omega (arith, count, out, ne)) ∙ sym (get_or_past xs i d out))
      (λ l. get_or_append_left xs (x ∷ []) d i (omega (arith, l)))

  no_item : (xs : List X) → length xs ≡ 0 → xs ≡ []
  no_item [] h = refl
  no_item (x ∷ xs) h = absurd (omega (arith, h))

-- numbers that differ aren't equal in their order
pub apart : (a b : ℕ) → a ≢ b → is_eq (nat_cmp a b) ≡ false
apart a b ne =
    dite (dec_le (a + 1) b) (λ l. ap is_eq (sym (nat_cmp_is a b Less (omega (arith, l)))))
    (λ l. dite (dec_le (b + 1) a) (λ g. ap is_eq (sym (nat_cmp_is a b Greater (omega (arith, g))))) (λ g. absurd (ne (omega (arith, l, g)))))

no_page : {X : Type 0} (o : Option (List X)) (n number : ℕ) → IfSome o (λ page. (n < number) × (length page ≡ 32)) → number ≤ n → o ≡ None
no_page None n number h from = refl
no_page (Some page) n number h from = absurd (omega (arith, h.0, from))

-- places, of which one has another cell
pub record Becomes {T : Type 0} (old new : Places T) (place : ℕ) (cell : Cell T) : Type 0 where
  pub cells : new.cells ≡ set old.cells place (option_flatten cell)
  pub kept : new.kept ≡ set old.kept place (is_some cell)

module _ {T : Type 0} (P Q : ℕ → List (Cell T)) (place : ℕ) (others : (n : ℕ) → n ≢ place / 32 → Q n ≡ P n) (beside : (i : ℕ) → i ≢ place % 32 → cell_on (Q (place / 32)) i ≡ cell_on (P (place / 32)) i) where
  -- but for that one cell all are as before
  elsewhere : (j : ℕ) → j ≢ place → cell_at Q j ≡ cell_at P j
  elsewhere j ne = ⊎_elim
      (λ (same : j / 32 ≡ place / 32).
      ap (λ n. cell_on (Q n) (j % 32)) same ∙ beside (j % 32) (λ e. ne (omega (arith, same, e))) ∙ sym (ap (λ n. cell_on (P n) (j % 32)) same))
      (λ (other : j / 32 ≡ place / 32 → ⊥). ap (λ page. cell_on page (j % 32)) (others (j / 32) other))
      (cases_eq (j / 32) (place / 32))

module _ {T : Type 0} (earlier : BTreeMap ℕ (List (Cell T))) (number : ℕ) (last : List (Cell T)) where
  pub page_last : page_of earlier number last number ≡ last
  page_last = ap (λ (b : Bool). cond b last (earlier_page earlier number)) (eq-eqb number number refl)

  pub page_other : (n : ℕ) → n ≢ number → page_of earlier number last n ≡ earlier_page earlier n
  page_other n ne = ap (λ (b : Bool). cond b last (earlier_page earlier n)) (ne_eqb n number ne)

  pub last_cell : (place : ℕ) → place / 32 ≡ number → cell_at (page_of earlier number last) place ≡ cell_on last (place % 32)
  last_cell place at = ap (λ page. cell_on page (place % 32)) (ap (page_of earlier number last) at ∙ page_last)

  pub other_cell : (place : ℕ) → place / 32 ≢ number → cell_at (page_of earlier number last) place ≡ earlier_cell earlier place
  other_cell place ne = ap (λ page. cell_on page (place % 32)) (page_other (place / 32) ne)

  module _ (pages : ArePages earlier number last) where
    pub none_from : (n : ℕ) → number ≤ n → get nat_cmp earlier n ≡ None
    none_from n from = no_page (get nat_cmp earlier n) n number (pages.whole n) from

    pub given : AreGiven (number * 32 + length last) (cell_at (page_of earlier number last))
    given i past = ⊎_elim
        (λ (same : i / 32 ≡ number). last_cell i same ∙ get_or_past last (i % 32) None (omega (arith, past, same)))
        (λ (other : i / 32 ≡ number → ⊥). other_cell i other ∙ ap (λ o. cell_on (cells_of o) (i % 32)) (none_from (i / 32) (omega (arith, past))))
        (cases_eq (i / 32) number)

    -- a last page as long as this one
    pub last_pages : (new : List (Cell T)) → length new ≡ length last → ArePages earlier number new
    last_pages new same = record { whole = pages.whole; within = omega (arith, same, pages.within); fits = pages.fits }

    pub count_of : number * 32 + length last ≡ length (places_on earlier number last).cells
    count_of = (counted (number * 32 + length last) (cell_at (page_of earlier number last))).0

    pub kept_count : length (places_on earlier number last).kept ≡ length (places_on earlier number last).cells
    kept_count = (counted (number * 32 + length last) (cell_at (page_of earlier number last))).1

    pub value_of : (place : ℕ) → slice_index_or (places_on earlier number last).cells place None ≡ option_flatten (cell_at (page_of earlier number last) place)
    value_of place = found (number * 32 + length last) (cell_at (page_of earlier number last)) given place

    pub kept_of : (place : ℕ) → slice_index_or (places_on earlier number last).kept place false ≡ is_some (cell_at (page_of earlier number last) place)
    kept_of place = kept_found (number * 32 + length last) (cell_at (page_of earlier number last)) given place

  -- a cell of the last page changes
  pub last_becomes : (new : List (Cell T)) (place : ℕ) (cell : Cell T) → place / 32 ≡ number → new ≡ set last (place % 32) cell → (cell_on last (place % 32) ≡ None → cell ≡ None) → Becomes (places_on earlier number last) (places_on earlier number new) place cell
  last_becomes new place cell at is past =
      let P = page_of earlier number last in
      let Q = page_of earlier number new in
      let was : P (place / 32) ≡ last = ap P at ∙ page_last in
      let now : Q (place / 32) ≡ set last (place % 32) cell = ap Q at ∙ ap (λ (b : Bool). cond b new (earlier_page earlier number)) (eq-eqb number number refl) ∙ is in
      let others : (n : ℕ) → n ≢ place / 32 → Q n ≡ P n = λ n ne. ap (λ (b : Bool). cond b new (earlier_page earlier n)) (ne_eqb n number (λ e. ne (e ∙ sym at))) ∙ sym (page_other n (λ e. ne (e ∙ sym at))) in
      let beside : (i : ℕ) → i ≢ place % 32 → cell_on (Q (place / 32)) i ≡ cell_on (P (place / 32)) i = λ i ne. ap (λ page. cell_on page i) now ∙ get_or-set_other last (place % 32) i cell None ne ∙ sym (ap (λ page. cell_on page i) was) in
      let here : cell_at Q place ≡ cell = ap (λ page. cell_on page (place % 32)) now ∙ set_here last (place % 32) cell past in
      let there = elsewhere P Q place others beside in
      let count : number * 32 + length new ≡ number * 32 + length last = ap (λ xs. number * 32 + length xs) is ∙ ap (λ k. number * 32 + k) (length-set last (place % 32) cell) in
      record {
        cells = ap (λ k. (places_of k (cell_at Q)).cells) count ∙ cells_set (cell_at P) (cell_at Q) place cell here there (number * 32 + length last);
        kept = ap (λ k. (places_of k (cell_at Q)).kept) count ∙ kept_set (cell_at P) (cell_at Q) place cell here there (number * 32 + length last);
      }

  -- a cell of an earlier page changes
  pub earlier_becomes : (new : BTreeMap ℕ (List (Cell T))) (place : ℕ) (cell : Cell T) → place / 32 ≢ number → Sets earlier place cell new → (earlier_cell earlier place ≡ None → cell ≡ None) → Becomes (places_on earlier number last) (places_on new number last) place cell
  earlier_becomes new place cell at sets past =
      let P = page_of earlier number last in
      let Q = page_of new number last in
      let was : P (place / 32) ≡ earlier_page earlier (place / 32) = page_other (place / 32) at in
      let now : Q (place / 32) ≡ earlier_page new (place / 32) = ap (λ (b : Bool). cond b last (earlier_page new (place / 32))) (ne_eqb (place / 32) number at) in
      let others : (n : ℕ) → n ≢ place / 32 → Q n ≡ P n = λ n ne. ap (λ o. cond (n == number) last (cells_of o)) (sets.others n ne) in
      let beside : (i : ℕ) → i ≢ place % 32 → cell_on (Q (place / 32)) i ≡ cell_on (P (place / 32)) i = λ i ne. ap (λ page. cell_on page i) now ∙ sets.there i ∙ get_or-set_other (earlier_page earlier (place / 32)) (place % 32) i cell None ne ∙ sym (ap (λ page. cell_on page i) was) in
      let here : cell_at Q place ≡ cell = ap (λ page. cell_on page (place % 32)) now ∙ sets.there (place % 32) ∙ set_here (earlier_page earlier (place / 32)) (place % 32) cell past in
      let there = elsewhere P Q place others beside in
      record {
        cells = cells_set (cell_at P) (cell_at Q) place cell here there (number * 32 + length last);
        kept = kept_set (cell_at P) (cell_at Q) place cell here there (number * 32 + length last);
      }

  -- a place more
  pub gives_more : length last < 32 → places_on earlier number (last ++ Some None ∷ []) ≡ one_more (places_on earlier number last)
  gives_more room =
      let new = last ++ Some None ∷ [] in
      let P = page_of earlier number last in
      let Q = page_of earlier number new in
      let place = number * 32 + length last in
      let at : place / 32 ≡ number = omega (arith, room) in
      let low : place % 32 ≡ length last = omega (arith, room) in
      let was : P (place / 32) ≡ last = ap P at ∙ page_last in
      let now : Q (place / 32) ≡ new = ap Q at ∙ ap (λ (b : Bool). cond b new (earlier_page earlier number)) (eq-eqb number number refl) in
      let others : (n : ℕ) → n ≢ place / 32 → Q n ≡ P n = λ n ne. ap (λ (b : Bool). cond b new (earlier_page earlier n)) (ne_eqb n number (λ e. ne (e ∙ sym at))) ∙ sym (page_other n (λ e. ne (e ∙ sym at))) in
      let beside : (i : ℕ) → i ≢ place % 32 → cell_on (Q (place / 32)) i ≡ cell_on (P (place / 32)) i = λ i ne. ap (λ page. cell_on page i) now ∙ before_more last (Some None) None i (λ e. ne (e ∙ sym low)) ∙ sym (ap (λ page. cell_on page i) was) in
      let here : cell_at Q place ≡ Some None = ap (λ page. cell_on page (place % 32)) now ∙ get_or_push last (Some None) None (place % 32) (sym low) in
      let there = elsewhere P Q place others beside in
      let count : number * 32 + length new ≡ place + 1 = let more = length-append last (Some None ∷ []) in omega (arith, more) in
      let cells = cells_more (cell_at P) (cell_at Q) place (Some None) here there (number * 32 + length new) count in
      let kept = kept_more (cell_at P) (cell_at Q) place (Some None) here there (number * 32 + length new) count in
      λ i. record { cells = cells i; kept = kept i }

  -- the last place taken back, on the last page
  pub takes_back : 0 < length last → (before : Places T) → places_on earlier number last ≡ one_more before → places_on earlier number (take (length last - 1) last) ≡ before
  takes_back some before is =
      let new = take (length last - 1) last in
      let P = page_of earlier number last in
      let Q = page_of earlier number new in
      let short : length new ≡ length last - 1 = length-take-le (length last - 1) last (omega arith) in
      let place = number * 32 + length new in
      let others : (n : ℕ) → n ≢ number → Q n ≡ P n = λ n ne. ap (λ (b : Bool). cond b new (earlier_page earlier n)) (ne_eqb n number ne) ∙ sym (page_other n ne) in
      let cells : (j : ℕ) → j ≢ place → cell_at Q j ≡ cell_at P j = λ j ne. ⊎_elim
      (λ (same : j / 32 ≡ number).
      ap (λ page. cell_on page (j % 32)) (ap Q same ∙ ap (λ (b : Bool). cond b new (earlier_page earlier number)) (eq-eqb number number refl))
      ∙ all_but last None (j % 32) some (λ e. ne (omega (arith, same, e, short)))
      ∙ sym (last_cell j same))
      (λ (other : j / 32 ≡ number → ⊥). ap (λ page. cell_on page (j % 32)) (others (j / 32) other))
      (cases_eq (j / 32) number) in
      taken_back (cell_at P) (cell_at Q) place (number * 32 + length last) (omega (arith, short, some)) cells before is

-- What a change of the earlier pages does.

module _ {T : Type 0} (old new : BTreeMap ℕ (List (Cell T))) (place : ℕ) where
  -- a cell of a page that is there
  pub sets_page : (page written : List (Cell T)) (cell : Cell T) → get nat_cmp old (place / 32) ≡ Some page → Updates nat_cmp old new (place / 32) (Some written) → written ≡ set page (place % 32) cell → Sets old place cell new
  sets_page page written cell was updates is =
      record {
        others = λ n ne. updates.2 n (apart (place / 32) n (λ e. ne (sym e)));
        there = λ i. ap (λ o. cell_on (cells_of o) i) updates.1 ∙ ap (λ p. cell_on p i) is ∙ sym (ap (λ o. cell_on (set (cells_of o) (place % 32) cell) i) was);
        count = subst (λ o. IfSome o (λ page. IfSome (get nat_cmp old (place / 32)) (λ was. length page ≡ length was))) (sym updates.1) (subst (λ o. IfSome o (λ was. length written ≡ length was)) (sym was) (ap length is ∙ length-set page (place % 32) cell));
        still = λ some. subst IsSome (sym was) refl;
      }

  -- nothing, where no page is there
  pub sets_nothing : (cell : Cell T) → get nat_cmp old (place / 32) ≡ None → new ≡ old → Sets old place cell new
  sets_nothing cell was same =
      record {
        others = λ n ne. ap (λ m. get nat_cmp m n) same;
        there = λ i. ap (λ m. cell_on (earlier_page m (place / 32)) i) same ∙ ap (λ o. cell_on (cells_of o) i) was ∙ sym (ap (λ o. cell_on (set (cells_of o) (place % 32) cell) i) was);
        count = subst (λ o. IfSome o (λ page. IfSome (get nat_cmp old (place / 32)) (λ was. length page ≡ length was))) (sym (ap (λ m. get nat_cmp m (place / 32)) same ∙ was)) tt;
        still = λ some. subst (λ m. IsSome (get nat_cmp m (place / 32))) same some;
      }

  -- a page without a place that is kept goes
  pub sets_gone : (mid : BTreeMap ℕ (List (Cell T))) (page : List (Cell T)) → Sets old place None mid → get nat_cmp mid (place / 32) ≡ Some page → kept_on page ≡ 0 → Updates nat_cmp mid new (place / 32) None → Sets old place None new
  sets_gone mid page sets there none updates =
      record {
        others = λ n ne. updates.2 n (apart (place / 32) n (λ e. ne (sym e))) ∙ sets.others n ne;
        there = λ i. ap (λ o. cell_on (cells_of o) i) updates.1 ∙ sym (none_kept page none i) ∙ sym (ap (λ o. cell_on (cells_of o) i) there) ∙ sets.there i;
        count = subst (λ o. IfSome o (λ page. IfSome (get nat_cmp old (place / 32)) (λ was. length page ≡ length was))) (sym updates.1) tt;
        still = λ some. absurd (false≢true (sym (ap is_some updates.1) ∙ some));
      }

  still_whole : (n number : ℕ) (o p : Option (List (Cell T))) → IfSome o (λ page. IfSome p (λ was. length page ≡ length was)) → (IsSome o → IsSome p) → IfSome p (λ page. (n < number) × (length page ≡ 32)) → IfSome o (λ page. (n < number) × (length page ≡ 32))
  still_whole n number None p count still whole = tt
  still_whole n number (Some page) None count still whole = absurd (false≢true (still refl))
  still_whole n number (Some page) (Some was) count still whole = (whole.0, count ∙ whole.1)

  pub earlier_pages : (number : ℕ) (last : List (Cell T)) (cell : Cell T) → ArePages old number last → Sets old place cell new → ArePages new number last
  earlier_pages number last cell pages sets =
      record {
        whole = λ n. ⊎_elim
            (λ (same : n ≡ place / 32). subst (λ k. IfSome (get nat_cmp new k) (λ page. (k < number) × (length page ≡ 32))) (sym same) (still_whole (place / 32) number (get nat_cmp new (place / 32)) (get nat_cmp old (place / 32)) sets.count sets.still (pages.whole (place / 32))))
            (λ (other : n ≡ place / 32 → ⊥). subst (λ o. IfSome o (λ page. (n < number) × (length page ≡ 32))) (sym (sets.others n other)) (pages.whole n))
            (cases_eq n (place / 32));
        within = pages.within;
        fits = pages.fits;
      }

-- A full page goes to the earlier ones.
module _ {T : Type 0} (old : BTreeMap ℕ (List (Cell T))) (number : ℕ) (full : List (Cell T)) where
  pub turns_nothing : get nat_cmp old number ≡ None → ((i : ℕ) → cell_on full i ≡ None) → Turns old number full old
  turns_nothing absent none =
      record {
        others = λ n ne. refl;
        there = λ i. ap (λ o. cell_on (cells_of o) i) absent ∙ sym (none i);
        whole = subst (λ o. IfSome o (λ page. page ≡ full)) (sym absent) tt;
      }

  pub turns_page : (new : BTreeMap ℕ (List (Cell T))) (page : List (Cell T)) → Updates nat_cmp old new number (Some page) → page ≡ full → Turns old number full new
  turns_page new page updates is =
      record {
        others = λ n ne. updates.2 n (apart number n (λ e. ne (sym e)));
        there = λ i. ap (λ o. cell_on (cells_of o) i) updates.1 ∙ ap (λ p. cell_on p i) is;
        whole = subst (λ o. IfSome o (λ page. page ≡ full)) (sym updates.1) is;
      }

-- The last page is full, and another begins.
module _ {T : Type 0} (old new : BTreeMap ℕ (List (Cell T))) (number : ℕ) (last : List (Cell T)) (pages : ArePages old number last) (full : length last ≡ 32) (turns : Turns old number last new) where
  raised : (n m : ℕ) (o : Option (List (Cell T))) → n < m → IfSome o (λ page. (page ≡ last)) → IfSome o (λ page. (n < m) × (length page ≡ 32))
  raised n m None l h = tt
  raised n m (Some page) l h = (l, ap length h ∙ full)

  lifted : (n : ℕ) (o : Option (List (Cell T))) → IfSome o (λ page. (n < number) × (length page ≡ 32)) → IfSome o (λ page. (n < number + 1) × (length page ≡ 32))
  lifted n None h = tt
  lifted n (Some page) h = (let l = h.0 in omega (arith, l), h.1)

  pub turned_pages : (number + 1) * 32 + 32 < 2 ^ 64 → ArePages new (number + 1) []
  turned_pages fits =
      record {
        whole = λ n. ⊎_elim
            (λ (same : n ≡ number). raised n (number + 1) (get nat_cmp new n) (omega (arith, same)) (subst (λ k. IfSome (get nat_cmp new k) (λ page. page ≡ last)) (sym same) turns.whole))
            (λ (other : n ≡ number → ⊥). lifted n (get nat_cmp new n) (subst (λ o. IfSome o (λ page. (n < number) × (length page ≡ 32))) (sym (turns.others n other)) (pages.whole n)))
            (cases_eq n number);
        within = omega arith;
        fits = fits;
      }

  pub turned_places : places_on new (number + 1) [] ≡ places_on old number last
  turned_places =
      let P = page_of old number last in
      let Q = page_of new (number + 1) [] in
      same_places (cell_at P) (cell_at Q) (number * 32 + length last) ((number + 1) * 32 + 0) (omega (arith, full)) (λ j. ⊎_elim
      (λ (same : j / 32 ≡ number).
      other_cell new (number + 1) [] j (λ e. omega (arith, same, e))
      ∙ ap (λ n. cell_on (earlier_page new n) (j % 32)) same ∙ turns.there (j % 32)
      ∙ sym (last_cell old number last j same))
      (λ (other : j / 32 ≡ number → ⊥). ⊎_elim
      (λ (next : j / 32 ≡ number + 1).
      last_cell new (number + 1) [] j next
      ∙ sym (other_cell old number last j other ∙ ap (λ o. cell_on (cells_of o) (j % 32)) (none_from old number last pages (j / 32) (omega (arith, next)))))
      (λ (far : j / 32 ≡ number + 1 → ⊥).
      other_cell new (number + 1) [] j far
      ∙ ap (λ o. cell_on (cells_of o) (j % 32)) (turns.others (j / 32) other)
      ∙ sym (other_cell old number last j other))
      (cases_eq (j / 32) (number + 1)))
      (cases_eq (j / 32) number))

-- A page is the last one again, once the place behind it is taken back.
module _ {T : Type 0} (old new : BTreeMap ℕ (List (Cell T))) (number n : ℕ) (last : List (Cell T)) (pages : ArePages old number last) (none : length last ≡ 0) (more : number ≡ n + 1) where
  module _ (page : List (Cell T)) (was : get nat_cmp old n ≡ Some page) (updates : Updates nat_cmp old new n None) where
    whole : length page ≡ 32
    whole = (subst (λ o. IfSome o (λ page. (n < number) × (length page ≡ 32))) was (pages.whole n)).1

    other : (m : ℕ) → m ≢ n → get nat_cmp new m ≡ get nat_cmp old m
    other m ne = updates.2 m (apart n m (λ e. ne (sym e)))

    lowered : (m : ℕ) (o : Option (List (Cell T))) → m ≢ n → IfSome o (λ page. (m < number) × (length page ≡ 32)) → IfSome o (λ page. (m < n) × (length page ≡ 32))
    lowered m None ne h = tt
    lowered m (Some page) ne h = (let l = h.0 in omega (arith, l, more, ne), h.1)

    pub back_pages : ArePages new n (take (length page - 1) page)
    back_pages =
        record {
          whole = λ m. ⊎_elim
              (λ (same : m ≡ n). subst (λ k. IfSome (get nat_cmp new k) (λ page. (k < n) × (length page ≡ 32))) (sym same) (subst (λ o. IfSome o (λ page. (n < n) × (length page ≡ 32))) (sym updates.1) tt))
              (λ (ne : m ≡ n → ⊥). subst (λ o. IfSome o (λ page. (m < n) × (length page ≡ 32))) (sym (other m ne)) (lowered m (get nat_cmp old m) ne (pages.whole m)))
              (cases_eq m n);
          within = let short = length-take-le (length page - 1) page (omega arith) in omega (arith, short, whole);
          fits = let fits = pages.fits in omega (arith, fits, more);
        }

    pub back_places : (before : Places T) → places_on old number last ≡ one_more before → places_on new n (take (length page - 1) page) ≡ before
    back_places before is =
        let rest = take (length page - 1) page in
        let P = page_of old number last in
        let Q = page_of new n rest in
        let short : length rest ≡ 31 = let short = length-take-le (length page - 1) page (omega arith) in omega (arith, short, whole) in
        let place = n * 32 + length rest in
        let cells : (j : ℕ) → j ≢ place → cell_at Q j ≡ cell_at P j = λ j ne. ⊎_elim
        (λ (same : j / 32 ≡ n).
        last_cell new n rest j same
        ∙ all_but page None (j % 32) (omega (arith, whole)) (λ e. ne (omega (arith, same, e, short, whole)))
        ∙ sym (other_cell old number last j (λ e. omega (arith, e, same, more)) ∙ ap (λ k. cell_on (earlier_page old k) (j % 32)) same ∙ ap (λ o. cell_on (cells_of o) (j % 32)) was))
        (λ (far : j / 32 ≡ n → ⊥). ⊎_elim
        (λ (next : j / 32 ≡ number).
        other_cell new n rest j far
        ∙ ap (λ o. cell_on (cells_of o) (j % 32)) (other (j / 32) far ∙ none_from old number last pages (j / 32) (omega (arith, next)))
        ∙ sym (last_cell old number last j next ∙ get_or_past last (j % 32) None (omega (arith, none))))
        (λ (neither : j / 32 ≡ number → ⊥).
        other_cell new n rest j far
        ∙ ap (λ o. cell_on (cells_of o) (j % 32)) (other (j / 32) far)
        ∙ sym (other_cell old number last j neither))
        (cases_eq (j / 32) number))
        (cases_eq (j / 32) n) in
        taken_back (cell_at P) (cell_at Q) place (number * 32 + length last) (omega (arith, short, none, more)) cells before is

  -- a page of which the last place is kept is there
  pub back_there : (before : Places T) → places_on old number last ≡ one_more before → get nat_cmp old n ≡ None → ⊥
  back_there before is gone =
      let place = length before.cells in
      let cells : length (places_on old number last).cells ≡ place + 1 = ap (λ (p : Places T). length p.cells) is ∙ length-append before.cells (None ∷ []) in
      let kept : length (places_on old number last).kept ≡ length before.kept + 1 = ap (λ (p : Places T). length p.kept) is ∙ length-append before.kept (true ∷ []) in
      let same : length before.kept ≡ place = let both = kept_count old number last pages in omega (arith, cells, kept, both) in
      let behind : place + 1 ≡ number * 32 = let count = count_of old number last pages in omega (arith, cells, count, none) in
      let here : is_some (cell_at (page_of old number last) place) ≡ false =
      ap is_some (other_cell old number last place (λ e. omega (arith, e, behind))
      ∙ ap (λ k. cell_on (earlier_page old k) (place % 32)) (let at : place / 32 ≡ n = omega (arith, behind, more) in at)
      ∙ ap (λ o. cell_on (cells_of o) (place % 32)) gone) in
      false≢true (sym here ∙ sym (kept_of old number last pages place) ∙ ap (λ (p : Places T). slice_index_or p.kept place false) is ∙ get_or_push before.kept true false place same)

-- no place was given
pub none_given : {T : Type 0} (earlier : BTreeMap ℕ (List (Cell T))) (number : ℕ) (last : List (Cell T)) → ArePages earlier number last → length last ≡ 0 → number ≡ 0 → (before : Places T) → places_on earlier number last ≡ one_more before → ⊥
none_given earlier number last pages none first before is =
    let count = count_of earlier number last pages in
    let cells : length (places_on earlier number last).cells ≡ length before.cells + 1 = ap (λ (p : Places _). length p.cells) is ∙ length-append before.cells (None ∷ []) in
    omega (arith, count, cells, none, first)

-- What a place has, and what calls read of it.

pub record Holds {T : Type 0} (places : Places T) (place : ℕ) (cell : Cell T) : Type 0 where
  pub value : slice_index_or places.cells place None ≡ option_flatten cell
  pub kept : slice_index_or places.kept place false ≡ is_some cell

module _ {T : Type 0} (earlier : BTreeMap ℕ (List (Cell T))) (number : ℕ) (last : List (Cell T)) (pages : ArePages earlier number last) (now : Places T) (is : places_on earlier number last ≡ now) (place : ℕ) where
  pub last_holds : place / 32 ≡ number → Holds now place (cell_on last (place % 32))
  last_holds at = subst (λ (p : Places T). Holds p place (cell_on last (place % 32))) is
      (record {
        value = value_of earlier number last pages place ∙ ap option_flatten (last_cell earlier number last place at);
        kept = kept_of earlier number last pages place ∙ ap is_some (last_cell earlier number last place at);
      })

  pub earlier_holds : place / 32 ≢ number → Holds now place (earlier_cell earlier place)
  earlier_holds ne = subst (λ (p : Places T). Holds p place (earlier_cell earlier place)) is
      (record {
        value = value_of earlier number last pages place ∙ ap option_flatten (other_cell earlier number last place ne);
        kept = kept_of earlier number last pages place ∙ ap is_some (other_cell earlier number last place ne);
      })

  pub last_moves : (new : List (Cell T)) (cell : Cell T) → place / 32 ≡ number → new ≡ set last (place % 32) cell → (cell_on last (place % 32) ≡ None → cell ≡ None) → Becomes now (places_on earlier number new) place cell
  last_moves new cell at sets past = subst (λ (p : Places T). Becomes p (places_on earlier number new) place cell) is (last_becomes earlier number last new place cell at sets past)

  pub earlier_moves : (new : BTreeMap ℕ (List (Cell T))) (cell : Cell T) → place / 32 ≢ number → Sets earlier place cell new → (earlier_cell earlier place ≡ None → cell ≡ None) → Becomes now (places_on new number last) place cell
  earlier_moves new cell ne sets past = subst (λ (p : Places T). Becomes p (places_on new number last) place cell) is (earlier_becomes earlier number last new place cell ne sets past)

-- the cell without its value
abbrev pub emptied : {T : Type 0} → Cell T → Cell T
emptied cell = option_map (λ _. None) cell

emptied_none : {T : Type 0} (cell : Cell T) → option_flatten (emptied cell) ≡ None
emptied_none None = refl
emptied_none (Some value) = refl

emptied_kept : {T : Type 0} (cell : Cell T) → is_some cell ≡ is_some (emptied cell)
emptied_kept None = refl
emptied_kept (Some value) = refl

full_kept : {T : Type 0} (cell : Cell T) → option_flatten cell ≢ None → is_some cell ≡ true
full_kept None full = absurd (full refl)
full_kept (Some value) full = refl

module _ {T : Type 0} (old new : Places T) (place : ℕ) where
  pub taken_cells : (cell : Cell T) → Becomes old new place (emptied cell) → new.cells ≡ set old.cells place None
  taken_cells cell becomes = becomes.cells ∙ ap (set old.cells place) (emptied_none cell)

  pub taken_kept : (cell : Cell T) → Holds old place cell → Becomes old new place (emptied cell) → new.kept ≡ old.kept
  taken_kept cell holds becomes = becomes.kept ∙ set_to old.kept place false (is_some (emptied cell)) (holds.kept ∙ emptied_kept cell)

  pub taken_there : (cell : Cell T) → Holds old place cell → option_flatten cell ≢ None → slice_index_or old.kept place false ≡ true
  taken_there cell holds full = holds.kept ∙ full_kept cell full

  pub put_kept : (value : T) → Becomes old new place (Some (Some value)) → slice_index_or old.kept place false ≡ true → new.kept ≡ old.kept
  put_kept value becomes kept = becomes.kept ∙ set_to old.kept place false true kept

  pub gone_cells : Becomes old new place None → slice_index_or old.cells place None ≡ None → new.cells ≡ old.cells
  gone_cells becomes empty = becomes.cells ∙ set_to old.cells place None None empty

-- the place that was given is kept
pub more_kept : {T : Type 0} (old new : Places T) → new ≡ one_more old → length old.kept ≡ length old.cells → slice_index_or new.kept (length old.cells) false ≡ true
more_kept {T} old new given same = ap (λ (p : Places T). slice_index_or p.kept (length old.cells) false) given ∙ get_or_push old.kept true false (length old.cells) same

-- the same places, where the tree has the same pages
pub same_pages : {T : Type 0} (old new : BTreeMap ℕ (List (Cell T))) (number : ℕ) (last : List (Cell T)) → ((n : ℕ) → get nat_cmp new n ≡ get nat_cmp old n) → places_on new number last ≡ places_on old number last
same_pages old new number last same =
    same_places (cell_at (page_of old number last)) (cell_at (page_of new number last)) (number * 32 + length last) (number * 32 + length last) refl
    (λ j. ap (λ o. cell_on (cond (j / 32 == number) last (cells_of o)) (j % 32)) (same (j / 32)))

pub on_err : {A E P : Type 0} (r : Result A E) → P → OnErr r P
on_err (Ok x) p = tt
on_err (Err e) p = p
