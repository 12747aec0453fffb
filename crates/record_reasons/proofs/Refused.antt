-- The first line outside: what stands before it, and that it can't stand there.
use Rattle.std.proofs.Common.{◌≡◌, ◌≢◌, ℕ, zero, suc, ◌+◌, ◌-◌, ◌<◌, ◌≤◌, List, [], ◌∷◌, ◌++◌, length, take, Option, Some, None, slice_get, unwrap_or, IsTrue, Bool, true, false, refl, sym, ap, subst, ◌∙◌, ◌⊎◌, inl, inr, ⊎_elim, arith}
use Rattle.record_reader.specs.declared.line.Line.{Line}
use Rattle.record_reader.specs.Words.{pieces_of, words_of}
use Rattle.record_reader.specs.Forms.{HasForm}
use Rattle.record_reader.specs.Record.{AreInOrder, Begins, BeginsAs, HaveForms, IsFirstOutside, may_follow}
use Rattle.record_reader.proofs.OneForm.{one_form}
use Rattle.record_reader.proofs.Reading.{forms_length, last_from, last_is}
use Rattle.record_reasons.specs.declared.outside.Outside.{Outside}
use Rattle.record_reasons.specs.declared.outside.Outside.TheVariants as reasons
use Rattle.record_reasons.specs.Lines.{IsBefore, text_at}
use Rattle.record_reasons.specs.Outside.{EndReason, IsOutOfPlace, IsOutside, LineReason}

-- each of the texts is the line at its place
forms_at : (n : ℕ) (ts : List (List ℕ)) (ls : List Line) (k : ℕ) → HaveForms (take n ts) ls → k < n → k < length ts
    → (it : Line) × (slice_get ls k ≡ Some it) × HasForm (words_of (text_at ts k)) it
forms_at zero ts ls k f h j = absurd (omega (arith, h))
forms_at (suc n) [] ls k f h j = absurd (omega (arith, j))
forms_at (suc n) (t ∷ ts) [] k f h j = absurd f
forms_at (suc n) (t ∷ ts) (l ∷ ls) zero f h j = (l, refl, f.0)
forms_at (suc n) (t ∷ ts) (l ∷ ls) (suc k) f h j = forms_at n ts ls k f.1 (omega (arith, h)) (omega (arith, j))

pub before_form : (text : List ℕ) (n : ℕ) → IsFirstOutside text n → 2 ≤ n
    → (it : Line) × HasForm (words_of (text_at (pieces_of text) (n - 2))) it
before_form text n first two =
    let some = first.within in
    let f = forms_at (n - 1) (pieces_of text) first.before.0 (n - 2) first.before.1.forms (omega (arith, two)) (omega (arith, two, some.1)) in
    (f.0, f.2)

-- one more line behind lines in order
order_push : (before : Option Line) (old : List Line) (line : Line) → AreInOrder before old
    → IsTrue (may_follow (last_from before old) line) → AreInOrder before (old ++ line ∷ [])
order_push before [] line o h = (h, tt)
order_push before (x ∷ xs) line o h = (o.0, order_push (Some x) xs line o.1 h)

forms_push : (ts : List (List ℕ)) (old : List Line) (text : List ℕ) (line : Line) → HaveForms ts old
    → HasForm (words_of text) line → HaveForms (ts ++ text ∷ []) (old ++ line ∷ [])
forms_push [] [] text line f h = (h, tt)
forms_push (t ∷ ts) (l ∷ ls) text line f h = (f.0, forms_push ts ls text line f.1 h)
forms_push [] (l ∷ ls) text line f h = absurd f
forms_push (t ∷ ts) [] text line f h = absurd f

-- one text more
take_more : (k : ℕ) (ts : List (List ℕ)) (t : List ℕ) → slice_get ts k ≡ Some t → take (suc k) ts ≡ take k ts ++ t ∷ []
take_more k [] t e = absurd (cc)
take_more zero (x ∷ xs) t e = let same : x ≡ t = cc in ap (λ (y : List ℕ). y ∷ []) same
take_more (suc k) (x ∷ xs) t e = ap (λ (ys : List (List ℕ)). x ∷ ys) (take_more k xs t e)

size_of : (n : ℕ) (ts : List (List ℕ)) → n ≤ length ts → length (take n ts) ≡ n
size_of zero ts h = refl
size_of (suc n) [] h = absurd (omega (arith, h))
size_of (suc n) (t ∷ ts) h = ap suc (size_of n ts (omega (arith, h)))

none_in : (ls : List Line) → length ls ≡ 0 → ls ≡ []
none_in [] e = refl
none_in (l ∷ ls) e = absurd (omega (arith, e))

-- the line before is the last of those that stand above
last_before : (text : List ℕ) (n : ℕ) (before : Option Line) (first : IsFirstOutside text n) → IsBefore (pieces_of text) n before
    → last_from None first.before.0 ≡ before
last_before text n None first is =
    let long = forms_length (take (n - 1) (pieces_of text)) first.before.0 first.before.1.forms in
    let size = size_of (n - 1) (pieces_of text) (omega (arith, first.within.1)) in
    ap (last_from None) (none_in first.before.0 (omega (arith, long, size, is)))
last_before text n (Some line) first is =
    let long = forms_length (take (n - 1) (pieces_of text)) first.before.0 first.before.1.forms in
    let size = size_of (n - 1) (pieces_of text) (omega (arith, first.within.1)) in
    let f = forms_at (n - 1) (pieces_of text) first.before.0 (n - 2) first.before.1.forms (omega (arith, is.0)) (omega (arith, is.0, first.within.1)) in
    let place : length first.before.0 - 1 ≡ n - 2 = omega (arith, long, size, is.0) in
    sym (last_is first.before.0) ∙ ap (slice_get first.before.0) place ∙ f.1 ∙ ap Some (one_form _ f.0 line f.2 is.1)

pub never_true : (b : Bool) → (b ≡ true → ⊥) → b ≡ false
never_true true f = absurd (f refl)
never_true false f = refl

-- a line with a form that is the first outside may not follow the one before it
pub may_not_follow : (text : List ℕ) (n : ℕ) (line : List ℕ) (before : Option Line) (it : Line) → IsFirstOutside text n
    → slice_get (pieces_of text) (n - 1) ≡ Some line → IsBefore (pieces_of text) n before → n < length (pieces_of text)
    → HasForm (words_of line) it → may_follow before it ≡ false
may_not_follow text n line before it first there behind within form =
    never_true (may_follow before it)
    (λ may.
    let n_is : n ≡ suc (n - 1) = omega (arith, first.within.0) in
    let texts_are : take n (pieces_of text) ≡ take (n - 1) (pieces_of text) ++ line ∷ [] =
    ap (λ (k : ℕ). take k (pieces_of text)) n_is ∙ take_more (n - 1) (pieces_of text) line there in
    let last : last_from None first.before.0 ≡ before = last_before text n before first behind in
    let follows : IsTrue (may_follow (last_from None first.before.0) it) = subst (λ (o : Option Line). IsTrue (may_follow o it)) (sym last) may in
    let begins : Begins (take (n - 1) (pieces_of text) ++ line ∷ []) = (
      first.before.0 ++ it ∷ [],
      record {
        forms = forms_push (take (n - 1) (pieces_of text)) first.before.0 line it first.before.1.forms form;
        order = order_push None first.before.0 it first.before.1.order follows;
      },
    ) in
    first.outside within (subst Begins (sym texts_are) begins))

-- so a line that is refused for its place can't stand there
pub out_of_place : (text : List ℕ) (n : ℕ) (line : List ℕ) (before : Option Line) (reason : Outside) → IsFirstOutside text n
    → slice_get (pieces_of text) (n - 1) ≡ Some line → IsBefore (pieces_of text) n before
    → n < length (pieces_of text) → LineReason line reason → IsOutOfPlace before reason
out_of_place text n line before (reasons.NoPlace it) first there behind within is =
    may_not_follow text n line before it first there behind within is
out_of_place text n line before (reasons.NoForm head) first there behind within is = tt
out_of_place text n line before reasons.Missing first there behind within is = tt
out_of_place text n line before reasons.Unended first there behind within is = tt

pub at_end : (line : List ℕ) (before : Option Line) (reason : Outside) → EndReason line reason → IsOutOfPlace before reason
at_end line before (reasons.NoPlace it) is = absurd is
at_end line before (reasons.NoForm head) is = tt
at_end line before reasons.Missing is = tt
at_end line before reasons.Unended is = tt

split_le : (n m : ℕ) → n ≤ m → (n ≡ m) ⊎ (n < m)
split_le zero zero h = inl refl
split_le zero (suc m) h = inr (omega arith)
split_le (suc n) zero h = absurd (omega (arith, h))
split_le (suc n) (suc m) h = ⊎_elim (λ e. inl (ap suc e)) (λ l. inr (omega (arith, l))) (split_le n m (omega (arith, h)))

-- what is known of the line that is refused
pub outside_by : (text : List ℕ) (n : ℕ) (line : List ℕ) (before : Option Line) (reason : Outside) → IsFirstOutside text n
    → slice_get (pieces_of text) (n - 1) ≡ Some line → IsBefore (pieces_of text) n before
    → (n ≡ length (pieces_of text) → EndReason line reason) → (n < length (pieces_of text) → LineReason line reason)
    → IsOutside text n line before reason
outside_by text n line before reason first there behind end line_is =
    record {
      first = first;
      there = there;
      behind = behind;
      at_end = end;
      within = line_is;
      out_of_place = ⊎_elim (λ e. at_end line before reason (end e))
          (λ l. out_of_place text n line before reason first there behind l (line_is l)) (split_le n (length (pieces_of text)) first.within.1);
    }
