-- Lines that are read one after the other.
use Rattle.std.proofs.Common.{◌≡◌, ℕ, zero, suc, ◌+◌, ◌-◌, ◌<◌, ◌≤◌, List, [], ◌∷◌, ◌++◌, length, length-append, take, drop, Option, Some, None, slice_get, IsTrue, true, false, refl, sym, ap, subst, ◌∙◌, arith, add-one, length-drop}
use Rattle.std.proofs.lemmas.List.{take-append-drop, take-take}
use Rattle.std.proofs.lemmas.List.Splits.{length-slice_split}
use Rattle.record_reader.specs.declared.line.Line.{Line}
use Rattle.record_reader.specs.Words.{is_line_feed, pieces_of, words_of}
use Rattle.record_reader.specs.Forms.{HasForm}
use Rattle.record_reader.specs.Record.{AreInOrder, Begins, BeginsAs, HaveForms, IsFirstOutside, IsRecord, may_follow}
use Rattle.record_reader.specs.Steps.{EndsWell, MayCome, Turns, last_of}
use Rattle.record_reader.proofs.OneForm.{one_form}

-- the last line, or the one before them
abbrev pub last_from : Option Line → List Line → Option Line
last_from before [] = before
last_from before (line ∷ rest) = last_from (Some line) rest

last_some : (line : Line) (rest : List Line) → slice_get (line ∷ rest) (length rest) ≡ last_from (Some line) rest
last_some line [] = refl
last_some line (next ∷ rest) = last_some next rest

pub last_is : (all : List Line) → last_of all ≡ last_from None all
last_is [] = refl
last_is (line ∷ rest) =
    let n : length (line ∷ rest) - 1 ≡ length rest = omega arith in
    ap (slice_get (line ∷ rest)) n ∙ last_some line rest

order_push : (before : Option Line) (old : List Line) (line : Line) → AreInOrder before old → IsTrue (may_follow (last_from before old) line) → AreInOrder before (old ++ line ∷ [])
order_push before [] line o h = (h, tt)
order_push before (x ∷ xs) line o h = (o.0, order_push (Some x) xs line o.1 h)

order_last : (before : Option Line) (old : List Line) (line : Line) → AreInOrder before (old ++ line ∷ []) → IsTrue (may_follow (last_from before old) line)
order_last before [] line o = o.0
order_last before (x ∷ xs) line o = order_last (Some x) xs line o.1

forms_push : (texts : List (List ℕ)) (old : List Line) (text : List ℕ) (line : Line) → HaveForms texts old → HasForm (words_of text) line → HaveForms (texts ++ text ∷ []) (old ++ line ∷ [])
forms_push [] [] text line f h = (h, tt)
forms_push (t ∷ ts) (l ∷ ls) text line f h = (f.0, forms_push ts ls text line f.1 h)
forms_push [] (l ∷ ls) text line f h = absurd f
forms_push (t ∷ ts) [] text line f h = absurd f

-- lines of which one is the last
record Pushed (texts : List (List ℕ)) (text : List ℕ) (all : List Line) : Type 0 where
  front : List Line
  line : Line
  is : all ≡ front ++ line ∷ []
  forms : HaveForms texts front
  form : HasForm (words_of text) line

forms_pushed : (texts : List (List ℕ)) (text : List ℕ) (all : List Line) → HaveForms (texts ++ text ∷ []) all → Pushed texts text all
forms_pushed [] text [] f = absurd f
forms_pushed [] text (l ∷ []) f = record { front = []; line = l; is = refl; forms = tt; form = f.0 }
forms_pushed [] text (l ∷ m ∷ ls) f = absurd f.1
forms_pushed (t ∷ ts) text [] f = absurd f
forms_pushed (t ∷ ts) text (l ∷ ls) f =
    let p = forms_pushed ts text ls f.1 in
    record { front = l ∷ p.front; line = p.line; is = ap (λ xs. l ∷ xs) p.is; forms = (f.0, p.forms); form = p.form }

-- texts are the lines that they are, and no others
pub one_lines : (texts : List (List ℕ)) (a b : List Line) → HaveForms texts a → HaveForms texts b → a ≡ b
one_lines [] [] [] f g = refl
one_lines [] [] (l ∷ ls) f g = absurd g
one_lines [] (l ∷ ls) b f g = absurd f
one_lines (t ∷ ts) [] b f g = absurd f
one_lines (t ∷ ts) (l ∷ ls) [] f g = absurd g
one_lines (t ∷ ts) (l ∷ ls) (m ∷ ms) f g =
    let first = one_form (words_of t) l m f.0 g.0 in
    let rest = one_lines ts ls ms f.1 g.1 in
    λ i. first i ∷ rest i

pub forms_length : (texts : List (List ℕ)) (all : List Line) → HaveForms texts all → length texts ≡ length all
forms_length [] [] f = refl
forms_length (t ∷ ts) (l ∷ ls) f = ap suc (forms_length ts ls f.1)
forms_length [] (l ∷ ls) f = absurd f
forms_length (t ∷ ts) [] f = absurd f

forms_take : (n : ℕ) (texts : List (List ℕ)) (all : List Line) → HaveForms texts all → HaveForms (take n texts) (take n all)
forms_take zero texts all f = tt
forms_take (suc n) [] [] f = tt
forms_take (suc n) (t ∷ ts) (l ∷ ls) f = (f.0, forms_take n ts ls f.1)
forms_take (suc n) [] (l ∷ ls) f = absurd f
forms_take (suc n) (t ∷ ts) [] f = absurd f

order_take : (before : Option Line) (n : ℕ) (all : List Line) → AreInOrder before all → AreInOrder before (take n all)
order_take before zero all o = tt
order_take before (suc n) [] o = tt
order_take before (suc n) (l ∷ ls) o = (o.0, order_take (Some l) n ls o.1)

-- fewer of the first lines may begin a record too
pub begins_fewer : (m n : ℕ) (texts : List (List ℕ)) → m ≤ n → Begins (take n texts) → Begins (take m texts)
begins_fewer m n texts h b = (
  take m b.0,
  record {
    forms = subst (λ ts. HaveForms ts (take m b.0)) (take-take m n texts h) (forms_take m (take n texts) b.0 b.1.forms);
    order = order_take None m b.0 b.1.order;
  },
)

-- a list where one item is next
record Next {A : Type 0} (all : List A) (k : ℕ) (x : A) (xs : List A) : Type 0 where
  taken : take (k + 1) all ≡ take k all ++ x ∷ []
  left : drop (k + 1) all ≡ xs
  within : k < length all

next_by : {A : Type 0} (all : List A) (k : ℕ) (x : A) (xs : List A) → drop k all ≡ x ∷ xs → (take (suc k) all ≡ take k all ++ x ∷ []) × (drop (suc k) all ≡ xs) × (k < length all)
next_by [] zero x xs e = absurd (cc)
next_by [] (suc k) x xs e = absurd (cc)
next_by (y ∷ ys) zero x xs e =
    let here : y ≡ x = cc in
    let rest : ys ≡ xs = cc in
    (ap (λ z. z ∷ []) here, rest, omega arith)
next_by (y ∷ ys) (suc k) x xs e =
    let n = next_by ys k x xs e in
    (ap (λ zs. y ∷ zs) n.0, n.1, omega (arith, n.2))

next : {A : Type 0} (all : List A) (k : ℕ) (x : A) (xs : List A) → drop k all ≡ x ∷ xs → Next all k x xs
next all k x xs e =
    let n = next_by all k x xs e in
    record { taken = rw add-one n.0; left = rw add-one n.1; within = n.2 }

-- what has been read: so many lines, and what is left of the text
pub record HasRead (text : List ℕ) (all : List Line) (rest : List ℕ) : Type 0 where
  pub begins : BeginsAs (take (length all) (pieces_of text)) all
  pub left : drop (length all) (pieces_of text) ≡ pieces_of rest

pub nothing_read : (text : List ℕ) (all : List Line) → all ≡ [] → HasRead text all text
nothing_read text all e =
    subst (λ ls. HasRead text ls text) (sym e) (record { begins = record { forms = tt; order = tt }; left = refl })

-- a line more is read
pub reads_on : (text : List ℕ) (old new : List Line) (rest line after : List ℕ) (words : List (List ℕ)) → HasRead text old rest → pieces_of rest ≡ line ∷ pieces_of after → words ≡ words_of line → Turns old words new true
    → HasRead text new after
reads_on text old new rest line after words r cut spelled t =
    let n = next (pieces_of text) (length old) line (pieces_of after) (r.left ∙ cut) in
    let come = t.1 in
    let pushed : length (old ++ t.0 ∷ []) ≡ length old + 1 = length-append old (t.0 ∷ []) in
    let form : HasForm (words_of line) t.0 = subst (λ ws. HasForm ws t.0) spelled come.0 in
    let forms : HaveForms (take (length (old ++ t.0 ∷ [])) (pieces_of text)) (old ++ t.0 ∷ []) =
    subst (λ ts. HaveForms ts (old ++ t.0 ∷ [])) (sym (ap (λ k. take k (pieces_of text)) pushed ∙ n.taken)) (forms_push _ old line t.0 r.begins.forms form) in
    let order : AreInOrder None (old ++ t.0 ∷ []) =
    order_push None old t.0 r.begins.order (subst (λ o. IsTrue (may_follow o t.0)) (last_is old) come.1) in
    let left : drop (length (old ++ t.0 ∷ [])) (pieces_of text) ≡ pieces_of after = ap (λ k. drop k (pieces_of text)) pushed ∙ n.left in
    subst (λ ls. HasRead text ls after) (sym t.2) (record { begins = record { forms = forms; order = order }; left = left })

pub some_piece : (text : List ℕ) → 1 ≤ length (pieces_of text)
some_piece text = omega (arith, length-slice_split is_line_feed text)

pub one_less : (n : ℕ) → n + 1 - 1 ≡ n
one_less n = omega arith

-- lines that may not come after those
no_more : (texts : List (List ℕ)) (old : List Line) (text : List ℕ) → BeginsAs texts old → ((line : Line) → MayCome old (words_of text) line → ⊥) → Begins (texts ++ text ∷ []) → ⊥
no_more texts old text b none more =
    let p = forms_pushed texts text more.0 more.1.forms in
    let same : p.front ≡ old = one_lines texts p.front old p.forms b.forms in
    let may : IsTrue (may_follow (last_from None p.front) p.line) = order_last None p.front p.line (subst (AreInOrder None) p.is more.1.order) in
    none p.line (p.form, subst (λ ls. IsTrue (may_follow ls p.line)) (ap (last_from None) same ∙ sym (last_is old)) may)

-- a line that may not come is the first outside
pub stops : (text : List ℕ) (old new : List Line) (rest line after : List ℕ) (words : List (List ℕ)) → HasRead text old rest → pieces_of rest ≡ line ∷ pieces_of after → words ≡ words_of line → Turns old words new false
    → IsFirstOutside text (length old + 1)
stops text old new rest line after words r cut spelled t =
    let n = next (pieces_of text) (length old) line (pieces_of after) (r.left ∙ cut) in
    let some = some_piece after in
    let size : length (pieces_of after) ≡ length (pieces_of text) - (length old + 1) = sym (ap length n.left) ∙ length-drop (length old + 1) (pieces_of text) in
    let within : length old < length (pieces_of text) = n.within in
    record {
      within = (omega arith, omega arith);
      before = subst (λ k. Begins (take k (pieces_of text))) (sym (one_less (length old))) (old, r.begins);
      outside = λ below begins.
          no_more _ old line r.begins (λ l may. t.1 l (subst (λ ws. HasForm ws l) (sym spelled) may.0, may.1)) (subst Begins n.taken begins);
      unended = λ is found. omega arith;
    }

-- where the last line feed has been passed
record Ended (text : List ℕ) (all : List Line) (rest : List ℕ) : Type 0 where
  whole : pieces_of text ≡ take (length all) (pieces_of text) ++ rest ∷ []
  size : length (pieces_of text) ≡ length all + 1

ended : (text : List ℕ) (all : List Line) (rest : List ℕ) → HasRead text all rest → pieces_of rest ≡ rest ∷ [] → Ended text all rest
ended text all rest r cut =
    let whole : pieces_of text ≡ take (length all) (pieces_of text) ++ rest ∷ [] =
    sym (take-append-drop (length all) (pieces_of text)) ∙ ap (λ ts. take (length all) (pieces_of text) ++ ts) (r.left ∙ cut) in
    let front : length (take (length all) (pieces_of text)) ≡ length all = forms_length _ all r.begins.forms in
    let all_of : length (pieces_of text) ≡ length (take (length all) (pieces_of text)) + 1 = ap length whole ∙ length-append (take (length all) (pieces_of text)) (rest ∷ []) in
    record { whole = whole; size = omega arith }

-- the text is a record
pub ends_well : (text : List ℕ) (all : List Line) (rest : List ℕ) → HasRead text all rest → pieces_of rest ≡ rest ∷ [] → (rest ≡ []) × EndsWell all → IsRecord text all
ends_well text all rest r cut well =
    let e = ended text all rest r cut in
    record {
      clock = well.1.0;
      begins = r.begins;
      whole = e.whole ∙ ap (λ t. take (length all) (pieces_of text) ++ t ∷ []) well.0;
      ends = well.1.1;
    }

last_item : (xs : List (List ℕ)) (x y : List ℕ) → xs ++ x ∷ [] ≡ xs ++ y ∷ [] → x ≡ y
last_item [] x y e = cc
last_item (z ∷ zs) x y e = let rest : zs ++ x ∷ [] ≡ zs ++ y ∷ [] = cc in last_item zs x y rest

-- how many lines a record has
pub record_size : (text : List ℕ) (all : List Line) → IsRecord text all → length (pieces_of text) ≡ length all + 1
record_size text all is =
    let front : length (take (length all) (pieces_of text)) ≡ length all = forms_length _ all is.begins.forms in
    let all_of : length (pieces_of text) ≡ length (take (length all) (pieces_of text)) + 1 = ap length is.whole ∙ length-append (take (length all) (pieces_of text)) ([] ∷ []) in
    omega arith

-- a text is a record of one list of lines at most
pub one_record : (text : List ℕ) (a b : List Line) → IsRecord text a → IsRecord text b → a ≡ b
one_record text a b ra rb =
    let sa = record_size text a ra in
    let sb = record_size text b rb in
    let same : length b ≡ length a = omega arith in
    one_lines (take (length a) (pieces_of text)) a b ra.begins.forms (subst (λ n. HaveForms (take n (pieces_of text)) b) same rb.begins.forms)

same_end : (text : List ℕ) (all other : List Line) (rest : List ℕ) → HasRead text all rest → Ended text all rest → IsRecord text other → (rest ≡ []) × EndsWell all
same_end text all other rest r e is =
    let size = record_size text other is in
    let few : length other ≡ length all = omega (arith, e.size) in
    let lines_same : other ≡ all = one_lines (take (length all) (pieces_of text)) other all (subst (λ n. HaveForms (take n (pieces_of text)) other) few is.begins.forms) r.begins.forms in
    let tails : take (length all) (pieces_of text) ++ rest ∷ [] ≡ take (length all) (pieces_of text) ++ [] ∷ [] =
    sym e.whole ∙ is.whole ∙ ap (λ n. take n (pieces_of text) ++ [] ∷ []) few in
    (last_item _ rest [] tails, (is.clock, ap last_of (sym lines_same) ∙ is.ends))

-- the line behind the last line feed is the first outside
pub ends_badly : (text : List ℕ) (all : List Line) (rest : List ℕ) → HasRead text all rest → pieces_of rest ≡ rest ∷ [] → ((rest ≡ []) × EndsWell all → ⊥) → IsFirstOutside text (length all + 1)
ends_badly text all rest r cut not_well =
    let e = ended text all rest r cut in
    let size = e.size in
    record {
      within = (omega arith, omega arith);
      before = subst (λ k. Begins (take k (pieces_of text))) (sym (one_less (length all))) (all, r.begins);
      outside = λ below begins. omega arith;
      unended = λ is found. not_well (same_end text all found.0 rest r e found.1);
    }
