-- A turn of the loop over the lines.
use Rattle.std.proofs.Common.{◌≡◌, ℕ, zero, suc, ◌+◌, ◌-◌, ◌<◌, ◌≤◌, ◌∙◌, inl, inr, List, [], ◌∷◌, ◌++◌, length, take, drop, get_or, is_some, sym, ap, subst, arith, Bool, true, false}
use Rattle.std.proofs.lemmas.List.{take_more, take-append-drop, length-drop}
use Rattle.std.proofs.lemmas.List.Splits.{length-slice_split}
use Rattle.list_words.proofs.Truths.{some_of}
use Rattle.sock_script.specs.Words.{is_line_feed, lines_of}
use Rattle.sock_script.specs.declared.parse.Mode.{Mode}
use Rattle.sock_script.specs.Grammar.{IsFirstOutside}
use Rattle.sock_script.specs.Reading.{Draft, Follows, ReadsLine, Reads, past, nothing_yet}
use Rattle.sock_script.specs.Steps.{LineAnswer}
use Rattle.sock_script.specs.declared.line.Line.{Line}
use Rattle.sock_script.specs.declared.line.Line.TheVariants as lines
use Rattle.sock_script.proofs.LineCases.{line_cases}
use Rattle.sock_script.proofs.Small.{weight, weight_append, weight_one}
use Rattle.sock_script.proofs.Inside.{read_inside, inside_by}
use Rattle.sock_script.proofs.Scripts.{Reads-push, Reads-append, Reads-kept, no_reading}

module _ (mode : Mode) (old new : Draft) (texts : List (List ℕ)) (n : ℕ) (text : List ℕ) (within : n < length texts) (here : text ≡ get_or texts n text)
    (before : Reads mode nothing_yet (take n texts) old) (b : Bool) (answer : LineAnswer mode old text new b) where
  one_more : take (n + 1) texts ≡ take n texts ++ text ∷ []
  one_more = take_more texts n text within ∙ ap (λ t. take n texts ++ t ∷ []) (sym here)

  pub goes_on : b ≡ true → Reads mode nothing_yet (take (n + 1) texts) new
  goes_on e = rw one_more (Reads-push mode nothing_yet old new (take n texts) text before (subst (LineAnswer mode old text new) e answer))

  pub ends_here : b ≡ false → IsFirstOutside mode texts (n + 1)
  ends_here e =
      let none = subst (LineAnswer mode old text new) e answer in
      let same : n + 1 - 1 ≡ n = omega arith in
      record {
        within = (omega arith, omega arith);
        before = inside_by mode (take (n + 1 - 1) texts) old (rw same before);
        outside = λ k.
            let r = read_inside mode (take (n + 1) texts) k in
            no_reading mode nothing_yet old r.0 (take n texts) text before none (subst (λ t. Reads mode nothing_yet t r.0) one_more r.1);
      }

-- how many bytes of a draft's lines have been read
module _ (mode : Mode) where
  form_bytes : (old new : Draft) (line : Line) → Follows mode old line new → new.bytes ≡ old.bytes
  form_bytes old new lines.PassedOver h = ap (λ d. d.bytes) h
  form_bytes old new (lines.Table shape) h = ap (λ d. d.bytes) h.1
  form_bytes old new (lines.Range range) h = ap (λ d. d.bytes) h.1
  form_bytes old new (lines.Reserved reserved) h = ap (λ d. d.bytes) h.1
  form_bytes old new (lines.Seed seed) h = ap (λ d. d.bytes) h.1
  form_bytes old new (lines.Offset offset) h = ap (λ d. d.bytes) h.1
  form_bytes old new (lines.TimeWaitReuse reuse) h = ap (λ d. d.bytes) h.1
  form_bytes old new (lines.Section number) h = ap (λ d. d.bytes) h.1
  form_bytes old new (lines.Capture dev net) h = ap (λ d. d.bytes) h
  form_bytes old new (lines.Command command) h = ap (λ d. d.bytes) h.1

  -- a line adds its own at most
  line_bytes : (old new : Draft) (text : List ℕ) → ReadsLine mode old text new → new.bytes ≤ old.bytes + length text + 1
  line_bytes old new text h =
      elim (line_cases mode old text new h) [
        | inl r ↦ omega (arith, form_bytes (past old text) new r.line r.follows)
        | inr kept ↦ omega (arith, ap (λ (d : Draft). d.bytes) kept.2)
      ]

-- the bytes of the lines so far, and of one more
module _ (texts : List (List ℕ)) (n : ℕ) (text : List ℕ) (within : n < length texts) (here : text ≡ get_or texts n text) where
  weight_more : weight (take (n + 1) texts) ≡ weight (take n texts) + length text + 1
  weight_more =
      ap weight (take_more texts n text within ∙ ap (λ t. take n texts ++ t ∷ []) (sym here))
      ∙ weight_append (take n texts) (text ∷ []) ∙ omega (arith, weight_one text)

  -- are no more than the text's
  pub line_fits : weight (take n texts) + length text + 1 ≤ weight texts
  line_fits =
      omega (arith, weight_more, ap weight (take-append-drop (n + 1) texts), weight_append (take (n + 1) texts) (drop (n + 1) texts))

  pub bytes_more : (mode : Mode) (old new : Draft) (b : Bool) → b ≡ true → LineAnswer mode old text new b → old.bytes ≤ weight (take n texts) → new.bytes ≤ weight (take (n + 1) texts)
  bytes_more mode old new b inside h before =
      omega (arith, weight_more, line_bytes mode old new text (subst (LineAnswer mode old text new) inside h), before)

-- the lines up to a capture are all that is read
pub read_to_capture : (mode : Mode) (draft : Draft) (texts : List (List ℕ)) (n : ℕ) → Reads mode nothing_yet (take n texts) draft → is_some draft.capture ≡ true → Reads mode nothing_yet texts draft
read_to_capture mode draft texts n before begun =
    let place = some_of draft.capture begun in
    subst (λ t. Reads mode nothing_yet t draft) (take-append-drop n texts)
    (Reads-append mode nothing_yet draft draft (take n texts) (drop n texts) before (Reads-kept mode draft (drop n texts) place.0 place.1))

-- a line is next
pub next_line : (texts : List (List ℕ)) (n : ℕ) (text : List ℕ) (more : List (List ℕ)) → drop n texts ≡ text ∷ more
    → (n < length texts) × (text ≡ get_or texts n text) × (drop (n + 1) texts ≡ more)
next_line [] zero text more e = absurd (cc)
next_line [] (suc n) text more e = absurd (cc)
next_line (t ∷ ts) zero text more e =
    let first : text ≡ t = cc in
    let others : ts ≡ more = cc in
    (omega arith, first, others)
next_line (t ∷ ts) (suc n) text more e =
    let r = next_line ts n text more e in
    let step : suc n + 1 ≡ suc (n + 1) = omega arith in
    (omega (arith, r.0), r.1, ap (λ k. drop k (t ∷ ts)) step ∙ r.2)

-- some line is next where the lines of a text are left
pub line_left : (texts : List (List ℕ)) (n : ℕ) (text : List ℕ) → drop n texts ≡ lines_of text → n < length texts
unfolding lines_of
line_left texts n text e =
    omega (arith, length-drop n texts, ap (λ (l : List (List ℕ)). length l) e, length-slice_split is_line_feed text)

-- none is next where none is left
pub none_left : (texts : List (List ℕ)) (n : ℕ) → drop n texts ≡ [] → length texts ≤ n
none_left texts n e = omega (arith, length-drop n texts, ap (λ (l : List (List ℕ)). length l) e)
