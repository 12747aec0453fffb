-- How all buckets stand by what a pass gave, once it gave one entry more.
use Rattle.std.proofs.Common.{◌≡◌, ℕ, zero, suc, ◌+◌, ◌%◌, ◌<◌, ◌≤◌, ◌≢◌, List, [], ◌∷◌, ◌++◌, length, map, set, get_or, refl, sym, ap, subst, ◌∙◌, arith}
use Rattle.std.proofs.lemmas.Nat.{mod_below}
use Rattle.std.proofs.lemmas.List.{map-append, append-nil}
use Rattle.std.proofs.lemmas.List.FromFn.{get_or-map-range_with_len, length-map-range_with_len}
use Rattle.std.specs.List.{range_with_len}
use Rattle.turn_table.specs.declared.note.Placed.{Placed}
use Rattle.turn_table.specs.Journals.{placed, notes_at}
use Rattle.turn_table.proofs.OfCallers.{at-append, at_here, at_else}
use Rattle.bind_buckets.specs.declared.request.Request.{Request}
use Rattle.bind_buckets.specs.declared.request.Answer.{Answer}
use Rattle.bind_buckets.specs.declared.request.Entry.{Entry}
use Rattle.bind_buckets.specs.OwnerStep.{Held, owner_step, empty}
use Rattle.bind_buckets.specs.Journal.{IsLegal, IsLegalFrom, Standing, asked, replayed, replayed_from}
use Rattle.bind_buckets.specs.Bucket.{entries_of, entry_of}
use Rattle.bind_buckets.specs.BindHash.{untouched, standing_at, asked_at, answer_at}
use Rattle.bind_buckets.specs.Turned.{IsAsked, AreLawful, entries_at, standing_by, hash_of}
use Rattle.bind_buckets.proofs.Journals.{replayed_push}

same_map : (f g : ℕ → Standing) (a n : ℕ) → ((i : ℕ) → a ≤ i → f i ≡ g i) → map g (range_with_len a n) ≡ map f (range_with_len a n)
same_map f g a zero h = refl
same_map f g a (suc n) h =
    ap (λ x. x ∷ map g (range_with_len (a + 1) n)) (sym (h a (omega arith))) ∙ ap (λ xs. f a ∷ xs) (same_map f g (a + 1) n (λ i le. h i (omega arith)))

set_map : (f g : ℕ → Standing) (a n k place : ℕ) → a + k ≡ place → k < n → ((i : ℕ) → i ≢ place → f i ≡ g i) → map g (range_with_len a n) ≡ set (map f (range_with_len a n)) k (g place)
set_map f g a zero k place at within h = absurd (omega arith)
set_map f g a (suc n) zero place at within h =
    let here : a ≡ place = omega arith in
    ap (λ i. g i ∷ map g (range_with_len (a + 1) n)) here
    ∙ ap (λ xs. g place ∷ xs) (same_map f g (a + 1) n (λ i le. h i (λ e. absurd (omega arith))))
set_map f g a (suc n) (suc k) place at within h =
    ap (λ x. x ∷ map g (range_with_len (a + 1) n)) (sym (h a (λ e. absurd (omega arith))))
    ∙ ap (λ xs. f a ∷ xs) (set_map f g (a + 1) n k place (omega arith) (omega arith) h)

-- the last entry of a lawful journal has the answer of the bucket that those before it leave
legal_last : (n : ℕ) (h : Held) (es : List Entry) (e : Entry) → IsLegalFrom n h (es ++ e ∷ []) → e.answer ≡ (owner_step n (replayed_from n h es) e.request).answer
legal_last n h [] e p = p.0
legal_last n h (x ∷ es) e p = legal_last n (owner_step n h x.request).held es e p.2

-- and those before it are lawful
legal_front : (n : ℕ) (h : Held) (es later : List Entry) → IsLegalFrom n h (es ++ later) → IsLegalFrom n h es
legal_front n h [] later p = tt
legal_front n h (e ∷ es) later p = (p.0, p.1, legal_front n (owner_step n h e.request).held es later p.2)

pub lawful_front : (count : ℕ) (given later : List (Placed Entry)) → AreLawful count (given ++ later) → AreLawful count given
lawful_front count given later all i below =
    legal_front i empty (entries_at i given) (entries_at i later)
    (subst (λ es. IsLegal i es) (ap entries_of (at-append i given later) ∙ map-append entry_of (notes_at i given) (notes_at i later)) (all i below))

module _ (count key : ℕ) (request : Request) (answer : Answer) (given : List (Placed Entry)) (x : Placed Entry) (some : 1 ≤ count) (is : IsAsked (key % count) request answer x) (lawful : AreLawful count (given ++ x ∷ [])) where
  abbrev place : ℕ
  place = key % count

  below : place < count
  below = mod_below key count some

  long : length (hash_of count given) ≡ count
  long = length-map-range_with_len (standing_by given) 0 count

  stands : standing_at (hash_of count given) key ≡ standing_by given place
  stands =
      ap (λ n. get_or (hash_of count given) (key % n) untouched) long
      ∙ get_or-map-range_with_len (standing_by given) 0 count place place untouched below (omega arith)

  one : x ∷ [] ≡ map (placed place) (x.note ∷ [])
  one = ap (λ i. placed i x.note ∷ []) is.place_is

  here : entries_at place (given ++ x ∷ []) ≡ entries_at place given ++ record { request = request; answer = answer } ∷ []
  here =
      ap entries_of (at-append place given (x ∷ [])) ∙ map-append entry_of (notes_at place given) (notes_at place (x ∷ []))
      ∙ ap (λ xs. entries_at place given ++ entries_of (notes_at place xs)) one
      ∙ ap (λ ns. entries_at place given ++ entries_of ns) (at_here place (x.note ∷ []))
      ∙ ap (λ e. entries_at place given ++ e ∷ []) is.entry

  else : (i : ℕ) → i ≢ place → standing_by given i ≡ standing_by (given ++ x ∷ []) i
  else i other =
      let same : notes_at i (given ++ x ∷ []) ≡ notes_at i given = at-append i given (x ∷ []) ∙ ap (λ xs. notes_at i given ++ notes_at i xs) one
      ∙ ap (λ ns. notes_at i given ++ ns) (at_else place i (x.note ∷ []) (λ e. other (sym e))) ∙ append-nil (notes_at i given) in
      ap (λ ns. let s : Standing = record { held = replayed i (entries_of ns); entries = entries_of ns } in s) (sym same)

  told : answer ≡ (owner_step place (standing_by given place).held request).answer
  told = legal_last place empty (entries_at place given) (record { request = request; answer = answer }) (subst (IsLegal place) here (lawful place below))

  pub answered_by : answer_at (hash_of count given) key request ≡ answer
  answered_by =
      ap (λ n. (owner_step (key % n) (standing_at (hash_of count given) key).held request).answer) long
      ∙ ap (λ (s : Standing). (owner_step place s.held request).answer) stands ∙ sym told

  after : standing_by (given ++ x ∷ []) place ≡ asked place (standing_by given place) request
  after =
      ap (λ es. let s : Standing = record { held = replayed place es; entries = es } in s) here
      ∙ ap (λ h. let s : Standing = record { held = h; entries = entries_at place given ++ record { request = request; answer = answer } ∷ [] } in s) (replayed_push place empty (entries_at place given) (record { request = request; answer = answer }))
      ∙ ap (λ a. let s : Standing = record { held = (owner_step place (standing_by given place).held request).held; entries = entries_at place given ++ record { request = request; answer = a } ∷ [] } in s) told

  pub asked_by : asked_at (hash_of count given) key request ≡ hash_of count (given ++ x ∷ [])
  asked_by =
      ap (λ n. set (hash_of count given) (key % n) (asked (key % n) (standing_at (hash_of count given) key) request)) long
      ∙ ap (λ s. set (hash_of count given) place (asked place s request)) stands
      ∙ ap (set (hash_of count given) place) (sym after)
      ∙ sym (set_map (standing_by given) (standing_by (given ++ x ∷ [])) 0 count place place (omega arith) below else)
