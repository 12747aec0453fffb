-- Sockets at the places of their labels, seen as a list: each is found by its name, changed and taken out.
use Rattle.std.proofs.Common.{◌≡◌, ◌≢◌, ◌+◌, ◌*◌, ◌^◌, ◌≤◌, ℕ, zero, suc, Bool, false, not, cond, List, [], ◌∷◌, ◌++◌, length, map, filter, find, Option, Some, None, refl, ap, sym, ◌∙◌, arith, set}
use Rattle.std.specs.Prelude.{IfSome, option_and_then}
use Rattle.std.specs.Option.{option_map}
use Rattle.std.proofs.lemmas.List.Elements.{filter_map-append}
use Rattle.std.proofs.lemmas.Bool.{ne_eqb, eq-eqb}
use Rattle.list_words.specs.Lists.{Each}
use Rattle.list_words.proofs.EachLemmas.{each_weaken}
use Rattle.flat_list.specs.Sections.{name_at}
use Rattle.label_index.specs.Places.{place_in}
use Rattle.table_model.specs.Own.{Mine, Offsets, is_named, replaced, open_socket}
use Rattle.section_machine.specs.Places.{at_place, those, HaveNames, Labelled, named_by, own_of}

find_none : (k : ℕ) (ms : List Mine) → Each (λ (m : Mine). is_named k m ≡ false) ms → find (is_named k) ms ≡ None
find_none k [] h = refl
find_none k (m ∷ ms) h = ap (λ (b : Bool). cond b (Some m) (find (is_named k) ms)) h.0 ∙ find_none k ms h.1

keep_all : (k : ℕ) (ms : List Mine) → Each (λ (m : Mine). is_named k m ≡ false) ms → filter (λ (m : Mine). not (is_named k m)) ms ≡ ms
keep_all k [] h = refl
keep_all k (m ∷ ms) h =
    let rest : List Mine = filter (λ (x : Mine). not (is_named k x)) ms in
    ap (λ (b : Bool). cond (not b) (m ∷ rest) rest) h.0 ∙ ap (λ (xs : List Mine). m ∷ xs) (keep_all k ms h.1)

replace_none : (new : Mine) (ms : List Mine) → Each (λ (m : Mine). is_named new.owner.name m ≡ false) ms → map (replaced new) ms ≡ ms
replace_none new [] h = refl
replace_none new (m ∷ ms) h =
    ap (λ (b : Bool). cond b new m ∷ map (replaced new) ms) h.0 ∙ ap (λ (xs : List Mine). m ∷ xs) (replace_none new ms h.1)

-- no other place has that name
others : (name : ℕ → ℕ) (k : ℕ) → ((i : ℕ) → name i ≢ k) → (places : List (Option Mine)) → HaveNames name places → Each (λ (m : Mine). is_named k m ≡ false) (those places)
others name k ne [] h = tt
others name k ne (None ∷ ps) h = others (λ i. name (suc i)) k (λ i. ne (suc i)) ps (λ i. h (suc i))
others name k ne (Some m ∷ ps) h =
    (ne_eqb m.owner.name k (λ e. ne 0 (sym (h 0) ∙ e)), others (λ i. name (suc i)) k (λ i. ne (suc i)) ps (λ i. h (suc i)))

-- places have different names
abbrev pub Differ : (ℕ → ℕ) → Type 0
Differ name = (i j : ℕ) → name i ≡ name j → i ≡ j

later_differ : (name : ℕ → ℕ) → Differ name → Differ (λ i. name (suc i))
later_differ name d i j e = let same : suc i ≡ suc j = d (suc i) (suc j) e in omega (arith, same)

never_first : (name : ℕ → ℕ) → Differ name → (i : ℕ) → name (suc i) ≢ name 0
never_first name d i e = let same : suc i ≡ 0 = d (suc i) 0 e in absurd (omega (arith, same))

behind_first : (name : ℕ → ℕ) → Differ name → (places : List (Option Mine)) (x : Option Mine) → HaveNames name (x ∷ places) → Each (λ (m : Mine). is_named (name 0) m ≡ false) (those places)
behind_first name d ps x h = others (λ i. name (suc i)) (name 0) (never_first name d) ps (λ i. h (suc i))

-- the socket of a place's name is that at the place
pub found_there : (name : ℕ → ℕ) → Differ name → (places : List (Option Mine)) (i : ℕ) → HaveNames name places → find (is_named (name i)) (those places) ≡ at_place places i
found_there name d [] i h = refl
found_there name d (None ∷ ps) zero h = find_none (name 0) (those ps) (behind_first name d ps None h)
found_there name d (Some m ∷ ps) zero h =
    ap (λ (b : Bool). cond b (Some m) (find (is_named (name 0)) (those ps))) (eq-eqb m.owner.name (name 0) (h 0))
found_there name d (None ∷ ps) (suc i) h = found_there (λ k. name (suc k)) (later_differ name d) ps i (λ k. h (suc k))
found_there name d (Some m ∷ ps) (suc i) h =
    ap (λ (b : Bool). cond b (Some m) (find (is_named (name (suc i))) (those ps))) (ne_eqb m.owner.name (name (suc i)) (λ e. never_first name d i (sym e ∙ h 0)))
    ∙ found_there (λ k. name (suc k)) (later_differ name d) ps i (λ k. h (suc k))

-- a place that is empty now
pub taken_out : (name : ℕ → ℕ) → Differ name → (places : List (Option Mine)) (i : ℕ) → HaveNames name places → those (set places i None) ≡ filter (λ (m : Mine). not (is_named (name i) m)) (those places)
taken_out name d [] i h = refl
taken_out name d (None ∷ ps) zero h = sym (keep_all (name 0) (those ps) (behind_first name d ps None h))
taken_out name d (Some m ∷ ps) zero h =
    let rest : List Mine = filter (λ (x : Mine). not (is_named (name 0) x)) (those ps) in
    sym (keep_all (name 0) (those ps) (behind_first name d ps (Some m) h))
    ∙ sym (ap (λ (b : Bool). cond (not b) (m ∷ rest) rest) (eq-eqb m.owner.name (name 0) (h 0)))
taken_out name d (None ∷ ps) (suc i) h = taken_out (λ k. name (suc k)) (later_differ name d) ps i (λ k. h (suc k))
taken_out name d (Some m ∷ ps) (suc i) h =
    let rest : List Mine = filter (λ (x : Mine). not (is_named (name (suc i)) x)) (those ps) in
    ap (λ (xs : List Mine). m ∷ xs) (taken_out (λ k. name (suc k)) (later_differ name d) ps i (λ k. h (suc k)))
    ∙ sym (ap (λ (b : Bool). cond (not b) (m ∷ rest) rest) (ne_eqb m.owner.name (name (suc i)) (λ e. never_first name d i (sym e ∙ h 0))))

-- a socket that another takes the place of
pub put_there : (name : ℕ → ℕ) → Differ name → (places : List (Option Mine)) (i : ℕ) (old new : Mine) → HaveNames name places → at_place places i ≡ Some old → new.owner.name ≡ name i
    → those (set places i (Some new)) ≡ map (replaced new) (those places)
put_there name d [] i old new h there named = absurd (cc)
put_there name d (None ∷ ps) zero old new h there named = absurd (cc)
put_there name d (Some m ∷ ps) zero old new h there named =
    sym (
    ap (λ (b : Bool). cond b new m ∷ map (replaced new) (those ps)) (eq-eqb m.owner.name new.owner.name (h 0 ∙ sym named))
    ∙ ap (λ (xs : List Mine). new ∷ xs) (replace_none new (those ps) (others (λ k. name (suc k)) new.owner.name (λ k e. never_first name d k (e ∙ named)) ps (λ k. h (suc k))))
    )
put_there name d (None ∷ ps) (suc i) old new h there named = put_there (λ k. name (suc k)) (later_differ name d) ps i old new (λ k. h (suc k)) there named
put_there name d (Some m ∷ ps) (suc i) old new h there named =
    ap (λ (xs : List Mine). m ∷ xs) (put_there (λ k. name (suc k)) (later_differ name d) ps i old new (λ k. h (suc k)) there named)
    ∙ sym (ap (λ (b : Bool). cond b new m ∷ map (replaced new) (those ps)) (ne_eqb m.owner.name new.owner.name (λ e. never_first name d i (sym (sym (h 0) ∙ (e ∙ named))))))

-- a new one at the end
pub put_last : (places : List (Option Mine)) (new : Mine) → those (places ++ Some new ∷ []) ≡ those places ++ new ∷ []
put_last places new = filter_map-append (λ (o : Option Mine). o) places (Some new ∷ [])

-- an empty place more is no socket more
pub none_last : (places : List (Option Mine)) → those (places ++ None ∷ []) ≡ those places
none_last [] = refl
none_last (None ∷ ps) = none_last ps
none_last (Some m ∷ ps) = ap (λ (xs : List Mine). m ∷ xs) (none_last ps)

-- the last place
pub set_last : {A : Type 0} (xs : List A) (y z : A) → set (xs ++ y ∷ []) (length xs) z ≡ xs ++ z ∷ []
set_last [] y z = refl
set_last (x ∷ xs) y z = ap (λ l. x ∷ l) (set_last xs y z)

-- names, where one place has changed
pub names_set : (name : ℕ → ℕ) (places : List (Option Mine)) (i : ℕ) (o : Option Mine) → IfSome o (λ (m : Mine). m.owner.name ≡ name i) → HaveNames name places → HaveNames name (set places i o)
names_set name [] i o p h j = h j
names_set name (x ∷ ps) zero o p h zero = p
names_set name (x ∷ ps) zero o p h (suc j) = h (suc j)
names_set name (x ∷ ps) (suc i) o p h zero = h 0
names_set name (x ∷ ps) (suc i) o p h (suc j) = names_set (λ k. name (suc k)) ps i o p (λ k. h (suc k)) j

-- and with an empty place more
pub names_more : (name : ℕ → ℕ) (places : List (Option Mine)) → HaveNames name places → HaveNames name (places ++ None ∷ [])
names_more name [] h zero = tt
names_more name [] h (suc j) = tt
names_more name (x ∷ ps) h zero = h 0
names_more name (x ∷ ps) h (suc j) = names_more (λ k. name (suc k)) ps (λ k. h (suc k)) j

-- the names of a section's labels differ
pub labels_differ : (n : ℕ) → Differ (name_at n)
labels_differ n i j e = omega (arith, e)

named_at : (l : Labelled) (o : Option ℕ) → HaveNames (name_at l.number) l.places
    → option_and_then (λ name. find (is_named name) (those l.places)) (option_map (name_at l.number) o) ≡ option_and_then (at_place l.places) o
named_at l None h = refl
named_at l (Some k) h = found_there (name_at l.number) (labels_differ l.number) l.places k h

-- the open socket of a label is that at its place
pub open_named : (l : Labelled) (moment : ℕ) (offsets : Offsets) (waits : List Mine) (label : List ℕ) → HaveNames (name_at l.number) l.places
    → open_socket (own_of l moment offsets waits) label ≡ named_by l label
open_named l moment offsets waits label h = named_at l (place_in l.labels label) h

-- The socket of a name

-- no place has a name before those of the section's labels
pub none_before : (l : Labelled) (name : ℕ) → (l.number * 2 ^ 56 + 1 ≤ name → ⊥) → HaveNames (name_at l.number) l.places → find (is_named name) (those l.places) ≡ None
none_before l name before h =
    find_none name (those l.places) (others (name_at l.number) name (λ i same. before (omega (arith, same))) l.places h)

-- the socket of the name that a place has is that at the place
pub named_there : (l : Labelled) (name i : ℕ) → name ≡ name_at l.number i → HaveNames (name_at l.number) l.places → find (is_named name) (those l.places) ≡ at_place l.places i
named_there l name i is h =
    ap (λ (k : ℕ). find (is_named k) (those l.places)) is ∙ found_there (name_at l.number) (labels_differ l.number) l.places i h

-- behind the last place there is none
pub none_behind : (places : List (Option Mine)) (i : ℕ) → length places ≤ i → at_place places i ≡ None
none_behind [] i h = refl
none_behind (x ∷ ps) zero h = absurd (omega arith)
none_behind (x ∷ ps) (suc i) h = none_behind ps i (omega arith)

-- each socket has a place
pub each_placed : (places : List (Option Mine)) → Each (λ (m : Mine). (i : ℕ) × (at_place places i ≡ Some m)) (those places)
each_placed [] = tt
each_placed (None ∷ ps) =
    each_weaken (λ (m : Mine). (i : ℕ) × (at_place ps i ≡ Some m)) (λ (m : Mine). (i : ℕ) × (at_place (None ∷ ps) i ≡ Some m)) (those ps) (λ m at. (suc at.0, at.1)) (each_placed ps)
each_placed (Some x ∷ ps) =
    ((0, refl), each_weaken (λ (m : Mine). (i : ℕ) × (at_place ps i ≡ Some m)) (λ (m : Mine). (i : ℕ) × (at_place (Some x ∷ ps) i ≡ Some m)) (those ps) (λ m at. (suc at.0, at.1)) (each_placed ps))

-- a place that is empty now, with an empty place more
pub none_set : (places : List (Option Mine)) (i : ℕ) → set (places ++ None ∷ []) i None ≡ set places i None ++ None ∷ []
none_set [] zero = refl
none_set [] (suc i) = refl
none_set (x ∷ ps) zero = refl
none_set (x ∷ ps) (suc i) = ap (λ (qs : List (Option Mine)). x ∷ qs) (none_set ps i)
