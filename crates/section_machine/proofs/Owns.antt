-- A section's own, as its labels have it.
use Rattle.std.proofs.Common.{◌≡◌, ℕ, zero, suc, Bool, true, false, List, [], ◌∷◌, ◌++◌, length, bytes_eq, Option, Some, None, refl, sym, ap, ◌∙◌, subst, set, arith}
use Rattle.std.specs.Prelude.{option_and_then}
use Rattle.std.proofs.lemmas.List.{set-set, set-get_or}
use Rattle.list_words.specs.Lists.{Each}
use Rattle.list_words.proofs.EachLemmas.{some_same}
use Rattle.list_words.proofs.Positions.{pushed_new, pushed_other, pushed_again}
use Rattle.flat_list.specs.Sections.{name_at}
use Rattle.label_index.specs.Places.{place_in}
use Rattle.table_model.specs.Own.{Mine, Offsets, with_socket, with_label, with_new, without}
use Rattle.section_machine.specs.Places.{Labelled, HaveNames, at_place, those, with_place, with_given, own_of, named_by}
use Rattle.section_machine.proofs.Places.{put_there, taken_out, labels_differ, put_last, none_last, set_last, none_behind, Differ}

-- a fact of each socket holds of that at a place
pub each_there : (P : Mine → Type 0) (places : List (Option Mine)) (i : ℕ) (m : Mine) → Each P (those places) → at_place places i ≡ Some m → P m
each_there P [] i m h e = absurd (cc)
each_there P (None ∷ ps) zero m h e = absurd (cc)
each_there P (Some x ∷ ps) zero m h e = subst P (some_same x m e) h.0
each_there P (None ∷ ps) (suc i) m h e = each_there P ps i m h e
each_there P (Some x ∷ ps) (suc i) m h e = each_there P ps i m h.1 e

-- no two sockets have one name
only_later : (name : ℕ → ℕ) (places : List (Option Mine)) (k : ℕ) (l : Mine) → ((j : ℕ) → name j ≡ k → ⊥) → HaveNames name places → Each (λ (m : Mine). m.owner.name ≡ k → m ≡ l) (those places)
only_later name [] k l ne h = tt
only_later name (None ∷ ps) k l ne h = only_later (λ j. name (suc j)) ps k l (λ j. ne (suc j)) (λ j. h (suc j))
only_later name (Some x ∷ ps) k l ne h = (λ same. absurd (ne 0 (sym (h 0) ∙ same)), only_later (λ j. name (suc j)) ps k l (λ j. ne (suc j)) (λ j. h (suc j)))

only_at : (name : ℕ → ℕ) → Differ name → (places : List (Option Mine)) (i : ℕ) (l : Mine) → HaveNames name places → at_place places i ≡ Some l → Each (λ (m : Mine). m.owner.name ≡ name i → m ≡ l) (those places)
only_at name d [] i l h e = absurd (cc)
only_at name d (None ∷ ps) zero l h e = absurd (cc)
only_at name d (Some x ∷ ps) zero l h e =
    (λ _. some_same x l e, only_later (λ j. name (suc j)) ps (name 0) l (λ j same. let eq : suc j ≡ 0 = d (suc j) 0 same in absurd (cc)) (λ j. h (suc j)))
only_at name d (None ∷ ps) (suc i) l h e = only_at (λ j. name (suc j)) (later d) ps i l (λ j. h (suc j)) e
  where
    later : Differ name → Differ (λ j. name (suc j))
    later d = λ j k same. cc (d (suc j) (suc k) same)
only_at name d (Some x ∷ ps) (suc i) l h e =
    (λ same. let eq : 0 ≡ suc i = d 0 (suc i) (sym (h 0) ∙ same) in absurd (cc), only_at (λ j. name (suc j)) (later d) ps i l (λ j. h (suc j)) e)
  where
    later : Differ name → Differ (λ j. name (suc j))
    later d = λ j k same. cc (d (suc j) (suc k) same)

name_there : (name : ℕ → ℕ) (places : List (Option Mine)) (i : ℕ) (l : Mine) → HaveNames name places → at_place places i ≡ Some l → l.owner.name ≡ name i
name_there name [] i l h e = absurd (cc)
name_there name (None ∷ ps) zero l h e = absurd (cc)
name_there name (Some x ∷ ps) zero l h e = ap (λ (m : Mine). m.owner.name) (sym (some_same x l e)) ∙ h 0
name_there name (x ∷ ps) (suc i) l h e = name_there (λ j. name (suc j)) ps i l (λ j. h (suc j)) e

pub only_one : (l : Labelled) (i : ℕ) (m : Mine) → HaveNames (name_at l.number) l.places → at_place l.places i ≡ Some m → Each (λ (x : Mine). x.owner.name ≡ m.owner.name → x ≡ m) (those l.places)
only_one l i m h e =
    subst (λ (k : ℕ). Each (λ (x : Mine). x.owner.name ≡ k → x ≡ m) (those l.places)) (sym (name_there (name_at l.number) l.places i m h e))
    (only_at (name_at l.number) (labels_differ l.number) l.places i m h e)

-- the sockets where one was taken out and another put there
pub put_back : (l : Labelled) (i : ℕ) (old new : Mine) → HaveNames (name_at l.number) l.places → at_place l.places i ≡ Some old → new.owner.name ≡ name_at l.number i
    → (moment : ℕ) (o : Offsets) (waits : List Mine) → with_socket (own_of l moment o waits) new ≡ own_of (with_place (with_place l i None) i (Some new)) moment o waits
put_back l i old new names at named moment o waits =
    ap (λ (ms : List Mine). record (own_of l moment o waits) { sockets = ms })
    (sym (ap those (set-set l.places i None (Some new)) ∙ put_there (name_at l.number) (labels_differ l.number) l.places i old new names at named))

-- where it was put back
pub put_same : (l : Labelled) (i : ℕ) (m : Mine) → at_place l.places i ≡ Some m → with_place (with_place l i None) i (Some m) ≡ l
put_same l i m at =
    ap (λ (ps : List (Option Mine)). record l { places = ps })
    (set-set l.places i None (Some m) ∙ (ap (set l.places i) (sym at) ∙ set-get_or l.places i None))

-- where it was taken out
pub taken : (l : Labelled) (i : ℕ) (name : ℕ) → HaveNames (name_at l.number) l.places → name ≡ name_at l.number i
    → (moment : ℕ) (o : Offsets) (waits : List Mine) → without (own_of l moment o waits) name ≡ own_of (with_place l i None) moment o waits
taken l i name names is moment o waits =
    ap (without (own_of l moment o waits)) is
    ∙ ap (λ (ms : List Mine). record (own_of l moment o waits) { sockets = ms }) (sym (taken_out (name_at l.number) (labels_differ l.number) l.places i names))

-- a label without a socket, and one with a new socket
pub label_given : (l l1 : Labelled) (label : List ℕ) (moment : ℕ) (o : Offsets) (waits : List Mine) → l1 ≡ with_given l label → with_label (own_of l moment o waits) label ≡ own_of l1 moment o waits
label_given l l1 label moment o waits given =
    ap (λ (ms : List Mine). record (with_label (own_of l moment o waits) label) { sockets = ms }) (sym (none_last l.places))
    ∙ ap (λ (x : Labelled). own_of x moment o waits) (sym given)

pub socket_given : (l l1 l2 : Labelled) (label : List ℕ) (c : Mine) (moment : ℕ) (o : Offsets) (waits : List Mine) → length l.places ≡ length l.labels → l1 ≡ with_given l label → l2 ≡ with_place l1 (length l.labels) (Some c)
    → with_new (with_label (own_of l moment o waits) label) c ≡ own_of l2 moment o waits
socket_given l l1 l2 label c moment o waits count given is =
    ap (λ (ms : List Mine). record (with_label (own_of l moment o waits) label) { sockets = ms })
    (sym (ap (λ (i : ℕ). those (set (l.places ++ None ∷ []) i (Some c))) (sym count) ∙ (ap those (set_last l.places None (Some c)) ∙ put_last l.places c)))
    ∙ ap (λ (x : Labelled). own_of x moment o waits) (sym (is ∙ ap (λ (x : Labelled). with_place x (length l.labels) (Some c)) given))

pub none_more : (places : List (Option Mine)) (i : ℕ) → at_place (places ++ None ∷ []) i ≡ at_place places i
none_more [] zero = refl
none_more [] (suc i) = refl
none_more (x ∷ ps) zero = refl
none_more (x ∷ ps) (suc i) = none_more ps i

found_before : (l : Labelled) (label : List ℕ) (p : Option ℕ) → option_and_then (at_place (with_given l label).places) p ≡ option_and_then (at_place l.places) p
found_before l label None = refl
found_before l label (Some i) = none_more l.places i

-- what is found at a label's place once one label more is given
pub found_named : (l l1 : Labelled) (label : List ℕ) (p : Option ℕ) (name : List ℕ) → l1 ≡ with_given l label → p ≡ place_in l.labels name → option_and_then (at_place l1.places) p ≡ named_by l name
found_named l l1 label p name given is =
    ap (λ (x : Labelled). option_and_then (at_place x.places) p) given ∙ (found_before l label p ∙ ap (option_and_then (at_place l.places)) is)

again_by : (labels : List (List ℕ)) (places : List (Option Mine)) (label name : List ℕ) (b : Bool) (o : Option ℕ) → length places ≡ length labels → bytes_eq label name ≡ b → place_in labels name ≡ o
    → option_and_then (at_place places) (place_in (labels ++ label ∷ []) name) ≡ option_and_then (at_place places) (place_in labels name)
again_by labels places label name false o count e at =
    ap (option_and_then (at_place places)) (pushed_other (λ x. bytes_eq x name) labels label e)
again_by labels places label name true (Some i) count e at =
    ap (option_and_then (at_place places)) (pushed_again (λ x. bytes_eq x name) labels label i at)
again_by labels places label name true None count e at =
    ap (option_and_then (at_place places)) (pushed_new (λ x. bytes_eq x name) labels label at e)
    ∙ (none_behind places (length labels) (omega (arith, count)) ∙ sym (ap (option_and_then (at_place places)) at))

-- a label names what it named before one label more was given
pub named_again : (l l1 : Labelled) (label name : List ℕ) → length l.places ≡ length l.labels → l1 ≡ with_given l label → named_by l1 name ≡ named_by l name
named_again l l1 label name count given =
    ap (λ (x : Labelled). named_by x name) given
    ∙ (found_before l label (place_in (l.labels ++ label ∷ []) name) ∙ again_by l.labels l.places label name (bytes_eq label name) (place_in l.labels name) count refl refl)
