-- The open socket that a label names is the list's.
use Rattle.std.proofs.Common.{◌≡◌, ℕ, ◌+◌, ◌/◌, ◌^◌, ◌<◌, ◌==◌, Bool, true, false, ◌&&◌, cond, List, [], ◌∷◌, length, map, filter, find, position, Option, None, Some, refl, ap, sym, ◌∙◌, subst, arith, ltb}
use Rattle.std.proofs.lemmas.Bool.Decides.{nat_tests}
use Rattle.std.specs.Prelude.{option_and_then, bytes_eq}
use Rattle.std.specs.List.{position_or_len}
use Rattle.std.specs.Option.{option_map}
use Rattle.std.proofs.lemmas.Bool.{eqb-true, eq-eqb}
use Rattle.list_words.specs.Lists.{Each, Pairs}
use Rattle.list_words.proofs.EachLemmas.{each_filter, each_found, some_same}
use Rattle.bind_buckets.specs.OwnerStep.{has_name as is_owner_named}
use Rattle.flat_list.specs.declared.socket.Socket.{Socket}
use Rattle.flat_list.specs.Flat.{Flat}
use Rattle.flat_list.specs.Outcome as outcome
use Rattle.flat_list.specs.Sections.{name_at}
use Rattle.flat_list.specs.Sockets.{has_name, open_named, is_open_in, open_in, kind_of}
use Rattle.flat_list.specs.Sound.{NamesDiffer}
use Rattle.table_model.specs.Tables.{Tables}
use Rattle.table_model.specs.Own.{Own, Mine, is_named, open_socket, open_named as open_named_here, name_of}
use Rattle.table_model.specs.Means.{OwnMeans, StandsAs, owner_of, owner_in}
use Rattle.table_model.proofs.lists.Listed.{Listed}
use Rattle.table_model.proofs.parts.Standing.{all_listed}
use Rattle.table_model.proofs.parts.Sections.{same_labels}

module _ {A B : Type 0} (f : A → B) (p : B → Bool) where
  mapped_at : (x : A) (xs : List A) (b : Bool) → option_map f (find (λ y. p (f y)) xs) ≡ find p (map f xs)
      → option_map f (cond b (Some x) (find (λ y. p (f y)) xs)) ≡ cond b (Some (f x)) (find p (map f xs))
  mapped_at x xs true h = refl
  mapped_at x xs false h = h

  -- what is found among items is found among what they give
  pub find_map : (xs : List A) → option_map f (find (λ y. p (f y)) xs) ≡ find p (map f xs)
  find_map [] = refl
  find_map (x ∷ xs) = mapped_at x xs (p (f x)) (find_map xs)

module _ {A : Type 0} (p q r : A → Bool) where
  kept_at : (x : A) (xs : List A) (b c : Bool) → p x ≡ b → q x ≡ c → (p x ≡ true → q x ≡ r x) → find p (filter q xs) ≡ find (λ y. p y && r y) xs
      → find p (cond c (x ∷ filter q xs) (filter q xs)) ≡ cond (b && r x) (Some x) (find (λ y. p y && r y) xs)
  kept_at x xs true true e k same h = ap (λ (b : Bool). cond b (Some x) (find p (filter q xs))) e ∙ ap (λ (b : Bool). cond b (Some x) (find (λ y. p y && r y) xs)) (sym k ∙ same e)
  kept_at x xs true false e k same h = h ∙ ap (λ (b : Bool). cond b (Some x) (find (λ y. p y && r y) xs)) (sym k ∙ same e)
  kept_at x xs false true e k same h = ap (λ (b : Bool). cond b (Some x) (find p (filter q xs))) e ∙ h
  kept_at x xs false false e k same h = h

  -- the first of those kept that passes
  pub find_kept : (xs : List A) → ((x : A) → p x ≡ true → q x ≡ r x) → find p (filter q xs) ≡ find (λ y. p y && r y) xs
  find_kept [] same = refl
  find_kept (x ∷ xs) same = kept_at x xs (p x) (q x) refl refl (same x) (find_kept xs same)

module _ {A : Type 0} (q : A → Bool) where
  passes_kept : (x : A) (ys : List A) (b : Bool) → q x ≡ b → Each (λ y. q y ≡ true) ys → Each (λ y. q y ≡ true) (cond b (x ∷ ys) ys)
  passes_kept x ys true e h = (e, h)
  passes_kept x ys false e h = h

  -- what is kept passes
  pub each_passes : (xs : List A) → Each (λ y. q y ≡ true) (filter q xs)
  each_passes [] = tt
  each_passes (x ∷ xs) = passes_kept x (filter q xs) (q x) refl (each_passes xs)

and_true : (a b : Bool) → b ≡ true → (a && b) ≡ a
and_true true b h = h
and_true false b h = refl

placed_by : (i n k : ℕ) (b : Bool) → ltb i n ≡ b → cond b (Some i) None ≡ Some k → k < n
placed_by i n k true e h = let is : i ≡ k = some_same i k h in let less : i < n = grind (arith, nat_tests) in omega (arith, less, is)
placed_by i n k false e h = absurd (cc)

-- a place where an item passes is one of the list's
pub placed : {A : Type 0} (p : A → Bool) (xs : List A) (k : ℕ) → position p xs ≡ Some k → k < length xs
placed p xs k h = placed_by (position_or_len p xs) (length xs) k (ltb (position_or_len p xs) (length xs)) refl h

-- an open socket of the section's own, and the list's
pub record IsOpen (n : ℕ) (t : Tables) (flat : Flat) (m : Mine) (s : Socket) : Type 0 where
  pub same : m.owner ≡ s.owner
  pub listed : Listed s.owner.name flat.sockets s
  pub mine : is_open_in n s ≡ true
  pub stands : StandsAs t.chains m (kind_of m.owner.state)

-- both, or none
abbrev pub OpenBoth : ℕ → Tables → Flat → Option Mine → Option Socket → Type 0
OpenBoth n t flat None None = Unit {0}
OpenBoth n t flat (Some m) (Some s) = IsOpen n t flat m s
OpenBoth n t flat None (Some s) = ⊥
OpenBoth n t flat (Some m) None = ⊥

-- an open socket, if there is one, is one of the list's
abbrev pub OpenThere : ℕ → Tables → Flat → Option Mine → Type 0
OpenThere n t flat None = Unit {0}
OpenThere n t flat (Some m) = (s : Socket) × IsOpen n t flat m s

module _ (n : ℕ) (own : Own) (t : Tables) (flat : Flat) (h : OwnMeans n own t flat) (names : Pairs NamesDiffer flat.sockets) where
  abbrev mine : List Socket
  mine = filter (is_open_in n) flat.sockets

  owners_found : (name : ℕ) → option_map owner_in (find (is_named name) own.sockets) ≡ option_map owner_of (find (has_name name) mine)
  owners_found name =
      find_map owner_in (is_owner_named name) own.sockets
      ∙ (ap (find (is_owner_named name)) h.sockets ∙ sym (find_map owner_of (is_owner_named name) mine))

  is_open : (name : ℕ) (m : Mine) (s : Socket) → find (is_named name) own.sockets ≡ Some m → find (has_name name) mine ≡ Some s → m.owner ≡ s.owner → IsOpen n t flat m s
  is_open name m s at there same = record {
    same = same;
    listed = each_found (λ (x : Socket). Listed x.owner.name flat.sockets x) (has_name name) mine s (each_filter (λ (x : Socket). Listed x.owner.name flat.sockets x) (is_open_in n) flat.sockets (all_listed flat.sockets names)) there;
    mine = each_found (λ (x : Socket). is_open_in n x ≡ true) (has_name name) mine s (each_passes (is_open_in n) flat.sockets) there;
    stands = each_found (λ (x : Mine). StandsAs t.chains x (kind_of x.owner.state)) (is_named name) own.sockets m h.stand at;
  }

  both_by : (name : ℕ) (o : Option Mine) (p : Option Socket) → find (is_named name) own.sockets ≡ o → find (has_name name) mine ≡ p → option_map owner_in o ≡ option_map owner_of p → OpenBoth n t flat o p
  both_by name None None e f same = tt
  both_by name (Some m) (Some s) e f same = is_open name m s e f (some_same m.owner s.owner same)
  both_by name None (Some s) e f same = absurd (cc)
  both_by name (Some m) None e f same = absurd (cc)

  there_by : (o : Option Mine) (p : Option Socket) → OpenBoth n t flat o p → OpenThere n t flat o
  there_by None p both = tt
  there_by (Some m) (Some s) both = (s, both)
  there_by (Some m) None both = absurd both

  both_named : (name : ℕ) → OpenBoth n t flat (find (is_named name) own.sockets) (find (has_name name) mine)
  both_named name = both_by name (find (is_named name) own.sockets) (find (has_name name) mine) refl refl (owners_found name)

  -- the open socket of a name is the list's of that name in the section, or neither has one
  pub open_in_both : (name : ℕ) → OpenBoth n t flat (open_named_here own name) (open_in n name flat.sockets)
  open_in_both name =
      subst (OpenBoth n t flat (open_named_here own name)) (find_kept (has_name name) (is_open_in n) (is_open_in n) flat.sockets (λ s e. refl)) (both_named name)

  there_named : (o : Option ℕ) → OpenThere n t flat (option_and_then (λ name. find (is_named name) own.sockets) o)
  there_named None = tt
  there_named (Some name) = there_by (find (is_named name) own.sockets) (find (has_name name) mine) (both_named name)

  -- an open socket of one's own is one of the list's
  pub open_there : (label : List ℕ) → OpenThere n t flat (open_socket own label)
  open_there label = there_named (name_of own label)

  -- the section of a name that it gave
  given_here : (k : ℕ) → k + 1 < 2 ^ 56 → name_at n k / 2 ^ 56 ≡ n
  given_here k l = omega arith

  named_here : (k : ℕ) → k + 1 < 2 ^ 56 → find (has_name (name_at n k)) mine ≡ open_named (name_at n k) flat.sockets
  named_here k l =
      find_kept (has_name (name_at n k)) (is_open_in n) (λ (s : Socket). s.named) flat.sockets
      (λ s e.
      let here : (s.owner.name / 2 ^ 56 == n) ≡ true = eq-eqb (s.owner.name / 2 ^ 56) n (ap (λ (j : ℕ). j / 2 ^ 56) (eqb-true s.owner.name (name_at n k) e) ∙ given_here k l) in
      and_true s.named (s.owner.name / 2 ^ 56 == n) here)

  opened : (labels : List (List ℕ)) (label : List ℕ) (o : Option ℕ) → position (λ l. bytes_eq l label) labels ≡ o → length labels + 1 < 2 ^ 56
      → OpenBoth n t flat (option_and_then (λ name. find (is_named name) own.sockets) (option_map (name_at n) o)) (option_and_then (λ name. open_named name flat.sockets) (option_map (name_at n) o))
  opened labels label None e l = tt
  opened labels label (Some k) e l =
      let less : k < length labels = placed (λ l. bytes_eq l label) labels k e in
      subst (OpenBoth n t flat (find (is_named (name_at n k)) own.sockets)) (named_here k (omega (arith, less, l))) (both_named (name_at n k))

  -- the open socket that a label names is the list's, or neither has one
  pub open_both : (label : List ℕ) → length own.labels + 1 < 2 ^ 56 → OpenBoth n t flat (open_socket own label) (outcome.open_socket flat n label)
  open_both label l =
      subst (λ (labels : List (List ℕ)). OpenBoth n t flat (open_socket own label) (option_and_then (λ name. open_named name flat.sockets) (option_map (name_at n) (position (λ l. bytes_eq l label) labels))))
      (sym (same_labels n own t flat h))
      (subst (λ (j : ℕ). OpenBoth n t flat (option_and_then (λ name. find (is_named name) own.sockets) (option_map (name_at j) (position (λ l. bytes_eq l label) own.labels))) (option_and_then (λ name. open_named name flat.sockets) (option_map (name_at n) (position (λ l. bytes_eq l label) own.labels))))
      (sym h.number)
      (opened own.labels label (position (λ l. bytes_eq l label) own.labels) refl l))
