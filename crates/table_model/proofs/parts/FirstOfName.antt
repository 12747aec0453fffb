-- The owner of a socket is the first of its name in the bucket of its port.
use Rattle.std.proofs.Common.{◌≡◌, ◌≢◌, ℕ, ◌%◌, ◌≤◌, ◌==◌, Bool, true, false, cond, List, [], ◌∷◌, length, find, Option, None, Some, refl, ap, sym, ◌∙◌, arith, get_or}
use Rattle.std.specs.Prelude.{is_some}
use Rattle.std.proofs.lemmas.Bool.{ne_eqb, eq-eqb}
use Rattle.sock_card.specs.Conflict.{owner_key}
use Rattle.list_words.specs.Lists.{Pairs, total}
use Rattle.list_words.proofs.EachLemmas.{each_both, each_weaken, found_passes}
use Rattle.sock_card.specs.declared.owner.Owner.{Owner}
use Rattle.bind_buckets.specs.First.{drop_first}
use Rattle.bind_buckets.specs.Journal.{Standing}
use Rattle.bind_buckets.specs.OwnerStep.{has_name as is_owner_named}
use Rattle.flat_list.specs.declared.socket.Socket.{Socket}
use Rattle.flat_list.specs.Flat.{Flat}
use Rattle.flat_list.specs.Sockets.{is_owner, has_name}
use Rattle.flat_list.specs.Sound.{NamesDiffer}
use Rattle.bind_buckets.specs.BindHash.{standing_at, untouched}
use Rattle.table_model.specs.Means.{OwnersMean, owns, weigh_owners}
use Rattle.table_model.proofs.lists.Passing.{each_zero, total_zero, ind, found_weighs, passes_by}
use Rattle.table_model.proofs.lists.Weights.{total_only, part_none}
use Rattle.table_model.proofs.lists.Listed.{Listed, listed_name, without_weighs, others_weigh_none}
use Rattle.table_model.proofs.lists.First.{drop_weighs}
use Rattle.table_model.proofs.lists.SameOwners.{same_owner}
use Rattle.table_model.proofs.parts.Buckets.{weigh_in, near, homes}

-- the weight of an owner of that name
abbrev pub if_named : ℕ → (Owner → ℕ) → Owner → ℕ
if_named name f a = cond (a.name == name) (f a) 0

one_zero : (b : Bool) (u : ℕ) → cond {A = ℕ} b 1 0 ≡ 0 → cond {A = ℕ} b u 0 ≡ 0
one_zero true u h = absurd (omega (arith, h))
one_zero false u h = refl

none_named : (name : ℕ) (f : Owner → ℕ) (xs : List Owner) → total (ind (is_owner_named name)) xs ≡ 0 → total (if_named name f) xs ≡ 0
none_named name f [] h = refl
none_named name f (x ∷ xs) h = omega (arith, one_zero (x.name == name) (f x) (omega (arith, h)), none_named name f xs (omega (arith, h)))

-- of owners of which one has the name, those of the name weigh as the first of it
one_named : (name : ℕ) (f : Owner → ℕ) (a : Owner) (xs : List Owner) → find (is_owner_named name) xs ≡ Some a → total (ind (is_owner_named name)) xs ≡ 1
    → total (if_named name f) xs ≡ f a
one_named name f a xs at one =
    let is : (a.name == name) ≡ true = found_passes (is_owner_named name) xs a at in
    let rest : total (ind (is_owner_named name)) (drop_first (is_owner_named name) xs) ≡ 0 =
    omega (arith, drop_weighs (is_owner_named name) (ind (is_owner_named name)) a xs at, ap (λ (b : Bool). cond {A = ℕ} b 1 0) is, one) in
    omega (
      arith,
      drop_weighs (is_owner_named name) (if_named name f) a xs at,
      none_named name f (drop_first (is_owner_named name) xs) rest,
      ap (λ (b : Bool). cond {A = ℕ} b (f a) 0) is,
    )

-- an owner of another name weighs nothing
pub not_named : (name : ℕ) (f : Owner → ℕ) (b : Bool) (x : Socket) → has_name name x ≡ false → cond {A = ℕ} b (if_named name f x.owner) 0 ≡ 0
not_named name f true x e = ap (λ (c : Bool). cond {A = ℕ} c (f x.owner) 0) e
not_named name f false x e = refl

found_one : (name : ℕ) (xs : List Owner) (b : Owner) (o : Option Owner) → find (is_owner_named name) xs ≡ o → is_some o ≡ true
    → ((f : Owner → ℕ) → total (if_named name f) xs ≡ f b) → find (is_owner_named name) xs ≡ Some b
found_one name xs b None e is weighs = absurd (cc)
found_one name xs b (Some a) e is weighs =
    let one : total (ind (is_owner_named name)) xs ≡ 1 = weighs (λ (x : Owner). 1) in
    e ∙ ap (λ (x : Owner). Some x) (same_owner a b (λ f. sym (one_named name f a xs e one) ∙ weighs f))

module _ (buckets : List Standing) (flat : Flat) (om : OwnersMean buckets flat) (some : 1 ≤ flat.header.shape.bind) (names : Pairs NamesDiffer flat.sockets)
    (name : ℕ) (s : Socket) (at : Listed name flat.sockets s) (owner : is_owner s.owner.state ≡ true) where
  abbrev number : ℕ
  number = (owner_key s.owner) % length buckets

  by_name : (f : Owner → ℕ) → weigh_owners (if_named name f) buckets ≡ f s.owner
  by_name f = omega (
    arith,
    om.owners (if_named name f),
    without_weighs name (owns (if_named name f)) s flat.sockets names at,
    others_weigh_none name (owns (if_named name f)) flat.sockets (λ x e. not_named name f (is_owner x.owner.state) x e),
    ap (λ (b : Bool). cond {A = ℕ} b (if_named name f s.owner) 0) owner,
    ap (λ (b : Bool). cond {A = ℕ} b (f s.owner) 0) (eq-eqb s.owner.name name (listed_name name flat.sockets s at)),
  )

  abbrev far : Owner → ℕ
  far x = cond ((owner_key x) % length buckets == number) 0 1

  elsewhere : (f : Owner → ℕ) (j : ℕ) → j ≢ number → weigh_in (if_named name f) (get_or buckets j untouched) ≡ 0
  elsewhere f j d =
      let none : weigh_owners (if_named name far) buckets ≡ 0 = by_name far ∙ ap (λ (c : Bool). cond {A = ℕ} c 0 1) (eq-eqb number number refl) in
      let owners : List Owner = (get_or buckets j untouched).held.owners in
      total_zero (if_named name f) owners
      (each_weaken (λ (x : Owner). ((owner_key x) % length buckets ≡ j) × (if_named name far x ≡ 0)) (λ (x : Owner). if_named name f x ≡ 0) owners
      (λ x h. one_zero (x.name == name) (f x) (sym (ap (λ (c : Bool). cond {A = ℕ} (x.name == name) (cond {A = ℕ} c 0 1) 0) (ne_eqb ((owner_key x) % length buckets) number (λ e. d (sym h.0 ∙ e)))) ∙ h.1))
      (each_both (λ (x : Owner). (owner_key x) % length buckets ≡ j) (λ (x : Owner). if_named name far x ≡ 0) owners (homes buckets flat om some j)
      (each_zero (if_named name far) owners (part_none (weigh_in (if_named name far)) buckets j untouched refl none))))

  here : (f : Owner → ℕ) → weigh_in (if_named name f) (standing_at buckets (owner_key s.owner)) ≡ f s.owner
  here f = sym (total_only (weigh_in (if_named name f)) buckets number untouched (near buckets flat om some (owner_key s.owner)) (elsewhere f)) ∙ by_name f

  -- it is the first of its name there
  pub stands : find (is_owner_named name) (standing_at buckets (owner_key s.owner)).held.owners ≡ Some s.owner
  stands =
      let owners : List Owner = (standing_at buckets (owner_key s.owner)).held.owners in
      let one : total (ind (is_owner_named name)) owners ≡ 1 = here (λ (x : Owner). 1) in
      found_one name owners s.owner (find (is_owner_named name) owners) refl
      (passes_by (is_some (find (is_owner_named name) owners)) (total (ind (is_owner_named name)) owners) (found_weighs (is_owner_named name) owners) (omega (arith, one)))
      here
