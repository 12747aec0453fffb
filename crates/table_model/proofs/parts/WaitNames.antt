-- The TIME_WAITs that a section left have other names than its open sockets.
use Rattle.std.proofs.Common.{◌≡◌, ◌≢◌, ℕ, ◌==◌, Bool, true, false, ◌||◌, cond, List, [], ◌∷◌, ◌++◌, map, filter, find, Some, ◌⊎◌, inl, inr, refl, ap, ◌∙◌, subst}
use Rattle.std.proofs.lemmas.Bool.{cases_Bool, eqb-true, or_right}
use Rattle.std.specs.List.{list_any}
use Rattle.list_words.specs.Lists.{Each, Pairs}
use Rattle.list_words.proofs.EachLemmas.{some_same, each_back}
use Rattle.bind_buckets.specs.OwnerStep.{has_name as is_owner_named}
use Rattle.flat_list.specs.declared.socket.Socket.{Socket}
use Rattle.flat_list.specs.Flat.{Flat}
use Rattle.flat_list.specs.Sockets.{has_name, is_open_in}
use Rattle.table_model.specs.Tables.{Tables}
use Rattle.table_model.specs.Own.{Own, Mine}
use Rattle.table_model.specs.Means.{OwnMeans, owner_of, owner_in, name_in}
use Rattle.table_model.proofs.lists.Listed.{Listed}

behind_at : (name : ℕ) (x : Mine) (ms : List Mine) (ys : List ℕ) (b : Bool) → (x.owner.name == name) ≡ b → Each (λ k. x.owner.name ≢ k) (map name_in ms ++ ys)
    → (list_any (is_owner_named name) (map owner_in ms) ≡ true → Each (λ k. name ≢ k) ys) → (b || list_any (is_owner_named name) (map owner_in ms)) ≡ true → Each (λ k. name ≢ k) ys
behind_at name x ms ys true e apart later h =
    subst (λ (j : ℕ). Each (λ k. j ≢ k) ys) (eqb-true x.owner.name name e) (each_back (λ k. x.owner.name ≢ k) (map name_in ms) ys apart)
behind_at name x ms ys false e apart later h = later h

-- a name in front differs from all behind
pub behind : (name : ℕ) (ms : List Mine) (ys : List ℕ) → Pairs (λ (a b : ℕ). a ≢ b) (map name_in ms ++ ys) → list_any (is_owner_named name) (map owner_in ms) ≡ true → Each (λ k. name ≢ k) ys
behind name [] ys h any = absurd (cc)
behind name (x ∷ ms) ys h any = behind_at name x ms ys (x.owner.name == name) refl h.0 (behind name ms ys h.1) any

any_more : (name : ℕ) (x : Socket) (ys : List Socket) (b : Bool) → list_any (is_owner_named name) (map owner_of ys) ≡ true → list_any (is_owner_named name) (map owner_of (cond b (x ∷ ys) ys)) ≡ true
any_more name x ys true h = or_right (x.owner.name == name) (list_any (is_owner_named name) (map owner_of ys)) h
any_more name x ys false h = h

any_at : (n name : ℕ) (x s : Socket) (xs : List Socket) → (has_name name x ≡ true) ⊎ (has_name name x ≡ false) → is_open_in n s ≡ true
    → (Listed name xs s → list_any (is_owner_named name) (map owner_of (filter (is_open_in n) xs)) ≡ true)
    → Listed name (x ∷ xs) s → list_any (is_owner_named name) (map owner_of (filter (is_open_in n) (x ∷ xs))) ≡ true
any_at n name x s xs (inl e) mine later h =
    let is : x ≡ s = some_same x s (rw e at h) in
    let kept : is_open_in n x ≡ true = ap (is_open_in n) is ∙ mine in
    ap (λ (b : Bool). list_any (is_owner_named name) (map owner_of (cond b (x ∷ filter (is_open_in n) xs) (filter (is_open_in n) xs)))) kept
    ∙ ap (λ (b : Bool). b || list_any (is_owner_named name) (map owner_of (filter (is_open_in n) xs))) e
any_at n name x s xs (inr e) mine later h = any_more name x (filter (is_open_in n) xs) (is_open_in n x) (later (rw e at h))

-- an open socket of the section is among its own
pub any_mine : (n name : ℕ) (s : Socket) (xs : List Socket) → is_open_in n s ≡ true → Listed name xs s → list_any (is_owner_named name) (map owner_of (filter (is_open_in n) xs)) ≡ true
any_mine n name s [] mine h = absurd (cc)
any_mine n name s (x ∷ xs) mine h = any_at n name x s xs (cases_Bool (has_name name x)) mine (any_mine n name s xs mine) h

-- the TIME_WAITs that a section left have other names than its open sockets
pub waits_differ : (n : ℕ) (own : Own) (t : Tables) (flat : Flat) (name : ℕ) (s : Socket) → OwnMeans n own t flat → Listed name flat.sockets s → is_open_in n s ≡ true → Each (λ (k : ℕ). name ≢ k) (map name_in own.waits)
waits_differ n own t flat name s h at mine =
    behind name own.sockets (map name_in own.waits) h.names
    (ap (list_any (is_owner_named name)) h.sockets ∙ any_mine n name s flat.sockets mine at)

there_at : (name : ℕ) (x s : Socket) (xs : List Socket) (b : Bool) → has_name name x ≡ b → (Listed name xs s → list_any (has_name name) xs ≡ true) → cond b (Some x) (find (has_name name) xs) ≡ Some s
    → (b || list_any (has_name name) xs) ≡ true
there_at name x s xs true e later h = refl
there_at name x s xs false e later h = later h

-- the socket of a name is in the list
pub listed_there : (name : ℕ) (xs : List Socket) (s : Socket) → Listed name xs s → list_any (has_name name) xs ≡ true
listed_there name [] s h = absurd (cc)
listed_there name (x ∷ xs) s h = there_at name x s xs (has_name name x) refl (listed_there name xs s) h
