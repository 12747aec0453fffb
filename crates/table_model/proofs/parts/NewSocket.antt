-- What a section knows of itself, as a socket of its own comes.
use Rattle.std.proofs.Common.{◌≡◌, ◌≢◌, ℕ, ◌/◌, ◌^◌, ◌==◌, Bool, true, false, ◌&&◌, ◌||◌, cond, List, [], ◌∷◌, ◌++◌, map, filter, refl, ap, sym, ◌∙◌, subst, arith}
use Rattle.std.specs.List.{list_any}
use Rattle.std.proofs.lemmas.Bool.{ne_eqb}
use Rattle.list_words.specs.Lists.{Each, Pairs, total}
use Rattle.list_words.proofs.EachLemmas.{each_weaken, each_push, each_map, each_filter, each_unmap}
use Rattle.list_words.proofs.TotalLemmas.{total-append}
use Rattle.list_words.proofs.MapLemmas.{map_push}
use Rattle.sock_card.specs.declared.owner.Owner.{Owner}
use Rattle.sock_card.specs.Conflict.{is_time_wait}
use Rattle.flat_list.specs.declared.socket.Socket.{Socket}
use Rattle.flat_list.specs.Flat.{Flat}
use Rattle.flat_list.specs.Sections.{name_at}
use Rattle.flat_list.specs.Sockets.{has_name, kind_of, is_open_in}
use Rattle.flat_list.specs.Sound.{NamesDiffer}
use Rattle.table_model.specs.Tables.{Tables}
use Rattle.table_model.specs.Own.{Own, Mine, with_new}
use Rattle.table_model.specs.Means.{OwnMeans, StandsAs, IsNameOf, owner_of, owner_in, name_in, weighs_if_there, weighs_as_wait}
use Rattle.table_model.proofs.lists.Passing.{total_each}
use Rattle.table_model.proofs.questions.Asked.{with_sockets}

last_of : {A : Type 0} (P : A → Type 0) (xs : List A) (y : A) → Each P (xs ++ y ∷ []) → P y
last_of P [] y h = h.0
last_of P (x ∷ xs) y h = last_of P xs y h.1

-- of pairs, each of the first items and the last
pub pairs_last : {A : Type 0} (R : A → A → Type 0) (xs : List A) (y : A) → Pairs R (xs ++ y ∷ []) → Each (λ x. R x y) xs
pairs_last R [] y h = tt
pairs_last R (x ∷ xs) y h = (last_of (R x) xs y h.0, pairs_last R xs y h.1)

module _ (R : ℕ → ℕ → Type 0) (x : ℕ) where
  each_insert : (y : ℕ) (xs ys : List ℕ) → R y x → Each (R y) (xs ++ ys) → Each (R y) ((xs ++ x ∷ []) ++ ys)
  each_insert y [] ys r h = (r, h)
  each_insert y (z ∷ xs) ys r h = (h.0, each_insert y xs ys r h.1)

  -- one item comes between
  pub pairs_insert : (xs ys : List ℕ) → Pairs R (xs ++ ys) → Each (λ a. R a x) xs → Each (R x) ys → Pairs R ((xs ++ x ∷ []) ++ ys)
  pairs_insert [] ys h p q = (q, h)
  pairs_insert (y ∷ xs) ys h p q = (each_insert y xs ys p.0 h.0, pairs_insert xs ys h.1 p.1 q)

module _ {A : Type 0} (q : A → Bool) (x : A) (is : q x ≡ true) where
  kept_more : (y : A) (zs : List A) (b : Bool) → cond b (y ∷ (zs ++ x ∷ [])) (zs ++ x ∷ []) ≡ cond b (y ∷ zs) zs ++ x ∷ []
  kept_more y zs true = refl
  kept_more y zs false = refl

  -- one more is kept
  pub filter_push : (xs : List A) → filter q (xs ++ x ∷ []) ≡ filter q xs ++ x ∷ []
  filter_push [] = ap (λ (b : Bool). cond b (x ∷ []) []) is
  filter_push (y ∷ xs) = ap (λ l. cond (q y) (y ∷ l) l) (filter_push xs) ∙ kept_more y (filter q xs) (q y)

any_push : (name : ℕ) (s : Socket) (xs : List Socket) → has_name name s ≡ false → list_any (has_name name) (xs ++ s ∷ []) ≡ list_any (has_name name) xs
any_push name s [] e = rw e refl
any_push name s (x ∷ xs) e = ap (λ (b : Bool). has_name name x || b) (any_push name s xs e)

-- the names of a section's own open sockets are the list's
pub own_names_are : (P : ℕ → Type 0) (n : ℕ) (own : Own) (t : Tables) (flat : Flat) → OwnMeans n own t flat → Each (λ (x : Socket). P x.owner.name) flat.sockets → Each P (map name_in own.sockets)
own_names_are P n own t flat h each =
    each_map P name_in own.sockets
    (each_unmap (λ (o : Owner). P o.name) owner_in own.sockets
    (subst (Each (λ (o : Owner). P o.name)) (sym h.sockets)
    (each_map (λ (o : Owner). P o.name) owner_of (filter (is_open_in n) flat.sockets) (each_filter (λ (x : Socket). P x.owner.name) (is_open_in n) flat.sockets each))))

-- a name that was given before differs from the next
pub given_before : (n labels name : ℕ) → IsNameOf n labels name → name ≢ name_at n labels
given_before n labels name h = λ e. absurd (omega (arith, h.section, h.first, h.last, e))

-- a socket of the section's own comes, which isn't in TIME_WAIT
pub own_new : (n : ℕ) (own : Own) (t t' : Tables) (flat : Flat) (s : Socket) (m : Mine) → OwnMeans n own t flat → m.owner ≡ s.owner → is_open_in n s ≡ true → is_time_wait s.owner.state ≡ false
    → Each (λ (x : Socket). NamesDiffer x s) flat.sockets → Each (λ (w : Mine). w.owner.name ≢ s.owner.name) own.waits
    → StandsAs t'.chains m (kind_of m.owner.state) → Each (λ (x : Mine). StandsAs t'.chains x (kind_of x.owner.state)) own.sockets
    → OwnMeans n (with_new own m) t' (with_sockets flat (flat.sockets ++ s ∷ []))
own_new n own t t' flat s m h same mine awake apart waits_apart stands others = record {
  number = h.number;
  unmarked = h.unmarked;
  section = h.section;
  range = h.range;
  offset = h.offset;
  sockets =
      map_push owner_in own.sockets m
      ∙ (ap (λ (l : List Owner). l ++ m.owner ∷ []) h.sockets
      ∙ (ap (λ (o : Owner). map owner_of (filter (is_open_in n) flat.sockets) ++ o ∷ []) same
      ∙ (sym (map_push owner_of (filter (is_open_in n) flat.sockets) s) ∙ ap (map owner_of) (sym (filter_push (is_open_in n) s mine flat.sockets)))));
  stand = each_push (λ (x : Mine). StandsAs t'.chains x (kind_of x.owner.state)) own.sockets m others stands;
  waits = λ f.
      let there : total (weighs_if_there f (flat.sockets ++ s ∷ [])) own.waits ≡ total (weighs_if_there f flat.sockets) own.waits =
      total_each (weighs_if_there f (flat.sockets ++ s ∷ [])) (weighs_if_there f flat.sockets) own.waits
      (each_weaken (λ (w : Mine). w.owner.name ≢ s.owner.name) (λ (w : Mine). weighs_if_there f (flat.sockets ++ s ∷ []) w ≡ weighs_if_there f flat.sockets w) own.waits
      (λ w d. ap (λ (b : Bool). cond {A = ℕ} b (f w.owner w.extra) 0) (any_push w.owner.name s flat.sockets (ne_eqb s.owner.name w.owner.name (λ q. d (sym q))))) waits_apart) in
      omega (
        arith,
        there,
        h.waits f,
        total-append (weighs_as_wait f n) flat.sockets (s ∷ []),
        ap (λ (b : Bool). cond {A = ℕ} (b && (s.owner.name / 2 ^ 56 == n)) (f s.owner s.stamp) 0) awake,
      );
  names =
      subst (λ (l : List ℕ). Pairs (λ (a b : ℕ). a ≢ b) (l ++ map name_in own.waits)) (sym (map_push name_in own.sockets m))
      (pairs_insert (λ (a b : ℕ). a ≢ b) m.owner.name (map name_in own.sockets) (map name_in own.waits) h.names
      (subst (λ (o : Owner). Each (λ (a : ℕ). a ≢ o.name) (map name_in own.sockets)) (sym same) (own_names_are (λ (a : ℕ). a ≢ s.owner.name) n own t flat h apart))
      (subst (λ (o : Owner). Each (λ (b : ℕ). o.name ≢ b) (map name_in own.waits)) (sym same)
      (each_map (λ (b : ℕ). s.owner.name ≢ b) name_in own.waits (each_weaken (λ (w : Mine). w.owner.name ≢ s.owner.name) (λ (w : Mine). s.owner.name ≢ w.owner.name) own.waits (λ w d q. d (sym q)) waits_apart))));
  given = h.given;
}
