-- What a section knows of itself, as one of its sockets changes in the list.
use Rattle.std.proofs.Common.{◌≡◌, ◌≢◌, ℕ, ◌/◌, ◌^◌, ◌==◌, Bool, true, false, ◌&&◌, ◌||◌, cond, List, [], ◌∷◌, ◌++◌, map, filter, ◌⊎◌, inl, inr, refl, ap, sym, ◌∙◌, subst, arith}
use Rattle.std.proofs.lemmas.Bool.{cases_Bool, eqb-true}
use Rattle.std.specs.List.{list_any}
use Rattle.list_words.specs.Lists.{Each, Pairs, total}
use Rattle.list_words.proofs.EachLemmas.{each_weaken, some_same}
use Rattle.sock_card.specs.declared.owner.Owner.{Owner}
use Rattle.sock_card.specs.Conflict.{is_time_wait}
use Rattle.flat_list.specs.declared.socket.Socket.{Socket}
use Rattle.flat_list.specs.Flat.{Flat}
use Rattle.flat_list.specs.Sockets.{has_name, put, replaced, kind_of, is_open_in}
use Rattle.flat_list.specs.Sound.{NamesDiffer}
use Rattle.table_model.specs.Tables.{Tables}
use Rattle.table_model.specs.Own.{Own, Mine, with_socket, is_named, replaced as replaced_mine}
use Rattle.table_model.specs.Means.{OwnMeans, StandsAs, owner_of, owner_in, name_in, weighs_if_there, weighs_as_wait}
use Rattle.table_model.proofs.lists.Passing.{total_same}
use Rattle.table_model.proofs.lists.Listed.{Listed, each_other, put_weighs, replaced_name}
use Rattle.table_model.proofs.questions.Asked.{with_sockets}

only_at : (name : ℕ) (x s : Socket) (xs : List Socket) → (has_name name x ≡ true) ⊎ (has_name name x ≡ false) → Each (NamesDiffer x) xs
    → (Listed name xs s → Each (λ (y : Socket). has_name name y ≡ true → y ≡ s) xs) → Listed name (x ∷ xs) s → Each (λ (y : Socket). has_name name y ≡ true → y ≡ s) (x ∷ xs)
only_at name x s xs (inl e) names later h = (
  λ q. some_same x s (rw e at h),
  each_weaken (λ (y : Socket). has_name name y ≡ false) (λ (y : Socket). has_name name y ≡ true → y ≡ s) xs (λ y n q. absurd (cc)) (each_other name x xs e names),
)
only_at name x s xs (inr e) names later h = (λ q. absurd (cc), later (rw e at h))

-- only the socket of a name has it
pub only_listed : (name : ℕ) (xs : List Socket) (s : Socket) → Pairs NamesDiffer xs → Listed name xs s → Each (λ (y : Socket). has_name name y ≡ true → y ≡ s) xs
only_listed name [] s names h = tt
only_listed name (x ∷ xs) s names h = only_at name x s xs (cases_Bool (has_name name x)) names.0 (only_listed name xs s names.1) h

-- the same names stand in the list
pub any_put : (new : Socket) (name : ℕ) (xs : List Socket) → list_any (has_name name) (put new xs) ≡ list_any (has_name name) xs
any_put new name [] = refl
any_put new name (x ∷ xs) =
    ap (λ (k : ℕ). (k == name) || list_any (has_name name) (put new xs)) (replaced_name new (has_name new.owner.name x) x refl)
    ∙ ap (λ (b : Bool). (x.owner.name == name) || b) (any_put new name xs)

module _ (new : Socket) where
  -- an owner, renewed where it has the name
  abbrev pub renewed : Owner → Owner
  renewed o = cond (o.name == new.owner.name) new.owner o

  kept_by : (n : ℕ) (s x : Socket) (b : Bool) → has_name new.owner.name x ≡ b → is_open_in n new ≡ is_open_in n s → (has_name new.owner.name x ≡ true → x ≡ s) → is_open_in n (cond b new x) ≡ is_open_in n x
  kept_by n s x true q same only = same ∙ ap (is_open_in n) (sym (only q))
  kept_by n s x false q same only = refl

  owner_by : (x : Socket) (b : Bool) → owner_of (cond b new x) ≡ cond b new.owner x.owner
  owner_by x true = refl
  owner_by x false = refl

  filtered : (x : Socket) (ys zs : List Socket) (b c : Bool) → c ≡ b → map owner_of ys ≡ map renewed (map owner_of zs)
      → map owner_of (cond c (replaced new x ∷ ys) ys) ≡ map renewed (map owner_of (cond b (x ∷ zs) zs))
  filtered x ys zs true true e h = ap (λ (o : Owner). o ∷ map owner_of ys) (owner_by x (has_name new.owner.name x)) ∙ ap (λ (l : List Owner). renewed x.owner ∷ l) h
  filtered x ys zs false false e h = h
  filtered x ys zs true false e h = absurd (cc)
  filtered x ys zs false true e h = absurd (cc)

  -- the section's open sockets in the list, renewed
  pub mine_put : (n : ℕ) (s : Socket) (xs : List Socket) → is_open_in n new ≡ is_open_in n s → Each (λ (y : Socket). has_name new.owner.name y ≡ true → y ≡ s) xs
      → map owner_of (filter (is_open_in n) (put new xs)) ≡ map renewed (map owner_of (filter (is_open_in n) xs))
  mine_put n s [] same o = refl
  mine_put n s (x ∷ xs) same o =
      filtered x (filter (is_open_in n) (put new xs)) (filter (is_open_in n) xs) (is_open_in n x) (is_open_in n (replaced new x)) (kept_by n s x (has_name new.owner.name x) refl same o.0) (mine_put n s xs same o.1)

  own_by : (m x : Mine) (b : Bool) → m.owner ≡ new.owner → owner_in (cond b m x) ≡ cond b new.owner x.owner
  own_by m x true h = h
  own_by m x false h = refl

  -- and those that it knows
  pub own_renewed : (m : Mine) (ms : List Mine) → m.owner ≡ new.owner → map owner_in (map (replaced_mine m) ms) ≡ map renewed (map owner_in ms)
  own_renewed m [] h = refl
  own_renewed m (x ∷ ms) h =
      ap (λ (o : Owner). o ∷ map owner_in (map (replaced_mine m) ms)) (ap (λ (k : ℕ). owner_in (cond (x.owner.name == k) m x)) (ap (λ (o : Owner). o.name) h) ∙ own_by m x (x.owner.name == new.owner.name) h)
      ∙ ap (λ (l : List Owner). renewed x.owner ∷ l) (own_renewed m ms h)

mine_name : (m x : Mine) (b : Bool) → is_named m.owner.name x ≡ b → name_in (cond b m x) ≡ name_in x
mine_name m x true e = sym (eqb-true x.owner.name m.owner.name e)
mine_name m x false e = refl

-- the names stay
pub own_names : (m : Mine) (ms : List Mine) → map name_in (map (replaced_mine m) ms) ≡ map name_in ms
own_names m [] = refl
own_names m (x ∷ ms) = ap (λ (k : ℕ). k ∷ map name_in (map (replaced_mine m) ms)) (mine_name m x (is_named m.owner.name x) refl) ∙ ap (λ (l : List ℕ). x.owner.name ∷ l) (own_names m ms)

each_by : (P : Mine → Type 0) (m x : Mine) (b : Bool) → P m → P x → P (cond b m x)
each_by P m x true p q = p
each_by P m x false p q = q

-- what holds of the new one and of all others
pub each_renewed : (P : Mine → Type 0) (m : Mine) (ms : List Mine) → P m → Each P ms → Each P (map (replaced_mine m) ms)
each_renewed P m [] p h = tt
each_renewed P m (x ∷ ms) p h = (each_by P m x (is_named m.owner.name x) p h.0, each_renewed P m ms p h.1)

-- one socket of the section has changed, and neither was nor is in TIME_WAIT
pub own_put : (n : ℕ) (own : Own) (t t' : Tables) (flat : Flat) (new s : Socket) (m : Mine) → OwnMeans n own t flat → Pairs NamesDiffer flat.sockets
    → Listed new.owner.name flat.sockets s → is_open_in n new ≡ is_open_in n s → m.owner ≡ new.owner
    → is_time_wait s.owner.state ≡ false → is_time_wait new.owner.state ≡ false
    → StandsAs t'.chains m (kind_of m.owner.state) → Each (λ (x : Mine). StandsAs t'.chains x (kind_of x.owner.state)) own.sockets
    → OwnMeans n (with_socket own m) t' (with_sockets flat (put new flat.sockets))
own_put n own t t' flat new s m h names at mine same was is stands others = record {
  number = h.number;
  unmarked = h.unmarked;
  section = h.section;
  range = h.range;
  offset = h.offset;
  sockets =
      own_renewed new m own.sockets same
      ∙ (ap (map (renewed new)) h.sockets ∙ sym (mine_put new n s flat.sockets mine (only_listed new.owner.name flat.sockets s names at)));
  stand = each_renewed (λ (x : Mine). StandsAs t'.chains x (kind_of x.owner.state)) m own.sockets stands others;
  waits = λ f.
      let there : total (weighs_if_there f (put new flat.sockets)) own.waits ≡ total (weighs_if_there f flat.sockets) own.waits =
      total_same (weighs_if_there f (put new flat.sockets)) (weighs_if_there f flat.sockets) own.waits (λ w. ap (λ (b : Bool). cond {A = ℕ} b (f w.owner w.extra) 0) (any_put new w.owner.name flat.sockets)) in
      omega (
        arith,
        there,
        h.waits f,
        put_weighs new (weighs_as_wait f n) s flat.sockets names at,
        ap (λ (b : Bool). cond {A = ℕ} (b && (s.owner.name / 2 ^ 56 == n)) (f s.owner s.stamp) 0) was,
        ap (λ (b : Bool). cond {A = ℕ} (b && (new.owner.name / 2 ^ 56 == n)) (f new.owner new.stamp) 0) is,
      );
  names = subst (λ (l : List ℕ). Pairs (λ (a b : ℕ). a ≢ b) (l ++ map name_in own.waits)) (sym (own_names m own.sockets)) h.names;
  given = h.given;
}
