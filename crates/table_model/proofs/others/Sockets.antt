-- A command of one section leaves the sockets of another as they were, but for TIME_WAITs that are replaced.
use Rattle.std.proofs.Common.{◌≡◌, ◌≢◌, ℕ, ◌+◌, ◌/◌, ◌^◌, ◌==◌, Bool, true, false, ◌&&◌, ◌||◌, not, cond, List, [], ◌∷◌, ◌++◌, length, map, filter, find, Option, Some, None, refl, ap, sym, ◌∙◌, subst, arith}
use Rattle.std.specs.Prelude.{is_some}
use Rattle.std.specs.List.{list_any}
use Rattle.std.proofs.lemmas.Bool.{eq-eqb, eqb-true, ne_eqb, and_parts, not-false}
use Rattle.list_words.specs.Lists.{Each, total}
use Rattle.list_words.proofs.EachLemmas.{each_weaken, each_found, found_passes}
use Rattle.list_words.proofs.TotalLemmas.{total-append}
use Rattle.sock_card.specs.declared.owner.Owner.{Owner}
use Rattle.sock_card.specs.Conflict.{is_time_wait}
use Rattle.flat_list.specs.declared.socket.Socket.{Socket}
use Rattle.flat_list.specs.Flat.{Flat}
use Rattle.flat_list.specs.Sockets.{has_name, put, without, without_waiting, waits_at, have_one_tuple, is_open_in}
use Rattle.flat_list.specs.Sound.{IsSound, IsAwakeIfNamed}
use Rattle.table_model.specs.Tables.{Tables}
use Rattle.table_model.specs.Own.{Own, Mine}
use Rattle.table_model.specs.Means.{OwnMeans, IsNameOf, owner_of, owner_in, weighs_if_there, weighs_as_wait}
use Rattle.table_model.proofs.lists.Passing.{Only, only_found, total_each, found_weighs}
use Rattle.table_model.proofs.parts.Cards.{wait_once, only_named}
use Rattle.table_model.proofs.questions.Replaced.{same_tests, dropped_same, kept_all}
use Rattle.table_model.proofs.parts.OwnWaits.{wait_not_mine, own_wait_gone}
use Rattle.table_model.proofs.parts.GroupCards.{or_no}
use Rattle.table_model.proofs.parts.Own.{any_put}

-- the open sockets and the TIME_WAITs of a section's own are those of the list
pub record Rest (m : ℕ) (other : Own) (sockets : List Socket) : Type 0 where
  pub mine : map owner_in other.sockets ≡ map owner_of (filter (is_open_in m) sockets)
  pub waits : (f : Owner → ℕ → ℕ) → total (weighs_if_there f sockets) other.waits ≡ total (weighs_as_wait f m) sockets

-- what a section knows of itself says so
pub rest_of : (m : ℕ) (other : Own) (t : Tables) (flat : Flat) → OwnMeans m other t flat → Rest m other flat.sockets
rest_of m other t flat h = record { mine = h.sockets; waits = h.waits }

any_more : (p : Socket → Bool) (xs : List Socket) (x : Socket) → p x ≡ false → list_any p (xs ++ x ∷ []) ≡ list_any p xs
any_more p [] x e = or_no (p x) ∙ e
any_more p (y ∷ xs) x e = ap (λ b. p y || b) (any_more p xs x e)

kept_more : (q : Socket → Bool) (xs : List Socket) (x : Socket) → q x ≡ false → filter q (xs ++ x ∷ []) ≡ filter q xs
kept_more q [] x e = ap (λ b. cond b (x ∷ []) []) e
kept_more q (y ∷ xs) x e = ap (λ l. cond (q y) (y ∷ l) l) (kept_more q xs x e)

module _ (n m : ℕ) (apart : m ≢ n) where
  -- what has a name of section n is nothing of section m
  not_named : (s : Socket) → s.owner.name / 2 ^ 56 ≡ n → (s.owner.name / 2 ^ 56 == m) ≡ false
  not_named s is = ne_eqb (s.owner.name / 2 ^ 56) m (λ e. apart (sym e ∙ is))

  and_no : (a b : Bool) → b ≡ false → (a && b) ≡ false
  and_no true b e = e
  and_no false b e = refl

  not_mine : (s : Socket) → s.owner.name / 2 ^ 56 ≡ n → is_open_in m s ≡ false
  not_mine s is = and_no s.named (s.owner.name / 2 ^ 56 == m) (not_named s is)

  no_wait : (f : Owner → ℕ → ℕ) (s : Socket) → s.owner.name / 2 ^ 56 ≡ n → weighs_as_wait f m s ≡ 0
  no_wait f s is = ap (λ (b : Bool). cond {A = ℕ} b (f s.owner s.stamp) 0) (and_no (is_time_wait s.owner.state) (s.owner.name / 2 ^ 56 == m) (not_named s is))

  no_name : (name : ℕ) (s : Socket) → name / 2 ^ 56 ≡ m → s.owner.name / 2 ^ 56 ≡ n → has_name name s ≡ false
  no_name name s here there = ne_eqb s.owner.name name (λ e. apart (sym here ∙ (ap (λ k. k / 2 ^ 56) (sym e) ∙ there)))

  -- a socket of section n takes the place of the one of its name
  module _ (new : Socket) (is : new.owner.name / 2 ^ 56 ≡ n) where
    old_is : (x : Socket) → has_name new.owner.name x ≡ true → x.owner.name / 2 ^ 56 ≡ n
    old_is x e = ap (λ k. k / 2 ^ 56) (eqb-true x.owner.name new.owner.name e) ∙ is

    mine_at : (x : Socket) (ys zs : List Socket) (b : Bool) → has_name new.owner.name x ≡ b → filter (is_open_in m) ys ≡ filter (is_open_in m) zs
        → filter (is_open_in m) (cond b new x ∷ ys) ≡ filter (is_open_in m) (x ∷ zs)
    mine_at x ys zs true e h =
        ap (λ c. cond c (new ∷ filter (is_open_in m) ys) (filter (is_open_in m) ys)) (not_mine new is)
        ∙ (h ∙ sym (ap (λ c. cond c (x ∷ filter (is_open_in m) zs) (filter (is_open_in m) zs)) (not_mine x (old_is x e))))
    mine_at x ys zs false e h = ap (λ l. cond (is_open_in m x) (x ∷ l) l) h

    mine_put : (xs : List Socket) → filter (is_open_in m) (put new xs) ≡ filter (is_open_in m) xs
    mine_put [] = refl
    mine_put (x ∷ xs) = mine_at x (put new xs) xs (has_name new.owner.name x) refl (mine_put xs)

    wait_at : (f : Owner → ℕ → ℕ) (x : Socket) (b : Bool) → has_name new.owner.name x ≡ b → weighs_as_wait f m (cond b new x) ≡ weighs_as_wait f m x
    wait_at f x true e = no_wait f new is ∙ sym (no_wait f x (old_is x e))
    wait_at f x false e = refl

    wait_put : (f : Owner → ℕ → ℕ) (xs : List Socket) → total (weighs_as_wait f m) (put new xs) ≡ total (weighs_as_wait f m) xs
    wait_put f [] = refl
    wait_put f (x ∷ xs) = omega (arith, wait_at f x (has_name new.owner.name x) refl, wait_put f xs)

  -- those that aren't kept are of section n
  module _ (keep : Socket → Bool) (those : (x : Socket) → keep x ≡ false → x.owner.name / 2 ^ 56 ≡ n) where
    mine_kept : (x : Socket) (ys zs : List Socket) (b : Bool) → keep x ≡ b → filter (is_open_in m) ys ≡ filter (is_open_in m) zs
        → filter (is_open_in m) (cond b (x ∷ ys) ys) ≡ filter (is_open_in m) (x ∷ zs)
    mine_kept x ys zs true e h = ap (λ l. cond (is_open_in m x) (x ∷ l) l) h
    mine_kept x ys zs false e h = h ∙ sym (ap (λ c. cond c (x ∷ filter (is_open_in m) zs) (filter (is_open_in m) zs)) (not_mine x (those x e)))

    mine_filter : (xs : List Socket) → filter (is_open_in m) (filter keep xs) ≡ filter (is_open_in m) xs
    mine_filter [] = refl
    mine_filter (x ∷ xs) = mine_kept x (filter keep xs) xs (keep x) refl (mine_filter xs)

    wait_kept : (f : Owner → ℕ → ℕ) (x : Socket) (ys zs : List Socket) (b : Bool) → keep x ≡ b → total (weighs_as_wait f m) ys ≡ total (weighs_as_wait f m) zs
        → total (weighs_as_wait f m) (cond b (x ∷ ys) ys) ≡ weighs_as_wait f m x + total (weighs_as_wait f m) zs
    wait_kept f x ys zs true e h = omega (arith, h)
    wait_kept f x ys zs false e h = omega (arith, h, no_wait f x (those x e))

    wait_filter : (f : Owner → ℕ → ℕ) (xs : List Socket) → total (weighs_as_wait f m) (filter keep xs) ≡ total (weighs_as_wait f m) xs
    wait_filter f [] = refl
    wait_filter f (x ∷ xs) = wait_kept f x (filter keep xs) xs (keep x) refl (wait_filter f xs)

    any_kept : (name : ℕ) (x : Socket) (ys zs : List Socket) (b : Bool) → name / 2 ^ 56 ≡ m → keep x ≡ b → list_any (has_name name) ys ≡ list_any (has_name name) zs
        → list_any (has_name name) (cond b (x ∷ ys) ys) ≡ (has_name name x || list_any (has_name name) zs)
    any_kept name x ys zs true here e h = ap (λ b. has_name name x || b) h
    any_kept name x ys zs false here e h = h ∙ sym (ap (λ b. b || list_any (has_name name) zs) (no_name name x here (those x e)))

    any_filter : (name : ℕ) (xs : List Socket) → name / 2 ^ 56 ≡ m → list_any (has_name name) (filter keep xs) ≡ list_any (has_name name) xs
    any_filter name [] here = refl
    any_filter name (x ∷ xs) here = any_kept name x (filter keep xs) xs (keep x) here refl (any_filter name xs here)

  module _ (other : Own) (given : Each (λ (w : Mine). IsNameOf m (length other.labels) w.owner.name) other.waits) where
    abbrev R : List Socket → Type 0
    R sockets = Rest m other sockets

    still_there : (f : Owner → ℕ → ℕ) (xs ys : List Socket) → ((name : ℕ) → name / 2 ^ 56 ≡ m → list_any (has_name name) ys ≡ list_any (has_name name) xs)
        → total (weighs_if_there f ys) other.waits ≡ total (weighs_if_there f xs) other.waits
    still_there f xs ys same =
        total_each (weighs_if_there f ys) (weighs_if_there f xs) other.waits
        (each_weaken (λ (w : Mine). IsNameOf m (length other.labels) w.owner.name) (λ (w : Mine). weighs_if_there f ys w ≡ weighs_if_there f xs w) other.waits
        (λ w g. ap (λ (b : Bool). cond {A = ℕ} b (f w.owner w.extra) 0) (same w.owner.name g.section)) given)

    alike : (xs ys : List Socket) → filter (is_open_in m) ys ≡ filter (is_open_in m) xs → ((f : Owner → ℕ → ℕ) → total (weighs_as_wait f m) ys ≡ total (weighs_as_wait f m) xs)
        → ((name : ℕ) → name / 2 ^ 56 ≡ m → list_any (has_name name) ys ≡ list_any (has_name name) xs) → R xs → R ys
    alike xs ys mine waits same h = record {
      mine = h.mine ∙ sym (ap (map owner_of) mine);
      waits = λ f. still_there f xs ys same ∙ (h.waits f ∙ sym (waits f));
    }

    pub rest_put : (new : Socket) (xs : List Socket) → new.owner.name / 2 ^ 56 ≡ n → R xs → R (put new xs)
    rest_put new xs is h = alike xs (put new xs) (mine_put new is xs) (λ f. wait_put new is f xs) (λ name here. any_put new name xs) h

    pub rest_filter : (keep : Socket → Bool) (xs : List Socket) → ((x : Socket) → keep x ≡ false → x.owner.name / 2 ^ 56 ≡ n) → R xs → R (filter keep xs)
    rest_filter keep xs those h = alike xs (filter keep xs) (mine_filter keep those xs) (λ f. wait_filter keep those f xs) (λ name here. any_filter keep those name xs here) h

    pub rest_added : (new : Socket) (xs : List Socket) → new.owner.name / 2 ^ 56 ≡ n → R xs → R (xs ++ new ∷ [])
    rest_added new xs is h =
        alike xs (xs ++ new ∷ []) (kept_more (is_open_in m) xs new (not_mine new is))
        (λ f. let none : weighs_as_wait f m new ≡ 0 = no_wait f new is in omega (arith, total-append (weighs_as_wait f m) xs (new ∷ []), none))
        (λ name here. any_more (has_name name) xs new (no_name name new here is)) h

    pub rest_without : (s : Socket) (xs : List Socket) → s.owner.name / 2 ^ 56 ≡ n → R xs → R (without s.owner.name xs)
    rest_without s xs is h =
        rest_filter (λ x. not (has_name s.owner.name x)) xs (λ x e. ap (λ k. k / 2 ^ 56) (eqb-true x.owner.name s.owner.name (not-false (has_name s.owner.name x) e)) ∙ is) h

    module _ (t : Tables) (flat : Flat) (own_is : OwnMeans m other t flat) (sound : IsSound flat) where
      -- but for the TIME_WAITs of a four-tuple, where there is one
      pub waits_gone : (a : Owner) (o : Option Socket) → find (waits_at a) flat.sockets ≡ o → R (without_waiting a flat.sockets)
      waits_gone a None e =
          subst R (sym (kept_all (waits_at a) flat.sockets ((found_weighs (waits_at a) flat.sockets).1 (ap is_some e)))) (rest_of m other t flat own_is)
      waits_gone a (Some s) e =
          let passes : waits_at a s ≡ true = found_passes (waits_at a) flat.sockets s e in
          let there : is_time_wait s.owner.state ≡ true = (and_parts (is_time_wait s.owner.state) (have_one_tuple a s.owner) passes).0 in
          let one : Only (waits_at a) s flat.sockets = only_found (waits_at a) (waits_at a) flat.sockets s e passes (wait_once a flat.sockets sound.tuples) in
          let named : Only (has_name s.owner.name) s flat.sockets = only_named (waits_at a) flat.sockets s s.owner.name e refl sound.names in
          let dropped : without_waiting a flat.sockets ≡ without s.owner.name flat.sockets =
          dropped_same (waits_at a) (has_name s.owner.name) flat.sockets (same_tests (waits_at a) (has_name s.owner.name) s flat.sockets one named passes (eq-eqb s.owner.name s.owner.name refl)) in
          let awake : IsAwakeIfNamed s = each_found IsAwakeIfNamed (waits_at a) flat.sockets s sound.awake e in
          subst R (sym dropped)
          (rest_of m other t (record flat { sockets = without s.owner.name flat.sockets })
          (own_wait_gone m other t t flat own_is s.owner.name s named (wait_not_mine m s awake there) own_is.stand))
