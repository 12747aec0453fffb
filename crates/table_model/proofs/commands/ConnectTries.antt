-- `connect` as one owner, from the port that it has or one that is tried: what comes of it.
use Rattle.std.proofs.Common.{◌≡◌, ◌≢◌, ℕ, Bool, true, false, not, cond, List, [], ◌∷◌, ◌++◌, filter, find, Option, Some, refl, ap, sym, ◌∙◌, subst, inl, inr, ◌⊎◌}
use Rattle.std.specs.Prelude.{is_some}
use Rattle.std.proofs.lemmas.Bool.{cases_Bool, eqb-true, ne_eqb, cond-true, cond-false}
use Rattle.list_words.proofs.EachLemmas.{some_same}
use Rattle.sock_card.specs.declared.card.Card.{Card}
use Rattle.chain_book.specs.declared.outcome.Hashed.{Hashed}
use Rattle.chain_book.specs.declared.outcome.Replace.{Replace}
use Rattle.chain_book.specs.Chains.{Outcome, put, taken, full, hashed, insert_outcome}
use Rattle.flat_list.specs.declared.socket.Socket.{Socket}
use Rattle.flat_list.specs.Flat.{Flat}
use Rattle.flat_list.specs.Outcome.{has_slot as has_room}
use Rattle.flat_list.specs.Sockets.{has_name, put as put_socket, without}
use Rattle.table_model.specs.Asking.{Asking, inserts}
use Rattle.table_model.specs.Tables.{Tables, Ended, with_chains}
use Rattle.table_model.specs.Means.{ChainsMean}
use Rattle.table_model.proofs.questions.Inserts.{keeper, insert_put, insert_taken, insert_full}
use Rattle.table_model.proofs.questions.Run.{Comes, comes_inserts}
use Rattle.table_model.proofs.lists.Listed.{Listed}

module _ (t : Tables) (flat : Flat) (m : ChainsMean t.chains flat) (card : Card) (moment : ℕ) (rule : Replace) (is_kept : Bool) {R : Type 0} (then_ : Outcome → Asking R) (P : Ended R → Type 0)
    (keeps_it : is_some (keeper t.chains flat m card moment rule) ≡ is_kept)
    (on_taken : (name : ℕ) → is_kept ≡ true → Comes t (then_ (taken name)) P)
    (on_full : is_kept ≡ false → has_room flat ≡ false → Comes t (then_ (full flat.header.shape.slots 0)) P)
    (on_put : (slot : ℕ) (old : Option Hashed) → is_kept ≡ false → has_room flat ≡ true → insert_outcome t.chains card moment rule ≡ put slot old → Comes (with_chains t (hashed t.chains card (put slot old))) (then_ (put slot old)) P) where
  inserted_by : (o : Outcome) → insert_outcome t.chains card moment rule ≡ o → Comes (with_chains t (hashed t.chains card o)) (then_ o) P
  inserted_by (put slot old) e =
      let h = insert_put t.chains flat m card moment rule slot old e in
      on_put slot old (sym keeps_it ∙ h.0) h.1 e
  inserted_by (taken name) e = on_taken name (sym keeps_it ∙ insert_taken t.chains flat m card moment rule name e)
  inserted_by (full owned held) e =
      let h = insert_full t.chains flat m card moment rule owned held e in
      subst (λ (i : ℕ). Comes t (then_ (full i held)) P) (sym h.2)
      (subst (λ (i : ℕ). Comes t (then_ (full flat.header.shape.slots i)) P) (sym h.3) (on_full (sym keeps_it ∙ h.0) h.1))

  -- what inserting comes to, by whether the four-tuple is kept and a slot is free
  pub comes_by_outcome : Comes t (inserts card moment rule then_) P
  comes_by_outcome = comes_inserts t card moment rule then_ (insert_outcome t.chains card moment rule) P refl (inserted_by (insert_outcome t.chains card moment rule) refl)

put_without_at : (new : Socket) (k : ℕ) (x : Socket) (ys zs : List Socket) (b c : Bool) → new.owner.name ≢ k → has_name new.owner.name x ≡ b → has_name k x ≡ c → ys ≡ zs
    → cond (not (has_name k (cond b new x))) (cond b new x ∷ ys) ys ≡ put_socket new (cond (not c) (x ∷ []) []) ++ zs
put_without_at new k x ys zs true true q e f same = absurd (q (sym (eqb-true x.owner.name new.owner.name e) ∙ eqb-true x.owner.name k f))
put_without_at new k x ys zs true false q e f same =
    ap (λ (b : Bool). cond (not b) (new ∷ ys) ys) (ne_eqb new.owner.name k q) ∙ (ap (λ l. new ∷ l) same ∙ ap (λ (b : Bool). cond b new x ∷ zs) (sym e))
put_without_at new k x ys zs false true q e f same = ap (λ (b : Bool). cond (not b) (x ∷ ys) ys) f ∙ same
put_without_at new k x ys zs false false q e f same =
    ap (λ (b : Bool). cond (not b) (x ∷ ys) ys) f ∙ (ap (λ l. x ∷ l) same ∙ ap (λ (b : Bool). cond b new x ∷ zs) (sym e))

put_front : (new : Socket) (b : Bool) (x : Socket) (ys : List Socket) → put_socket new (cond b (x ∷ []) []) ++ put_socket new ys ≡ put_socket new (cond b (x ∷ ys) ys)
put_front new true x ys = refl
put_front new false x ys = refl

-- one has changed and another is gone, in either order
pub put_without : (new : Socket) (k : ℕ) (xs : List Socket) → new.owner.name ≢ k → without k (put_socket new xs) ≡ put_socket new (without k xs)
put_without new k [] q = refl
put_without new k (x ∷ xs) q =
    put_without_at new k x (without k (put_socket new xs)) (put_socket new (without k xs)) (has_name new.owner.name x) (has_name k x) q refl refl (put_without new k xs q)
    ∙ put_front new (not (has_name k x)) x (without k xs)

no_name : (new : Socket) (k : ℕ) (x : Socket) (b : Bool) → new.owner.name ≢ k → has_name k x ≡ false → has_name k (cond b new x) ≡ false
no_name new k x true q e = ne_eqb new.owner.name k q
no_name new k x false q e = e

listed_by_case : (new s : Socket) (k : ℕ) (x : Socket) (xs : List Socket) → (has_name k x ≡ true) ⊎ (has_name k x ≡ false) → new.owner.name ≢ k → Listed k (x ∷ xs) s
    → (Listed k xs s → Listed k (put_socket new xs) s) → Listed k (put_socket new (x ∷ xs)) s
listed_by_case new s k x xs (inl e) q h later =
    let stays : has_name new.owner.name x ≡ false = ne_eqb x.owner.name new.owner.name (λ f. q (sym f ∙ eqb-true x.owner.name k e)) in
    let first : find (has_name k) (x ∷ put_socket new xs) ≡ Some s = cond-true (has_name k x) (Some x) (find (has_name k) (put_socket new xs)) e ∙ (sym (cond-true (has_name k x) (Some x) (find (has_name k) xs) e) ∙ h) in
    subst (λ (b : Bool). find (has_name k) (cond b new x ∷ put_socket new xs) ≡ Some s) (sym stays) first
listed_by_case new s k x xs (inr e) q h later =
    let there : Listed k (put_socket new xs) s = later (sym (cond-false (has_name k x) (Some x) (find (has_name k) xs) e) ∙ h) in
    let other : has_name k (cond (has_name new.owner.name x) new x) ≡ false = no_name new k x (has_name new.owner.name x) q e in
    cond-false (has_name k (cond (has_name new.owner.name x) new x)) (Some (cond (has_name new.owner.name x) new x)) (find (has_name k) (put_socket new xs)) other ∙ there

-- another than the one that changed is found as before
pub listed_put : (new s : Socket) (k : ℕ) (xs : List Socket) → new.owner.name ≢ k → Listed k xs s → Listed k (put_socket new xs) s
listed_put new s k [] q h = h
listed_put new s k (x ∷ xs) q h =
    listed_by_case new s k x xs (cases_Bool (has_name k x)) q h (λ later. listed_put new s k xs q later)

kept_by_case : (name : ℕ) (keep : Socket → Bool) (x : Socket) (xs : List Socket) (s : Socket) → (has_name name x ≡ true) ⊎ (has_name name x ≡ false) → (keep x ≡ true) ⊎ (keep x ≡ false) → keep s ≡ true → Listed name (x ∷ xs) s
    → (Listed name xs s → Listed name (filter keep xs) s) → Listed name (filter keep (x ∷ xs)) s
kept_by_case name keep x xs s (inl e) (inl k) ks h later =
    subst (λ (b : Bool). find (has_name name) (cond b (x ∷ filter keep xs) (filter keep xs)) ≡ Some s) (sym k)
    (cond-true (has_name name x) (Some x) (find (has_name name) (filter keep xs)) e ∙ (sym (cond-true (has_name name x) (Some x) (find (has_name name) xs) e) ∙ h))
kept_by_case name keep x xs s (inl e) (inr k) ks h later =
    let is : x ≡ s = some_same x s (sym (cond-true (has_name name x) (Some x) (find (has_name name) xs) e) ∙ h) in
    absurd (let no : keep s ≡ false = ap keep (sym is) ∙ k in cc)
kept_by_case name keep x xs s (inr e) (inl k) ks h later =
    subst (λ (b : Bool). find (has_name name) (cond b (x ∷ filter keep xs) (filter keep xs)) ≡ Some s) (sym k)
    (cond-false (has_name name x) (Some x) (find (has_name name) (filter keep xs)) e ∙ later (sym (cond-false (has_name name x) (Some x) (find (has_name name) xs) e) ∙ h))
kept_by_case name keep x xs s (inr e) (inr k) ks h later =
    subst (λ (b : Bool). find (has_name name) (cond b (x ∷ filter keep xs) (filter keep xs)) ≡ Some s) (sym k) (later (sym (cond-false (has_name name x) (Some x) (find (has_name name) xs) e) ∙ h))

-- a socket that is kept is found among those that are
pub listed_kept : (name : ℕ) (keep : Socket → Bool) (xs : List Socket) (s : Socket) → Listed name xs s → keep s ≡ true → Listed name (filter keep xs) s
listed_kept name keep [] s h k = h
listed_kept name keep (x ∷ xs) s h k =
    kept_by_case name keep x xs s (cases_Bool (has_name name x)) (cases_Bool (keep x)) k h (λ later. listed_kept name keep xs s later k)
