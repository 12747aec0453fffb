-- What a section knows of itself, as a TIME_WAIT of anybody's is gone.
use Rattle.std.proofs.Common.{◌≡◌, ℕ, ◌+◌, ◌/◌, ◌^◌, ◌==◌, Bool, true, false, ◌&&◌, ◌||◌, not, cond, List, [], ◌∷◌, map, filter, refl, ap, sym, ◌∙◌, inl, inr, ◌⊎◌, arith}
use Rattle.std.specs.List.{list_any}
use Rattle.std.proofs.lemmas.Bool.{cases_Bool, eq-eqb, eqb-true}
use Rattle.list_words.specs.Lists.{Each, total}
use Rattle.sock_card.specs.declared.owner.Owner.{Owner}
use Rattle.sock_card.specs.Conflict.{is_time_wait}
use Rattle.flat_list.specs.declared.socket.Socket.{Socket}
use Rattle.flat_list.specs.Flat.{Flat}
use Rattle.flat_list.specs.Sockets.{kind_of, has_name, without, is_open_in}
use Rattle.flat_list.specs.Sound.{IsAwakeIfNamed}
use Rattle.table_model.specs.Tables.{Tables}
use Rattle.table_model.specs.Own.{Own, Mine}
use Rattle.table_model.specs.Means.{OwnMeans, StandsAs, is_wait_of, owner_of, weighs_if_there, weighs_as_wait}
use Rattle.table_model.proofs.lists.Passing.{either_order, only, ind, Only, total_same, total_sum, each_zero}
use Rattle.table_model.proofs.parts.Cards.{without_weighs}

-- a TIME_WAIT is nobody's open socket
pub wait_not_mine : (n : ℕ) (s : Socket) → IsAwakeIfNamed s → is_time_wait s.owner.state ≡ true → is_open_in n s ≡ false
wait_not_mine n s awake waits =
    let named : s.named ≡ false = awake ∙ ap not waits in
    ap (λ (b : Bool). b && (s.owner.name / 2 ^ 56 == n)) named

mine_at : (b c : Bool) (y : Socket) (ys zs : List Socket) (n : ℕ) → is_open_in n y ≡ c → cond {A = ℕ} b (cond {A = ℕ} c 1 0) 0 ≡ 0 → filter (is_open_in n) ys ≡ zs
    → filter (is_open_in n) (cond (not b) (y ∷ ys) ys) ≡ cond c (y ∷ zs) zs
mine_at true true y ys zs n e h same = absurd (omega (arith, h))
mine_at true false y ys zs n e h same = same
mine_at false true y ys zs n e h same = ap (λ (b : Bool). cond b (y ∷ filter (is_open_in n) ys) (filter (is_open_in n) ys)) e ∙ ap (λ l. y ∷ l) same
mine_at false false y ys zs n e h same = ap (λ (b : Bool). cond b (y ∷ filter (is_open_in n) ys) (filter (is_open_in n) ys)) e ∙ same

mine_without : (n k : ℕ) (xs : List Socket) → Each (λ (y : Socket). only (has_name k) (ind (is_open_in n)) y ≡ 0) xs → filter (is_open_in n) (without k xs) ≡ filter (is_open_in n) xs
mine_without n k [] h = refl
mine_without n k (y ∷ ys) h = mine_at (has_name k y) (is_open_in n y) y (without k ys) (filter (is_open_in n) ys) n refl h.0 (mine_without n k ys h.1)

-- the section's open sockets stay where another socket goes
pub mine_stay : (n k : ℕ) (s : Socket) (xs : List Socket) → Only (has_name k) s xs → is_open_in n s ≡ false → filter (is_open_in n) (without k xs) ≡ filter (is_open_in n) xs
mine_stay n k s xs o not_mine =
    mine_without n k xs (each_zero (only (has_name k) (ind (is_open_in n))) xs (o (ind (is_open_in n)) ∙ ap (λ (b : Bool). cond {A = ℕ} b 1 0) not_mine))

any_without_at : (j k : ℕ) (y : Socket) (ys : List Socket) (rest : Bool) (b c : Bool) → has_name k y ≡ b → (j == k) ≡ c → (y.owner.name == j) ≡ true ⊎ ((y.owner.name == j) ≡ false)
    → list_any (has_name j) ys ≡ (not c && rest) → list_any (has_name j) (cond (not b) (y ∷ ys) ys) ≡ (not c && ((y.owner.name == j) || rest))
any_without_at j k y ys rest true true e f h same = same
any_without_at j k y ys rest false true e f (inl h) same =
    absurd (let p = eqb-true y.owner.name j h in let q = eqb-true j k f in let r : has_name k y ≡ true = eq-eqb y.owner.name k (p ∙ q) in cc)
any_without_at j k y ys rest false true e f (inr h) same = ap (λ (b : Bool). b || list_any (has_name j) ys) h ∙ same
any_without_at j k y ys rest true false e f (inl h) same =
    absurd (let p = eqb-true y.owner.name j h in let q = eqb-true y.owner.name k e in let r : (j == k) ≡ true = eq-eqb j k (sym p ∙ q) in cc)
any_without_at j k y ys rest true false e f (inr h) same = same ∙ ap (λ (b : Bool). b || rest) (sym h)
any_without_at j k y ys rest false false e f h same = ap (λ (b : Bool). (y.owner.name == j) || b) same

nothing : (b : Bool) → false ≡ (not b && false)
nothing true = refl
nothing false = refl

-- a name is in the list that is left, if it is another and was there
pub any_without : (j k : ℕ) (xs : List Socket) → list_any (has_name j) (without k xs) ≡ (not (j == k) && list_any (has_name j) xs)
any_without j k [] = nothing (j == k)
any_without j k (y ∷ ys) = any_without_at j k y (without k ys) (list_any (has_name j) ys) (has_name k y) (j == k) refl refl (cases_Bool (y.owner.name == j)) (any_without j k ys)

there_at : (b c : Bool) (v : ℕ) → cond {A = ℕ} (not b && c) v 0 + cond {A = ℕ} c (cond {A = ℕ} b v 0) 0 ≡ cond {A = ℕ} c v 0
there_at true true v = omega arith
there_at true false v = omega arith
there_at false true v = omega arith
there_at false false v = omega arith

-- a weight of those of one name alone
abbrev pub at_name : ℕ → (Owner → ℕ → ℕ) → Owner → ℕ → ℕ
at_name k f o e = cond (o.name == k) (f o e) 0

module _ (n : ℕ) (own : Own) (t t' : Tables) (flat : Flat) (h : OwnMeans n own t flat) (k : ℕ) (s : Socket) (one : Only (has_name k) s flat.sockets) (not_mine : is_open_in n s ≡ false) where
  -- the section's TIME_WAITs of that name weigh as the socket
  pub its_wait : (f : Owner → ℕ → ℕ) → total (weighs_if_there (at_name k f) flat.sockets) own.waits ≡ weighs_as_wait f n s
  its_wait f =
      h.waits (at_name k f)
      ∙ (total_same (weighs_as_wait (at_name k f) n) (only (has_name k) (weighs_as_wait f n)) flat.sockets (λ y. either_order (is_wait_of n y) (has_name k y) (f y.owner y.stamp)) ∙ one (weighs_as_wait f n))

  -- a TIME_WAIT is gone, the section's or another's
  pub own_wait_gone : Each (λ (m : Mine). StandsAs t'.chains m (kind_of m.owner.state)) own.sockets → OwnMeans n own t' (record flat { sockets = without k flat.sockets })
  own_wait_gone stands = record {
    number = h.number;
    unmarked = h.unmarked;
    section = h.section;
    range = h.range;
    offset = h.offset;
    sockets = h.sockets ∙ ap (map owner_of) (sym (mine_stay n k s flat.sockets one not_mine));
    stand = stands;
    waits = λ f.
        let left : total (weighs_if_there f (without k flat.sockets)) own.waits ≡ total (λ (w : Mine). cond {A = ℕ} (not (w.owner.name == k) && list_any (has_name w.owner.name) flat.sockets) (f w.owner w.extra) 0) own.waits =
        total_same (weighs_if_there f (without k flat.sockets)) (λ (w : Mine). cond {A = ℕ} (not (w.owner.name == k) && list_any (has_name w.owner.name) flat.sockets) (f w.owner w.extra) 0) own.waits
        (λ w. ap (λ (b : Bool). cond {A = ℕ} b (f w.owner w.extra) 0) (any_without w.owner.name k flat.sockets)) in
        let both : total (λ (w : Mine). cond {A = ℕ} (not (w.owner.name == k) && list_any (has_name w.owner.name) flat.sockets) (f w.owner w.extra) 0 + weighs_if_there (at_name k f) flat.sockets w) own.waits ≡ total (weighs_if_there f flat.sockets) own.waits =
        total_same (λ (w : Mine). cond {A = ℕ} (not (w.owner.name == k) && list_any (has_name w.owner.name) flat.sockets) (f w.owner w.extra) 0 + weighs_if_there (at_name k f) flat.sockets w) (weighs_if_there f flat.sockets) own.waits
        (λ w. there_at (w.owner.name == k) (list_any (has_name w.owner.name) flat.sockets) (f w.owner w.extra)) in
        omega (
          arith,
          left,
          both,
          total_sum (λ (w : Mine). cond {A = ℕ} (not (w.owner.name == k) && list_any (has_name w.owner.name) flat.sockets) (f w.owner w.extra) 0) (weighs_if_there (at_name k f) flat.sockets) own.waits,
          its_wait f,
          h.waits f,
          without_weighs (weighs_as_wait f n) k s flat.sockets one,
        );
    names = h.names;
    given = h.given;
  }
