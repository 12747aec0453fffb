-- Jobs that have ended are taken in, the last one first.
use Rattle.std.proofs.Common.{inl, inr, ◌⊎◌, length-append, ◌≡◌, ℕ, zero, suc, ◌+◌, ◌-◌, ◌<◌, ◌≤◌, List, [], ◌∷◌, ◌++◌, length, take, drop, reverse, get_or, Result, Ok, Err, IfOk, alloc_error, refl, sym, ap, ◌∙◌, subst, arith}
use Rattle.std.proofs.lemmas.List.{get_or_push, reverse-append, length_push}
use Rattle.std.proofs.Math.Seq.{drop-cons}
use Rattle.std.specs.List.{flat_map, range_with_len}
use mathlib.Core.Logic.{dite}
use native.Mathlib.Decide.{ℕ_discrete}
use Rattle.std.specs.declared.alloc.AllocError.{AllocError}
use Rattle.list_words.specs.Lists.{total}
use Rattle.list_words.proofs.TotalLemmas.{total-append}
use Rattle.turn_table.specs.Views.{joined}
use Rattle.table_rule.specs.Plays.{both}
use Rattle.sock_ops.specs.declared.tables.Tables.{Tables}
use Rattle.tickets.specs.Passes as draw
use Rattle.tickets.specs.Views as views
use Rattle.tickets.specs.declared.pass.TicketPass.{TicketPass}
use Rattle.tickets.specs.declared.pass.Tickets.{Tickets}
use Rattle.tickets.specs.declared.view.TicketView.{TicketView}
use Rattle.race_run.specs.declared.jobs.Job.{Job}
use Rattle.race_run.specs.declared.jobs.Outcome.{Outcome}
use Rattle.race_run.specs.Joins.{Part, Joined}
use Rattle.race_run.specs.Jobs.{IsOver, AllOver, part_or, part_in, IsGathered, outcome_of, outcomes_in}
use Rattle.race_run.specs.Shares.{HasDrawnAll, HasMissedAsThey, items_in}
use Rattle.race_run.specs.Workers.{part_of}
use Rattle.race_run.proofs.Joining.{joins_more}
use Rattle.race_run.proofs.Weights.{flat_push, flat_back_weighs}

at_take : {A : Type 0} (l : List A) (i m : ℕ) (d : A) → i < m → get_or (take m l) i d ≡ get_or l i d
at_take [] i zero d h = refl
at_take [] i (suc m) d h = refl
at_take (x ∷ xs) i zero d h = absurd (omega (arith, h))
at_take (x ∷ xs) zero (suc m) d h = refl
at_take (x ∷ xs) (suc i) (suc m) d h = at_take xs i m d (omega (arith, h))

take_twice : {A : Type 0} (l : List A) (n : ℕ) → take n (take (suc n) l) ≡ take n l
take_twice [] zero = refl
take_twice [] (suc n) = refl
take_twice (x ∷ xs) zero = refl
take_twice (x ∷ xs) (suc n) = ap (λ l. x ∷ l) (take_twice xs n)

same_job : (x y : Job) (a b : Result Job AllocError) → a ≡ Ok x → b ≡ Ok y → a ≡ b → x ≡ y
same_job x y a b e f is = cc

-- who joined a pass, or was one, that drew in vain
missed_by : (v w b : TicketView) → b ≡ views.joined v w → (0 < length v.vain) ⊎ (0 < length w.vain) → 0 < length b.vain
missed_by v w b is (inl l) = omega (arith, l, ap (λ (x : TicketView). length x.vain) is, length-append v.vain w.vain)
missed_by v w b is (inr l) = omega (arith, l, ap (λ (x : TicketView). length x.vain) is, length-append v.vain w.vain)

-- the items of one outcome more
pub drawn_more : (given all : List Outcome) (j : Job) (drawn more : List ℕ) → drawn ≡ flat_map items_in given → all ≡ given ++ record { replies = j.replies; listings = j.listings; told = j.told } ∷ [] → more ≡ items_in (record { replies = j.replies; listings = j.listings; told = j.told }) → drawn ++ more ≡ flat_map items_in all
drawn_more given all j drawn more are is one =
    let o : Outcome = record { replies = j.replies; listings = j.listings; told = j.told } in
    ap (λ l. l ++ more) are ∙ ap (λ l. flat_map items_in given ++ l) one ∙ sym (ap (flat_map items_in) is ∙ flat_push items_in given o)

-- once all were joined
pub drawn_all : (q : Tickets) (done : List (Result Job AllocError)) (given all : List Outcome) (n : ℕ) (p : TicketPass) → draw.IsPassOf q p → draw.parts p + n ≡ 16384 → n ≡ 0 → draw.drawn p ≡ flat_map items_in given → HasMissedAsThey done n p → all ≡ reverse given → HasDrawnAll q done all p
drawn_all q done given all n p table parts none drawn missed are = record {
  table = table;
  parts = omega (arith, parts, none);
  drawn = λ f. ap (total f) drawn ∙ sym (ap (λ l. total f (flat_map items_in l)) are ∙ flat_back_weighs f items_in given);
  missed = subst (λ (k : ℕ). HasMissedAsThey done k p) none missed;
}

module _ (done left new : List (Result Job AllocError)) (x : Result Job AllocError) (n k : ℕ) (few : k ≤ length done) (less : k ≡ n + 1) (before : left ≡ take k done) (pop : left ≡ new ++ x ∷ []) (len : length new ≡ n) where
  -- the last one is that of its place
  pub it_is : (d : Result Job AllocError) → get_or done n d ≡ x
  it_is d =
      sym (at_take done n k d (omega (arith, less))) ∙ ap (λ l. get_or l n d) (sym before ∙ pop)
      ∙ ap (λ i. get_or (new ++ x ∷ []) i d) (sym len) ∙ get_or_push new x d (length new) refl

  pub still_before : new ≡ take (k - 1) left → new ≡ take n done
  still_before e =
      e ∙ ap (λ i. take i left) (let q : k - 1 ≡ n = omega (arith, less) in q) ∙ ap (take n) (before ∙ ap (λ i. take i done) (let q : k ≡ suc n = omega (arith, less) in q)) ∙ take_twice done n

  module _ (j : Job) (ok : x ≡ Ok j) where
    pub over : (t : Tables) (q : Tickets) → AllOver t q done → IsOver t q j
    over t q h = let P : Result Job AllocError → Type 0 = λ r. IfOk r (IsOver t q) in
        let o : P (Ok j) = subst P (it_is x ∙ ok) (h n x (omega (arith, few, less))) in o

    pub outcomes : (given all : List Outcome) → reverse given ≡ outcomes_in (drop k done) → all ≡ given ++ record { replies = j.replies; listings = j.listings; told = j.told } ∷ [] → reverse all ≡ outcomes_in (drop n done)
    outcomes given all e is =
        ap reverse is ∙ reverse-append given (record { replies = j.replies; listings = j.listings; told = j.told } ∷ [])
        ∙ ap (λ l. record { replies = j.replies; listings = j.listings; told = j.told } ∷ l) (e ∙ ap (λ i. outcomes_in (drop i done)) (let q : k ≡ suc n = omega (arith, less) in q))
        ∙ ap (λ r. outcome_of r ++ outcomes_in (drop (suc n) done)) (sym (it_is x ∙ ok))
        ∙ ap outcomes_in (sym (drop-cons done n x (omega (arith, few, less))))

    -- who joined its pass missed what it missed
    pub missed_more : (p b : TicketPass) → draw.known b ≡ views.joined (draw.known p) (draw.known j.draws) → HasMissedAsThey done k p → HasMissedAsThey done n b
    missed_more p b is h i y le at m = dite (ℕ_discrete i n)
        (λ e. missed_by (draw.known p) (draw.known j.draws) (draw.known b) is
        (inr (subst (λ (z : Job). draw.HasMissed z.draws) (same_job y j (get_or done i (Err alloc_error)) (get_or done n (Err alloc_error)) at (it_is (Err alloc_error) ∙ ok) (ap (λ z. get_or done z (Err alloc_error)) e)) m)))
        (λ ne. missed_by (draw.known p) (draw.known j.draws) (draw.known b) is (inl (h i y (omega (arith, le, ne, less)) at m)))

    pub more : (other p q : Part) (w : Part) → part_of j.worker ≡ w → q.turns ≡ joined p.turns w.turns → q.chain ≡ both p.chain w.chain → IsGathered (part_in other done) k (length done) p → IsGathered (part_in other done) n (length done) q
    more other p q w is turns chain g =
        let count : ℕ = length done in
        let part : ℕ → Part = part_in other done in
        let here : part k ≡ w = ap (λ i. part_or other (get_or done i (Err alloc_error))) (let e : k - 1 ≡ n = omega (arith, less) in e) ∙ ap (part_or other) (it_is (Err alloc_error) ∙ ok) ∙ is in
        let next : Joined part (g.order ++ k ∷ []) (joined p.turns (part k).turns) (both p.chain (part k).chain) = joins_more part g.order p.turns p.chain k g.joined in
        let at : Joined part (g.order ++ k ∷ []) (joined p.turns w.turns) (both p.chain w.chain) = subst (λ (z : Part). Joined part (g.order ++ k ∷ []) (joined p.turns z.turns) (both p.chain z.chain)) here next in
        record {
          order = g.order ++ k ∷ [];
          once = λ f. total-append f g.order (k ∷ [])
              ∙ omega (arith, g.once f, ap (total f) (range_from n count (omega (arith, few, less))), ap f (let e : n + 1 ≡ k = omega (arith, less) in e), ap (λ i. total f (range_with_len (i + 1) (count - i))) less);
          joined = subst (λ v. Joined part (g.order ++ k ∷ []) v q.chain) (sym turns) (subst (λ y. Joined part (g.order ++ k ∷ []) (joined p.turns w.turns) y) (sym chain) at);
        }
      where
        range_from : (i m : ℕ) → i < m → range_with_len (i + 1) (m - i) ≡ (i + 1) ∷ range_with_len (i + 1 + 1) (m - (i + 1))
        range_from i m l = ap (range_with_len (i + 1)) (let e : m - i ≡ suc (m - (i + 1)) = omega (arith, l) in e)

-- one outcome more
pub one_more : (given all : List Outcome) (x : Outcome) → all ≡ given ++ x ∷ [] → length all ≡ length given + 1
one_more given all x is = ap length is ∙ length_push given x
