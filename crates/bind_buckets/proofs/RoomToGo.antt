-- The room that each call takes.
use Rattle.std.proofs.Common.{◌≡◌, ℕ, ◌≤◌, ◌<◌, ◌+◌, ◌-◌, Bool, true, false, cond, List, [], ◌∷◌, length, find, suc, ◌++◌, ltb, Result, Ok, Err, Some, None, Option, arith, refl}
use Rattle.sock_card.specs.declared.owner.Owner.{Owner}
use Rattle.bind_buckets.specs.First.{drop_first}
use Rattle.std.proofs.lemmas.Bool.Decides.{nat_tests}
use Rattle.std.proofs.lemmas.List.{length-append}
use Rattle.bind_buckets.specs.declared.request.Answer.TheVariants as answers
use Rattle.bind_buckets.specs.declared.request.InUse.{InUse}
use Rattle.bind_buckets.specs.declared.request.Strange.{Strange}
use Rattle.bind_buckets.specs.OwnerStep.{Held, After, admitted, spoken}
use Rattle.bind_buckets.specs.Bucket.{entries_after, newcomers_after}
use Rattle.bind_buckets.specs.Answers.{answer_of_bind, answer_of_name, TakesIfOk, TakesIfErr}

shorter_by : {A : Type 0} (x s : A) (xs rest : List A) (o : Option A) (b : Bool) → (o ≡ Some s → length rest + 1 ≡ length xs) → cond b (Some x) o ≡ Some s → length (cond b xs (x ∷ rest)) + 1 ≡ suc (length xs)
shorter_by x s xs rest o true h e = omega arith
shorter_by x s xs rest o false h e = omega (arith, h e)

pub length-drop_first : {A : Type 0} (is : A → Bool) (xs : List A) (s : A) → find is xs ≡ Some s → length (drop_first is xs) + 1 ≡ length xs
length-drop_first is [] s e = absurd (cc)
length-drop_first is (x ∷ xs) s e =
    shorter_by x s xs (drop_first is xs) (find is xs) (is x) (length-drop_first is xs s) e

-- a call on a name by which the first owner goes that passes a test
module _ (h : Held) (name : ℕ) (is : Owner → Bool) (speak : Owner → After) (drops : (a : Owner) → (speak a).held.owners ≡ drop_first is h.owners) where
  pub goes : (a : Owner) → find is h.owners ≡ Some a → length (speak a).held.owners + 1 ≡ length h.owners
  goes a q = rw (drops a) (length-drop_first is h.owners a q)

  pub room_to_go : (n : ℕ) (o : Option Owner) → find is h.owners ≡ o → (o ≡ None → 1 ≤ n) → length h.owners ≤ length (spoken h name o speak).held.owners → 1 ≤ n
  room_to_go n None q room le = room refl
  room_to_go n (Some a) q room le = absurd (omega (arith, goes a q))

used_by : (e old new : ℕ) (b : Bool) → b ≡ ltb new old → old ≤ new → 1 ≤ e → cond b e (e - 1) + 1 ≡ e
used_by e old new true is le h = absurd (grind (arith, nat_tests))
used_by e old new false is le h = omega arith

-- a call by which no owner goes
pub used : (e : ℕ) (old new : List Owner) → length old ≤ length new → 1 ≤ e → entries_after e old new + 1 ≡ e
used e old new le h = used_by e (length old) (length new) _ refl le h

unused_by : (e old new : ℕ) (b : Bool) → b ≡ ltb new old → new < old → cond b e (e - 1) ≡ e
unused_by e old new true is lt = refl
unused_by e old new false is lt = absurd (grind (arith, nat_tests))

-- one by which an owner goes
pub unused : (e : ℕ) (old new : List Owner) → length new + 1 ≡ length old → entries_after e old new ≡ e
unused e old new fewer = unused_by e (length old) (length new) _ refl (omega arith)

came_by : (n old new : ℕ) (b : Bool) → b ≡ ltb old new → old < new → 1 ≤ n → cond b (n - 1) n + 1 ≡ n
came_by n old new true is lt h = omega arith
came_by n old new false is lt h = absurd (grind (arith, nat_tests))

pub came : (n : ℕ) (old new : List Owner) → length old < length new → 1 ≤ n → newcomers_after n old new + 1 ≡ n
came n old new lt h = came_by n (length old) (length new) _ refl lt h

settled_by : (n old new : ℕ) (b : Bool) → b ≡ ltb old new → new ≤ old → cond b (n - 1) n ≡ n
settled_by n old new true is le = absurd (grind (arith, nat_tests))
settled_by n old new false is le = refl

pub settled : (n : ℕ) (old new : List Owner) → length new ≤ length old → newcomers_after n old new ≡ n
settled n old new le = settled_by n (length old) (length new) _ refl le

pub longer : (xs : List Owner) (a : Owner) → length (xs ++ a ∷ []) ≡ length xs + 1
longer xs a = simp length-append

module _ (h : Held) (a : Owner) where
  pub bind_used : (e : ℕ) (o : Option Owner) → 1 ≤ e → entries_after e h.owners (admitted h a o).held.owners + 1 ≡ e
  bind_used e None r = used e h.owners _ (omega (arith, longer h.owners a)) r
  bind_used e (Some other) r = used e h.owners h.owners (omega arith) r

  pub bind_came : (n : ℕ) (o : Option Owner) (r : Result (Unit {0}) InUse) → 1 ≤ n → answer_of_bind r ≡ (admitted h a o).answer → TakesIfOk r n (newcomers_after n h.owners (admitted h a o).held.owners)
  bind_came n None (Ok u) room e = came n h.owners _ (omega (arith, longer h.owners a)) room
  bind_came n None (Err end) room e = absurd (cc)
  bind_came n (Some other) (Ok u) room e = absurd (cc)
  bind_came n (Some other) (Err end) room e = settled n h.owners h.owners (omega arith)

module _ (h : Held) (name : ℕ) (speak : Owner → After) where
  pub spoken_used : (e : ℕ) (o : Option Owner) → ((a : Owner) → length h.owners ≤ length (speak a).held.owners) → 1 ≤ e → entries_after e h.owners (spoken h name o speak).held.owners + 1 ≡ e
  spoken_used e None le r = used e h.owners h.owners (omega arith) r
  spoken_used e (Some a) le r = used e h.owners _ (le a) r

  pub spoken_settled : (n : ℕ) (o : Option Owner) → ((a : Owner) → o ≡ Some a → length (speak a).held.owners ≤ length h.owners) → newcomers_after n h.owners (spoken h name o speak).held.owners ≡ n
  spoken_settled n None le = settled n h.owners h.owners (omega arith)
  spoken_settled n (Some a) le = settled n h.owners _ (le a refl)

  pub spoken_came : (n : ℕ) (o : Option Owner) (r : Result (Unit {0}) Strange) → ((a : Owner) → (speak a).answer ≡ answers.Done) → ((a : Owner) → length h.owners < length (speak a).held.owners) → 1 ≤ n → answer_of_name r ≡ (spoken h name o speak).answer
      → TakesIfOk r n (newcomers_after n h.owners (spoken h name o speak).held.owners)
  spoken_came n None (Ok u) done lt room e = absurd (cc)
  spoken_came n None (Err end) done lt room e = settled n h.owners h.owners (omega arith)
  spoken_came n (Some a) (Ok u) done lt room e = came n h.owners _ (lt a) room
  spoken_came n (Some a) (Err end) done lt room e = absurd (let is = done a in cc)

module _ (h : Held) (name : ℕ) (is : Owner → Bool) (speak : Owner → After) (drops : (a : Owner) → (speak a).held.owners ≡ drop_first is h.owners) (is_done : (a : Owner) → (speak a).answer ≡ answers.Done) where
  pub gone : (n : ℕ) (o : Option Owner) (r : Result (Unit {0}) Strange) → find is h.owners ≡ o → (o ≡ None → 1 ≤ n) → answer_of_name r ≡ (spoken h name o speak).answer
      → TakesIfErr r n (entries_after n h.owners (spoken h name o speak).held.owners)
  gone n None (Ok u) q room e = absurd (cc)
  gone n None (Err end) q room e = used n h.owners h.owners (omega arith) (room refl)
  gone n (Some a) (Ok u) q room e = unused n h.owners _ (goes h name is speak drops a q)
  gone n (Some a) (Err end) q room e = absurd (let done = is_done a in cc)
