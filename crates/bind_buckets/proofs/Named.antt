-- A call on a name, from its first owner.
use Rattle.std.proofs.Common.{◌≡◌, ℕ, Bool, true, false, cond, List, [], ◌∷◌, refl, sym, ap, ◌∙◌, find, Some, None}
use Rattle.sock_card.specs.declared.owner.Owner.{Owner}
use Rattle.bind_buckets.specs.declared.request.Answer.TheVariants as answers
use Rattle.bind_buckets.specs.First.{change_first, drop_first}
use Rattle.bind_buckets.specs.OwnerStep.{Held, After, has_name, named, spoken, kept}

pub speaks_of : (h : Held) (name : ℕ) (speak : Owner → After) (a : Owner) → find (has_name name) h.owners ≡ Some a → named h name speak ≡ speak a
speaks_of h name speak a found = ap (λ o. spoken h name o speak) found

pub strange_there : (h : Held) (name : ℕ) (speak : Owner → After) (owners : List Owner) → find (has_name name) h.owners ≡ None → owners ≡ h.owners → named h name speak ≡ kept (record h { owners = owners }) (answers.Strange name)
strange_there h name speak owners none same =
    ap (λ o. spoken h name o speak) none ∙ ap (λ (xs : List Owner). kept (record h { owners = xs }) (answers.Strange name)) (sym same)

pub speaks_of_none : (h : Held) (name : ℕ) (speak : Owner → After) → find (has_name name) h.owners ≡ None → named h name speak ≡ kept h (answers.Strange name)
speaks_of_none h name speak none = ap (λ o. spoken h name o speak) none

Some-injective : {A : Type 0} {x y : A} → Some x ≡ Some y → x ≡ y
Some-injective e = cc

module _ {A : Type 0} (is : A → Bool) where
  replaced_by : (f : A → A) (x a : A) (xs : List A) (b : Bool) → (find is xs ≡ Some a → change_first is (λ _. f a) xs ≡ change_first is f xs) → cond b (Some x) (find is xs) ≡ Some a → cond b (f a ∷ xs) (x ∷ change_first is (λ _. f a) xs) ≡ cond b (f x ∷ xs) (x ∷ change_first is f xs)
  replaced_by f x a xs true later e = ap (λ y. f y ∷ xs) (sym (Some-injective e))
  replaced_by f x a xs false later e = ap (λ rest. x ∷ rest) (later e)

  -- what the first that passes becomes stands in its place
  pub replaced : (f : A → A) (xs : List A) (a : A) → find is xs ≡ Some a → change_first is (λ _. f a) xs ≡ change_first is f xs
  replaced f [] a e = refl
  replaced f (x ∷ xs) a e = replaced_by f x a xs (is x) (replaced f xs a) e

  kept_by : (x : A) (xs : List A) (b : Bool) → (find is xs ≡ None → drop_first is xs ≡ xs) → cond b (Some x) (find is xs) ≡ None → cond b xs (x ∷ drop_first is xs) ≡ x ∷ xs
  kept_by x xs true later e = absurd (cc)
  kept_by x xs false later e = ap (λ rest. x ∷ rest) (later e)

  -- where none passes, none is taken out
  pub undropped : (xs : List A) → find is xs ≡ None → drop_first is xs ≡ xs
  undropped [] e = refl
  undropped (x ∷ xs) e = kept_by x xs (is x) (undropped xs) e

  unchanged_by : (f : A → A) (x : A) (xs : List A) (b : Bool) → (find is xs ≡ None → change_first is f xs ≡ xs) → cond b (Some x) (find is xs) ≡ None → cond b (f x ∷ xs) (x ∷ change_first is f xs) ≡ x ∷ xs
  unchanged_by f x xs true later e = absurd (cc)
  unchanged_by f x xs false later e = ap (λ rest. x ∷ rest) (later e)

  pub unreplaced : (f : A → A) (xs : List A) → find is xs ≡ None → change_first is f xs ≡ xs
  unreplaced f [] e = refl
  unreplaced f (x ∷ xs) e = unchanged_by f x xs (is x) (unreplaced f xs) e
