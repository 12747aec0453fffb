-- Lists that are made of others: an item more, an item among them, and the two halves of sixteen bytes.
use Rattle.std.proofs.Common.{◌≡◌, ℕ, List, [], ◌∷◌, ◌++◌, map, length, take, drop, inl, inr, ap, ◌∙◌, arith, length-drop, take_all}
use Rattle.std.proofs.lemmas.List.{map-append, take-append-drop}
use Rattle.list_words.proofs.Items.{In}

pub map_push : {A B : Type 0} (f : A → B) (xs : List A) (x : A) → map f (xs ++ x ∷ []) ≡ map f xs ++ f x ∷ []
map_push f xs x = map-append f xs (x ∷ [])

pub in_map : {A B : Type 0} (f : A → B) (x : A) (xs : List A) → In x xs → In (f x) (map f xs)
in_map f x [] i = absurd i
in_map f x (y ∷ ys) (inl e) = inl (ap f e)
in_map f x (y ∷ ys) (inr i) = inr (in_map f x ys i)

-- eight bytes of sixteen, and the other eight
pub halves : (bytes : List ℕ) → length bytes ≡ 16 → take 8 (drop 0 bytes) ++ take 8 (drop 8 bytes) ≡ bytes
halves bytes sixteen =
    let whole : take 8 (drop 8 bytes) ≡ drop 8 bytes = take_all 8 (drop 8 bytes) (omega (arith, length-drop 8 bytes)) in
    ap (λ t. take 8 bytes ++ t) whole ∙ take-append-drop 8 bytes
