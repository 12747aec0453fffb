-- The words of a command's line.
use Rattle.std.proofs.Common.{◌≡◌, ℕ, List, [], ◌∷◌, Bool, true, ◌&&◌, bytes_eq, decimal, refl, sym, ap, ◌∙◌}
use Rattle.std.specs.Borrow.{Bor}
use Rattle.std.specs.List.{list_all, list_any}
use Rattle.record_reader.specs.Words.{texts}
use Rattle.record_reader.specs.Forms.{IsReply, is_plain, verbs}

-- words are plain where the texts that the code sees are
pub all_texts : (words : List (Bor (List ℕ))) → list_all is_plain (texts words) ≡ list_all (λ (w : Bor (List ℕ)). is_plain w.now) words
all_texts [] = refl
all_texts (w ∷ ws) = ap (λ b. is_plain w.now && b) (all_texts ws)

second : (n m v u : List ℕ) (ws rest : List (List ℕ)) → n ∷ v ∷ ws ≡ m ∷ u ∷ rest → (v ≡ u) × (ws ≡ rest)
second n m v u ws rest e = (cc, cc)

-- the verb of the line is one
pub verb_is : (words : List (List ℕ)) (n : ℕ) (verb : List ℕ) (ws : List (List ℕ)) (vain : Bool) → IsReply words vain → words ≡ decimal n ∷ verb ∷ ws → list_any (bytes_eq verb) verbs ≡ true
verb_is words n verb ws vain r e =
    ap (λ v. list_any (bytes_eq v) verbs) (second _ _ _ _ _ _ (sym e ∙ r.spelled)).0 ∙ r.known

-- and the words behind it are plain
pub words_are : (words : List (List ℕ)) (n : ℕ) (verb : List ℕ) (ws : List (List ℕ)) (vain : Bool) → IsReply words vain → words ≡ decimal n ∷ verb ∷ ws → list_all is_plain ws ≡ true
words_are words n verb ws vain r e = ap (list_all is_plain) (second _ _ _ _ _ _ (sym e ∙ r.spelled)).1 ∙ r.plain
