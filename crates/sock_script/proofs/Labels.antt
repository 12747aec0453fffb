-- The labels that commands give, and whether one is among them.
use Rattle.std.proofs.Common.{◌≡◌, ℕ, suc, ◌+◌, List, [], ◌∷◌, ◌++◌, length, Option, Some, None, Bool, true, false, cond, not, ◌||◌, bytes_eq, refl, sym, ap, ◌∙◌, arith, ltb}
use Rattle.std.specs.Prelude.{is_some}
use Rattle.std.specs.List.{list_any, cons_option, position_or_len}
use Rattle.std.specs.Option.{option_to_list}
use Rattle.std.proofs.lemmas.Bool.Decides.{nat_tests}
use Rattle.std.proofs.lemmas.List.Elements.{filter_map-append}
use Rattle.std.proofs.lemmas.Slice.Eq.{bytes_eq-Decides}
use Rattle.flat_list.specs.declared.command.Command.{Command}
use Rattle.label_index.specs.Places.{place_in}
use Rattle.sock_script.specs.Grammar.{given_label, given_labels}

one_given : (o : Option (List ℕ)) → cons_option o [] ≡ option_to_list o
one_given None = refl
one_given (Some label) = refl

-- the labels of one command more
pub given_more : (commands : List Command) (command : Command) → given_labels (commands ++ command ∷ []) ≡ given_labels commands ++ option_to_list (given_label command)
given_more commands command =
    filter_map-append given_label commands (command ∷ []) ∙ ap (λ labels. given_labels commands ++ labels) (one_given (given_label command))

swapped_by : (a b : List ℕ) (p q : Bool) → bytes_eq a b ≡ p → bytes_eq b a ≡ q → p ≡ q
swapped_by a b true true e f = refl
swapped_by a b false false e f = refl
swapped_by a b true false e f =
    let is : bytes_eq b a ≡ true = (bytes_eq-Decides b a).1 (sym ((bytes_eq-Decides a b).0 e)) in
    absurd (cc)
swapped_by a b false true e f =
    let is : bytes_eq a b ≡ true = (bytes_eq-Decides a b).1 (sym ((bytes_eq-Decides b a).0 f)) in
    absurd (cc)

one_more : (n m : ℕ) → ltb (1 + n) (suc m) ≡ ltb n m
one_more n m = grind (arith, nat_tests)

behind : (b c : Bool) (n m : ℕ) → ltb n m ≡ c → ltb (cond (not b) (1 + n) 0) (suc m) ≡ (b || c)
behind true c n m h = grind (arith, nat_tests)
behind false c n m h = one_more n m ∙ h

within : (labels : List (List ℕ)) (label : List ℕ) → ltb (position_or_len (λ l. bytes_eq l label) labels) (length labels) ≡ list_any (bytes_eq label) labels
within [] label = refl
within (x ∷ labels) label =
    behind (bytes_eq x label) (list_any (bytes_eq label) labels) (position_or_len (λ l. bytes_eq l label) labels) (length labels) (within labels label)
    ∙ ap (λ b. b || list_any (bytes_eq label) labels) (swapped_by x label (bytes_eq x label) (bytes_eq label x) refl refl)

some_by : (b : Bool) (n : ℕ) → is_some (cond b (Some n) None) ≡ b
some_by true n = refl
some_by false n = refl

-- a label that has a place is among them
pub is_among : (labels : List (List ℕ)) (label : List ℕ) → is_some (place_in labels label) ≡ list_any (bytes_eq label) labels
is_among labels label =
    some_by (ltb (position_or_len (λ l. bytes_eq l label) labels) (length labels)) (position_or_len (λ l. bytes_eq l label) labels) ∙ within labels label
