-- The table of a script's labels gives the label of each name.
use Rattle.std.proofs.Common.{◌≡◌, ℕ, ◌+◌, ◌/◌, ◌%◌, ◌^◌, ◌<◌, zero, suc, cond, List, [], ◌∷◌, ◌++◌, map, Option, Some, None, unwrap_or, slice_get, length, take, get_or, append-nil, refl, sym, ap, ap₂, ◌∙◌}
use Rattle.std.specs.List.{cons_option, flat_map, slice_index_or}
use Rattle.std.specs.Borrow.{Bor}
use Rattle.std.specs.Option.{option_copied, option_map}
use Rattle.std.proofs.lemmas.List.{take_more, map-append, get_or-map}
use Rattle.std.specs.declared.vec.Vec.{Vec}
use Rattle.std.specs.declared.alloc.Global.{Global}
use Rattle.sock_script.specs.Seen.{texts, tables}
use Rattle.std.proofs.lemmas.List.Elements.{filter_map-append}
use Rattle.sock_card.specs.declared.card.Card.{Card}
use Rattle.flat_list.specs.declared.command.Command.{Command}
use Rattle.flat_list.specs.declared.command.Reply.{Reply}
use Rattle.flat_list.specs.declared.command.Reply.TheVariants as replies
use Rattle.sock_script.specs.Grammar.{given_label, given_labels}
use Rattle.flat_list.specs.Run.{Issued}
use Rattle.socket_list.specs.Listing.{Listing}
use Rattle.sock_script.specs.Output.{Event, asked, stored, label_in, found_label, is_dump, listing_text, listings_after, line_with, item_line, command_text, lines_text}
use Rattle.sock_script.specs.Steps.{label_table, label_at, found_at, command_at, lines_at}

-- a section's row in the table; where there is none, no label is found
row_of : (name : ℕ) (sections : List (List Command)) (n : ℕ)
    → unwrap_or (slice_get (slice_index_or (map (λ section. [] ∷ given_labels section) sections) n []) name) []
    ≡ unwrap_or (slice_get ([] ∷ given_labels (slice_index_or sections n [])) name) []
row_of zero [] n = refl
row_of (suc name) [] n = refl
row_of name (s ∷ sections) zero = refl
row_of name (s ∷ sections) (suc n) = row_of name sections n

pub label_of_name : (sections : List (List Command)) (name : ℕ) → label_at (label_table sections) name ≡ label_in sections name
label_of_name sections name = row_of (name % 2 ^ 56) ([] ∷ sections) (name / 2 ^ 56)

label_of_found : (sections : List (List Command)) (answer : Option Card) → found_at (label_table sections) (replies.Found answer) ≡ found_label sections (replies.Found answer)
label_of_found sections None = refl
label_of_found sections (Some card) = label_of_name sections card.name

label_of_reply : (sections : List (List Command)) (reply : Reply) → found_at (label_table sections) reply ≡ found_label sections reply
label_of_reply sections (replies.Found answer) = label_of_found sections answer
label_of_reply sections reply = refl

-- so the lines are those of the script's own labels
same_command : (sections : List (List Command)) (c : Issued) (r : Reply) (ls : List Listing) → command_at (label_table sections) c r ls ≡ command_text sections c r ls
same_command sections c r ls =
    ap₂ (λ (label_of : ℕ → List ℕ) (label : List ℕ). cond (is_dump c.command) (flat_map (listing_text label_of c.section) (take 1 ls)) (line_with c.section c.command label r))
    (λ k name. label_of_name sections name k) (label_of_reply sections r)

pub same_lines : (sections : List (List Command)) (number : ℕ) (events : List Event) (rs : List Reply) (ls : List Listing) → lines_at (label_table sections) number events rs ls ≡ lines_text sections number events rs ls
same_lines sections number [] [] ls = refl
same_lines sections number [] (r ∷ rs) ls = refl
same_lines sections number (asked c ∷ events) [] ls = refl
same_lines sections number (stored item ∷ events) [] ls = refl
same_lines sections number (asked c ∷ events) (r ∷ rs) ls =
    ap₂ ◌++◌ (same_command sections c r ls) (same_lines sections number events rs (listings_after c.command ls))
same_lines sections number (stored item ∷ events) (r ∷ rs) ls =
    ap₂ ◌++◌ (ap (λ label. item_line number label r) (label_of_reply sections r)) (same_lines sections (number + 1) events rs ls)

-- the labels of one command more
one_more : (commands : List Command) (i : ℕ) (c : Command) → i < length commands → c ≡ get_or commands i c
    → given_labels (take (i + 1) commands) ≡ given_labels (take i commands) ++ cons_option (given_label c) []
one_more commands i c lt here =
    ap given_labels (take_more commands i c lt ∙ ap (λ t. take i commands ++ t ∷ []) (sym here)) ∙ filter_map-append given_label (take i commands) (c ∷ [])

-- what the code has put in a section's row
abbrev pub RowSoFar : List (Bor (List ℕ)) → List Command → ℕ → Type 0
RowSoFar row commands i = texts row ≡ [] ∷ given_labels (take i commands)

pub label_more : (row new : List (Bor (List ℕ))) (label : Bor (List ℕ)) (commands : List Command) (i : ℕ) (c : Command) → i < length commands → c ≡ get_or commands i c
    → given_label c ≡ Some label.now → new ≡ row ++ label ∷ [] → RowSoFar row commands i → RowSoFar new commands (i + 1)
label_more row new label commands i c lt here gives is h =
    ap texts is ∙ map-append (λ w. w.now) row (label ∷ []) ∙ ap (λ t. t ++ label.now ∷ []) h
    ∙ sym (ap (λ t. [] ∷ t) (one_more commands i c lt here ∙ ap (λ o. given_labels (take i commands) ++ cons_option o []) gives))

pub none_more : (row new : List (Bor (List ℕ))) (commands : List Command) (i : ℕ) (c : Command) → i < length commands → c ≡ get_or commands i c
    → given_label c ≡ None → new ≡ row → RowSoFar row commands i → RowSoFar new commands (i + 1)
none_more row new commands i c lt here gives is h =
    ap texts is ∙ h ∙ ap (λ t. [] ∷ t) (sym (one_more commands i c lt here ∙ ap (λ o. given_labels (take i commands) ++ cons_option o []) gives ∙ append-nil _))

-- a label in a row
in_place : (row : List (Bor (List ℕ))) (number : ℕ) (none : Bor (List ℕ)) → (get_or row number none).now ≡ unwrap_or (slice_get (texts row) number) none.now
in_place [] zero none = refl
in_place [] (suc number) none = refl
in_place (label ∷ row) zero none = refl
in_place (label ∷ row) (suc number) none = in_place row number none

-- as the code finds it
pub in_row : (row : List (Bor (List ℕ))) (number : ℕ) (none label : Bor (List ℕ)) (got : Option (Bor (Bor (List ℕ)))) (copied : Option (Bor (List ℕ)))
    → label ≡ unwrap_or copied none → copied ≡ option_copied got → unwrap_or (option_map (λ x. x.now) got) none ≡ get_or row number none → none.now ≡ []
    → label.now ≡ unwrap_or (slice_get (texts row) number) []
in_row row number none label got copied e f g h =
    ap (λ l. l.now) (e ∙ ap (λ o. unwrap_or o none) f ∙ g) ∙ in_place row number none ∙ ap (λ l. unwrap_or (slice_get (texts row) number) l) h

-- the row of a section
pub row_at : (rows : List (Vec (Bor (List ℕ)) Global)) (n : ℕ) (row : Vec (Bor (List ℕ)) Global) → n < length rows → row ≡ get_or rows n row
    → slice_index_or (tables rows) n [] ≡ texts row.items
row_at rows n row lt here = get_or-map (λ v. texts v.items) rows n row [] lt ∙ ap (λ v. texts v.items) (sym here)
