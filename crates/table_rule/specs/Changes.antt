-- What a pass has of the changes that it closed: each of them, or how many they are. Our own.
use Rattle.std.specs.Prelude.{◌≡◌, ℕ, ◌-◌, ◌^◌, Bool, true, false, List, [], map, length, vec_len, vec_capacity}
use Rattle.chain_book.specs.declared.book.Change.{Change as Kept}
use Rattle.table_rule.specs.Closes.{change_of}
use Rattle.table_rule.specs.declared.changes.Changes.{Changes}
use Rattle.table_rule.specs.declared.changes.Changes.TheVariants as changes
use Rattle.table_rule.specs.declared.view.Change.{Change}

-- each of them is kept
abbrev pub are_kept : Changes → Bool
are_kept (changes.Kept list) = true
are_kept (changes.Counted count) = false

-- those that are kept
abbrev pub list_of : Changes → List Kept
list_of (changes.Kept list) = list.items
list_of (changes.Counted count) = []

-- how many they are
abbrev pub len_of : Changes → ℕ
len_of (changes.Kept list) = vec_len list
len_of (changes.Counted count) = count

-- how many they can be without growth: no list has room for 2 ^ 64 - 1, so this shows, too, whether they are kept
abbrev pub capacity_of : Changes → ℕ
capacity_of (changes.Kept list) = vec_capacity list
capacity_of (changes.Counted count) = 2 ^ 64 - 1

-- they are as many as were closed, and where each is kept they are those
abbrev pub Tells : Changes → List Change → Type 0
Tells told closed = (are_kept told ≡ true → map change_of (list_of told) ≡ closed) × (len_of told ≡ length closed)
