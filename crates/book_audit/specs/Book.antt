-- The book of printed lives: each life is a hash, and an unhash where it has one. Our own.
use Rattle.std.specs.Prelude.{List, [], ◌∷◌, Option, None, Some}
use Rattle.std.specs.List.{flat_map}
use Rattle.chain_book.specs.declared.book.Act.{Act}
use Rattle.chain_book.specs.declared.book.Act.TheVariants as acts
use Rattle.chain_book.specs.declared.book.Change.{Change}
use Rattle.book_audit.specs.declared.printed.Span.{Span}
use Rattle.book_audit.specs.declared.printed.PrintedLife.{PrintedLife}

-- a change of a life
abbrev pub change_of : PrintedLife → Act → Span → Change
change_of l act s =
    record { bucket = l.bucket; slot = l.slot; card = l.card; act = act; begin = s.begin; end = s.end }

abbrev pub hash_of : PrintedLife → Change
hash_of l = change_of l acts.Hash l.hash

abbrev pub unhash_of : PrintedLife → Span → Change
unhash_of l s = change_of l acts.Unhash s

abbrev pub with_unhash : PrintedLife → Option Span → List Change
with_unhash l None = []
with_unhash l (Some s) = unhash_of l s ∷ []

-- the changes of a life
abbrev pub changes_of : PrintedLife → List Change
changes_of l = hash_of l ∷ with_unhash l l.unhash

-- the changes of all of them
abbrev pub book_of : List PrintedLife → List Change
book_of lives = flat_map changes_of lives
