-- What a list through a handle reports. Our own.
use Rattle.std.specs.Prelude.{◌≡◌, ℕ, ℤ, pos, List, ◌++◌, length, take, drop, Option, None, Some}
use Rattle.flat_calls.specs.Calls.{Numbered}
use Rattle.flat_calls.specs.Items.{items_of}
use Rattle.flat_calls.specs.declared.item.Item.{Item}
use Rattle.inet_c.specs.declared.errno.TheConstants.{EBADF, ENOMEM}
use Rattle.inet_c.specs.declared.listing.Telling.{Telling}
use Rattle.inet_c.specs.declared.listing.Telling.TheVariants as tellings

-- items, with the first of others written over their front, as many as fit
abbrev pub written_over : List Item → List Item → List Item
written_over items others = take (length items) others ++ drop (length others) items

-- what came of a list in so much room: what the tables list stands at its front, as far as it fits, with how many that
-- are; or nothing is written
abbrev pub TellsOf : Numbered → List Item → List Item → ℕ → Telling → Type 0
TellsOf tables old new count tellings.Told =
    (new ≡ written_over old (items_of tables)) × (count ≡ length (items_of tables))
TellsOf tables old new count tellings.NoMemory = (new ≡ old) × (count ≡ 0)
TellsOf tables old new count tellings.NoTables = ⊥

-- a list is given so; a handle that holds none says so
abbrev pub Tells : Option Numbered → List Item → List Item → ℕ → Telling → Type 0
Tells None old new count telling = (telling ≡ tellings.NoTables) × (new ≡ old) × (count ≡ 0)
Tells (Some tables) old new count telling = TellsOf tables old new count telling

abbrev pub errno_of : Telling → ℤ
errno_of tellings.Told = pos 0
errno_of tellings.NoTables = EBADF
errno_of tellings.NoMemory = ENOMEM
