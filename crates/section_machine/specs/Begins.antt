-- A section before its first command: our own.
use Rattle.std.specs.Prelude.{◌≡◌, ℕ, ◌*◌, ◌≤◌, ◌^◌, []}
use Rattle.turn_table.specs.Passes as words
use Rattle.flat_list.specs.declared.header.Header.{Header}
use Rattle.table_model.specs.Own.{new_own}
use Rattle.sock_ops.specs.declared.tables.Tables.{Tables}
use Rattle.sock_ops.specs.declared.tables.Worker.{Worker}
use Rattle.sock_ops.specs.Stands.{IsReady, turned}
use Rattle.section_machine.specs.Sections.{kept}
use Rattle.section_machine.specs.Standing.{AreOf, IsSection, IsUnspoken, Tells}

-- a new section is a worker's that is ready at the header's tables and asked no bucket about a name of this section,
-- or of a later one
abbrev pub SectionComesNext : Type 0
SectionComesNext =
    (t : Tables) (header : Header) (number : ℕ) (w : Worker) → AreOf header t → IsReady t w → number ≤ 255
    → Tells (words.caller w.turns) number → ((name : ℕ) → number * 2 ^ 56 ≤ name → IsUnspoken (turned w) name)
    → IsSection t (kept header (new_own header number)) w

-- and so one that asked no bucket yet
abbrev pub SectionBegins : Type 0
SectionBegins =
    (t : Tables) (header : Header) (number : ℕ) (w : Worker) → AreOf header t → IsReady t w → number ≤ 255
    → Tells (words.caller w.turns) number → (turned w).mine ≡ [] → IsSection t (kept header (new_own header number)) w
