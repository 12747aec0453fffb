-- How much there is room for in a bind bucket: our own rules.
use Rattle.std.specs.Prelude.{ℕ}

-- how many members a group of listeners has at most
abbrev pub group_room : ℕ
group_room = 64
