-- How much there is room for in a bind bucket: our own rule.
use Rattle.std.specs.Prelude.{ℕ}

-- how many places for groups a bucket has
abbrev pub group_places : ℕ
group_places = 8
