-- Where things stand on a picture: our own. Lengths are in pixels, from the left and from the top.
--
-- To be read from the beginning. `x_of` is the one scale of the clock.
use Rattle.std.specs.Prelude.{ℕ, ◌+◌, ◌-◌, ◌*◌, ◌/◌, min, max, if◌then◌else◌}
use Rattle.race_picture.specs.declared.sheet.Sheet.{Sheet}

-- how far from the left the clock begins
abbrev pub left : ℕ
left = 150

-- how far from the top the first lane begins
abbrev pub top : ℕ
top = 96

-- how wide the clock is: eight pixels a number, within limits
abbrev pub plot : Sheet → ℕ
plot s = 8 * max 90 (min s.clock 1200)

-- where a number of the clock stands; one beyond what the clock came to stands at its end
unfoldable pub x_of : Sheet → ℕ → ℕ
x_of s n = left + min n s.clock * plot s / max s.clock 1

-- how wide it is from one number to another, if the other isn't the smaller one
abbrev pub across : Sheet → ℕ → ℕ → ℕ
across s begin end = x_of s end - x_of s begin

-- how high a lane of lives is, and a bar in it, and how far the bar is from the lane's top
abbrev pub lane_height : Sheet → ℕ
lane_height s = if s.large then 4 else 28

abbrev pub bar_height : Sheet → ℕ
bar_height s = if s.large then 3 else 12

abbrev pub bar_drop : Sheet → ℕ
bar_drop s = if s.large then 0 else 14

-- how high a row of packets is, and a mark in it, and how far the mark is from the row's top
abbrev pub row_height : Sheet → ℕ
row_height s = if s.large then 4 else 18

abbrev pub mark_height : Sheet → ℕ
mark_height s = if s.large then 3 else 10

abbrev pub mark_drop : Sheet → ℕ
mark_drop s = if s.large then 0 else 4

abbrev pub lane_top : Sheet → ℕ → ℕ
lane_top s lane = top + lane * lane_height s

-- the rows stand below the lanes
abbrev pub row_top : Sheet → ℕ → ℕ
row_top s row = lane_top s s.lanes + 30 + row * row_height s

-- below the last of them
abbrev pub bottom : Sheet → ℕ
bottom s = row_top s s.rows

-- where the commands begin beside the lanes, and where that of line n of the record stands; 400 lines have room
abbrev pub side : Sheet → ℕ
side s = left + plot s + 200

abbrev pub side_line : ℕ → ℕ
side_line n = top + 15 * min n 400

-- how large the picture is
abbrev pub width : Sheet → ℕ
width s = if s.large then left + plot s + 40 else side s + 340

abbrev pub height : Sheet → ℕ
height s = max (bottom s + 70) (if s.large then 0 else side_line (s.commands + 3))
