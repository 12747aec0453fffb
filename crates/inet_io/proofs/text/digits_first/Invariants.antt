use Rattle.std.proofs.Common.{◌≡◌, ◌^◌, ◌<◌, ◌≤◌, length, take}
use Rattle.std.specs.Str.Parse.{AllDigits, digits_value}
use Rattle.inet_io.proofs.text.digits_first.Given as goal

abbrev pub invariant-loop-count : goal.invariant-loop-count
invariant-loop-count l =
    (l.count ≤ length l.text) × (l.count ≤ 10) × AllDigits 10 (take l.count l.text)
    × (l.n ≡ digits_value 10 (take l.count l.text)) × (l.n < 10 ^ l.count)
