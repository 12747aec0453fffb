-- Each verb stands in the list of all, and two verbs are spelled in two ways.
use Rattle.std.proofs.Common.{◌≡◌, ℕ, ◌<◌, slice_index_or, refl, arith}
use Rattle.line_forms.specs.declared.verb.Verb.{Verb}
use Rattle.line_forms.specs.declared.verb.Verb.TheVariants as verbs
use Rattle.line_forms.specs.declared.verb.TheConstants.{VERBS}

-- where a verb stands in the list
pub place_of : Verb → ℕ
place_of verbs.Table = 0
place_of verbs.Range = 1
place_of verbs.Reserved = 2
place_of verbs.Seed = 3
place_of verbs.Offset = 4
place_of verbs.TimeWaitReuse = 5
place_of verbs.Script = 6
place_of verbs.Capture = 7
place_of verbs.Socket = 8
place_of verbs.Bind = 9
place_of verbs.Listen = 10
place_of verbs.Connect = 11
place_of verbs.Accept = 12
place_of verbs.Syn = 13
place_of verbs.Ack = 14
place_of verbs.Close = 15
place_of verbs.Drop = 16
place_of verbs.At = 17
place_of verbs.Reap = 18
place_of verbs.Look = 19
place_of verbs.Packets = 20
place_of verbs.Dump = 21

-- each verb stands there
pub stands_at : (verb : Verb) → slice_index_or VERBS (place_of verb) verbs.Table ≡ verb
unfolding place_of
stands_at verbs.Table = refl
stands_at verbs.Range = refl
stands_at verbs.Reserved = refl
stands_at verbs.Seed = refl
stands_at verbs.Offset = refl
stands_at verbs.TimeWaitReuse = refl
stands_at verbs.Script = refl
stands_at verbs.Capture = refl
stands_at verbs.Socket = refl
stands_at verbs.Bind = refl
stands_at verbs.Listen = refl
stands_at verbs.Connect = refl
stands_at verbs.Accept = refl
stands_at verbs.Syn = refl
stands_at verbs.Ack = refl
stands_at verbs.Close = refl
stands_at verbs.Drop = refl
stands_at verbs.At = refl
stands_at verbs.Reap = refl
stands_at verbs.Look = refl
stands_at verbs.Packets = refl
stands_at verbs.Dump = refl

-- and every place is one of the list
pub is_within : (verb : Verb) → place_of verb < 22
unfolding place_of
is_within verbs.Table = omega arith
is_within verbs.Range = omega arith
is_within verbs.Reserved = omega arith
is_within verbs.Seed = omega arith
is_within verbs.Offset = omega arith
is_within verbs.TimeWaitReuse = omega arith
is_within verbs.Script = omega arith
is_within verbs.Capture = omega arith
is_within verbs.Socket = omega arith
is_within verbs.Bind = omega arith
is_within verbs.Listen = omega arith
is_within verbs.Connect = omega arith
is_within verbs.Accept = omega arith
is_within verbs.Syn = omega arith
is_within verbs.Ack = omega arith
is_within verbs.Close = omega arith
is_within verbs.Drop = omega arith
is_within verbs.At = omega arith
is_within verbs.Reap = omega arith
is_within verbs.Look = omega arith
is_within verbs.Packets = omega arith
is_within verbs.Dump = omega arith
