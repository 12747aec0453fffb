-- Counts of a bucket's owners by two places: that of the port, and that of the port and the address. Our own rule.
-- At a port those are marked that `connect` may not share it with, and at an end those that may have mates there.
--
-- In three parts: where an owner is counted, up to `end_spot`; the tallies there, up to `both_rule_out`; and what
-- holds of them all, `IsCountOf` at the end.
use Rattle.std.specs.Prelude.{ℕ, ◌+◌, ◌/◌, ◌%◌, Bool, ◌==◌, ◌&&◌, not, List, []}
use Rattle.sock_card.specs.declared.owner.Owner.{Owner}
use Rattle.bind_buckets.specs.declared.tally.Tally.{Tally}
use Rattle.bind_buckets.specs.declared.tally.Spot.{Spot}
use Rattle.bind_buckets.specs.Tally.{IsTallyOf, AreMade, is_made, tally_at, rules_out, spot_of}
use Rattle.sock_card.specs.Conflict.{is_listening}

-- of ports, so many in a row have one place
pub record OwnerCounts : Type 0 where
  pub by_port : List Tally
  pub by_end : List Tally
  pub stride : ℕ

abbrev pub no_counts : ℕ → OwnerCounts
no_counts stride = record { by_port = []; by_end = []; stride = stride }

abbrev pub port_place : ℕ → ℕ → ℕ
port_place stride port = port / stride % 256

abbrev pub end_place : ℕ → ℕ → ℕ → ℕ
end_place stride port addr = (port / stride + addr) % 256

abbrev pub place_by_port : ℕ → Owner → ℕ
place_by_port stride a = port_place stride a.port

abbrev pub place_by_end : ℕ → Owner → ℕ
place_by_end stride a = end_place stride a.port a.addr

-- `connect` didn't choose its port
abbrev pub is_held : Owner → Bool
is_held a = not a.by_connect

-- it may have mates in a group
abbrev pub is_grouped : Owner → Bool
is_grouped a = is_listening a.state && a.reuseport

abbrev pub port_spot : ℕ → Owner → Spot
port_spot stride a = spot_of (place_by_port stride) is_held a

abbrev pub end_spot : ℕ → Owner → Spot
end_spot stride a = spot_of (place_by_end stride) is_grouped a

abbrev pub port_tally : OwnerCounts → ℕ → Tally
port_tally c port = tally_at c.by_port (port_place c.stride port)

abbrev pub end_tally : OwnerCounts → ℕ → ℕ → Tally
end_tally c port addr = tally_at c.by_end (end_place c.stride port addr)

-- it has an address, and those there and those at 0.0.0.0 are ruled out
abbrev pub both_rule_out : Tally → Tally → Owner → Bool
both_rule_out there any a = not (a.addr == 0) && rules_out there a && rules_out any a

-- the memory for counts by port is there
abbrev pub HasMemory : OwnerCounts → Type 0
HasMemory c = AreMade c.by_port

-- ends are counted, too
abbrev pub has_ends : OwnerCounts → Bool
has_ends c = is_made c.by_end

-- the counts are of these owners, those by end once they are made
pub record IsCountOf (c : OwnerCounts) (owners : List Owner) : Type 0 where
  pub ports : IsTallyOf (place_by_port c.stride) is_held c.by_port owners
  pub ends : AreMade c.by_end → IsTallyOf (place_by_end c.stride) is_grouped c.by_end owners
