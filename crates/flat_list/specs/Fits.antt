-- Of which headers tables can be made: our own limits, and a range of ports as ip(7) wants it of ip_local_port_range,
-- whose two halves a search tries one after the other.
use Rattle.std.specs.Prelude.{◌≡◌, ◌+◌, ◌%◌, ◌<◌, ◌≤◌, ◌^◌}
use Rattle.flat_list.specs.declared.header.Header.{Header}
use Rattle.flat_list.specs.Ports.{size}

-- one bucket of each kind at least, 256 bind buckets at most, chains and slots that 32 bits count, and an even number
-- of ports
pub record FitsTables (header : Header) : Type 0 where
  pub bind : 1 ≤ header.shape.bind
  pub most : header.shape.bind ≤ 256
  pub hash : 1 ≤ header.shape.hash
  pub listen : 1 ≤ header.shape.listen
  pub chains : header.shape.hash + header.shape.listen < 2 ^ 32
  pub slots : header.shape.slots + 1 < 2 ^ 32
  pub range : header.range.low ≤ header.range.high
  pub even : size header.range % 2 ≡ 0
