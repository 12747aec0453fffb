-- What the blocks so far say of those that follow in their section of a pcapng capture: our own.
use Rattle.std.specs.Prelude.{Option, List, []}
use Rattle.capture_reader.specs.declared.number.Order.{Order}
use Rattle.capture_reader.specs.declared.header.Link.{Link}

-- the order of bytes in a section, and the link type of each of its interfaces, None for one that isn't read
pub record BlockSection : Type 0 where
  pub order : Order
  pub links : List (Option Link)

-- a section begins without interfaces
abbrev pub begun : Order → BlockSection
begun order = record { order = order; links = [] }
