-- What a capture holds: our own.
use Rattle.std.specs.Prelude.{List, Bool}
use Rattle.capture_reader.specs.declared.packet.Item.{Item}

-- an item for each whole record, and whether bytes of a record that isn't whole follow
pub record Capture : Type 0 where
  pub items : List Item
  pub cut : Bool
