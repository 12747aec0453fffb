-- How places stand: in an array, or on pages. Our own.
use Rattle.std.specs.Prelude.{List, map, is_some}
use Rattle.std.specs.Option.{option_flatten}
use Rattle.open_places.specs.Cells.{Places}
use Rattle.open_places.specs.Pages.{Cell}
use Rattle.open_places.specs.declared.places.Form.{Form}
use Rattle.open_places.specs.declared.places.Form.TheVariants as forms

-- the places of such cells, one after the other
abbrev pub in_array : {T : Type 0} → List (Cell T) → Places T
in_array cells = record { cells = map option_flatten cells; kept = map is_some cells }

-- the places of either form
abbrev pub places_in : {T : Type 0} → Form T → Places T
places_in (forms.Array cells) = in_array cells
places_in (forms.Pages places) = places
