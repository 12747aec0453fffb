-- The labels of a section, each with the open socket that it names, and how both are found without a search: our own.
--
-- To be read from the beginning: from `Labelled` on it is of the labels as calls see them.
use Rattle.std.specs.Prelude.{◌≡◌, ℕ, ◌<◌, Bool, true, false, List, [], ◌∷◌, ◌++◌, length, Option, None, Some, option_and_then, slice_set, map, IfSome}
use Rattle.std.specs.List.{filter_map, slice_index_or}
use Rattle.std.specs.Option.{option_map}
use Rattle.flat_list.specs.Sections.{name_at}
use Rattle.label_index.specs.Places.{place_in}
use Rattle.table_model.specs.Own.{Own, Mine, Offsets}
use Rattle.sock_ops.specs.declared.sock.Sock.{Sock}
use Rattle.sock_ops.specs.Socks.{mine_of, FitsState}

-- the sockets of such places
abbrev pub mines : List (Option Sock) → List (Option Mine)
mines sockets = map (option_map mine_of) sockets

-- the socket at a place, if one is there
abbrev pub at_place : List (Option Mine) → ℕ → Option Mine
at_place places i = slice_index_or places i None

-- those that are there, in order
abbrev pub those : List (Option Mine) → List Mine
those places = filter_map (λ (o : Option Mine). o) places

-- the socket at each place has that place's name
abbrev pub HaveNames : (ℕ → ℕ) → List (Option Mine) → Type 0
HaveNames name places = (i : ℕ) → IfSome (at_place places i) (λ (m : Mine). m.owner.name ≡ name i)

-- a section's number, the mark of the sockets to come, its labels in the order in which they were given, and at each
-- one's place its socket, while it is open; and which places are kept, so that a socket may come there
pub record Labelled : Type 0 where
  pub number : ℕ
  pub mark : ℕ
  pub labels : List (List ℕ)
  pub places : List (Option Mine)
  pub kept : List Bool

-- of a section that has given none
abbrev pub no_labels : ℕ → Labelled
no_labels n = record { number = n; mark = 0; labels = []; places = []; kept = [] }

-- a socket may come to that place
abbrev pub IsKept : Labelled → ℕ → Type 0
IsKept l i = slice_index_or l.kept i false ≡ true

-- the open socket that a label names
abbrev pub named_by : Labelled → List ℕ → Option Mine
named_by l label = option_and_then (at_place l.places) (place_in l.labels label)

-- at that place is this now
abbrev pub with_place : Labelled → ℕ → Option Mine → Labelled
with_place l i o = record l { places = slice_set l.places i o }

-- sockets to come get that mark
abbrev pub with_mark : Labelled → ℕ → Labelled
with_mark l mark = record l { mark = mark }

-- one label more, without a socket so far
abbrev pub with_given : Labelled → List ℕ → Labelled
with_given l label =
    record l { labels = l.labels ++ label ∷ []; places = l.places ++ None ∷ []; kept = l.kept ++ true ∷ [] }

-- labels and sockets are as they were, whatever is kept
pub record KeepsLabels (old new : Labelled) : Type 0 where
  pub number : new.number ≡ old.number
  pub mark : new.mark ≡ old.mark
  pub labels : new.labels ≡ old.labels
  pub places : new.places ≡ old.places

-- and that place is kept no more, if it is empty
pub record LetsGo (old : Labelled) (i : ℕ) (new : Labelled) : Type 0 where
  pub same : KeepsLabels old new
  pub gone : at_place old.places i ≡ None → new.kept ≡ slice_set old.kept i false

-- the label names no open socket
pub record IsUnnamed (old : Labelled) (label : List ℕ) (new : Labelled) : Type 0 where
  pub none : named_by old label ≡ None
  pub kept : new ≡ old

-- the socket that a label names was taken out of its place
pub record Takes (old : Labelled) (label : List ℕ) (new : Labelled) (place : ℕ) (socket : Sock) : Type 0 where
  pub named : named_by old label ≡ Some (mine_of socket)
  pub there : at_place old.places place ≡ Some (mine_of socket)
  pub within : place < length old.labels
  pub name : (mine_of socket).owner.name ≡ name_at old.number place
  pub state : FitsState socket
  pub stays : IsKept old place
  pub after : new ≡ with_place old place None

-- a section's own, with those labels and sockets
abbrev pub own_of : Labelled → ℕ → Offsets → List Mine → Own
own_of l moment offsets waits =
    record {
      number = l.number;
      labels = l.labels;
      mark = l.mark;
      moment = moment;
      offsets = offsets;
      sockets = those l.places;
      waits = waits;
    }
