-- What the flat list is: our own model of the kernel's tables, which keep the same sockets in bind, established and
-- listening buckets.
use Rattle.std.specs.Prelude.{List, []}
use Rattle.flat_list.specs.declared.header.Header.{Header}
use Rattle.flat_list.specs.declared.socket.Socket.{Socket}
use Rattle.flat_list.specs.Groups.{Group}
use Rattle.flat_list.specs.Sections.{Section}

-- the header's values, one list of sockets, the groups of listeners, and what each section keeps
pub record Flat : Type 0 where
  pub header : Header
  pub sockets : List Socket
  pub groups : List Group
  pub sections : List Section

-- no sockets yet, and no labels
abbrev pub new_flat : Header → Flat
new_flat header = record { header = header; sockets = []; groups = []; sections = [] }
