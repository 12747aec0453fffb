-- What `connect` hands back, and what stands then: our own.
use Rattle.std.specs.Prelude.{Result, Ok, Err}
use Rattle.bind_buckets.specs.Turned.{View}
use Rattle.flat_list.specs.declared.command.End.{End}
use Rattle.table_model.specs.declared.operation.OpEnd.{OpEnd}
use Rattle.table_model.specs.Own.{Mine}
use Rattle.sock_ops.specs.Sides.{Side}
use Rattle.sock_ops.specs.declared.sock.Sock.{Sock}
use Rattle.sock_ops.specs.declared.sock.Sock.TheVariants as socks
use Rattle.sock_ops.specs.declared.tables.Tables.{Tables}
use Rattle.sock_ops.specs.Socks.{end_of}
use Rattle.sock_ops.specs.Stands.{StandsAs}

-- a connected socket stands: its bucket has it, and it is hashed
abbrev pub StandsFull : Tables → View → Side → Mine → Type 0
StandsFull t v c m = StandsAs t (socks.Full m) v c

-- the connected socket with its own end, or the socket as it was
abbrev pub connect_answer : Sock → Result Mine OpEnd → Result (Sock × End) (Sock × OpEnd)
connect_answer socket (Ok full) = Ok (socks.Full full, end_of full)
connect_answer socket (Err end) = Err (socket, end)
