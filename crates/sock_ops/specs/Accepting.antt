-- What `accept` hands back: our own.
use Rattle.table_model.specs.Operations.{Did, done}
use Rattle.sock_ops.specs.declared.sock.Sock.{Sock}
use Rattle.sock_ops.specs.Socks.{mine_of}

-- the socket that was accepted
abbrev pub accepted : Sock → Did
accepted s = done (mine_of s)
