-- What `bind` hands back, by the answers that it got: our own.
use Rattle.std.specs.Prelude.{ℕ, Result, Ok, Err}
use Rattle.sock_card.specs.declared.owner.Owner.{Owner}
use Rattle.bind_buckets.specs.declared.request.InUse.{InUse}
use Rattle.flat_list.specs.Owned.{bound_at}
use Rattle.port_search.specs.declared.ends.SearchEnd.{SearchEnd}
use Rattle.port_search.specs.declared.ends.SearchEnd.TheVariants as searches
use Rattle.table_model.specs.declared.operation.Cause.TheVariants as causes
use Rattle.table_model.specs.declared.operation.OpEnd.{OpEnd}
use Rattle.table_model.specs.declared.operation.OpEnd.TheVariants as errors
use Rattle.table_model.specs.Operations.{Did, done, plain}
use Rattle.sock_ops.specs.declared.sock.Sock.{Sock}
use Rattle.sock_ops.specs.declared.sock.Sock.TheVariants as socks

-- what a bucket says to a newcomer, and a search, in an operation's words
abbrev pub end_of_bind : {A : Type 0} → Result A InUse → Result A OpEnd
end_of_bind (Ok x) = Ok x
end_of_bind (Err end) = Err (errors.InUse end.0)

abbrev pub search_error : SearchEnd → OpEnd
search_error searches.NoPort = errors.NoPort
search_error (searches.Full owned held) = errors.Full owned held
search_error searches.Memory = errors.LeftOff causes.Memory
search_error searches.Busy = errors.LeftOff causes.Busy

abbrev pub end_of_search : {A : Type 0} → Result A SearchEnd → Result A OpEnd
end_of_search (Ok x) = Ok x
end_of_search (Err end) = Err (search_error end)

-- the socket of that owner, bound to the address and that port
abbrev pub bound_to : Owner → ℕ → ℕ → Did
bound_to a addr port = done (plain (bound_at a addr port))

-- the bound socket with its port, or the socket as it was
abbrev pub bound_answer : Sock → Owner → ℕ → Result ℕ OpEnd → Result (Sock × ℕ) (Sock × OpEnd)
bound_answer socket a addr (Ok port) = Ok (socks.Bound (plain (bound_at a addr port)), port)
bound_answer socket a addr (Err end) = Err (socket, end)
