use Rattle.sock_ops.proofs.Homes.{near_of}
use Rattle.sock_ops.proofs.chains.leaving.lock_chain_of.Goals as goal

pub lock-requires-clause-bucket : goal.lock-requires-clause-bucket
lock-requires-clause-bucket g c = near_of c.args.table.now c.args.place.now c.requires.home
