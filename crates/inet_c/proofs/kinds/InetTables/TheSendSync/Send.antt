-- Such a handle may go to another thread, as what it holds may.
use denote.Param.Send.{IsSend, owning_send, sendable}
use Rattle.crossbeam_utils.specs.contracts.cache_padded.CachePadded as padded
use Rattle.shared_calls.specs.contracts.tables.SharedTables as state
use Rattle.inet_c.proofs.Crossing.{shared_send}
use Rattle.inet_c.proofs.Keyless.{owned_keyless}
use Rattle.inet_c.specs.contracts.kinds.InetTables.{the_row, the_type}

pub send : IsSend the_row
send = owning_send the_type (search sendable) (λ d. owned_keyless (padded.the_row state.the_row) shared_send d.alloc d.ptr d.boxed) (λ k x w. tt)
