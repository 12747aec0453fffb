-- What a handle holds may go to another thread, layer by layer.
use denote.Param.Send.{IsSend, sendable}
use Rattle.std.proofs.Crossing.{crosses}
use Rattle.std.proofs.MapsCrossing as maps
use Rattle.atomic_table.proofs.shared.Seat.TheSendSync as seat
use Rattle.atomic_table.proofs.shared.Shared.TheSendSync as shared
use Rattle.atomic_table.proofs.send_lease.SendLease.TheSendSync as lease
use Rattle.bind_buckets.proofs.journal.Log.TheLaws.TheKnot as knot
use Rattle.crossbeam_utils.specs.contracts.cache_padded.CachePadded as padded
use Rattle.flat_calls.proofs.tables.Tables.TheSendSync as lists
use Rattle.flat_calls.specs.contracts.tables.Tables as Lists
use Rattle.flat_list.proofs.command.LabelKey.TheSendSync as keys
use Rattle.flat_list.proofs.header.Header.TheSendSync as headers
use Rattle.label_index.specs.contracts.index.LabelIndex as LabelIndex
use Rattle.label_index.proofs.index.Log.TheLaws.TheKnot as log_knot
use Rattle.label_index.proofs.seed.LabelSeed.TheSendSync as seeds
use Rattle.section_machine.proofs.offsets.Offsets.TheSendSync as offsets
use Rattle.section_machine.proofs.waits.Waits.TheSendSync as waits
use Rattle.section_machine.specs.contracts.labels.Labels as Labels
use Rattle.section_machine.specs.contracts.machine.Machine as Machine
use Rattle.shared_calls.specs.contracts.caller.Caller as Caller
use Rattle.shared_calls.specs.contracts.limited.Limited as Limited
use Rattle.shared_calls.specs.contracts.looker.Looker as Looker
use Rattle.shared_calls.specs.contracts.tables.SharedTables as SharedTables
use Rattle.sock_ops.proofs.Crossing.{bucket_send, tables_sync}
use Rattle.sock_ops.proofs.sock.Sock.TheSendSync as sock
use Rattle.sock_ops.specs.contracts.tables.Tables as Tables

tables_send : IsSend Tables.the_row
tables_send = search (shared.the_send, lease.the_send, bucket_send, crosses, knot.crosses, sendable) depth 60 fits 400000

index_send : IsSend LabelIndex.the_row
index_send = search (keys.the_send, seeds.the_send, maps.crosses, crosses, log_knot.crosses, sendable) depth 60 fits 400000

labels_send : IsSend Labels.the_row
labels_send = search (index_send, sock.the_send, maps.crosses, crosses, sendable) depth 60 fits 400000

machine_send : IsSend Machine.the_row
machine_send = search (labels_send, offsets.the_send, waits.the_send, crosses, sendable) depth 60 fits 400000

caller_send : IsSend Caller.the_row
caller_send = search (tables_send, tables_sync, machine_send, seat.the_send, bucket_send, crosses, knot.crosses, sendable) depth 60 fits 400000

looker_alone : IsSend Looker.the_row
looker_alone = search (tables_send, tables_sync, seat.the_send, crosses, knot.crosses, sendable) depth 60 fits 400000

tables_shared : IsSend SharedTables.the_row
tables_shared = search (tables_send, tables_sync, caller_send, looker_alone, seat.the_send, bucket_send, crosses, knot.crosses, sendable) depth 60 fits 400000

pub list_send : IsSend (padded.the_row Lists.the_row)
list_send = search (lists.the_send, crosses, sendable) depth 60 fits 400000

pub shared_send : IsSend (padded.the_row SharedTables.the_row)
shared_send = search (tables_shared, crosses, sendable) depth 60 fits 400000

pub worker_send : IsSend (padded.the_row Limited.the_row)
worker_send = search (caller_send, crosses, sendable) depth 60 fits 400000

pub looker_send : IsSend (padded.the_row Looker.the_row)
looker_send = search (looker_alone, crosses, sendable) depth 60 fits 400000
