-- What may cross threads of the tables that they share, layer by layer.
use denote.Param.Send.{IsSend, IsSync, sendable}
use Rattle.std.proofs.Crossing.{crosses}
use Rattle.atomic_table.proofs.shared.Shared.TheSendSync as shared
use Rattle.atomic_table.proofs.send_lease.SendLease.TheSendSync as lease
use Rattle.bind_buckets.specs.contracts.bucket.Bucket as Bucket
use Rattle.bind_buckets.specs.contracts.journal.Journal as Journal
use Rattle.bind_buckets.proofs.journal.Log.TheLaws.TheKnot as knot
use Rattle.bind_buckets.proofs.held.Held.TheSendSync as held
use Rattle.sock_ops.specs.contracts.tables.Tables as Tables

journal_send : IsSend Journal.the_row
journal_send = search (sendable, crosses) depth 30

pub bucket_send : IsSend Bucket.the_row
bucket_send = search (sendable, crosses, journal_send, held.the_send) depth 30

pub tables_sync : IsSync Tables.the_row
tables_sync = search (shared.the_sync, lease.the_sync, bucket_send, crosses, knot.crosses, sendable) depth 60 fits 400000
