-- What crosses threads in a race, layer by layer.
use Rattle.std.proofs.Common.{ℕ}
use denote.RattleType.{RattleType}
use denote.Param.{param}
use denote.Param.Send.{IsSend, IsSync, param_sync, shr_sync, sendable}
use denote.Ref.{ShrRef}
use mir.Syntax.{Lifetime}
use base.Fml.{Lft}
use Rattle.std.proofs.Crossing.{crosses}
use Rattle.atomic_table.proofs.shared.Seat.TheSendSync as seat
use Rattle.atomic_table.proofs.shared.Shared.TheSendSync as shared
use Rattle.atomic_table.proofs.send_lease.SendLease.TheSendSync as lease
use Rattle.bind_buckets.proofs.journal.Log.TheLaws.TheKnot as knot
use Rattle.sock_ops.specs.contracts.tables.Tables as Tables
use Rattle.sock_ops.proofs.Crossing.{bucket_send, tables_sync}
use Rattle.flat_list.proofs.command.Reply.TheSendSync as replies
use Rattle.flat_list.specs.contracts.script.Script as Script
use Rattle.flat_list.proofs.script.Script.TheSendSync as scripts
use Rattle.capture_reader.specs.contracts.capture.Capture as Capture
use Rattle.capture_reader.proofs.capture.Capture.TheSendSync as captures
use Rattle.race_record.proofs.record.Looked.TheSendSync as looks
use Rattle.socket_list.proofs.listing.Listing.TheSendSync as listings
use Rattle.tickets.specs.contracts.pass.Tickets as TicketTable
use Rattle.race_run.specs.contracts.jobs.Job as Job

pub job_send : IsSend Job.the_row
job_send = search (seat.the_send, bucket_send, replies.the_send, listings.the_send, looks.the_send, crosses, knot.crosses, sendable) depth 60 fits 400000

pub tickets_sync : IsSync TicketTable.the_row
tickets_sync = search (shared.the_sync, lease.the_sync, crosses, sendable) depth 60 fits 400000

pub script_sync : IsSync Script.the_row
script_sync = search (scripts.the_sync, crosses, sendable) depth 60 fits 400000

pub capture_sync : IsSync Capture.the_row
capture_sync = search (captures.the_sync, crosses, sendable) depth 60 fits 400000

-- each behind a `&`
pub tables_lent : (l : Lifetime) (k : Lft) → IsSync (ShrRef l k Tables.the_row)
tables_lent l k = shr_sync l k Tables.the_row tables_sync

pub tickets_lent : (l : Lifetime) (k : Lft) → IsSync (ShrRef l k TicketTable.the_row)
tickets_lent l k = shr_sync l k TicketTable.the_row tickets_sync

pub script_lent : (l : Lifetime) (k : Lft) → IsSync (ShrRef l k Script.the_row)
script_lent l k = shr_sync l k Script.the_row script_sync

pub capture_lent : (l : Lifetime) (k : Lft) → IsSync (ShrRef l k Capture.the_row)
capture_lent l k = shr_sync l k Capture.the_row capture_sync

pub lent : (i : ℕ) (T : RattleType) → IsSync T → (l : Lifetime) (k : Lft) → IsSync (ShrRef l k (param i T))
lent i T s l k = shr_sync l k (param i T) (param_sync i T s)
