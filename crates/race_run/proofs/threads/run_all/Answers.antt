use denote.Param.Send.{IsSync, sendable}
use Rattle.std.proofs.Crossing.{crosses}
use Rattle.race_run.proofs.Crossing.{job_send, tables_lent, tickets_lent, script_lent, capture_lent, lent}
use Rattle.race_run.proofs.threads.run_all.Goals as goal

pub map_vec-requires-send-J : goal.map_vec-requires-send-J
map_vec-requires-send-J g c κs within = search (sendable, job_send) depth 20

pub map_vec-requires-send-X : goal.map_vec-requires-send-X
map_vec-requires-send-X g c κs within = search (sendable, job_send) depth 20

pub map_vec-requires-sync-F : goal.map_vec-requires-sync-F
map_vec-requires-sync-F g c κs within =
    let r : IsSync g.row.R = record { shared = c.type_bounds.sync-R.shared } in
    let h : IsSync g.row.G = record { shared = c.type_bounds.sync-G.shared } in
    let runtime_lent = lent 0 g.row.R r in
    let gate_lent = lent 1 g.row.G h in
    search (runtime_lent, gate_lent, tables_lent, tickets_lent, script_lent, capture_lent, crosses, sendable) depth 60 fits 400000
