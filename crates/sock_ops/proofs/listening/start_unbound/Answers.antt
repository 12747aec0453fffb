use Rattle.std.proofs.Common.{ℕ, ◌%◌, true, Err, refl, ap, subst, sym, ◌∙◌}
use Rattle.sock_card.specs.Conflict.{owner_key, bind_key}
use Rattle.sock_card.specs.declared.owner.Owner.{Owner}
use Rattle.turn_table.specs.Passes.{known}
use Rattle.flat_list.specs.Owned.{bound_at}
use Rattle.bind_buckets.specs.Bucket.{entries_of}
use Rattle.bind_buckets.specs.Turned.{made}
use Rattle.port_search.specs.Turned.{BindsIn, BindsNowhere, BindsNotYet}
use Rattle.table_model.specs.declared.operation.OpEnd.TheVariants as errors
use Rattle.table_model.specs.Own.{Mine}
use Rattle.table_model.specs.Asking.{Asking, ends}
use Rattle.table_model.specs.Operations.{Did, done, refused, search_bind, listen_found, listen_at}
use Rattle.sock_ops.specs.Goes.{CarriedOut, HoldsAfter}
use Rattle.sock_ops.specs.Groups.{StartsLists}
use Rattle.sock_ops.specs.Listens.{TellsAs}
use Rattle.sock_ops.specs.Stands.{IsThere, buckets_of, chained, turned}
use Rattle.sock_ops.proofs.AskedFirst.{found_first, found_there}
use Rattle.sock_ops.proofs.BindGoes.{search_finds, search_fails, search_stops, search_away, stop_away}
use Rattle.sock_ops.proofs.Goes.{carried_both, left_of}
use Rattle.sock_ops.proofs.ListenStands.{taken_stands, taken_kept}
use Rattle.reuseport_group.specs.Passes as lists
use Rattle.sock_ops.proofs.Lists.{kept_past, sparing_keeps, bound_spares, nowhere_spares, not_yet_spares}
use Rattle.sock_ops.proofs.ListTurns.{start_keeps, taken_lists}
use Rattle.sock_ops.proofs.listening.start_unbound.Goals as goal

pub start_in_turn-requires-clause-place : goal.start_in_turn-requires-clause-place
start_in_turn-requires-clause-place g c =
    let a = c.args.owner in
    let n = buckets_of c.args.tables.now in
    c.in-Ok.ensures.place
    ∙ ap (λ (b : Owner). bind_key c.in-Ok.port b.net % n) c.bound_at-wanted.ensures
    ∙ ap (λ (b : Owner). owner_key b % n) (sym c.bound_at-bound.ensures)

pub start_in_turn-requires-clause-there : goal.start_in_turn-requires-clause-there
start_in_turn-requires-clause-there g c =
    let a = c.args.owner in
    let t = c.args.tables.now.buckets in
    let v = turned c.args.worker.now in
    let q = c.find_bind_turn.new.pass in
    let b = subst (λ (o : Owner). BindsIn t o c.args.ports v q c.in-Ok.port c.in-Ok.turn) c.bound_at-wanted.ensures c.in-Ok.ensures.bound in
    subst (λ (o : Owner). IsThere c.in-Ok.turn o) (sym c.bound_at-bound.ensures) (found_there t (bound_at a a.addr 0) c.args.ports v q c.in-Ok.port c.in-Ok.turn b refl c.requires.away)

pub returns-in-Ok-clause-carried : goal.returns-in-Ok-clause-carried
returns-in-Ok-clause-carried g c =
    let a = c.args.owner in
    let t = c.args.tables.now in
    let l = t.chains.layout in
    let n = buckets_of t in
    let v = turned c.args.worker.now in
    let q = c.find_bind_turn.new.pass in
    let w = turned c.start_in_turn.new.worker in
    let k = chained t c.args.worker.now in
    let d = chained t c.start_in_turn.new.worker in
    let r = c.start_in_turn.result in
    let port = c.in-Ok.port in
    let turn = c.in-Ok.turn in
    let found : ℕ → Asking Did = listen_found l.shape l.seed a in
    let none : Asking Did = ends (refused errors.NoPort) in
    let b = subst (λ (o : Owner). BindsIn t.buckets o c.args.ports v q port turn) c.bound_at-wanted.ensures c.in-Ok.ensures.bound in
    let h = subst (λ (o : Owner). HoldsAfter (owner_key o % n) (entries_of (made q turn)) b.begun (λ u. CarriedOut {X = Mine} done refused n o.name (listen_at l.shape l.seed true o) u w k d r)) c.bound_at-bound.ensures
    (c.start_in_turn.ensures.carried b.begun b.taken.within) in
    let f = found_first t.buckets (bound_at a a.addr 0) c.args.ports v q port turn b _ h in
    carried_both {X = Mine} done refused n a.name (search_bind a a.addr found none c.args.ports) (found port) v f.then_ w k k d
    (search_finds n a v f.then_ a.addr found none c.args.ports port k f.at) refl r f.holds

pub returns-in-Ok-clause-stands : goal.returns-in-Ok-clause-stands
returns-in-Ok-clause-stands g c =
    let a = c.args.owner in
    let t = c.args.tables.now in
    let n = buckets_of t in
    let v = turned c.args.worker.now in
    let q = c.find_bind_turn.new.pass in
    let w = turned c.start_in_turn.new.worker in
    let r = c.start_in_turn.result in
    let port = c.in-Ok.port in
    let turn = c.in-Ok.turn in
    let b = subst (λ (o : Owner). BindsIn t.buckets o c.args.ports v q port turn) c.bound_at-wanted.ensures c.in-Ok.ensures.bound in
    let h = subst (λ (o : Owner). HoldsAfter (owner_key o % n) (entries_of (made q turn)) b.begun (λ u. TellsAs (owner_key o % n) o true u w r)) c.bound_at-bound.ensures
    (c.start_in_turn.ensures.tells b.begun b.taken.within) in
    let f = found_first t.buckets (bound_at a a.addr 0) c.args.ports v q port turn b _ h in
    taken_stands n a v f.then_ w c.args.ports port c.requires.away f.at r f.holds

pub returns-in-Ok-clause-kept : goal.returns-in-Ok-clause-kept
returns-in-Ok-clause-kept g c =
    let a = c.args.owner in
    let t = c.args.tables.now in
    let n = buckets_of t in
    let v = turned c.args.worker.now in
    let q = c.find_bind_turn.new.pass in
    let w = turned c.start_in_turn.new.worker in
    let r = c.start_in_turn.result in
    let port = c.in-Ok.port in
    let turn = c.in-Ok.turn in
    let b = subst (λ (o : Owner). BindsIn t.buckets o c.args.ports v q port turn) c.bound_at-wanted.ensures c.in-Ok.ensures.bound in
    let h = subst (λ (o : Owner). HoldsAfter (owner_key o % n) (entries_of (made q turn)) b.begun (λ u. TellsAs (owner_key o % n) o true u w r)) c.bound_at-bound.ensures
    (c.start_in_turn.ensures.tells b.begun b.taken.within) in
    let f = found_first t.buckets (bound_at a a.addr 0) c.args.ports v q port turn b _ h in
    taken_kept n a v f.then_ w c.args.ports port c.requires.away f.at r f.holds

pub returns-in-Ok-clause-lists : goal.returns-in-Ok-clause-lists
returns-in-Ok-clause-lists g c =
    let a = c.args.owner in
    let t = c.args.tables.now in
    let n = buckets_of t in
    let v = turned c.args.worker.now in
    let q = c.find_bind_turn.new.pass in
    let w = turned c.start_in_turn.new.worker in
    let r = c.start_in_turn.result in
    let port = c.in-Ok.port in
    let turn = c.in-Ok.turn in
    let b = subst (λ (o : Owner). BindsIn t.buckets o c.args.ports v q port turn) c.bound_at-wanted.ensures c.in-Ok.ensures.bound in
    let h = subst (λ (o : Owner). HoldsAfter (owner_key o % n) (entries_of (made q turn)) b.begun (λ u. TellsAs (owner_key o % n) o true u w r)) c.bound_at-bound.ensures
    (c.start_in_turn.ensures.tells b.begun b.taken.within) in
    let f = found_first t.buckets (bound_at a a.addr 0) c.args.ports v q port turn b _ h in
    let starts = subst (λ (o : Owner). StartsLists true (owner_key o % n) o w c.args.worker.now.groups c.start_in_turn.new.worker.groups r) c.bound_at-bound.ensures
    (c.start_in_turn.ensures.lists b.begun b.taken.within) in
    taken_lists n (bound_at a a.addr port) f.then_ w c.args.worker.now.groups c.start_in_turn.new.worker.groups a.name r refl f.holds starts

pub returns-in-Ok-clause-listed : goal.returns-in-Ok-clause-listed
returns-in-Ok-clause-listed g c =
    let a = c.args.owner in
    let t = c.args.tables.now in
    let n = buckets_of t in
    let v = turned c.args.worker.now in
    let q = c.find_bind_turn.new.pass in
    let w = turned c.start_in_turn.new.worker in
    let r = c.start_in_turn.result in
    let port = c.in-Ok.port in
    let turn = c.in-Ok.turn in
    let b = subst (λ (o : Owner). BindsIn t.buckets o c.args.ports v q port turn) c.bound_at-wanted.ensures c.in-Ok.ensures.bound in
    let h = subst (λ (o : Owner). HoldsAfter (owner_key o % n) (entries_of (made q turn)) b.begun (λ u. TellsAs (owner_key o % n) o true u w r)) c.bound_at-bound.ensures
    (c.start_in_turn.ensures.tells b.begun b.taken.within) in
    let f = found_first t.buckets (bound_at a a.addr 0) c.args.ports v q port turn b _ h in
    let starts = subst (λ (o : Owner). StartsLists true (owner_key o % n) o w c.args.worker.now.groups c.start_in_turn.new.worker.groups r) c.bound_at-bound.ensures
    (c.start_in_turn.ensures.lists b.begun b.taken.within) in
    let bound = bound_at a a.addr port in
    kept_past (lists.groups t.groups) v f.then_ w c.args.worker.now.groups c.start_in_turn.new.worker.groups (bound_spares n (bound_at a a.addr 0) c.args.ports v f.then_ port f.at)
    (start_keeps (lists.groups t.groups) (owner_key bound % n) bound f.then_ w c.args.worker.now.groups c.start_in_turn.new.worker.groups true r f.holds starts)

pub returns-in-Err-NoPort-clause-carried : goal.returns-in-Err-NoPort-clause-carried
returns-in-Err-NoPort-clause-carried g c =
    let a = c.args.owner in
    let t = c.args.tables.now in
    let l = t.chains.layout in
    let n = buckets_of t in
    let v = turned c.args.worker.now in
    let u = known c.find_bind_turn.new.pass in
    let found : ℕ → Asking Did = listen_found l.shape l.seed a in
    let none : Asking Did = ends (refused errors.NoPort) in
    let at = subst (λ (b : Owner). BindsNowhere n b c.args.ports v u) c.bound_at-wanted.ensures (c.find_bind_turn.ensures.no_port (c.in-Err-NoPort.is ∙ ap Err c.in-Err-NoPort.field-0-is)) in
    search_fails n a v u a.addr found none c.args.ports (chained t c.args.worker.now) at

pub returns-in-Err-NoPort-clause-kept : goal.returns-in-Err-NoPort-clause-kept
returns-in-Err-NoPort-clause-kept g c =
    let a = c.args.owner in
    let n = buckets_of c.args.tables.now in
    let v = turned c.args.worker.now in
    let u = known c.find_bind_turn.new.pass in
    let at = subst (λ (b : Owner). BindsNowhere n b c.args.ports v u) c.bound_at-wanted.ensures (c.find_bind_turn.ensures.no_port (c.in-Err-NoPort.is ∙ ap Err c.in-Err-NoPort.field-0-is)) in
    search_away n (bound_at a a.addr 0) v u c.args.ports refl c.requires.away at

pub returns-in-Err-NoPort-clause-listed : goal.returns-in-Err-NoPort-clause-listed
returns-in-Err-NoPort-clause-listed g c =
    let t = c.args.tables.now in
    let n = buckets_of t in
    let v = turned c.args.worker.now in
    let u = known c.find_bind_turn.new.pass in
    sparing_keeps (lists.groups t.groups) v u c.args.worker.now.groups (nowhere_spares n c.bound_at-wanted.result c.args.ports v u (c.find_bind_turn.ensures.no_port (c.in-Err-NoPort.is ∙ ap Err c.in-Err-NoPort.field-0-is)))

pub returns-in-Err-Memory-clause-carried : goal.returns-in-Err-Memory-clause-carried
returns-in-Err-Memory-clause-carried g c =
    let a = c.args.owner in
    let t = c.args.tables.now in
    let l = t.chains.layout in
    let n = buckets_of t in
    let v = turned c.args.worker.now in
    let u = known c.find_bind_turn.new.pass in
    let found : ℕ → Asking Did = listen_found l.shape l.seed a in
    let none : Asking Did = ends (refused errors.NoPort) in
    let at = subst (λ (b : Owner). BindsNotYet n b c.args.ports v u) c.bound_at-wanted.ensures (c.find_bind_turn.ensures.memory (c.in-Err-Memory.is ∙ ap Err c.in-Err-Memory.field-0-is)) in
    left_of n a.name (search_bind a a.addr found none c.args.ports) v u (chained t c.args.worker.now) (chained t c.args.worker.now) (search_stops n a v u a.addr found none c.args.ports (chained t c.args.worker.now) at)

pub returns-in-Err-Memory-clause-kept : goal.returns-in-Err-Memory-clause-kept
returns-in-Err-Memory-clause-kept g c =
    let a = c.args.owner in
    let n = buckets_of c.args.tables.now in
    let v = turned c.args.worker.now in
    let u = known c.find_bind_turn.new.pass in
    let at = subst (λ (b : Owner). BindsNotYet n b c.args.ports v u) c.bound_at-wanted.ensures (c.find_bind_turn.ensures.memory (c.in-Err-Memory.is ∙ ap Err c.in-Err-Memory.field-0-is)) in
    stop_away n (bound_at a a.addr 0) v u c.args.ports refl c.requires.away at

pub returns-in-Err-Memory-clause-listed : goal.returns-in-Err-Memory-clause-listed
returns-in-Err-Memory-clause-listed g c =
    let t = c.args.tables.now in
    let n = buckets_of t in
    let v = turned c.args.worker.now in
    let u = known c.find_bind_turn.new.pass in
    sparing_keeps (lists.groups t.groups) v u c.args.worker.now.groups (not_yet_spares n c.bound_at-wanted.result c.args.ports v u (c.find_bind_turn.ensures.memory (c.in-Err-Memory.is ∙ ap Err c.in-Err-Memory.field-0-is)))

pub returns-in-Err-Busy-clause-carried : goal.returns-in-Err-Busy-clause-carried
returns-in-Err-Busy-clause-carried g c =
    let a = c.args.owner in
    let t = c.args.tables.now in
    let l = t.chains.layout in
    let n = buckets_of t in
    let v = turned c.args.worker.now in
    let u = known c.find_bind_turn.new.pass in
    let found : ℕ → Asking Did = listen_found l.shape l.seed a in
    let none : Asking Did = ends (refused errors.NoPort) in
    let at = subst (λ (b : Owner). BindsNotYet n b c.args.ports v u) c.bound_at-wanted.ensures (c.find_bind_turn.ensures.busy (c.in-Err-Busy.is ∙ ap Err c.in-Err-Busy.field-0-is)) in
    left_of n a.name (search_bind a a.addr found none c.args.ports) v u (chained t c.args.worker.now) (chained t c.args.worker.now) (search_stops n a v u a.addr found none c.args.ports (chained t c.args.worker.now) at)

pub returns-in-Err-Busy-clause-kept : goal.returns-in-Err-Busy-clause-kept
returns-in-Err-Busy-clause-kept g c =
    let a = c.args.owner in
    let n = buckets_of c.args.tables.now in
    let v = turned c.args.worker.now in
    let u = known c.find_bind_turn.new.pass in
    let at = subst (λ (b : Owner). BindsNotYet n b c.args.ports v u) c.bound_at-wanted.ensures (c.find_bind_turn.ensures.busy (c.in-Err-Busy.is ∙ ap Err c.in-Err-Busy.field-0-is)) in
    stop_away n (bound_at a a.addr 0) v u c.args.ports refl c.requires.away at

pub returns-in-Err-Busy-clause-listed : goal.returns-in-Err-Busy-clause-listed
returns-in-Err-Busy-clause-listed g c =
    let t = c.args.tables.now in
    let n = buckets_of t in
    let v = turned c.args.worker.now in
    let u = known c.find_bind_turn.new.pass in
    sparing_keeps (lists.groups t.groups) v u c.args.worker.now.groups (not_yet_spares n c.bound_at-wanted.result c.args.ports v u (c.find_bind_turn.ensures.busy (c.in-Err-Busy.is ∙ ap Err c.in-Err-Busy.field-0-is)))
