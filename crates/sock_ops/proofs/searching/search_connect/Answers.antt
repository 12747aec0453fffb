use Rattle.std.proofs.Common.{◌≡◌, ◌+◌, ◌^◌, ◌≤◌, ℕ, List, length, Ok, Option, arith, refl, sym, subst, ◌∙◌}
use Rattle.turn_table.specs.Passes as words
use Rattle.table_model.specs.Own.{Mine}
use Rattle.sock_ops.specs.Searching.{TriesAt, TryLeaves, KeepsDraws, PassesBy}
use Rattle.sock_ops.specs.Stands.{IsAway, buckets_of, chained, turned}
use Rattle.sock_ops.proofs.SearchGoes.{seeks, seek_found, seek_on, seek_err, enough, named_at}
use Rattle.sock_ops.proofs.searching.search_connect.Goals as goal

pub connect_at-requires-clause-draws : goal.connect_at-requires-clause-draws
connect_at-requires-clause-draws g c = c.loop-port.invariant.draws 4 c.requires.draws

pub returns-in-Ok-Some-clause-drawn : goal.returns-in-Ok-Some-clause-drawn
returns-in-Ok-Some-clause-drawn g c = λ more has. c.connect_at.ensures.drawn more (c.loop-port.invariant.draws (more + 4) has)

pub returns-in-Err-clause-drawn : goal.returns-in-Err-clause-drawn
returns-in-Err-clause-drawn g c = λ more has. c.connect_at.ensures.drawn more (c.loop-port.invariant.draws (more + 4) has)

pub returns-clause-drawn : goal.returns-clause-drawn
returns-clause-drawn g c = λ more has. let k = c.loop-port.invariant.draws (more + 4) has in omega arith

pub loop-port-init : goal.loop-port-init
loop-port-init g c =
    let t = c.args.tables.now in
    let old = c.args.worker.now in
    let ports = c.args.ports in
    let all = c.into_iter-port-iterator.ensures.into_iter_gives in
    let here = words.draws old.turns in
    record {
      can_next = tt;
      finite = tt;
      ready = c.requires.ready;
      room = subst (λ (ps : List ℕ). here + (length ps + 2) ≤ 2 ^ 48) (sym all) c.requires.enters;
      entered = subst (λ (ps : List ℕ). here + (length ps + 2) ≤ here + (length ports + 2)) (sym all) (omega arith);
      caller = refl;
      draws = λ n has. has;
      stay = λ hash place. place;
      groups = refl;
      away = c.requires.away;
      seeking = seeks (buckets_of t) c.args.owner c.args.source c.args.to c.args.moment c.args.rule (turned old) (chained t old) ports c.into_iter-port-iterator.result all;
    }

pub returns-in-Ok-Some-clause-carried : goal.returns-in-Ok-Some-clause-carried
returns-in-Ok-Some-clause-carried g c =
    let t = c.args.tables.now in
    let n = buckets_of t in
    let old = c.args.worker.now in
    let here = c.loop-port.worker in
    let new = c.connect_at.new.worker in
    let tries = subst (λ (o : Option Mine). TriesAt n t.chains.layout c.connected_at-full.result c.args.moment c.args.rule (turned here) (turned new) (chained t here) (chained t new) (Ok o)) c.in-Ok-Some.field-0-is c.in-Ok-Some.ensures.tries in
    seek_found n c.args.owner c.args.source c.args.to c.args.moment c.args.rule (turned old) (chained t old) c.args.ports c.loop-port.port-iterator c.next.new.self c.in-Some.port c.connected_at-full.result
    (turned here) (turned new) (chained t here) (chained t new) c.loop-port.invariant.seeking refl c.in-Some.ensures.steps c.connected_at-full.ensures c.in-Ok-Some.connected tries

pub loop-port-preserved : goal.loop-port-preserved
loop-port-preserved g c =
    let t = c.args.tables.now in
    let n = buckets_of t in
    let old = c.args.worker.now in
    let here = c.loop-port.worker in
    let new = c.connect_at.new.worker in
    let front = c.in-Some.ensures.steps in
    let i = c.loop-port.invariant in
    let e = c.connect_at.ensures in
    let before = words.draws here.turns in
    let past = words.draws new.turns in
    let one : past ≡ before + 1 = subst (λ (o : Option Mine). PassesBy 1 before past (Ok o)) c.in-Ok-None.field-0-is c.in-Ok-None.ensures.one in
    let tries = subst (λ (o : Option Mine). TriesAt n t.chains.layout c.connected_at-full.result c.args.moment c.args.rule (turned here) (turned new) (chained t here) (chained t new) (Ok o)) c.in-Ok-None.field-0-is c.in-Ok-None.ensures.tries in
    let keeps = subst (λ (o : Option Mine). KeepsDraws here new (Ok o)) c.in-Ok-None.field-0-is c.in-Ok-None.ensures.keeps in
    let away = subst (λ (o : Option Mine). TryLeaves t c.connected_at-full.result.name (turned new) (chained t new) (Ok o)) c.in-Ok-None.field-0-is c.in-Ok-None.ensures.leaves in
    let named : c.connected_at-full.result.name ≡ c.args.owner.name = named_at c.connected_at-full.result c.args.owner c.args.source c.in-Some.port c.args.to c.connected_at-full.ensures in
    record {
      can_next = tt;
      finite = tt;
      ready = e.ready;
      room = enough (2 ^ 48) before past 2 c.loop-port.port-iterator c.next.new.self c.in-Some.port front one i.room;
      entered = enough (words.draws old.turns + (length c.args.ports + 2)) before past 2 c.loop-port.port-iterator c.next.new.self c.in-Some.port front one i.entered;
      caller = e.caller ∙ i.caller;
      draws = λ m has. keeps m (i.draws m has);
      stay = λ hash place. e.stay hash (i.stay hash place);
      groups = e.groups ∙ i.groups;
      away = subst (λ name. IsAway name (turned new)) named away;
      seeking = seek_on n c.args.owner c.args.source c.args.to c.args.moment c.args.rule (turned old) (chained t old) c.args.ports c.loop-port.port-iterator c.next.new.self c.in-Some.port c.connected_at-full.result
          (turned here) (turned new) (chained t here) (chained t new) i.seeking refl front c.connected_at-full.ensures tries;
    }

pub returns-in-Err-clause-carried : goal.returns-in-Err-clause-carried
returns-in-Err-clause-carried g c =
    let t = c.args.tables.now in
    let n = buckets_of t in
    let old = c.args.worker.now in
    let here = c.loop-port.worker in
    let new = c.connect_at.new.worker in
    seek_err n c.args.owner c.args.source c.args.to c.args.moment c.args.rule (turned old) (chained t old) c.args.ports c.loop-port.port-iterator c.next.new.self c.in-Some.port c.connected_at-full.result
    (turned here) (turned new) (chained t here) (chained t new) c.loop-port.invariant.seeking refl c.in-Some.ensures.steps c.connected_at-full.ensures c.in-Err.end c.in-Err.ensures.tries

pub returns-in-Ok-Some-clause-groups : goal.returns-in-Ok-Some-clause-groups
returns-in-Ok-Some-clause-groups g c = c.connect_at.ensures.groups ∙ c.loop-port.invariant.groups

pub returns-in-Err-clause-groups : goal.returns-in-Err-clause-groups
returns-in-Err-clause-groups g c = c.connect_at.ensures.groups ∙ c.loop-port.invariant.groups

pub returns-clause-groups : goal.returns-clause-groups
returns-clause-groups g c = c.loop-port.invariant.groups
