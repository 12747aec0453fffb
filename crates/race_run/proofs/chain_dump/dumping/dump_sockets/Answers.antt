use Rattle.std.proofs.Common.{◌≡◌, ◌+◌, ℕ, ap, refl, arith}
use Rattle.chain_book.specs.declared.shape.Shape.{Shape}
use Rattle.table_rule.specs.Calls.{layout_of, view}
use Rattle.table_rule.specs.Passes.{known}
use Rattle.table_rule.specs.Plays.{Sat, seeing}
use Rattle.table_rule.specs.Words.{bucket_count}
use Rattle.table_rule.specs.declared.view.View.{View}
use Rattle.race_run.specs.declared.chain_dump.dumping.Dump.{Dump}
use Rattle.race_run.proofs.Dumped.{keeps_all, saw_all, own_book}
use Rattle.race_run.proofs.chain_dump.dumping.dump_sockets.Goals as goal

pub returns-clause-saw : goal.returns-clause-saw
returns-clause-saw g c =
    let v : View = known c.args.pass.now in
    let u : View = view c.step_clock-t0.new.steps in
    let w : View = view c.list_buckets.new.steps in
    let x : View = view c.step_clock-t1.new.steps in
    let first : u ≡ seeing v c.step_clock-t0.result = ap (λ (y : Sat). y.0) c.step_clock-t0.ensures.view in
    let last : x ≡ seeing w c.step_clock-t1.result = ap (λ (y : Sat). y.0) c.step_clock-t1.ensures.view in
    let count : ℕ = c.args.shape.now.hash + c.args.shape.now.listen in
    let all : count ≡ bucket_count (layout_of c.args.chains.now) = ap (λ (s : Shape). s.hash + s.listen) c.requires.shape in
    let dump : Dump = record { items = c.list_buckets.new.items; t0 = c.step_clock-t0.result; t1 = c.step_clock-t1.result } in
    saw_all v u w x c.step_clock-t0.result c.step_clock-t1.result first last (layout_of c.args.chains.now) count all c.new-items.result.items c.list_buckets.new.items.items c.new-items.ensures.items c.in_ok-list_buckets.ensures.lists dump refl refl refl (let seen0 : u.seen ≡ c.step_clock-t0.result = ap (λ (y : View). y.seen) first in omega (arith, c.step_clock-t1.ensures.seen, c.list_buckets.ensures.seen, seen0))

pub returns-clause-own : goal.returns-clause-own
returns-clause-own g c = λ parts.
    let v : View = known c.args.pass.now in
    let u : View = view c.step_clock-t0.new.steps in
    let w : View = view c.list_buckets.new.steps in
    let x : View = view c.step_clock-t1.new.steps in
    let first : u ≡ seeing v c.step_clock-t0.result = ap (λ (y : Sat). y.0) c.step_clock-t0.ensures.view in
    let last : x ≡ seeing w c.step_clock-t1.result = ap (λ (y : Sat). y.0) c.step_clock-t1.ensures.view in
    let dump : Dump = record { items = c.list_buckets.new.items; t0 = c.step_clock-t0.result; t1 = c.step_clock-t1.result } in
    own_book v u w x c.step_clock-t0.result c.step_clock-t1.result first last (layout_of c.args.chains.now) dump refl c.step_clock-t1.ensures.whole (returns-clause-saw g c)
    (keeps_all v u w x c.step_clock-t0.result c.step_clock-t1.result first last c.list_buckets.ensures.keeps) c.requires.idle.1 parts
