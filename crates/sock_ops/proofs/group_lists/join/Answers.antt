use Rattle.std.proofs.Common.{◌<◌, ℕ, Option, refl, ap, sym, subst, ◌∙◌}
use Rattle.turn_table.specs.Passes as words
use Rattle.reuseport_group.specs.Passes as lists
use Rattle.bind_buckets.specs.Bucket.{Bucket, IsSound}
use Rattle.sock_ops.specs.Groups.{Follows}
use Rattle.sock_ops.proofs.OneChanges.{OneChanges, joined_one, follows_none, follows_some, within_groups}
use Rattle.sock_ops.proofs.group_lists.join.Goals as goal

pub publish-requires-clause-group : goal.publish-requires-clause-group
publish-requires-clause-group c =
    let b = c.args.turn.now.value.value in
    let k = c.listen.new.turn.value.value in
    let one = joined_one b k c.args.owner.now c.args.slot c.args.group (subst IsSound c.deref.ensures c.recall.ensures) c.requires.there c.requires.says (ap (λ (x : Bucket). x.held) c.listen.ensures.asks.value) in
    let some = subst (λ (o : Option ℕ). OneChanges b.number o b.held.groups k.held.groups) c.in-Some.is one in
    within_groups b.number (words.places c.args.tables.now.buckets) (lists.groups c.args.tables.now.groups) c.in-Some.group some.0 (subst (λ n. n < words.places c.args.tables.now.buckets) (sym c.requires.out.number_is) c.requires.out.place) c.requires.groups.many

pub publish-requires-clause-own : goal.publish-requires-clause-own
publish-requires-clause-own c =
    let b = c.args.turn.now.value.value in
    let k = c.listen.new.turn.value.value in
    let one = joined_one b k c.args.owner.now c.args.slot c.args.group (subst IsSound c.deref.ensures c.recall.ensures) c.requires.there c.requires.says (ap (λ (x : Bucket). x.held) c.listen.ensures.asks.value) in
    let some = subst (λ (o : Option ℕ). OneChanges b.number o b.held.groups k.held.groups) c.in-Some.is one in
    some.0 ∙ sym (ap (λ (x : Bucket). x.number) c.listen.ensures.asks.value)

pub returns-in-Some-clause-lists : goal.returns-in-Some-clause-lists
returns-in-Some-clause-lists c =
    let b = c.args.turn.now.value.value in
    let k = c.listen.new.turn.value.value in
    let p = c.args.passes.now in
    let q = c.publish.new.passes in
    let one = joined_one b k c.args.owner.now c.args.slot c.args.group (subst IsSound c.deref.ensures c.recall.ensures) c.requires.there c.requires.says (ap (λ (x : Bucket). x.held) c.listen.ensures.asks.value) in
    let some = subst (λ (o : Option ℕ). OneChanges b.number o b.held.groups k.held.groups) c.in-Some.is one in
    let e = c.publish.ensures in
    subst (λ i. Follows i c.args.group b.held k.held p q) c.requires.out.number_is
    (subst (λ (o : Option ℕ). Follows b.number o b.held k.held p q) (sym c.in-Some.is) (follows_some b.number c.in-Some.group b.held k.held p q some e.list e.listed e.kept))

pub returns-in-None-clause-lists : goal.returns-in-None-clause-lists
returns-in-None-clause-lists c =
    let b = c.args.turn.now.value.value in
    let k = c.listen.new.turn.value.value in
    let p = c.args.passes.now in
    let one = joined_one b k c.args.owner.now c.args.slot c.args.group (subst IsSound c.deref.ensures c.recall.ensures) c.requires.there c.requires.says (ap (λ (x : Bucket). x.held) c.listen.ensures.asks.value) in
    let none = subst (λ (o : Option ℕ). OneChanges b.number o b.held.groups k.held.groups) c.in-None.is one in
    subst (λ i. Follows i c.args.group b.held k.held p p) c.requires.out.number_is
    (subst (λ (o : Option ℕ). Follows b.number o b.held k.held p p) (sym c.in-None.is) (follows_none b.number b.held k.held p p none refl))
