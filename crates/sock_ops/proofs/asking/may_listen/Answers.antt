use Rattle.std.proofs.Common.{◌∙◌, ap, subst}
use Rattle.bind_buckets.specs.declared.request.Request.TheVariants as requests
use Rattle.bind_buckets.specs.Answers.{answer_of_listen}
use Rattle.bind_buckets.specs.Bucket.{Bucket, IsSound}
use Rattle.bind_buckets.proofs.Told.{listens_held}
use Rattle.sock_ops.proofs.Groups.{few_groups}
use Rattle.sock_ops.proofs.There.{answers_so, listens_as, listen_known, asked_there, few_buckets}
use Rattle.sock_ops.proofs.Lists.{says_so}
use Rattle.sock_ops.proofs.asking.may_listen.Goals as goal

pub returns-clause-few : goal.returns-clause-few
returns-clause-few c =
    let b = c.args.turn.now.value.value in
    let a = c.args.owner.now in
    let r = c.may_listen.result in
    let sound : IsSound b = subst IsSound c.deref.ensures c.recall.ensures in
    few_groups b.number b.held a.name a r (few_buckets b sound) sound.places
    (answers_so c.args.buckets.now c.args.pass.now c.args.turn.now c.may_listen.new.pass c.may_listen.new.turn (requests.MayListen a.name) (answer_of_listen r) c.may_listen.ensures.asks ∙ listens_as b a c.requires.there)

pub returns-clause-known : goal.returns-clause-known
returns-clause-known c =
    let b = c.args.turn.now.value.value in
    let a = c.args.owner.now in
    let r = c.may_listen.result in
    listen_known b.number b.held a r
    (answers_so c.args.buckets.now c.args.pass.now c.args.turn.now c.may_listen.new.pass c.may_listen.new.turn (requests.MayListen a.name) (answer_of_listen r) c.may_listen.ensures.asks ∙ listens_as b a c.requires.there)

pub returns-clause-there : goal.returns-clause-there
returns-clause-there c =
    rw c.may_listen.ensures.asks.value (asked_there c.args.turn.now.value.value c.args.owner.now c.requires.there)

pub returns-clause-held : goal.returns-clause-held
returns-clause-held c =
    let b = c.args.turn.now.value.value in
    ap (λ (x : Bucket). x.held) c.may_listen.ensures.asks.value ∙ listens_held b.number b.held c.args.owner.now.name

pub returns-clause-says : goal.returns-clause-says
returns-clause-says c =
    let b = c.args.turn.now.value.value in
    let a = c.args.owner.now in
    let r = c.may_listen.result in
    let asks = c.may_listen.ensures.asks in
    says_so b c.may_listen.new.turn.value.value a.name r (ap (λ (x : Bucket). x.number) asks.value) (ap (λ (x : Bucket). x.held) asks.value ∙ listens_held b.number b.held a.name)
    (answers_so c.args.buckets.now c.args.pass.now c.args.turn.now c.may_listen.new.pass c.may_listen.new.turn (requests.MayListen a.name) (answer_of_listen r) asks)
