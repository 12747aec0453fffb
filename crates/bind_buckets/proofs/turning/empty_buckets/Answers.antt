use Rattle.std.proofs.Common.{◌≡◌, ◌+◌, ℕ, List, arith, ap, sym, subst, ◌∙◌, length}
use Rattle.std.specs.Global.{Box}
use Rattle.list_words.proofs.PlaceLemmas.{length_push}
use Rattle.bind_buckets.specs.Bucket.{Bucket, new_bucket}
use Rattle.bind_buckets.specs.Closed.{AreNew}
use Rattle.bind_buckets.proofs.Opened.{news_push}
use Rattle.bind_buckets.proofs.turning.empty_buckets.Goals as goal

pub loop-number-init : goal.loop-number-init
loop-number-init c = (ap (λ (l : List (Box Bucket)). length l) c.new-buckets.ensures.items, λ sharing. subst (AreNew sharing 0 c.args.count) (sym c.new-buckets.ensures.items) tt)

pub loop-number-preserved : goal.loop-number-preserved
loop-number-preserved c =
    let b = c.in_ok-new.field-0 in
    let i = c.loop-number.invariant in
    let all = c.in_ok-push.ensures.items in
    let new : b.value ≡ new_bucket c.loop-number.number c.args.count = c.in_ok-new.ensures.ok ∙ c.new.ensures in (
      ap (λ (l : List (Box Bucket)). length l) all ∙ length_push c.loop-number.buckets.items b ∙ ap (λ (k : ℕ). k + 1) i.0,
      λ sharing. news_push sharing c.args.count c.loop-number.number c.loop-number.buckets.items c.push.new.self.items b (i.1 sharing) i.0 (omega arith) c.requires new all,
    )
