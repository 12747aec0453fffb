use Rattle.std.proofs.Common.{true, ◌&&◌, sym}
use Rattle.bind_buckets.specs.Tally.{is_exclusive, is_unshared}
use Rattle.bind_buckets.proofs.Tallied.{counts_here, more_counts, unshared_with}
use Rattle.bind_buckets.proofs.tally.Tally.with.Goals as goal

pub returns : goal.returns
returns c = λ at has_mark owners here mark k.
    let a = c.args.owner.now in
    record {
      owners = more_counts at owners a _ _ true here c.more.ensures k.owners;
      exclusive = more_counts (λ b. at b && is_exclusive b) owners a _ _ _ (counts_here _ _ _ here c.is_exclusive.ensures) c.more-2.ensures k.exclusive;
      unshared = more_counts (λ b. at b && is_unshared c.user_with-uid.result b) owners a _ _ _ (counts_here _ _ _ here c.is_unshared.ensures) c.more-3.ensures (unshared_with at has_mark c.args.self owners a.uid _ c.user_with-uid.ensures k);
      marked = more_counts (λ b. at b && has_mark b) owners a _ _ _ (counts_here _ _ _ here (sym mark)) c.more-4.ensures k.marked;
    }
