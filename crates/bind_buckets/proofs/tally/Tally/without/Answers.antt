use Rattle.std.proofs.Common.{true, ◌&&◌, sym}
use Rattle.bind_buckets.specs.Tally.{is_exclusive, is_unshared}
use Rattle.bind_buckets.proofs.Tallied.{counts_here, less_counts}
use Rattle.bind_buckets.proofs.tally.Tally.without.Goals as goal

pub returns-clause-counts : goal.returns-clause-counts
returns-clause-counts c = λ at has_mark is owners here mark found k.
    let a = c.args.owner.now in
    record {
      owners = less_counts at is owners a _ _ true here found c.less.ensures k.owners;
      exclusive = less_counts (λ b. at b && is_exclusive b) is owners a _ _ _ (counts_here _ _ _ here c.is_exclusive.ensures) found c.less-2.ensures k.exclusive;
      unshared = less_counts (λ b. at b && is_unshared c.args.self.uid b) is owners a _ _ _ (counts_here _ _ _ here c.is_unshared.ensures) found c.less-3.ensures k.unshared;
      marked = less_counts (λ b. at b && has_mark b) is owners a _ _ _ (counts_here _ _ _ here (sym mark)) found c.less-4.ensures k.marked;
    }
