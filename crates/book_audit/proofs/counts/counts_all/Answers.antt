use Rattle.std.proofs.Common.{List, length, count_by, ap, ◌∙◌}
use Rattle.book_audit.specs.declared.printed.PrintedLife.{PrintedLife}
use Rattle.book_audit.proofs.Changes.{is_unhashed, counted}
use Rattle.book_audit.proofs.counts.counts_all.Goals as goal

pub returns : goal.returns
returns c = let same = c.as_slice-lives.ensures.value in
    counted c.args.printed.now (length c.as_slice-lives.result.now) c.unhashed.result c.comes_to.result (ap (λ (xs : List PrintedLife). length xs) same)
    (c.unhashed.ensures ∙ ap (λ (xs : List PrintedLife). count_by is_unhashed xs) same) c.comes_to.ensures
