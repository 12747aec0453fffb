-- A place that is at home is in one of the table's buckets.
use Rattle.std.proofs.Common.{ℕ, ◌<◌, sym, subst}
use Rattle.chain_book.specs.Homes.{chain_count}
use Rattle.table_model.proofs.parts.Chains.{home_below}
use Rattle.table_rule.specs.Calls.{layout_of}
use Rattle.table_rule.specs.Words.{bucket_count}
use Rattle.table_rule.specs.declared.view.Layout.{Layout}
use Rattle.nulls_chain.specs.declared.keeping.Place.{Place}
use Rattle.sock_ops.specs.Sides.{IsAtHome}
use Rattle.sock_ops.specs.declared.chains.table.ChainTable.{ChainTable}

pub near_of : (t : ChainTable) (p : Place) → IsAtHome t p → p.bucket < bucket_count (layout_of t.chains)
near_of t p home =
    let near : p.bucket < chain_count t.layout.shape =
    subst (λ (b : ℕ). b < chain_count t.layout.shape) (sym home) (home_below t.layout.shape t.layout.seed p.card t.sized.hash t.sized.listen) in
    subst (λ (l : Layout). p.bucket < chain_count l.shape) t.laid near
