use Rattle.std.proofs.Common.{◌≡◌, refl, subst}
use Rattle.flat_list.specs.declared.header.Header.{Header}
use Rattle.shared_calls.specs.Sharings.{IsNew}
use Rattle.inet_c.proofs.Holding.{holds, holds_nothing}
use Rattle.inet_c.proofs.making.share.Goals as goal

pub returns-in-Ok-boxed : goal.returns-in-Ok-boxed
returns-in-Ok-boxed c =
    let shared = c.in-Ok.shared in (
      c.if-not-are_sizes.ensures.sizes.0 refl,
      holds_nothing c.args.tables.now.boxed c.if-is_held.ensures.there,
      (
        shared,
        holds c.of.result.boxed c.in-Ok-boxed.made.value shared c.of.ensures c.in-Ok-boxed.ensures.boxed,
        subst (λ (h : Header). IsNew h c.args.tag shared) c.header_of.ensures c.in-Ok.ensures,
      ),
    )
