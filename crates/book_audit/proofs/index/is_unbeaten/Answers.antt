use Rattle.book_audit.proofs.Faces.{unbeaten_by}
use Rattle.book_audit.proofs.index.is_unbeaten.Goals as goal

pub returns-then-index : goal.returns-then-index
returns-then-index c = λ t lives x.
    unbeaten_by c.args.index.now lives c.deref.result.now c.args.look.now c.args.least c.requires c.deref.ensures.value c.if-index.true (c.rules_out.ensures t) x
