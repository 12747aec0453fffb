use Rattle.std.proofs.Common.{List, subst}
use Rattle.std.proofs.lemmas.Result.{IfOk-weaker}
use Rattle.list_words.specs.Lists.{Each}
use Rattle.book_audit.specs.declared.stays.Stay.{Stay}
use Rattle.book_audit.specs.Index.{IsMarked}
use Rattle.book_audit.proofs.Faces.{marks_of}
use Rattle.book_audit.proofs.index.marked.Goals as goal

pub returns : goal.returns
returns c = IfOk-weaker c.raised.result _ _
    (λ v e. marks_of c.args.lives.now c.in_ok-stays.stays.items c.sort_by_key.new.self.items v.items c.in_ok-stays.ensures c.in_ok-sort_by_key.ensures.permutation
    (subst (λ (xs : List Stay). Each (IsMarked v.items) xs) c.deref.ensures.value e)) c.raised.ensures
