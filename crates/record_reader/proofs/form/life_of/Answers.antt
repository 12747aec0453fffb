use Rattle.std.proofs.Common.{sym, ◌∙◌}
use Rattle.record_reader.proofs.Cursor.{past_one}
use Rattle.record_reader.proofs.OneForm.{hash_lacks_net}
use Rattle.record_reader.proofs.form.life_of.Goals as goal

pub returns-in_err-slot-clause-none : goal.returns-in_err-slot-clause-none
returns-in_err-slot-clause-none c =
    rw c.from_residual-in_err-slot.ensures (λ l h.
    c.in_err-slot.ensures.none l.slot _ (past_one _ _ _ _ (sym c.in_ok-bucket.ensures.some.0 ∙ past_one _ _ _ _ h.0)) h.1.slot)

pub returns-in_err-hash-clause-none : goal.returns-in_err-hash-clause-none
returns-in_err-hash-clause-none c =
    rw c.from_residual-in_err-hash.ensures (λ l h.
    let slot = past_one _ _ _ _ (sym c.in_ok-bucket.ensures.some.0 ∙ past_one _ _ _ _ h.0) in
    let card = past_one _ _ _ _ (sym c.in_ok-slot.ensures.some.0 ∙ slot) in
    let spans = c.in_ok-name.ensures.only l.name l.card _ card h.1.card (hash_lacks_net l.hash l.unhash) in
    c.in_err-hash.ensures.none l.hash l.unhash (sym spans) h.1.hash h.1.unhash)
