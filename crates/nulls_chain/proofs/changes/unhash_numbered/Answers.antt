use Rattle.std.proofs.Common.{rules, ◌≡◌, [], List, ℕ, sym, append-nil, ap, ◌∙◌, refl, arith}
use Rattle.table_rule.specs.Plays.{Sat, card_in, first_of, settled}
use Rattle.table_rule.specs.declared.view.Sight.{Sight}
use Rattle.nulls_chain.proofs.Saw.{saw}
use Rattle.table_rule.specs.Book.{open-end}
use Rattle.nulls_chain.proofs.Changed.{stands_in}
use Rattle.nulls_chain.proofs.changes.unhash_numbered.Goals as goal
use Rattle.table_rule.specs.Calls.{view, layout_of}

pub step_begin_unhash-begin-requires-clause-listed : goal.step_begin_unhash-begin-requires-clause-listed
step_begin_unhash-begin-requires-clause-listed g c = stands_in (layout_of c.args.chains.now) c.args.before c.args.slot (view c.args.steps.now) c.requires.listed

pub leave-requires-clause-begun : goal.leave-requires-clause-begun
leave-requires-clause-begun g c = ((record { kind = 0; bucket = first_of (view c.args.steps.now).chain.locked; slot = c.args.slot; card = card_in c.args.slot (view c.args.steps.now).chain.walked; begins = c.step_begin_unhash-begin.result; ends = open-end }, ap (λ (s : Sat). s.0.book.opened) c.step_begin_unhash-begin.ensures.view, refl, refl), ap (λ (s : Sat). s.0.done) c.step_begin_unhash-begin.ensures.view)

pub step_end-end-requires-clause-held : goal.step_end-end-requires-clause-held
step_end-end-requires-clause-held g c = (c.args.locked.now.bucket, search rules)

pub step_end-end-requires-clause-open : goal.step_end-end-requires-clause-open
step_end-end-requires-clause-open g c = (record { kind = 0; bucket = first_of (view c.args.steps.now).chain.locked; slot = c.args.slot; card = card_in c.args.slot (view c.args.steps.now).chain.walked; begins = c.step_begin_unhash-begin.result; ends = open-end }, ap (λ (b : Rattle.table_rule.specs.declared.view.BookView.BookView). b.opened) c.leave.ensures.book.0 ∙ ap (λ (s : Sat). s.0.book.opened) c.step_begin_unhash-begin.ensures.view, omega arith)

pub returns-clause-saw : goal.returns-clause-saw
returns-clause-saw g c =
    let v = view c.args.steps.now in
    let b : ℕ = c.step_begin_unhash-begin.result in
    let e : ℕ = c.step_end-end.result in
    let left : (view c.leave.new.steps).sights ≡ settled v.sights b = c.leave.ensures.sights ∙ ap (λ (s : Sat). s.0.sights) c.step_begin_unhash-begin.ensures.view in
    saw v (view c.step_end-end.new.steps) b e [] c.step_begin_unhash-begin.ensures.seen (search rules)
    (ap (λ (s : Sat). s.0.sights) c.step_end-end.ensures.view ∙ (ap (λ (l : List Sight). settled l e) left ∙ ap (λ (l : List Sight). settled l e) (sym (append-nil (settled v.sights b)))))
