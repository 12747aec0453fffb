use Rattle.std.proofs.Common.{rules, ◌≡◌, ◌++◌, map, ◌∙◌, ℕ, [], List, sym, ap, refl, arith, subst, ◌∷◌, append_assoc}
use Rattle.table_rule.specs.Plays.{Sat, beginning, first_of, settled, sight_at}
use Rattle.table_rule.specs.declared.view.Sight.{Sight}
use Rattle.table_rule.specs.declared.view.View.{View}
use Rattle.sock_slots.specs.Claims.{IsFull, sight_by}
use Rattle.nulls_chain.proofs.Saw.{saw, saw_at, saw_none}
use Rattle.table_rule.specs.Book.{open-end}
use Rattle.table_rule.specs.declared.view.Change.{Change}
use Rattle.table_rule.specs.Owners.{IsPlace}
use Rattle.table_rule.specs.Sole.{IsBare, FirstFree, AllUsed}
use Rattle.sock_slots.proofs.Tries.{bare_began}
use Rattle.nulls_chain.proofs.changes.hash_numbered.Goals as goal
use Rattle.table_rule.specs.Calls.{view, layout_of}
use Rattle.table_rule.specs.Words.{words_of}

pub claim-requires-clause-begun : goal.claim-requires-clause-begun
claim-requires-clause-begun g c = (record { kind = 2; bucket = first_of (view c.args.steps.now).chain.locked; slot = 0; card = []; begins = c.step_begin_hash-begin.result; ends = open-end }, ap (λ (s : Sat). s.0.book.opened) c.step_begin_hash-begin.ensures.view, refl)

pub step_forget-requires-clause-open : goal.step_forget-requires-clause-open
step_forget-requires-clause-open g c = (record { kind = 2; bucket = first_of (view c.args.steps.now).chain.locked; slot = 0; card = []; begins = c.step_begin_hash-begin.result; ends = open-end }, search rules, refl)

pub link-requires-clause-begun : goal.link-requires-clause-begun
link-requires-clause-begun g c = ((record { kind = 1; bucket = first_of (view c.args.steps.now).chain.locked; slot = c.in-Ok.slot; card = []; begins = c.step_begin_hash-begin.result; ends = open-end }, search rules, refl, refl), search rules)

pub step_end-end-requires-clause-held : goal.step_end-end-requires-clause-held
step_end-end-requires-clause-held g c = (c.args.locked.now.bucket, search rules)

pub step_end-end-requires-clause-open : goal.step_end-end-requires-clause-open
step_end-end-requires-clause-open g c = (record { kind = 1; bucket = first_of (view c.args.steps.now).chain.locked; slot = c.in-Ok.slot; card = words_of c.args.card.now; begins = c.step_begin_hash-begin.result; ends = open-end }, search rules, omega arith)

pub returns-in-Err-clause-all : goal.returns-in-Err-clause-all
returns-in-Err-clause-all g c = λ b.
    let w = subst IsBare (sym (ap (λ (s : Sat). s.0) c.step_begin_hash-begin.ensures.view)) (bare_began (view c.args.steps.now) c.step_begin_hash-begin.result b) in
    (subst (λ (l : List Change). AllUsed l 0 (layout_of c.args.chains.now).shape.slots) (ap (λ (s : Sat). s.0.book.closed) c.step_begin_hash-begin.ensures.view) (c.in-Err.ensures.all w).0, (c.in-Err.ensures.all w).1)

pub returns-in-Ok-clause-first : goal.returns-in-Ok-clause-first
returns-in-Ok-clause-first g c = λ b.
    let w = subst IsBare (sym (ap (λ (s : Sat). s.0) c.step_begin_hash-begin.ensures.view)) (bare_began (view c.args.steps.now) c.step_begin_hash-begin.result b) in
    subst (λ (l : List Change). FirstFree l (layout_of c.args.chains.now).shape.slots c.args.from c.in-Ok.slot) (ap (λ (s : Sat). s.0.book.closed) c.step_begin_hash-begin.ensures.view) (c.in-Ok.ensures.first w)

pub write_card-requires-clause-begun : goal.write_card-requires-clause-begun
write_card-requires-clause-begun g c = (record { kind = 1; bucket = first_of (view c.args.steps.now).chain.locked; slot = c.in-Ok.slot; card = []; begins = c.step_begin_hash-begin.result; ends = open-end }, search rules, refl, refl)

pub returns-in-Ok-clause-place : goal.returns-in-Ok-clause-place
returns-in-Ok-clause-place g c = λ stays.
    let h : Change = record { kind = 1; bucket = first_of (view c.args.steps.now).chain.locked; slot = c.in-Ok.slot; card = words_of c.args.card.now; begins = c.step_begin_hash-begin.result; ends = open-end } in
    subst (λ (b : ℕ). IsPlace (view c.step_end-end.new.steps).book (record { kind = 1; bucket = b; slot = c.in-Ok.slot; card = words_of c.args.card.now; begins = c.step_begin_hash-begin.result; ends = c.step_end-end.result })) (ap first_of c.requires.at.0.0) (c.step_end-end.ensures.place h (search rules) refl stays)

pub returns-in-Ok-clause-saw : goal.returns-in-Ok-clause-saw
returns-in-Ok-clause-saw g c =
    let v = view c.args.steps.now in
    let t = c.in-Ok.ensures.some in
    let b : ℕ = c.step_begin_hash-begin.result in
    let e : ℕ = c.step_end-end.result in
    let begun = ap (λ (s : Sat). s.0) c.step_begin_hash-begin.ensures.view in
    let low = c.step_begin_hash-begin.ensures.seen in
    let reads : List Sight = map (sight_by (view c.step_begin_hash-begin.new.steps)) t.4.reads in
    let more : List Sight = sight_at v b ∷ reads in
    let claimed : (view c.claim.new.steps).sights ≡ settled v.sights b ++ more =
    ap (λ (s : Sat). s.0.sights) t.5 ∙ (ap (λ (x : View). x.sights) t.4.is ∙ (ap (λ (x : View). x.sights ++ reads) begun ∙ append_assoc (settled v.sights b) (sight_at v b ∷ []) reads)) in
    let linked : (view c.link.new.steps).sights ≡ settled v.sights b ++ more = c.link.ensures.sights ∙ (ap (λ (s : Sat). s.0.sights) c.write_card.ensures.fresh ∙ claimed) in
    saw v (view c.step_end-end.new.steps) b e more low (search rules) (ap (λ (s : Sat). s.0.sights) c.step_end-end.ensures.view ∙ ap (λ (l : List Sight). settled l e) linked)

pub returns-in-Ok-clause-change : goal.returns-in-Ok-clause-change
returns-in-Ok-clause-change g c =
    let v = view c.args.steps.now in
    let t = c.in-Ok.ensures.some in
    let b : ℕ = c.step_begin_hash-begin.result in
    let e : ℕ = c.step_end-end.result in
    let begun = ap (λ (s : Sat). s.0) c.step_begin_hash-begin.ensures.view in
    let reads : List Sight = map (sight_by (view c.step_begin_hash-begin.new.steps)) t.4.reads in
    let claimed : (view c.claim.new.steps).sights ≡ settled v.sights b ++ sight_at v b ∷ reads =
    ap (λ (s : Sat). s.0.sights) t.5 ∙ (ap (λ (x : View). x.sights) t.4.is ∙ (ap (λ (x : View). x.sights ++ reads) begun ∙ append_assoc (settled v.sights b) (sight_at v b ∷ []) reads)) in
    let linked : (view c.link.new.steps).sights ≡ settled v.sights b ++ sight_at v b ∷ reads = c.link.ensures.sights ∙ (ap (λ (s : Sat). s.0.sights) c.write_card.ensures.fresh ∙ claimed) in (
      c.step_begin_hash-begin.ensures.seen,
      search rules,
      search rules,
      search rules,
      search rules,
      c.step_begin_hash-begin.ensures.above,
      saw_at v (view c.step_end-end.new.steps) b e reads (search rules) (ap (λ (s : Sat). s.0.sights) c.step_end-end.ensures.view ∙ ap (λ (l : List Sight). settled l e) linked),
    )

pub returns-in-Err-clause-saw : goal.returns-in-Err-clause-saw
returns-in-Err-clause-saw g c =
    let b : ℕ = c.step_begin_hash-begin.result in
    let begun : view c.step_begin_hash-begin.new.steps ≡ beginning (view c.args.steps.now) b = ap (λ (s : Sat). s.0) c.step_begin_hash-begin.ensures.view in
    saw_none (layout_of c.args.chains.now) (view c.args.steps.now) (view c.claim.new.steps) (view c.step_forget.new.steps) b c.in-Err.full
    (subst (λ (x : View). IsFull (layout_of c.args.chains.now) x (view c.claim.new.steps) c.in-Err.full) begun c.in-Err.ensures.full.0) c.step_begin_hash-begin.ensures.seen (ap (λ (s : Sat). s.0) c.step_forget.ensures.view)
