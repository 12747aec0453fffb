use Rattle.std.proofs.Common.{◌≡◌, ◌<◌, ℕ, List, ◌-◌, length, sym, ap, subst, ◌∙◌, arith}
use Rattle.std.proofs.lemmas.List.{length-map}
use Rattle.record_reader.specs.declared.line.Line.{Line}
use Rattle.record_reader.specs.Words.{pieces_of, texts, words_of}
use Rattle.record_reader.specs.Forms.{HasForm}
use Rattle.record_reasons.specs.Lines.{IsBefore, text_at}
use Rattle.record_reasons.specs.Outside.{EndReason, LineReason}
use Rattle.record_reasons.proofs.Copied.{line_there}
use Rattle.record_reasons.proofs.Refused.{before_form, never_true, outside_by}
use Rattle.record_reasons.proofs.outside.refused_at.Goals as goal

pub line_before-requires-clause-before : goal.line_before-requires-clause-before
line_before-requires-clause-before c = λ two.
    subst (λ (ps : List (List ℕ)). (it : Line) × HasForm (words_of (text_at ps (c.args.number - 2))) it)
    (sym (ap texts c.deref.ensures.value ∙ c.in_ok-pieces.ensures)) (before_form c.args.text.now c.args.number c.requires two)

pub returns : goal.returns
returns c =
    let copy : c.in_ok-to_vec.field-0.items ≡ c.index-line.result.now.now = c.in_ok-to_vec.ensures.items_if_clones_equal (λ x y same. same) in
    let all : texts c.deref.result.now ≡ pieces_of c.args.text.now = ap texts c.deref.ensures.value ∙ c.in_ok-pieces.ensures in
    let last : texts c.deref-2.result.now ≡ pieces_of c.args.text.now = ap texts c.deref-2.ensures.value ∙ c.in_ok-pieces.ensures in
    let long : length c.deref-2.result.now ≡ length (pieces_of c.args.text.now) =
    sym (length-map c.deref-2.result.now (λ w. w.now)) ∙ ap length last in
    outside_by c.args.text.now c.args.number c.in_ok-to_vec.field-0.items c.in_ok-before.before c.in_ok-reason.reason c.requires
    (line_there c.in_ok-pieces.pieces.items (pieces_of c.args.text.now) c.args.number c.index-line.result.now c.in_ok-to_vec.field-0.items
    c.in_ok-pieces.ensures c.requires.within c.index-line.ensures copy)
    (subst (λ (ps : List (List ℕ)). IsBefore ps c.args.number c.in_ok-before.before) all c.in_ok-before.ensures)
    (λ e. subst (λ (l : List ℕ). EndReason l c.in_ok-reason.reason) (sym copy) (c.in_ok-reason.ensures.at_end (c.is_last.ensures.1 (e ∙ sym long))))
    (λ l. subst (λ (w : List ℕ). LineReason w c.in_ok-reason.reason) (sym copy)
    (c.in_ok-reason.ensures.within (never_true c.is_last.result (λ t. absurd (omega (arith, l, long, c.is_last.ensures.0 t))))))
