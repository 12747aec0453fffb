use Rattle.std.proofs.Common.{◌≡◌, ◌∙◌, ℕ, ◌-◌, List, take, ap, sym, subst}
use Rattle.std.specs.Borrow.{Bor}
use Rattle.sock_script.specs.Seen.{texts}
use Rattle.sock_script.specs.Words.{lines_of, words_of}
use Rattle.refusals.specs.Reasons.{HasReason}
use Rattle.refusals.proofs.Copied.{line_there}
use Rattle.refusals.proofs.answer.refusal_of.Goals as goal

pub returns : goal.returns
returns c =
    let copy : c.in_ok-to_vec.field-0.items ≡ c.index-line.result.now.now = c.in_ok-to_vec.ensures.items_if_clones_equal (λ x y same. same) in
    let words : texts c.deref-2.result.now ≡ words_of c.in_ok-to_vec.field-0.items =
    ap texts c.deref-2.ensures.value ∙ c.in_ok-words.ensures ∙ ap words_of (sym copy) in
    let front : texts c.first_lines.result.now ≡ take (c.args.number - 1) (lines_of c.args.text.now) =
    c.first_lines.ensures ∙ ap (λ (ls : List (Bor (List ℕ))). take (c.args.number - 1) (texts ls)) c.deref.ensures.value
    ∙ ap (take (c.args.number - 1)) c.in_ok-lines.ensures in
    record {
      first = c.requires;
      there = line_there c.in_ok-lines.lines.items (lines_of c.args.text.now) c.args.number c.index-line.result.now c.in_ok-to_vec.field-0.items
          c.in_ok-lines.ensures c.requires.within c.index-line.ensures copy;
      because = subst (λ (ws : List (List ℕ)). HasReason c.args.mode (take (c.args.number - 1) (lines_of c.args.text.now)) ws c.in_ok-reason.reason) words
          (subst (λ (ls : List (List ℕ)). HasReason c.args.mode ls (texts c.deref-2.result.now) c.in_ok-reason.reason) front c.in_ok-reason.ensures);
    }
