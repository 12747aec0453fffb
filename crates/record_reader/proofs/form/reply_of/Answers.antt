use Rattle.std.proofs.Common.{sym, ap, ◌∙◌, ◌∷◌, decimal}
use Rattle.std.proofs.lemmas.Bool.{false≢true}
use Rattle.std.specs.List.{list_all}
use Rattle.record_reader.specs.Words.{texts}
use Rattle.record_reader.specs.Forms as spec
use Rattle.record_reader.proofs.Replies.{all_texts, verb_is, words_are}
use Rattle.record_reader.proofs.form.reply_of.Goals as goal

pub returns-then-not-is_verb-clause-none : goal.returns-then-not-is_verb-clause-none
returns-then-not-is_verb-clause-none c vain r =
    false≢true (c.if-not-is_verb.ensures ∙ verb_is _ _ _ _ vain r (c.in_ok-_section.ensures.some.0 ∙ ap (λ t. decimal c.in_ok-_section._section ∷ t) c.in_ok-verb.ensures.some))

pub returns-then-not-are_plain-clause-none : goal.returns-then-not-are_plain-clause-none
returns-then-not-are_plain-clause-none c vain r =
    false≢true (c.if-not-are_plain.ensures ∙ sym (all_texts c.in_ok-verb.outcome.now) ∙ words_are _ _ _ _ vain r (c.in_ok-_section.ensures.some.0 ∙ ap (λ t. decimal c.in_ok-_section._section ∷ t) c.in_ok-verb.ensures.some))

pub returns-clause-some : goal.returns-clause-some
returns-clause-some c = record {
  section = c.in_ok-_section._section;
  verb = c.in_ok-verb.verb.now;
  word = c.in_ok-_word._word.now;
  rest = texts c.in_ok-_word.rest.now;
  spelled =
      c.in_ok-_section.ensures.some.0
      ∙ ap (λ t. decimal c.in_ok-_section._section ∷ t) (c.in_ok-verb.ensures.some ∙ ap (λ t. c.in_ok-verb.verb.now ∷ t) c.in_ok-_word.ensures.some);
  in_range = (c.in_ok-_section.ensures.some.1, c.in_ok-_section.ensures.some.2);
  known = sym c.if-not-is_verb.ensures;
  plain = ap (list_all spec.is_plain) (sym c.in_ok-_word.ensures.some) ∙ all_texts c.in_ok-verb.outcome.now ∙ sym c.if-not-are_plain.ensures;
  told = c.tells_vain.ensures;
}
