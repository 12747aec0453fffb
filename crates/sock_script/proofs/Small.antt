-- How much a text can say: sections have numbers to 64, and each command takes a line of its own that isn't empty.
use Rattle.std.proofs.Common.{◌≡◌, ℕ, ◌+◌, ◌*◌, ◌^◌, ◌<◌, ◌≤◌, ◌∙◌, List, [], ◌∷◌, ◌++◌, length, length-append, cond, Bool, true, false, inl, inr, arith, sym, refl, ap, subst}
use Rattle.std.specs.List.{slice_split, onto_first}
use Rattle.std.proofs.lemmas.List.Splits.{length-slice_split}
use Rattle.list_words.specs.Lists.{Each}
use Rattle.list_words.proofs.EachLemmas.{each_weaken, each_push}
use Rattle.flat_list.specs.declared.command.Command.{Command}
use Rattle.flat_list.specs.declared.command.Command.TheVariants as commands
use Rattle.flat_list.specs.Script.{Script, IsSmall}
use Rattle.sock_script.specs.declared.parse.Mode.{Mode}
use Rattle.sock_script.specs.declared.line.Line.{Line}
use Rattle.sock_script.specs.declared.line.Line.TheVariants as lines
use Rattle.sock_script.specs.Words.{lines_of, words_of, is_line_feed}
use Rattle.sock_script.specs.Forms.{HasForm, command_words}
use Rattle.sock_script.specs.Reading.{Draft, Follows, ReadsLine, Reads, past, with_command, nothing_yet, script_of}
use Rattle.sock_script.proofs.LineCases.{line_cases}

-- the bytes of some lines, each with its line feed
pub weight : List (List ℕ) → ℕ
weight [] = 0
weight (text ∷ texts) = length text + 1 + weight texts

-- each line weighs something
pub count_weighs : (texts : List (List ℕ)) → length texts ≤ weight texts
unfolding weight
count_weighs [] = omega arith
count_weighs (text ∷ texts) = omega (arith, count_weighs texts)

-- the weight of lines in two parts
pub weight_append : (xs ys : List (List ℕ)) → weight (xs ++ ys) ≡ weight xs + weight ys
unfolding weight
weight_append [] ys = omega arith
weight_append (x ∷ xs) ys = omega (arith, weight_append xs ys)

-- one line's weight
pub weight_one : (text : List ℕ) → weight (text ∷ []) ≡ length text + 1
unfolding weight
weight_one text = omega arith

onto_first_weighs : (b : ℕ) (texts : List (List ℕ)) → 0 < length texts → weight (onto_first b texts) ≡ weight texts + 1
unfolding weight
onto_first_weighs b [] h = absurd (omega arith)
onto_first_weighs b (text ∷ texts) h = omega arith

one_byte_more : (at : Bool) (b : ℕ) (texts : List (List ℕ)) (n : ℕ) → 0 < length texts → weight texts ≡ n → weight (cond at ([] ∷ texts) (onto_first b texts)) ≡ n + 1
unfolding weight
one_byte_more true b texts n h e = omega arith
one_byte_more false b texts n h e = onto_first_weighs b texts h ∙ ap (λ k. k + 1) e

split_weighs : (text : List ℕ) → weight (slice_split is_line_feed text) ≡ length text + 1
unfolding weight
split_weighs [] = omega arith
split_weighs (b ∷ text) =
    one_byte_more (is_line_feed b) b (slice_split is_line_feed text) (length text + 1) (omega (arith, length-slice_split is_line_feed text)) (split_weighs text) ∙ omega arith

pub lines_weigh : (text : List ℕ) → weight (lines_of text) ≡ length text + 1
unfolding lines_of
lines_weigh text = split_weighs text

-- a command has a word, so its line has a byte
has_words : (c : Command) → command_words c ≡ [] → ⊥
has_words (commands.Socket label options) e = cc
has_words (commands.Bind label end) e = cc
has_words (commands.Listen label) e = cc
has_words (commands.Connect label from to) e = cc
has_words (commands.Accept listener label from at) e = cc
has_words (commands.Syn listener label from at) e = cc
has_words (commands.Ack request label) e = cc
has_words (commands.Close label) e = cc
has_words (commands.Drop label) e = cc
has_words (commands.At moment) e = cc
has_words commands.Reap e = cc
has_words (commands.Look query) e = cc
has_words (commands.Packets count) e = cc
has_words commands.Dump e = cc

not_empty : (text : List ℕ) (c : Command) → HasForm (words_of text) (lines.Command c) → 1 ≤ length text
unfolding words_of
not_empty [] c h = absurd (has_words c (sym h.0))
not_empty (b ∷ text) c h = omega arith

-- twice the commands of each section are at most so many
abbrev Within : ℕ → List (List Command) → Type 0
Within k sections = Each (λ (commands : List Command). 2 * length commands ≤ k) sections

more_within : (c : Command) (k n : ℕ) (sections : List (List Command)) → k + 2 ≤ n → Within k sections → Within n (with_command c sections)
more_within c k n [] le h = tt
more_within c k n (s ∷ []) le h = (omega (arith, length-append s (c ∷ []), h.0), tt)
more_within c k n (s ∷ t ∷ rest) le h = (omega (arith, h.0), more_within c k n (t ∷ rest) le h.1)

wider : (k n : ℕ) (sections : List (List Command)) → k ≤ n → Within k sections → Within n sections
wider k n sections le h =
    each_weaken (λ (commands : List Command). 2 * length commands ≤ k) (λ (commands : List Command). 2 * length commands ≤ n) sections (λ s p. omega arith) h

-- the sections are few, and their commands
record IsWithin (k : ℕ) (draft : Draft) : Type 0 where
  sections : length draft.sections ≤ 64
  commands : Within k draft.sections

-- where the sections stay
still_within : (old new : Draft) (k n : ℕ) → new.sections ≡ old.sections → k ≤ n → IsWithin k old → IsWithin n new
still_within old new k n same le w = record {
  sections = omega (arith, ap length same, w.sections);
  commands = subst (Within n) (sym same) (wider k n old.sections le w.commands);
}

pushed_sections : (k n : ℕ) (sections : List (List Command)) → k ≤ n → Within k sections → Within n (sections ++ [] ∷ [])
pushed_sections k n sections le h =
    each_push (λ (commands : List Command). 2 * length commands ≤ n) sections [] (wider k n sections le h) (omega arith)

with_command_length : (c : Command) (sections : List (List Command)) → length (with_command c sections) ≡ length sections
with_command_length c [] = refl
with_command_length c (s ∷ []) = refl
with_command_length c (s ∷ t ∷ rest) = omega (arith, with_command_length c (t ∷ rest))

module _ (mode : Mode) where
  -- a line's bytes make no section
  abbrev passed : (old : Draft) (text : List ℕ) (k : ℕ) → IsWithin k old → IsWithin k (past old text)
  passed old text k w = record { sections = w.sections; commands = w.commands }

  after_form : (old new : Draft) (text : List ℕ) (k : ℕ) (line : Line) → HasForm (words_of text) line → Follows mode old line new → IsWithin k old → IsWithin (length text + 1 + k) new
  after_form old new text k lines.PassedOver form h w = still_within old new k _ (ap (λ d. d.sections) h) (omega arith) w
  after_form old new text k (lines.Table shape) form h w = still_within old new k _ (ap (λ d. d.sections) h.1) (omega arith) w
  after_form old new text k (lines.Range range) form h w = still_within old new k _ (ap (λ d. d.sections) h.1) (omega arith) w
  after_form old new text k (lines.Reserved reserved) form h w = still_within old new k _ (ap (λ d. d.sections) h.1) (omega arith) w
  after_form old new text k (lines.Seed seed) form h w = still_within old new k _ (ap (λ d. d.sections) h.1) (omega arith) w
  after_form old new text k (lines.Offset offset) form h w = still_within old new k _ (ap (λ d. d.sections) h.1) (omega arith) w
  after_form old new text k (lines.TimeWaitReuse reuse) form h w = still_within old new k _ (ap (λ d. d.sections) h.1) (omega arith) w
  after_form old new text k (lines.Capture dev net) form h w = still_within old new k _ (ap (λ d. d.sections) h) (omega arith) w
  after_form old new text k (lines.Section number) form h w =
      subst (IsWithin (length text + 1 + k)) (sym h.1) (record {
        sections = omega (arith, length-append old.sections ([] ∷ []), h.0, form.2);
        commands = pushed_sections k _ old.sections (omega arith) w.commands;
      })
  after_form old new text k (lines.Command c) form h w =
      let byte : 1 ≤ length text = not_empty text c form in
      subst (IsWithin (length text + 1 + k)) (sym h.1) (record {
        sections = omega (arith, with_command_length c old.sections, w.sections);
        commands = more_within c k _ old.sections (omega arith) w.commands;
      })

  -- a line's bytes are read, or are a capture's
  after_line : (old new : Draft) (text : List ℕ) (k : ℕ) → ReadsLine mode old text new → IsWithin k old → IsWithin (length text + 1 + k) new
  after_line old new text k h w =
      elim (line_cases mode old text new h) [
        | inl r ↦ after_form (past old text) new text k r.line r.form r.follows (passed old text k w)
        | inr same ↦ still_within old new k _ (ap (λ d. d.sections) same.2) (omega arith) w
      ]

  after_lines : (old new : Draft) (texts : List (List ℕ)) (k : ℕ) → Reads mode old texts new → IsWithin k old → IsWithin (weight texts + k) new
  unfolding weight
  after_lines old new [] k h w = still_within old new k _ (ap (λ d. d.sections) h) (omega arith) w
  after_lines old new (text ∷ texts) k h w =
      let most = after_lines h.0 new texts (length text + 1 + k) h.2 (after_line old h.0 text k h.1 w) in
      record { sections = most.sections; commands = wider _ _ new.sections (omega arith) most.commands }

  -- a text of 2 ^ 24 bytes at most is a small script
  pub small_script : (text : List ℕ) (draft : Draft) (script : Script) → length text ≤ 2 ^ 24 → Reads mode nothing_yet (lines_of text) draft → script ≡ script_of draft → IsSmall script
  small_script text draft script small h is =
      let w = after_lines nothing_yet draft (lines_of text) 0 h (record { sections = omega arith; commands = tt }) in
      let bytes : weight (lines_of text) ≡ length text + 1 = lines_weigh text in
      subst IsSmall (sym is) (record {
        sections = w.sections;
        commands = each_weaken (λ (commands : List Command). 2 * length commands ≤ weight (lines_of text) + 0) (λ (commands : List Command). length commands < 2 ^ 24) draft.sections (λ s p. omega arith) w.commands;
      })
