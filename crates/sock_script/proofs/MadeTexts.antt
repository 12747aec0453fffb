-- Generated texts are the scripts that they are said to be.
use Rattle.std.proofs.Common.{◌≡◌, ℕ, zero, suc, ◌+◌, ◌%◌, ◌^◌, ◌<◌, ◌≤◌, ◌∙◌, List, [], ◌∷◌, ◌++◌, append_assoc, append-nil, length, map, Bool, true, false, bytes_eq, IsTrue, Some, None, codes, decimal, arith, refl, sym, ap, subst, ◌⊎◌, inl, inr}
use Rattle.std.specs.Fmt.{digits}
use Rattle.std.specs.List.{list_any, slice_index_or, flat_map}
use Rattle.std.proofs.lemmas.Bool.{or_from, false_from_ne_true, not_from_false}
use Rattle.std.proofs.lemmas.Fmt.{decimal_injective}
use Rattle.std.proofs.lemmas.List.{map-append}
use Rattle.std.proofs.lemmas.List.Elements.{filter_map-append}
use Rattle.std.proofs.lemmas.List.Folds.{list_any-append}
use Rattle.std.proofs.lemmas.Slice.Eq.{bytes_eq-Decides}
use Rattle.list_words.specs.Lists.{Each}
use Rattle.list_words.proofs.EachLemmas.{each_append}
use Rattle.flat_list.specs.declared.command.Command.{Command}
use Rattle.flat_list.specs.declared.command.Command.TheVariants as commands
use Rattle.sock_script.specs.declared.parse.Mode.TheVariants as modes
use Rattle.sock_script.specs.declared.line.Line.{Line}
use Rattle.sock_script.specs.declared.line.Line.TheVariants as lines
use Rattle.sock_script.specs.Words.{lines_of, words_of}
use Rattle.inet_io.specs.Texts.{addr_text, end_text}
use Rattle.chain_book.specs.Shapes.{ShapeFits}
use Rattle.sock_script.specs.Forms.{HasForm, CommandFits, command_words, shape_words}
use Rattle.inet_io.specs.Labels.{is_label}
use Rattle.sock_script.specs.Grammar.{IsScript, given_label, given_labels}
use Rattle.sock_script.specs.Reading.{Draft, Follows, ReadsLine, Reads, is_new, nothing_yet, past, script_of}
use Rattle.sock_script.proofs.LineCases.{reads}
use Rattle.sock_script.proofs.Printed.{are_lines}
use Rattle.sock_script.proofs.Scripts.{Reads-append}
use Rattle.sock_script.specs.Make.{TextsAreScripts, made_text, step_label, chosen_step, last_number, step_port, remote_port, step_words, step_generator, step_lines, lines_from, first_lines, line_bytes}
use Rattle.flat_list.specs.Script.{Script}
use Rattle.sock_script.specs.MadeCommands.{made_script, local_addr, end_at, new_socket, step_commands, commands_from, commands_by_remainder, made_header}
use Rattle.sock_script.proofs.SpacedWords.{IsClearWord, IsClearLine, spaced, words_of_spaced, lines_of_bytes}
use Rattle.sock_script.proofs.StepTurns.{words_length}
use Rattle.sock_script.proofs.StepWords.{spelled, clear_word, clear_number, clear_label, clear_addr, clear_end, label_fits}

-- the draft after so many bytes
abbrev at_bytes : Draft → ℕ → Draft
at_bytes draft n = record draft { bytes = n }

-- the lines of a text, up to the end, make `new` of `old`, but for how many bytes were read
record IsRead (old : Draft) (texts : List (List (List ℕ))) (new : Draft) : Type 0 where
  clear : Each IsClearLine texts
  read : (n : ℕ) → (m : ℕ) × Reads modes.Run (at_bytes old n) (map spaced texts) (at_bytes new m)

-- no line
IsRead-none : (draft : Draft) → IsRead draft [] draft
IsRead-none draft = record { clear = tt; read = λ n. (n, refl) }

-- some lines, and then others
IsRead-append : (old mid new : Draft) (texts more : List (List (List ℕ))) → IsRead old texts mid → IsRead mid more new → IsRead old (texts ++ more) new
IsRead-append old mid new texts more h k = record {
  clear = each_append IsClearLine texts more h.clear k.clear;
  read = λ n.
      let first = h.read n in
      let rest = k.read first.0 in (
        rest.0,
        subst (λ ts. Reads modes.Run (at_bytes old n) ts (at_bytes new rest.0)) (sym (map-append spaced texts more))
            (Reads-append modes.Run (at_bytes old n) (at_bytes mid first.0) (at_bytes new rest.0) (map spaced texts) (map spaced more) first.1 rest.1),
      );
}

-- a line that begins a capture
abbrev begins_capture : Line → Bool
begins_capture (lines.Capture dev net) = true
begins_capture _ = false

-- what any other line makes has nothing to do with the bytes before
follows_at : (old new : Draft) (line : Line) (n : ℕ) → begins_capture line ≡ false → Follows modes.Run old line new → Follows modes.Run (at_bytes old n) line (at_bytes new n)
follows_at old new lines.PassedOver n plain h = ap (λ d. at_bytes d n) h
follows_at old new (lines.Table shape) n plain h = (h.0, ap (λ d. at_bytes d n) h.1)
follows_at old new (lines.Range range) n plain h = (h.0, ap (λ d. at_bytes d n) h.1)
follows_at old new (lines.Reserved reserved) n plain h = (h.0, ap (λ d. at_bytes d n) h.1)
follows_at old new (lines.Seed seed) n plain h = (h.0, ap (λ d. at_bytes d n) h.1)
follows_at old new (lines.Offset offset) n plain h = (h.0, ap (λ d. at_bytes d n) h.1)
follows_at old new (lines.TimeWaitReuse reuse) n plain h = (h.0, ap (λ d. at_bytes d n) h.1)
follows_at old new (lines.Section number) n plain h = (h.0, ap (λ d. at_bytes d n) h.1)
follows_at old new (lines.Capture dev net) n plain h = absurd (cc)
follows_at old new (lines.Command command) n plain h = (h.0, ap (λ d. at_bytes d n) h.1)

-- one line that has a form
read_line : (old new : Draft) (words : List (List ℕ)) (line : Line) (n : ℕ) → old.capture ≡ None → begins_capture line ≡ false → IsClearLine words → HasForm words line → Follows modes.Run old line new → ReadsLine modes.Run (at_bytes old n) (spaced words) (at_bytes new (n + length (spaced words) + 1))
read_line old new words line n none plain clear form follows =
    let after : ℕ = n + length (spaced words) + 1 in
    reads modes.Run (at_bytes old n) (spaced words) (at_bytes new after) none line
    (subst (λ ws. HasForm ws line) (sym (words_of_spaced words clear)) form) (follows_at old new line after plain follows)

IsRead-line : (old mid new : Draft) (words : List (List ℕ)) (texts : List (List (List ℕ))) (line : Line) → old.capture ≡ None → begins_capture line ≡ false → IsClearLine words → HasForm words line → Follows modes.Run old line mid → IsRead mid texts new → IsRead old (words ∷ texts) new
IsRead-line old mid new words texts line none plain clear form follows rest = record {
  clear = (clear, rest.clear);
  read = λ n.
      let after : ℕ = n + length (spaced words) + 1 in
      let more = rest.read after in
      (more.0, (at_bytes mid after, read_line old mid words line n none plain clear form follows, more.1));
}

-- the label isn't one that those commands give
abbrev IsFresh : ℕ → List Command → Type 0
IsFresh i section = list_any (bytes_eq (step_label i)) (given_labels section) ≡ false

-- two steps' labels differ
labels_differ : (i j : ℕ) → i < j → j < 2 ^ 64 → bytes_eq (step_label j) (step_label i) ≡ false
labels_differ i j lt fits =
    false_from_ne_true _ (λ e.
    let texts : codes "s" ++ decimal j ≡ codes "s" ++ decimal i = (bytes_eq-Decides (step_label j) (step_label i)).0 e in
    let numbers : decimal j ≡ decimal i = cc in
    let same : j ≡ i = decimal_injective j i fits (omega arith) numbers in
    absurd (omega arith))

-- a command that fits, whose words are clear
record IsReadable (command : Command) : Type 0 where
  fits : CommandFits command
  clear : Each IsClearWord (command_words command)

has_words : (c : Command) → 0 < length (command_words c)
has_words (commands.Socket label options) = omega arith
has_words (commands.Connect label from to) = omega arith
has_words (commands.Look query) = omega arith
has_words (commands.Packets count) = omega arith
has_words c = omega arith

-- commands that may follow one after the other
abbrev MayFollow : List Command → List Command → Type 0
MayFollow section [] = Unit {0}
MayFollow section (c ∷ cs) = IsReadable c × IsTrue (is_new (given_label c) section) × MayFollow (section ++ c ∷ []) cs

module _ (seed : ℕ) where
  -- what the first lines and some commands have made
  abbrev draft : List Command → Draft
  draft section =
      record {
        table = Some (made_header seed).shape;
        range = None;
        reserved = None;
        seed = Some seed;
        offset = None;
        twreuse = Some true;
        sections = section ∷ [];
        capture = None;
        bytes = 0;
      }

  -- the lines of commands that may follow
  read_commands : (section cs : List Command) → MayFollow section cs → IsRead (draft section) (map command_words cs) (draft (section ++ cs))
  read_commands section [] h = subst (λ s. IsRead (draft section) [] (draft s)) (sym (append-nil section)) (IsRead-none (draft section))
  read_commands section (c ∷ cs) h =
      let line : IsClearLine (command_words c) = record { some = has_words c; clear = h.0.clear } in
      IsRead-line (draft section) (draft (section ++ c ∷ [])) (draft (section ++ c ∷ cs)) (command_words c) (map command_words cs) (lines.Command c)
      refl refl line (refl, h.0.fits) (h.1, refl)
      (subst (λ s. IsRead (draft (section ++ c ∷ [])) (map command_words cs) (draft s)) (append_assoc section (c ∷ []) cs) (read_commands (section ++ c ∷ []) cs h.2))

  read_all : (section cs : List Command) (texts : List (List (List ℕ))) → texts ≡ map command_words cs → MayFollow section cs → IsRead (draft section) texts (draft (section ++ cs))
  read_all section cs texts is h = subst (λ ts. IsRead (draft section) ts (draft (section ++ cs))) (sym is) (read_commands section cs h)

-- the commands of step i may follow commands that don't give its label
module _ (i w : ℕ) (few : i ≤ 100000) (positive : 1 ≤ i) where
  label_clear : IsClearWord (step_label i)
  label_clear = clear_label i (omega arith)

  addr_clear : IsClearWord (addr_text (local_addr (last_number w)))
  addr_clear = clear_addr (local_addr (last_number w)) (omega arith)

  here_clear : IsClearWord (end_text (local_addr (last_number w)) (step_port w))
  here_clear = clear_end (local_addr (last_number w)) (step_port w) (omega arith) (omega arith)

  remote_clear : IsClearWord (end_text (local_addr 258) (remote_port i))
  remote_clear = clear_end (local_addr 258) (remote_port i) (omega arith) (omega arith)

  chosen_few : chosen_step i w ≤ i
  chosen_few = omega arith

  chosen_fits : IsTrue (is_label (step_label (chosen_step i w)))
  chosen_fits = label_fits (chosen_step i w) (omega (arith, chosen_few))

  chosen_clear : IsClearWord (step_label (chosen_step i w))
  chosen_clear = clear_label (chosen_step i w) (omega (arith, chosen_few))

  fits_label : IsTrue (is_label (step_label i))
  fits_label = label_fits i (omega arith)

  socket_reads : (addr port : Bool) → IsReadable (new_socket i addr port)
  socket_reads true true = record { fits = (fits_label, tt, tt, tt); clear = (clear_word _ refl, (label_clear, (clear_word _ refl, (clear_word _ refl, tt)))) }
  socket_reads true false = record { fits = (fits_label, tt, tt, tt); clear = (clear_word _ refl, (label_clear, (clear_word _ refl, tt))) }
  socket_reads false true = record { fits = (fits_label, tt, tt, tt); clear = (clear_word _ refl, (label_clear, (clear_word _ refl, tt))) }
  socket_reads false false = record { fits = (fits_label, tt, tt, tt); clear = (clear_word _ refl, (label_clear, tt)) }

  bind_reads : (addr port : ℕ) → addr < 2 ^ 32 → port < 2 ^ 16 → IsReadable (commands.Bind (step_label i) (end_at addr port))
  bind_reads addr port a p = record { fits = (fits_label, (a, p)); clear = (clear_word _ refl, (label_clear, (clear_end addr port a p, tt))) }

  listen_reads : IsReadable (commands.Listen (step_label i))
  listen_reads = record { fits = fits_label; clear = (clear_word _ refl, (label_clear, tt)) }

  may_follow : (section : List Command) → IsFresh i section → (k : ℕ) → k < 8 → MayFollow section (slice_index_or (commands_by_remainder i w) k [])
  may_follow section fresh zero lt =
      (socket_reads true false, not_from_false _ fresh, (bind_reads 0 (step_port w) (omega arith) (omega arith), refl, tt))
  may_follow section fresh (suc zero) lt =
      (socket_reads false true, not_from_false _ fresh, (bind_reads (local_addr (last_number w)) (step_port w) (omega arith) (omega arith), refl, (listen_reads, refl, tt)))
  may_follow section fresh (suc (suc zero)) lt =
      (socket_reads false false, not_from_false _ fresh, (bind_reads (local_addr (last_number w)) 0 (omega arith) (omega arith), refl, (listen_reads, refl, tt)))
  may_follow section fresh (suc (suc (suc zero))) lt = (
    socket_reads false false,
    not_from_false _ fresh,
    (
      record {
        fits = (fits_label, omega arith, (omega arith, omega arith));
        clear = (clear_word _ refl, (label_clear, (clear_word _ refl, (addr_clear, (clear_word _ refl, (clear_end (local_addr 257) (step_port w) (omega arith) (omega arith), tt))))));
      },
      refl,
      tt,
    ),
  )
  may_follow section fresh (suc (suc (suc (suc zero)))) lt = (
    record {
      fits = (chosen_fits, fits_label, (omega arith, omega arith), (omega arith, omega arith));
      clear = (clear_word _ refl, (chosen_clear, (label_clear, (clear_word _ refl, (remote_clear, (clear_word _ refl, (here_clear, tt)))))));
    },
    not_from_false _ fresh,
    tt,
  )
  may_follow section fresh (suc (suc (suc (suc (suc zero))))) lt =
      (record { fits = chosen_fits; clear = (clear_word _ refl, (chosen_clear, tt)) }, refl, tt)
  may_follow section fresh (suc (suc (suc (suc (suc (suc zero)))))) lt = (
    record {
      fits = ((omega arith, omega arith), (omega arith, omega arith), tt, tt);
      clear = (clear_word _ refl, (remote_clear, (here_clear, tt)));
    },
    refl,
    tt,
  )
  may_follow section fresh (suc (suc (suc (suc (suc (suc (suc zero))))))) lt = (
    record { fits = omega arith; clear = (clear_word _ refl, (clear_number i (omega arith), tt)) },
    refl,
    (record { fits = tt; clear = (clear_word _ refl, tt) }, refl, tt),
  )
  may_follow section fresh (suc (suc (suc (suc (suc (suc (suc (suc k)))))))) lt = absurd (omega arith)

  -- a step gives no label, or its own
  gives : (k : ℕ) → k < 8 → (given_labels (slice_index_or (commands_by_remainder i w) k []) ≡ []) ⊎ (given_labels (slice_index_or (commands_by_remainder i w) k []) ≡ step_label i ∷ [])
  gives zero lt = inr refl
  gives (suc zero) lt = inr refl
  gives (suc (suc zero)) lt = inr refl
  gives (suc (suc (suc zero))) lt = inr refl
  gives (suc (suc (suc (suc zero)))) lt = inr refl
  gives (suc (suc (suc (suc (suc zero))))) lt = inl refl
  gives (suc (suc (suc (suc (suc (suc zero)))))) lt = inl refl
  gives (suc (suc (suc (suc (suc (suc (suc zero))))))) lt = inl refl
  gives (suc (suc (suc (suc (suc (suc (suc (suc k)))))))) lt = absurd (omega arith)

-- a label that none of some commands gives
fresh_past : (j i : ℕ) (section cs : List Command) → i < j → j < 2 ^ 64 → IsFresh j section → (given_labels cs ≡ []) ⊎ (given_labels cs ≡ step_label i ∷ []) → IsFresh j (section ++ cs)
fresh_past j i section cs lt fits fresh given =
    ap (list_any (bytes_eq (step_label j))) (filter_map-append given_label section cs)
    ∙ list_any-append (bytes_eq (step_label j)) (given_labels section) (given_labels cs)
    ∙ or_from _ _ fresh (elim given [
      | inl none ↦ ap (list_any (bytes_eq (step_label j))) none
      | inr own ↦ ap (list_any (bytes_eq (step_label j))) own ∙ or_from _ false (labels_differ i j lt fits) refl
    ])

-- the labels of the steps from step i on are still to be given
abbrev AreFresh : ℕ → List Command → Type 0
AreFresh i section = (j : ℕ) → i ≤ j → j ≤ 100000 → IsFresh j section

module _ (seed : ℕ) where
  read_steps : (i : ℕ) (ws : List ℕ) (section : List Command) → 1 ≤ i → i + length ws ≤ 100001 → AreFresh i section → IsRead (draft seed section) (lines_from i ws) (draft seed (section ++ commands_from i ws))
  read_steps i [] section one few fresh = subst (λ s. IsRead (draft seed section) [] (draft seed s)) (sym (append-nil section)) (IsRead-none (draft seed section))
  read_steps i (w ∷ ws) section one few fresh =
      let le : i ≤ 100000 = omega arith in
      let k : w % 8 < 8 = omega arith in
      let step = read_all seed section (step_commands i w) (step_lines i w) (spelled i w (w % 8) k) (may_follow i w le one section (fresh i (omega arith) le) (w % 8) k) in
      let later : AreFresh (i + 1) (section ++ step_commands i w) =
      λ j more most. fresh_past j i section (step_commands i w) (omega arith) (omega arith) (fresh j (omega arith) most) (gives i w le one (w % 8) k) in
      IsRead-append (draft seed section) (draft seed (section ++ step_commands i w)) (draft seed (section ++ commands_from i (w ∷ ws))) (step_lines i w) (lines_from (i + 1) ws) step
      (subst (λ s. IsRead (draft seed (section ++ step_commands i w)) (lines_from (i + 1) ws) (draft seed s)) (append_assoc section (step_commands i w) (commands_from (i + 1) ws))
      (read_steps (i + 1) ws (section ++ step_commands i w) (omega arith) (omega arith) later))

  -- the table's words
  table_words : first_lines seed ≡ shape_words (made_header seed).shape ∷ (codes "seed" ∷ decimal seed ∷ []) ∷ (codes "twreuse" ∷ codes "1" ∷ []) ∷ (codes "script" ∷ decimal 1 ∷ []) ∷ []
  unfolding digits
  table_words = refl

  shape_fits : ShapeFits (made_header seed).shape
  shape_fits = record {
    slots = (omega arith, omega arith);
    bind = ((4, refl), omega arith);
    hash = ((10, refl), omega arith);
    listen = ((4, refl), omega arith);
  }

  shape_clear : IsClearLine (shape_words (made_header seed).shape)
  shape_clear = record {
    some = omega arith;
    clear = (clear_word _ refl, (clear_word _ refl, (clear_number 4096 (omega arith), (clear_word _ refl, (clear_number 16 (omega arith), (clear_word _ refl, (clear_number 1024 (omega arith), (clear_word _ refl, (clear_number 16 (omega arith), tt)))))))));
  }

  -- what the first lines make
  read_first : seed < 2 ^ 32 → IsRead nothing_yet (first_lines seed) (draft seed [])
  read_first fits =
      subst (λ ts. IsRead nothing_yet ts (draft seed [])) (sym table_words)
      (IsRead-line nothing_yet (record nothing_yet { table = Some (made_header seed).shape }) (draft seed []) (shape_words (made_header seed).shape) _ (lines.Table (made_header seed).shape)
      refl refl shape_clear (refl, shape_fits) ((refl, refl), refl)
      (IsRead-line (record nothing_yet { table = Some (made_header seed).shape }) (record nothing_yet { table = Some (made_header seed).shape; seed = Some seed }) (draft seed []) (codes "seed" ∷ decimal seed ∷ []) _ (lines.Seed seed)
      refl refl (record { some = omega arith; clear = (clear_word _ refl, (clear_number seed (omega arith), tt)) }) (refl, fits) ((refl, refl), refl)
      (IsRead-line (record nothing_yet { table = Some (made_header seed).shape; seed = Some seed }) (record nothing_yet { table = Some (made_header seed).shape; seed = Some seed; twreuse = Some true }) (draft seed []) (codes "twreuse" ∷ codes "1" ∷ []) _ (lines.TimeWaitReuse true)
      refl refl (record { some = omega arith; clear = (clear_word _ refl, (clear_word _ refl, tt)) }) refl ((refl, refl), refl)
      (IsRead-line (record nothing_yet { table = Some (made_header seed).shape; seed = Some seed; twreuse = Some true }) (draft seed []) (draft seed []) (codes "script" ∷ decimal 1 ∷ []) [] (lines.Section 1)
      refl refl (record { some = omega arith; clear = (clear_word _ refl, (clear_number 1 (omega arith), tt)) }) (refl, omega arith, omega arith) (refl, refl)
      (IsRead-none (draft seed []))))))

-- an empty line is passed over
empty_line : (old : Draft) → old.capture ≡ None → ReadsLine modes.Run old [] (past old [])
unfolding words_of
empty_line old none = reads modes.Run old [] (past old []) none lines.PassedOver tt refl

-- a text whose lines are read is the script that they make
script_of_read : (draft : Draft) (texts : List (List (List ℕ))) → draft.capture ≡ None → IsRead nothing_yet texts draft → IsScript modes.Run (flat_map line_bytes texts) (script_of draft)
script_of_read draft texts none h =
    let all = h.read 0 in
    let last : Draft = past (at_bytes draft all.0) [] in
    are_lines modes.Run (lines_of (flat_map line_bytes texts)) (script_of draft) (
      last,
      subst (λ ls. Reads modes.Run nothing_yet ls last) (sym (lines_of_bytes texts h.clear))
          (Reads-append modes.Run nothing_yet (at_bytes draft all.0) last (map spaced texts) ([] ∷ []) all.1 (last, empty_line (at_bytes draft all.0) none, refl)),
      refl,
    )

-- a generated text is the script of its steps
pub text_is_script : (seed count : ℕ) → seed < 2 ^ 32 → count ≤ 100000 → IsScript modes.Run (made_text seed count) (made_script seed count)
text_is_script seed count fits few =
    let words : List ℕ = step_words seed count in
    let all : List (List (List ℕ)) = lines_from 1 words in
    let length_is : length words ≡ count = words_length (step_generator seed) count in
    let steps = read_steps seed 1 words [] (omega arith) (omega arith) (λ j some most. refl) in
    script_of_read (draft seed (commands_from 1 words)) (first_lines seed ++ all) refl
    (IsRead-append nothing_yet (draft seed []) (draft seed (commands_from 1 words)) (first_lines seed) all (read_first seed fits) steps)

pub texts_are_scripts : TextsAreScripts
texts_are_scripts seed count fits few = (made_script seed count, text_is_script seed count fits few)

-- so is what the code makes
pub made_is_script : (seed count : ℕ) (script : Script) → seed < 2 ^ 32 → count ≤ 100000 → script ≡ made_script seed count → IsScript modes.Run (made_text seed count) script
made_is_script seed count script fits few is =
    subst (IsScript modes.Run (made_text seed count)) (sym is) (text_is_script seed count fits few)
