-- Texts that are read as a script have the lines of which the script would be printed.
use Rattle.std.proofs.Common.{◌≡◌, ◌≢◌, ℕ, ◌+◌, ◌∙◌, List, [], ◌∷◌, ◌++◌, length, map, filter, append-nil, append_assoc, Option, Some, None, Bool, true, false, not, bytes_eq, unwrap_or, refl, sym, ap, subst, ◌⊎◌, inl, inr, arith}
use Rattle.std.specs.List.{list_any, cons_option}
use Rattle.std.proofs.lemmas.Bool.{and_parts, both_ways}
use Rattle.std.proofs.lemmas.List.Elements.{filter_map-append, filter-append}
use Rattle.std.proofs.lemmas.List.{map-append}
use Rattle.std.proofs.lemmas.Slice.Eq.{bytes_eq-Decides}
use Rattle.list_words.specs.Lists.{Each, Pairs, SameItems, total}
use Rattle.list_words.proofs.EachLemmas.{each_push, each_weaken, each_unless_any}
use Rattle.list_words.proofs.PairsLemmas.{pairs_push}
use Rattle.list_words.proofs.TotalLemmas.{total-append}
use Rattle.flat_list.specs.declared.command.Command.{Command}
use Rattle.flat_list.specs.declared.script.CapturePlace.{CapturePlace}
use Rattle.flat_list.specs.Script.{Script}
use Rattle.sock_script.specs.declared.parse.Mode.{Mode}
use Rattle.sock_script.specs.declared.line.Line.{Line}
use Rattle.sock_script.specs.declared.line.Line.TheVariants as lines
use Rattle.sock_script.specs.Words.{words_of}
use Rattle.sock_script.specs.Forms.{HasForm}
use Rattle.sock_script.specs.Grammar.{HaveForms, is_said, said, section_lines, given_label, given_labels, is_allowed, IsSection, bytes_of, EndsIn, AreLines}
use Rattle.sock_script.specs.Reading.{Draft, Follows, Reads, ReadAs, MayCome, is_new, may_stand, past, with_command, nothing_yet, script_of, capture_here}
use Rattle.sock_script.proofs.LineCases.{line_cases}
use Rattle.sock_script.proofs.Heads.{head_lines, parts, none_said}

-- Sections whose labels differ

abbrev Differ : List ℕ → List ℕ → Type 0
Differ a b = a ≢ b

not_true : (b : Bool) → not b ≡ true → b ≡ false
not_true true h = absurd (both_ways false refl h)
not_true false h = refl

same_bytes : (a b : List ℕ) → a ≡ b → bytes_eq b a ≡ false → ⊥
same_bytes a b e h = both_ways (bytes_eq b a) h ((bytes_eq-Decides b a).1 (sym e))

-- a label that isn't among others differs from each
newcomer : (label : List ℕ) (labels : List (List ℕ)) → not (list_any (bytes_eq label) labels) ≡ true → Each (λ a. a ≢ label) labels
newcomer label labels h =
    each_weaken (λ a. bytes_eq label a ≡ false) (λ a. a ≢ label) labels (λ a no e. same_bytes a label e no)
    (each_unless_any (bytes_eq label) labels (not_true (list_any (bytes_eq label) labels) h))

module _ (mode : Mode) where
  more_labels : (section : List Command) (o : Option (List ℕ)) → is_new o section ≡ true → Pairs Differ (given_labels section) → Pairs Differ (given_labels section ++ cons_option o [])
  more_labels section None new pairs = subst (Pairs Differ) (sym (append-nil (given_labels section))) pairs
  more_labels section (Some label) new pairs = pairs_push Differ (given_labels section) label pairs (newcomer label (given_labels section) new)

  more : (section : List Command) (c : Command) → may_stand mode section c ≡ true → IsSection mode section → IsSection mode (section ++ c ∷ [])
  more section c may is =
      let both = and_parts (is_allowed mode c) (is_new (given_label c) section) may in
      record {
        labels = rw (filter_map-append given_label section (c ∷ [])) (more_labels section (given_label c) both.1 is.labels);
        allowed = each_push (λ (d : Command). is_allowed mode d ≡ true) section c is.allowed both.0;
      }

  with_more : (c : Command) (sections : List (List Command)) → MayCome mode sections c → Each (IsSection mode) sections → Each (IsSection mode) (with_command c sections)
  with_more c [] may all = tt
  with_more c (s ∷ []) may all = (more s c may all.0, tt)
  with_more c (s ∷ t ∷ rest) may all = (all.0, with_more c (t ∷ rest) may all.1)

-- Lines that come last

-- the lines so far, and one more
abbrev and_line : List Line → Line → List Line
and_line done line = done ++ filter is_said (line ∷ [])

-- what the lines so far have made
record Made (mode : Mode) (done : List Line) (draft : Draft) : Type 0 where
  head : List Line
  split : done ≡ head ++ section_lines 1 draft.sections
  says : SameItems head (head_lines draft.table draft.range draft.reserved draft.seed draft.offset draft.twreuse)
  sections : Each (IsSection mode) draft.sections

-- a header line comes last of the header, as there are no sections
behind_header : (done head : List Line) (sections : List (List Command)) (line : Line) → sections ≡ [] → done ≡ head ++ section_lines 1 sections → filter is_said (line ∷ []) ≡ line ∷ [] → and_line done line ≡ (head ++ line ∷ []) ++ section_lines 1 sections
behind_header done head sections line none split said =
    let before : done ≡ head = split ∙ ap (λ xs. head ++ section_lines 1 xs) none ∙ append-nil head in
    ap (λ xs. done ++ xs) said ∙ ap (λ xs. xs ++ line ∷ []) before
    ∙ sym (ap (λ xs. (head ++ line ∷ []) ++ section_lines 1 xs) none ∙ append-nil (head ++ line ∷ []))

-- a section's line comes last
section_last : (n k : ℕ) (sections : List (List Command)) → k ≡ n + length sections → section_lines n (sections ++ [] ∷ []) ≡ section_lines n sections ++ lines.Section k ∷ []
section_last n k [] e = ap (λ (m : ℕ). lines.Section m ∷ []) (sym (e ∙ omega arith))
section_last n k (s ∷ rest) e =
    let commands : List Line = map (λ (c : Command). lines.Command c) s in
    ap (λ xs. lines.Section n ∷ (commands ++ xs)) (section_last (n + 1) k rest (omega (arith, e)))
    ∙ ap (λ xs. lines.Section n ∷ xs) (sym (append_assoc commands (section_lines (n + 1) rest) (lines.Section k ∷ [])))

-- a command's line comes last
command_last : (mode : Mode) (n : ℕ) (c : Command) (sections : List (List Command)) → MayCome mode sections c → section_lines n (with_command c sections) ≡ section_lines n sections ++ lines.Command c ∷ []
command_last mode n c [] may = absurd may
command_last mode n c (s ∷ []) may =
    let commands : List Command → List Line = map (λ (d : Command). lines.Command d) in
    ap (λ xs. lines.Section n ∷ xs)
    (append-nil (commands (s ++ c ∷ [])) ∙ map-append (λ (d : Command). lines.Command d) s (c ∷ [])
    ∙ ap (λ xs. xs ++ lines.Command c ∷ []) (sym (append-nil (commands s))))
command_last mode n c (s ∷ t ∷ rest) may =
    let commands : List Line = map (λ (d : Command). lines.Command d) s in
    ap (λ xs. lines.Section n ∷ (commands ++ xs)) (command_last mode (n + 1) c (t ∷ rest) may)
    ∙ ap (λ xs. lines.Section n ∷ xs) (sym (append_assoc commands (section_lines (n + 1) (t ∷ rest)) (lines.Command c ∷ [])))

-- what comes behind is put behind the sections
behind : (done head before after line : List Line) → done ≡ head ++ before → after ≡ before ++ line → done ++ line ≡ head ++ after
behind done head before after line split e =
    ap (λ xs. xs ++ line) split ∙ append_assoc head before line ∙ ap (λ xs. head ++ xs) (sym e)

-- so what the header says more is said by that line
said_more : (head : List Line) (line : Line) (h : Line → ℕ) (old new : ℕ) → total h head ≡ old → new ≡ old + h line → total h (head ++ line ∷ []) ≡ new
said_more head line h old new e more = omega (arith, total-append h head (line ∷ []), e, more)

module _ (mode : Mode) where
  -- a header line says what it says
  header_line : (done : List Line) (old new : Draft) (line : Line) (m : Made mode done old) → old.sections ≡ [] → new.sections ≡ old.sections → filter is_said (line ∷ []) ≡ line ∷ []
      → ((h : Line → ℕ) → total h (head_lines new.table new.range new.reserved new.seed new.offset new.twreuse) ≡ total h (head_lines old.table old.range old.reserved old.seed old.offset old.twreuse) + h line)
      → Made mode (and_line done line) new
  header_line done old new line m none kept is more = record {
    head = m.head ++ line ∷ [];
    split = behind_header done m.head old.sections line none m.split is ∙ ap (λ xs. (m.head ++ line ∷ []) ++ section_lines 1 xs) (sym kept);
    says = λ h. said_more m.head line h _ _ (m.says h) (more h);
    sections = subst (Each (IsSection mode)) (sym kept) m.sections;
  }

  -- each line but a capture's makes what it says
  follow : (done : List Line) (old new : Draft) (words : List (List ℕ)) (line : Line) → HasForm words line → Follows mode old line new → Made mode done old → ((dev net : Option ℕ) → line ≡ lines.Capture dev net → ⊥) → Made mode (and_line done line) new
  follow done old new words lines.PassedOver form h m no_capture =
      subst (Made mode (and_line done lines.PassedOver)) (sym h) (subst (λ (ds : List Line). Made mode ds old) (sym (append-nil done)) m)
  follow done old new words (lines.Table shape) form h m no_capture =
      subst (Made mode (and_line done (lines.Table shape))) (sym h.1)
      (header_line done old (record old { table = Some shape }) (lines.Table shape) m h.0.1 refl refl
      (λ k. omega (arith, parts old.table old.range old.reserved old.seed old.offset old.twreuse k, parts (Some shape) old.range old.reserved old.seed old.offset old.twreuse k, none_said k lines.Table old.table h.0.0)))
  follow done old new words (lines.Range range) form h m no_capture =
      subst (Made mode (and_line done (lines.Range range))) (sym h.1)
      (header_line done old (record old { range = Some range }) (lines.Range range) m h.0.1 refl refl
      (λ k. omega (arith, parts old.table old.range old.reserved old.seed old.offset old.twreuse k, parts old.table (Some range) old.reserved old.seed old.offset old.twreuse k, none_said k lines.Range old.range h.0.0)))
  follow done old new words (lines.Reserved reserved) form h m no_capture =
      subst (Made mode (and_line done (lines.Reserved reserved))) (sym h.1)
      (header_line done old (record old { reserved = Some reserved }) (lines.Reserved reserved) m h.0.1 refl refl
      (λ k. omega (arith, parts old.table old.range old.reserved old.seed old.offset old.twreuse k, parts old.table old.range (Some reserved) old.seed old.offset old.twreuse k, none_said k lines.Reserved old.reserved h.0.0)))
  follow done old new words (lines.Seed seed) form h m no_capture =
      subst (Made mode (and_line done (lines.Seed seed))) (sym h.1)
      (header_line done old (record old { seed = Some seed }) (lines.Seed seed) m h.0.1 refl refl
      (λ k. omega (arith, parts old.table old.range old.reserved old.seed old.offset old.twreuse k, parts old.table old.range old.reserved (Some seed) old.offset old.twreuse k, none_said k lines.Seed old.seed h.0.0)))
  follow done old new words (lines.Offset offset) form h m no_capture =
      subst (Made mode (and_line done (lines.Offset offset))) (sym h.1)
      (header_line done old (record old { offset = Some offset }) (lines.Offset offset) m h.0.1 refl refl
      (λ k. omega (arith, parts old.table old.range old.reserved old.seed old.offset old.twreuse k, parts old.table old.range old.reserved old.seed (Some offset) old.twreuse k, none_said k lines.Offset old.offset h.0.0)))
  follow done old new words (lines.TimeWaitReuse reuse) form h m no_capture =
      subst (Made mode (and_line done (lines.TimeWaitReuse reuse))) (sym h.1)
      (header_line done old (record old { twreuse = Some reuse }) (lines.TimeWaitReuse reuse) m h.0.1 refl refl
      (λ k. omega (arith, parts old.table old.range old.reserved old.seed old.offset old.twreuse k, parts old.table old.range old.reserved old.seed old.offset (Some reuse) k, none_said k lines.TimeWaitReuse old.twreuse h.0.0)))
  follow done old new words (lines.Section number) form h m no_capture =
      subst (Made mode (and_line done (lines.Section number))) (sym h.1) (record {
        head = m.head;
        split = behind done m.head (section_lines 1 old.sections) (section_lines 1 (old.sections ++ [] ∷ [])) (lines.Section number ∷ []) m.split
            (section_last 1 number old.sections (omega (arith, h.0)));
        says = m.says;
        sections = each_push (IsSection mode) old.sections [] m.sections (record { labels = tt; allowed = tt });
      })
  follow done old new words (lines.Command c) form h m no_capture =
      subst (Made mode (and_line done (lines.Command c))) (sym h.1) (record {
        head = m.head;
        split = behind done m.head (section_lines 1 old.sections) (section_lines 1 (with_command c old.sections)) (lines.Command c ∷ []) m.split
            (command_last mode 1 c old.sections h.0);
        says = m.says;
        sections = with_more mode c old.sections h.0 m.sections;
      })
  follow done old new words (lines.Capture dev net) form h m no_capture = absurd (no_capture dev net refl)

  -- a line's bytes say nothing
  pass : (done : List Line) (old : Draft) (text : List ℕ) → Made mode done old → Made mode done (past old text)
  pass done old text m = record { head = m.head; split = m.split; says = m.says; sections = m.sections }

-- a capture's line, or another
which : (line : Line) → ((dev net : Option ℕ) × (line ≡ lines.Capture dev net)) ⊎ ((dev net : Option ℕ) → line ≡ lines.Capture dev net → ⊥)
which (lines.Capture dev net) = inl (dev, net, refl)
which _ = inr (λ dev net e. cc)

-- what another leaves as it was
record Still (old new : Draft) : Type 0 where
  capture : new.capture ≡ old.capture
  bytes : new.bytes ≡ old.bytes

still : (mode : Mode) (old new : Draft) (line : Line) → Follows mode old line new → ((dev net : Option ℕ) → line ≡ lines.Capture dev net → ⊥) → Still old new
still mode old new lines.PassedOver h no_capture = record { capture = ap (λ d. d.capture) h; bytes = ap (λ d. d.bytes) h }
still mode old new (lines.Capture dev net) h no_capture = absurd (no_capture dev net refl)
still mode old new _ h no_capture = record { capture = ap (λ d. d.capture) h.1; bytes = ap (λ d. d.bytes) h.1 }

-- once a capture has begun, no line changes anything
kept_all : (mode : Mode) (place : CapturePlace) (old new : Draft) (texts : List (List ℕ)) → old.capture ≡ Some place → Reads mode old texts new → new ≡ old
kept_all mode place old new [] e h = h
kept_all mode place old new (text ∷ texts) e h =
    elim (line_cases mode old text h.0 h.1) [
      | inl r ↦ let no_place : None ≡ Some place = sym r.none ∙ e in absurd (cc)
      | inr same ↦ kept_all mode place h.0 new texts (ap (λ d. d.capture) same.2 ∙ e) h.2 ∙ same.2
    ]

-- what some lines come to, behind those that were read before
record Finished (mode : Mode) (start : ℕ) (done : List Line) (texts : List (List ℕ)) (new : Draft) : Type 0 where
  front : List (List ℕ)
  last : List (List ℕ)
  read : List Line
  head : List Line
  parts : texts ≡ front ++ last
  forms : HaveForms front read
  order : done ++ filter is_said read ≡ head ++ section_lines 1 new.sections
  says : SameItems head (head_lines new.table new.range new.reserved new.seed new.offset new.twreuse)
  sections : Each (IsSection mode) new.sections
  ends : EndsIn new.capture (start + bytes_of front) last

module _ (mode : Mode) where
  ended : (start : ℕ) (done : List Line) (draft : Draft) → draft.capture ≡ None → Made mode done draft → Finished mode start done [] draft
  ended start done draft none m = record {
    front = [];
    last = [];
    read = [];
    head = m.head;
    parts = refl;
    forms = tt;
    order = append-nil done ∙ m.split;
    says = m.says;
    sections = m.sections;
    ends = subst (λ (c : Option CapturePlace). EndsIn c (start + bytes_of []) []) (sym none) refl;
  }

  -- a capture's line is the last that is read
  captured : (start : ℕ) (done : List Line) (old : Draft) (text : List ℕ) (texts : List (List ℕ)) (dev net : Option ℕ) → start ≡ old.bytes → HasForm (words_of text) (lines.Capture dev net) → Made mode done old
      → Finished mode start done (text ∷ texts) (record (past old text) { capture = Some (capture_here (past old text) dev net) })
  captured start done old text texts dev net e form m = record {
    front = [];
    last = text ∷ texts;
    read = [];
    head = m.head;
    parts = refl;
    forms = tt;
    order = append-nil done ∙ m.split;
    says = m.says;
    sections = m.sections;
    ends = (text, texts, dev, net, refl, form, ap (λ (n : ℕ). record { dev = unwrap_or dev 0; net = unwrap_or net 0; first = n }) (omega (arith, e)));
  }

  -- another is read, and then those behind it
  one_more : (start : ℕ) (done : List Line) (text : List ℕ) (texts : List (List ℕ)) (line : Line) (new : Draft) → HasForm (words_of text) line → Finished mode (start + length text + 1) (and_line done line) texts new → Finished mode start done (text ∷ texts) new
  one_more start done text texts line new form f = record {
    front = text ∷ f.front;
    last = f.last;
    read = line ∷ f.read;
    head = f.head;
    parts = ap (λ xs. text ∷ xs) f.parts;
    forms = (form, f.forms);
    order =
        ap (λ xs. done ++ xs) (filter-append is_said (line ∷ []) f.read) ∙ sym (append_assoc done (filter is_said (line ∷ [])) (filter is_said f.read)) ∙ f.order;
    says = f.says;
    sections = f.sections;
    ends = subst (λ (n : ℕ). EndsIn new.capture n f.last) (omega arith) f.ends;
  }

  finish : (start : ℕ) (done : List Line) (old new : Draft) (texts : List (List ℕ)) → start ≡ old.bytes → old.capture ≡ None → Made mode done old → Reads mode old texts new → Finished mode start done texts new
  finish start done old new [] e none m h = subst (Finished mode start done []) (sym h) (ended start done old none m)
  finish start done old new (text ∷ texts) e none m h =
      let next : Draft = h.0 in
      elim (line_cases mode old text next h.1) [
        | inr same ↦ let no_place : None ≡ Some same.0 = sym none ∙ same.1 in absurd (cc)
        | inl r ↦ elim (which r.line) [
          | inl (dev, net, is) ↦
              let made : next ≡ record (past old text) { capture = Some (capture_here (past old text) dev net) } = subst (λ (l : Line). Follows mode (past old text) l next) is r.follows in
              let whole : new ≡ next = kept_all mode (capture_here (past old text) dev net) next new texts (ap (λ d. d.capture) made) h.2 in
              subst (Finished mode start done (text ∷ texts)) (sym (whole ∙ made))
              (captured start done old text texts dev net e (subst (HasForm (words_of text)) is r.form) m)
          | inr others ↦
              let kept = still mode (past old text) next r.line r.follows others in
              one_more start done text texts r.line new r.form
              (finish (start + length text + 1) (and_line done r.line) next new texts (omega (arith, e, kept.bytes)) (kept.capture ∙ none)
              (follow mode done (past old text) next (words_of text) r.line r.form r.follows (pass mode done old text m) others) h.2)
        ]
      ]

  from_finished : (texts : List (List ℕ)) (draft : Draft) → Finished mode 0 [] texts draft → AreLines mode texts (script_of draft)
  from_finished texts draft f = record {
    front = f.front;
    last = f.last;
    read = f.read;
    head = f.head;
    parts = f.parts;
    forms = f.forms;
    order = f.order;
    header = record {
      table = draft.table;
      range = draft.range;
      reserved = draft.reserved;
      seed = draft.seed;
      offset = draft.offset;
      twreuse = draft.twreuse;
      lines_are = f.says;
      header_is = refl;
    };
    sections = f.sections;
    ends = subst (λ (n : ℕ). EndsIn draft.capture n f.last) (omega arith) f.ends;
  }

  nothing_made : Made mode [] nothing_yet
  nothing_made = record { head = []; split = refl; says = λ h. refl; sections = tt }

  pub are_lines : (texts : List (List ℕ)) (script : Script) → ReadAs mode texts script → AreLines mode texts script
  are_lines texts script h =
      subst (AreLines mode texts) (sym h.2) (from_finished texts h.0 (finish 0 [] nothing_yet h.0 texts refl refl nothing_made h.1))
