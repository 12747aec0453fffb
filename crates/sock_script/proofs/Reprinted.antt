-- The lines of a script are read as it.
use Rattle.std.proofs.Common.{◌≡◌, ◌≢◌, cond, ℕ, ◌+◌, ◌∙◌, ◌&&◌, Bool, true, false, not, bytes_eq, IsTrue, List, [], ◌∷◌, ◌++◌, length, length-append, drop, map, filter, append-nil, append_assoc, Option, Some, None, unwrap_or, refl, sym, ap, subst, ◌⊎◌, inl, inr, arith}
use Rattle.std.specs.List.{cons_option, list_any}
use Rattle.std.proofs.lemmas.Bool.{true≢false}
use Rattle.std.proofs.lemmas.List.Elements.{filter_map-append}
use Rattle.std.proofs.lemmas.Slice.Eq.{bytes_eq-Decides}
use Rattle.list_words.specs.Lists.{Each, Pairs, total}
use Rattle.chain_book.specs.declared.shape.Shape.{Shape}
use Rattle.flat_list.specs.declared.header.Header.{Header}
use Rattle.flat_list.specs.declared.command.Command.{Command}
use Rattle.flat_list.specs.declared.header.Range.{Range}
use Rattle.flat_list.specs.declared.header.Reserved.{Reserved}
use Rattle.flat_list.specs.Ports.{none_reserved}
use Rattle.flat_list.specs.declared.script.CapturePlace.{CapturePlace}
use Rattle.flat_list.specs.Script.{Script}
use Rattle.sock_script.specs.declared.parse.Mode.{Mode}
use Rattle.sock_script.specs.declared.line.Line.{Line}
use Rattle.sock_script.specs.declared.line.Line.TheVariants as lines
use Rattle.sock_script.specs.Words.{words_of}
use Rattle.sock_script.specs.Forms.{HasForm}
use Rattle.sock_script.specs.Grammar.{HaveForms, is_said, section_lines, default_shape, default_range, given_label, given_labels, is_allowed, HasHead, IsSection, bytes_of, EndsIn, AreLines}
use Rattle.sock_script.specs.Reading.{Draft, Follows, Reads, ReadAs, MayCome, is_new, may_stand, past, with_command, nothing_yet, header_of, script_of, capture_here}
use Rattle.sock_script.proofs.LineCases.{reads}
use Rattle.sock_script.proofs.Scripts.{Reads-append, Reads-kept}
use Rattle.sock_script.proofs.Heads.{head_lines, parts, none_said, none_before, one_value, tells_shape, tells_range, tells_reserved, tells_number, tells_switch, shape_said, range_said, reserved_said, seed_said, offset_said, reuse_said, by, is_none, only_table, only_range, only_reserved, only_seed, only_offset, only_reuse, all_said}

abbrev first_or : {A : Type 0} → A → List A → A
first_or d [] = d
first_or d (x ∷ xs) = x

-- A command that may come

each_mid : {A : Type 0} (P : A → Type 0) (xs : List A) (y : A) (ys : List A) → Each P (xs ++ y ∷ ys) → P y
each_mid P [] y ys e = e.0
each_mid P (x ∷ xs) y ys e = each_mid P xs y ys e.1

before : (xs : List (List ℕ)) (l : List ℕ) (ys : List (List ℕ)) → Pairs (λ (a b : List ℕ). a ≢ b) (xs ++ l ∷ ys) → Each (λ a. a ≢ l) xs
before [] l ys p = tt
before (x ∷ xs) l ys p = (each_mid (λ b. x ≢ b) xs l ys p.0, before xs l ys p.1)

other_bytes : (b : Bool) → (b ≡ true → ⊥) → b ≡ false
other_bytes true never = absurd (never refl)
other_bytes false never = refl

none_same : (l : List ℕ) (xs : List (List ℕ)) → Each (λ a. a ≢ l) xs → list_any (bytes_eq l) xs ≡ false
none_same l [] e = refl
none_same l (x ∷ xs) e =
    let b : bytes_eq l x ≡ false = other_bytes (bytes_eq l x) (λ t. e.0 (sym ((bytes_eq-Decides l x).0 t))) in
    rw b (none_same l xs e.1)

new_by : (now : List Command) (o : Option (List ℕ)) (ys : List (List ℕ)) → Pairs (λ (a b : List ℕ). a ≢ b) (given_labels now ++ cons_option o ys) → is_new o now ≡ true
new_by now None ys p = refl
new_by now (Some l) ys p = ap not (none_same l (given_labels now) (before (given_labels now) l ys p))

may_by : (a b : Bool) → a ≡ true → b ≡ true → IsTrue (a && b)
may_by true true e f = refl
may_by true false e f = absurd (true≢false (sym f))
may_by false b e f = absurd (true≢false (sym e))

module _ (mode : Mode) where
  may_be : (now : List Command) (c : Command) (rest : List Command) → IsSection mode (now ++ c ∷ rest) → IsTrue (may_stand mode now c)
  may_be now c rest s =
      may_by (is_allowed mode c) (is_new (given_label c) now) (each_mid (λ (d : Command). is_allowed mode d ≡ true) now c rest s.allowed)
      (new_by now (given_label c) (given_labels rest) (subst (Pairs (λ (a b : List ℕ). a ≢ b)) (filter_map-append given_label now (c ∷ rest)) s.labels))

  may_last : (done : List (List Command)) (now : List Command) (c : Command) → IsTrue (may_stand mode now c) → MayCome mode (done ++ now ∷ []) c
  may_last [] now c m = m
  may_last (x ∷ []) now c m = m
  may_last (x ∷ y ∷ done) now c m = may_last (y ∷ done) now c m

with_last : (done : List (List Command)) (now : List Command) (c : Command) → with_command c (done ++ now ∷ []) ≡ done ++ (now ++ c ∷ []) ∷ []
with_last [] now c = refl
with_last (x ∷ []) now c = refl
with_last (x ∷ y ∷ done) now c = ap (λ xs. x ∷ xs) (with_last (y ∷ done) now c)

-- a line is passed over, or said
sort_of : (line : Line) → (line ≡ lines.PassedOver) ⊎ (is_said line ≡ true)
sort_of lines.PassedOver = inl refl
sort_of _ = inr refl

module _ (mode : Mode) (sections : List (List Command)) (t : Option Shape) (r : Option Range) (v : Option Reserved) (s : Option ℕ) (f : Option ℕ) (w : Option Bool) where
  abbrev said_so : Draft → List Line
  said_so d = head_lines d.table d.range d.reserved d.seed d.offset d.twreuse

  -- the header's lines that are left, with those before them
  abbrev Ahead : List Line → Draft → Type 0
  Ahead hs d = (h : Line → ℕ) → total h (said_so d) + total h hs ≡ total h (head_lines t r v s f w)

  -- the header's lines have said all
  abbrev Settled : Draft → Type 0
  Settled d = (d.table ≡ t) × (d.range ≡ r) × (d.reserved ≡ v) × (d.seed ≡ s) × (d.offset ≡ f) × (d.twreuse ≡ w)

  settle : (d : Draft) → Ahead [] d → Settled d
  settle d a = (
    one_value tells_shape d.table t (λ g. omega (arith, only_table d.table d.range d.reserved d.seed d.offset d.twreuse g, only_table t r v s f w g, a (by shape_said g))),
    one_value tells_range d.range r (λ g. omega (arith, only_range d.table d.range d.reserved d.seed d.offset d.twreuse g, only_range t r v s f w g, a (by range_said g))),
    one_value tells_reserved d.reserved v (λ g. omega (arith, only_reserved d.table d.range d.reserved d.seed d.offset d.twreuse g, only_reserved t r v s f w g, a (by reserved_said g))),
    one_value tells_number d.seed s (λ g. omega (arith, only_seed d.table d.range d.reserved d.seed d.offset d.twreuse g, only_seed t r v s f w g, a (by seed_said g))),
    one_value tells_number d.offset f (λ g. omega (arith, only_offset d.table d.range d.reserved d.seed d.offset d.twreuse g, only_offset t r v s f w g, a (by offset_said g))),
    one_value tells_switch d.twreuse w (λ g. omega (arith, only_reuse d.table d.range d.reserved d.seed d.offset d.twreuse g, only_reuse t r v s f w g, a (by reuse_said g))),
  )

  -- before the first section, with these lines of the header left
  abbrev InHeader : List Line → Draft → List Line → Type 0
  InHeader hs d left = (left ≡ hs ++ section_lines 1 sections) × (d.sections ≡ []) × Ahead hs d

  -- in a section, behind those that are done; of its commands some are left, and sections behind it
  abbrev InSection : List (List Command) → List Command → List Command → List (List Command) → Draft → List Line → Type 0
  InSection done now rest later d left =
      (sections ≡ done ++ (now ++ rest) ∷ later) × (d.sections ≡ done ++ now ∷ [])
      × (left ≡ map (λ (c : Command). lines.Command c) rest ++ section_lines (length done + 2) later) × Settled d

  abbrev State : Draft → List Line → Type 0
  State d left =
      ((hs : List Line) × InHeader hs d left)
      ⊎ ((done : List (List Command)) × (now : List Command) × (rest : List Command) × (later : List (List Command)) × InSection done now rest later d left)

  -- the line may follow, and makes what the lines behind it go on from
  abbrev Next : Draft → List Line → Line → Type 0
  Next d left line =
      (new : Draft) × Follows mode d line new × State new left × (new.capture ≡ d.capture) × (new.bytes ≡ d.bytes)

  no_header : (d : Draft) (hs : List Line) (line : Line) → is_none line ≡ 1 → Ahead (line ∷ hs) d → ⊥
  no_header d hs line is a = absurd (omega (arith, is, a is_none, all_said t r v s f w))

  head_next : (d : Draft) (hs left : List Line) (line : Line) → left ≡ hs ++ section_lines 1 sections → d.sections ≡ [] → Ahead (line ∷ hs) d → Next d left line
  head_next d hs left (lines.Table x) split none a =
      let unsaid : d.table ≡ None = none_before d.table t (total (by shape_said (λ y. 1)) hs) (omega (arith, only_table d.table d.range d.reserved d.seed d.offset d.twreuse (λ y. 1), only_table t r v s f w (λ y. 1), a (by shape_said (λ y. 1)))) in (
        record d { table = Some x },
        ((unsaid, none), refl),
        inl (
          hs,
          (split, none, λ h. omega (arith, parts d.table d.range d.reserved d.seed d.offset d.twreuse h, parts (Some x) d.range d.reserved d.seed d.offset d.twreuse h, none_said h lines.Table d.table unsaid, a h)),
        ),
        refl,
        refl,
      )
  head_next d hs left (lines.Range x) split none a =
      let unsaid : d.range ≡ None = none_before d.range r (total (by range_said (λ y. 1)) hs) (omega (arith, only_range d.table d.range d.reserved d.seed d.offset d.twreuse (λ y. 1), only_range t r v s f w (λ y. 1), a (by range_said (λ y. 1)))) in (
        record d { range = Some x },
        ((unsaid, none), refl),
        inl (
          hs,
          (split, none, λ h. omega (arith, parts d.table d.range d.reserved d.seed d.offset d.twreuse h, parts d.table (Some x) d.reserved d.seed d.offset d.twreuse h, none_said h lines.Range d.range unsaid, a h)),
        ),
        refl,
        refl,
      )
  head_next d hs left (lines.Reserved x) split none a =
      let unsaid : d.reserved ≡ None = none_before d.reserved v (total (by reserved_said (λ y. 1)) hs) (omega (arith, only_reserved d.table d.range d.reserved d.seed d.offset d.twreuse (λ y. 1), only_reserved t r v s f w (λ y. 1), a (by reserved_said (λ y. 1)))) in (
        record d { reserved = Some x },
        ((unsaid, none), refl),
        inl (
          hs,
          (split, none, λ h. omega (arith, parts d.table d.range d.reserved d.seed d.offset d.twreuse h, parts d.table d.range (Some x) d.seed d.offset d.twreuse h, none_said h lines.Reserved d.reserved unsaid, a h)),
        ),
        refl,
        refl,
      )
  head_next d hs left (lines.Seed x) split none a =
      let unsaid : d.seed ≡ None = none_before d.seed s (total (by seed_said (λ y. 1)) hs) (omega (arith, only_seed d.table d.range d.reserved d.seed d.offset d.twreuse (λ y. 1), only_seed t r v s f w (λ y. 1), a (by seed_said (λ y. 1)))) in (
        record d { seed = Some x },
        ((unsaid, none), refl),
        inl (
          hs,
          (split, none, λ h. omega (arith, parts d.table d.range d.reserved d.seed d.offset d.twreuse h, parts d.table d.range d.reserved (Some x) d.offset d.twreuse h, none_said h lines.Seed d.seed unsaid, a h)),
        ),
        refl,
        refl,
      )
  head_next d hs left (lines.Offset x) split none a =
      let unsaid : d.offset ≡ None = none_before d.offset f (total (by offset_said (λ y. 1)) hs) (omega (arith, only_offset d.table d.range d.reserved d.seed d.offset d.twreuse (λ y. 1), only_offset t r v s f w (λ y. 1), a (by offset_said (λ y. 1)))) in (
        record d { offset = Some x },
        ((unsaid, none), refl),
        inl (
          hs,
          (split, none, λ h. omega (arith, parts d.table d.range d.reserved d.seed d.offset d.twreuse h, parts d.table d.range d.reserved d.seed (Some x) d.twreuse h, none_said h lines.Offset d.offset unsaid, a h)),
        ),
        refl,
        refl,
      )
  head_next d hs left (lines.TimeWaitReuse x) split none a =
      let unsaid : d.twreuse ≡ None = none_before d.twreuse w (total (by reuse_said (λ y. 1)) hs) (omega (arith, only_reuse d.table d.range d.reserved d.seed d.offset d.twreuse (λ y. 1), only_reuse t r v s f w (λ y. 1), a (by reuse_said (λ y. 1)))) in (
        record d { twreuse = Some x },
        ((unsaid, none), refl),
        inl (
          hs,
          (split, none, λ h. omega (arith, parts d.table d.range d.reserved d.seed d.offset d.twreuse h, parts d.table d.range d.reserved d.seed d.offset (Some x) h, none_said h lines.TimeWaitReuse d.twreuse unsaid, a h)),
        ),
        refl,
        refl,
      )
  head_next d hs left lines.PassedOver split none a = absurd (no_header d hs lines.PassedOver refl a)
  head_next d hs left (lines.Section n) split none a = absurd (no_header d hs (lines.Section n) refl a)
  head_next d hs left (lines.Command c) split none a = absurd (no_header d hs (lines.Command c) refl a)
  head_next d hs left (lines.Capture dev net) split none a = absurd (no_header d hs (lines.Capture dev net) refl a)

  -- the line of the next section, the first or another
  open_next : (d : Draft) (done : List (List Command)) (n : ℕ) (now : List Command) (later : List (List Command)) (left : List Line)
      → n ≡ length done + 1 → sections ≡ done ++ now ∷ later → d.sections ≡ done
      → left ≡ map (λ (c : Command). lines.Command c) now ++ section_lines (n + 1) later → Settled d → Next d left (lines.Section n)
  open_next d done n now later left number all made split settled =
      let new : Draft = record d { sections = d.sections ++ [] ∷ [] } in (
        new,
        (number ∙ ap (λ xs. length xs + 1) (sym made), refl),
        inr (
          done,
          [],
          now,
          later,
          (
            all,
            ap (λ xs. xs ++ [] ∷ []) made,
            split ∙ ap (λ (k : ℕ). map (λ (c : Command). lines.Command c) now ++ section_lines k later) (omega (arith, number)),
            settled,
          ),
        ),
        refl,
        refl,
      )

  start_next : (d : Draft) (xs : List (List Command)) (left : List Line) (line : Line) → sections ≡ xs → line ∷ left ≡ section_lines 1 xs → d.sections ≡ [] → Ahead [] d → Next d left line
  start_next d [] left line e split none a = absurd (cc)
  start_next d (x ∷ xs) left line e split none a =
      subst (Next d left) (sym (ap (first_or line) split)) (open_next d [] 1 x xs left refl e none (ap (drop 1) split) (settle d a))

  command_next : (all_sections : Each (IsSection mode) sections) (d : Draft) (done : List (List Command)) (now : List Command) (c : Command) (rest : List Command) (later : List (List Command)) (left : List Line) (line : Line)
      → line ∷ left ≡ lines.Command c ∷ (map (λ (x : Command). lines.Command x) rest ++ section_lines (length done + 2) later)
      → sections ≡ done ++ (now ++ c ∷ rest) ∷ later → d.sections ≡ done ++ now ∷ [] → Settled d → Next d left line
  command_next all_sections d done now c rest later left line split all made settled =
      let is : IsSection mode (now ++ c ∷ rest) = each_mid (IsSection mode) done (now ++ c ∷ rest) later (subst (Each (IsSection mode)) all all_sections) in
      let may : MayCome mode d.sections c = subst (λ xs. MayCome mode xs c) (sym made) (may_last mode done now c (may_be mode now c rest is)) in
      let new : Draft = record d { sections = with_command c d.sections } in
      let next : Next d left (lines.Command c) = (
        new,
        (may, refl),
        inr (
          done,
          now ++ c ∷ [],
          rest,
          later,
          (
            all ∙ ap (λ xs. done ++ xs ∷ later) (sym (append_assoc now (c ∷ []) rest)),
            ap (with_command c) made ∙ with_last done now c,
            ap (drop 1) split,
            settled,
          ),
        ),
        refl,
        refl,
      ) in
      subst (Next d left) (sym (ap (first_or line) split)) next

  later_next : (d : Draft) (done : List (List Command)) (now : List Command) (later : List (List Command)) (left : List Line) (line : Line)
      → line ∷ left ≡ section_lines (length done + 2) later → sections ≡ done ++ (now ++ []) ∷ later → d.sections ≡ done ++ now ∷ [] → Settled d → Next d left line
  later_next d done now [] left line split all made settled = absurd (cc)
  later_next d done now (x ∷ xs) left line split all made settled =
      subst (Next d left) (sym (ap (first_or line) split))
      (open_next d (done ++ now ∷ []) (length done + 2) x xs left (omega (arith, length-append done (now ∷ [])))
      (all ∙ ap (λ ys. done ++ ys ∷ x ∷ xs) (append-nil now) ∙ sym (append_assoc done (now ∷ []) (x ∷ xs))) made (ap (drop 1) split) settled)

  head_or_start : (d : Draft) (hs left : List Line) (line : Line) → line ∷ left ≡ hs ++ section_lines 1 sections → d.sections ≡ [] → Ahead hs d → Next d left line
  head_or_start d [] left line split none a = start_next d sections left line refl split none a
  head_or_start d (h ∷ hs) left line split none a =
      subst (Next d left) (sym (ap (first_or line) split)) (head_next d hs left h (ap (drop 1) split) none a)

  command_or_later : (all_sections : Each (IsSection mode) sections) (d : Draft) (done : List (List Command)) (now rest : List Command) (later : List (List Command)) (left : List Line) (line : Line)
      → sections ≡ done ++ (now ++ rest) ∷ later → d.sections ≡ done ++ now ∷ []
      → line ∷ left ≡ map (λ (c : Command). lines.Command c) rest ++ section_lines (length done + 2) later → Settled d → Next d left line
  command_or_later all_sections d done now [] later left line all made split settled = later_next d done now later left line split all made settled
  command_or_later all_sections d done now (c ∷ rest) later left line all made split settled = command_next all_sections d done now c rest later left line split all made settled

  -- each line that is said may follow
  next : (all_sections : Each (IsSection mode) sections) (d : Draft) (left : List Line) (line : Line) → State d (line ∷ left) → Next d left line
  next all_sections d left line (inl (hs, (split, none, a))) = head_or_start d hs left line split none a
  next all_sections d left line (inr (done, now, rest, later, (all, made, split, settled))) =
      command_or_later all_sections d done now rest later left line all made split settled

  -- all is made
  abbrev Done : Draft → Type 0
  Done d = Settled d × (d.sections ≡ sections)

  end_in_header : (d : Draft) (hs : List Line) (xs : List (List Command)) → sections ≡ xs → [] ≡ hs ++ section_lines 1 xs → d.sections ≡ [] → Ahead hs d → Done d
  end_in_header d [] [] e split none a = (settle d a, none ∙ sym e)
  end_in_header d [] (x ∷ xs) e split none a = absurd (cc)
  end_in_header d (h ∷ hs) xs e split none a = absurd (cc)

  end_in_section : (d : Draft) (done : List (List Command)) (now rest : List Command) (later : List (List Command)) → sections ≡ done ++ (now ++ rest) ∷ later → d.sections ≡ done ++ now ∷ []
      → [] ≡ map (λ (c : Command). lines.Command c) rest ++ section_lines (length done + 2) later → Settled d → Done d
  end_in_section d done now [] [] all made split settled = (settled, made ∙ ap (λ xs. done ++ xs ∷ []) (sym (append-nil now)) ∙ sym all)
  end_in_section d done now [] (x ∷ xs) all made split settled = absurd (cc)
  end_in_section d done now (c ∷ rest) later all made split settled = absurd (cc)

  -- where no line is left
  ended : (d : Draft) → State d [] → Done d
  ended d (inl (hs, (split, none, a))) = end_in_header d hs sections refl split none a
  ended d (inr (done, now, rest, later, (all, made, split, settled))) = end_in_section d done now rest later all made split settled

  -- what reading these lines comes to
  record Came (d : Draft) (front : List (List ℕ)) : Type 0 where
    new : Draft
    came : Reads mode d front new
    made : Done new
    none : new.capture ≡ None
    bytes : new.bytes ≡ d.bytes + bytes_of front

  onward : (d new : Draft) (text : List ℕ) (front : List (List ℕ)) (line : Line) → d.capture ≡ None → HasForm (words_of text) line → Follows mode (past d text) line new → new.bytes ≡ d.bytes + length text + 1 → Came new front → Came d (text ∷ front)
  onward d new text front line none form follows bytes c = record {
    new = c.new;
    came = (new, reads mode d text new none line form follows, c.came);
    made = c.made;
    none = c.none;
    bytes = omega (arith, bytes, c.bytes);
  }

  go : (all_sections : Each (IsSection mode) sections) (d : Draft) (front : List (List ℕ)) (read : List Line) → d.capture ≡ None → HaveForms front read → State d (filter is_said read) → Came d front
  go all_sections d [] [] none forms state = record { new = d; came = refl; made = ended d state; none = none; bytes = omega arith }
  go all_sections d [] (line ∷ read) none forms state = absurd forms
  go all_sections d (text ∷ front) [] none forms state = absurd forms
  go all_sections d (text ∷ front) (line ∷ read) none forms state =
      elim (sort_of line) as (λ _. Came d (text ∷ front)) [
        | inl is ↦
            let same : filter is_said (line ∷ read) ≡ filter is_said read = ap (λ (l : Line). filter is_said (l ∷ read)) is in
            onward d (past d text) text front line none forms.0 (subst (λ (l : Line). Follows mode (past d text) l (past d text)) (sym is) refl) refl
            (go all_sections (past d text) front read none forms.1 (subst (State d) same state))
        | inr other ↦
            let said : filter is_said (line ∷ read) ≡ line ∷ filter is_said read = ap (λ (b : Bool). cond b (line ∷ filter is_said read) (filter is_said read)) other in
            let n : Next (past d text) (filter is_said read) line = next all_sections (past d text) (filter is_said read) line (subst (State d) said state) in
            onward d n.0 text front line none forms.0 n.1 n.4
            (go all_sections n.0 front read (n.3 ∙ none) forms.1 n.2)
      ]

-- so the header is the script's
header_made : (head : List Line) (header : Header) (h : HasHead head header) (d : Draft)
    → (d.table ≡ h.table) × (d.range ≡ h.range) × (d.reserved ≡ h.reserved) × (d.seed ≡ h.seed) × (d.offset ≡ h.offset) × (d.twreuse ≡ h.twreuse)
    → header ≡ header_of d
header_made head header h d is = h.header_is ∙ (λ i. record {
  shape = unwrap_or (sym is.0 i) default_shape;
  range = record (unwrap_or (sym is.1 i) default_range) { reserved = unwrap_or (sym is.2 i) none_reserved };
  seed = unwrap_or (sym is.3 i) 0;
  offset = sym is.4 i;
  twreuse = unwrap_or (sym is.5 i) false;
})

-- and the whole
script_made : (d new : Draft) (script : Script) → script.header ≡ header_of d → d.sections ≡ script.sections → new ≡ record d { capture = script.capture; bytes = new.bytes } → script ≡ script_of new
script_made d new script header sections same =
    (λ i. record { header = header i; sections = sym sections i; capture = script.capture }) ∙ ap script_of (sym same)

module _ (mode : Mode) where
  -- behind the lines that were read stands nothing, or a capture's
  record Closed (d : Draft) (capture : Option CapturePlace) (last : List (List ℕ)) : Type 0 where
    new : Draft
    came : Reads mode d last new
    same : new ≡ record d { capture = capture; bytes = new.bytes }

  close : (d : Draft) (capture : Option CapturePlace) (last : List (List ℕ)) → d.capture ≡ None → EndsIn capture d.bytes last → Closed d capture last
  close d None last none e = record {
    new = d;
    came = subst (λ xs. Reads mode d xs d) (sym e) refl;
    same = λ i. record d { capture = none i };
  }
  close d (Some place) last none (text, behind, dev, net, is, form, at) =
      let new : Draft = record (past d text) { capture = Some (capture_here (past d text) dev net) } in
      record {
        new = new;
        came = subst (λ xs. Reads mode d xs new) (sym is)
            (new, reads mode d text new none (lines.Capture dev net) form refl, Reads-kept mode new behind (capture_here (past d text) dev net) refl);
        same = λ i. record (past d text) { capture = Some (sym at i) };
      }

  pub read_as : (texts : List (List ℕ)) (script : Script) → AreLines mode texts script → ReadAs mode texts script
  read_as texts script p =
      let h = p.header in
      let c = go mode script.sections h.table h.range h.reserved h.seed h.offset h.twreuse p.sections nothing_yet p.front p.read refl p.forms
      (inl (p.head, (p.order, refl, λ k. omega (arith, h.lines_are k)))) in
      let bytes : bytes_of p.front ≡ c.new.bytes = omega (arith, c.bytes) in
      let z = close c.new script.capture p.last c.none (subst (λ (n : ℕ). EndsIn script.capture n p.last) bytes p.ends) in (
        z.new,
        subst (λ xs. Reads mode nothing_yet xs z.new) (sym p.parts) (Reads-append mode nothing_yet c.new z.new p.front p.last c.came z.came),
        script_made c.new z.new script (header_made p.head script.header h c.new c.made.0) c.made.1 z.same,
      )
