-- The lines of a dump.
use Rattle.std.proofs.Common.{◌≡◌, ℕ, ◌/◌, ◌<◌, ◌≤◌, ◌^◌, true, false, List, [], ◌∷◌, ◌++◌, append_assoc, append-nil, length, map, codes, decimal, bytes_eq, ◌&&◌, ◌||◌, Some, refl, sym, ap, ◌∙◌, subst, arith}
use Rattle.std.specs.List.{flat_map, list_all}
use Rattle.std.specs.Str.Parse.{AllDigits}
use Rattle.std.proofs.lemmas.Bool.{false_from_ne_true, and_from}
use Rattle.std.proofs.lemmas.Fmt.{decimal_is_IsNumeral}
use Rattle.std.proofs.lemmas.Slice.Eq.{bytes_eq-Decides}
use Rattle.std.proofs.lemmas.Str.Parse.{tells_digits}
use Rattle.inet_io.specs.Labels.{is_label}
use Rattle.inet_io.specs.Texts.{end_text}
use Rattle.list_words.specs.Lists.{Each}
use Rattle.list_words.proofs.EachLemmas.{each_weaken}
use Rattle.sock_card.specs.declared.card.Card.{Card}
use Rattle.flat_list.specs.declared.command.Command.{Command}
use Rattle.flat_list.specs.declared.command.Command.TheVariants as commands
use Rattle.flat_list.specs.declared.command.Reply.TheVariants as replies
use Rattle.socket_list.specs.Listing.{Listing}
use Rattle.socket_list.specs.declared.listing.Span.{Span}
use Rattle.sock_script.specs.Output.{label_in, listing_text}
use Rattle.race_record.specs.Laws.{drew_for}
use Rattle.race_record.specs.Record.{Step}
use Rattle.record_reader.specs.declared.line.Line.TheVariants as lines
use Rattle.record_reader.specs.Names.{name_of, name_text}
use Rattle.record_reader.specs.Forms.{dev_words, is_plain, kind_word, tells_vain}
use Rattle.race_laws.proofs.audits.Dumps.{IsToldList, ListsTold}
use Rattle.race_laws.proofs.audits.Forms.{reply_row, words_plain}
use Rattle.race_laws.proofs.audits.Lines.{card_line, item_row, listed_cards, loads_words, row_as, step_rows, told_name}
use Rattle.race_laws.proofs.audits.Names.{name_fits, name_text_is}
use Rattle.race_laws.proofs.audits.Plain.{decimal_plain}
use Rattle.race_laws.proofs.audits.Rows.{EachIsRow, IsRow, rows_text, spaced}
use Rattle.race_laws.proofs.audits.Steps.{CardTold}
use Rattle.race_laws.proofs.audits.Texts.{dump_text, items_text}

-- a text that begins with a digit is none that begins with a letter
digits_apart : (xs more : List ℕ) (c : ℕ) (cs : List ℕ) → 0 < length xs → AllDigits 10 xs → 57 < c → bytes_eq (xs ++ more) (c ∷ cs) ≡ false
digits_apart [] more c cs some h far = absurd (omega (arith, some))
digits_apart (x ∷ xs) more c cs some h far = false_from_ne_true (bytes_eq ((x ∷ xs) ++ more) (c ∷ cs)) (λ e.
    let same : (x ∷ xs) ++ more ≡ c ∷ cs = (bytes_eq-Decides ((x ∷ xs) ++ more) (c ∷ cs)).0 e in
    let first : x ≡ c = cc in
    let digit = tells_digits.parts x xs h in
    absurd (omega (arith, first, far, digit.0.1)))

-- so a name is
name_apart : (section : ℕ) (label : List ℕ) (c : ℕ) (cs : List ℕ) → section ≤ 64 → is_label label ≡ true → 57 < c → bytes_eq (name_text (name_of section label)) (c ∷ cs) ≡ false
name_apart section label c cs most l far =
    let d = (decimal_is_IsNumeral section (omega (arith, most))).0 in
    ap (λ t. bytes_eq t (c ∷ cs)) (name_text_is section label l ∙ append_assoc (decimal section) (codes ".") label)
    ∙ digits_apart (decimal section) (codes "." ++ label) c cs d.0 d.1 far

no_reply : (word next : List ℕ) (rest : List (List ℕ)) → bytes_eq word (codes "ENFILE") ≡ false → bytes_eq word (codes "ok") ≡ false → tells_vain (word ∷ next ∷ rest) ≡ false
no_reply word next rest e f = λ i. e i || f i && bytes_eq next (codes "no-slot")

-- the words of a dump's first line, by the list itself
module _ (s : Step) (cards : List Card) (span : Span) (is : s.listings ≡ record { cards = cards; span = Some span } ∷ []) where
  cards_are : listed_cards s ≡ cards
  cards_are = ap (flat_map (λ (l : Listing). l.cards)) is ∙ append-nil cards

  loads_are : flat_map (λ (l : Listing). loads_words l.span) s.listings ≡ loads_words (Some span)
  loads_are = ap (flat_map (λ (l : Listing). loads_words l.span)) is

module _ (sections : List (List Command)) (n : ℕ) where
  -- a dump's text is that of its rows
  list_text : (s : Step) (cards : List Card) (span : Span) → s.listings ≡ record { cards = cards; span = Some span } ∷ [] → IsToldList sections cards span
      → listing_text (label_in sections) n (record { cards = cards; span = Some span }) ≡ rows_text (step_rows sections commands.Dump n s)
  list_text s cards span is t =
      (λ i. dump_text n (length cards) span.t0 span.t1 i ++ items_text sections n cards (each_weaken (CardTold sections) (λ (c : Card). is_label (label_in sections c.name) ≡ true) cards (λ c k. k.label) t.each) i)
      ∙ sym (λ i. (spaced (decimal n ∷ codes "dump" ∷ decimal (length (cards_are s cards span is i)) ∷ loads_are s cards span is i) ++ codes "\n") ++ rows_text (map (item_row sections n) (cards_are s cards span is i)))

  pub dump_listed : (s : Step) → (h : ListsTold sections commands.Dump s) → flat_map (listing_text (label_in sections) n) (record { cards = h.0; span = Some h.1 } ∷ []) ≡ rows_text (step_rows sections commands.Dump n s)
  dump_listed s h = append-nil (listing_text (label_in sections) n (record { cards = h.0; span = Some h.1 })) ∙ list_text s h.0 h.1 h.2 h.3

  module _ (low : 1 ≤ n) (high : n ≤ 64) where
    item_is_row : (c : Card) → CardTold sections c → IsRow (item_row sections n c)
    item_is_row c t =
        let section = c.name / 2 ^ 56 in
        let label = label_in sections c.name in
        let name = told_name sections c.name in
        let behind = end_text c.local c.lport ∷ end_text c.remote c.rport ∷ dev_words c.dev c.net in
        reply_row n (codes "item") (kind_word c.kind) (name_text name ∷ behind) false low high refl refl
        (words_plain name (card_line sections c) (name_fits section label t.least t.most t.label)
        (record { local = t.local.addr; lport = t.local.port; remote = t.remote.addr; rport = t.remote.port; dev = t.dev; net = t.net; name = refl; extra = refl; mark = refl }))
        (sym (no_reply (name_text name) (end_text c.local c.lport) (end_text c.remote c.rport ∷ dev_words c.dev c.net)
        (name_apart section label 69 (codes "NFILE") t.most t.label (omega arith)) (name_apart section label 111 (codes "k") t.most t.label (omega arith))))

    items_are_rows : (cards : List Card) → Each (CardTold sections) cards → EachIsRow (map (item_row sections n) cards)
    items_are_rows [] h = tt
    items_are_rows (c ∷ rest) h = (item_is_row c h.0, items_are_rows rest h.1)

    list_is_row : (s : Step) (cards : List Card) (span : Span) → s.listings ≡ record { cards = cards; span = Some span } ∷ [] → s.reply ≡ replies.Ok → IsToldList sections cards span → IsRow (row_as commands.Dump n s)
    list_is_row s cards span is ok t =
        let plain : list_all is_plain (decimal (length cards) ∷ loads_words (Some span)) ≡ true =
        and_from (is_plain (decimal (length cards))) (list_all is_plain (loads_words (Some span))) (decimal_plain (length cards) t.count)
        (and_from (is_plain (decimal span.t0)) (list_all is_plain (codes "t1" ∷ decimal span.t1 ∷ [])) (decimal_plain span.t0 t.t0)
        (and_from (is_plain (decimal span.t1)) true (decimal_plain span.t1 t.t1) refl)) in
        subst (λ ws. IsRow (record { words = decimal n ∷ codes "dump" ∷ ws; line = lines.Reply (drew_for s.reply) }))
        (sym (λ i. decimal (length (cards_are s cards span is i)) ∷ loads_are s cards span is i))
        (reply_row n (codes "dump") (decimal (length cards)) (loads_words (Some span)) (drew_for s.reply) low high refl refl plain (ap drew_for ok))

    -- and its rows are rows
    pub dump_rows : (s : Step) → s.reply ≡ replies.Ok → ListsTold sections commands.Dump s → EachIsRow (step_rows sections commands.Dump n s)
    dump_rows s ok h = (
      list_is_row s h.0 h.1 h.2 ok h.3,
      subst (λ cs. EachIsRow (map (item_row sections n) cs)) (sym (cards_are s h.0 h.1 h.2)) (items_are_rows h.0 h.3.each),
    )
