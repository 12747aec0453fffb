-- The lines of commands and their replies.
use Rattle.std.proofs.Common.{◌≡◌, ℕ, ◌+◌, ◌<◌, ◌≤◌, ◌^◌, true, false, List, [], ◌∷◌, ◌++◌, append_assoc, append-nil, length, length-append, drop, take, map, codes, decimal, position, bytes_eq, refl, sym, ap, ◌∙◌, subst, arith}
use Rattle.std.specs.List.{flat_map, list_all, list_any}
use Rattle.std.specs.Str.Parse.{AllDigits}
use Rattle.std.proofs.lemmas.Bool.{true≢false, false_from_ne_true, and_from}
use Rattle.std.proofs.lemmas.Fmt.{decimal_is_IsNumeral}
use Rattle.std.proofs.lemmas.Grind.{flat_map-append}
use Rattle.std.proofs.lemmas.Slice.Eq.{bytes_eq-Decides}
use Rattle.std.proofs.lemmas.Str.Parse.{tells_digits}
use Rattle.list_words.specs.Lists.{Each}
use Rattle.inet_io.specs.Texts.{addr_text, end_text}
use Rattle.inet_io.proofs.Cuts.{is_byte, is_found}
use Rattle.inet_io.proofs.EndTexts.{end_text-cut}
use Rattle.flat_list.specs.declared.command.Command.{Command}
use Rattle.flat_list.specs.declared.command.Command.TheVariants as commands
use Rattle.flat_list.specs.declared.command.Reply.{Reply}
use Rattle.flat_list.specs.declared.command.Reply.TheVariants as replies
use Rattle.flat_list.specs.Run.{Issued}
use Rattle.sock_script.specs.declared.parse.Mode.TheVariants as modes
use Rattle.sock_script.specs.Forms.{CommandFits}
use Rattle.sock_script.specs.Grammar.{is_allowed}
use Rattle.socket_list.specs.Listing.{Listing}
use Rattle.sock_script.specs.Output.{asked, command_text, events_from, found_label, issued_from, label_in, line_with, lines_text, listing_text, listings_after, reply_with, subject_text}
use Rattle.race_record.specs.Laws.{drew_for}
use Rattle.race_record.specs.Record.{Step, command_of, reply_of}
use Rattle.record_reader.specs.declared.line.Line.TheVariants as lines
use Rattle.record_reader.specs.Forms.{is_plain, tells_vain, verbs}
use Rattle.race_laws.proofs.audits.DumpRows.{dump_listed, dump_rows}
use Rattle.race_laws.proofs.audits.Dumps.{ListsTold}
use Rattle.race_laws.proofs.audits.Forms.{reply_row}
use Rattle.race_laws.proofs.audits.Plain.{decimal_plain, end_plain, label_plain}
use Rattle.race_laws.proofs.audits.Plans.{IsReplyTo, ReplyFits}
use Rattle.race_laws.proofs.audits.Rows.{Row, IsRow, EachIsRow, row_text, rows_text, spaced}
use Rattle.race_laws.proofs.audits.Lines.{item_row, listed_cards, reply_rows, reply_words, step_rows, steps_rows, subject_words}
use Rattle.race_laws.proofs.audits.Steps.{StepTold}

reply_spaced : (label : List ℕ) (reply : Reply) → ReplyFits reply → reply_with label reply ≡ spaced (reply_words reply)
reply_spaced label replies.Ok f = refl
reply_spaced label (replies.Port port) f = refl
reply_spaced label (replies.End end) f = refl
reply_spaced label replies.TimeWait f = refl
reply_spaced label (replies.NoSlot owned held) f = ap (λ t. codes "ok no-slot " ++ t) (append_assoc (decimal owned) (codes " ") (decimal held))
reply_spaced label (replies.Count count) f = refl
reply_spaced label (replies.Found answer) f = absurd f
reply_spaced label replies.Skip f = absurd f
reply_spaced label replies.Short f = absurd f
reply_spaced label replies.Ebadf f = refl
reply_spaced label replies.Einval f = refl
reply_spaced label replies.Eisconn f = refl
reply_spaced label replies.Eaddrinuse f = refl
reply_spaced label replies.Eaddrnotavail f = refl
reply_spaced label replies.Emfile f = refl
reply_spaced label (replies.Enfile owned held) f = ap (λ t. codes "ENFILE " ++ t) (append_assoc (decimal owned) (codes " ") (decimal held))

subject_spaced : (c : Command) → subject_text c ≡ spaced (subject_words c)
subject_spaced (commands.Socket label options) = refl
subject_spaced (commands.Bind label end) = refl
subject_spaced (commands.Listen label) = refl
subject_spaced (commands.Connect label from to) = refl
subject_spaced (commands.Accept listener label from at) = refl
subject_spaced (commands.Syn listener label from at) = refl
subject_spaced (commands.Ack request label) = refl
subject_spaced (commands.Close label) = refl
subject_spaced (commands.Drop label) = refl
subject_spaced (commands.At moment) = refl
subject_spaced commands.Reap = refl
subject_spaced (commands.Look query) = refl
subject_spaced (commands.Packets count) = refl
subject_spaced commands.Dump = refl

some_reply : (reply : Reply) → ReplyFits reply → 0 < length (reply_words reply)
some_reply (replies.Found answer) f = absurd f
some_reply replies.Skip f = absurd f
some_reply replies.Short f = absurd f
some_reply replies.Ok f = omega arith
some_reply (replies.Port port) f = omega arith
some_reply (replies.End end) f = omega arith
some_reply replies.TimeWait f = omega arith
some_reply (replies.NoSlot owned held) f = omega arith
some_reply (replies.Count count) f = omega arith
some_reply replies.Ebadf f = omega arith
some_reply replies.Einval f = omega arith
some_reply replies.Eisconn f = omega arith
some_reply replies.Eaddrinuse f = omega arith
some_reply replies.Eaddrnotavail f = omega arith
some_reply replies.Emfile f = omega arith
some_reply (replies.Enfile owned held) f = omega arith

some_subject : (c : Command) → 0 < length (subject_words c)
some_subject (commands.Socket label options) = omega arith
some_subject (commands.Bind label end) = omega arith
some_subject (commands.Listen label) = omega arith
some_subject (commands.Connect label from to) = omega arith
some_subject (commands.Accept listener label from at) = omega arith
some_subject (commands.Syn listener label from at) = omega arith
some_subject (commands.Ack request label) = omega arith
some_subject (commands.Close label) = omega arith
some_subject (commands.Drop label) = omega arith
some_subject (commands.At moment) = omega arith
some_subject commands.Reap = omega arith
some_subject (commands.Look query) = omega arith
some_subject (commands.Packets count) = omega arith
some_subject commands.Dump = omega arith

spaced_join : (w y : List ℕ) (ws ys : List (List ℕ)) → spaced ((w ∷ ws) ++ (y ∷ ys)) ≡ spaced (w ∷ ws) ++ 32 ∷ spaced (y ∷ ys)
spaced_join w y [] ys = refl
spaced_join w y (v ∷ vs) ys =
    ap (λ t. w ++ 32 ∷ t) (spaced_join v y vs ys) ∙ sym (append_assoc w (32 ∷ spaced (v ∷ vs)) (32 ∷ spaced (y ∷ ys)))

spaced_append : (xs ys : List (List ℕ)) → 0 < length xs → 0 < length ys → spaced (xs ++ ys) ≡ spaced xs ++ 32 ∷ spaced ys
spaced_append [] ys p q = absurd (omega (arith, p))
spaced_append (w ∷ ws) [] p q = absurd (omega (arith, q))
spaced_append (w ∷ ws) (y ∷ ys) p q = spaced_join w y ws ys

regrouped : (d s r : List ℕ) → d ++ codes " " ++ s ++ codes " " ++ r ≡ d ++ 32 ∷ (s ++ 32 ∷ r)
regrouped d s r =
    append_assoc (d ++ codes " " ++ s) (codes " ") r ∙ append_assoc (d ++ codes " ") s (32 ∷ r) ∙ append_assoc d (codes " ") (s ++ 32 ∷ r)

-- the replies of a command's own fit, too
reply_fits : (c : Command) (reply : Reply) → IsReplyTo c reply → ReplyFits reply
reply_fits commands.Reap (replies.Count count) f = f
reply_fits commands.Reap reply f = absurd f
reply_fits (commands.Socket label options) reply f = f
reply_fits (commands.Bind label end) reply f = f
reply_fits (commands.Listen label) reply f = f
reply_fits (commands.Connect label from to) reply f = f
reply_fits (commands.Accept listener label from at) reply f = f
reply_fits (commands.Syn listener label from at) reply f = f
reply_fits (commands.Ack request label) reply f = f
reply_fits (commands.Close label) reply f = f
reply_fits (commands.Drop label) reply f = f
reply_fits (commands.At moment) reply f = f
reply_fits (commands.Look query) reply f = f
reply_fits (commands.Packets count) reply f = f
reply_fits commands.Dump reply f = subst ReplyFits (sym f) tt

line_is : (n : ℕ) (c : Command) (label : List ℕ) (reply : Reply) → ReplyFits reply → line_with n c label reply ≡ spaced (decimal n ∷ (subject_words c ++ reply_words reply)) ++ codes "\n"
line_is n c label r f =
    let subject = subject_words c in
    let reply = reply_words r in
    let some : 0 < length (subject ++ reply) = omega (arith, length-append subject reply, some_subject c) in
    (λ i. decimal n ++ codes " " ++ subject_spaced c i ++ codes " " ++ reply_spaced label r f i ++ codes "\n")
    ∙ ap (λ t. t ++ codes "\n") (regrouped (decimal n) (spaced subject) (spaced reply))
    ∙ ap (λ t. decimal n ++ 32 ∷ t ++ codes "\n") (sym (spaced_append subject reply (some_subject c) (some_reply r f)))
    ∙ ap (λ t. t ++ codes "\n") (sym (spaced_append (decimal n ∷ []) (subject ++ reply) (omega arith) some))

-- a step of a race whose lines can be written
pub record IsFine (sections : List (List Command)) (s : Step) : Type 0 where
  pub told : StepTold sections s
  pub allowed : is_allowed modes.Race s.command ≡ true
  pub lists : ListsTold sections s.command s

events_next : (n : ℕ) (c : Command) (rest : List Issued) → is_allowed modes.Race c ≡ true → events_from [] (record { section = n; command = c } ∷ rest) ≡ asked (record { section = n; command = c }) ∷ events_from [] rest
events_next n (commands.Look query) rest e = absurd (true≢false (sym e))
events_next n (commands.Packets count) rest e = absurd (true≢false (sym e))
events_next n c rest e = refl

module _ (sections : List (List Command)) where
  abbrev Fine : Step → Type 0
  Fine = IsFine sections

  abbrev issue : ℕ → Command → Issued
  issue n command = record { section = n; command = command }

  abbrev listings_in : Step → List Listing
  listings_in s = s.listings

  -- a command that lists nothing has its own line alone
  plain_text : (n : ℕ) (c : Command) (s : Step) → ReplyFits s.reply → s.listings ≡ []
      → line_with n c (found_label sections s.reply) s.reply ≡ rows_text (record { words = decimal n ∷ (subject_words c ++ reply_words s.reply); line = lines.Reply (drew_for s.reply) } ∷ map (item_row sections n) (listed_cards s))
  plain_text n c s f none =
      let own = spaced (decimal n ∷ (subject_words c ++ reply_words s.reply)) ++ codes "\n" in
      line_is n c (found_label sections s.reply) s.reply f
      ∙ sym (append-nil own)
      ∙ sym (ap (λ (ls : List Listing). own ++ rows_text (map (item_row sections n) (flat_map (λ (l : Listing). l.cards) ls))) none)

  command_lines : (n : ℕ) (c : Command) (s : Step) (more : List Listing) → IsReplyTo c s.reply → is_allowed modes.Race c ≡ true → ListsTold sections c s
      → command_text sections (issue n c) s.reply (s.listings ++ more) ≡ rows_text (step_rows sections c n s)
  command_lines n commands.Dump s more r e h =
      ap (λ (ls : List Listing). flat_map (listing_text (label_in sections) n) (take 1 (ls ++ more))) h.2 ∙ dump_listed sections n s h
  command_lines n (commands.Socket label options) s more r e h = plain_text n (commands.Socket label options) s r h
  command_lines n (commands.Bind label end) s more r e h = plain_text n (commands.Bind label end) s r h
  command_lines n (commands.Listen label) s more r e h = plain_text n (commands.Listen label) s r h
  command_lines n (commands.Connect label from to) s more r e h = plain_text n (commands.Connect label from to) s r h
  command_lines n (commands.Accept listener label from at) s more r e h = plain_text n (commands.Accept listener label from at) s r h
  command_lines n (commands.Syn listener label from at) s more r e h = plain_text n (commands.Syn listener label from at) s r h
  command_lines n (commands.Ack request label) s more r e h = plain_text n (commands.Ack request label) s r h
  command_lines n (commands.Close label) s more r e h = plain_text n (commands.Close label) s r h
  command_lines n (commands.Drop label) s more r e h = plain_text n (commands.Drop label) s r h
  command_lines n (commands.At moment) s more r e h = plain_text n (commands.At moment) s r h
  command_lines n commands.Reap s more r e h = plain_text n commands.Reap s (reply_fits commands.Reap s.reply r) h
  command_lines n (commands.Look query) s more r e h = absurd (true≢false (sym e))
  command_lines n (commands.Packets count) s more r e h = absurd (true≢false (sym e))

  -- and the listings behind its own are the next one's
  listings_next : (c : Command) (s : Step) (more : List Listing) → ListsTold sections c s → listings_after c (s.listings ++ more) ≡ more
  listings_next commands.Dump s more h = ap (λ (ls : List Listing). drop 1 (ls ++ more)) h.2
  listings_next c s more h = ap (λ (ls : List Listing). ls ++ more) h

  steps_text : (n : ℕ) (steps : List Step) (more : List Issued) (rest : List Reply) (lists : List Listing) → Each Fine steps
      → lines_text sections 1 (events_from [] (map (issue n) (map command_of steps) ++ more)) (map reply_of steps ++ rest) (flat_map listings_in steps ++ lists)
      ≡ rows_text (steps_rows sections n steps) ++ lines_text sections 1 (events_from [] more) rest lists
  steps_text n [] more rest lists h = refl
  steps_text n (s ∷ steps) more rest lists h =
      let behind = map (issue n) (map command_of steps) ++ more in
      let answers = map reply_of steps ++ rest in
      let left = flat_map listings_in steps ++ lists in
      let own = rows_text (step_rows sections s.command n s) in
      ap (λ events. lines_text sections 1 events (s.reply ∷ answers) (flat_map listings_in (s ∷ steps) ++ lists)) (events_next n s.command behind h.0.allowed)
      ∙ ap (λ ls. lines_text sections 1 (asked (issue n s.command) ∷ events_from [] behind) (s.reply ∷ answers) ls) (append_assoc s.listings (flat_map listings_in steps) lists)
      ∙ (λ i. command_lines n s.command s left h.0.told.reply h.0.allowed h.0.lists i
      ++ lines_text sections 1 (events_from [] behind) answers (listings_next s.command s left h.0.lists i))
      ∙ ap (λ t. own ++ t) (steps_text n steps more rest lists h.1)
      ∙ sym (append_assoc own (rows_text (steps_rows sections n steps)) (lines_text sections 1 (events_from [] more) rest lists))
      ∙ ap (λ t. t ++ lines_text sections 1 (events_from [] more) rest lists) (sym (flat_map-append row_text (step_rows sections s.command n s) (steps_rows sections n steps)))

  pub commands_text : (n : ℕ) (all : List (List Step)) → Each (Each Fine) all
      → lines_text sections 1 (events_from [] (issued_from n (map (λ steps. map command_of steps) all))) (flat_map (λ replies. replies) (map (λ steps. map reply_of steps) all)) (flat_map listings_in (flat_map (λ steps. steps) all))
      ≡ rows_text (reply_rows sections n all)
  commands_text n [] h = refl
  commands_text n (steps ∷ rest) h =
      let behind = issued_from (n + 1) (map (λ steps. map command_of steps) rest) in
      let answers = flat_map (λ replies. replies) (map (λ steps. map reply_of steps) rest) in
      ap (λ ls. lines_text sections 1 (events_from [] (map (issue n) (map command_of steps) ++ behind)) (map reply_of steps ++ answers) ls) (flat_map-append listings_in steps (flat_map (λ steps. steps) rest))
      ∙ steps_text n steps behind answers (flat_map listings_in (flat_map (λ steps. steps) rest)) h.0
      ∙ ap (λ t. rows_text (steps_rows sections n steps) ++ t) (commands_text (n + 1) rest h.1)
      ∙ sym (flat_map-append row_text (steps_rows sections n steps) (reply_rows sections (n + 1) rest))

no_letter : AllDigits 10 (codes "no-slot") → ⊥
no_letter h = let r = tells_digits.parts 110 (codes "o-slot") h in omega (arith, r.0.1)

number_apart : (n : ℕ) → n < 2 ^ 64 → bytes_eq (decimal n) (codes "no-slot") ≡ false
number_apart n fits = false_from_ne_true (bytes_eq (decimal n) (codes "no-slot"))
    (λ e. no_letter (subst (AllDigits 10) ((bytes_eq-Decides (decimal n) (codes "no-slot")).0 e) (decimal_is_IsNumeral n fits).0.1))

no_errno : AllDigits 10 (codes "ENFILE") → ⊥
no_errno h = let r = tells_digits.parts 69 (codes "NFILE") h in omega (arith, r.0.1)

count_apart : (n : ℕ) → n < 2 ^ 64 → bytes_eq (decimal n) (codes "ENFILE") ≡ false
count_apart n fits = false_from_ne_true (bytes_eq (decimal n) (codes "ENFILE"))
    (λ e. no_errno (subst (AllDigits 10) ((bytes_eq-Decides (decimal n) (codes "ENFILE")).0 e) (decimal_is_IsNumeral n fits).0.1))

end_apart : (addr port : ℕ) → bytes_eq (end_text addr port) (codes "no-slot") ≡ false
end_apart addr port = false_from_ne_true (bytes_eq (end_text addr port) (codes "no-slot"))
    (λ e. is_found 58 (addr_text addr) (decimal port)
    (ap (position (is_byte 58)) (sym (end_text-cut addr port) ∙ (bytes_eq-Decides (end_text addr port) (codes "no-slot")).0 e) ∙ refl))

-- a reply's words say that a slot was sought in vain where it drew a number for one
tells_drew : (reply : Reply) → ReplyFits reply → drew_for reply ≡ tells_vain (reply_words reply)
tells_drew replies.Ok f = refl
tells_drew (replies.Port port) f = sym (number_apart port (omega (arith, f)))
tells_drew (replies.End end) f = sym (end_apart end.addr end.port)
tells_drew replies.TimeWait f = refl
tells_drew (replies.NoSlot owned held) f = refl
tells_drew (replies.Count count) f = sym (number_apart count f)
tells_drew (replies.Found answer) f = absurd f
tells_drew replies.Skip f = absurd f
tells_drew replies.Short f = absurd f
tells_drew replies.Ebadf f = refl
tells_drew replies.Einval f = refl
tells_drew replies.Eisconn f = refl
tells_drew replies.Eaddrinuse f = refl
tells_drew replies.Eaddrnotavail f = refl
tells_drew replies.Emfile f = refl
tells_drew (replies.Enfile owned held) f = refl

one_plain : (w : List ℕ) → is_plain w ≡ true → list_all is_plain (w ∷ []) ≡ true
one_plain w p = and_from (is_plain w) true p refl

two_plain : (v w : List ℕ) → is_plain v ≡ true → is_plain w ≡ true → list_all is_plain (v ∷ w ∷ []) ≡ true
two_plain v w p q = and_from (is_plain v) (list_all is_plain (w ∷ [])) p (one_plain w q)

reply_plain : (reply : Reply) → ReplyFits reply → list_all is_plain (reply_words reply) ≡ true
reply_plain replies.Ok f = refl
reply_plain (replies.Port port) f = one_plain (decimal port) (decimal_plain port (omega (arith, f)))
reply_plain (replies.End end) f = one_plain (end_text end.addr end.port) (end_plain end.addr end.port f.addr f.port)
reply_plain replies.TimeWait f = refl
reply_plain (replies.NoSlot owned held) f = two_plain (decimal owned) (decimal held) (decimal_plain owned f.0) (decimal_plain held f.1)
reply_plain (replies.Count count) f = one_plain (decimal count) (decimal_plain count f)
reply_plain (replies.Found answer) f = absurd f
reply_plain replies.Skip f = absurd f
reply_plain replies.Short f = absurd f
reply_plain replies.Ebadf f = refl
reply_plain replies.Einval f = refl
reply_plain replies.Eisconn f = refl
reply_plain replies.Eaddrinuse f = refl
reply_plain replies.Eaddrnotavail f = refl
reply_plain replies.Emfile f = refl
reply_plain (replies.Enfile owned held) f = two_plain (decimal owned) (decimal held) (decimal_plain owned f.0) (decimal_plain held f.1)

labelled_row : (n : ℕ) (verb word : List ℕ) (reply : Reply) → 1 ≤ n → n ≤ 64 → list_any (bytes_eq verb) verbs ≡ true → is_plain verb ≡ true → is_plain word ≡ true → ReplyFits reply
    → IsRow (record { words = decimal n ∷ verb ∷ word ∷ reply_words reply; line = lines.Reply (drew_for reply) })
labelled_row n verb word reply low high known clear plain f =
    reply_row n verb word (reply_words reply) (drew_for reply) low high known clear (and_from (is_plain word) (list_all is_plain (reply_words reply)) plain (reply_plain reply f)) (tells_drew reply f)

reap_row : (n : ℕ) (reply : Reply) → 1 ≤ n → n ≤ 64 → IsReplyTo commands.Reap reply
    → IsRow (record { words = decimal n ∷ codes "reap" ∷ reply_words reply; line = lines.Reply (drew_for reply) })
reap_row n (replies.Count count) low high f =
    reply_row n (codes "reap") (codes "ok") (decimal count ∷ []) false low high refl refl (one_plain (decimal count) (decimal_plain count f)) (sym (count_apart count f))
reap_row n reply low high f = absurd f

module _ (sections : List (List Command)) where
  pub rows_append : (xs ys : List Row) → EachIsRow xs → EachIsRow ys → EachIsRow (xs ++ ys)
  rows_append [] ys p q = q
  rows_append (x ∷ xs) ys p q = (p.0, rows_append xs ys p.1 q)

  module _ (n : ℕ) (low : 1 ≤ n) (high : n ≤ 64) where
    abbrev AreCommandRows : Command → Step → Type 0
    AreCommandRows c s = EachIsRow (step_rows sections c n s)

    -- a command that lists nothing has its own row alone
    alone : (own : Row) (s : Step) → s.listings ≡ [] → IsRow own → EachIsRow (own ∷ map (item_row sections n) (listed_cards s))
    alone own s none is =
        (is, subst (λ (ls : List Listing). EachIsRow (map (item_row sections n) (flat_map (λ (l : Listing). l.cards) ls))) (sym none) tt)

    command_rows : (c : Command) (s : Step) → CommandFits c → IsReplyTo c s.reply → is_allowed modes.Race c ≡ true → ListsTold sections c s → AreCommandRows c s
    command_rows (commands.Socket label options) s f r e h = alone _ s h (labelled_row n (codes "socket") label s.reply low high refl refl (label_plain label f.0) r)
    command_rows (commands.Bind label end) s f r e h = alone _ s h (labelled_row n (codes "bind") label s.reply low high refl refl (label_plain label f.0) r)
    command_rows (commands.Listen label) s f r e h = alone _ s h (labelled_row n (codes "listen") label s.reply low high refl refl (label_plain label f) r)
    command_rows (commands.Connect label from to) s f r e h = alone _ s h (labelled_row n (codes "connect") label s.reply low high refl refl (label_plain label f.0) r)
    command_rows (commands.Accept listener label from at) s f r e h = alone _ s h (labelled_row n (codes "accept") label s.reply low high refl refl (label_plain label f.1) r)
    command_rows (commands.Syn listener label from at) s f r e h = alone _ s h (labelled_row n (codes "syn") label s.reply low high refl refl (label_plain label f.1) r)
    command_rows (commands.Ack request label) s f r e h = alone _ s h (labelled_row n (codes "ack") label s.reply low high refl refl (label_plain label f.1) r)
    command_rows (commands.Close label) s f r e h = alone _ s h (labelled_row n (codes "close") label s.reply low high refl refl (label_plain label f) r)
    command_rows (commands.Drop label) s f r e h = alone _ s h (labelled_row n (codes "drop") label s.reply low high refl refl (label_plain label f) r)
    command_rows (commands.At moment) s f r e h = alone _ s h (labelled_row n (codes "at") (decimal moment) s.reply low high refl refl (decimal_plain moment (omega (arith, f))) r)
    command_rows commands.Reap s f r e h = alone _ s h (reap_row n s.reply low high r)
    command_rows (commands.Look query) s f r e h = absurd (true≢false (sym e))
    command_rows (commands.Packets count) s f r e h = absurd (true≢false (sym e))
    command_rows commands.Dump s f r e h = dump_rows sections n low high s r h

    are_steps_rows : (steps : List Step) → Each (IsFine sections) steps → EachIsRow (steps_rows sections n steps)
    are_steps_rows [] h = tt
    are_steps_rows (s ∷ steps) h =
        rows_append (step_rows sections s.command n s) (steps_rows sections n steps)
        (command_rows s.command s h.0.told.fits h.0.told.reply h.0.allowed h.0.lists) (are_steps_rows steps h.1)

  pub are_reply_rows : (n : ℕ) (all : List (List Step)) → 1 ≤ n → n + length all ≤ 65 → Each (Each (IsFine sections)) all → EachIsRow (reply_rows sections n all)
  are_reply_rows n [] low high h = tt
  are_reply_rows n (steps ∷ rest) low high h =
      rows_append (steps_rows sections n steps) (reply_rows sections (n + 1) rest) (are_steps_rows n low (omega (arith, high)) steps h.0)
      (are_reply_rows (n + 1) rest (omega arith) (omega (arith, high)) h.1)
