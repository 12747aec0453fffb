-- A turn of the loops that write lines: over items, over a section's commands, and over the sections.
use Rattle.std.proofs.Common.{◌≡◌, ℕ, ◌+◌, ◌≤◌, ◌<◌, ◌∙◌, min, false, cond, List, [], ◌∷◌, ◌++◌, length, take, drop, get_or, map, sym, refl, ap, ap₂, arith, append_assoc, append-nil, length-append, take_all}
use Rattle.std.proofs.lemmas.Grind.{common_steps}
use Rattle.std.specs.List.{flat_map}
use Rattle.std.proofs.lemmas.List.{length-take, length-drop, nil_from_length}
use Rattle.capture_reader.specs.declared.packet.Item.{Item}
use Rattle.flat_list.specs.declared.command.Command.{Command}
use Rattle.flat_list.specs.declared.command.Command.TheVariants as commands
use Rattle.flat_list.specs.declared.command.Reply.{Reply}
use Rattle.flat_list.specs.Run.{Issued}
use Rattle.socket_list.specs.Listing.{Listing}
use Rattle.sock_script.specs.Output.{Event, asked, stored, events_at, events_from, items_after, issued_from, is_dump, listing_text, line_with, item_line}
use Rattle.sock_script.specs.Steps.{issue, takes_items, found_at, label_at, lines_at, lines_left, item_lines, Unwritten, NextOf, TakenOf, HasRoom, WritesDump, WritesItems, Writes}
use Rattle.sock_script.proofs.Events.{asks_alone, leaves_all}
use Rattle.sock_script.proofs.RunTurns.{next_drop}

-- no replies are left where fewer were taken than items
none_left : (old new : Unwritten) (count : ℕ) (here : List Reply) → TakenOf old count here new → length here < min count (length old.items) → new.replies ≡ []
none_left old new count here t less =
    nil_from_length new.replies (omega (arith, t.most, ap length t.replies, length-append here new.replies))

module _ (table : List (List (List ℕ))) where
  -- where no replies are left there are no lines
  no_replies : (number : ℕ) (events : List Event) (listings : List Listing) → lines_at table number events [] listings ≡ []
  no_replies number [] listings = refl
  no_replies number (asked c ∷ events) listings = refl
  no_replies number (stored item ∷ events) listings = refl

  -- nor where no events are left
  no_events : (number : ℕ) (replies : List Reply) (listings : List Listing) → lines_at table number [] replies listings ≡ []
  no_events number [] listings = refl
  no_events number (reply ∷ replies) listings = refl

  -- the lines of one item more, which come before those of the rest
  one_item : (before next a b : List ℕ) → a ≡ next ++ b → before ++ a ≡ (before ++ next) ++ b
  one_item before next a b e = ap (λ l. before ++ l) e ∙ sym (append_assoc before next b)

  -- the lines of a command that isn't `dump` come before those of the rest
  one_line : (c : Issued) (reply : Reply) (number : ℕ) (events : List Event) (rest : List Reply) (listings : List Listing) → is_dump c.command ≡ false
      → line_with c.section c.command (found_at table reply) reply ++ lines_at table number events rest listings ≡ lines_at table number (asked c ∷ events) (reply ∷ rest) listings
  one_line c reply number events rest listings other =
      ap (λ b. cond b (flat_map (listing_text (label_at table) c.section) (take 1 listings)) (line_with c.section c.command (found_at table reply) reply)
      ++ lines_at table number events rest (cond b (drop 1 listings) listings)) (sym other)

  -- the lines of items and of what follows, where the items have all replies that they can have
  items_written : (xs : List Item) (events : List Event) (number : ℕ) (here later : List Reply) (listings : List Listing) → length here ≤ length xs → (length here < length xs → later ≡ [])
      → lines_at table number (map stored xs ++ events) (here ++ later) listings ≡ item_lines table number here ++ lines_at table (number + length xs) events later listings
  items_written [] events number [] later listings le all =
      let same : number ≡ number + 0 = omega arith in
      ap (λ k. lines_at table k events later listings) same
  items_written [] events number (r ∷ here) later listings le all = absurd (omega arith)
  items_written (x ∷ xs) events number [] later listings le all =
      let none : later ≡ [] = all (omega arith) in
      rw none (sym (no_replies (number + length (x ∷ xs)) events listings))
  items_written (x ∷ xs) events number (r ∷ here) later listings le all =
      let same : number + 1 + length xs ≡ number + length (x ∷ xs) = omega arith in
      one_item (item_line number (found_at table r) r) (item_lines table (number + 1) here) _ _
      (items_written xs events (number + 1) here later listings (omega arith) (λ lt. all (omega arith))
      ∙ ap (λ k. item_lines table (number + 1) here ++ lines_at table k events later listings) same)

  module _ (old new : Unwritten) (before out : List ℕ) where
    -- the lines of the next items
    pub wrote_items : (count : ℕ) (here : List Reply) → TakenOf old count here new → out ≡ before ++ item_lines table old.number here → WritesItems table count old before out new
    wrote_items count here t is = record {
      lines = λ events.
          let front : length (take count old.items) ≡ min count (length old.items) = length-take count old.items in
          let number : new.number ≡ old.number + length (take count old.items) = omega (arith, t.number, front) in
          ap (λ o. o ++ lines_left table events new) is
          ∙ append_assoc before _ _
          ∙ ap (λ k. before ++ (item_lines table old.number here ++ lines_at table k events new.replies new.listings)) number
          ∙ ap (λ l. before ++ l) (sym (items_written (take count old.items) events old.number here new.replies new.listings (omega (arith, t.most)) (λ less. none_left old new count here t (omega arith))))
          ∙ ap₂ (λ r l. before ++ lines_at table old.number (map stored (take count old.items) ++ events) r l) (sym t.replies) t.listings;
      items = t.items;
      room = omega (arith, t.number, ap length t.items, length-drop count old.items);
    }

    -- the line of another command that lists nothing
    pub wrote_asked : (n : ℕ) (command : Command) (reply : Reply) → takes_items command ≡ false → is_dump command ≡ false → NextOf old reply new
        → out ≡ before ++ line_with n command (found_at table reply) reply → Writes table (issue n (command ∷ [])) old before out new
    wrote_asked n command reply other quiet next is = record {
      lines = λ later.
          let c : Issued = record { section = n; command = command } in
          ap (λ o. o ++ lines_left table (events_from new.items later) new) is
          ∙ append_assoc before _ _
          ∙ (λ k. before ++ (line_with n command (found_at table reply) reply ++ lines_at table (next.number k) (events_from (next.items k) later) new.replies (next.listings k)))
          ∙ ap (λ l. before ++ l) (one_line c reply old.number (events_from old.items later) new.replies old.listings quiet)
          ∙ ap (λ r. before ++ lines_at table old.number (asked c ∷ events_from old.items later) r old.listings) (sym next.replies)
          ∙ sym (ap₂ (λ e l. before ++ lines_at table old.number (e ++ events_from l later) old.replies old.listings) (asks_alone c command old.items other) (leaves_all command old.items other));
      room = omega (arith, next.number, ap length next.items);
    }

    -- the lines of a `dump`, whose reply isn't written
    pub wrote_dump : (n : ℕ) (reply : Reply) (left : Unwritten) → NextOf old reply left → WritesDump table n left before out new
        → Writes table (issue n (commands.Dump ∷ [])) old before out new
    wrote_dump n reply left next w = record {
      lines = λ later.
          let c : Issued = record { section = n; command = commands.Dump } in
          ap₂ (λ o (u : Unwritten). o ++ lines_left table (events_from u.items later) u) w.lines w.left
          ∙ append_assoc before _ _
          ∙ (λ k. before ++ (flat_map (listing_text (label_at table) n) (take 1 (next.listings k)) ++ lines_at table (next.number k) (events_from (next.items k) later) left.replies (drop 1 (next.listings k))))
          ∙ ap (λ r. before ++ lines_at table old.number (asked c ∷ events_from old.items later) r old.listings) (sym next.replies);
      room = omega (arith, next.number, ap length next.items, ap (λ (u : Unwritten). u.number + length u.items) w.left);
    }

  -- nothing is written where no reply is left
  pub wrote_none : (old : Unwritten) (out : List ℕ) (n : ℕ) (command : Command) → takes_items command ≡ false → old.replies ≡ [] → Writes table (issue n (command ∷ [])) old out out old
  wrote_none old out n command other none = record {
    lines = λ later.
        let c : Issued = record { section = n; command = command } in
        rw none (ap (λ l. out ++ l) (no_replies old.number (events_from old.items later) old.listings ∙ sym (no_replies old.number (events_at c command old.items ++ events_from (items_after command old.items) later) old.listings)));
    room = omega arith;
  }

  -- what was written, with the lines of the rest and of later commands, is what all lines are
  pub record WroteSoFar (n : ℕ) (commands : List Command) (old left : Unwritten) (before out : List ℕ) (i : ℕ) : Type 0 where
    pub lines : (later : List Issued)
        → out ++ lines_left table (events_from left.items (issue n (drop i commands) ++ later)) left
        ≡ before ++ lines_left table (events_from old.items (issue n commands ++ later)) old
    pub room : HasRoom old left

  -- the same of whole sections
  pub record WroteSections (all : List (List Command)) (old left : Unwritten) (out : List ℕ) (i : ℕ) : Type 0 where
    pub lines : out ++ lines_left table (events_from left.items (issued_from (i + 1) (drop i all))) left
        ≡ lines_left table (events_from old.items (issued_from 1 all)) old
    pub room : HasRoom old left

  pub wrote_section : (all : List (List Command)) (old left new : Unwritten) (out next : List ℕ) (i : ℕ) (commands : List Command)
      → i < length all → commands ≡ get_or all i commands → WroteSections all old left out i
      → Writes table (issue (i + 1) commands) left out next new → WroteSections all old new next (i + 1)
  wrote_section all old left new out next i commands lt at h w = record {
    lines =
        let rest : drop i all ≡ commands ∷ drop (i + 1) all = next_drop all i commands lt at in
        w.lines (issued_from (i + 1 + 1) (drop (i + 1) all))
        ∙ sym (ap (λ l. out ++ lines_left table (events_from left.items (issued_from (i + 1) l)) left) rest)
        ∙ h.lines;
    room = omega (arith, h.room, w.room);
  }

  -- all sections, and then the items that were left
  pub wrote_sections : (all : List (List Command)) (old left new : Unwritten) (out next : List ℕ) (i : ℕ) → length all ≤ i
      → WroteSections all old left out i → WritesItems table (length left.items) left out next new
      → next ≡ lines_left table (events_from old.items (issued_from 1 all)) old
  wrote_sections all old left new out next i le h w =
      let none : drop i all ≡ [] = grind (arith, common_steps) in
      sym (append-nil next)
      ∙ ap (λ l. next ++ l) (sym (no_events new.number new.replies new.listings))
      ∙ w.lines []
      ∙ ap (λ e. out ++ lines_left table e left) (append-nil (map stored (take (length left.items) left.items)))
      ∙ ap (λ l. out ++ lines_left table (map stored l) left) (take_all (length left.items) left.items (omega arith))
      ∙ sym (ap (λ l. out ++ lines_left table (events_from left.items (issued_from (i + 1) l)) left) none)
      ∙ h.lines
