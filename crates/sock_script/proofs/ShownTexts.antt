-- What is written of replies, and counted of them, is what is written and counted of what is shown of them.
use Rattle.std.proofs.Common.{◌≡◌, ℕ, ◌+◌, cond, List, [], ◌∷◌, ◌++◌, map, take, Some, None, refl, ap, ap₂, codes, decimal}
use Rattle.std.specs.List.{flat_map}
use Rattle.capture_reader.specs.Captures.{Capture}
use Rattle.flat_list.specs.declared.command.Command.{Command}
use Rattle.flat_list.specs.declared.command.Reply.{Reply}
use Rattle.flat_list.specs.declared.command.Reply.TheVariants as replies
use Rattle.flat_list.specs.Run.{Issued}
use Rattle.flat_list.specs.Script.{Script}
use Rattle.socket_list.specs.Listing.{Listing}
use Rattle.sock_script.specs.Counts.{Answered, answered, counts_of, script_counts}
use Rattle.sock_script.specs.Output.{Event, asked, stored, command_text, cut_text, events_from, found_label, is_dump, issued, label_in, lines_text, listing_text, listings_after, reply_with, script_text, subject_text}
use Rattle.sock_script.specs.Shown.{shown}

-- the text of a reply
shown_text : (sections : List (List Command)) (reply : Reply)
    → reply_with (found_label sections (shown reply)) (shown reply) ≡ reply_with (found_label sections reply) reply
shown_text sections (replies.Found (Some card)) = refl
shown_text sections (replies.Found None) = refl
shown_text sections reply = refl

module _ (sections : List (List Command)) where
  shown_command : (c : Issued) (r : Reply) (ls : List Listing) → command_text sections c (shown r) ls ≡ command_text sections c r ls
  shown_command c r ls =
      ap (λ (text : List ℕ). cond (is_dump c.command) (flat_map (listing_text (label_in sections) c.section) (take 1 ls)) (decimal c.section ++ codes " " ++ subject_text c.command ++ codes " " ++ text ++ codes "\n"))
      (shown_text sections r)

  shown_lines : (number : ℕ) (events : List Event) (rs : List Reply) (ls : List Listing) → lines_text sections number events (map shown rs) ls ≡ lines_text sections number events rs ls
  shown_lines number [] [] ls = refl
  shown_lines number [] (r ∷ rs) ls = refl
  shown_lines number (asked c ∷ events) [] ls = refl
  shown_lines number (stored item ∷ events) [] ls = refl
  shown_lines number (asked c ∷ events) (r ∷ rs) ls =
      ap₂ ◌++◌ (shown_command c r ls) (shown_lines number events rs (listings_after c.command ls))
  shown_lines number (stored item ∷ events) (r ∷ rs) ls =
      ap₂ ◌++◌ (ap (λ text. codes "packet " ++ decimal number ++ codes " " ++ text ++ codes "\n") (shown_text sections r)) (shown_lines (number + 1) events rs ls)

  shown_answers : (cs : List Issued) (rs : List Reply) → answered sections cs (map shown rs) ≡ answered sections cs rs
  shown_answers [] [] = refl
  shown_answers [] (r ∷ rs) = refl
  shown_answers (c ∷ cs) [] = refl
  shown_answers (c ∷ cs) (r ∷ rs) =
      ap₂ (λ (text : List ℕ) (rest : List Answered). record { command = c.command; reply = text } ∷ rest) (shown_text sections r) (shown_answers cs rs)

pub shown_script : (script : Script) (capture : Capture) (rs : List Reply) (ls : List Listing) → script_text script capture (map shown rs) ls ≡ script_text script capture rs ls
shown_script script capture rs ls =
    ap (λ lines. lines ++ cut_text capture.cut) (shown_lines script.sections 1 (events_from capture.items (issued script)) rs ls)

pub shown_counts : (script : Script) (rs : List Reply) → script_counts script (map shown rs) ≡ script_counts script rs
shown_counts script rs = ap counts_of (shown_answers script.sections (issued script) rs)
