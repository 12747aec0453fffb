-- What is counted of a script and its replies, and how that is written: a rule of our own.
--
-- To be read from the end: `script_counts` and `counts_text` are what contracts cite, and each stands on those above
-- it.
use Rattle.std.specs.Prelude.{ℕ, Bool, true, false, not, ◌&&◌, nat_eq, bytes_eq, List, [], ◌∷◌, ◌++◌, codes, decimal, count_by}
use Rattle.std.specs.List.{starts_with}
use Rattle.flat_list.specs.declared.command.Command.{Command}
use Rattle.flat_list.specs.declared.command.Command.TheVariants as commands
use Rattle.flat_list.specs.declared.command.Reply.{Reply}
use Rattle.flat_list.specs.Run.{Issued}
use Rattle.flat_list.specs.Script.{Script}
use Rattle.sock_script.specs.declared.counts.Counts.{Counts}
use Rattle.sock_script.specs.Output.{issued, found_label, is_dump, reply_with}

-- a command, and the text of its reply
pub record Answered : Type 0 where
  pub command : Command
  pub reply : List ℕ

-- commands, each with the text that its reply has in the output of a script of these sections
abbrev pub answered : List (List Command) → List Issued → List Reply → List Answered
answered sections (c ∷ cs) (reply ∷ replies) =
    record { command = c.command; reply = reply_with (found_label sections reply) reply } ∷ answered sections cs replies
answered sections _ _ = []

-- the command asks for a lookup
abbrev pub is_look : Command → Bool
is_look (commands.Look query) = true
is_look _ = false

-- the text begins with `ok`
abbrev pub begins_with_ok : List ℕ → Bool
begins_with_ok text = starts_with nat_eq text (codes "ok")

-- any other command, but for `dump`, which isn't counted
abbrev pub is_counted : Answered → Bool
is_counted a = not (is_look a.command) && not (is_dump a.command)

-- such a command, done
abbrev pub is_done : Answered → Bool
is_done a = is_counted a && begins_with_ok a.reply

-- such a command, not done
abbrev pub is_not_done : Answered → Bool
is_not_done a = is_counted a && not (begins_with_ok a.reply)

-- a lookup that found a socket
abbrev pub is_found : Answered → Bool
is_found a = is_look a.command && not (bytes_eq a.reply (codes "none"))

-- a lookup that found none
abbrev pub is_missed : Answered → Bool
is_missed a = is_look a.command && bytes_eq a.reply (codes "none")

-- how many there are of each
abbrev pub counts_of : List Answered → Counts
counts_of answers =
    record {
      commands = count_by is_counted answers;
      ok = count_by is_done answers;
      refused = count_by is_not_done answers;
      found = count_by is_found answers;
      none = count_by is_missed answers;
    }

-- what is counted of a script with those replies; it has no `packets`, whose items' replies would be taken for
-- commands'
abbrev pub script_counts : Script → List Reply → Counts
script_counts script replies = counts_of (answered script.sections (issued script) replies)

-- a word, a number and a line feed
abbrev pub count_line : List ℕ → ℕ → List ℕ
count_line word n = word ++ codes " " ++ decimal n ++ codes "\n"

-- the five lines of the counts
abbrev pub counts_text : Counts → List ℕ
counts_text counts =
    count_line (codes "commands") counts.commands ++ count_line (codes "ok") counts.ok
    ++ count_line (codes "refused") counts.refused ++ count_line (codes "found") counts.found
    ++ count_line (codes "none") counts.none
