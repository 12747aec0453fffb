-- What is written of replies, and counted of them, is what is written and counted of what is shown of them. Our own.
use Rattle.std.specs.Prelude.{◌≡◌, List, map}
use Rattle.capture_reader.specs.Captures.{Capture}
use Rattle.flat_list.specs.Script.{Script}
use Rattle.flat_list.specs.declared.command.Reply.{Reply}
use Rattle.socket_list.specs.Listing.{Listing}
use Rattle.sock_script.specs.Counts.{script_counts}
use Rattle.sock_script.specs.Output.{script_text}
use Rattle.sock_script.specs.Shown.{shown}

-- of whatever script, capture, replies and listings
abbrev pub TextsAlike : Type 0
TextsAlike =
    (script : Script) (capture : Capture) (replies : List Reply) (listings : List Listing)
    → script_text script capture (map shown replies) listings ≡ script_text script capture replies listings

abbrev pub CountsAlike : Type 0
CountsAlike =
    (script : Script) (replies : List Reply) → script_counts script (map shown replies) ≡ script_counts script replies
