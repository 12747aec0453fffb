-- The counts of a generated script are those of its text.
use Rattle.std.proofs.Common.{◌≡◌, ◌∙◌, ℕ, List, [], Result, Ok, Err, IfOk, ap, map}
use Rattle.std.specs.declared.vec.Vec.{Vec}
use Rattle.std.specs.declared.alloc.Global.{Global}
use Rattle.capture_reader.specs.declared.packet.Item.{Item}
use Rattle.flat_list.specs.declared.command.Reply.{Reply}
use Rattle.flat_list.specs.Script.{Script}
use Rattle.sock_script.specs.declared.counts.Counts.{Counts}
use Rattle.sock_script.specs.declared.parse.Mode.TheVariants as modes
use Rattle.sock_script.specs.Counts.{script_counts, counts_text}
use Rattle.sock_script.specs.Grammar.{IsScript}
use Rattle.sock_script.specs.Make.{made_text}
use Rattle.sock_script.specs.Output.{flat_replies}
use Rattle.sock_script.specs.Shown.{shown}
use Rattle.sock_script.proofs.ShownTexts.{shown_counts}
use Rattle.inet_tool.specs.Table.{CountsMade}

pub counted : {E : Type 0} (seed count : ℕ) (script : Script) (replies : List Reply) (items : List Item) (counts : Counts) (r : Result (Vec ℕ Global) E)
    → IsScript modes.Run (made_text seed count) script → counts ≡ script_counts script replies → replies ≡ map shown (flat_replies script items) → items ≡ []
    → IfOk r (λ text. text.items ≡ counts_text counts) → IfOk r (λ text. CountsMade seed count text.items)
counted seed count script replies items counts (Ok text) made of replied none is = (
  script,
  made,
  is ∙ ap counts_text (of ∙ ap (script_counts script) (replied ∙ ap (λ left. map shown (flat_replies script left)) none) ∙ shown_counts script (flat_replies script [])),
)
counted seed count script replies items counts (Err e) made of replied none is = tt
