use Rattle.std.proofs.Common.{rules}
use Rattle.sock_script.specs.declared.line.Line.TheVariants as lines
use Rattle.sock_script.proofs.LineCases.{reads}
use Rattle.sock_script.proofs.ReadLines.{answers, none_seen, others, some_seen}
use Rattle.sock_script.proofs.Words.{none_left}
use Rattle.sock_script.proofs.parse.read_line.Goals as goal

pub returns-then-is_empty : goal.returns-then-is_empty
returns-then-is_empty c =
    reads c.args.mode c.args.draft.now c.args.line.now c.pass.new.self c.requires.no_capture lines.PassedOver
    (none_seen c.args.line.now _ c.requires.words (none_left c.args.words.now (search rules))) c.pass.ensures

pub returns-in-Some : goal.returns-in-Some
returns-in-Some c =
    answers c.args.mode c.args.draft.now c.pass.new.self _ c.args.line.now _ (lines.Command c.in-Some.command) c.requires.no_capture c.pass.ensures
    (some_seen c.args.line.now c.args.words.now c.requires.words (search rules)) (rw c.in-Some.is at c.in_ok-command.ensures.some) _ c.add_command.ensures

pub returns : goal.returns
returns c =
    others c.args.mode c.args.draft.now c.pass.new.self _ c.args.line.now _ c.requires.no_capture c.pass.ensures
    (some_seen c.args.line.now c.args.words.now c.requires.words (search rules)) (search rules) _ c.read_other.ensures
