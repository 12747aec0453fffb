use Rattle.std.proofs.Common.{arith, ap}
use Rattle.sock_script.proofs.StepTurns.{made_more, made_all}
use Rattle.sock_script.proofs.make.commands_of.Goals as goal

pub loop-i-preserved : goal.loop-i-preserved
loop-i-preserved c =
    made_more c.args.seed c.args.count c.loop-i.i c.loop-i.generator c.next_word.new.self c.next_word.result c.loop-i.commands.items c.add_to.new.commands.items
    (omega arith) c.loop-i.invariant (ap (λ p. p.0) c.next_word.ensures) (ap (λ p. p.1) c.next_word.ensures) c.in_ok-add_to.ensures

pub returns : goal.returns
returns c =
    made_all c.args.seed c.args.count c.loop-i.i c.loop-i.generator c.loop-i.commands.items (omega arith) c.loop-i.invariant
