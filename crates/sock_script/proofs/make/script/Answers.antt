use Rattle.std.proofs.Common.{rules, arith}
use Rattle.sock_script.proofs.MadeTexts.{made_is_script}
use Rattle.sock_script.proofs.StepTurns.{small_made}
use Rattle.sock_script.proofs.make.script.Goals as goal

pub returns-clause-made : goal.returns-clause-made
returns-clause-made c = made_is_script c.args.seed c.args.count c.new.result (omega arith) c.requires (search rules)

pub returns-clause-small : goal.returns-clause-small
returns-clause-small c = small_made c.args.seed c.args.count c.new.result c.requires (search rules)
