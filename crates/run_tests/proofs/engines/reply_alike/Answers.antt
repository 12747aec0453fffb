use Rattle.sock_script.specs.declared.parse.Mode.TheVariants as modes
use Rattle.sock_script.proofs.HeadersFit.{scripts_fit}
use Rattle.run_tests.proofs.engines.reply_alike.Goals as goal

pub run-requires-clause-header : goal.run-requires-clause-header
run-requires-clause-header g c = scripts_fit modes.Run c.args.text.now c.in-Ok.script c.in-Ok.ensures.script
