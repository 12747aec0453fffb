use Rattle.std.proofs.Common.{rules, ◌≡◌, ◌+◌, [], ◌∷◌, ◌++◌, length, length-append, arith, ap}
use Rattle.std.proofs.lemmas.Slice.Zip.{zip_turn, zip_end}
use Rattle.sock_script.specs.CountSteps.{weight}
use Rattle.sock_script.specs.Output.{found_label, reply_with}
use Rattle.sock_script.proofs.CountTurns.{counted_more, counted_all, one_more_weighs}
use Rattle.sock_script.proofs.counts.Counts.add_section.Goals as goal

pub loop-command-preserved : goal.loop-command-preserved
loop-command-preserved c =
    let turn = zip_turn c.args.commands.now c.args.replies.now c.loop-command.yielded c.into_iter-command-iterator.result c.loop-command.command-iterator c.next.new.self c.next.result (search rules) (search rules) c.loop-command.yielded_by (c.in-Some.command, c.in-Some.reply) c.in-Some.is c.next.ensures.steps in
    let one : length (c.loop-command.yielded ++ (c.in-Some.command, c.in-Some.reply) ∷ []) ≡ length c.loop-command.yielded + 1 = length-append c.loop-command.yielded ((c.in-Some.command, c.in-Some.reply) ∷ []) in (
      search rules,
      search rules,
      λ sections n.
          rw one
          (counted_more sections n c.args.commands.now c.args.replies.now c.args.self.now c.loop-command.self c.add.new.self (length c.loop-command.yielded) c.in-Some.command.now c.in-Some.reply.now
          turn.0 turn.1 (turn.2 _) (turn.3 _) (c.loop-command.invariant.2 sections n) (c.add.ensures (found_label sections c.in-Some.reply.now))),
      (let more = one_more_weighs c.loop-command.self c.in-Some.command.now (reply_with [] c.in-Some.reply.now) in
          let so_far = c.loop-command.invariant.3 in
          let new = ap weight (c.add.ensures []) in
          omega (arith, one, more, so_far, new)),
    )

pub returns-clause-counted : goal.returns-clause-counted
returns-clause-counted c sections n =
    let passed = zip_end c.args.commands.now c.args.replies.now c.loop-command.yielded c.into_iter-command-iterator.result c.loop-command.command-iterator c.next.new.self c.next.result (search rules) (search rules) c.loop-command.yielded_by c.in-None.is c.next.ensures.steps in
    counted_all sections n c.args.commands.now c.args.replies.now c.args.self.now c.loop-command.self (length c.loop-command.yielded) passed (c.loop-command.invariant.2 sections n)
