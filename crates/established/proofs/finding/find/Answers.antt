use Rattle.std.proofs.Common.{ℕ, arith, subst}
use Rattle.null_reader.specs.Looked.{LookedAs, words_end}
use Rattle.established.proofs.Finds.{finds_full}
use Rattle.established.proofs.finding.find.Goals as goal
use Rattle.table_rule.specs.Calls.{me}

pub returns-clause-finds : goal.returns-clause-finds
returns-clause-finds g c = finds_full c.args.layout.now c.args.packet.now c.args.passes c.look.result.t0 c.look.result.t1 (me c.args.steps.now) (me c.look.new.steps) c.requires.idle (omega (arith, c.look.ensures.fresh, c.look.ensures.span)) c.look.result.end
    (subst (λ (b : ℕ). LookedAs b c.args.packet.now 5 c.args.passes (me c.args.steps.now) (words_end c.look.result.end) c.look.result.t0 c.look.result.t1 (me c.look.new.steps)) c.packet_home-bucket.ensures.home c.look.ensures.looked)
