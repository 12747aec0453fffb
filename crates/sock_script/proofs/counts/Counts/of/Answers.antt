use Rattle.std.proofs.Common.{rules, ◌≡◌, ◌∙◌, ◌+◌, length, arith, ap, sym}
use Rattle.std.proofs.lemmas.List.{length-map}
use Rattle.sock_script.specs.Counts.{script_counts, answered}
use Rattle.sock_script.specs.Output.{issued}
use Rattle.sock_script.proofs.RunTurns.{commands_at}
use Rattle.sock_script.proofs.CountTurns.{counted_section, counted_sections, whole}
use Rattle.sock_script.proofs.counts.Counts.of.Goals as goal

pub loop-commands-preserved : goal.loop-commands-preserved
loop-commands-preserved c =
    let all = c.args.script.now.sections in
    let i = c.loop-commands.commands-index in
    let at = commands_at _ all i c.commands-item.result c.sections-commands-items.ensures c.loop-commands-test.true c.commands-item.is in
    record {
      counted =
          counted_section all c.args.replies.now c.loop-commands.counts c.add_section.new.self c.loop-commands.rest.now c.split_at.result.0.now c.split_at.result.1.now i c.commands-item.result.items
          at.0 at.1 c.loop-commands.invariant.counted (search rules) (search rules) (rw c.deref.ensures.value at (c.add_section.ensures.counted all (i + 1)));
      weight = omega (arith, c.add_section.ensures.weight, c.loop-commands.invariant.weight, c.split_at.ensures.front_len, c.split_at.ensures.back_len);
    }

pub returns-clause-counted : goal.returns-clause-counted
returns-clause-counted c =
    counted_sections c.args.script.now.sections c.args.replies.now c.loop-commands.counts c.loop-commands.rest.now c.loop-commands.commands-index
    (omega (arith, ap length c.sections-commands-items.ensures, length-map c.sections-commands-items.result.now (λ v. v.items))) c.loop-commands.invariant.counted

pub returns-clause-whole : goal.returns-clause-whole
returns-clause-whole c =
    let counted : c.loop-commands.counts ≡ script_counts c.args.script.now c.args.replies.now =
    counted_sections c.args.script.now.sections c.args.replies.now c.loop-commands.counts c.loop-commands.rest.now c.loop-commands.commands-index
    (omega (arith, ap length c.sections-commands-items.ensures, length-map c.sections-commands-items.result.now (λ v. v.items))) c.loop-commands.invariant.counted in
    ap (λ n. n.commands) counted
    ∙ whole (answered c.args.script.now.sections (issued c.args.script.now) c.args.replies.now)
    ∙ sym (ap (λ n. n.ok + n.refused) counted)
