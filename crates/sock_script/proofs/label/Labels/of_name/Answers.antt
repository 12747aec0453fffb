use Rattle.std.proofs.Common.{◌∙◌, ◌/◌, ◌%◌, ◌^◌, [], ap, sym, unwrap_or, slice_get}
use Rattle.std.specs.List.{slice_index_or}
use Rattle.sock_script.specs.Seen.{texts, tables}
use Rattle.sock_script.proofs.LabelTable.{row_at}
use Rattle.sock_script.proofs.label.Labels.of_name.Goals as goal

pub returns-in-Some : goal.returns-in-Some
returns-in-Some c =
    let at = row_at c.deref.result.now (c.args.name / 2 ^ 56) c.in-Some.row.now c.in-Some.ensures.lookup.3.0 c.in-Some.ensures.lookup.1 in
    c.label_in.ensures ∙ ap (λ r. unwrap_or (slice_get r (c.args.name % 2 ^ 56)) []) (ap texts c.deref-in-Some.ensures.value ∙ sym at
    ∙ ap (λ rows. slice_index_or (tables rows) (c.args.name / 2 ^ 56) []) c.deref.ensures.value)
