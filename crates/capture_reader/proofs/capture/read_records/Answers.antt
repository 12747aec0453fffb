use Rattle.std.proofs.Common.{List, [], not, subst}
use Rattle.std.proofs.lemmas.List.{append-nil}
use Rattle.capture_reader.specs.declared.packet.Item.{Item}
use Rattle.capture_reader.specs.Grammar.{AreRecords}
use Rattle.capture_reader.proofs.Records.{ends_as}
use Rattle.capture_reader.proofs.capture.read_records.Goals as goal

pub returns : goal.returns
returns c =
    let a = c.args in
    let cut = not c.is_empty-cut.result in
    let end = ends_as a.header.order c.loop-stored.rest.now c.is_empty-cut.result c.is_empty-cut.ensures c.in_default.ensures.none in
    subst (λ (xs : List Item). AreRecords a.header a.dev a.net a.bytes.now xs cut) (append-nil c.loop-stored.items.items) (c.loop-stored.invariant [] cut end)
