use Rattle.std.proofs.Common.{◌≡◌, List, length, map, ap, ◌∙◌, refl, subst, sym}
use Rattle.std.specs.List.{flat_map}
use Rattle.bind_buckets.specs.Closed.{count_in}
use Rattle.capture_reader.specs.declared.packet.Item.{Item}
use Rattle.chain_book.specs.declared.book.Change.{Change}
use Rattle.list_words.specs.Lists.{Each, SameItems}
use Rattle.race_record.specs.Lawful.{looked_at}
use Rattle.race_run.specs.declared.jobs.Outcome.{Outcome}
use Rattle.race_run.specs.Finished.{as_known, replies_in, told_in}
use Rattle.race_run.specs.Shares.{items_in}
use Rattle.turn_table.specs.Journals.{numbers_below}
use Rattle.race_run.proofs.Telling.{items_once, tells_race}
use Rattle.race_run.proofs.tell.tell.Goals as goal

pub all_told-requires : goal.all_told-requires
all_told-requires c =
    let once : SameItems (flat_map items_in c.args.ended.outcomes.items) (numbers_below (length c.args.capture.now.items)) = items_once c.args.script.now c.args.passes c.args.capture.now c.args.lookers c.args.ended c.requires.ended in
    let it : SameItems (flat_map items_in c.deref-2.result.now) (numbers_below (length c.items.result.now)) =
    subst (λ (l : List Outcome). SameItems (flat_map items_in l) (numbers_below (length c.items.result.now))) (sym c.deref-2.ensures.value)
    (subst (λ (l : List Item). SameItems (flat_map items_in c.args.ended.outcomes.items) (numbers_below (length l))) (sym c.items.ensures) once)
    in record { once = it }

pub returns : goal.returns
returns c =
    let e = c.args.ended in
    let known = subst (λ (l : List Change). map as_known l ≡ l) c.deref-4.ensures.value c.know_changes.ensures in
    let looked = c.in_ok-looked.looked.items in
    let there = subst (λ (l : List Outcome). Each (λ k. looked_at looked k.item ≡ k.looked) (flat_map told_in l)) c.deref-2.ensures.value c.in_ok-looked.ensures.told in
    tells_race c.args.script.now c.args.capture.now c.args.lookers c.args.passes e looked c.requires.script c.requires.ended
    (c.in_ok-looked.ensures.count ∙ ap (λ (l : List Item). length l) c.items.ensures) there
    c.header-header.result.now c.is_cut.result c.in_ok-replies.replies.items c.in_ok-listings.listings.items c.in_ok-journals.journals.items c.into_list-book.result.items
    c.header-header.ensures c.is_cut.ensures
    (c.in_ok-replies.ensures ∙ ap (flat_map replies_in) c.deref.ensures.value)
    c.in_ok-listings.ensures
    (c.in_ok-journals.ensures ∙ ap (map count_in) c.deref-3.ensures.value)
    c.into_list-book.ensures
    known
