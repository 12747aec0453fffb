use Rattle.std.proofs.Common.{◌≡◌, ℕ, Option, List, [], ◌∷◌, ◌++◌, not, ap, sym, ◌∙◌, subst, append_assoc}
use Rattle.std.proofs.lemmas.List.{append-nil}
use Rattle.capture_reader.specs.declared.number.Order.{Order}
use Rattle.capture_reader.specs.declared.header.Link.{Link}
use Rattle.capture_reader.specs.declared.packet.Item.{Item}
use Rattle.capture_reader.specs.declared.block.Block.{Block}
use Rattle.capture_reader.specs.declared.block.Block.TheVariants as blocks
use Rattle.capture_reader.specs.Sections.{BlockSection}
use Rattle.capture_reader.specs.Blocks.{BeginsWithBlock, AreBlocks, after, items_of}
use Rattle.capture_reader.proofs.Blocks.{ends_as}
use Rattle.capture_reader.proofs.capture.read_blocks.Goals as goal

-- the block that was found, and what it is
found_as : (dev net : ℕ) (section : BlockSection) (bytes : List ℕ) (a b : Block) (rest : List ℕ) → a ≡ b → BeginsWithBlock dev net section bytes a rest → BeginsWithBlock dev net section bytes b rest
found_as dev net section bytes a b rest e h = subst (λ (x : Block). BeginsWithBlock dev net section bytes x rest) e h

-- a section with one more interface is the one after that interface's block
grown : (old new : BlockSection) (link : Option Link) → new.order ≡ old.order → new.links ≡ old.links ++ link ∷ [] → new ≡ after old (blocks.Interface link)
grown old new link e f =
    let made : (o p : Order) (xs ys : List (Option Link)) → o ≡ p → xs ≡ ys → (let a : BlockSection = record { order = o; links = xs } in let b : BlockSection = record { order = p; links = ys } in a ≡ b) = λ o p xs ys s t. cc in
    made new.order old.order new.links (old.links ++ link ∷ []) e f

pub loop-block-preserved-in-Section : goal.loop-block-preserved-in-Section
loop-block-preserved-in-Section c = λ more cut h.
    let s = c.loop-block.section in
    let rest = c.in-Some.after.now in
    let block = blocks.Section c.in-Section.order in
    let begins = found_as c.args.dev c.args.net s c.loop-block.rest.now c.in-Some.block block rest c.in-Section.is c.in-Some.ensures.some in
    c.loop-block.invariant (block ∷ more) cut (rest, begins, subst (λ (t : BlockSection). AreBlocks c.args.dev c.args.net t rest more cut) c.begin.ensures h)

pub loop-block-preserved-in_ok-add-in-Interface : goal.loop-block-preserved-in_ok-add-in-Interface
loop-block-preserved-in_ok-add-in-Interface c = λ more cut h.
    let s = c.loop-block.section in
    let rest = c.in-Some.after.now in
    let block = blocks.Interface c.in-Interface.link in
    let begins = found_as c.args.dev c.args.net s c.loop-block.rest.now c.in-Some.block block rest c.in-Interface.is c.in-Some.ensures.some in
    let more_links = grown s c.add.new.self c.in-Interface.link c.in_ok-add-in-Interface.ensures.order c.in_ok-add-in-Interface.ensures.links in
    c.loop-block.invariant (block ∷ more) cut (rest, begins, subst (λ (t : BlockSection). AreBlocks c.args.dev c.args.net t rest more cut) more_links h)

pub loop-block-preserved-in_ok-push-in-Packet : goal.loop-block-preserved-in_ok-push-in-Packet
loop-block-preserved-in_ok-push-in-Packet c = λ more cut h.
    let s = c.loop-block.section in
    let rest = c.in-Some.after.now in
    let item = c.in-Packet.item in
    let block = blocks.Packet item in
    let begins = found_as c.args.dev c.args.net s c.loop-block.rest.now c.in-Some.block block rest c.in-Packet.is c.in-Some.ensures.some in
    let all = c.loop-block.invariant (block ∷ more) cut (rest, begins, h) in
    let items = ap (λ (xs : List Item). xs ++ items_of more) c.in_ok-push-in-Packet.ensures.items in
    (all.0, all.1, items ∙ append_assoc c.loop-block.items.items (item ∷ []) (items_of more) ∙ all.2)

pub loop-block-preserved : goal.loop-block-preserved
loop-block-preserved c = λ more cut h.
    let rest = c.in-Some.after.now in
    let begins = found_as c.args.dev c.args.net c.loop-block.section c.loop-block.rest.now c.in-Some.block blocks.Other rest c.in-Other.is c.in-Some.ensures.some in
    c.loop-block.invariant (blocks.Other ∷ more) cut (rest, begins, h)

pub returns : goal.returns
returns c =
    let a = c.args in
    let end = ends_as a.dev a.net c.loop-block.section c.loop-block.rest.now c.is_empty-cut.result c.is_empty-cut.ensures c.in_default.ensures.none in
    let all = c.loop-block.invariant [] (not c.is_empty-cut.result) end in
    (all.0, all.1, sym (append-nil c.loop-block.items.items) ∙ all.2)
