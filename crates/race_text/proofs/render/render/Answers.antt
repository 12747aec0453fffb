use Rattle.std.proofs.Common.{◌++◌, ap, ◌∙◌}
use Rattle.race_book.specs.Listed.{lives_of}
use Rattle.race_text.specs.Render.{Told, command_lines, told_text, life_line}
use Rattle.std.specs.List.{flat_map}
use Rattle.race_text.specs.Labelled.{label_of}
use Rattle.race_text.proofs.Named.{named}
use Rattle.race_text.proofs.Whole.{whole}
use Rattle.race_text.proofs.render.render.Goals as goal

pub returns : goal.returns
returns c =
    let names = named c.in_ok-labels.labels c.args.script.now.sections c.in_ok-labels.ensures in
    let r : Told = record {
      lookers = c.told.inside.lookers;
      passes = c.told.inside.passes;
      shape = c.told.inside.shape;
      seed = c.told.inside.seed;
      replies = c.told.inside.replies.items;
      listings = c.told.inside.listings.items;
      journals = c.told.inside.journals.items;
      book = c.told.inside.book.items;
      looked = c.told.inside.looked.items;
      cut = c.told.inside.cut;
      clock = c.told.inside.clock;
    } in
    whole c.args.script.now.sections r _ c.in_ok-lives.lives.items c.in_ok-commands.commands.items _ _ c.new-out.result.items c.put_race.new.out.items c.put_shape.new.out.items c.put.new.out.items
    c.put_journals.new.out.items c.put_lives.new.out.items c.put_looked_lines.new.out.items c.put_cut.new.out.items c.put_clock.new.out.items
    names (c.in_ok-lives.ensures ∙ ap lives_of c.deref-3.ensures.value) (c.in_ok-commands.ensures ∙ (λ i. command_lines c.args.script.now.sections (c.deref.ensures.value i) (c.deref-2.ensures.value i))) c.deref-5.ensures.value c.deref-7.ensures.value c.new-out.ensures.items c.in_ok-put_race.ensures c.in_ok-put_shape.ensures (c.in_ok-put.ensures ∙ ap (λ t. c.put_shape.new.out.items ++ t) c.deref-4.ensures.value) c.in_ok-put_journals.ensures (c.in_ok-put_lives.ensures ∙ ap (λ ls. c.put_journals.new.out.items ++ flat_map (life_line (label_of c.in_ok-labels.labels)) ls) c.deref-6.ensures.value) c.in_ok-put_looked_lines.ensures c.in_ok-put_cut.ensures c.in_ok-put_clock.ensures
    ∙ ap (told_text c.args.script.now.sections) c.told.view_is
