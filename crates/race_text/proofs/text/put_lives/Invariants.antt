use Rattle.std.proofs.Common.{◌≡◌, ◌++◌, drop}
use Rattle.std.specs.List.{flat_map}
use Rattle.race_text.specs.Render.{life_line}
use Rattle.race_text.specs.Labelled.{label_of}
use Rattle.race_text.proofs.text.put_lives.Given as goal

abbrev pub invariant-loop-life : goal.invariant-loop-life
invariant-loop-life l =
    l.out.items ++ flat_map (life_line (label_of l.labels)) (drop l.life-index l.lives) ≡ l.fn.out.items ++ flat_map (life_line (label_of l.labels)) l.lives
