-- There are homes before there is room.
use Rattle.std.proofs.Common.{◌≡◌, ◌<◌, ◌≤◌, length, refl, ◌∙◌, arith}
use Rattle.std.proofs.lemmas.List.{with_items_is}
use Rattle.bind_buckets.specs.Links.{most_places}
use Rattle.bind_buckets.proofs.Linked.{same_in_homes}
use Rattle.bind_buckets.proofs.links.Links.reserve.Goals as goal
use Rattle.bind_buckets.proofs.links.Links.reserve.Goals.{then-len-wanted+in_ok-homes+in_ok-resize, else-len-wanted}

pub invariant_of-self-2 : goal.invariant_of-self-2
invariant_of-self-2 c =
    let kept = c.self.inside in
    elim c.if-len-wanted.branch [
      | then-len-wanted+in_ok-homes+in_ok-resize w ↦
          let places = w.link_all.new.places in
          let homes = w.link_all.new.homes in
          let many : length places ≡ kept.places.len = w.link_all.auto.places ∙ w.deref_mut.ensures.len in
          let sized : length homes ≡ w.resize.new.self.len = w.link_all.auto.homes ∙ w.deref_mut-then-len-wanted.ensures.len in
          let wanted = rw w.in_ok-homes.ensures.ok_part at w.homes_for.ensures in
          let some : 0 < length homes = omega (arith, wanted, sized, w.in_ok-resize.ensures.len) in
          let fits : length places ≤ most_places = omega (arith, many, c.self.invariant.fits, kept.places.ok.0) in
          let items = rw w.self-inside-is at c.reserve_exact.ensures.items in
          rw w.self-inside-is
          (same_in_homes places _ homes _ _ (items ∙ with_items_is kept.places places many)
          (with_items_is w.resize.new.self homes sized) some w.link_all.ensures.linked fits)
      | else-len-wanted w ↦
          let some : 0 < length kept.homes.items = omega (arith, w.if-len-wanted.false, c.len-2.ensures, kept.homes.ok.0) in
          let items = rw w.self-inside-is at c.reserve_exact.ensures.items in
          rw w.self-inside-is
          (same_in_homes kept.places.items _ kept.homes.items _ _ items refl some c.self.invariant.linked c.self.invariant.fits)
    ]
