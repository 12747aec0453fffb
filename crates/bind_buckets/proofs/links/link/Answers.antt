use Rattle.std.proofs.Common.{◌≡◌, ◌%◌, ◌<◌, length, get_or, Some, sym, ◌∙◌, ap, arith}
use Rattle.std.proofs.Math.ListN.{set}
use Rattle.std.proofs.lemmas.List.{get_or-map, get_or_default}
use Rattle.bind_buckets.specs.declared.links.Place.{Place}
use Rattle.bind_buckets.specs.Links.{keys_in, newers_in, no_ends, home_at}
use Rattle.bind_buckets.proofs.Linked.{linked_first, linked_behind}
use Rattle.bind_buckets.proofs.links.link.Goals as goal
use Rattle.bind_buckets.proofs.links.link.Goals.{in-Some, in_default}

pub returns-clause-linked : goal.returns-clause-linked
returns-clause-linked c =
    let places = c.args.places.now in
    let homes = c.args.homes.now in
    let k = c.args.place in
    let x = c.index-places-place.result in
    let ends = c.index-homes-home.result in
    let home = (get_or places k x).key % length homes in
    let at : get_or (keys_in places) k 0 % length homes ≡ home =
    ap (λ n. n % length homes) (get_or-map (λ (p : Place). p.key) places k x 0 c.requires.place) in
    let within : home < length homes = let some = c.requires.homes in omega arith in
    let is : home_at homes home ≡ ends = get_or_default homes home no_ends ends within ∙ sym c.index-homes-home.is in
    let alone = c.set_newer.ensures.newers ∙ ap (set (newers_in places) k) c.none.ensures in
    elim c.match-get.branch [
      | in-Some w ↦ rw (w.places-is, c.ends_with.ensures) (linked_behind places w.set_newer-in-Some.new.places homes k c.requires.place c.requires.homes
          (w.set_newer-in-Some.ensures.keys ∙ c.set_newer.ensures.keys) c.requires.linked home ends w.in-Some.newest at is (sym c.get.ensures ∙ w.in-Some.is)
          (w.set_newer-in-Some.ensures.newers ∙ ap (set (newers_in c.set_newer.new.places) w.in-Some.newest) w.of.ensures
          ∙ ap (λ xs. set xs w.in-Some.newest (Some k)) alone))
      | in_default w ↦ rw (w.places-is, c.ends_with.ensures) (linked_first places c.set_newer.new.places homes k c.requires.place c.requires.homes c.set_newer.ensures.keys
          c.requires.linked home ends at is (sym c.get.ensures ∙ w.in_default.is) alone)
    ]
