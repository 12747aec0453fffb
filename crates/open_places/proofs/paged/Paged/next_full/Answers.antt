use Rattle.std.proofs.Common.{arith}
use Rattle.open_places.proofs.Seeks.{is_next, looked}
use Rattle.open_places.proofs.paged.Paged.next_full.Goals as goal

pub returns-in-Some : goal.returns-in-Some
returns-in-Some g c =
    let on = c.page_from-number in
    is_next c.args.self.now.cells c.args.first c.loop-from.from on.result.0 c.first_on.result on.result.1.now
    c.loop-from.invariant.1 on.ensures.between on.ensures.shows c.first_on.ensures.first
    c.loop-from.invariant.0 c.first_on.ensures.on on.ensures.short c.in-Some.place c.in-Some.ensures

pub loop-from-preserved : goal.loop-from-preserved
loop-from-preserved g c =
    let on = c.page_from-number in (
      omega (arith, c.loop-from.invariant.0, on.ensures.from),
      λ i f p. looked c.args.self.now.cells c.args.first c.loop-from.from on.result.0 c.first_on.result on.result.1.now
          c.loop-from.invariant.1 on.ensures.between on.ensures.shows c.first_on.ensures.first
          32 (omega arith) (λ k l m. c.in-None.ensures k l) i f (omega (arith, p)),
    )
