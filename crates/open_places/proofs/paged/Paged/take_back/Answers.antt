use Rattle.std.proofs.Common.{◌≡◌, ◌+◌, length, ap, sym, ◌∙◌, arith}
use Rattle.open_places.specs.Pages.{places_on}
use Rattle.open_places.proofs.Pages.{back_places, back_there, takes_back}
use Rattle.open_places.proofs.paged.Paged.take_back.Goals as goal

pub returns-then-len-gt0 : goal.returns-then-len-gt0
returns-then-len-gt0 g c before is =
    let p = c.self.inside in
    ap (places_on p.earlier p.number) c.take_back.ensures
    ∙ takes_back p.earlier p.number p.last (omega (arith, c.if-len-gt0.true, c.len.ensures)) before (c.self.view_is ∙ is)

pub returns-in-Some-remove : goal.returns-in-Some-remove
returns-in-Some-remove g c before is =
    let p = c.self.inside in
    let none : length p.last ≡ 0 = omega (arith, c.if-len-gt0.false, c.len.ensures) in
    let n = c.in-Some.number in
    let more : p.number ≡ n + 1 = omega (arith, c.in-Some.ensures) in
    let page = c.in-Some-remove.page in
    ap (places_on c.remove.new.self n) c.take_back-in-Some-remove.ensures
    ∙ back_places p.earlier c.remove.new.self p.number n p.last c.self.invariant none more page (sym c.in-Some-remove.ensures.value) c.remove.ensures.updates before (c.self.view_is ∙ is)

pub returns-in_default-remove : goal.returns-in_default-remove
returns-in_default-remove g c before is =
    let p = c.self.inside in
    let none : length p.last ≡ 0 = omega (arith, c.if-len-gt0.false, c.len.ensures) in
    let n = c.in-Some.number in
    let more : p.number ≡ n + 1 = omega (arith, c.in-Some.ensures) in
    absurd (back_there p.earlier c.remove.new.self p.number n p.last c.self.invariant none more before (c.self.view_is ∙ is) (sym c.remove.ensures.value ∙ c.in_default-remove.is))
