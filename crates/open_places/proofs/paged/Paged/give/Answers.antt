use Rattle.std.proofs.Common.{◌≡◌, ◌+◌, ◌++◌, ◌∷◌, [], length, Some, None, ap, subst, ◌∙◌, arith}
use Rattle.open_places.specs.Cells.{Places, one_more}
use Rattle.open_places.specs.Pages.{places_on}
use Rattle.open_places.proofs.Pages.{gives_more, kept_count, more_kept, on_err, same_pages, turned_places}
use Rattle.open_places.proofs.paged.Paged.give.Goals as goal

pub returns-then-len-lt-PLACES-clause-given : goal.returns-then-len-lt-PLACES-clause-given
returns-then-len-lt-PLACES-clause-given g c =
    let p = c.self.inside in
    ap (places_on p.earlier p.number) c.in_ok-give.ensures.given
    ∙ gives_more p.earlier p.number p.last (omega (arith, c.if-len-lt-PLACES.true, c.len.ensures))
    ∙ ap one_more c.self.view_is

pub returns-then-len-lt-PLACES-clause-kept : goal.returns-then-len-lt-PLACES-clause-kept
returns-then-len-lt-PLACES-clause-kept g c =
    let p = c.self.inside in
    let given = ap (places_on p.earlier p.number) c.in_ok-give.ensures.given
    ∙ gives_more p.earlier p.number p.last (omega (arith, c.if-len-lt-PLACES.true, c.len.ensures))
    ∙ ap one_more c.self.view_is in
    more_kept c.args.self.now _ given (subst (λ (q : Places g.row.T.Denot). length q.kept ≡ length q.cells) c.self.view_is (kept_count p.earlier p.number p.last c.self.invariant))

pub returns-in_err-give-clause-err : goal.returns-in_err-give-clause-err
returns-in_err-give-clause-err g c =
    on_err _ (ap (places_on c.self.inside.earlier c.self.inside.number) c.in_err-give.ensures.err ∙ c.self.view_is)

pub returns-in_err-turn_page-clause-err : goal.returns-in_err-turn_page-clause-err
returns-in_err-turn_page-clause-err g c =
    let p = c.self.inside in
    on_err _ (ap (places_on c.turn_page.new.earlier p.number) c.in_err-turn_page.ensures.err
    ∙ same_pages p.earlier c.turn_page.new.earlier p.number p.last c.in_err-turn_page.ensures.same
    ∙ c.self.view_is)

pub returns-in_err-give-2-clause-err : goal.returns-in_err-give-2-clause-err
returns-in_err-give-2-clause-err g c =
    let p = c.self.inside in
    let turned = turned_places p.earlier c.turn_page.new.earlier p.number p.last c.self.invariant (omega (arith, c.if-len-lt-PLACES.false, c.len.ensures, c.self.invariant.within)) c.in_ok-turn_page.ensures.turned in
    on_err _ (ap (places_on c.turn_page.new.earlier (p.number + 1)) (c.in_err-give-2.ensures.err ∙ c.in_ok-turn_page.ensures.new) ∙ turned ∙ c.self.view_is)

pub returns-clause-given : goal.returns-clause-given
returns-clause-given g c =
    let p = c.self.inside in
    let turned = turned_places p.earlier c.turn_page.new.earlier p.number p.last c.self.invariant (omega (arith, c.if-len-lt-PLACES.false, c.len.ensures, c.self.invariant.within)) c.in_ok-turn_page.ensures.turned in
    ap (places_on c.turn_page.new.earlier (p.number + 1)) (c.in_ok-give-2.ensures.given ∙ ap (λ cells. cells ++ Some None ∷ []) c.in_ok-turn_page.ensures.new)
    ∙ gives_more c.turn_page.new.earlier (p.number + 1) [] (omega arith)
    ∙ ap one_more (turned ∙ c.self.view_is)

pub returns-clause-kept : goal.returns-clause-kept
returns-clause-kept g c =
    let p = c.self.inside in
    let turned = turned_places p.earlier c.turn_page.new.earlier p.number p.last c.self.invariant (omega (arith, c.if-len-lt-PLACES.false, c.len.ensures, c.self.invariant.within)) c.in_ok-turn_page.ensures.turned in
    let given = ap (places_on c.turn_page.new.earlier (p.number + 1)) (c.in_ok-give-2.ensures.given ∙ ap (λ cells. cells ++ Some None ∷ []) c.in_ok-turn_page.ensures.new)
    ∙ gives_more c.turn_page.new.earlier (p.number + 1) [] (omega arith)
    ∙ ap one_more (turned ∙ c.self.view_is) in
    more_kept c.args.self.now _ given (subst (λ (q : Places g.row.T.Denot). length q.kept ≡ length q.cells) c.self.view_is (kept_count p.earlier p.number p.last c.self.invariant))
