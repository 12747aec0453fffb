use Rattle.std.proofs.Common.{rules, ◌≡◌, ◌∙◌, refl, subst}
use Rattle.shared_calls.specs.Lookings.{Looking}
use Rattle.shared_calls.specs.Sharings.{HasNoLooker, TakesLookerBack}
use Rattle.shared_calls.specs.declared.tables.Refused.TheVariants as refusals
use Rattle.inet_c.proofs.Holding.{holds, looker_waits, some_left}
use Rattle.inet_c.proofs.handing.give_looker.Goals as goal

pub returns-in-Ok-boxed : goal.returns-in-Ok-boxed
returns-in-Ok-boxed c =
    let given = c.in-Ok.given in (
      c.requires,
      some_left (HasNoLooker c.args.tables.now) given refusals.AllOut c.in-Ok.ensures.all_out,
      (given, holds c.of.result.boxed c.in-Ok-boxed.made.value given c.of.ensures c.in-Ok-boxed.ensures.boxed, c.in-Ok.ensures.hands),
    )

pub returns-in-Err : goal.returns-in-Err
returns-in-Err c =
    let given = c.in-Ok.given in let mid = c.looker.new.self in let new = c.take_looker_back.new.self in (
      c.requires,
      some_left (HasNoLooker c.args.tables.now) given refusals.AllOut c.in-Ok.ensures.all_out,
      refl,
      looker_waits c.args.tables.now mid new given c.in-Ok.ensures.hands (subst (λ (l : Looking). TakesLookerBack mid new l) c.in-Err.ensures.back c.take_looker_back.ensures),
    )
