use Rattle.std.proofs.Common.{rules, ◌≡◌, ◌∙◌, refl, subst}
use Rattle.shared_calls.specs.Limits.{limited}
use Rattle.shared_calls.specs.Sharings.{HasNoCaller, TakesBack}
use Rattle.shared_calls.specs.declared.limited.Limited.{Limited}
use Rattle.shared_calls.specs.declared.tables.Refused.TheVariants as refusals
use Rattle.inet_c.proofs.Holding.{holds, some_left, worker_waits}
use Rattle.inet_c.proofs.handing.give_worker.Goals as goal

pub returns-in-Ok-boxed-clause-hands : goal.returns-in-Ok-boxed-clause-hands
returns-in-Ok-boxed-clause-hands c =
    let caller = c.in-Ok.caller in let worker = limited caller c.args.limits in (
      c.requires.none,
      some_left (HasNoCaller c.args.tables.now) caller refusals.AllOut c.in-Ok.ensures.all_out,
      (
        worker,
        holds c.of.result.boxed c.in-Ok-boxed.made.value worker c.of.ensures (c.in-Ok-boxed.ensures.boxed ∙ c.new.ensures),
        (caller, refl, c.number-given.ensures, c.in-Ok.ensures.hands),
      ),
    )

pub returns-in-Err-clause-hands : goal.returns-in-Err-clause-hands
returns-in-Err-clause-hands c =
    let caller = c.in-Ok.caller in let mid = c.caller.new.self in let new = c.take_back.new.self in (
      c.requires.none,
      some_left (HasNoCaller c.args.tables.now) caller refusals.AllOut c.in-Ok.ensures.all_out,
      refl,
      worker_waits c.args.tables.now mid new caller c.in-Ok.ensures.hands (subst (λ (w : Limited). TakesBack mid new w.caller) (c.in-Err.ensures.back ∙ c.new.ensures) c.take_back.ensures),
    )
