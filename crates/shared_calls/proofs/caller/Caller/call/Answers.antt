use Rattle.std.proofs.Common.{ℕ, ◌≡◌, ◌+◌, ◌-◌, ◌*◌, ◌<◌, ◌≤◌, ◌^◌, Bool, true, false, nat_lt, length, sym, ◌∙◌, subst, arith}
use Rattle.section_machine.specs.Sections.{given_by}
use Rattle.sock_ops.specs.declared.tables.Tables.{Tables}
use Rattle.sock_ops.specs.Stands.{turned, chained}
use Rattle.table_rule.specs.Passes.{drawn_by}
use Rattle.shared_calls.specs.Callings.{Calling, HadEnded, clock_of, HasStamps, IsCalling, calling}
use Rattle.shared_calls.specs.Numbers.{IsNext}
use Rattle.shared_calls.proofs.Callings.{goes_on}
use Rattle.shared_calls.proofs.Ended.{ended_after}
use Rattle.shared_calls.proofs.caller.Caller.call.Goals as goal
use Rattle.shared_calls.proofs.caller.Caller.call.Goals.{else-gives_number-via-then-gives_number+else-given-ge-SOCKETS, else-gives_number-via-else-gives_number}

-- it has made fewer sockets than it may
few : (n m : ℕ) → n < 72057594037927934 → n ≡ m → m + 2 < 2 ^ 56
few n m less same = omega (arith, less, same)

-- a command that gives no number gives none
none_given : (b c : Bool) → b ≡ false → b ≡ c → c ≡ true → ⊥
none_given b c none is some = cc

pub invariant_of-self : goal.invariant_of-self
invariant_of-self g c =
    let m = c.self.inside in
    let is = c.deref-tables.ensures in
    let was : IsCalling (calling c.deref-tables.result.now m.machine m.worker m.tag) = subst (λ (t : Tables). IsCalling (calling t m.machine m.worker m.tag)) (sym is) c.self.invariant in
    let next : IsNext (length m.machine.own.labels + 1) c.args.command.now = subst (λ (x : Calling). IsNext (length x.kept.own.labels + 1) c.args.command.now) (sym c.self.view_is) c.requires.next in
    let stamps : HasStamps (calling c.deref-tables.result.now m.machine m.worker m.tag) c.args.command.now = subst (λ (n : ℕ). drawn_by m.worker.chain.pass + 7 + 2 * length m.machine.own.waits + n ≤ 2 ^ 48) c.kept_back-more.ensures (c.has_stamps.ensures.0 c.if-not-has_stamps.false) in
    let room : nat_lt 0 (length (given_by c.args.command.now)) ≡ true → length m.machine.own.labels + 2 < 2 ^ 56 = λ e. elim c.else-gives_number.branch [ else-gives_number-via-then-gives_number+else-given-ge-SOCKETS w ↦ few _ _ w.if-given-ge-SOCKETS.false w.given.ensures | else-gives_number-via-else-gives_number w ↦ absurd (none_given _ _ w.if-gives_number.false c.gives_number.ensures e) ] in
    let ended : HadEnded (calling c.deref-tables.result.now c.try_step.new.self c.try_step.new.worker m.tag) (clock_of (calling c.deref-tables.result.now c.try_step.new.self c.try_step.new.worker m.tag)) = ended_after m.machine.header m.machine.own c.args.command.now (turned m.worker) (turned c.try_step.new.worker)
    (chained c.deref-tables.result.now m.worker) (chained c.deref-tables.result.now c.try_step.new.worker) c.try_step.new.self.own c.try_step.result c.try_step.ensures.did c.try_step.ensures.left was.ended in
    subst (λ (t : Tables). IsCalling (calling t c.try_step.new.self c.try_step.new.worker m.tag)) is
    (goes_on c.deref-tables.result.now m.machine c.try_step.new.self m.worker c.try_step.new.worker m.tag c.args.command.now c.try_step.result was stamps room next c.try_step.ensures.section c.try_step.ensures.spends c.try_step.ensures.gives ended)
