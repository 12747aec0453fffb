-- A pass that has changed a chain and given the lock back.
use Rattle.std.proofs.Common.{◌≡◌, ℕ, ◌+◌, [], sym, refl, subst, arith}
use Rattle.table_rule.specs.declared.view.View.{View}
use Rattle.table_rule.specs.Calls.{IsIdle, HasShares}
use Rattle.table_rule.specs.Plays.{unlocking}

pub unlocked_ready : (v w : View) (n instant : ℕ) → w ≡ unlocking v instant → IsIdle v.slot → v.book.opened ≡ [] → HasShares n v → IsIdle w.slot × (w.book.opened ≡ []) × (w.chain.locked ≡ []) × HasShares n w
unlocked_ready v w n instant is idle opened share = subst (λ (x : View). IsIdle x.slot × (x.book.opened ≡ []) × (x.chain.locked ≡ []) × HasShares n x) (sym is) (idle, opened, refl, share)

-- two of the numbers are for the next change
pub shares_split : (v : View) (n : ℕ) → HasShares ((n + 1) + (n + 1)) v → HasShares ((n + n) + 2) v
shares_split v n h = omega (arith, h)

-- four of the numbers are for the next two changes
pub shares_split_two : (v : View) (n : ℕ) → HasShares ((n + 2) + (n + 2)) v → HasShares ((n + n) + 4) v
shares_split_two v n h = omega (arith, h)
