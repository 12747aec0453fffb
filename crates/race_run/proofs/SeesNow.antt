-- A pass that is alone, after it has loaded the clock.
use Rattle.std.proofs.Common.{◌≡◌, ℕ, ◌≤◌, sym, subst, arith}
use Rattle.table_rule.specs.Plays.{seeing}
use Rattle.table_rule.specs.Sole.{IsNow}
use Rattle.table_rule.specs.declared.view.View.{View}

pub sees_now : (v w : View) (clock : ℕ) → v.seen ≤ clock → w ≡ seeing v clock → IsNow v → IsNow w
sees_now v w clock later e o = subst IsNow (sym e) record {
  bare = (record { all = o.bare.0.all; rises = o.bare.0.rises; waits = o.bare.0.waits }, o.bare.1);
  idle = o.idle;
  recent = λ n c at. let before = o.recent n c at in omega (arith, before, later);
}
