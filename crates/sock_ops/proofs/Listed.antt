-- Whose lists of groups stay published.
use Rattle.std.proofs.Common.{ℕ}
use Rattle.bind_buckets.specs.Turned.{View}
use Rattle.reuseport_group.specs.declared.pass.GroupPasses.{GroupPasses}
use Rattle.sock_ops.specs.Groups.{KeepsListed}

-- who does nothing
pub same_keeps : (count : ℕ) (v : View) (p : GroupPasses) → KeepsListed count v v p p
same_keeps count v p = record { alone = λ alone. alone; sole = λ sole. sole; listed = λ alone listed. listed }

-- who does one thing after the other
pub keeps_both : (count : ℕ) (u v w : View) (p q r : GroupPasses) → KeepsListed count u v p q → KeepsListed count v w q r → KeepsListed count u w p r
keeps_both count u v w p q r k l =
    record {
      alone = λ alone. l.alone (k.alone alone);
      sole = λ sole. l.sole (k.sole sole);
      listed = λ alone listed. l.listed (k.alone alone) (k.listed alone listed);
    }
