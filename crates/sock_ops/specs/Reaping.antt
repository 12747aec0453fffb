-- What it comes to, among others, that a TIME_WAIT is taken out: inet_twsk_kill of net/ipv4/inet_timewait_sock.c.
-- That a plan goes on so is our own.
use Rattle.std.specs.Prelude.{ℕ, ◌+◌, Bool, true, false, List, ◌∷◌}
use Rattle.bind_buckets.specs.Turned.{View}
use Rattle.sock_ops.specs.Sides.{Side}
use Rattle.table_model.specs.Own.{Mine}
use Rattle.table_model.specs.Operations.{reap_each}
use Rattle.sock_ops.specs.Goes.{Went}

-- how many were there, with this one
abbrev pub counted : ℕ → Bool → ℕ
counted n true = n + 1
counted n false = n

-- the first of such TIME_WAITs was there or not, and the plan went on as far as the others
abbrev pub ReapsOne : ℕ → Mine → Bool → View → View → Side → Side → Type 0
ReapsOne count w found v u c d =
    (rest : List Mine) (n : ℕ) → Went count (reap_each (w ∷ rest) n) v u c d (reap_each rest (counted n found))
