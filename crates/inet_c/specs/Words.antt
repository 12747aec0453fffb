-- What the numbers of a call stand for. Our own.
use Rattle.std.specs.Prelude.{ℕ, ◌==◌, ◌<◌, ◌/◌, ◌%◌, if◌then◌else◌, Option, None, Some}
use Rattle.flat_list.specs.declared.owned.Options.{Options}

-- there is such a namespace: one of those that a script may name
abbrev pub IsNamespace : ℕ → Type 0
IsNamespace net = net < 16

-- there is such a namespace, and no flag beside the three
pub record AreOptions (net flags : ℕ) : Type 0 where
  pub namespace : IsNamespace net
  pub known : flags < 8

-- 1 is SO_REUSEADDR, 2 SO_REUSEPORT, 4 IP_BIND_ADDRESS_NO_PORT
abbrev pub options : ℕ → ℕ → ℕ → ℕ → Options
options net uid dev flags =
    record {
      net = Some net;
      uid = Some uid;
      dev = Some dev;
      reuseaddr = flags % 2 == 1;
      reuseport = flags / 2 % 2 == 1;
      noport = flags / 4 % 2 == 1;
    }

-- 0 names no source
abbrev pub source : ℕ → Option ℕ
source from = if from == 0 then None else Some from
