use Rattle.std.proofs.Common.{◌≡◌, ◌+◌, ◌++◌, take}
use Rattle.bind_buckets.specs.Slots.{names_in, ports_in, ends_in}
use Rattle.bind_buckets.proofs.owner_list.file_all.Given as goal

abbrev pub invariant-loop-slot : goal.invariant-loop-slot
invariant-loop-slot l =
    record {
      names : l.index.names ≡ l.fn.index.names ++ names_in (take l.slot-index l.slots);
      ports : l.index.ports ≡ l.fn.index.ports ++ ports_in (take l.slot-index l.slots);
      ends : l.index.ends ≡ l.fn.index.ends ++ ends_in (take l.slot-index l.slots);
      room : l.index.room + l.slot-index ≡ l.fn.index.room;
    }
