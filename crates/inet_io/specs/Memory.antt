-- What an end in memory tells beyond what each source and sink does: how many bytes a call moves, and which calls
-- fail. Our own.
use Rattle.std.specs.Prelude.{ℕ, ◌+◌, ◌-◌, ◌^◌, min, List, length, drop, Contains}
use Rattle.inet_io.specs.declared.memory.MemSource.{MemSource}
use Rattle.inet_io.specs.declared.memory.MemSink.{MemSink}

-- The most bytes that a call moves, the numbers, from 1, of the calls that fail, and how many calls were made, up to
-- the last value of a `u64`.
pub record Terms : Type 0 where
  pub most : ℕ
  pub failing : List ℕ
  pub calls : ℕ

-- those of a source
abbrev pub source_terms : MemSource → Terms
source_terms source = record { most = source.most; failing = source.failing.items; calls = source.calls }

-- those of a sink
abbrev pub sink_terms : MemSink → Terms
sink_terms sink = record { most = sink.most; failing = sink.failing.items; calls = sink.calls }

-- how many bytes a source has left
abbrev pub left_in : MemSource → ℕ
left_in source = length (drop source.at source.bytes.items)

-- a call later
abbrev pub called : Terms → Terms
called terms = record terms { calls = min (terms.calls + 1) (2 ^ 64 - 1) }

-- The next call is one of those that fail.
abbrev pub Fails : Terms → Type 0
Fails terms = Contains terms.failing (called terms).calls
