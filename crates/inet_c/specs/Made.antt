-- What tables are made of, and what comes of it. Our own.
use Rattle.std.specs.Prelude.{◌≡◌, ◌≢◌, ℕ, ℤ, pos, ◌%◌, ◌^◌, ◌<◌, ◌≤◌, Option, None, Some, if◌then◌else◌}
use Rattle.chain_book.specs.Shapes.{IsPowerTo}
use Rattle.chain_book.specs.declared.shape.Shape.{Shape}
use Rattle.flat_list.specs.declared.header.Header.{Header}
use Rattle.flat_list.specs.declared.header.Range.{Range}
use Rattle.flat_list.specs.Flat.{new_flat}
use Rattle.flat_list.specs.Ports.{size}
use Rattle.flat_calls.specs.Calls.{Numbered}
use Rattle.shared_calls.specs.declared.limited.Limits.{Limits}
use Rattle.inet_c.specs.declared.errno.TheConstants.{EBADF, EBUSY, EINVAL, ENOMEM, EUSERS}
use Rattle.inet_c.specs.declared.sizes.InetLimits.{InetLimits}
use Rattle.inet_c.specs.declared.sizes.InetSizes.{InetSizes}
use Rattle.inet_c.specs.declared.making.Making.{Making}
use Rattle.inet_c.specs.declared.making.Making.TheVariants as makings

-- where each search begins, if that is fixed
abbrev pub offset_of : InetSizes → Option ℕ
offset_of sizes = if sizes.has_offset then Some sizes.offset else None

-- the header of a script that names these sizes
abbrev pub header_of : InetSizes → Header
header_of sizes =
    record {
      shape = record { slots = sizes.slots; bind = sizes.bind; hash = sizes.hash; listen = sizes.listen };
      range = record { low = sizes.low; high = sizes.high; reserved = record { ports = sizes.reserved; count = sizes.reserved_count } };
      seed = sizes.seed;
      offset = offset_of sizes;
      twreuse = sizes.twreuse;
    }

-- an even number of ports, from 1 on
pub record PortsFit (range : Range) : Type 0 where
  pub low : 1 ≤ range.low
  pub order : range.low < range.high
  pub even : size range % 2 ≡ 0

-- how many slots and buckets callers' tables may have: 256 times those of a script's, but for bind buckets
pub record CallersShape (shape : Shape) : Type 0 where
  pub slots : (1 ≤ shape.slots) × (shape.slots ≤ 2 ^ 24)
  pub bind : IsPowerTo 256 shape.bind
  pub hash : IsPowerTo (2 ^ 24) shape.hash
  pub listen : IsPowerTo (2 ^ 20) shape.listen

-- the sizes that tables may have, in the struct of this version, which is 164 bytes long; 64 ports at most are reserved
pub record SizesFit (sizes : InetSizes) : Type 0 where
  pub size : sizes.size ≡ 164
  pub reserved : sizes.reserved_count ≤ 64
  pub shape : CallersShape (header_of sizes).shape
  pub range : PortsFit (header_of sizes).range

-- the limits that a worker is under, and that the struct is of this version, which is 32 bytes long
abbrev pub limits_of : InetLimits → Limits
limits_of limits =
    record { tries = limits.tries; most_waits = limits.most_waits; full_for = limits.full_for }

abbrev pub LimitsFit : InetLimits → Type 0
LimitsFit limits = limits.size ≡ 32

-- tables without sockets
abbrev pub empty_tables : Header → Numbered
empty_tables header = record { flat = new_flat header; calls = 0 }

-- what a handle holds then: a list
abbrev pub IsList : Header → Numbered → Type 0
IsList header list = list ≡ empty_tables header

-- What came of the making of tables of those sizes in a handle: they are made where the sizes fit and it held
-- nothing, or all is as it was. The causes exclude each other; want of memory alone may come or not where tables would.
abbrev pub Makes : {S : Type 0} → (Header → S → Type 0) → InetSizes → Option S → Option S → Making → Type 0
Makes {S} Is sizes old new makings.Made =
    SizesFit sizes × (old ≡ None) × ((state : S) × (new ≡ Some state) × Is (header_of sizes) state)
Makes Is sizes old new makings.Unfit = (SizesFit sizes → ⊥) × (new ≡ old)
Makes Is sizes old new makings.There = SizesFit sizes × (old ≢ None) × (new ≡ old)
Makes Is sizes old new makings.NoMemory = SizesFit sizes × (old ≡ None) × (new ≡ old)
Makes Is sizes old new _ = ⊥

-- EINVAL of sizes that don't fit, EBUSY of a handle that holds something; EBADF of shared tables that aren't there, and
-- EUSERS where as many were handed out as there may be
abbrev pub errno_of : Making → ℤ
errno_of makings.Made = pos 0
errno_of makings.NoTables = EBADF
errno_of makings.NoMemory = ENOMEM
errno_of makings.There = EBUSY
errno_of makings.Unfit = EINVAL
errno_of makings.AllOut = EUSERS
