-- The owners of a bucket as its code sees them: our own rule.
use Rattle.std.specs.Prelude.{ℕ, ◌≤◌, List}
use Rattle.sock_card.specs.declared.owner.Owner.{Owner}
use Rattle.bind_buckets.specs.OwnerCounts.{OwnerCounts, IsCountOf, HasMemory}

-- the owners, oldest first, and how many more may come without memory
pub record Listed : Type 0 where
  pub owners : List Owner
  pub room : ℕ

-- the counts are of these owners, and those that may come can be counted
pub record AreCounted (listed : Listed) (counts : OwnerCounts) : Type 0 where
  pub counted : IsCountOf counts listed.owners
  pub made : 1 ≤ listed.room → HasMemory counts
