-- What the first worker knows once others were joined to it, in whatever order: our own.
use Rattle.std.specs.Prelude.{◌≡◌, ℕ, ◌≤◌, List, []}
use Rattle.std.specs.List.{flat_map}
use Rattle.list_words.specs.Lists.{Each, total}
use Rattle.bind_buckets.specs.Turned.{View as BindView}
use Rattle.table_rule.specs.declared.view.View.{View}

-- what a worker has done: what its pass of the bind buckets knows, and that of the chains
pub record Part : Type 0 where
  pub turns : BindView
  pub chain : View

-- to a worker that had done nothing itself the workers of these numbers were joined, in that order
pub record Joined (part : ℕ → Part) (order : List ℕ) (v : BindView) (x : View) : Type 0 where
  pub mine : v.mine ≡ flat_map (λ m. (part m).turns.mine) order
  pub closed : x.book.closed ≡ flat_map (λ m. (part m).chain.book.closed) order
  pub lost : x.book.lost ≡ flat_map (λ m. (part m).chain.book.lost) order
  pub sights : x.sights ≡ flat_map (λ m. (part m).chain.sights) order
  pub wholes : x.read.wholes ≡ flat_map (λ m. (part m).chain.read.wholes) order
  pub receipts : x.read.receipts ≡ flat_map (λ m. (part m).chain.read.receipts) order
  pub taken : x.slot.taken ≡ total (λ m. (part m).chain.slot.taken) order
  pub seen : Each (λ m. (part m).chain.seen ≤ x.seen) order

-- it has done nothing
pub record IsBlank (v : BindView) (x : View) : Type 0 where
  pub mine : v.mine ≡ []
  pub closed : x.book.closed ≡ []
  pub lost : x.book.lost ≡ []
  pub sights : x.sights ≡ []
  pub wholes : x.read.wholes ≡ []
  pub receipts : x.read.receipts ≡ []
  pub taken : x.slot.taken ≡ 0
