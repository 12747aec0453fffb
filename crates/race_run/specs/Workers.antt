-- What workers are between two calls: our own.
use Rattle.std.specs.Prelude.{◌≡◌, ℕ, ◌+◌, ◌≤◌, true, []}
use Rattle.bind_buckets.specs.declared.request.Sharing.TheVariants as sharings
use Rattle.flat_list.specs.declared.header.Header.{Header}
use Rattle.reuseport_group.specs.Passes as lists
use Rattle.table_rule.specs.Passes as chain_words
use Rattle.turn_table.specs.Passes as words
use Rattle.turn_table.specs.Passes.{known}
use Rattle.sock_ops.specs.declared.tables.Tables.{Tables}
use Rattle.sock_ops.specs.declared.tables.Worker.{Worker}
use Rattle.sock_ops.specs.Tables.{IsAtRest}
use Rattle.sock_ops.specs.Stands.{IsReady, buckets_of, turned, chained}
use Rattle.race_run.specs.Joins.{Part, IsBlank}
use Rattle.race_run.specs.Sections.{HasNothing, layout_in}

-- the tables are those of that header, each section has a caller of its own, and changes are kept
pub record AreTables (header : Header) (t : Tables) : Type 0 where
  pub layout : t.chains.layout ≡ layout_in header
  pub buckets : buckets_of t ≡ header.shape.bind
  pub some : 1 ≤ buckets_of t
  pub shared : words.home t.buckets ≡ sharings.Shared
  pub keeps : t.chains.keeps_changes ≡ true

-- what a worker has done
abbrev pub part_of : Worker → Part
part_of w = record { turns = known w.turns; chain = chain_words.known w.chain.pass }

-- the first worker, which has done nothing, after it split off so many
pub record IsFirst (t : Tables) (before : ℕ) (w : Worker) : Type 0 where
  pub rest : IsAtRest t w
  pub turn_parts : words.parts w.turns + before ≡ 16384
  pub chain_parts : (part_of w).chain.slot.parts + before ≡ 16384
  pub group_parts : lists.parts w.groups + before ≡ 16384
  pub caller : words.caller w.turns ≡ 0
  pub splits : words.splits w.turns ≡ before
  pub seen : (part_of w).chain.seen ≡ 0
  pub opened : (part_of w).chain.book.opened ≡ []
  pub blank : IsBlank (part_of w).turns (part_of w).chain

-- the worker that was split off as caller n
pub record IsFresh (header : Header) (t : Tables) (n : ℕ) (w : Worker) : Type 0 where
  pub rest : IsAtRest t w
  pub ready : IsReady t w
  pub turn_part : words.parts w.turns ≡ 1
  pub chain_part : (part_of w).chain.slot.parts ≡ 1
  pub group_part : lists.parts w.groups ≡ 1
  pub draws : words.draws w.turns ≡ 0
  pub nothing : HasNothing header n (turned w) (chained t w)
