-- What new tables and their first worker are, and a worker that others are split off and joined to: our own.
use Rattle.std.specs.Prelude.{◌≡◌, ℕ, Bool, true, false}
use Rattle.chain_book.specs.declared.shape.Shape.{Shape}
use Rattle.bind_buckets.specs.Turned.{IsIdle}
use Rattle.bind_buckets.specs.declared.request.Sharing.{Sharing}
use Rattle.bind_buckets.specs.declared.request.Sharing.TheVariants as sharings
use Rattle.reuseport_group.specs.Passes as lists
use Rattle.reuseport_group.specs.Views as list_views
use Rattle.table_rule.specs.Passes as chain_words
use Rattle.table_rule.specs.Rule as chain_rule
use Rattle.turn_table.specs.Passes as words
use Rattle.turn_table.specs.Passes.{IsPassOf, IsFree, known}
use Rattle.turn_table.specs.Views as turn_views
use Rattle.sock_ops.specs.Sides.{IsResting, HoldsNothing}
use Rattle.sock_ops.specs.Stands.{HasGroups, buckets_of, turned}
use Rattle.sock_ops.specs.declared.tables.Changes.{Changes}
use Rattle.sock_ops.specs.declared.tables.Changes.TheVariants as changes
use Rattle.sock_ops.specs.declared.tables.Tables.{Tables}
use Rattle.sock_ops.specs.declared.tables.Worker.{Worker}

-- passes keep their changes
abbrev pub keeps : Changes → Bool
keeps changes.Kept = true
keeps changes.Counted = false

-- empty tables of that shape, and the worker that has all parts of the right to know them, and has done nothing
pub record AreNew (shape : Shape) (seed : ℕ) (sharing : Sharing) (c : Changes) (t : Tables) (w : Worker) : Type 0 where
  pub layout : t.chains.layout ≡ record { shape = shape; seed = seed }
  pub buckets : buckets_of t ≡ shape.bind
  pub home : words.home t.buckets ≡ sharing
  pub keeps_changes : t.chains.keeps_changes ≡ keeps c
  pub turns : IsPassOf t.buckets w.turns × IsFree w.turns × (turned w ≡ turn_views.first sharing)
  pub idle : sharing ≡ sharings.Alone → IsIdle t.buckets w.turns
  pub rests : IsResting t.chains w.chain
  pub chain : chain_words.known w.chain.pass ≡ chain_rule.first t.chains.layout
  pub next : w.chain.next ≡ 0
  pub groups : HasGroups t w.groups
  pub published : lists.known w.groups ≡ list_views.first

-- a worker that takes others in, and one that is taken in: no bucket is out, and no change under way
pub record IsAtRest (t : Tables) (w : Worker) : Type 0 where
  pub turns : IsPassOf t.buckets w.turns
  pub free : IsFree w.turns
  pub rests : IsResting t.chains w.chain
  pub nothing : HoldsNothing (chain_words.known w.chain.pass)
  pub groups : HasGroups t w.groups
