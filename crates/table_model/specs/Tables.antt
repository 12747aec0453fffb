-- What a plan comes to on tables that nobody else is at: our own.
use Rattle.std.specs.Prelude.{ℕ, Bool, true, false, List, Option, None, Some, replicate}
use Rattle.sock_card.specs.declared.card.Card.{Card}
use Rattle.bind_buckets.specs.Journal.{Standing}
use Rattle.bind_buckets.specs.BindHash.{untouched, asked_at, answer_at}
use Rattle.chain_book.specs.declared.outcome.Hashed.{Hashed}
use Rattle.chain_book.specs.declared.shape.Shape.{Shape}
use Rattle.chain_book.specs.Chains.{Chains, new_chains, insert_outcome, add_outcome, hashed, unhashed, waiting, home_in}
use Rattle.table_model.specs.Asking.{Asking, ends, asks, inserts, adds, unhashes, reaps, impossible}

-- the bind buckets, each with its journal, and the chains
pub record Tables : Type 0 where
  pub buckets : List Standing
  pub chains : Chains

abbrev pub new_tables : Shape → ℕ → Tables
new_tables shape seed = record { buckets = replicate shape.bind untouched; chains = new_chains shape seed }

abbrev pub with_buckets : Tables → List Standing → Tables
with_buckets t buckets = record t { buckets = buckets }

abbrev pub with_chains : Tables → Chains → Tables
with_chains t chains = record t { chains = chains }

-- what a plan came to, and the tables then
pub record Ended (R : Type 0) : Type 0 where
  pub tables : Tables
  pub result : R

-- a TIME_WAIT was there for `reap`
abbrev pub was_found : Option Hashed → Bool
was_found None = false
was_found (Some x) = true

abbrev pub reaped : Chains → Card → Option Hashed → Chains
reaped chains card None = chains
reaped chains card (Some x) = unhashed chains (record { bucket = home_in chains card; slot = x.slot })

-- the plan, carried out on these tables; none where they answer what no table answers
abbrev pub run : {R : Type 0} → Tables → Asking R → Option (Ended R)
run t (ends r) = Some (record { tables = t; result = r })
run t (asks key request then_) =
    run (with_buckets t (asked_at t.buckets key request)) (then_ (answer_at t.buckets key request))
run t (inserts card moment rule then_) =
    let outcome = insert_outcome t.chains card moment rule in
    run (with_chains t (hashed t.chains card outcome)) (then_ outcome)
run t (adds card then_) =
    let outcome = add_outcome t.chains in run (with_chains t (hashed t.chains card outcome)) (then_ outcome)
run t (unhashes place card then_) = run (with_chains t (unhashed t.chains place)) then_
run t (reaps card then_) =
    let found = waiting t.chains card in
    run (with_chains t (reaped t.chains card found)) (then_ (was_found found))
run t impossible = None
