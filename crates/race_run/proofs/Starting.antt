-- Tables that nobody has asked anything, and their worker.
use Rattle.std.proofs.Common.{◌≡◌, ℕ, zero, suc, ◌+◌, ◌%◌, false, List, [], ◌∷◌, get_or, map, replicate, refl, sym, ap}
use Rattle.std.specs.List.{range_with_len}
use mathlib.Core.Option.{some, some-ne-none}
use lib.ListN.{get_elem?}
use Rattle.bind_buckets.specs.BindHash.{untouched}
use Rattle.bind_buckets.specs.Turned.{hash_of, standing_by}
use Rattle.chain_book.specs.Chains.{new_chains}
use Rattle.chain_book.specs.Homes.{chain_count}
use Rattle.chain_book.specs.declared.shape.Shape.{Shape}
use Rattle.table_rule.specs.Rule as rules
use Rattle.table_rule.specs.Sole.{IsNow, chain_from, used_in}
use Rattle.table_rule.specs.declared.view.Change.{Change}
use Rattle.table_rule.specs.declared.view.Layout.{Layout}
use Rattle.established.specs.Alone.{chains_of}
use Rattle.established.specs.Rows.{row_of}
use Rattle.sock_ops.specs.Groups.{list_by, shown}
use Rattle.table_model.specs.Goes.{tables_by}
use Rattle.table_model.specs.Tables.{new_tables}

-- what is the same at each place
same_all : {A : Type 0} (f : ℕ → A) (a : A) → ((i : ℕ) → f i ≡ a) → (start n : ℕ) → map f (range_with_len start n) ≡ replicate n a
same_all f a same start zero = refl
same_all f a same start (suc n) = λ i. same start i ∷ same_all f a same (start + 1) n i

chains_empty : (shape : Shape) (seed : ℕ) → chains_of (record { shape = shape; seed = seed }) 0 [] ≡ new_chains shape seed
chains_empty shape seed =
    let rows = same_all (λ b. row_of (chain_from [] b)) [] (λ b. refl) 0 (chain_count shape) in
    let used = same_all (used_in []) false (λ i. refl) 0 shape.slots in
    λ i. record { shape = shape; seed = seed; rows = rows i; slots = record { used = used i; next = 0 } }

-- tables that nobody has asked anything are new
pub tables_empty : (shape : Shape) (seed : ℕ) → tables_by shape.bind [] (chains_of (record { shape = shape; seed = seed }) 0 []) ≡ new_tables shape seed
tables_empty shape seed =
    let buckets : hash_of shape.bind [] ≡ replicate shape.bind untouched = same_all (standing_by []) untouched (λ place. refl) 0 shape.bind in
    let chains = chains_empty shape seed in
    λ i. record { buckets = buckets i; chains = chains i }

nothing_at : (n : ℕ) (c : Change) → get_elem? {A = Change} [] n ≡ some c → ⊥
nothing_at n c h = some-ne-none c (sym h)

-- a pass that has done nothing is alone
pub first_now : (layout : Layout) → IsNow (rules.first layout)
first_now layout = record {
  bare = (record { all = refl; rises = λ j k c d a b less. absurd (nothing_at j c a); waits = λ m c a. absurd (nothing_at m c a) }, refl);
  idle = refl;
  recent = λ n c a. absurd (nothing_at n c a);
}

no_members : (n place : ℕ) → get_or {A = List ℕ} (replicate n []) place [] ≡ []
no_members zero place = refl
no_members (suc n) zero = refl
no_members (suc n) (suc place) = no_members n place

-- no bucket has a list that nobody has asked for
pub none_listed : (group : ℕ) → [] ≡ list_by [] group
none_listed group = sym (ap (map shown) (no_members 8 (group % 8)))
