-- What a plan comes to on tables, question by question.
use Rattle.std.proofs.Common.{◌≡◌, ℕ, Some, refl, ap, sym, ◌∙◌, subst}
use Rattle.sock_card.specs.declared.card.Card.{Card}
use Rattle.bind_buckets.specs.declared.request.Request.{Request}
use Rattle.bind_buckets.specs.declared.request.Answer.{Answer}
use Rattle.chain_book.specs.declared.outcome.Replace.{Replace}
use Rattle.chain_book.specs.Chains.{Outcome, insert_outcome, add_outcome, hashed}
use Rattle.table_model.specs.Asking.{Asking, ends, asks, inserts, adds, and_then}
use Rattle.table_model.proofs.commands.Carried.{run_and_then, goes_on}
use Rattle.table_model.specs.Tables.{Tables, Ended, run, with_buckets, with_chains}
use Rattle.bind_buckets.specs.BindHash.{answer_at, asked_at}

-- the plan ends on these tables, and so
abbrev pub Comes : {R : Type 0} → Tables → Asking R → (Ended R → Type 0) → Type 0
Comes {R} t plan P = (e : Ended R) × (run t plan ≡ Some e) × P e

-- what is come to at once
pub comes_ends : {R : Type 0} (t : Tables) (r : R) (P : Ended R → Type 0) → P (record { tables = t; result = r }) → Comes t (ends r) P
comes_ends t r P p = (record { tables = t; result = r }, refl, p)

-- one plan, and then the next
pub comes_then : {R S : Type 0} (t : Tables) (plan : Asking R) (next : R → Asking S) (P : Ended R → Type 0) (Q : Ended S → Type 0)
    → Comes t plan P → ((e : Ended R) → P e → Comes e.tables (next e.result) Q) → Comes t (and_then plan next) Q
comes_then t plan next P Q first later =
    let second = later first.0 first.2 in
    (second.0, run_and_then next t plan ∙ (ap (goes_on next) first.1 ∙ second.1), second.2)

-- what follows from what is come to
pub comes_weaken : {R : Type 0} (t : Tables) (plan : Asking R) (P Q : Ended R → Type 0) → ((e : Ended R) → P e → Q e) → Comes t plan P → Comes t plan Q
comes_weaken t plan P Q h c = (c.0, c.1, h c.0 c.2)

-- a bucket answers so
pub comes_asks : {R : Type 0} (t : Tables) (port : ℕ) (request : Request) (then_ : Answer → Asking R) (answer : Answer) (P : Ended R → Type 0) → answer_at t.buckets port request ≡ answer
    → Comes (with_buckets t (asked_at t.buckets port request)) (then_ answer) P → Comes t (asks port request then_) P
comes_asks t port request then_ answer P is c =
    subst (λ (a : Answer). Comes (with_buckets t (asked_at t.buckets port request)) (then_ a) P) (sym is) c

-- adding a card comes to that
pub comes_adds : {R : Type 0} (t : Tables) (card : Card) (then_ : Outcome → Asking R) (outcome : Outcome) (P : Ended R → Type 0) → add_outcome t.chains ≡ outcome
    → Comes (with_chains t (hashed t.chains card outcome)) (then_ outcome) P → Comes t (adds card then_) P
comes_adds t card then_ outcome P is c =
    subst (λ (o : Outcome). Comes (with_chains t (hashed t.chains card o)) (then_ o) P) (sym is) c

-- inserting a card comes to that
pub comes_inserts : {R : Type 0} (t : Tables) (card : Card) (moment : ℕ) (rule : Replace) (then_ : Outcome → Asking R) (outcome : Outcome) (P : Ended R → Type 0) → insert_outcome t.chains card moment rule ≡ outcome
    → Comes (with_chains t (hashed t.chains card outcome)) (then_ outcome) P → Comes t (inserts card moment rule then_) P
comes_inserts t card moment rule then_ outcome P is c =
    subst (λ (o : Outcome). Comes (with_chains t (hashed t.chains card o)) (then_ o) P) (sym is) c
