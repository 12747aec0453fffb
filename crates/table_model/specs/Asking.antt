-- Plans: what an operation asks of bind buckets and of chains, one question after the other, and what it comes to by
-- their answers. A plan has no table in it: the same one is carried out on tables that nobody shares, by a definition
-- (`run`), and gone through by the operations on tables that threads share. Our own form.
use Rattle.std.specs.Prelude.{ℕ, Bool}
use Rattle.sock_card.specs.declared.card.Card.{Card}
use Rattle.bind_buckets.specs.declared.request.Request.{Request}
use Rattle.bind_buckets.specs.declared.request.Answer.{Answer}
use Rattle.chain_book.specs.declared.outcome.Place.{Place}
use Rattle.chain_book.specs.declared.outcome.Replace.{Replace}
use Rattle.chain_book.specs.Chains.{Outcome}

pub data Asking (R : Type 0) : Type 0 where
  ends : R → Asking R
  asks : ℕ → Request → (Answer → Asking R) → Asking R  -- the bind bucket of that key
  inserts : Card → ℕ → Replace → (Outcome → Asking R) → Asking R  -- a full card or a request's, at a moment by a rule
  adds : Card → (Outcome → Asking R) → Asking R  -- a card that no four-tuple keeps out
  unhashes : Place → Card → Asking R → Asking R  -- the card that stands in that place
  reaps : Card → (Bool → Asking R) → Asking R  -- a TIME_WAIT, if nobody was before it
  impossible : Asking R  -- no table answers so

-- one plan, and then the next by what it came to
abbrev pub and_then : {R S : Type 0} → Asking R → (R → Asking S) → Asking S
and_then (ends r) next = next r
and_then (asks key request then_) next = asks key request (λ answer. and_then (then_ answer) next)
and_then (inserts card moment rule then_) next = inserts card moment rule (λ outcome. and_then (then_ outcome) next)
and_then (adds card then_) next = adds card (λ outcome. and_then (then_ outcome) next)
and_then (unhashes place card then_) next = unhashes place card (and_then then_ next)
and_then (reaps card then_) next = reaps card (λ was_there. and_then (then_ was_there) next)
and_then impossible next = impossible
