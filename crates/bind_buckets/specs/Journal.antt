-- Which journals of a bucket are lawful, and what they leave: our own rule.
use Rattle.std.specs.Prelude.{◌≡◌, ℕ, true, List, [], ◌∷◌, ◌++◌}
use Rattle.list_words.specs.Lists.{Pairs}
use Rattle.sock_card.specs.declared.owner.Owner.{Owner}
use Rattle.sock_card.specs.Conflict.{agree}
use Rattle.bind_buckets.specs.declared.request.Entry.{Entry}
use Rattle.bind_buckets.specs.declared.request.Request.{Request}
use Rattle.bind_buckets.specs.OwnerStep.{Held, owner_step, empty}

-- any two owners may stand beside each other
abbrev pub OwnersAgree : List Owner → Type 0
OwnersAgree owners = Pairs (λ earlier later. agree earlier later ≡ true) owners

-- each entry's answer is the step's, and all owners agree after it
abbrev pub IsLegalFrom : ℕ → Held → List Entry → Type 0
IsLegalFrom number h [] = Unit {0}
IsLegalFrom number h (entry ∷ rest) =
    let next = owner_step number h entry.request in
    (entry.answer ≡ next.answer) × OwnersAgree next.held.owners × IsLegalFrom number next.held rest

-- a journal of the bucket of that number, from its first entry on
abbrev pub IsLegal : ℕ → List Entry → Type 0
IsLegal number entries = IsLegalFrom number empty entries

abbrev pub replayed_from : ℕ → Held → List Entry → Held
replayed_from number h [] = h
replayed_from number h (entry ∷ rest) = replayed_from number (owner_step number h entry.request).held rest

-- what a journal leaves
abbrev pub replayed : ℕ → List Entry → Held
replayed number entries = replayed_from number empty entries

-- what a bucket holds, and the entries of its journal
pub record Standing : Type 0 where
  pub held : Held
  pub entries : List Entry

-- the bucket of that number after one request more
abbrev pub asked : ℕ → Standing → Request → Standing
asked number s request =
    let next = owner_step number s.held request in
    record { held = next.held; entries = s.entries ++ record { request = request; answer = next.answer } ∷ [] }
