-- A bucket keeps its room, too, through each allowed call.
use Rattle.std.proofs.Common.{◌≡◌, ℕ, ◌+◌, ◌-◌, ◌≤◌, ◌<◌, Bool, true, false, cond, ltb, List, [], ◌∷◌, ◌++◌, length, arith, refl, ap}
use Rattle.std.proofs.lemmas.Bool.Decides.{nat_tests}
use Rattle.bind_buckets.specs.declared.request.Request.{Request}
use Rattle.bind_buckets.specs.declared.request.Answer.{Answer}
use Rattle.bind_buckets.specs.Notes.{Note}
use Rattle.bind_buckets.specs.OwnerStep.{Held, After}
use Rattle.bind_buckets.specs.Bucket.{Bucket, IsAllowed, HasRoom, called, step_of, note_of, entries_after, newcomers_after, brings_owner}
use Rattle.bind_buckets.specs.Kept.{IsKept}
use Rattle.bind_buckets.specs.Owners.{Listed}
use Rattle.bind_buckets.specs.HeldBy.{IsRoomLeft}
use Rattle.bind_buckets.proofs.StaysSound.{sound_called}

-- what a call made of the parts of a bucket
pub record CalledBy (b : Bucket) (request : Request) (h : Held) (answer : Answer) (journal : List Note) (entries newcomers : ℕ) : Type 0 where
  pub step : step_of b request ≡ record { held = h; answer = answer }
  pub journal_is : journal ≡ b.journal ++ note_of b.next request answer ∷ []
  pub entries_is : entries ≡ entries_after b.entries b.held.owners h.owners
  pub newcomers_is : newcomers ≡ newcomers_after b.newcomers b.held.owners h.owners
  pub none : brings_owner request ≡ false → length h.owners ≤ length b.held.owners

pub is_called : (b : Bucket) (request : Request) (h : Held) (answer : Answer) (journal : List Note) (entries newcomers : ℕ) → CalledBy b request h answer journal entries newcomers → called b request ≡ record b { held = h; journal = journal; entries = entries; newcomers = newcomers }
is_called b request h answer journal entries newcomers m =
    rw (m.step, m.journal_is, m.entries_is, m.newcomers_is) refl

notes_fit : (old new e n most left : ℕ) → new ≤ old + 1 → old ≤ new + 1 → (old ≤ new → 1 ≤ e) → (old < new → 1 ≤ n) → most ≤ left + 1 → old + e + n ≤ most → new + cond (ltb new old) e (e - 1) + cond (ltb old new) (n - 1) n ≤ left
notes_fit old new e n most left p q r s l h = grind (arith, nat_tests)

newcomers_fit : (old new n most left : ℕ) → (old < new → 1 ≤ n) → most ≤ left + 1 → (new ≤ old → most ≤ left) → n ≤ most → cond (ltb old new) (n - 1) n ≤ left
newcomers_fit old new n most left s l k h = grind (arith, nat_tests)

grown : (b : Bool) (old new n : ℕ) → (b ≡ true → 1 ≤ n) → (b ≡ false → new ≤ old) → old < new → 1 ≤ n
grown true old new n p q h = p refl
grown false old new n p q h = absurd (omega (arith, q refl))

-- what the lists have room for, before and after
module _ (b : Bucket) (request : Request) (groups : List (List ℕ)) (answer : Answer) (journal : List Note) (entries newcomers notes notes_left room : ℕ) (new : Listed) where
  abbrev after : Held
  after = record { owners = new.owners; groups = groups }

  pub kept_called : IsKept b notes room → IsAllowed b request → HasRoom b request → notes ≤ notes_left + 1 → IsRoomLeft (record { owners = b.held.owners; room = room }) new → CalledBy b request after answer journal entries newcomers
      → IsKept (record b { held = after; journal = journal; entries = entries; newcomers = newcomers }) notes_left new.room
  kept_called k allowed has noted left m =
      let held_is : (step_of b request).held ≡ after = ap (λ (next : After). next.held) m.step in
      let entry : length b.held.owners ≤ length new.owners → 1 ≤ b.entries = λ le. has.entry (rw held_is le) in
      let newcomer : length b.held.owners < length new.owners → 1 ≤ b.newcomers = grown (brings_owner request) _ _ _ has.newcomer m.none in
      record {
        sound = rw (← is_called b request after answer journal entries newcomers m) (sound_called b request k.sound allowed);
        notes = rw (m.entries_is, m.newcomers_is)
            (notes_fit (length b.held.owners) (length new.owners) b.entries b.newcomers notes notes_left left.most left.least entry newcomer noted k.notes);
        owners = rw m.newcomers_is (newcomers_fit (length b.held.owners) (length new.owners) b.newcomers room new.room newcomer left.taken left.kept k.owners);
      }
