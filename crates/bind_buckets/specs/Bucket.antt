-- A bind bucket as its callers see it, and what each call makes of it: struct inet_bind_bucket of
-- include/net/inet_hashtables.h. Its journal, and the room that is promised, are our own rule.
--
-- To be read from `called`, the bucket after a call, and `answer_to`, its answer. What calls ask is in `IsAllowed` and
-- `HasRoom`, and what holds of every bucket in `IsSound`; two laws stand at the end.
use Rattle.std.specs.Prelude.{◌≡◌, ℕ, ◌-◌, ◌/◌, ◌%◌, ◌≤◌, ◌<◌, Bool, true, false, ◌==◌, ◌||◌, nat_lt, List, [], ◌∷◌, ◌++◌, length, map, find, if◌then◌else◌, IfSome}
use Rattle.list_words.specs.Lists.{Each}
use Rattle.sock_card.specs.declared.owner.Owner.{Owner}
use Rattle.sock_card.specs.declared.owner.State.{State}
use Rattle.sock_card.specs.declared.owner.State.TheVariants as states
use Rattle.sock_card.specs.Limits.{group_room}
use Rattle.sock_card.specs.Conflict.{owner_key}
use Rattle.bind_buckets.specs.declared.request.Request.{Request}
use Rattle.bind_buckets.specs.declared.request.Request.TheVariants as requests
use Rattle.bind_buckets.specs.declared.request.Answer.{Answer}
use Rattle.bind_buckets.specs.declared.request.Answer.TheVariants as answers
use Rattle.bind_buckets.specs.declared.request.Entry.{Entry}
use Rattle.bind_buckets.specs.Limits.{group_places}
use Rattle.bind_buckets.specs.Notes.{Note}
use Rattle.bind_buckets.specs.declared.request.Mark.{Mark}
use Rattle.bind_buckets.specs.OwnerStep.{Held, After, owner_step, empty, has_name, members_at}
use Rattle.bind_buckets.specs.Journal.{IsLegal, replayed, OwnersAgree}

-- the number of the bucket among so many, what it holds, its journal, the mark of the next note, and the room that is
-- left, in entries of the journal and in newcomers among the owners
pub record Bucket : Type 0 where
  pub number : ℕ
  pub buckets : ℕ
  pub held : Held
  pub journal : List Note
  pub next : Mark
  pub entries : ℕ
  pub newcomers : ℕ

abbrev pub new_bucket : ℕ → ℕ → Bucket
new_bucket number buckets =
    record {
      number = number;
      buckets = buckets;
      held = empty;
      journal = [];
      next = record { number = 0; caller = 0 };
      entries = 0;
      newcomers = 0;
    }

abbrev pub step_of : Bucket → Request → After
step_of b request = owner_step b.number b.held request

abbrev pub answer_to : Bucket → Request → Answer
answer_to b request = (step_of b request).answer

abbrev pub note_of : Mark → Request → Answer → Note
note_of mark request answer =
    record { number = mark.number; caller = mark.caller; entry = record { request = request; answer = answer } }

-- a call takes room for one entry; but where an owner goes, that which was kept for it
abbrev pub entries_after : ℕ → List Owner → List Owner → ℕ
entries_after entries old new = if nat_lt (length new) (length old) then entries else entries - 1

-- an owner that comes takes room for one newcomer
abbrev pub newcomers_after : ℕ → List Owner → List Owner → ℕ
newcomers_after newcomers old new = if nat_lt (length old) (length new) then newcomers - 1 else newcomers

-- the bucket after a call: its step, and one note
abbrev pub called : Bucket → Request → Bucket
called b request =
    let next = step_of b request in
    record b {
      held = next.held;
      journal = b.journal ++ note_of b.next request next.answer ∷ [];
      entries = entries_after b.entries b.held.owners next.held.owners;
      newcomers = newcomers_after b.newcomers b.held.owners next.held.owners;
    }

-- a request by which an owner may come
abbrev pub brings_owner : Request → Bool
brings_owner (requests.Bind a) = true
brings_owner (requests.BindAuto a) = true
brings_owner (requests.ConnectAuto a) = true
brings_owner (requests.Inherit parent name mark local remote rport) = true
brings_owner _ = false

-- there is room for a call: for its entry, unless an owner goes by it, and for the owner that may come by it
pub record HasRoom (b : Bucket) (request : Request) : Type 0 where
  pub entry : length b.held.owners ≤ length (step_of b request).held.owners → 1 ≤ b.entries
  pub newcomer : brings_owner request ≡ true → 1 ≤ b.newcomers

-- the key is one of this bucket's
abbrev pub is_key_of : Bucket → ℕ → Bool
is_key_of b key = key % b.buckets == b.number

-- an owner in that state, whose address is 0.0.0.0 or that one
pub record StandsAt (wanted : State) (local : ℕ) (a : Owner) : Type 0 where
  pub state : a.state ≡ wanted
  pub addr : ((a.addr == 0) || (a.addr == local)) ≡ true

-- the first owner of that name, if there is one, stands so
abbrev pub NamesOne : State → ℕ → ℕ → Bucket → Type 0
NamesOne state local name b = IfSome (find (has_name name) b.held.owners) (StandsAt state local)

abbrev pub IsGroup : Answer → Type 0
IsGroup (answers.Group group) = Unit {0}
IsGroup _ = ⊥

-- as the bucket stands, the socket of that name may listen
abbrev pub CanListen : Bucket → ℕ → Type 0
CanListen b name = IsGroup (answer_to b (requests.MayListen name))

-- as the bucket stands, `connect` may choose the port in that namespace
abbrev pub CanConnect : Bucket → ℕ → ℕ → Type 0
CanConnect b port net = answer_to b (requests.Free port net) ≡ answers.Done

-- an owner for which `connect` has chosen such a port
pub record ComesByConnect (b : Bucket) (a : Owner) : Type 0 where
  pub key : is_key_of b (owner_key a) ≡ true
  pub free : CanConnect b a.port a.net
  pub chosen : a.by_connect ≡ true

-- the conditions of each call
abbrev pub IsAllowed : Bucket → Request → Type 0
IsAllowed b (requests.Bind a) = is_key_of b (owner_key a) ≡ true
IsAllowed b (requests.BindAuto a) = is_key_of b (owner_key a) ≡ true
IsAllowed b (requests.MayListen name) = Unit {0}
IsAllowed b (requests.Listen name slot) = CanListen b name
IsAllowed b (requests.Free port net) = Unit {0}
IsAllowed b (requests.ConnectAuto a) = ComesByConnect b a
IsAllowed b (requests.ConnectBound name local remote rport) = NamesOne states.Bound local name b
IsAllowed b (requests.Inherit parent name mark local remote rport) = NamesOne states.Listening local parent b
IsAllowed b (requests.ToTimeWait name) = Unit {0}
IsAllowed b (requests.Remove name) = Unit {0}
IsAllowed b (requests.RemoveWaiting name) = Unit {0}

abbrev pub entry_of : Note → Entry
entry_of note = note.entry

abbrev pub entries_of : List Note → List Entry
entries_of journal = map entry_of journal

-- the members of the group of that number, in this bucket
abbrev pub members_of : Bucket → ℕ → List ℕ
members_of b group = if group / group_places == b.number then members_at b.held (group % group_places) else []

-- what holds of every bucket
pub record IsSound (b : Bucket) : Type 0 where
  pub number : b.number < b.buckets
  pub buckets : b.buckets ≤ 256
  pub legal : IsLegal b.number (entries_of b.journal)
  pub replay : b.held ≡ replayed b.number (entries_of b.journal)
  pub agree : OwnersAgree b.held.owners
  pub keys : Each (λ (a : Owner). is_key_of b (owner_key a) ≡ true) b.held.owners
  pub places : length b.held.groups ≡ group_places
  pub members : Each (λ members. length members ≤ group_room) b.held.groups

-- an allowed request leaves owners that agree, where they did
abbrev pub StaysAgreed : Type 0
StaysAgreed =
    (b : Bucket) (request : Request) → IsAllowed b request → OwnersAgree b.held.owners
    → OwnersAgree (step_of b request).held.owners

-- and a bucket that is sound stays so
abbrev pub StaysSound : Type 0
StaysSound = (b : Bucket) (request : Request) → IsSound b → IsAllowed b request → IsSound (called b request)
