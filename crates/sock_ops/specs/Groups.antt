-- Which lists of groups an operation publishes, and when that is all that changed: reuseport_add_sock and
-- reuseport_detach_sock of net/core/sock_reuseport.c. That a bucket's turn stands for reuseport_lock is our own.
--
-- Public contracts cite `ListsOfListen`, `ListsOfLeave` and `KeepsLists`, from each of which it is to be read upwards.
-- The first two rest on `ListsIn`, which is of one turn.
use Rattle.std.specs.Prelude.{◌≡◌, ◌≢◌, ◌⊎◌, ℕ, ◌+◌, ◌-◌, ◌/◌, ◌%◌, ◌^◌, ◌<◌, Bool, true, false, List, [], ◌∷◌, ◌++◌, map, Option, None, Some, Result, Ok, Err}
use Rattle.std.specs.Option.{option_map_or}
use Rattle.sock_card.specs.Conflict.{owner_key}
use Rattle.list_words.specs.Lists.{Each}
use Rattle.sock_card.specs.declared.owner.Owner.{Owner}
use Rattle.turn_table.specs.declared.note.Placed.{Placed}
use Rattle.turn_table.specs.Journals.{by_caller, notes_at}
use Rattle.bind_buckets.specs.declared.request.Request.{Request}
use Rattle.bind_buckets.specs.declared.request.Request.TheVariants as requests
use Rattle.bind_buckets.specs.declared.request.Answer.TheVariants as answers
use Rattle.bind_buckets.specs.declared.request.Entry.{Entry}
use Rattle.bind_buckets.specs.Notes.{Note}
use Rattle.bind_buckets.specs.Bucket.{entries_of}
use Rattle.bind_buckets.specs.Journal.{IsLegal, replayed}
use Rattle.bind_buckets.specs.Members.{has_member}
use Rattle.bind_buckets.specs.OwnTold.{own_given}
use Rattle.bind_buckets.specs.OwnerStep.{Held, members_at}
use Rattle.bind_buckets.specs.Turned.{View, Gave, IsAlone, entries_at}
use Rattle.reuseport_group.specs.declared.pass.GroupPasses.{GroupPasses}
use Rattle.reuseport_group.specs.Member.{member}
use Rattle.reuseport_group.specs.Passes as lists
use Rattle.reuseport_group.specs.Passes.{published}
use Rattle.reuseport_group.specs.Views.{publishing}
use Rattle.table_model.specs.declared.operation.OpEnd.{OpEnd}
use Rattle.table_model.specs.Own.{Mine}
use Rattle.sock_ops.specs.declared.sock.Sock.{Sock}
use Rattle.sock_ops.specs.declared.sock.Sock.TheVariants as socks
use Rattle.sock_ops.specs.declared.tables.Tables.{Tables}
use Rattle.sock_ops.specs.declared.tables.Worker.{Worker}
use Rattle.sock_ops.specs.Closes.{leave_entry}
use Rattle.sock_ops.specs.Listens.{asked_listen, said_listen}
use Rattle.sock_ops.specs.Socks.{mine_of}
use Rattle.sock_ops.specs.Stands.{turned}

-- the members of the group of that number among those of all buckets, where its bucket holds that
abbrev pub members_in : Held → ℕ → List ℕ
members_in h group = members_at h (group % 8)

-- what lookers are shown of a member: the slot of its card, which is below 2 ^ 32 - 1, and the lower half of its name
abbrev pub shown : ℕ → ℕ
shown m = member (m / 2 ^ 64 % (2 ^ 32 - 1)) (m % 2 ^ 32)

-- what they are shown of that group
abbrev pub words_in : Held → ℕ → List ℕ
words_in h group = map shown (members_in h group)

-- A bucket held this, and then that, in one turn

-- no list of it changed, and nothing was published
pub record Stays (h k : Held) (p q : GroupPasses) : Type 0 where
  pub held : k.groups ≡ h.groups
  pub nothing : lists.known q ≡ lists.known p

-- the list of this group of the bucket was published as the bucket had it then, and no other list of it changed
pub record Publishes (number group : ℕ) (h k : Held) (p q : GroupPasses) : Type 0 where
  pub own : group / 8 ≡ number
  pub list : lists.known q ≡ publishing (lists.known p) (lists.now q) group (words_in k group)
  pub listed : published q group ≡ words_in k group
  pub kept : (other : ℕ) → other ≢ group → published q other ≡ published p other
  pub others : (other : ℕ) → other / 8 ≡ number → other ≢ group → members_in k other ≡ members_in h other

abbrev pub Follows : ℕ → Option ℕ → Held → Held → GroupPasses → GroupPasses → Type 0
Follows number None h k p q = Stays h k p q
Follows number (Some group) h k p q = Publishes number group h k p q

-- the first group of the bucket that has a member of that name, if one does
abbrev pub IsGroupOf : ℕ → Held → ℕ → Option ℕ → Type 0
IsGroupOf number h name None = (place : ℕ) → place < 8 → has_member name (members_at h place) ≡ false
IsGroupOf number h name (Some group) =
    (group / 8 ≡ number)
    × (has_member name (members_in h group) ≡ true)
    × ((place : ℕ) → place < group % 8 → has_member name (members_at h place) ≡ false)

-- the journal of the bucket of that place, as a pass left it that knows this: it is lawful, what the pass's caller
-- asked of the bucket stands in it, and where the pass is alone nothing else does
pub record IsLeft (place : ℕ) (v : View) (journal : List Note) : Type 0 where
  pub legal : IsLegal place (entries_of journal)
  pub own : by_caller v.caller journal ≡ own_given place v
  pub all : IsAlone v → journal ≡ notes_at place v.mine

-- In a turn the bucket of that place was asked so: the list of that group was published as the bucket had it at the
-- end of the turn, by its journal, and no other list of the bucket changed; or no list changed, and nothing was
-- published.
pub record ListsIn (place : ℕ) (es : List Entry) (group : Option ℕ) (v : View) (p q : GroupPasses) : Type 0 where
  -- the journal before that, and what was added to it
  pub before : List Note
  pub added : List Note
  pub asked : entries_of added ≡ es
  pub left : IsLeft place v (before ++ added)
  pub lists : Follows place group (replayed place (entries_of before))
      (replayed place (entries_of (before ++ added))) p q

-- What an operation did

-- the owner listens, in the group that its card names, if in any, whose list was published
pub record ListensAs (place : ℕ) (l : Mine) (v : View) (p q : GroupPasses) : Type 0 where
  pub group : Option ℕ
  pub extra : l.extra ≡ option_map_or (λ (number : ℕ). number + 1) group 0
  pub lists : ListsIn place (asked_listen l.owner (answers.Group group) ∷ said_listen l.owner l.place.slot
      ∷ []) group v p q

-- the owner left its bucket, and the list of the group that it was a member of was published, if there was one
pub record LeavesAs (place : ℕ) (a : Owner) (v : View) (p q : GroupPasses) : Type 0 where
  pub group : Option ℕ
  pub lists : ListsIn place (leave_entry a ∷ []) group v p q

-- the owner gave up a port that this call took
abbrev pub GaveBack : Bool → ℕ → Owner → View → GroupPasses → GroupPasses → Type 0
GaveBack true place a v p q = LeavesAs place a v p q
GaveBack false place a v p q = q ≡ p

-- what became of lists as the owner's bucket was asked whether it may listen
abbrev pub StartsLists : Bool → ℕ → Owner → View → GroupPasses → GroupPasses → Result Mine OpEnd → Type 0
StartsLists took place a v p q (Ok l) = ListensAs place l v p q
StartsLists took place a v p q (Err end) = GaveBack took place a v p q

-- an owner of that name gave up a port that it had taken, or nothing was published
pub record GivesBack (count name : ℕ) (v : View) (p q : GroupPasses) : Type 0 where
  pub a : Owner
  pub name_is : a.name ≡ name
  pub leaves : LeavesAs (owner_key a % count) a v p q

abbrev pub MayGiveBack : ℕ → ℕ → View → GroupPasses → GroupPasses → Type 0
MayGiveBack count name v p q = (q ≡ p) ⊎ GivesBack count name v p q

-- what became of them as a socket without a port would listen
abbrev pub StartsUnbound : ℕ → ℕ → View → GroupPasses → GroupPasses → Result Mine OpEnd → Type 0
StartsUnbound count name v p q (Ok l) = ListensAs (owner_key l.owner % count) l v p q
StartsUnbound count name v p q (Err end) = MayGiveBack count name v p q

-- by `listen`: a listener stays as it is, another socket listens, or a port that the call took is given up
abbrev pub ListensBy : ℕ → Sock → Mine → View → GroupPasses → GroupPasses → Type 0
ListensBy count (socks.Listening m) l v p q = q ≡ p
ListensBy count s l v p q = ListensAs (owner_key l.owner % count) l v p q

abbrev pub ListsOfListen : ℕ → Sock → View → GroupPasses → GroupPasses → Result (Sock × ℕ) OpEnd → Type 0
ListsOfListen count s v p q (Ok x) = ListensBy count s (mine_of x.0) v p q
ListsOfListen count s v p q (Err end) = MayGiveBack count (mine_of s).owner.name v p q

-- the owner left its bucket, or nothing was published
abbrev pub LeavesOrStays : ℕ → Owner → View → GroupPasses → GroupPasses → Type 0
LeavesOrStays place a v p q = (q ≡ p) ⊎ LeavesAs place a v p q

-- by `close`: one that is connected leaves its bucket at once where no slot is free for its TIME_WAIT
abbrev pub LeavesBy : ℕ → Sock → View → GroupPasses → GroupPasses → Type 0
LeavesBy count (socks.Unbound m) v p q = q ≡ p
LeavesBy count (socks.Request m) v p q = q ≡ p
LeavesBy count (socks.Full m) v p q = LeavesOrStays (owner_key m.owner % count) m.owner v p q
LeavesBy count (socks.Bound m) v p q = LeavesAs (owner_key m.owner % count) m.owner v p q
LeavesBy count (socks.Listening m) v p q = LeavesAs (owner_key m.owner % count) m.owner v p q

abbrev pub ListsOfLeave : {B E : Type 0} → ℕ → Sock → View → GroupPasses → GroupPasses → Result B E → Type 0
ListsOfLeave count s v p q (Ok x) = LeavesBy count s v p q
ListsOfLeave count s v p q (Err end) = q ≡ p

-- Entries that change no list

-- nobody comes into a group or leaves one by it
abbrev pub SparesLists : Request → Type 0
SparesLists (requests.Listen name slot) = ⊥
SparesLists (requests.Remove name) = ⊥
SparesLists request = Unit {0}

-- a pass gave entries, each of which changes no list
pub record GaveSparing (v w : View) : Type 0 where
  pub new : List (Placed Entry)
  pub gave : Gave v w new
  pub spares : Each (λ (x : Placed Entry). SparesLists x.note.entry.request) new

-- Alone

-- the list of a group that its bucket has by these entries, if they are all
abbrev pub list_by : List (Placed Entry) → ℕ → List ℕ
list_by given group = words_in (replayed (group / 8) (entries_at (group / 8) given)) group

-- of so many groups, the list that was published last for each is that which its bucket has by the pass's own entries
abbrev pub AreListed : ℕ → View → GroupPasses → Type 0
AreListed count v p = (group : ℕ) → group < count → published p group ≡ list_by v.mine group

-- What a pass and the passes of groups beside it keep: where they were never split, they are not split then; and where
-- the pass is alone, and the lists of so many groups are published, these are.
pub record KeepsListed (count : ℕ) (v w : View) (p q : GroupPasses) : Type 0 where
  pub alone : IsAlone v → IsAlone w
  pub sole : lists.IsSole p → lists.IsSole q
  pub listed : IsAlone v → AreListed count v p → AreListed count w q

abbrev pub ListsArePublished : Tables → Worker → Type 0
ListsArePublished t w = AreListed (lists.groups t.groups) (turned w) w.groups

-- where its lists are published, a worker that was never split leaves them so, and was not split by it
abbrev pub KeepsLists : Tables → Worker → Worker → Type 0
KeepsLists t w u = KeepsListed (lists.groups t.groups) (turned w) (turned u) w.groups u.groups
