-- Bind buckets under turns: a pass between two turns, a bucket that is out, and what a pass has given. Our own.
--
-- To be read from the beginning. The law `AsksOneMore` stands at the end.
use Rattle.std.specs.Prelude.{◌≡◌, ℕ, ◌+◌, ◌%◌, ◌<◌, ◌≤◌, List, [], ◌∷◌, ◌++◌, length, map, drop}
use Rattle.std.specs.List.{range_with_len}
use Rattle.std.specs.Global.{Box}
use Rattle.list_words.specs.Lists.{Each}
use Rattle.turn_table.specs.declared.note.Placed.{Placed}
use Rattle.turn_table.specs.declared.view.TurnView.{TurnView}
use Rattle.turn_table.specs.declared.pass.Turn.{Turn}
use Rattle.turn_table.specs.declared.pass.TurnPass.{TurnPass}
use Rattle.turn_table.specs.declared.pass.Turns.{Turns}
use Rattle.turn_table.specs.Journals.{number, number_of, by_caller, notes_at}
use Rattle.turn_table.specs.Passes as words
use Rattle.turn_table.specs.Passes.{IsPassOf, IsFree, HasTurn, known}
use Rattle.bind_buckets.specs.declared.request.Entry.{Entry}
use Rattle.bind_buckets.specs.declared.request.Request.{Request}
use Rattle.bind_buckets.specs.declared.request.Answer.{Answer}
use Rattle.bind_buckets.specs.Notes.{Note}
use Rattle.bind_buckets.specs.declared.request.Sharing.{Sharing}
use Rattle.bind_buckets.specs.Callers.{MayMake, MayCall}
use Rattle.bind_buckets.specs.Journal.{IsLegal, Standing, replayed}
use Rattle.bind_buckets.specs.Bucket.{Bucket, called, entries_of}
use Rattle.bind_buckets.specs.BindHash.{asked_at, answer_at}

abbrev pub View : Type 0
View = TurnView Entry Sharing

-- the buckets that all share, a pass, and a bucket that is out
abbrev pub Hash : Type 0
Hash = Turns (Box Bucket) Entry Sharing

abbrev pub Pass : Type 0
Pass = TurnPass (Box Bucket) Entry Sharing

abbrev pub Out : Type 0
Out = Turn (Box Bucket)

-- of these entries, those of one bucket
abbrev pub entries_at : ℕ → List (Placed Entry) → List Entry
entries_at place given = entries_of (notes_at place given)

-- they are lawful journals of so many buckets
abbrev pub AreLawful : ℕ → List (Placed Entry) → Type 0
AreLawful count given = (place : ℕ) → place < count → IsLegal place (entries_at place given)

-- how a bucket stands of which these entries are all
abbrev pub standing_by : List (Placed Entry) → ℕ → Standing
standing_by given place = record { held = replayed place (entries_at place given); entries = entries_at place given }

-- how so many buckets stand then
abbrev pub hash_of : ℕ → List (Placed Entry) → List Standing
hash_of count given = map (standing_by given) (range_with_len 0 count)

-- no other pass makes entries: the first one was never split
abbrev pub IsAlone : View → Type 0
IsAlone v = (v.caller ≡ 0) × (v.splits ≡ 0)

-- a pass that is alone gave all that the buckets were asked, which is lawful
abbrev pub KnowsAll : ℕ → View → Type 0
KnowsAll count v = IsAlone v → AreLawful count v.mine

-- a pass between two turns
pub record IsIdle (t : Hash) (p : Pass) : Type 0 where
  pub table : IsPassOf t p
  pub free : IsFree p
  pub part : 0 < words.parts p
  pub some : 1 ≤ words.places t
  pub who : MayCall (words.home t) (words.caller p)
  pub knows : KnowsAll (words.places t) (known p)

-- the notes of this turn so far
abbrev pub made : Pass → Out → List Note
made p turn = drop (length (words.found p)) turn.value.value.journal

-- all that its caller asked of this bucket, as the pass gave it and in this turn
abbrev pub own_of : Pass → Out → List Note
own_of p turn = by_caller (words.caller p) (notes_at turn.place (words.given p)) ++ made p turn

-- a pass has a bucket out: it may be given back at any time
pub record IsOut (t : Hash) (p : Pass) (turn : Out) : Type 0 where
  pub table : IsPassOf t p
  pub has : HasTurn p turn.place
  pub part : 0 < words.parts p
  pub place : turn.place < words.places t
  pub number_is : turn.value.value.number ≡ turn.place
  pub buckets_is : turn.value.value.buckets ≡ words.places t
  pub may : Each (λ (x : Note). MayMake x.caller x.entry) turn.value.value.journal
  pub grown : turn.value.value.journal ≡ words.found p ++ made p turn
  pub numbered : map number (made p turn) ≡ words.drawn p
  pub callers : Each (λ (x : Note). x.caller ≡ words.caller p) (made p turn)
  pub knows : KnowsAll (words.places t) (known p)
  pub who : MayCall (words.home t) (words.caller p)
  pub from : Each (λ (x : Note). MayCall (words.home t) x.caller) turn.value.value.journal
  pub own : by_caller (words.caller p) (words.found p)
      ≡ by_caller (words.caller p) (notes_at turn.place (words.given p))
  pub all : IsAlone (known p) → words.found p ≡ notes_at turn.place (words.given p)

-- a pass had no turn, and now has one in which it drew numbers
pub record Within (v u : View) : Type 0 where
  pub mine : u.mine ≡ v.mine
  pub parts : u.parts ≡ v.parts
  pub caller : u.caller ≡ v.caller
  pub splits : u.splits ≡ v.splits
  pub later : v.seen ≤ u.seen
  pub draws : u.draws ≡ v.draws + length u.drawn
  pub fresh : Each (λ (n : ℕ). v.seen ≤ n) u.drawn

-- a pass went from one moment without a turn to another, and gave these entries, with numbers that it drew for them
pub record Gave (v w : View) (new : List (Placed Entry)) : Type 0 where
  pub mine : w.mine ≡ v.mine ++ new
  pub parts : w.parts ≡ v.parts
  pub caller : w.caller ≡ v.caller
  pub splits : w.splits ≡ v.splits
  pub later : v.seen ≤ w.seen
  pub draws : w.draws ≡ v.draws + length new
  pub callers : Each (λ (x : Placed Entry). x.note.caller ≡ v.caller) new
  pub fresh : Each (λ (x : Placed Entry). v.seen ≤ number_of x) new

-- a bucket that is out was asked so, and answered: its pass drew a number for that
pub record Asks (t : Hash) (p : Pass) (turn : Out) (q : Pass) (after : Out) (request : Request)
    (answer : Answer) : Type 0 where
  pub out : IsOut t q after
  pub place : after.place ≡ turn.place
  pub value : after.value.value ≡ called (record turn.value.value { next = after.value.value.next }) request
  pub made_is :
      entries_of (made q after) ≡ entries_of (made p turn) ++ record { request = request; answer = answer } ∷ []
  pub draws : words.draws q ≡ words.draws p + 1
  pub caller : words.caller q ≡ words.caller p
  pub within : (v : View) → Within v (known p) → Within v (known q)

-- the bucket of that place was asked so, and answered
pub record IsAsked (place : ℕ) (request : Request) (answer : Answer) (x : Placed Entry) : Type 0 where
  pub place_is : x.place ≡ place
  pub entry : x.note.entry ≡ record { request = request; answer = answer }

-- a turn in which one question was asked
pub record OneAsked (place : ℕ) (request : Request) (answer : Answer) (v w : View) : Type 0 where
  pub entry : Placed Entry
  pub asked : IsAsked place request answer entry
  pub gave : Gave v w (entry ∷ [])

-- where these entries and one more are lawful, the one is a question to the bucket of its key as the others leave it
abbrev pub AsksOneMore : Type 0
AsksOneMore =
    (count key : ℕ) (request : Request) (answer : Answer) (given : List (Placed Entry)) (x : Placed Entry)
    → 1 ≤ count → IsAsked (key % count) request answer x → AreLawful count (given ++ x ∷ [])
    → (answer_at (hash_of count given) key request ≡ answer)
    × (asked_at (hash_of count given) key request ≡ hash_of count (given ++ x ∷ []))
