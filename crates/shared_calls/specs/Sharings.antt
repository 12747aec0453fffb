-- What shared tables are between two calls, and what they hand out: our own.
use Rattle.std.specs.Prelude.{◌≡◌, ◌⊎◌, ℕ, ◌+◌, ◌<◌, ◌≤◌, List, [], ◌∷◌, ◌++◌, length, false}
use Rattle.bind_buckets.specs.declared.request.Sharing.TheVariants as sharings
use Rattle.sock_ops.specs.Sides.{IsResting, HoldsNothing}
use Rattle.flat_list.specs.Fits.{FitsTables}
use Rattle.flat_list.specs.declared.header.Header.{Header}
use Rattle.reuseport_group.specs.Passes as lists
use Rattle.section_machine.specs.Sections.{kept}
use Rattle.section_machine.specs.Standing.{AreOf}
use Rattle.sock_ops.specs.Stands.{HasGroups, turned}
use Rattle.sock_ops.specs.declared.tables.Tables.{Tables}
use Rattle.sock_ops.specs.declared.tables.Worker.{Worker}
use Rattle.table_model.specs.Own.{new_own}
use Rattle.table_rule.specs.Passes.{known}
use Rattle.table_rule.specs.Rule.{drawn}
use Rattle.table_rule.specs.declared.view.View.{View}
use Rattle.turn_table.specs.Passes as words
use Rattle.shared_calls.specs.Callings.{Calling}
use Rattle.shared_calls.specs.Lookings.{Looking}

-- the tables, their header and their tag, the first worker, which does nothing, how many callers and lookers were made,
-- and those that were given back, the last of them at the end
pub record Sharing : Type 0 where
  pub tables : Tables
  pub header : Header
  pub tag : ℕ
  pub first : Worker
  pub callers : ℕ
  pub lookers : ℕ
  pub idle : List Calling
  pub resting : List Looking

abbrev pub sharing : Tables → Header → (tag : ℕ) → Worker → (callers lookers : ℕ) → List Calling → List Looking → Sharing
sharing t h tag w callers lookers idle resting =
    record {
      tables = t;
      header = h;
      tag = tag;
      first = w;
      callers = callers;
      lookers = lookers;
      idle = idle;
      resting = resting;
    }

-- the view of the chains of a pass that has done nothing
pub record HasDoneNothing (v : View) : Type 0 where
  pub nothing : HoldsNothing v
  pub drew : drawn v ≡ 0

-- The chains count their changes and keep none, so no pass of them grows with what it does. Of the 16,384 parts of
-- each pass the first worker has those that were not handed out. No more were given back than were made.
pub record IsSharing (s : Sharing) : Type 0 where
  pub are : AreOf s.header s.tables
  pub fits : FitsTables s.header
  pub shared : words.home s.tables.buckets ≡ sharings.Shared
  pub counts : s.tables.chains.keeps_changes ≡ false
  pub few_callers : s.callers ≤ 255
  pub few_lookers : s.lookers ≤ 16000
  pub few_idle : length s.idle ≤ s.callers
  pub few_resting : length s.resting ≤ s.lookers
  pub turns : words.IsPassOf s.tables.buckets s.first.turns
  pub free : words.IsFree s.first.turns
  pub caller : words.caller s.first.turns ≡ 0
  pub turn_parts : words.parts s.first.turns + s.callers ≡ 16384
  pub splits : words.splits s.first.turns ≡ s.callers
  pub rests : IsResting s.tables.chains s.first.chain
  pub quiet : HasDoneNothing (known s.first.chain.pass)
  pub chain_parts : (known s.first.chain.pass).slot.parts + s.callers + s.lookers ≡ 16384
  pub groups : HasGroups s.tables s.first.groups
  pub group_parts : lists.parts s.first.groups + s.callers + s.lookers ≡ 16384

-- new tables of that header and that tag
pub record IsNew (header : Header) (tag : ℕ) (s : Sharing) : Type 0 where
  pub header_is : s.header ≡ header
  pub tag_is : s.tag ≡ tag
  pub no_caller : s.callers ≡ 0
  pub no_looker : s.lookers ≡ 0
  pub no_idle : s.idle ≡ []
  pub no_resting : s.resting ≡ []

-- as many callers were made as there may be, and none of them was given back
abbrev pub HasNoCaller : Sharing → Type 0
HasNoCaller s = (s.callers ≡ 255) × (s.idle ≡ [])

-- as many lookers
abbrev pub HasNoLooker : Sharing → Type 0
HasNoLooker s = (s.lookers ≡ 16000) × (s.resting ≡ [])

-- one that was given back, as it was then: with its number, its sockets, its TIME_WAITs and its moment
abbrev pub HandsAgain : Sharing → Sharing → Calling → Type 0
HandsAgain old new c = old ≡ record new { idle = new.idle ++ c ∷ [] }

abbrev pub HandsLookerAgain : Sharing → Sharing → Looking → Type 0
HandsLookerAgain old new l = old ≡ record new { resting = new.resting ++ l ∷ [] }

-- the caller of the next number, with no sockets, which has asked nothing
pub record HandsCaller (old new : Sharing) (c : Calling) : Type 0 where
  pub tables : (new.tables ≡ old.tables) × (c.tables ≡ old.tables)
  pub tag : (new.tag ≡ old.tag) × (c.tag ≡ old.tag)
  pub header : new.header ≡ old.header
  pub counted : new.callers ≡ old.callers + 1
  pub lookers : new.lookers ≡ old.lookers
  pub idle : (old.idle ≡ []) × (new.idle ≡ [])
  pub resting : new.resting ≡ old.resting
  pub kept_is : c.kept ≡ kept old.header (new_own old.header new.callers)
  pub nothing : (turned c.worker).mine ≡ []

-- a looker, which has looked nothing up
pub record HandsLooker (old new : Sharing) (l : Looking) : Type 0 where
  pub tables : (new.tables ≡ old.tables) × (l.tables ≡ old.tables)
  pub tag : (new.tag ≡ old.tag) × (l.tag ≡ old.tag)
  pub header : new.header ≡ old.header
  pub callers : new.callers ≡ old.callers
  pub counted : new.lookers ≡ old.lookers + 1
  pub idle : new.idle ≡ old.idle
  pub resting : (old.resting ≡ []) × (new.resting ≡ [])
  pub nothing : (known l.chain.pass).read.wholes ≡ []

-- what is handed out
abbrev pub GivesCaller : Sharing → Sharing → Calling → Type 0
GivesCaller old new c = HandsCaller old new c ⊎ HandsAgain old new c

abbrev pub GivesLooker : Sharing → Sharing → Looking → Type 0
GivesLooker old new l = HandsLooker old new l ⊎ HandsLookerAgain old new l

-- the caller has these tables' tag, and fewer callers are here than were made
pub record MayComeBack (s : Sharing) (c : Calling) : Type 0 where
  pub tag : c.tag ≡ s.tag
  pub out : length s.idle < s.callers

-- so of a looker
pub record LookerMayComeBack (s : Sharing) (l : Looking) : Type 0 where
  pub tag : l.tag ≡ s.tag
  pub out : length s.resting < s.lookers

-- it rests there, as it is, and is the next to be handed out
abbrev pub TakesBack : Sharing → Sharing → Calling → Type 0
TakesBack old new c = new ≡ record old { idle = old.idle ++ c ∷ [] }

abbrev pub TakesLookerBack : Sharing → Sharing → Looking → Type 0
TakesLookerBack old new l = new ≡ record old { resting = old.resting ++ l ∷ [] }
