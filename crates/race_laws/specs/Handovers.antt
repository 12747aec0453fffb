-- What handovers are in a lawful race: inet_csk_complete_hashdance of net/ipv4/inet_connection_sock.c and
-- inet_ehash_insert of net/ipv4/inet_hashtables.c. That a connection is there before its request is gone is our own
-- rule.
use Rattle.std.specs.Prelude.{◌≡◌, ℕ, ◌+◌, ◌<◌, true, List, [], ◌∷◌, Option, Some}
use Rattle.sock_card.specs.declared.card.Kind.TheVariants as kinds
use Rattle.capture_reader.specs.Captures.{Capture}
use Rattle.chain_book.specs.declared.book.Change.{Change}
use Rattle.chain_book.specs.Tuples.{same_cards}
use Rattle.flat_list.specs.Script.{Script}
use Rattle.flat_list.specs.declared.header.Header.{Header}
use Rattle.flat_list.specs.declared.command.Command.{Command}
use Rattle.flat_list.specs.declared.command.Command.TheVariants as commands
use Rattle.flat_list.specs.declared.command.Reply.{Reply}
use Rattle.flat_list.specs.declared.command.Reply.TheVariants as replies
use Rattle.table_model.specs.Commands.{answers, plan}
use Rattle.table_model.specs.Own.{Own, name_of, new_own, next_name}
use Rattle.race_book.specs.Among.{Among}
use Rattle.race_book.specs.Lives.{IsLife, Ends}
use Rattle.race_record.specs.Deeds.{Deed, changes_in}
use Rattle.race_record.specs.Goes.{Goes}
use Rattle.race_record.specs.Record.{Race, Step}
use Rattle.race_record.specs.Lawful.{Lawful}

-- By these deeds the life of the request of the name that was asked for was ended, once that of the connection of the
-- name that was given had begun, with its four-tuple and in its chain. So from the end of the request's hash to the
-- beginning of the connection's unhash there is no number at which neither stood.
pub record HandsOver (In : Change → Type 0) (asked : Option ℕ) (given : ℕ) (deeds : List Deed) : Type 0 where
  pub request : Change
  pub is_request : IsLife In request × (request.card.kind ≡ kinds.Request)
  pub is_asked : asked ≡ Some request.card.name
  pub child : Change
  pub is_child : IsLife In child × (child.card.kind ≡ kinds.Full)
  pub is_given : child.card.name ≡ given
  pub unhash : Change
  pub ends : Ends In request unhash
  pub did : Among (changes_in deeds) child × Among (changes_in deeds) unhash
  pub tuple : same_cards child.card request.card ≡ true
  pub bucket : child.bucket ≡ request.bucket
  pub order : child.end < unhash.begin

-- So where an `ack` was done, by what its section knew as it began: the request has the name that the first label
-- stands for, and the connection the name that the second one will.
abbrev pub HandsOverAs : (Change → Type 0) → Own → Command → Reply → List Deed → Type 0
HandsOverAs In own (commands.Ack request label) replies.Ok deeds = HandsOver In (name_of own request) (next_name own) deeds
HandsOverAs In own _ _ deeds = Unit {0}

-- Each of these steps does so, by what the section knows of itself: the first knows that, and the next what the plan of
-- the one before it leaves.
abbrev pub StepsHandOver : Header → (Change → Type 0) → Own → List Step → Type 0
StepsHandOver header In own [] = Unit {0}
StepsHandOver header In own (s ∷ steps) =
    HandsOverAs In own s.command s.reply s.deeds
    × ((next : Own) × Goes (plan header own s.command) s.deeds (answers next s.reply)
    × StepsHandOver header In next steps)

-- and each section's, the first of which has that number
abbrev pub SectionsHandOver : Header → (Change → Type 0) → ℕ → List (List Step) → Type 0
SectionsHandOver header In n [] = Unit {0}
SectionsHandOver header In n (steps ∷ sections) =
    StepsHandOver header In (new_own header n) steps × SectionsHandOver header In (n + 1) sections

-- each `ack` of a race that is answered with Ok handed its request over
abbrev pub HandsAllOver : Script → Race → Type 0
HandsAllOver script race = SectionsHandOver script.header (Among race.book) 1 race.sections

-- so it is in a lawful race
abbrev pub AcksHandOver : Type 0
AcksHandOver =
    (script : Script) (capture : Capture) (race : Race) → Lawful script capture race → HandsAllOver script race
