-- What one walk over a locked chain finds: our own.
--
-- To be read from the beginning. Contracts of public calls cite `keeper_in` and `waiting_in`, by Comings; the rest is
-- of private functions.
use Rattle.std.specs.Prelude.{◌≡◌, ◌==◌, ◌&&◌, ◌+◌, ◌*◌, ◌/◌, ◌%◌, ◌^◌, Option, None, Some, List, find, cond, Bool, false}
use Rattle.list_words.specs.Lists.{Each}
use Rattle.chain_book.specs.declared.outcome.Hashed.{Hashed}
use Rattle.chain_book.specs.Chains.{keeps, waits, waits_as}
use Rattle.sock_card.specs.declared.card.Card.{Card}
use Rattle.sock_card.specs.declared.words.CardWords.{CardWords}
use Rattle.table_rule.specs.declared.view.Seen.{Seen}
use Rattle.established.specs.Rows.{row_of, HasCard}
use Rattle.established.specs.declared.survey.Newcomer.{Newcomer}
use Rattle.established.specs.declared.survey.Sought.{Sought}
use Rattle.established.specs.declared.survey.Sought.TheVariants as seeks
use Rattle.established.specs.declared.survey.Survey.{Survey}
use Rattle.established.specs.declared.survey.Sign.{Sign}
use Rattle.established.specs.declared.survey.Sign.TheVariants as signs

-- the first of a chain that keeps the newcomer's four-tuple from it
abbrev pub keeper_in : Newcomer → List Hashed → Option Hashed
keeper_in new row = find (keeps new.card new.moment new.replace) row

-- the first TIME_WAIT of its four-tuple
abbrev pub waiting_in : Newcomer → List Hashed → Option Hashed
waiting_in new row = find (waits new.card) row

-- it keeps a newcomer's four-tuple from it
abbrev pub keeps_out : Sought → Hashed → Bool
keeps_out (seeks.Room new) x = keeps new.card new.moment new.replace x
keeps_out (seeks.Waiting name) x = false

-- it is the TIME_WAIT that is sought
abbrev pub goes_out : Sought → Hashed → Bool
goes_out (seeks.Room new) x = waits new.card x
goes_out (seeks.Waiting name) x = waits_as name x

pub record Surveyed (sought : Sought) (survey : Survey) (xs : List Seen) : Type 0 where
  pub keeper : survey.keeper ≡ find (keeps_out sought) (row_of xs)
  pub waiting : survey.waiting ≡ find (goes_out sought) (row_of xs)
  pub cards : Each HasCard xs

-- the first stays
abbrev pub first_of : Option Hashed → Bool → Hashed → Option Hashed
first_of (Some first) fits x = Some first
first_of None fits x = cond fits (Some x) None

abbrev pub noted : Sought → Survey → Hashed → Survey
noted sought survey x =
    record {
      keeper = first_of survey.keeper (keeps_out sought x) x;
      waiting = first_of survey.waiting (goes_out sought x) x;
    }

-- what the words of a card have that keeps a newcomer's four-tuple from it or waits as is sought: both addresses and
-- both ports, or the name
abbrev pub ends_sign : Card → Sign
ends_sign card = signs.Ends (card.local * 2 ^ 32 + card.remote) (card.lport * 2 ^ 16 + card.rport)

abbrev pub sign_of : Sought → Sign
sign_of (seeks.Room new) = ends_sign new.card
sign_of (seeks.Waiting name) = signs.Name name

abbrev pub has_sign : Sign → CardWords → Bool
has_sign (signs.Ends addresses ports) w = (w.ends == addresses) && (w.ports / 2 ^ 32 == ports)
has_sign (signs.Name name) w = w.name == name
