-- What each dump of a lawful record lists.
use Rattle.std.proofs.Common.{List, [], ◌∷◌, Some, refl, sym, subst, ℕ, arith}
use Rattle.std.specs.List.{flat_map}
use Rattle.list_words.specs.Lists.{Each}
use Rattle.list_words.proofs.EachLemmas.{each_append}
use Rattle.sock_card.specs.declared.card.Card.{Card}
use Rattle.socket_list.specs.Listing.{Listing}
use Rattle.socket_list.specs.declared.listing.Span.{Span}
use Rattle.flat_list.specs.declared.command.Command.{Command}
use Rattle.flat_list.specs.declared.command.Command.TheVariants as commands
use Rattle.chain_book.specs.declared.book.Change.{Change}
use Rattle.race_book.specs.Among.{Among}
use Rattle.race_book.specs.Lives.{IsLife, Throughout}
use Rattle.race_record.specs.Record.{Race, Step}
use Rattle.race_record.specs.Lawful.{IsListed, ListsAs, Lists}
use Rattle.race_record.specs.Headline.{ListsWhatStood}

module _ (race : Race) where
  abbrev Says : Listing → Type 0
  Says = ListsWhatStood (Among race.book)

  -- whoever was there throughout stood at its chain's number
  pub all_listed : (from to : ℕ) (cards : List Card) (span : Span) → IsListed (Among race.book) from to cards span → (h : Change) → IsLife (Among race.book) h → Throughout (Among race.book) h span.t0 span.t1 → Among cards h.card
  all_listed from to cards span d h life t = d.all h life record {
    before = let low = d.since h.bucket in omega (arith, t.before, low);
    still = λ u there after. let late = t.still u there after in let high = d.until h.bucket in omega (arith, late, high);
  }

  of_dump : (s : Step) (cards : List Card) (span : Span) → IsListed (Among race.book) s.from s.to cards span → Says (record { cards = cards; span = Some span })
  of_dump s cards span d = record { span = span; span_is = refl; lives = d.lives; cards_are = d.cards_are; stood = d.stood; apart = d.apart; all = all_listed s.from s.to cards span d }

  of_command : (command : Command) (s : Step) → ListsAs race command s → Each Says s.listings
  of_command commands.Dump s d = subst (Each Says) (sym d.2) (of_dump s d.0 d.1 d.3, tt)
  of_command _ s d = subst (Each Says) (sym d) tt

  pub dumps_say : (steps : List Step) → Each (Lists race) steps → Each Says (flat_map (λ (s : Step). s.listings) steps)
  dumps_say [] d = tt
  dumps_say (s ∷ rest) d =
      each_append Says s.listings (flat_map (λ (s : Step). s.listings) rest) (of_command s.command s d.0) (dumps_say rest d.1)
