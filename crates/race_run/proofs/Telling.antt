-- What is reported of a race that has ended is what a lawful record reports.
use Rattle.std.proofs.Common.{◌≡◌, ℕ, Bool, List, [], ◌∷◌, ◌++◌, length, map, refl, sym, ap, ◌∙◌, subst}
use Rattle.std.specs.List.{flat_map}
use Rattle.std.specs.Global.{Box}
use Rattle.bind_buckets.specs.Bucket.{Bucket}
use Rattle.bind_buckets.specs.Closed.{count_in, notes_in}
use Rattle.capture_reader.specs.Captures.{Capture}
use Rattle.chain_book.specs.declared.book.Change.{Change}
use Rattle.sock_ops.specs.Sides.{change_of}
use Rattle.flat_list.specs.Script.{Script}
use Rattle.flat_list.specs.declared.header.Header.{Header}
use Rattle.flat_list.specs.declared.command.Reply.{Reply}
use Rattle.socket_list.specs.Listing.{Listing}
use Rattle.list_words.specs.Lists.{Each, SameItems, total}
use Rattle.turn_table.specs.Journals.{numbers_below}
use Rattle.race_record.specs.Lawful.{Lawful, looked_at}
use Rattle.race_record.specs.Record.{Race}
use Rattle.race_record.specs.declared.record.Looked.{Looked}
use Rattle.table_rule.specs.Changes.{list_of}
use Rattle.table_rule.specs.Closes as closes
use Rattle.table_rule.specs.Plays.{seeing}
use Rattle.table_rule.specs.declared.view.View.{View}
use Rattle.race_run.specs.declared.finish.Ended.{Ended}
use Rattle.race_run.specs.Finished.{HasFinished, as_known, listings_in, replies_in, told_in}
use Rattle.race_run.specs.declared.looker.Look.{Look}
use Rattle.race_run.specs.Lookers.{AreTold, item_of}
use Rattle.race_run.specs.Shares.{items_in}
use Rattle.race_run.specs.Races.{SaysSo}
use Rattle.race_run.specs.Said.{Said, replied_in}
use Rattle.race_run.specs.Scripts.{IsForRace}
use Rattle.race_run.specs.Told.{IsToldBy, race_of}
use Rattle.race_run.proofs.Looking.{looks_too}
use Rattle.race_run.proofs.Weights.{map_flat}
use Rattle.race_book.proofs.Joined.{each_unflat}

counts_are : (bs : List (Box Bucket)) → map count_in bs ≡ map length (map notes_in bs)
counts_are [] = refl
counts_are (b ∷ bs) = ap (λ l. count_in b ∷ l) (counts_are bs)

as_known_all : (cs : List Change) → map as_known cs ≡ map change_of (map closes.change_of cs)
as_known_all [] = refl
as_known_all (c ∷ cs) = ap (λ l. as_known c ∷ l) (as_known_all cs)

flat_of_all : (says : List Said) → flat_map (λ (x : List Reply). x) (map replied_in says) ≡ flat_map replied_in says
flat_of_all [] = refl
flat_of_all (s ∷ says) = ap (λ l. s.replies ++ l) (flat_of_all says)

-- the items on which the outcomes report are those of the capture, each once
pub items_once : (script : Script) (passes : ℕ) (capture : Capture) (lookers : ℕ) (e : Ended) → HasFinished script passes capture.items lookers e → SameItems (flat_map items_in e.outcomes.items) (numbers_below (length capture.items))
items_once script passes capture lookers e h f =
    ap (total f) (sym (map_flat item_of told_in e.outcomes.items) ∙ ap (map item_of) h.tells ∙ map_flat item_of (λ (took : List Look). took) h.tooks) ∙ h.once f

module _ (script : Script) (capture : Capture) (lookers passes : ℕ) (e : Ended) (looked : List Looked) (fits : IsForRace script) (h : HasFinished script passes capture.items lookers e)
    (many : length looked ≡ length capture.items) (there : Each (λ k. looked_at looked k.item ≡ k.looked) (flat_map told_in e.outcomes.items)) where
  abbrev race : Race
  race = race_of script capture lookers passes e h looked

  abbrev IsThere : Look → Type 0
  IsThere k = looked_at looked k.item ≡ k.looked

  told : AreTold capture.items h.tooks looked
  told = record { count = many; once = h.once; told = each_unflat IsThere (λ (took : List Look). took) h.tooks (subst (Each IsThere) h.tells there) }

  lawful : Lawful script capture race × SaysSo race h.says
  lawful = looks_too script capture h.part h.tooks looked passes h.turns h.chain e.buckets.items h.says e.clock h.ended told h.looked fits.small.commands

  pub tells_race : (header : Header) (cut : Bool) (replies : List Reply) (listings : List Listing) (journals : List ℕ) (book : List Change)
      → header ≡ script.header → cut ≡ capture.cut → replies ≡ flat_map replies_in e.outcomes.items → listings ≡ flat_map listings_in e.outcomes.items → journals ≡ map count_in e.buckets.items → book ≡ list_of e.chain.pass.changes → map as_known book ≡ book
      → IsToldBy script capture lookers passes e (record {
        lookers = lookers;
        passes = passes;
        shape = header.shape;
        seed = header.seed;
        replies = replies;
        listings = listings;
        journals = journals;
        book = book;
        looked = looked;
        cut = cut;
        clock = e.clock;
      })
  tells_race header cut replies listings journals book of ends p l q r known =
      let replies_are = p ∙ h.replied ∙ sym (ap (flat_map (λ (x : List Reply). x)) lawful.1.replies ∙ flat_of_all h.says) in
      let listings_are = l ∙ h.listed ∙ sym lawful.1.listings in
      let journals_are = q ∙ counts_are e.buckets.items in
      let closed = ap (λ l. map closes.change_of l) r ∙ e.chain.pass.told.0 h.kept ∙ ap (λ (y : View). y.book.closed) h.sees in
      let book_is = sym known ∙ as_known_all book ∙ ap (map change_of) closed in
      record {
        finished = h;
        left = record { book = r; journals = q; replies = p; listings = l; looked = there; clock = refl };
        lawful = lawful.0;
        told_is = λ i. record {
          lookers = sym h.lookers_are i;
          passes = passes;
          shape = (of i).shape;
          seed = (of i).seed;
          replies = replies_are i;
          listings = listings_are i;
          journals = journals_are i;
          book = book_is i;
          looked = looked;
          cut = ends i;
          clock = e.clock;
        };
      }
