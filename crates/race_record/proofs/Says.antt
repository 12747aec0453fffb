-- What a lawful record says.
use Rattle.std.proofs.Common.{◌≡◌, ℕ, zero, suc, ◌+◌, List, [], ◌∷◌, map, take, refl, sym, subst, length, arith}
use Rattle.list_words.specs.Lists.{Each}
use Rattle.turn_table.specs.declared.note.Note.{Note}
use Rattle.bind_buckets.specs.declared.request.Entry.{Entry}
use Rattle.bind_buckets.specs.OwnerStep.{Held, owner_step, empty}
use Rattle.bind_buckets.specs.Journal.{OwnersAgree, IsLegalFrom, replayed_from}
use Rattle.capture_reader.specs.declared.packet.Item.{Item}
use Rattle.capture_reader.specs.declared.packet.Item.TheVariants as items
use Rattle.capture_reader.specs.Captures.{Capture}
use Rattle.chain_book.specs.declared.book.Change.{Change}
use Rattle.chain_book.specs.declared.book.Receipt.{Receipt}
use Rattle.chain_book.specs.declared.shape.Shape.{Shape}
use Rattle.flat_list.specs.declared.command.Command.{Command}
use Rattle.flat_list.specs.declared.header.Header.{Header}
use Rattle.flat_list.specs.Script.{Script}
use Rattle.race_book.specs.Among.{Among}
use Rattle.race_book.specs.Explained.{MayAnswer, anywhere, at_home, IsAtHome}
use Rattle.race_book.specs.Serial.{IsSerial}
use Rattle.race_book.proofs.Listing.{begin_apart}
use Rattle.race_book.proofs.Spans.{answer_of_fewer}
use Rattle.race_book.proofs.Twins.{serial_has_none}
use Rattle.race_record.proofs.Homes.{ports_of}
use Rattle.race_record.specs.declared.record.Looked.{Looked}
use Rattle.race_record.specs.declared.record.Looked.TheVariants as looks
use Rattle.race_record.specs.Record.{Race, steps_of, Step}
use Rattle.race_record.specs.Lawful.{Lawful, Answers, AreAnswered, EachFrom, IsLegalJournal, entry_in, AreSectionsOf}
use Rattle.race_record.specs.Headline.{Headline, AlwaysAgree, HasCause, NumbersTell}
use Rattle.race_record.proofs.Drawn.{numbers_tell}
use Rattle.race_record.proofs.Dumps.{dumps_say}

-- at each place of a legal journal the owners agree
agree_from : (number : ℕ) (h : Held) (entries : List Entry) → OwnersAgree h.owners → IsLegalFrom number h entries → (k : ℕ) → OwnersAgree (replayed_from number h (take k entries)).owners
agree_from number h entries a l zero = a
agree_from number h [] a l (suc k) = a
agree_from number h (e ∷ rest) a l (suc k) = agree_from number (owner_step number h e.request).held rest l.1 l.2 k

agree_all : (number : ℕ) (journals : List (List (Note Entry))) → EachFrom IsLegalJournal number journals → EachFrom AlwaysAgree number journals
agree_all number [] l = tt
agree_all number (j ∷ rest) l = (λ k. agree_from number empty (map entry_in j) tt l.0 k, agree_all (number + 1) rest l.1)

-- there are as many sections of steps as of commands
pub same_count : (header : Header) (In : Change → Type 0) (n : ℕ) (scripts : List (List Command)) (sections : List (List Step)) → AreSectionsOf header In n scripts sections → length sections ≡ length scripts
same_count header In n [] [] a = refl
same_count header In n (cs ∷ scripts) (steps ∷ sections) a = omega (arith, same_count header In (n + 1) scripts sections a.1)
same_count header In n [] (steps ∷ sections) a = absurd a
same_count header In n (cs ∷ scripts) [] a = absurd a

module _ (book : List Change) (shape : Shape) (seed clock : ℕ) (serial : IsSerial (Among book) shape seed) where
  cause_of : (r : Receipt) → r.seed ≡ seed → MayAnswer (Among book) (at_home shape r.seed) shape.slots r.packet r.t0 r.t1 r.answer → MayAnswer (Among book) anywhere shape.slots r.packet r.t0 r.t1 r.answer
  cause_of r e m = answer_of_fewer (Among book) (at_home shape r.seed) anywhere refl (λ h l q. subst (λ (k : ℕ). IsAtHome shape k h) (sym e) (serial.homes h l.there)) r.packet r.t0 r.t1 shape.slots r.answer m

  cause : (item : Item) (looked : Looked) → Answers (Among book) shape seed clock item looked → HasCause (Among book) shape looked
  cause (items.Packet p) (looks.Answered r) a = cause_of r a.seed_is a.explained
  cause items.Skip looks.Skip a = tt
  cause items.Short looks.Short a = tt
  cause item looked a = absurd a

  causes : (left : List Item) (looked : List Looked) → AreAnswered (Among book) shape seed clock left looked → Each (HasCause (Among book) shape) looked
  causes [] [] a = tt
  causes (item ∷ left) (one ∷ rest) a = (cause item one a.0, causes left rest a.1)
  causes [] (one ∷ rest) a = absurd a
  causes (item ∷ left) [] a = tt

pub lawful_says : (script : Script) (capture : Capture) (race : Race) → Lawful script capture race → Headline race
lawful_says script capture race l =
    let n : NumbersTell race = numbers_tell script capture race l in
    record {
      tuples = serial_has_none race.book race.shape race.seed (begin_apart race.book n.distinct) n.order l.serial;
      owners = agree_all 0 race.journals l.journals.legal;
      keys = ports_of script.header (Among race.book) race.shape.bind script.sections race.sections race.journals l.sections l.journals.each_once;
      packets = causes race.book race.shape race.seed race.clock l.serial capture.items race.looked l.items;
      dumps = dumps_say race (steps_of race) l.dumps;
    }
