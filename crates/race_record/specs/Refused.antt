-- A worked record of refusals: two sections want one four-tuple; a slot is sought while a lookup holds the last one;
-- and a lookup that was given up. Our own.
--
-- To be read from the end: `refused_race` is the record, by `refused_script` and `refused_capture`; what it is made of
-- stands above it.
use Rattle.std.specs.Prelude.{ℕ, false, true, [], ◌∷◌, None}
use Rattle.sock_card.specs.declared.owner.Owner.{Owner}
use Rattle.sock_card.specs.declared.card.Card.{Card}
use Rattle.sock_card.specs.declared.card.Kind.TheVariants as kinds
use Rattle.sock_card.specs.declared.card.Packet.{Packet}
use Rattle.turn_table.specs.declared.note.Note.{Note}
use Rattle.bind_buckets.specs.declared.request.Entry.{Entry}
use Rattle.bind_buckets.specs.declared.request.Request.TheVariants as requests
use Rattle.bind_buckets.specs.declared.request.Answer.TheVariants as answers
use Rattle.capture_reader.specs.declared.packet.Item.TheVariants as items
use Rattle.capture_reader.specs.Captures.{Capture}
use Rattle.chain_book.specs.declared.book.Act.TheVariants as acts
use Rattle.chain_book.specs.declared.book.Change.{Change}
use Rattle.chain_book.specs.declared.book.PassEnd.TheVariants as ends
use Rattle.chain_book.specs.declared.book.PacketAnswer.TheVariants as found
use Rattle.chain_book.specs.declared.outcome.Replace.TheVariants as rules
use Rattle.flat_list.specs.declared.command.Command.TheVariants as commands
use Rattle.flat_list.specs.declared.command.Reply.TheVariants as replies
use Rattle.flat_list.specs.Owned.{new_owner, bound_at, connected_to, card_as}
use Rattle.flat_list.specs.Rows.{plain, with_slots, a, b, c, d, one, two, socket, reusable, connect}
use Rattle.flat_list.specs.Script.{Script}
use Rattle.flat_list.specs.Sections.{name_at}
use Rattle.race_record.specs.declared.record.Looked.TheVariants as looks
use Rattle.race_record.specs.Deeds.{Wish, hashed, kept_out, no_slot, entered, inserted, left}
use Rattle.race_record.specs.Record.{Race, Sighting}
use Rattle.race_record.specs.Worked.{note, change, step, bound, receipt}

abbrev pub refused_script : Script
refused_script =
    record {
      header = with_slots 2;
      sections =
          (reusable a ∷ commands.Bind a (one 90) ∷ connect a 80 ∷ socket d ∷ commands.Bind d (one 92) ∷ connect d 80
          ∷ commands.Drop d ∷ [])
          ∷ (reusable b ∷ commands.Bind b (one 90) ∷ connect b 80 ∷ socket c ∷ commands.Bind c (one 91) ∷ connect c 80
          ∷ [])
          ∷ [];
      capture = None;
    }

abbrev pub to_d : Packet
to_d = record { src = 0x0A000002; sport = 80; dst = 0x0A000001; dport = 92; dev = 0; net = 0 }

abbrev pub refused_capture : Capture
refused_capture =
    record {
      items = items.Packet to_d ∷ items.Short ∷ [];
      cut = false;
    }

abbrev pub reusing : ℕ → Owner
reusing name =
    bound_at (new_owner name 0 (record plain { reuseaddr = true })) 0x0A000001 90

abbrev pub full_card : Owner → Card
full_card owner = card_as kinds.Full (connected_to owner 0x0A000001 (two 80)) 0

abbrev pub owner_a : Owner
owner_a = reusing (name_at 1 0)

abbrev pub owner_b : Owner
owner_b = reusing (name_at 2 0)

abbrev pub owner_c : Owner
owner_c = bound (name_at 2 1) 0x0A000001 91

abbrev pub owner_d : Owner
owner_d = bound (name_at 1 1) 0x0A000001 92

abbrev pub hash_a : Change
hash_a = change 0 0 (full_card owner_a) acts.Hash 0 1

abbrev pub hash_d : Change
hash_d = change 0 1 (full_card owner_d) acts.Hash 2 3

abbrev pub unhash_d : Change
unhash_d = change 0 1 (full_card owner_d) acts.Unhash 4 5

abbrev pub bind_a : Note Entry
bind_a = note 0 1 (requests.Bind owner_a) answers.Done

abbrev pub connect_a : Note Entry
connect_a = note 1 1 (requests.ConnectBound (name_at 1 0) 0x0A000001 0x0A000002 80) answers.Done

abbrev pub bind_b : Note Entry
bind_b = note 2 2 (requests.Bind owner_b) answers.Done

abbrev pub bind_d : Note Entry
bind_d = note 3 1 (requests.Bind owner_d) answers.Done

abbrev pub connect_d : Note Entry
connect_d = note 4 1 (requests.ConnectBound (name_at 1 1) 0x0A000001 0x0A000002 80) answers.Done

abbrev pub bind_c : Note Entry
bind_c = note 5 2 (requests.Bind owner_c) answers.Done

abbrev pub remove_d : Note Entry
remove_d = note 6 1 (requests.Remove (name_at 1 1)) answers.Done

abbrev pub wished : Owner → Wish
wished owner = record { card = full_card owner; moment = 0; rule = rules.Never }

-- the slot of d as it is held by a lookup alone
abbrev pub held_d : Sighting
held_d = record { slot = 1; since = 7; until = 7 }

abbrev pub refused_race : Race
refused_race =
    record {
      lookers = 1;
      passes = 1;
      shape = record { slots = 2; bind = 1; hash = 1; listen = 1 };
      seed = 0;
      sections =
          (step (reusable a) replies.Ok [] 0 0
          ∷ step (commands.Bind a (one 90)) (replies.Port 90) (entered 90 bind_a ∷ []) 0 0
          ∷ step (connect a 80) (replies.End (one 90))
          (inserted (wished owner_a) (hashed hash_a None) ∷ entered 90 connect_a ∷ []) 0 2
          ∷ step (socket d) replies.Ok [] 2 2
          ∷ step (commands.Bind d (one 92)) (replies.Port 92) (entered 92 bind_d ∷ []) 2 2
          ∷ step (connect d 80) (replies.End (one 92))
          (inserted (wished owner_d) (hashed hash_d None) ∷ entered 92 connect_d ∷ []) 2 4
          ∷ step (commands.Drop d) replies.Ok (left unhash_d ∷ entered 92 remove_d ∷ []) 4 7
          ∷ [])
          ∷ (step (reusable b) replies.Ok [] 0 0
          ∷ step (commands.Bind b (one 90)) (replies.Port 90) (entered 90 bind_b ∷ []) 0 0
          ∷ step (connect b 80) replies.Eaddrnotavail (inserted (wished owner_b) (kept_out (name_at 1 0)) ∷ []) 2 4
          ∷ step (socket c) replies.Ok [] 4 4
          ∷ step (commands.Bind c (one 91)) (replies.Port 91) (entered 91 bind_c ∷ []) 4 4
          ∷ step (connect c 80) (replies.Enfile 1 1) (inserted (wished owner_c) (no_slot 6 1 1) ∷ []) 4 7
          ∷ [])
          ∷ [];
      journals = (bind_a ∷ connect_a ∷ bind_b ∷ bind_d ∷ connect_d ∷ bind_c ∷ remove_d ∷ []) ∷ [];
      book = hash_a ∷ hash_d ∷ unhash_d ∷ [];
      looked =
          looks.Answered (receipt to_d (found.Again 0 (ends.Dead 1)) 4 5)
          ∷ looks.Short
          ∷ [];
      shares = (0 ∷ 1 ∷ []) ∷ [];
      cut = false;
      counts = 1;
      sightings = held_d ∷ [];
      clock = 7;
    }
