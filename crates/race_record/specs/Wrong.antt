-- Records that aren't lawful, each but for one thing like one that is. Our own.
--
-- Each definition of type `Type 0`, such as `NumberTooMany`, says of one record that it isn't lawful. What the record
-- is made of stands above it, and in Worked and Refused.
use Rattle.std.specs.Prelude.{ℕ, List, [], ◌∷◌, ◌++◌, false, None, Some}
use Rattle.capture_reader.specs.declared.packet.Item.TheVariants as items
use Rattle.capture_reader.specs.Captures.{Capture}
use Rattle.bind_buckets.specs.declared.request.Entry.{Entry}
use Rattle.bind_buckets.specs.declared.request.Request.TheVariants as requests
use Rattle.bind_buckets.specs.declared.request.Answer.TheVariants as answers
use Rattle.turn_table.specs.declared.note.Note.{Note}
use Rattle.sock_card.specs.declared.owner.Owner.{Owner}
use Rattle.sock_card.specs.declared.card.Card.{Card}
use Rattle.sock_card.specs.declared.card.Kind.TheVariants as kinds
use Rattle.sock_card.specs.Became.{as_waiting}
use Rattle.chain_book.specs.declared.book.Act.TheVariants as acts
use Rattle.chain_book.specs.declared.book.Change.{Change}
use Rattle.chain_book.specs.declared.book.PacketAnswer.{PacketAnswer}
use Rattle.chain_book.specs.declared.book.PacketAnswer.TheVariants as found
use Rattle.chain_book.specs.declared.book.PassEnd.TheVariants as ends
use Rattle.flat_list.specs.declared.command.Command.TheVariants as commands
use Rattle.flat_list.specs.declared.command.Reply.TheVariants as replies
use Rattle.flat_list.specs.Owned.{connected_to, card_as}
use Rattle.flat_list.specs.Rows.{with_slots, a, b, d, e, any, one, two, socket, reusable, connect, accept}
use Rattle.flat_list.specs.Script.{Script}
use Rattle.flat_list.specs.Sections.{name_at}
use Rattle.race_record.specs.declared.record.Looked.{Looked}
use Rattle.race_record.specs.declared.record.Looked.TheVariants as looks
use Rattle.race_record.specs.Deeds.{Deed, hashed, kept_out, no_slot, entered, inserted, added, left, reaped}
use Rattle.race_record.specs.Record.{Race, Step}
use Rattle.race_record.specs.Lawful.{Lawful}
use Rattle.race_record.specs.Worked.{note, change, step, and_then, listing, packet, receipt, first_script, dump_script, no_capture, first_race, first_bind, first_may, first_listen, owner_a, card_a, hash_a, card_d, owner_e, card_e, handshake_script, handshake_capture, handshake_race, card_r, hash_r, inherit_child, acknowledged_by, found_by_two}
use Rattle.race_record.specs.Refused as refused
use Rattle.race_record.specs.Worked as worked

-- a number of the clock that belongs to nothing
abbrev pub NumberTooMany : Type 0
NumberTooMany = ¬ (Lawful first_script no_capture (record first_race { clock = 3 }))

-- a change that was left out of the book
abbrev pub ChangeLeftOut : Type 0
ChangeLeftOut = ¬ (Lawful first_script no_capture (record first_race { book = []; clock = 0 }))

-- one `bind` that enters its owner, and then again, and so is refused
abbrev pub twice_script : Script
twice_script =
    record { header = with_slots 2; sections = (socket a ∷ commands.Bind a (one 80) ∷ []) ∷ []; capture = None }

abbrev pub second_bind : Note Entry
second_bind = note 1 1 (requests.Bind owner_a) (answers.InUse (name_at 1 0))

abbrev pub twice_race : Race
twice_race =
    record first_race {
      sections =
          (step (socket a) replies.Ok [] 0 0
          ∷ step (commands.Bind a (one 80)) replies.Eaddrinuse (entered 80 first_bind ∷ entered 80 second_bind ∷ []) 0 0
          ∷ [])
          ∷ [];
      journals = (first_bind ∷ second_bind ∷ []) ∷ [];
      book = [];
      clock = 0;
    }

abbrev pub EnteredTwice : Type 0
EnteredTwice = ¬ (Lawful twice_script no_capture twice_race)

-- what came of packets to the listener, by one looker
abbrev pub one_packet : Capture
one_packet = record { items = items.Packet (packet 0x0A000001 80) ∷ []; cut = false }

abbrev pub answered : PacketAnswer → ℕ → ℕ → Looked
answered answer t0 t1 = looks.Answered (receipt (packet 0x0A000001 80) answer t0 t1)

abbrev pub with_answer : PacketAnswer → Race
with_answer answer = record first_race { looked = answered answer 2 2 ∷ []; shares = (0 ∷ []) ∷ [] }

-- a packet that found nothing while the listener stood
abbrev pub FoundNothing : Type 0
FoundNothing = ¬ (Lawful first_script one_packet (with_answer found.None))

-- one that claims to have been looked up from before the listener came on, by a looker that found it before
abbrev pub two_packets : Capture
two_packets =
    record { items = items.Packet (packet 0x0A000001 80) ∷ items.Packet (packet 0x0A000001 80) ∷ []; cut = false }

abbrev pub FromTheStart : Type 0
FromTheStart =
    ¬ (Lawful first_script two_packets
    (record first_race {
      looked = answered (found.Found card_a) 2 2 ∷ answered found.None 0 2 ∷ [];
      shares = (0 ∷ 1 ∷ []) ∷ [];
    }))

-- one that was given up at a slot of which there was no change
abbrev pub CauseNeverWas : Type 0
CauseNeverWas = ¬ (Lawful first_script one_packet (with_answer (found.Again 1 (ends.Dead 1))))

-- one that was given up in a bucket that isn't the packet's
abbrev pub AnotherBucket : Type 0
AnotherBucket = ¬ (Lawful first_script one_packet (with_answer (found.Again 2 (ends.Dead 0))))

-- one that was given up at a slot while it was hashed into another chain
abbrev pub DeadElsewhere : Type 0
DeadElsewhere =
    ¬ (Lawful first_script one_packet
    (record first_race { looked = answered (found.Again 0 (ends.Dead 0)) 0 1 ∷ []; shares = (0 ∷ []) ∷ [] }))

-- one that was led through too many links, though no slot was left and used again
abbrev pub StrayedNowhere : Type 0
StrayedNowhere =
    ¬ (Lawful first_script one_packet
    (record first_race { looked = answered (found.Again 1 (ends.Long 3)) 0 2 ∷ []; shares = (0 ∷ []) ∷ [] }))

-- a listener that leaves; a connection of another section comes into its slot, in another chain, before the listener's
-- unhash has its end; and a packet that is looked up only then finds the listener
abbrev pub late_script : Script
late_script =
    record {
      header = with_slots 1;
      sections =
          (socket a ∷ commands.Bind a (one 80) ∷ commands.Listen a ∷ commands.Drop a ∷ [])
          ∷ (reusable b ∷ commands.Bind b (one 90) ∷ connect b 80 ∷ [])
          ∷ [];
      capture = None;
    }

abbrev pub late_unhash_a : Change
late_unhash_a = change 1 0 card_a acts.Unhash 2 5

abbrev pub hash_late_b : Change
hash_late_b = change 0 0 (refused.full_card refused.owner_b) acts.Hash 3 4

abbrev pub late_bind_b : Note Entry
late_bind_b = note 3 2 (requests.Bind refused.owner_b) answers.Done

abbrev pub late_connect_b : Note Entry
late_connect_b = note 4 2 (requests.ConnectBound (name_at 2 0) 0x0A000001 0x0A000002 80) answers.Done

abbrev pub late_remove_a : Note Entry
late_remove_a = note 5 1 (requests.Remove (name_at 1 0)) answers.Done

abbrev pub late_race : Race
late_race =
    record first_race {
      shape = record { slots = 1; bind = 1; hash = 1; listen = 1 };
      sections =
          (step (socket a) replies.Ok [] 0 0
          ∷ step (commands.Bind a (one 80)) (replies.Port 80) (entered 80 first_bind ∷ []) 0 0
          ∷ step (commands.Listen a) (replies.Port 80)
          (entered 80 first_may ∷ added card_a (hashed hash_a None) ∷ entered 80 first_listen ∷ []) 0 2
          ∷ step (commands.Drop a) replies.Ok (left late_unhash_a ∷ entered 80 late_remove_a ∷ []) 2 6
          ∷ [])
          ∷ (step (reusable b) replies.Ok [] 0 0
          ∷ step (commands.Bind b (one 90)) (replies.Port 90) (entered 90 late_bind_b ∷ []) 0 0
          ∷ step (connect b 80) (replies.End (one 90))
          (inserted (refused.wished refused.owner_b) (hashed hash_late_b None) ∷ entered 90 late_connect_b ∷ []) 0 6
          ∷ [])
          ∷ [];
      journals = (first_bind ∷ first_may ∷ first_listen ∷ late_bind_b ∷ late_connect_b ∷ late_remove_a ∷ []) ∷ [];
      book = hash_a ∷ hash_late_b ∷ late_unhash_a ∷ [];
      looked = answered (found.Found card_a) 5 6 ∷ [];
      shares = (0 ∷ []) ∷ [];
      counts = 1;
      clock = 6;
    }

abbrev pub FoundTooLate : Type 0
FoundTooLate = ¬ (Lawful late_script one_packet late_race)

-- two full sockets of one four-tuple
abbrev pub twins_script : Script
twins_script =
    record {
      header = with_slots 2;
      sections =
          (reusable a ∷ commands.Bind a (one 90) ∷ connect a 80 ∷ [])
          ∷ (reusable b ∷ commands.Bind b (one 90) ∷ connect b 80 ∷ [])
          ∷ [];
      capture = None;
    }

abbrev pub twin_b : Change
twin_b = change 0 1 (refused.full_card refused.owner_b) acts.Hash 2 3

abbrev pub connect_b : Note Entry
connect_b = note 3 2 (requests.ConnectBound (name_at 2 0) 0x0A000001 0x0A000002 80) answers.Done

abbrev pub twins_race : Race
twins_race =
    record first_race {
      sections =
          (step (reusable a) replies.Ok [] 0 0
          ∷ step (commands.Bind a (one 90)) (replies.Port 90) (entered 90 refused.bind_a ∷ []) 0 0
          ∷ step (connect a 80) (replies.End (one 90))
          (inserted (refused.wished refused.owner_a) (hashed refused.hash_a None) ∷ entered 90 refused.connect_a
          ∷ []) 0 4
          ∷ [])
          ∷ (step (reusable b) replies.Ok [] 0 0
          ∷ step (commands.Bind b (one 90)) (replies.Port 90) (entered 90 refused.bind_b ∷ []) 0 0
          ∷ step (connect b 80) (replies.End (one 90))
          (inserted (refused.wished refused.owner_b) (hashed twin_b None) ∷ entered 90 connect_b ∷ []) 0 4
          ∷ [])
          ∷ [];
      journals = (refused.bind_a ∷ refused.connect_a ∷ refused.bind_b ∷ connect_b ∷ []) ∷ [];
      book = refused.hash_a ∷ twin_b ∷ [];
      clock = 4;
    }

abbrev pub Twins : Type 0
Twins = ¬ (Lawful twins_script no_capture twins_race)

-- a four-tuple that is given though the TIME_WAIT of another socket keeps it
abbrev pub kept_script : Script
kept_script =
    record {
      header = with_slots 3;
      sections =
          (reusable a ∷ commands.Bind a (one 90) ∷ connect a 80 ∷ commands.Close a ∷ reusable b
          ∷ commands.Bind b (one 90) ∷ connect b 80 ∷ [])
          ∷ [];
      capture = None;
    }

-- the TIME_WAIT that a leaves
abbrev pub card_w : Card
card_w = card_as kinds.TimeWait (as_waiting (connected_to refused.owner_a 0x0A000001 (two 80))) 0

abbrev pub owner_again : Owner
owner_again = refused.reusing (name_at 1 1)

abbrev pub hash_w : Change
hash_w = change 0 1 card_w acts.Hash 2 3

abbrev pub unhash_a : Change
unhash_a = change 0 0 (refused.full_card refused.owner_a) acts.Unhash 4 5

abbrev pub hash_kept : Change
hash_kept = change 0 2 (refused.full_card owner_again) acts.Hash 6 7

abbrev pub waits_a : Note Entry
waits_a = note 2 1 (requests.ToTimeWait (name_at 1 0)) answers.Done

abbrev pub bind_again : Note Entry
bind_again = note 3 1 (requests.Bind owner_again) answers.Done

abbrev pub connect_again : Note Entry
connect_again = note 4 1 (requests.ConnectBound (name_at 1 1) 0x0A000001 0x0A000002 80) answers.Done

abbrev pub kept_race : Race
kept_race =
    record first_race {
      shape = record { slots = 3; bind = 1; hash = 1; listen = 1 };
      sections =
          (step (reusable a) replies.Ok [] 0 0
          ∷ step (commands.Bind a (one 90)) (replies.Port 90) (entered 90 refused.bind_a ∷ []) 0 0
          ∷ step (connect a 80) (replies.End (one 90))
          (inserted (refused.wished refused.owner_a) (hashed refused.hash_a None) ∷ entered 90 refused.connect_a
          ∷ []) 0 2
          ∷ step (commands.Close a) replies.TimeWait
          (added card_w (hashed hash_w None) ∷ left unhash_a ∷ entered 90 waits_a ∷ []) 2 6
          ∷ step (reusable b) replies.Ok [] 6 6
          ∷ step (commands.Bind b (one 90)) (replies.Port 90) (entered 90 bind_again ∷ []) 6 6
          ∷ step (connect b 80) (replies.End (one 90))
          (inserted (refused.wished owner_again) (hashed hash_kept None) ∷ entered 90 connect_again ∷ []) 6 8
          ∷ [])
          ∷ [];
      journals = (refused.bind_a ∷ refused.connect_a ∷ waits_a ∷ bind_again ∷ connect_again ∷ []) ∷ [];
      book = refused.hash_a ∷ hash_w ∷ unhash_a ∷ hash_kept ∷ [];
      clock = 8;
    }

abbrev pub GivenThoughKept : Type 0
GivenThoughKept = ¬ (Lawful kept_script no_capture kept_race)

-- a newcomer that leaves the TIME_WAIT of its four-tuple standing, which is reaped later
abbrev pub waiting_race : Race
waiting_race =
    record worked.second_race {
      sections =
          (step (socket a) replies.Ok [] 0 0
          ∷ step (commands.Bind a (one 80)) (replies.Port 80) (entered 80 worked.bind_a ∷ []) 0 0
          ∷ step (commands.Listen a) (replies.Port 80)
          (entered 80 worked.may_a ∷ added card_a (hashed hash_a None) ∷ entered 80 worked.listen_a ∷ []) 0 2
          ∷ step (accept a b) replies.Ok
          (inserted (worked.newcomer worked.card_b) (hashed worked.hash_b None) ∷ entered 80 worked.inherit_b ∷ []) 2 5
          ∷ step (commands.Close b) replies.TimeWait
          (added worked.card_w (hashed worked.hash_w None) ∷ left worked.unhash_b ∷ entered 80 worked.waits_b ∷ []) 5 10
          ∷ step (accept a d) replies.Ok
          (inserted (worked.newcomer card_d) (hashed worked.hash_d None) ∷ entered 80 worked.inherit_d ∷ []) 10 12
          ∷ step (commands.At 60) replies.Ok [] 12 12
          ∷ step commands.Reap (replies.Count 1)
          (reaped worked.card_w (Some worked.unhash_w) ∷ entered 80 worked.gone_b ∷ []) 12 14
          ∷ [])
          ∷ (step (socket e) replies.Ok [] 0 0
          ∷ step (commands.Bind e (any 90)) (replies.Port 90) (entered 90 worked.bind_e ∷ []) 0 0
          ∷ step (commands.Listen e) (replies.Port 90)
          (entered 90 worked.may_e ∷ added card_e (hashed worked.hash_e None) ∷ entered 90 worked.listen_e ∷ []) 0 14
          ∷ [])
          ∷ [];
    }

abbrev pub WaitLeftStanding : Type 0
WaitLeftStanding = ¬ (Lawful worked.second_script worked.second_capture waiting_race)

-- a four-tuple that was refused before whoever is said to keep it stood
abbrev pub soon_script : Script
soon_script =
    record {
      header = with_slots 2;
      sections =
          (reusable a ∷ commands.Bind a (one 90) ∷ connect a 80 ∷ [])
          ∷ (reusable b ∷ commands.Bind b (one 90) ∷ connect b 80 ∷ [])
          ∷ [];
      capture = None;
    }

abbrev pub soon_race : Race
soon_race =
    record first_race {
      sections =
          (step (reusable a) replies.Ok [] 0 0
          ∷ step (commands.Bind a (one 90)) (replies.Port 90) (entered 90 refused.bind_a ∷ []) 0 0
          ∷ step (connect a 80) (replies.End (one 90))
          (inserted (refused.wished refused.owner_a) (hashed refused.hash_a None) ∷ entered 90 refused.connect_a
          ∷ []) 0 2
          ∷ [])
          ∷ (step (reusable b) replies.Ok [] 0 0
          ∷ step (commands.Bind b (one 90)) (replies.Port 90) (entered 90 refused.bind_b ∷ []) 0 0
          ∷ step (connect b 80) replies.Eaddrnotavail
          (inserted (refused.wished refused.owner_b) (kept_out (name_at 1 0)) ∷ []) 0 1
          ∷ [])
          ∷ [];
      journals = (refused.bind_a ∷ refused.connect_a ∷ refused.bind_b ∷ []) ∷ [];
      book = refused.hash_a ∷ [];
    }

abbrev pub RefusedTooSoon : Type 0
RefusedTooSoon = ¬ (Lawful soon_script no_capture soon_race)

-- slots that are said to be held by lookups alone, though nothing was looked up
abbrev pub held_race : Race
held_race =
    record first_race {
      sections =
          (step (socket a) replies.Ok [] 0 0
          ∷ step (commands.Bind a (one 80)) (replies.Port 80) (entered 80 first_bind ∷ []) 0 0
          ∷ step (commands.Listen a) (replies.Enfile 0 2)
          (entered 80 first_may ∷ added card_a (no_slot 0 0 2) ∷ []) 0 1
          ∷ [])
          ∷ [];
      journals = (first_bind ∷ first_may ∷ []) ∷ [];
      book = [];
      counts = 1;
      sightings = record { slot = 0; since = 1; until = 1 } ∷ record { slot = 1; since = 1; until = 1 } ∷ [];
      clock = 1;
    }

abbrev pub HeldByNobody : Type 0
HeldByNobody = ¬ (Lawful first_script no_capture held_race)

-- a number of the clock that two changes have
abbrev pub pair_script : Script
pair_script =
    record {
      header = with_slots 2;
      sections =
          (socket a ∷ commands.Bind a (one 80) ∷ commands.Listen a ∷ [])
          ∷ (socket e ∷ commands.Bind e (any 90) ∷ commands.Listen e ∷ [])
          ∷ [];
      capture = None;
    }

abbrev pub hash_e : Change
hash_e = change 1 1 card_e acts.Hash 1 3

abbrev pub bind_e : Note Entry
bind_e = note 3 2 (requests.Bind owner_e) answers.Done

abbrev pub may_e : Note Entry
may_e = note 4 2 (requests.MayListen (name_at 2 0)) (answers.Group None)

abbrev pub listen_e : Note Entry
listen_e = note 5 2 (requests.Listen (name_at 2 0) 1) answers.Done

abbrev pub pair_race : Race
pair_race =
    record first_race {
      sections =
          first_race.sections
          ++ (step (socket e) replies.Ok [] 0 0
          ∷ step (commands.Bind e (any 90)) (replies.Port 90) (entered 90 bind_e ∷ []) 0 0
          ∷ step (commands.Listen e) (replies.Port 90)
          (entered 90 may_e ∷ added card_e (hashed hash_e None) ∷ entered 90 listen_e ∷ []) 0 4
          ∷ [])
          ∷ [];
      journals = (first_bind ∷ first_may ∷ first_listen ∷ bind_e ∷ may_e ∷ listen_e ∷ []) ∷ [];
      book = hash_a ∷ hash_e ∷ [];
      clock = 4;
    }

abbrev pub StampTwice : Type 0
StampTwice = ¬ (Lawful pair_script no_capture pair_race)

-- an unhash that takes out another's card
abbrev pub drop_script : Script
drop_script =
    record {
      header = with_slots 2;
      sections = (socket a ∷ commands.Bind a (one 80) ∷ commands.Listen a ∷ commands.Drop a ∷ []) ∷ [];
      capture = None;
    }

abbrev pub unhash_other : Change
unhash_other = change 1 0 card_e acts.Unhash 2 3

abbrev pub remove_a : Note Entry
remove_a = note 3 1 (requests.Remove (name_at 1 0)) answers.Done

abbrev pub drop_race : Race
drop_race =
    record first_race {
      sections = and_then (step (commands.Drop a) replies.Ok (left unhash_other ∷ entered 80 remove_a ∷ []) 2 4);
      journals = (first_bind ∷ first_may ∷ first_listen ∷ remove_a ∷ []) ∷ [];
      book = hash_a ∷ unhash_other ∷ [];
      clock = 4;
    }

abbrev pub AnothersCard : Type 0
AnothersCard = ¬ (Lawful drop_script no_capture drop_race)

-- a slot that is said to be owned where none was free, though its socket had gone before the search
abbrev pub gone_script : Script
gone_script =
    record {
      header = with_slots 1;
      sections =
          (socket a ∷ commands.Bind a (one 80) ∷ commands.Listen a ∷ commands.Drop a ∷ [])
          ∷ (socket e ∷ commands.Bind e (any 90) ∷ commands.Listen e ∷ [])
          ∷ [];
      capture = None;
    }

abbrev pub unhash_gone : Change
unhash_gone = change 1 0 card_a acts.Unhash 2 3

abbrev pub bind_later : Note Entry
bind_later = note 4 2 (requests.Bind owner_e) answers.Done

abbrev pub may_later : Note Entry
may_later = note 5 2 (requests.MayListen (name_at 2 0)) (answers.Group None)

abbrev pub gone_race : Race
gone_race =
    record first_race {
      shape = record { slots = 1; bind = 1; hash = 1; listen = 1 };
      sections =
          and_then (step (commands.Drop a) replies.Ok (left unhash_gone ∷ entered 80 remove_a ∷ []) 2 4)
          ++ (step (socket e) replies.Ok [] 0 0
          ∷ step (commands.Bind e (any 90)) (replies.Port 90) (entered 90 bind_later ∷ []) 0 0
          ∷ step (commands.Listen e) (replies.Enfile 1 0)
          (entered 90 may_later ∷ added card_e (no_slot 4 1 0) ∷ []) 0 5
          ∷ [])
          ∷ [];
      journals = (first_bind ∷ first_may ∷ first_listen ∷ remove_a ∷ bind_later ∷ may_later ∷ []) ∷ [];
      book = hash_a ∷ unhash_gone ∷ [];
      clock = 5;
    }

abbrev pub OwnedBefore : Type 0
OwnedBefore = ¬ (Lawful gone_script no_capture gone_race)

-- a step that claims to have begun before what its worker drew
abbrev pub at_script : Script
at_script =
    record {
      header = with_slots 2;
      sections = (socket a ∷ commands.Bind a (one 80) ∷ commands.Listen a ∷ commands.At 5 ∷ []) ∷ [];
      capture = None;
    }

abbrev pub BeganBefore : Type 0
BeganBefore =
    ¬ (Lawful at_script no_capture (record first_race { sections = and_then (step (commands.At 5) replies.Ok [] 0 2) }))

-- a dump that lists nothing while the listener stood
abbrev pub ListsNothing : Type 0
ListsNothing = ¬ (Lawful dump_script no_capture (record first_race { sections = and_then (listing [] 2 2) }))

-- one that claims to have listed from before its command began
abbrev pub ListsBefore : Type 0
ListsBefore = ¬ (Lawful dump_script no_capture (record first_race { sections = and_then (listing (card_a ∷ []) 1 2) }))

-- one that lists nothing, as if it had been before the listener came, though the dump before it lists that
abbrev pub dumps_script : Script
dumps_script =
    record {
      header = with_slots 2;
      sections =
          (socket a ∷ commands.Bind a (one 80) ∷ commands.Listen a ∷ [])
          ∷ (commands.Dump ∷ commands.Dump ∷ [])
          ∷ [];
      capture = None;
    }

abbrev pub listing_from_to : List Card → ℕ → ℕ → Step
listing_from_to cards from to =
    record (listing cards from to) { from = from; to = to }

abbrev pub dumps_race : List Step → Race
dumps_race dumps = record first_race { sections = first_race.sections ++ dumps ∷ [] }

abbrev pub ListsBackwards : Type 0
ListsBackwards =
    ¬ (Lawful dumps_script no_capture
    (dumps_race (listing_from_to (card_a ∷ []) 0 2 ∷ listing_from_to [] 0 0 ∷ [])))

-- one that lists neither a connection nor the TIME_WAIT that it left, while that is being done
abbrev pub closing_script : Script
closing_script =
    record {
      header = with_slots 3;
      sections =
          (reusable a ∷ commands.Bind a (one 90) ∷ connect a 80 ∷ commands.Close a ∷ []) ∷ (commands.Dump ∷ []) ∷ [];
      capture = None;
    }

abbrev pub closing_race : Race
closing_race =
    record kept_race {
      sections =
          (step (reusable a) replies.Ok [] 0 0
          ∷ step (commands.Bind a (one 90)) (replies.Port 90) (entered 90 refused.bind_a ∷ []) 0 0
          ∷ step (connect a 80) (replies.End (one 90))
          (inserted (refused.wished refused.owner_a) (hashed refused.hash_a None) ∷ entered 90 refused.connect_a
          ∷ []) 0 2
          ∷ step (commands.Close a) replies.TimeWait
          (added card_w (hashed hash_w None) ∷ left unhash_a ∷ entered 90 waits_a ∷ []) 2 6
          ∷ [])
          ∷ (listing_from_to [] 2 6 ∷ [])
          ∷ [];
      journals = (refused.bind_a ∷ refused.connect_a ∷ waits_a ∷ []) ∷ [];
      book = refused.hash_a ∷ hash_w ∷ unhash_a ∷ [];
      clock = 6;
    }

abbrev pub ListsNeither : Type 0
ListsNeither = ¬ (Lawful closing_script no_capture closing_race)

-- one that lists a connection and not the listener, whose chain it lists later and which came before
abbrev pub later_script : Script
later_script =
    record {
      header = with_slots 2;
      sections =
          (socket a ∷ commands.Bind a (one 80) ∷ commands.Listen a ∷ [])
          ∷ (reusable b ∷ commands.Bind b (one 90) ∷ connect b 80 ∷ [])
          ∷ (commands.Dump ∷ [])
          ∷ [];
      capture = None;
    }

abbrev pub bind_third : Note Entry
bind_third = note 3 2 (requests.Bind refused.owner_b) answers.Done

abbrev pub connect_third : Note Entry
connect_third = note 4 2 (requests.ConnectBound (name_at 2 0) 0x0A000001 0x0A000002 80) answers.Done

abbrev pub later_race : Race
later_race =
    record first_race {
      sections =
          first_race.sections
          ++ (step (reusable b) replies.Ok [] 0 0
          ∷ step (commands.Bind b (one 90)) (replies.Port 90) (entered 90 bind_third ∷ []) 0 0
          ∷ step (connect b 80) (replies.End (one 90))
          (inserted (refused.wished refused.owner_b) (hashed twin_b None) ∷ entered 90 connect_third ∷ []) 0 4
          ∷ [])
          ∷ (listing_from_to (refused.full_card refused.owner_b ∷ []) 0 4 ∷ [])
          ∷ [];
      journals = (first_bind ∷ first_may ∷ first_listen ∷ bind_third ∷ connect_third ∷ []) ∷ [];
      book = hash_a ∷ twin_b ∷ [];
      clock = 4;
    }

abbrev pub ListsOutOfOrder : Type 0
ListsOutOfOrder = ¬ (Lawful later_script no_capture later_race)

-- a handshake whose request was unhashed before the child was hashed, where `ack` did that
abbrev pub unhash_early : Change
unhash_early = change 0 1 card_r acts.Unhash 4 5

abbrev pub hash_late : Change
hash_late = change 0 2 card_d acts.Hash 6 7

abbrev pub early_race : List Deed → Race
early_race deeds =
    record handshake_race { sections = acknowledged_by deeds; book = hash_a ∷ hash_r ∷ unhash_early ∷ hash_late ∷ [] }

-- one that is recorded in the order of the numbers
abbrev pub UnhashedFirst : Type 0
UnhashedFirst =
    ¬ (Lawful handshake_script handshake_capture
    (early_race (left unhash_early ∷ added card_d (hashed hash_late None) ∷ entered 80 inherit_child ∷ [])))

-- one that is recorded as if the child had been hashed first
abbrev pub NumberedFirst : Type 0
NumberedFirst =
    ¬ (Lawful handshake_script handshake_capture
    (early_race (added card_d (hashed hash_late None) ∷ left unhash_early ∷ entered 80 inherit_child ∷ [])))

-- a packet that found the listener while a request of its four-tuple stood
abbrev pub FoundListener : Type 0
FoundListener =
    ¬ (Lawful handshake_script handshake_capture
    (record handshake_race { looked = found_by_two (found.Found card_a) (found.Found card_d) }))

-- one that was given up in the listener's chain meanwhile
abbrev pub GivenUpLater : Type 0
GivenUpLater =
    ¬ (Lawful handshake_script handshake_capture
    (record handshake_race { looked = found_by_two (found.Again 1 (ends.Foreign 0)) (found.Found card_d) }))
