-- Worked records: one listener by itself, the same with a dump, two sections beside each other, and a handshake.
-- Our own.
--
-- To be read from the records: `first_race`, `dump_race`, `second_race` and `handshake_race`, each below the parts of
-- which it is made. The laws of src/rows.rt state that they are lawful.
use Rattle.std.specs.Prelude.{ℕ, false, true, List, [], ◌∷◌, None, Some}
use Rattle.sock_card.specs.declared.owner.Owner.{Owner}
use Rattle.sock_card.specs.declared.card.Card.{Card}
use Rattle.sock_card.specs.declared.card.Kind.TheVariants as kinds
use Rattle.sock_card.specs.declared.card.Packet.{Packet}
use Rattle.turn_table.specs.declared.note.Note.{Note}
use Rattle.bind_buckets.specs.declared.request.Entry.{Entry}
use Rattle.bind_buckets.specs.declared.request.Request.{Request}
use Rattle.bind_buckets.specs.declared.request.Request.TheVariants as requests
use Rattle.bind_buckets.specs.declared.request.Answer.{Answer}
use Rattle.bind_buckets.specs.declared.request.Answer.TheVariants as answers
use Rattle.capture_reader.specs.declared.packet.Item.TheVariants as items
use Rattle.capture_reader.specs.Captures.{Capture}
use Rattle.chain_book.specs.declared.book.Act.{Act}
use Rattle.chain_book.specs.declared.book.Act.TheVariants as acts
use Rattle.chain_book.specs.declared.book.Change.{Change}
use Rattle.chain_book.specs.declared.book.PacketAnswer.{PacketAnswer}
use Rattle.chain_book.specs.declared.book.PassEnd.TheVariants as ends
use Rattle.chain_book.specs.declared.book.PacketAnswer.TheVariants as found
use Rattle.chain_book.specs.declared.book.Receipt.{Receipt}
use Rattle.chain_book.specs.declared.outcome.Replace.TheVariants as rules
use Rattle.sock_card.specs.Became.{as_listener, as_waiting}
use Rattle.flat_list.specs.declared.command.Command.{Command}
use Rattle.flat_list.specs.declared.command.Command.TheVariants as commands
use Rattle.flat_list.specs.declared.command.Reply.{Reply}
use Rattle.flat_list.specs.declared.command.Reply.TheVariants as replies
use Rattle.flat_list.specs.Owned.{new_owner, bound_at, child_owner, request_owner, card_as}
use Rattle.flat_list.specs.Rows.{with_slots, plain, a, b, d, e, r, any, one, two, socket, accept, syn}
use Rattle.flat_list.specs.Script.{Script}
use Rattle.flat_list.specs.Sections.{name_at}
use Rattle.race_record.specs.declared.record.Looked.{Looked}
use Rattle.race_record.specs.declared.record.Looked.TheVariants as looks
use Rattle.race_record.specs.Deeds.{Wish, hashed, Deed, entered, inserted, added, left, reaped}
use Rattle.race_record.specs.Record.{Race, Step}

abbrev pub note : ℕ → ℕ → Request → Answer → Note Entry
note number caller request answer =
    record { number = number; caller = caller; entry = record { request = request; answer = answer } }

abbrev pub change : ℕ → ℕ → Card → Act → ℕ → ℕ → Change
change bucket slot card act begin end =
    record { bucket = bucket; slot = slot; card = card; act = act; begin = begin; end = end }

abbrev pub step : Command → Reply → List Deed → ℕ → ℕ → Step
step command reply deeds from to =
    record { command = command; reply = reply; deeds = deeds; listings = []; from = from; to = to }

-- the owner that a socket of that name is once it is bound to that end
abbrev pub bound : ℕ → ℕ → ℕ → Owner
bound name addr port =
    bound_at (new_owner name 0 plain) addr port

-- the listener of section 1, and its hash
abbrev pub owner_a : Owner
owner_a = bound (name_at 1 0) 0x0A000001 80

abbrev pub card_a : Card
card_a = card_as kinds.Listen (as_listener owner_a) 0

abbrev pub hash_a : Change
hash_a = change 1 0 card_a acts.Hash 0 1

-- One listener by itself, in tables of two slots.
abbrev pub first_script : Script
first_script =
    record {
      header = with_slots 2;
      sections = (socket a ∷ commands.Bind a (one 80) ∷ commands.Listen a ∷ []) ∷ [];
      capture = None;
    }

abbrev pub no_capture : Capture
no_capture = record { items = []; cut = false }

abbrev pub first_bind : Note Entry
first_bind = note 0 1 (requests.Bind owner_a) answers.Done

abbrev pub first_may : Note Entry
first_may = note 1 1 (requests.MayListen (name_at 1 0)) (answers.Group None)

abbrev pub first_listen : Note Entry
first_listen = note 2 1 (requests.Listen (name_at 1 0) 0) answers.Done

abbrev pub first_race : Race
first_race =
    record {
      lookers = 1;
      passes = 1;
      shape = record { slots = 2; bind = 1; hash = 1; listen = 1 };
      seed = 0;
      sections =
          (step (socket a) replies.Ok [] 0 0
          ∷ step (commands.Bind a (one 80)) (replies.Port 80) (entered 80 first_bind ∷ []) 0 0
          ∷ step (commands.Listen a) (replies.Port 80)
          (entered 80 first_may ∷ added card_a (hashed hash_a None) ∷ entered 80 first_listen ∷ []) 0 2
          ∷ [])
          ∷ [];
      journals = (first_bind ∷ first_may ∷ first_listen ∷ []) ∷ [];
      book = hash_a ∷ [];
      looked = [];
      shares = [] ∷ [];
      cut = false;
      counts = 0;
      sightings = [];
      clock = 2;
    }

-- The same listener, and then a dump.
abbrev pub dump_script : Script
dump_script =
    record {
      header = with_slots 2;
      sections = (socket a ∷ commands.Bind a (one 80) ∷ commands.Listen a ∷ commands.Dump ∷ []) ∷ [];
      capture = None;
    }

-- the steps of the listener, and one more
abbrev pub and_then : Step → List (List Step)
and_then last =
    (step (socket a) replies.Ok [] 0 0
    ∷ step (commands.Bind a (one 80)) (replies.Port 80) (entered 80 first_bind ∷ []) 0 0
    ∷ step (commands.Listen a) (replies.Port 80)
    (entered 80 first_may ∷ added card_a (hashed hash_a None) ∷ entered 80 first_listen ∷ []) 0 2
    ∷ last
    ∷ [])
    ∷ []

-- a dump after the listener came, that lists these cards between two loads of the clock
abbrev pub listing : List Card → ℕ → ℕ → Step
listing cards t0 t1 =
    record {
      command = commands.Dump;
      reply = replies.Ok;
      deeds = [];
      listings = record { cards = cards; span = Some (record { t0 = t0; t1 = t1 }) } ∷ [];
      from = 2;
      to = 2;
    }

abbrev pub dump_race : Race
dump_race = record first_race { sections = and_then (listing (card_a ∷ []) 2 2) }

-- Two sections beside each other: the first accepts a connection, closes it, and accepts one of the same four-tuple,
-- which replaces the TIME_WAIT, so that none is left to be reaped; the other listens meanwhile. Of the packets one
-- goes to the second listener while it is being hashed, and the others to the connections: one finds the newcomer, and
-- three are given up, since the newcomer came into the slot that the first connection had left.
abbrev pub second_script : Script
second_script =
    record {
      header = with_slots 4;
      sections =
          (socket a ∷ commands.Bind a (one 80) ∷ commands.Listen a ∷ accept a b ∷ commands.Close b ∷ accept a d
          ∷ commands.At 60 ∷ commands.Reap ∷ [])
          ∷ (socket e ∷ commands.Bind e (any 90) ∷ commands.Listen e ∷ [])
          ∷ [];
      capture = None;
    }

abbrev pub packet : ℕ → ℕ → Packet
packet dst dport = record { src = 0x0A000002; sport = 1000; dst = dst; dport = dport; dev = 0; net = 0 }

abbrev pub second_capture : Capture
second_capture =
    record {
      items =
          items.Packet (packet 0x0A000001 80) ∷ items.Packet (packet 0x0A000009 90)
          ∷ items.Packet (packet 0x0A000001 80) ∷ items.Packet (packet 0x0A000001 80)
          ∷ items.Packet (packet 0x0A000001 80) ∷ items.Skip ∷ [];
      cut = true;
    }

abbrev pub owner_b : Owner
owner_b = child_owner (as_listener owner_a) (name_at 1 1) 0 (two 1000) (one 80)

abbrev pub owner_d : Owner
owner_d = child_owner (as_listener owner_a) (name_at 1 2) 0 (two 1000) (one 80)

abbrev pub owner_e : Owner
owner_e = bound (name_at 2 0) 0 90

abbrev pub card_b : Card
card_b = card_as kinds.Full owner_b 0

-- the TIME_WAIT that b leaves
abbrev pub card_w : Card
card_w = card_as kinds.TimeWait (as_waiting owner_b) 0

abbrev pub card_d : Card
card_d = card_as kinds.Full owner_d 0

abbrev pub card_e : Card
card_e = card_as kinds.Listen (as_listener owner_e) 0

abbrev pub hash_b : Change
hash_b = change 0 1 card_b acts.Hash 2 4

abbrev pub hash_e : Change
hash_e = change 1 2 card_e acts.Hash 3 5

abbrev pub hash_w : Change
hash_w = change 0 3 card_w acts.Hash 6 7

abbrev pub unhash_b : Change
unhash_b = change 0 1 card_b acts.Unhash 8 9

abbrev pub hash_d : Change
hash_d = change 0 1 card_d acts.Hash 10 11

abbrev pub unhash_w : Change
unhash_w = change 0 3 card_w acts.Unhash 12 13

abbrev pub bind_a : Note Entry
bind_a = note 0 1 (requests.Bind owner_a) answers.Done

abbrev pub may_a : Note Entry
may_a = note 1 1 (requests.MayListen (name_at 1 0)) (answers.Group None)

abbrev pub bind_e : Note Entry
bind_e = note 2 2 (requests.Bind owner_e) answers.Done

abbrev pub listen_a : Note Entry
listen_a = note 3 1 (requests.Listen (name_at 1 0) 0) answers.Done

abbrev pub may_e : Note Entry
may_e = note 4 2 (requests.MayListen (name_at 2 0)) (answers.Group None)

abbrev pub inherit_b : Note Entry
inherit_b = note 5 1 (requests.Inherit (name_at 1 0) (name_at 1 1) 0 0x0A000001 0x0A000002 1000) answers.Done

abbrev pub listen_e : Note Entry
listen_e = note 6 2 (requests.Listen (name_at 2 0) 2) answers.Done

abbrev pub waits_b : Note Entry
waits_b = note 7 1 (requests.ToTimeWait (name_at 1 1)) answers.Done

abbrev pub inherit_d : Note Entry
inherit_d = note 8 1 (requests.Inherit (name_at 1 0) (name_at 1 2) 0 0x0A000001 0x0A000002 1000) answers.Done

abbrev pub gone_b : Note Entry
gone_b = note 9 1 (requests.RemoveWaiting (name_at 1 1)) answers.Done

-- a newcomer to a listener, as `accept` and `syn` hash it
abbrev pub newcomer : Card → Wish
newcomer card = record { card = card; moment = 0; rule = rules.Always }

abbrev pub receipt : Packet → PacketAnswer → ℕ → ℕ → Receipt
receipt packet answer t0 t1 = record { packet = packet; seed = 0; answer = answer; t0 = t0; t1 = t1 }

abbrev pub second_race : Race
second_race =
    record {
      lookers = 5;
      passes = 1;
      shape = record { slots = 4; bind = 1; hash = 1; listen = 1 };
      seed = 0;
      sections =
          (step (socket a) replies.Ok [] 0 0
          ∷ step (commands.Bind a (one 80)) (replies.Port 80) (entered 80 bind_a ∷ []) 0 0
          ∷ step (commands.Listen a) (replies.Port 80)
          (entered 80 may_a ∷ added card_a (hashed hash_a None) ∷ entered 80 listen_a ∷ []) 0 2
          ∷ step (accept a b) replies.Ok
          (inserted (newcomer card_b) (hashed hash_b None) ∷ entered 80 inherit_b ∷ []) 2 5
          ∷ step (commands.Close b) replies.TimeWait
          (added card_w (hashed hash_w None) ∷ left unhash_b ∷ entered 80 waits_b ∷ []) 5 10
          ∷ step (accept a d) replies.Ok
          (inserted (newcomer card_d) (hashed hash_d (Some unhash_w)) ∷ entered 80 inherit_d ∷ entered 80 gone_b
          ∷ []) 10 14
          ∷ step (commands.At 60) replies.Ok [] 14 14
          ∷ step commands.Reap (replies.Count 0) (reaped card_w None ∷ []) 14 14
          ∷ [])
          ∷ (step (socket e) replies.Ok [] 0 0
          ∷ step (commands.Bind e (any 90)) (replies.Port 90) (entered 90 bind_e ∷ []) 0 0
          ∷ step (commands.Listen e) (replies.Port 90)
          (entered 90 may_e ∷ added card_e (hashed hash_e None) ∷ entered 90 listen_e ∷ []) 0 14
          ∷ [])
          ∷ [];
      journals =
          (bind_a ∷ may_a ∷ bind_e ∷ listen_a ∷ may_e ∷ inherit_b ∷ listen_e ∷ waits_b ∷ inherit_d ∷ gone_b ∷ []) ∷ [];
      book = hash_a ∷ hash_b ∷ hash_w ∷ unhash_b ∷ hash_d ∷ unhash_w ∷ hash_e ∷ [];
      looked =
          looks.Answered (receipt (packet 0x0A000001 80) (found.Found card_d) 9 11)
          ∷ looks.Answered (receipt (packet 0x0A000009 90) found.None 4 6)
          ∷ looks.Answered (receipt (packet 0x0A000001 80) (found.Again 0 (ends.Changed 1)) 8 11)
          ∷ looks.Answered (receipt (packet 0x0A000001 80) (found.Again 0 (ends.Foreign 1)) 4 11)
          ∷ looks.Answered (receipt (packet 0x0A000001 80) (found.Again 0 (ends.Long 5)) 8 11)
          ∷ looks.Skip
          ∷ [];
      shares = (0 ∷ 5 ∷ []) ∷ (1 ∷ []) ∷ (2 ∷ []) ∷ (3 ∷ []) ∷ (4 ∷ []) ∷ [];
      cut = true;
      counts = 1;
      sightings = [];
      clock = 14;
    }

-- A handshake with the listener of section 1, by itself: the request is hashed, then the child, and then the request
-- is unhashed. Of two packets of its four-tuple one comes before that and finds the request, the other comes after
-- the child was hashed and finds that.
abbrev pub handshake_script : Script
handshake_script =
    record {
      header = with_slots 4;
      sections =
          (socket a ∷ commands.Bind a (one 80) ∷ commands.Listen a ∷ syn a r ∷ commands.Ack r d ∷ []) ∷ [];
      capture = None;
    }

abbrev pub handshake_capture : Capture
handshake_capture =
    record { items = items.Packet (packet 0x0A000001 80) ∷ items.Packet (packet 0x0A000001 80) ∷ []; cut = false }

abbrev pub card_r : Card
card_r = card_as kinds.Request (request_owner (as_listener owner_a) (name_at 1 1) 0 (two 1000) (one 80)) 0

abbrev pub hash_r : Change
hash_r = change 0 1 card_r acts.Hash 2 3

abbrev pub hash_child : Change
hash_child = change 0 2 card_d acts.Hash 4 5

abbrev pub unhash_r : Change
unhash_r = change 0 1 card_r acts.Unhash 6 7

abbrev pub inherit_child : Note Entry
inherit_child = note 3 1 (requests.Inherit (name_at 1 0) (name_at 1 2) 0 0x0A000001 0x0A000002 1000) answers.Done

-- the steps of the handshake, where `ack` did that
abbrev pub acknowledged_by : List Deed → List (List Step)
acknowledged_by deeds =
    (step (socket a) replies.Ok [] 0 0
    ∷ step (commands.Bind a (one 80)) (replies.Port 80) (entered 80 first_bind ∷ []) 0 0
    ∷ step (commands.Listen a) (replies.Port 80)
    (entered 80 first_may ∷ added card_a (hashed hash_a None) ∷ entered 80 first_listen ∷ []) 0 2
    ∷ step (syn a r) replies.Ok (inserted (newcomer card_r) (hashed hash_r None) ∷ []) 2 4
    ∷ step (commands.Ack r d) replies.Ok deeds 4 8
    ∷ [])
    ∷ []

-- what the two packets found
abbrev pub found_by_two : PacketAnswer → PacketAnswer → List Looked
found_by_two first second =
    looks.Answered (receipt (packet 0x0A000001 80) first 4 6)
    ∷ looks.Answered (receipt (packet 0x0A000001 80) second 6 8)
    ∷ []

abbrev pub handshake_race : Race
handshake_race =
    record {
      lookers = 1;
      passes = 1;
      shape = record { slots = 4; bind = 1; hash = 1; listen = 1 };
      seed = 0;
      sections = acknowledged_by (added card_d (hashed hash_child None) ∷ left unhash_r ∷ entered 80 inherit_child
          ∷ []);
      journals = (first_bind ∷ first_may ∷ first_listen ∷ inherit_child ∷ []) ∷ [];
      book = hash_a ∷ hash_r ∷ hash_child ∷ unhash_r ∷ [];
      looked = found_by_two (found.Found card_r) (found.Found card_d);
      shares = (0 ∷ 1 ∷ []) ∷ [];
      cut = false;
      counts = 0;
      sightings = [];
      clock = 8;
    }
