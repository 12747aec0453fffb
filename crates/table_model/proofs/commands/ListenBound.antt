-- `listen` of a bound socket, on tables that mean a list: it listens as the list's does, or is refused as that is.
use Rattle.std.proofs.Common.{◌≡◌, ◌≢◌, ℕ, ◌+◌, ◌/◌, ◌%◌, ◌^◌, ◌≤◌, ◌<◌, Bool, true, false, ◌&&◌, not, cond, ltb, List, [], ◌∷◌, length, find, Option, Some, None, ◌⊎◌, inl, inr, refl, ap, sym, ◌∙◌, subst, arith, get_or}
use Rattle.std.specs.Option.{option_map_or}
use Rattle.std.proofs.lemmas.Bool.{cond-true, cond-false, lt-ltb, eqb-false, cases_Bool}
use Rattle.std.proofs.lemmas.List.{get_or-set_same, length-set}
use Rattle.list_words.specs.Lists.{Each, Pairs, total}
use Rattle.list_words.proofs.EachLemmas.{each_weaken}
use Rattle.sock_card.specs.Limits.{group_room}
use Rattle.sock_card.specs.declared.card.Card.{Card}
use Rattle.sock_card.specs.declared.card.Kind.{Kind}
use Rattle.sock_card.specs.declared.card.Kind.TheVariants as kinds
use Rattle.sock_card.specs.declared.owner.Owner.{Owner}
use Rattle.sock_card.specs.declared.owner.State.TheVariants as states
use Rattle.sock_card.specs.Conflict.{owner_key, is_time_wait, is_listening}
use Rattle.bind_buckets.specs.declared.request.Answer.{Answer}
use Rattle.bind_buckets.specs.declared.request.Answer.TheVariants as answers
use Rattle.bind_buckets.specs.declared.request.Request.TheVariants as requests
use Rattle.bind_buckets.specs.Journal.{Standing, asked}
use Rattle.bind_buckets.specs.Members.{member}
use Rattle.bind_buckets.specs.OwnerStep.{Held, listener_answer, group_answer, group_number, place_for, members_at}
use Rattle.chain_book.specs.declared.shape.Shape.{Shape}
use Rattle.chain_book.specs.Chains.{Chains, placed, slot_outcome, hashed, home_in}
use Rattle.chain_book.specs.Homes.{home}
use Rattle.chain_book.specs.Slots.{free_slot}
use Rattle.flat_list.specs.declared.command.Reply.TheVariants as replies
use Rattle.flat_list.specs.declared.header.Header.{Header}
use Rattle.flat_list.specs.declared.socket.Socket.{Socket}
use Rattle.flat_list.specs.Flat.{Flat}
use Rattle.flat_list.specs.Groups.{Group, has_member, join}
use Rattle.flat_list.specs.Look.{extra_as}
use Rattle.flat_list.specs.Outcome.{Outcome, changed, unchanged, has_slot}
use Rattle.flat_list.specs.Sockets.{has_name, is_owner, is_refused, kind_of, put, mate_of, is_open_in}
use Rattle.flat_list.specs.Sound.{IsSound, NamesDiffer}
use Rattle.flat_list.specs.Step.{listening, groups_with, listen_as, listen_bound}
use Rattle.table_model.specs.declared.operation.OpEnd.{OpEnd}
use Rattle.table_model.specs.declared.operation.OpEnd.TheVariants as errors
use Rattle.table_model.specs.Asking.{Asking, ends}
use Rattle.table_model.specs.Tables.{Tables, with_chains, with_buckets, run}
use Rattle.bind_buckets.specs.BindHash.{asked_at, answer_at, standing_at, untouched}
use Rattle.bind_buckets.proofs.Told.{listens_held}
use Rattle.table_model.specs.Own.{Own, Mine, card_of, with_socket}
use Rattle.table_model.specs.Operations.{Did, done, listener, give_up, listen_hashed, listens_in, listen_answered, listen_at, when_done}
use Rattle.table_model.specs.Commands.{bind_error}
use Rattle.table_model.specs.Means.{OwnersMean, ChainsMean, GroupsMean, OwnMeans, Means, StandsAs, stands_in_some}
use Rattle.table_model.proofs.lists.Passing.{total_each}
use Rattle.table_model.proofs.parts.Chains.{means, weighing, weighs_same, home_below}
use Rattle.table_model.proofs.parts.Cards.{card_weight, weigh_as, cards_weigh}
use Rattle.table_model.proofs.questions.Inserts.{room_found, room_none, added_holds}
use Rattle.table_model.proofs.parts.Places.{stand_placed, stand_new}
use Rattle.table_model.proofs.parts.MemberPlaces.{some_placed}
use Rattle.table_model.proofs.parts.Buckets.{near}
use Rattle.table_model.proofs.lists.Listed.{Listed, put_weighs}
use Rattle.table_model.proofs.parts.Own.{own_put, only_listed}
use Rattle.table_model.proofs.questions.Requests.{Left, MayTry, IsInUse, may_listen_asked, listen_means, listen_answer}
use Rattle.table_model.proofs.parts.GroupCards.{extra_of}
use Rattle.table_model.proofs.parts.Groups.{groups_stay, stands_new}
use Rattle.table_model.proofs.questions.WhichGroup.{Decided, room, none, HasNone, group_at, decided, in_no_group}
use Rattle.table_model.proofs.questions.GroupRequests.{listened, listened_alone}
use Rattle.table_model.proofs.parts.OwnGoes.{section_is}
use Rattle.table_model.proofs.commands.Gone.{weight_same}

-- the bucket of a port holds then what it held
held_same : (buckets : List Standing) (port name : ℕ) → port % length buckets < length buckets → (standing_at (asked_at buckets port (requests.MayListen name)) port).held ≡ (standing_at buckets port).held
held_same buckets port name inside =
    let number : ℕ = port % length buckets in
    let new : Standing = asked number (standing_at buckets port) (requests.MayListen name) in
    ap (λ (k : ℕ). (get_or (asked_at buckets port (requests.MayListen name)) (port % k) untouched).held) (length-set buckets number new)
    ∙ (ap (λ (x : Standing). x.held) (get_or-set_same buckets number new untouched inside) ∙ listens_held number (standing_at buckets port).held name)

none_extra : (name : ℕ) (groups : List Group) → Each (λ g. has_member name g ≡ false) groups → extra_of name groups ≡ 0
none_extra name [] h = refl
none_extra name (g ∷ groups) h =
    ap (λ o. option_map_or (λ (y : Group). y.number + 1) o 0) (cond-false (has_member name g) (Some g) (find (has_member name) groups) h.0) ∙ none_extra name groups h.1

module _ (n : ℕ) (own : Own) (t : Tables) (flat : Flat) (h : Means n own t flat) (few : n ≤ 255) (s : Socket) (at : Listed s.owner.name flat.sockets s) (mine : is_open_in n s ≡ true)
    (bound : s.owner.state ≡ states.Bound) (took : Bool) where
  abbrev a : Owner
  a = s.owner

  abbrev plan : Asking Did
  plan = listen_at flat.header.shape flat.header.seed took a

  -- the list once it listens, with those groups
  abbrev pub after : List Group → Flat
  after groups = record flat { groups = groups; sockets = put (listening s) flat.sockets }

  -- a list that decides about it as this one
  pub record Alike (other : Flat) : Type 0 where
    pub header : other.header ≡ flat.header
    pub refuses : is_refused a other.sockets ≡ is_refused a flat.sockets
    pub groups : groups_with other s ≡ groups_with flat s
    pub slot : has_slot other ≡ has_slot flat

  -- it listens, as in the list
  pub record Listens : Type 0 where
    pub tables : Tables
    pub result : Mine
    pub groups : List Group
    pub runs : run t plan ≡ Some (record { tables = tables; result = done result })
    pub owner : result.owner ≡ (listening s).owner
    pub listed : (other : Flat) → Alike other → listen_bound other s ≡ changed (record other { groups = groups }) (listening s) (replies.Port a.port)
    pub means : IsSound (after groups) → Means n (with_socket own result) tables (after groups)

  -- it is refused, as in the list
  pub record Refuses : Type 0 where
    pub buckets : List Standing
    pub end : OpEnd
    pub runs : run t plan ≡ run (with_buckets t buckets) (give_up took a end)
    pub left : Left t.buckets buckets flat
    pub listed : (other : Flat) → Alike other → listen_bound other s ≡ unchanged other (bind_error end)

  owner : is_owner a.state ≡ true
  owner = ap is_owner bound

  abbrev names : Pairs NamesDiffer flat.sockets
  names = h.sound.names

  -- once it was asked whether it may
  abbrev buckets : List Standing
  buckets = asked_at t.buckets (owner_key a) (requests.MayListen a.name)

  abbrev t1 : Tables
  t1 = with_buckets t buckets

  small : a.name < 2 ^ 64
  small = let section : a.name / 2 ^ 56 ≡ n = section_is n own t flat h.own_is h.sound s at mine in omega (arith, section, few)

  not_listening : is_listening a.state ≡ false
  not_listening = ap is_listening bound

  outside : Each (λ g. has_member a.name g ≡ false) flat.groups
  outside = in_no_group flat h.sound (has_name a.name) s at (ap (λ (b : Bool). b && a.reuseport) not_listening)

  abbrev refused_as : Flat → Bool → Option (List Group) → Outcome
  refused_as other b o = cond b (unchanged other replies.Eaddrinuse) (listen_as other s o)

  module _ (left : Left t.buckets buckets flat) (free : is_refused a flat.sockets ≡ false) where
    om : OwnersMean buckets flat
    om = left.owners

    gm : GroupsMean t1 flat
    gm = groups_stay t t1 flat flat h.tables.groups left.groups refl (λ m g st. st)

    listed_as : (o : Option (List Group)) → groups_with flat s ≡ o → (other : Flat) → Alike other → listen_bound other s ≡ listen_as other s o
    listed_as o e other alike =
        ap (λ b. refused_as other b (groups_with other s)) (alike.refuses ∙ free) ∙ ap (λ o. listen_as other s o) (alike.groups ∙ e)

    -- with that group, or none
    module _ (group : Option ℕ) (groups : List Group) (with_groups : groups_with flat s ≡ Some groups)
        (answer : answer_at t.buckets (owner_key a) (requests.MayListen a.name) ≡ answers.Group group)
        (extra : extra_of a.name groups ≡ option_map_or (λ (g : ℕ). g + 1) group 0)
        (extras : (k : ℕ) → a.name ≢ k → extra_of k groups ≡ extra_of k flat.groups)
        (grouped : (slot : ℕ) (chains : Chains) → ((m : ℕ) → stands_in_some m t.chains.rows ≡ true → stands_in_some m chains.rows ≡ true) → stands_in_some (member slot a.name) chains.rows ≡ true
        → GroupsMean (record { buckets = asked_at buckets (owner_key a) (requests.Listen a.name slot); chains = chains }) (after groups)) where
      abbrev l : Mine
      l = listener a group

      abbrev card : Card
      card = card_of kinds.Listen l

      abbrev bucket : ℕ
      bucket = home_in t.chains card

      inside : bucket < length t.chains.rows
      inside = omega (
        arith,
        home_below t.chains.shape t.chains.seed card (subst (λ (x : Shape). 1 ≤ x.hash) (sym h.tables.chains.shape) h.shape.hash) (subst (λ (x : Shape). 1 ≤ x.listen) (sym h.tables.chains.shape) h.shape.listen),
        h.tables.chains.count,
      )

      runs_to : (o : Option ℕ) → free_slot t.chains.slots ≡ o → run t plan ≡ run (with_chains t1 (hashed t.chains card (slot_outcome t.chains o None))) (listen_hashed flat.header.shape flat.header.seed took a l (slot_outcome t.chains o None))
      runs_to o e =
          ap (λ (x : Answer). run t1 (listen_answered flat.header.shape flat.header.seed took a x)) answer
          ∙ ap (λ (o : Option ℕ). run (with_chains t1 (hashed t.chains card (slot_outcome t.chains o None))) (listen_hashed flat.header.shape flat.header.seed took a l (slot_outcome t.chains o None))) e

      abbrev slotted : Flat → Bool → Outcome
      slotted other b = cond (not b) (unchanged other (replies.Enfile other.header.shape.slots 0)) (changed (record other { groups = groups }) (listening s) (replies.Port a.port))

      full_up : free_slot t.chains.slots ≡ None → Refuses
      full_up e = record {
        buckets = buckets;
        end = errors.Full (length t.chains.slots.used) 0;
        runs = runs_to None e;
        left = left;
        listed = λ other alike.
            listed_as (Some groups) with_groups other alike
            ∙ (ap (slotted other) (alike.slot ∙ room_none t.chains flat h.tables.chains e)
            ∙ ap (λ k. unchanged other (replies.Enfile k 0)) (ap (λ (x : Header). x.shape.slots) alike.header ∙ sym h.tables.chains.slots));
      }

      same_weight : (f : Card → ℕ) (x : Socket) → (has_name a.name x ≡ true → x ≡ s) → (has_name a.name x ≡ true) ⊎ (has_name a.name x ≡ false) → card_weight groups f x ≡ card_weight flat.groups f x
      same_weight f x only (inl e) =
          let none_s : kind_of x.owner.state ≡ None = ap (λ (y : Socket). kind_of y.owner.state) (only e) ∙ ap kind_of bound in
          ap (λ (k : Option Kind). weigh_as f k x.owner (λ kind. extra_as kind groups x)) none_s ∙ sym (ap (λ (k : Option Kind). weigh_as f k x.owner (λ kind. extra_as kind flat.groups x)) none_s)
      same_weight f x only (inr e) = weight_same flat.groups groups f x (extras x.owner.name (λ q. eqb-false x.owner.name a.name e (sym q)))

      weighs : (f : Card → ℕ) → weighing (after groups) f ≡ weighing flat f + f card
      weighs f =
          let same : total (card_weight groups f) flat.sockets ≡ total (card_weight flat.groups f) flat.sockets =
          total_each (card_weight groups f) (card_weight flat.groups f) flat.sockets
          (each_weaken (λ (x : Socket). has_name a.name x ≡ true → x ≡ s) (λ (x : Socket). card_weight groups f x ≡ card_weight flat.groups f x) flat.sockets
          (λ x only. same_weight f x only (cases_Bool (has_name a.name x))) (only_listed a.name flat.sockets s names at)) in
          let none_s : card_weight groups f s ≡ 0 = ap (λ (k : Option Kind). weigh_as f k s.owner (λ kind. extra_as kind groups s)) (ap kind_of bound) in
          let new_s : card_weight groups f (listening s) ≡ f card = ap (λ e. f (card_of kinds.Listen (record l { extra = e }))) extra in
          omega (
            arith,
            cards_weigh groups f (put (listening s) flat.sockets),
            put_weighs (listening s) (card_weight groups f) s flat.sockets names at,
            same,
            none_s,
            new_s,
            cards_weigh flat.groups f flat.sockets,
          )

      module _ (slot : ℕ) (e : free_slot t.chains.slots ≡ Some slot) where
        abbrev chains : Chains
        chains = placed t.chains bucket slot card

        abbrev result : Mine
        result = listens_in flat.header.shape flat.header.seed l slot

        abbrev t2 : Tables
        t2 = record { buckets = asked_at buckets (owner_key a) (requests.Listen a.name slot); chains = chains }

        at_home : result.place.bucket ≡ bucket
        at_home = ap (λ (x : Shape). home x flat.header.seed card) (sym h.tables.chains.shape) ∙ ap (λ (k : ℕ). home t.chains.shape k card) (sym h.tables.chains.seed)

        stands : StandsAs chains result (Some kinds.Listen)
        stands = stand_new t.chains result kinds.Listen at_home (subst (λ (k : ℕ). k < length t.chains.rows) (sym at_home) inside)

        others : Each (λ (x : Mine). StandsAs chains x (kind_of x.owner.state)) own.sockets
        others =
            each_weaken (λ (x : Mine). StandsAs t.chains x (kind_of x.owner.state)) (λ (x : Mine). StandsAs chains x (kind_of x.owner.state)) own.sockets
            (λ x st. stand_placed t.chains bucket slot card x (kind_of x.owner.state) inside st) h.own_is.stand

        own_listens : OwnMeans n (with_socket own result) t2 (record flat { sockets = put (listening s) flat.sockets })
        own_listens = own_put n own t t2 flat (listening s) s result h.own_is names at refl refl (ap is_time_wait bound) refl stands others

        owners_listen : OwnersMean (asked_at buckets (owner_key a) (requests.Listen a.name slot)) (record flat { sockets = put (listening s) flat.sockets })
        owners_listen = listen_means buckets flat om h.shape.bind names a.name s at owner slot (listening s) refl

        chains_listen : ChainsMean chains (after groups)
        chains_listen =
            means chains (after groups)
            (weighs_same chains flat.header.shape flat.header.seed (λ f. weighing flat f + f card) (weighing (after groups)) weighs (added_holds t.chains flat card slot h.tables.chains h.shape e))

        listens : Listens
        listens = record {
          tables = t2;
          result = result;
          groups = groups;
          runs = runs_to (Some slot) e ∙ ap (λ (x : Answer). run t2 (when_done (ends (done result)) x)) (listen_answer buckets flat om h.shape.bind names a.name s at owner slot);
          owner = refl;
          listed = λ other alike. listed_as (Some groups) with_groups other alike ∙ ap (slotted other) (alike.slot ∙ room_found t.chains flat h.tables.chains slot e);
          means = λ sound. record {
            shape = h.shape;
            sound = sound;
            tables = record {
              owners = record { count = owners_listen.count; owners = owners_listen.owners; keys = owners_listen.keys };
              chains = chains_listen;
              groups = grouped slot chains (λ m st. some_placed t.chains bucket slot card m inside st) (stands_new t.chains bucket slot card inside small);
            };
            own_is = record {
              number = own_listens.number;
              unmarked = own_listens.unmarked;
              section = own_listens.section;
              range = own_listens.range;
              offset = own_listens.offset;
              sockets = own_listens.sockets;
              stand = own_listens.stand;
              waits = own_listens.waits;
              names = own_listens.names;
              given = own_listens.given;
            };
          };
        }

      by_slot : (o : Option ℕ) → free_slot t.chains.slots ≡ o → Listens ⊎ Refuses
      by_slot None e = inr (full_up e)
      by_slot (Some slot) e = inl (listens slot e)

      in_group : Listens ⊎ Refuses
      in_group = by_slot (free_slot t.chains.slots) refl

    -- what the bucket answers, by what it holds then
    abbrev there : Held
    there = (standing_at buckets (owner_key a)).held

    answer_then : answer_at t.buckets (owner_key a) (requests.MayListen a.name) ≡ listener_answer ((owner_key a) % length t.buckets) (standing_at t.buckets (owner_key a)).held a None
        → answer_at t.buckets (owner_key a) (requests.MayListen a.name) ≡ listener_answer ((owner_key a) % length buckets) there a None
    answer_then e =
        e
        ∙ (ap (λ (x : Held). listener_answer ((owner_key a) % length t.buckets) x a None) (sym (held_same t.buckets (owner_key a) a.name (near t.buckets flat h.tables.owners h.shape.bind (owner_key a))))
        ∙ ap (λ (k : ℕ). listener_answer ((owner_key a) % k) there a None) (sym (length-set t.buckets ((owner_key a) % length t.buckets) (asked ((owner_key a) % length t.buckets) (standing_at t.buckets (owner_key a)) (requests.MayListen a.name)))))

    alone : answer_at t.buckets (owner_key a) (requests.MayListen a.name) ≡ listener_answer ((owner_key a) % length buckets) there a None → a.reuseport ≡ false → Listens ⊎ Refuses
    alone answer shares =
        in_group None flat.groups
        (cond-false a.reuseport (join ((owner_key a) % flat.header.shape.bind) a.name (mate_of s.owner flat.sockets) flat.groups) (Some flat.groups) shares)
        (answer ∙ cond-false a.reuseport (group_answer ((owner_key a) % length buckets) there (place_for there a)) (answers.Group None) shares)
        (none_extra a.name flat.groups outside)
        (λ k d. refl)
        (λ slot chains keeps new. listened_alone t1 flat om gm h.shape.bind h.sound a.name s at owner small chains slot (after flat.groups) shares refl keeps)

    refused_full : (end : OpEnd) (x : Answer) → answer_at t.buckets (owner_key a) (requests.MayListen a.name) ≡ x → listen_answered flat.header.shape flat.header.seed took a x ≡ give_up took a end → bind_error end ≡ replies.Emfile
        → groups_with flat s ≡ None → Refuses
    refused_full end x answer gives emfile nowhere = record {
      buckets = buckets;
      end = end;
      runs = ap (λ (x : Answer). run t1 (listen_answered flat.header.shape flat.header.seed took a x)) answer ∙ ap (run t1) gives;
      left = left;
      listed = λ other alike. listed_as None nowhere other alike ∙ ap (unchanged other) (sym emfile);
    }

    by_full : answer_at t.buckets (owner_key a) (requests.MayListen a.name) ≡ group_at buckets s → HasNone buckets flat s → (group_at buckets s ≡ answers.GroupFull) ⊎ (group_at buckets s ≡ answers.GroupsFull) → Refuses
    by_full answer r (inl e) = refused_full errors.GroupFull answers.GroupFull (answer ∙ e) refl refl r.listed
    by_full answer r (inr e) = refused_full errors.GroupsFull answers.GroupsFull (answer ∙ e) refl refl r.listed

    by_decision : answer_at t.buckets (owner_key a) (requests.MayListen a.name) ≡ group_at buckets s → a.reuseport ≡ true → Decided buckets flat s → Listens ⊎ Refuses
    by_decision answer shares (room place groups r) =
        let number : ℕ = (owner_key a) % length buckets in
        in_group (Some (group_number number place)) groups r.listed
        (answer ∙ (ap (group_answer number there) r.there ∙ cond-true (ltb (length (members_at there place)) group_room) (answers.Group (Some (group_number number place))) answers.GroupFull (lt-ltb (length (members_at there place)) group_room r.less)))
        r.extra r.extras
        (λ slot chains keeps new. listened t1 flat om gm h.shape.bind h.sound a.name s at owner small chains slot place groups (after groups) shares r refl keeps new)
    by_decision answer shares (none r) = inr (by_full answer r r.answer)

    by_sharing : (b : Bool) → a.reuseport ≡ b → answer_at t.buckets (owner_key a) (requests.MayListen a.name) ≡ listener_answer ((owner_key a) % length buckets) there a None → Listens ⊎ Refuses
    by_sharing false e answer = alone answer e
    by_sharing true e answer =
        by_decision (answer ∙ cond-true a.reuseport (group_at buckets s) (answers.Group None) e) e (decided t1 flat om gm h.shape.bind h.sound (has_name a.name) s at not_listening e)

  in_use : is_refused a flat.sockets ≡ true → IsInUse t.buckets (owner_key a) (requests.MayListen a.name) flat → Refuses
  in_use taken found = record {
    buckets = buckets;
    end = errors.InUse found.other;
    runs = ap (λ (x : Answer). run t1 (listen_answered flat.header.shape flat.header.seed took a x)) found.answer;
    left = found.left;
    listed = λ other alike. ap (λ b. refused_as other b (groups_with other s)) (alike.refuses ∙ taken);
  }

  by_asked : ((is_refused a flat.sockets ≡ false) × MayTry t.buckets (owner_key a) (requests.MayListen a.name) a flat) ⊎ ((is_refused a flat.sockets ≡ true) × IsInUse t.buckets (owner_key a) (requests.MayListen a.name) flat) → Listens ⊎ Refuses
  by_asked (inl x) = by_sharing x.1.left x.0 a.reuseport refl (answer_then x.1.left x.0 x.1.answer)
  by_asked (inr x) = inr (in_use x.0 x.1)

  -- a bound socket listens, or is refused, as in the list
  pub tried : Listens ⊎ Refuses
  tried = by_asked (may_listen_asked t.buckets flat h.tables.owners h.shape.bind names a.name s at owner)
