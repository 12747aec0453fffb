-- `listen` of an open socket of a section's own, carried out on tables that mean a list.
use Rattle.std.proofs.Common.{◌≡◌, ℕ, ◌+◌, ◌*◌, ◌%◌, ◌≤◌, ◌<◌, ◌==◌, Bool, true, false, ◌&&◌, ◌||◌, not, cond, ltb, List, [], ◌∷◌, length, map, find, Option, Some, None, ◌⊎◌, inl, inr, refl, ap, sym, ◌∙◌, subst, arith, get_or}
use Rattle.std.specs.List.{list_any}
use Rattle.std.specs.Option.{option_map}
use Rattle.std.proofs.lemmas.Bool.{cond-true, cond-false, eq-eqb}
use Rattle.list_words.specs.Lists.{Each}
use Rattle.list_words.proofs.EachLemmas.{each_weaken, each_found}
use Rattle.sock_card.specs.declared.owner.Owner.{Owner}
use Rattle.sock_card.specs.declared.owner.State.{State}
use Rattle.sock_card.specs.declared.owner.State.TheVariants as states
use Rattle.sock_card.specs.Conflict.{owner_key, is_listening, refuses}
use Rattle.bind_buckets.specs.declared.request.Answer.{Answer}
use Rattle.bind_buckets.specs.declared.request.Answer.TheVariants as answers
use Rattle.bind_buckets.specs.declared.request.Request.TheVariants as requests
use Rattle.bind_buckets.specs.First.{change_first}
use Rattle.bind_buckets.specs.Journal.{Standing}
use Rattle.bind_buckets.specs.Members.{has_member as is_member, without_member as left_in}
use Rattle.bind_buckets.specs.OwnerStep.{After}
use Rattle.chain_book.specs.declared.outcome.Place.{Place}
use Rattle.flat_list.specs.declared.header.First.TheVariants as firsts
use Rattle.flat_list.specs.declared.command.Reply.TheVariants as replies
use Rattle.flat_list.specs.declared.socket.Socket.{Socket}
use Rattle.flat_list.specs.Flat.{Flat}
use Rattle.flat_list.specs.Groups.{Group, has_member, join}
use Rattle.flat_list.specs.Outcome.{Outcome, unchanged, draw}
use Rattle.flat_list.specs.Sockets.{has_name, is_owner, is_other_owner, is_refused, is_mate, is_hashed, kind_of, put, replaced, without, slots_used, mate_of, is_open_in}
use Rattle.flat_list.specs.Sound.{IsSound}
use Rattle.flat_list.specs.Step as flat_step
use Rattle.flat_list.specs.Step.{at_port, listening, listen_bound, listen_found, listen_unbound, listen_socket, bind_found, suits_bind}
use Rattle.table_model.specs.declared.operation.OpEnd.TheVariants as errors
use Rattle.table_model.specs.Asking.{Asking, ends, and_then}
use Rattle.table_model.specs.Tables.{Tables, with_buckets, run}
use Rattle.bind_buckets.specs.BindHash.{asked_at, answer_at, standing_at, untouched}
use Rattle.table_model.specs.Own.{Own, Mine, is_named, with_socket, ports_of, replaced as replaced_mine}
use Rattle.table_model.specs.Operations.{Did, done, refused, plain, search_bind, listen_at, listen_as, when_done}
use Rattle.table_model.specs.Operations as operations
use Rattle.table_model.specs.Commands.{Replied, bind_reply, after_search, is_unbound, listen_command}
use Rattle.table_model.specs.Means.{OwnersMean, GroupsMean, TablesMean, OwnMeans, Means, StandsAs, owns}
use Rattle.table_model.proofs.lists.Passing.{ind, count_is}
use Rattle.table_model.proofs.parts.Buckets.{near}
use Rattle.table_model.proofs.parts.GroupPlaces.{at_number, is_name, any_names, members_in}
use Rattle.table_model.proofs.lists.Listed.{Listed, put_weighs, without_weighs}
use Rattle.table_model.proofs.parts.Own.{own_put, only_listed}
use Rattle.table_model.proofs.questions.Asked as asking
use Rattle.table_model.proofs.questions.Asked.{with_sockets}
use Rattle.table_model.proofs.questions.Requests.{Left, remove_is, remove_answer, remove_means}
use Rattle.table_model.proofs.questions.Search.{Searched, searched}
use Rattle.table_model.proofs.parts.Sections.{with_sections, same_ports, own_drawn, drawn_sockets}
use Rattle.table_model.proofs.commands.Carried.{run_and_then, goes_on, Carried, groups_kept, cards_kept}
use Rattle.table_model.proofs.commands.Bind.{unbound_means, bound_means}
use Rattle.table_model.proofs.parts.OpenSocket.{IsOpen, OpenBoth}
use Rattle.table_model.proofs.parts.Groups.{each_at, each_by_place}
use Rattle.table_model.proofs.questions.WhichGroup.{in_no_group}
use Rattle.table_model.proofs.parts.OwnGoes.{is_awake}
use Rattle.table_model.proofs.commands.Drop.{stands_so}
use Rattle.table_model.proofs.commands.ListenBound.{Alike, Listens, Refuses, tried}

-- the socket that was put is found by its name
put_listed_by : (new x s : Socket) (xs : List Socket) (b : Bool) → has_name new.owner.name x ≡ b → (find (has_name new.owner.name) xs ≡ Some s → find (has_name new.owner.name) (put new xs) ≡ Some new)
    → cond b (Some x) (find (has_name new.owner.name) xs) ≡ Some s → find (has_name new.owner.name) (cond b new x ∷ put new xs) ≡ Some new
put_listed_by new x s xs true e later h =
    cond-true (has_name new.owner.name new) (Some new) (find (has_name new.owner.name) (put new xs)) (eq-eqb new.owner.name new.owner.name refl)
put_listed_by new x s xs false e later h =
    cond-false (has_name new.owner.name x) (Some x) (find (has_name new.owner.name) (put new xs)) e ∙ later h

pub put_listed : (new s : Socket) (xs : List Socket) → Listed new.owner.name xs s → Listed new.owner.name (put new xs) new
put_listed new s [] h = absurd (cc)
put_listed new s (x ∷ xs) h = put_listed_by new x s xs (has_name new.owner.name x) refl (put_listed new s xs) h

-- what was put is put over
put_over_by : (new mid x : Socket) (b : Bool) → new.owner.name ≡ mid.owner.name → has_name mid.owner.name x ≡ b → replaced new (cond b mid x) ≡ replaced new x
put_over_by new mid x true same e =
    cond-true (has_name new.owner.name mid) new mid (eq-eqb mid.owner.name new.owner.name (sym same))
    ∙ sym (cond-true (has_name new.owner.name x) new x (ap (λ k. x.owner.name == k) same ∙ e))
put_over_by new mid x false same e = refl

pub put_over : (new mid : Socket) (xs : List Socket) → new.owner.name ≡ mid.owner.name → put new (put mid xs) ≡ put new xs
put_over new mid [] same = refl
put_over new mid (x ∷ xs) same =
    ap (λ y. y ∷ put new (put mid xs)) (put_over_by new mid x (has_name mid.owner.name x) same refl) ∙ ap (λ l. replaced new x ∷ l) (put_over new mid xs same)

own_over_by : (l p x : Mine) (b : Bool) → l.owner.name ≡ p.owner.name → is_named p.owner.name x ≡ b → replaced_mine l (cond b p x) ≡ replaced_mine l x
own_over_by l p x true same e =
    cond-true (is_named l.owner.name p) l p (eq-eqb p.owner.name l.owner.name (sym same))
    ∙ sym (cond-true (is_named l.owner.name x) l x (ap (λ k. x.owner.name == k) same ∙ e))
own_over_by l p x false same e = refl

own_over : (l p : Mine) (xs : List Mine) → l.owner.name ≡ p.owner.name → map (replaced_mine l) (map (replaced_mine p) xs) ≡ map (replaced_mine l) xs
own_over l p [] same = refl
own_over l p (x ∷ xs) same =
    ap (λ y. y ∷ map (replaced_mine l) (map (replaced_mine p) xs)) (own_over_by l p x (is_named p.owner.name x) same refl) ∙ ap (λ k. replaced_mine l x ∷ k) (own_over l p xs same)

-- a socket that is put over itself
put_itself_by : (s x : Socket) (b : Bool) → has_name s.owner.name x ≡ b → (has_name s.owner.name x ≡ true → x ≡ s) → cond b s x ≡ x
put_itself_by s x true e only = sym (only e)
put_itself_by s x false e only = refl

put_itself : (s : Socket) (xs : List Socket) → Each (λ (x : Socket). has_name s.owner.name x ≡ true → x ≡ s) xs → put s xs ≡ xs
put_itself s [] h = refl
put_itself s (x ∷ xs) h =
    ap (λ y. y ∷ put s xs) (put_itself_by s x (has_name s.owner.name x) refl h.0) ∙ ap (λ l. x ∷ l) (put_itself s xs h.1)

not_itself : (o b r : Bool) → b ≡ true → ((o && not b) && r) ≡ false
not_itself true b r e = rw e refl
not_itself false b r e = refl

-- who else refuses is as before
refused_by : (a : Owner) (new x : Socket) (b : Bool) → new.owner.name ≡ a.name → has_name new.owner.name x ≡ b
    → (is_other_owner a.name (cond b new x) && refuses a (cond b new x).owner) ≡ (is_other_owner a.name x && refuses a x.owner)
refused_by a new x true same e =
    not_itself (is_owner new.owner.state) (has_name a.name new) (refuses a new.owner) (eq-eqb new.owner.name a.name same)
    ∙ sym (not_itself (is_owner x.owner.state) (has_name a.name x) (refuses a x.owner) (ap (λ k. x.owner.name == k) (sym same) ∙ e))
refused_by a new x false same e = refl

refused_put : (a : Owner) (new : Socket) (xs : List Socket) → new.owner.name ≡ a.name → is_refused a (put new xs) ≡ is_refused a xs
refused_put a new [] same = refl
refused_put a new (x ∷ xs) same =
    ap (λ b. b || is_refused a (put new xs)) (refused_by a new x (has_name new.owner.name x) same refl)
    ∙ ap (λ b. (is_other_owner a.name x && refuses a x.owner) || b) (refused_put a new xs same)

no_mate_of : (a : Owner) (x : Socket) → is_listening x.owner.state ≡ false → is_mate a x ≡ false
no_mate_of a x h = rw h refl

mates_by : (a : Owner) (new x : Socket) (ys zs : List Socket) (b : Bool) → has_name new.owner.name x ≡ b → is_listening new.owner.state ≡ false → (has_name new.owner.name x ≡ true → is_listening x.owner.state ≡ false)
    → find (is_mate a) ys ≡ find (is_mate a) zs → find (is_mate a) (cond b new x ∷ ys) ≡ find (is_mate a) (x ∷ zs)
mates_by a new x ys zs true e new_not x_not h =
    cond-false (is_mate a new) (Some new) (find (is_mate a) ys) (no_mate_of a new new_not)
    ∙ (h ∙ sym (cond-false (is_mate a x) (Some x) (find (is_mate a) zs) (no_mate_of a x (x_not e))))
mates_by a new x ys zs false e new_not x_not h = ap (λ o. cond (is_mate a x) (Some x) o) h

-- the first mate is as before
mates_put : (a : Owner) (new : Socket) (xs : List Socket) → is_listening new.owner.state ≡ false → Each (λ (x : Socket). has_name new.owner.name x ≡ true → is_listening x.owner.state ≡ false) xs
    → find (is_mate a) (put new xs) ≡ find (is_mate a) xs
mates_put a new [] new_not h = refl
mates_put a new (x ∷ xs) new_not h =
    mates_by a new x (put new xs) xs (has_name new.owner.name x) refl new_not h.0 (mates_put a new xs new_not h.1)

unchanged_none : (p : List ℕ → Bool) (f : List ℕ → List ℕ) (x : List ℕ) (xs : List (List ℕ)) (b : Bool) → b ≡ false → change_first p f xs ≡ xs → cond b (f x ∷ xs) (x ∷ change_first p f xs) ≡ x ∷ xs
unchanged_none p f x xs true e h = absurd (cc)
unchanged_none p f x xs false e h = ap (λ l. x ∷ l) h

-- where none passes, nothing changes
change_none : (p : List ℕ → Bool) (f : List ℕ → List ℕ) (xs : List (List ℕ)) → Each (λ x. p x ≡ false) xs → change_first p f xs ≡ xs
change_none p f [] h = refl
change_none p f (x ∷ xs) h = unchanged_none p f x xs (p x) h.0 (change_none p f xs h.1)

-- who is in no group is a member of none
nobody_named : (name n : ℕ) (groups : List Group) (o : Option Group) → find (at_number n) groups ≡ o → Each (λ g. has_member name g ≡ false) groups → list_any (is_name name) (members_in o) ≡ false
nobody_named name n groups None e h = refl
nobody_named name n groups (Some g) e h = each_found (λ g. has_member name g ≡ false) (at_number n) groups g h e

module _ (n : ℕ) (own : Own) (t : Tables) (flat : Flat) (h : Means n own t flat) (few : n ≤ 255) (s : Socket) (extra : ℕ) (place : Place)
    (at : Listed s.owner.name flat.sockets s) (mine : is_open_in n s ≡ true) (stands : StandsAs t.chains (record { owner = s.owner; extra = extra; place = place }) (kind_of s.owner.state)) where
  abbrev m : Mine
  m = record { owner = s.owner; extra = extra; place = place }

  abbrev next : Own → Did → Asking Replied
  next own' did = ends (bind_reply own' did)

  -- of one that has a port
  module _ (bound : s.owner.state ≡ states.Bound) where
    abbrev bound_plan : Asking Did
    bound_plan = listen_at flat.header.shape flat.header.seed false s.owner

    alike : Alike n own t flat h few s at mine bound false flat
    alike = record { header = refl; refuses = refl; groups = refl; slot = refl }

    by_tried : Listens n own t flat h few s at mine bound false ⊎ Refuses n own t flat h few s at mine bound false → Carried n t (and_then bound_plan (next own)) (listen_bound flat s)
    by_tried (inl x) = subst (Carried n t (and_then bound_plan (next own))) (sym (x.listed flat alike)) record {
      ended = record { tables = x.tables; result = bind_reply own (done x.result) };
      runs = run_and_then (next own) t bound_plan ∙ ap (goes_on (next own)) x.runs;
      reply = ap (λ (o : Owner). replies.Port o.port) x.owner;
      means = x.means;
    }
    by_tried (inr x) = subst (Carried n t (and_then bound_plan (next own))) (sym (x.listed flat alike)) record {
      ended = record { tables = with_buckets t x.buckets; result = bind_reply own (refused x.end) };
      runs = run_and_then (next own) t bound_plan ∙ ap (goes_on (next own)) x.runs;
      reply = refl;
      means = unbound_means n own t flat h.shape h.tables h.own_is h.sound.names x.buckets x.left;
    }

    bound_listens : Carried n t (and_then bound_plan (next own)) (listen_bound flat s)
    bound_listens = by_tried (tried n own t flat h few s at mine bound false)

  -- of a listener
  module _ (listens : s.owner.state ≡ states.Listening) where
    itself : put s flat.sockets ≡ flat.sockets
    itself = put_itself s flat.sockets (only_listed s.owner.name flat.sockets s h.sound.names at)

    own_listens : OwnMeans n (with_socket own m) t flat
    own_listens =
        subst (λ (l : List Socket). OwnMeans n (with_socket own m) t (with_sockets flat l)) itself
        (own_put n own t t flat s s m h.own_is h.sound.names at refl refl (is_awake n own t flat h.own_is h.sound s at mine) (is_awake n own t flat h.own_is h.sound s at mine) stands h.own_is.stand)

    listens_already : Carried n t (ends (bind_reply own (done m))) (unchanged flat (replies.Port s.owner.port))
    listens_already = record {
      ended = record { tables = t; result = bind_reply own (done m) };
      runs = refl;
      reply = refl;
      means = λ sound. record { shape = h.shape; sound = sound; tables = h.tables; own_is = own_listens };
    }

  not_so : Carried n t (ends (bind_reply own (refused errors.Inval))) (unchanged flat replies.Einval)
  not_so = record { ended = record { tables = t; result = bind_reply own (refused errors.Inval) }; runs = refl; reply = refl; means = λ sound. h }

  -- of one that has no port
  module _ (unbound : s.owner.state ≡ states.Unbound) (sound_bound : IsSound (flat_step.bind_search flat n s s.owner.addr).flat) where
    abbrev drawn : Flat
    drawn = (draw flat n flat.header.offset).flat

    abbrev sections : Flat
    sections = with_sections flat drawn.sections

    abbrev own' : Own
    own' = after_search true own

    abbrev shape_of : ℕ → Asking Did
    shape_of port = operations.listen_found flat.header.shape flat.header.seed s.owner port

    abbrev searching : List ℕ → Asking Did
    searching ports = search_bind s.owner s.owner.addr shape_of (ends (refused errors.NoPort)) ports

    abbrev found_out : Option ℕ → Flat → Outcome
    found_out o f = listen_found (record { port = o; flat = f }) s o

    tables' : TablesMean t sections
    tables' = record {
      owners = record { count = h.tables.owners.count; owners = h.tables.owners.owners; keys = h.tables.owners.keys };
      chains = cards_kept t.chains flat sections refl (λ f. refl) h.tables.chains;
      groups = groups_kept t t.buckets flat sections refl refl h.tables.groups;
    }

    own_is' : OwnMeans n own' t sections
    own_is' = subst (OwnMeans n own' t) (drawn_sockets flat n flat.header.offset) (own_drawn n own t flat h.own_is)

    module _ (port : ℕ) (buckets : List Standing) (left : Left t.buckets buckets (with_sockets flat (put (at_port s s.owner.addr port) flat.sockets)))
        (sound1 : IsSound (with_sockets sections (put (at_port s s.owner.addr port) flat.sockets))) where
      abbrev s1 : Socket
      s1 = at_port s s.owner.addr port

      abbrev key : ℕ
      key = owner_key s1.owner

      abbrev flat1 : Flat
      flat1 = with_sockets sections (put s1 flat.sockets)

      abbrev p : Mine
      p = plain s1.owner

      abbrev own1 : Own
      own1 = with_socket own' p

      abbrev t1 : Tables
      t1 = with_buckets t buckets

      h1 : Means n own1 t1 flat1
      h1 =
          bound_means n own' t sections h.shape tables' own_is' h.sound.names buckets s s.owner.addr port at unbound
          record { owners = record { count = left.owners.count; owners = left.owners.owners; keys = left.owners.keys }; groups = left.groups } sound1

      at1 : Listed s.owner.name flat1.sockets s1
      at1 = put_listed s1 s flat.sockets at

      only : Each (λ (x : Socket). has_name s.owner.name x ≡ true → x ≡ s) flat.sockets
      only = only_listed s.owner.name flat.sockets s h.sound.names at

      same_mate : mate_of s1.owner sections.sockets ≡ mate_of s1.owner flat1.sockets
      same_mate =
          ap (option_map (λ (x : Socket). x.owner.name))
          (sym (mates_put s1.owner s1 flat.sockets refl
          (each_weaken (λ (x : Socket). has_name s.owner.name x ≡ true → x ≡ s) (λ (x : Socket). has_name s.owner.name x ≡ true → is_listening x.owner.state ≡ false) flat.sockets
          (λ x is e. ap (λ (y : Socket). is_listening y.owner.state) (is e) ∙ ap is_listening unbound) only)))

      same_slots : slots_used flat1.sockets ≡ slots_used flat.sockets
      same_slots =
          let g : Socket → Bool = λ x. is_hashed x.owner.state in
          let w = put_weighs s1 (ind g) s flat.sockets h.sound.names at in
          omega (arith, count_is g (put s1 flat.sockets), count_is g flat.sockets, w, ap (λ (st : State). cond {A = ℕ} (is_hashed st) 1 0) unbound)

      alike1 : Alike n own1 t1 flat1 h1 few s1 at1 mine refl true sections
      alike1 = record {
        header = refl;
        refuses = sym (refused_put s1.owner s1 flat.sockets refl);
        groups = ap (λ o. cond s1.owner.reuseport (join ((owner_key s1.owner) % flat.header.shape.bind) s1.owner.name o flat.groups) (Some flat.groups)) same_mate;
        slot = ap (λ k. ltb k flat.header.shape.slots) (sym same_slots);
      }

      abbrev plan1 : Asking Did
      plan1 = listen_at flat.header.shape flat.header.seed true s1.owner

      over : put (listening s1) (put s1 flat.sockets) ≡ put (listening s1) flat.sockets
      over = put_over (listening s1) s1 flat.sockets refl

      -- once it gave its port up again
      module _ (taken : List Standing) (left1 : Left t1.buckets taken flat1) where
        abbrev given_up : List Standing
        given_up = asked_at taken key (requests.Remove s.owner.name)

        om : OwnersMean taken flat1
        om = left1.owners

        removed_mean : OwnersMean given_up (with_sockets flat1 (without s.owner.name flat1.sockets))
        removed_mean = remove_means taken flat1 om h.shape.bind sound1.names s.owner.name s1 at1 refl

        owners_back : OwnersMean given_up sections
        owners_back = record {
          count = removed_mean.count;
          owners = λ f.
              omega (
                arith,
                removed_mean.owners f,
                without_weighs s.owner.name (owns f) s1 flat1.sockets sound1.names at1,
                put_weighs s1 (owns f) s flat.sockets h.sound.names at,
                ap (λ (st : State). cond {A = ℕ} (is_owner st) (f s.owner) 0) unbound,
              );
          keys = removed_mean.keys;
        }

        gm : GroupsMean (with_buckets t taken) flat1
        gm = groups_kept t taken flat flat1 (left1.groups ∙ left.groups) refl h.tables.groups

        abbrev number : ℕ
        number = key % length taken

        inside : number < length taken
        inside = near taken flat1 om h.shape.bind key

        ungrouped : Each (λ g. has_member s.owner.name g ≡ false) flat.groups
        ungrouped = in_no_group flat h.sound (has_name s.owner.name) s at (ap (λ (st : State). is_listening st && s.owner.reuseport) unbound)

        unmoved : change_first (is_member s.owner.name) (left_in s.owner.name) (standing_at taken key).held.groups ≡ (standing_at taken key).held.groups
        unmoved =
            let eight : length (standing_at taken key).held.groups ≡ 8 = each_at (λ (x : Standing). length x.held.groups ≡ 8) taken number untouched gm.places inside in
            change_none (is_member s.owner.name) (left_in s.owner.name) (standing_at taken key).held.groups
            (each_by_place (λ ms. is_member s.owner.name ms ≡ false) (standing_at taken key).held.groups []
            (λ k l.
            any_names s.owner.name (get_or (standing_at taken key).held.groups k [])
            ∙ (ap (list_any (is_name s.owner.name)) (gm.members number k inside (omega (arith, l, eight))) ∙ nobody_named s.owner.name (8 * number + k) flat.groups (find (at_number (8 * number + k)) flat.groups) refl ungrouped)))

        groups_back : map asking.groups_in given_up ≡ map asking.groups_in t.buckets
        groups_back =
            asking.groups_stay taken flat1 om h.shape.bind key (requests.Remove s.owner.name)
            (ap (λ (x : After). x.held.groups) (remove_is taken flat1 om h.shape.bind sound1.names s.owner.name s1 at1 refl) ∙ unmoved)
            ∙ (left1.groups ∙ left.groups)

        left_back : Left t.buckets given_up sections
        left_back = record { owners = owners_back; groups = groups_back }

        given_answer : answer_at taken key (requests.Remove s.owner.name) ≡ answers.Done
        given_answer = remove_answer taken flat1 om h.shape.bind sound1.names s.owner.name s1 at1 refl

      by_tried1 : (ports : List ℕ) → run t1 plan1 ≡ run t (searching ports) → Listens n own1 t1 flat1 h1 few s1 at1 mine refl true ⊎ Refuses n own1 t1 flat1 h1 few s1 at1 mine refl true
          → Carried n t (and_then (searching ports) (next own')) (found_out (Some port) sections)
      by_tried1 ports runs (inl x) = subst (Carried n t (and_then (searching ports) (next own'))) (sym (x.listed sections alike1)) record {
        ended = record { tables = x.tables; result = bind_reply own' (done x.result) };
        runs = run_and_then (next own') t (searching ports) ∙ ap (goes_on (next own')) (sym runs ∙ x.runs);
        reply = ap (λ (o : Owner). replies.Port o.port) x.owner;
        means = λ sound.
            subst (λ (l : List Mine). Means n (record own' { sockets = l }) x.tables (record sections { groups = x.groups; sockets = put (listening s1) flat.sockets }))
            (own_over x.result p own'.sockets (ap (λ (o : Owner). o.name) x.owner))
            (subst (λ (l : List Socket). Means n (with_socket own1 x.result) x.tables (record sections { groups = x.groups; sockets = l })) over
            (x.means (subst (λ (l : List Socket). IsSound (record sections { groups = x.groups; sockets = l })) (sym over) sound)));
      }
      by_tried1 ports runs (inr x) = subst (Carried n t (and_then (searching ports) (next own'))) (sym (x.listed sections alike1)) record {
        ended = record { tables = with_buckets t (given_up x.buckets x.left); result = bind_reply own' (refused x.end) };
        runs =
            run_and_then (next own') t (searching ports)
            ∙ ap (goes_on (next own')) (sym runs ∙ (x.runs ∙ ap (λ (a : Answer). run (with_buckets t (given_up x.buckets x.left)) (when_done (ends (refused x.end)) a)) (given_answer x.buckets x.left)));
        reply = refl;
        means = unbound_means n own' t sections h.shape tables' own_is' h.sound.names (given_up x.buckets x.left) (left_back x.buckets x.left);
      }

    search_by : (ports : List ℕ) (o : Option ℕ) → (flat_step.search_bind flat n s s.owner.addr).port ≡ o
        → Searched Did flat h.shape.bind h.sound.names s at (ap is_owner unbound) s.owner.addr shape_of (ends (refused errors.NoPort)) (run t (searching ports)) t o
        → Carried n t (and_then (searching ports) (next own')) (found_out o sections)
    search_by ports None e g = record {
      ended = record { tables = with_buckets t g.buckets; result = bind_reply own' (refused errors.NoPort) };
      runs = run_and_then (next own') t (searching ports) ∙ ap (goes_on (next own')) (sym g.runs);
      reply = refl;
      means = unbound_means n own' t sections h.shape tables' own_is' h.sound.names g.buckets
          record { owners = record { count = g.left.owners.count; owners = g.left.owners.owners; keys = g.left.owners.keys }; groups = g.left.groups };
    }
    search_by ports (Some port) e g =
        let out : IsSound (bind_found (record { port = Some port; flat = drawn }) s s.owner.addr (Some port)).flat =
        subst (λ (o : Option ℕ). IsSound (bind_found (record { port = o; flat = drawn }) s s.owner.addr o).flat) e sound_bound in
        let sound1 : IsSound (with_sockets sections (put (at_port s s.owner.addr port) flat.sockets)) =
        subst (λ (f : Flat). IsSound (record f { sockets = put (at_port s s.owner.addr port) f.sockets })) (drawn_sockets flat n flat.header.offset) out in
        by_tried1 port g.buckets g.left sound1 ports g.runs
        (tried n (own1 port g.buckets g.left sound1) (t1 port g.buckets g.left sound1) (flat1 port g.buckets g.left sound1) (h1 port g.buckets g.left sound1) few (at_port s s.owner.addr port) (at1 port g.buckets g.left sound1) mine refl true)

    searches : Carried n t (and_then (searching (ports_of own.offsets firsts.Odd)) (next own')) (listen_unbound flat n s)
    searches =
        let suits : ℕ → Bool = suits_bind flat s s.owner.addr in
        let ports : List ℕ = ports_of own.offsets firsts.Odd in
        let plan : Asking Replied = and_then (searching ports) (next own') in
        let same : find suits ports ≡ (flat_step.search_bind flat n s s.owner.addr).port = ap (find suits) (same_ports n own t flat h.own_is firsts.Odd) in
        let there : Carried n t plan (found_out (find suits ports) sections) =
        search_by ports (find suits ports) (sym same) (searched Did flat h.shape.bind h.sound.names s at (ap is_owner unbound) s.owner.addr shape_of (ends (refused errors.NoPort)) (run t (searching ports)) ports t h.tables.owners refl) in
        subst (λ (o : Option ℕ). Carried n t plan (found_out o drawn)) same
        (subst (λ (f : Flat). Carried n t plan (found_out (find suits ports) f)) (sym (drawn_sockets flat n flat.header.offset)) there)

  abbrev plan_as : State → Asking Replied
  plan_as state = and_then (listen_as flat.header.shape flat.header.seed state m (ports_of own.offsets firsts.Odd)) (next (after_search (is_unbound state) own))

  by_state : (state : State) → s.owner.state ≡ state → (s.owner.state ≡ states.Unbound → IsSound (flat_step.bind_search flat n s s.owner.addr).flat) → Carried n t (plan_as state) (listen_socket flat n s state)
  by_state states.Unbound e sound = searches e (sound e)
  by_state states.Bound e sound = bound_listens e
  by_state states.Listening e sound = listens_already e
  by_state states.Full e sound = not_so
  by_state states.TimeWait e sound = not_so
  by_state states.Request e sound = not_so

  -- whatever its state is
  pub listen_mine : (s.owner.state ≡ states.Unbound → IsSound (flat_step.bind_search flat n s s.owner.addr).flat) → Carried n t (plan_as s.owner.state) (listen_socket flat n s s.owner.state)
  listen_mine sound = by_state s.owner.state refl sound

module _ (n : ℕ) (own : Own) (t : Tables) (flat : Flat) (h : Means n own t flat) (few : n ≤ 255) where
  -- once a socket that `listen` binds leaves the list sound
  abbrev pub BindsSound : Option Socket → Type 0
  BindsSound o = (s : Socket) → o ≡ Some s → s.owner.state ≡ states.Unbound → IsSound (flat_step.bind_search flat n s s.owner.addr).flat

  -- `listen` of a socket that is open here and in the list
  pub listen_open : (m : Mine) (s : Socket) → IsOpen n t flat m s → BindsSound (Some s) → Carried n t (listen_command flat.header own (Some m)) (flat_step.listen flat n (Some s))
  listen_open m s is sound =
      subst (λ (x : Mine). Carried n t (listen_command flat.header own (Some x)) (flat_step.listen flat n (Some s))) (λ i. record m { owner = sym is.same i })
      (listen_mine n own t flat h few s m.extra m.place is.listed is.mine (stands_so n t flat m s is) (sound s refl))

  -- and where neither has one
  pub listen_none : Carried n t (listen_command flat.header own None) (flat_step.listen flat n None)
  listen_none = record { ended = record { tables = t; result = record { own = own; reply = replies.Ebadf } }; runs = refl; reply = refl; means = λ sound. h }

  pub listen_both : (o : Option Mine) (p : Option Socket) → OpenBoth n t flat o p → BindsSound p → Carried n t (listen_command flat.header own o) (flat_step.listen flat n p)
  listen_both None None both sound = listen_none
  listen_both (Some m) (Some s) both sound = listen_open m s both sound
  listen_both None (Some s) both sound = absurd both
  listen_both (Some m) None both sound = absurd both
