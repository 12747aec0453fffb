-- All TIME_WAITs of a section that are over go, in tables that mean a list as in the list.
use Rattle.std.proofs.Common.{◌≡◌, ◌≢◌, ℕ, ◌+◌, ◌/◌, ◌^◌, ◌==◌, Bool, true, false, not, ◌&&◌, cond, List, [], ◌∷◌, ◌++◌, map, filter, find, Option, None, Some, refl, ap, sym, ◌∙◌, subst, arith}
use Rattle.std.proofs.lemmas.Bool.{and_parts, and_from}
use Rattle.std.specs.Prelude.{count_by}
use Rattle.std.specs.List.{list_any}
use Rattle.list_words.specs.Lists.{Each, Pairs, total}
use Rattle.list_words.proofs.EachLemmas.{each_weaken, each_both, each_filter}
use Rattle.sock_card.specs.declared.card.Kind.TheVariants as kinds
use Rattle.sock_card.specs.declared.owner.Owner.{Owner}
use Rattle.sock_card.specs.declared.owner.State.TheVariants as states
use Rattle.sock_card.specs.Conflict.{is_time_wait}
use Rattle.sock_card.specs.TimeWait.{expired}
use Rattle.chain_book.specs.declared.outcome.Hashed.{Hashed}
use Rattle.chain_book.specs.declared.outcome.Place.{Place}
use Rattle.chain_book.specs.Chains.{waiting}
use Rattle.flat_list.specs.declared.command.Reply.TheVariants as replies
use Rattle.flat_list.specs.declared.socket.Socket.{Socket}
use Rattle.flat_list.specs.Flat.{Flat}
use Rattle.flat_list.specs.Outcome.{Outcome, unchanged}
use Rattle.flat_list.specs.Sockets.{has_name, without, is_expired}
use Rattle.flat_list.specs.Sound.{IsSound}
use Rattle.flat_list.specs.Step.{reap as reap_step}
use Rattle.table_model.specs.Asking.{Asking, ends}
use Rattle.table_model.specs.Tables.{Tables, with_chains, reaped, was_found, run}
use Rattle.table_model.specs.Own.{Own, Mine, card_of, is_over}
use Rattle.table_model.specs.Operations.{reap, reap_each, reaped_next, kept_waits}
use Rattle.table_model.specs.Commands.{Replied, answers, reap_command}
use Rattle.table_model.specs.Means.{OwnMeans, Means, IsShape, IsNameOf, is_wait_of, name_in, weighs_if_there, weighs_as_wait}
use Rattle.table_model.proofs.lists.Listed.{without_weighs}
use Rattle.table_model.proofs.questions.Asked.{with_sockets}
use Rattle.table_model.proofs.parts.Own.{only_listed}
use Rattle.table_model.proofs.parts.OpenSocket.{each_passes}
use Rattle.table_model.proofs.parts.Sections.{same_moment}
use Rattle.table_model.proofs.commands.Carried.{run_and_then, goes_on, Carried}
use Rattle.table_model.proofs.lists.Passing.{nothing_at, count_is, total_same, total_zero, ind}
use Rattle.table_model.proofs.parts.OwnWaits.{any_without}
use Rattle.table_model.proofs.questions.GroupRequests.{no_name_left}
use Rattle.table_model.proofs.commands.Reap.{IsOne, all_one, pairs_back, is_waiting, none_there, none_waits, filter_without, all_kept, at, Kept, WaitIs, wait_is, hashed_there, tables_after, kept_after}

module _ {A : Type 0} (p : A → Bool) where
  if_at : (P : A → Type 0) (x : A) (xs : List A) (b : Bool) → p x ≡ b → Each P (cond b (x ∷ filter p xs) (filter p xs)) → (Each P (filter p xs) → Each (λ y. p y ≡ true → P y) xs) → Each (λ y. p y ≡ true → P y) (x ∷ xs)
  if_at P x xs true e h later = (λ q. h.0, later h.1)
  if_at P x xs false e h later = (λ q. absurd (cc), later h)

  -- what holds of those that are kept holds of each, if it is kept
  pub each_if : (P : A → Type 0) (xs : List A) → Each P (filter p xs) → Each (λ y. p y ≡ true → P y) xs
  each_if P [] h = tt
  each_if P (x ∷ xs) h = if_at P x xs (p x) refl h (each_if P xs)

  dropped_at : (g : A → ℕ) (x : A) (ys : List A) (n : ℕ) (b : Bool) → p x ≡ b → (p x ≡ true → g x ≡ 0) → total g ys ≡ n → total g (cond (not b) (x ∷ ys) ys) ≡ g x + n
  dropped_at g x ys n true e h same = omega (arith, h e, same)
  dropped_at g x ys n false e h same = omega (arith, same)

  -- those that weigh nothing may go
  pub dropped_weigh : (g : A → ℕ) (xs : List A) → Each (λ x. p x ≡ true → g x ≡ 0) xs → total g (filter (λ x. not (p x)) xs) ≡ total g xs
  dropped_weigh g [] h = refl
  dropped_weigh g (x ∷ xs) h = dropped_at g x (filter (λ y. not (p y)) xs) (total g xs) (p x) refl h.0 (dropped_weigh g xs h.1)

module _ (q : Mine → Bool) (R : ℕ → ℕ → Type 0) where
  each_kept : (P : ℕ → Type 0) (w : Mine) (ws : List Mine) (b : Bool) → P w.owner.name → Each P (map name_in ws) → Each P (map name_in (cond b (w ∷ ws) ws))
  each_kept P w ws true p h = (p, h)
  each_kept P w ws false p h = h

  each_fewer : (P : ℕ → Type 0) (xs : List ℕ) (ws : List Mine) → Each P (xs ++ map name_in ws) → Each P (xs ++ map name_in (filter q ws))
  each_fewer P [] [] h = tt
  each_fewer P [] (w ∷ ws) h = each_kept P w (filter q ws) (q w) h.0 (each_fewer P [] ws h.1)
  each_fewer P (x ∷ xs) ws h = (h.0, each_fewer P xs ws h.1)

  pairs_kept : (w : Mine) (ws : List Mine) (b : Bool) → Each (R w.owner.name) (map name_in ws) → Pairs R (map name_in ws) → Pairs R (map name_in (cond b (w ∷ ws) ws))
  pairs_kept w ws true p h = (p, h)
  pairs_kept w ws false p h = h

  -- names of fewer TIME_WAITs still differ
  pub pairs_fewer : (xs : List ℕ) (ws : List Mine) → Pairs R (xs ++ map name_in ws) → Pairs R (xs ++ map name_in (filter q ws))
  pairs_fewer [] [] h = tt
  pairs_fewer [] (w ∷ ws) h = pairs_kept w (filter q ws) (q w) (each_fewer (R w.owner.name) [] ws h.0) (pairs_fewer [] ws h.1)
  pairs_fewer (x ∷ xs) ws h = (each_fewer (R x) xs ws h.0, pairs_fewer xs ws h.1)

and_bit : (a b : Bool) → cond {A = ℕ} a (cond {A = ℕ} b 1 0) 0 ≡ cond {A = ℕ} (a && b) 1 0
and_bit true b = refl
and_bit false b = refl

nothing_then : (b : Bool) → (not b && false) ≡ false
nothing_then true = refl
nothing_then false = refl

module _ (n : ℕ) (own : Own) (base : Flat) (shape : IsShape base.header) (moment : ℕ) where
  -- a TIME_WAIT that goes
  abbrev pub goes : Socket → Bool
  goes s = is_expired n moment s

  abbrev pub stays : Socket → Bool
  stays s = not (goes s)

  -- it is over, and the one of its name
  abbrev pub Due : Mine → Type 0
  Due w = (is_over moment w ≡ true) × IsOne own.waits w

  abbrev pub KeptHere : Tables → List Socket → Type 0
  KeptHere t xs = Kept n own base shape t xs

  -- these in turn: they are gone then, and were counted, and those that stay stay
  pub record Reaped (t : Tables) (xs : List Socket) (ws : List Mine) (count : ℕ) : Type 0 where
    pub tables : Tables
    pub sockets : List Socket
    pub number : ℕ
    pub runs : run t (reap_each ws count) ≡ Some (record { tables = tables; result = number })
    pub kept : KeptHere tables sockets
    pub counts : number + total (ind goes) sockets ≡ count + total (ind goes) xs
    pub rest : filter stays sockets ≡ filter stays xs
    pub gone : Each (λ (w : Mine). list_any (has_name w.owner.name) sockets ≡ false) ws
    pub fewer : (k : ℕ) → list_any (has_name k) xs ≡ false → list_any (has_name k) sockets ≡ false

  module _ (ws : List Mine) (t : Tables) (xs : List Socket) (k : KeptHere t xs) (count : ℕ)
      (later : (t' : Tables) (xs' : List Socket) → KeptHere t' xs' → (count' : ℕ) → Reaped t' xs' ws count') where
    -- nobody is there
    not_there : (w : Mine) → find (has_name w.owner.name) xs ≡ None → Reaped t xs (w ∷ ws) count
    not_there w e =
        let none : list_any (has_name w.owner.name) xs ≡ false = none_there (has_name w.owner.name) xs e in
        let card = card_of kinds.TimeWait w in
        let is : waiting t.chains card ≡ None = none_waits t.chains (at n own base shape xs) k.tables.chains card none in
        let r : Reaped t xs ws count = later t xs k count in
        record {
          tables = r.tables;
          sockets = r.sockets;
          number = r.number;
          runs = ap (λ (o : Option Hashed). run (with_chains t (reaped t.chains card o)) (reaped_next w count (reap_each ws) (was_found o))) is ∙ r.runs;
          kept = r.kept;
          counts = r.counts;
          rest = r.rest;
          gone = (r.fewer w.owner.name none, r.gone);
          fewer = r.fewer;
        }

    -- it is there, and goes
    is_there : (s : Socket) (place : Place) → find (has_name s.owner.name) xs ≡ Some s → WaitIs n own base shape (record { owner = s.owner; extra = s.stamp; place = place }) s → expired s.stamp moment ≡ true
        → Reaped t xs (record { owner = s.owner; extra = s.stamp; place = place } ∷ ws) count
    is_there s place found is over =
        let w : Mine = record { owner = s.owner; extra = s.stamp; place = place } in
        let state : s.owner.state ≡ states.TimeWait = is_waiting s.owner.state (and_parts (is_time_wait s.owner.state) (s.owner.name / 2 ^ 56 == n) is.waits).0 in
        let card = card_of kinds.TimeWait w in
        let there = hashed_there n own base shape t xs k s place found state is.shut in
        let after : Tables = tables_after n own base shape t xs k s place found state is.shut in
        let left : List Socket = without s.owner.name xs in
        let r : Reaped after left ws (count + 1) = later after left (kept_after n own base shape t xs k s place found state is.shut) (count + 1) in
        let due : goes s ≡ true = and_from (is_wait_of n s) (expired s.stamp moment) is.waits over in
        record {
          tables = r.tables;
          sockets = r.sockets;
          number = r.number;
          runs = ap (λ (o : Option Hashed). run (with_chains t (reaped t.chains card o)) (reaped_next w count (reap_each ws) (was_found o))) there.1 ∙ r.runs;
          kept = r.kept;
          counts = omega (arith, r.counts, without_weighs s.owner.name (ind goes) s xs k.names found, ap (λ (b : Bool). cond {A = ℕ} b 1 0) due);
          rest = r.rest
              ∙ filter_without s.owner.name stays xs
              (each_weaken (λ (x : Socket). has_name s.owner.name x ≡ true → x ≡ s) (λ (x : Socket). has_name s.owner.name x ≡ true → stays x ≡ false) xs
              (λ x only e. ap stays (only e) ∙ ap not due) (only_listed s.owner.name xs s k.names found));
          gone = (r.fewer s.owner.name (no_name_left s.owner.name xs), r.gone);
          fewer = λ j none. r.fewer j (any_without j s.owner.name xs ∙ (ap (λ (b : Bool). not (j == s.owner.name) && b) none ∙ nothing_then (j == s.owner.name)));
        }

    reap_by : (w : Mine) → Due w → (o : Option Socket) → find (has_name w.owner.name) xs ≡ o → Reaped t xs (w ∷ ws) count
    reap_by w due None e = not_there w e
    reap_by w due (Some s) e =
        let is : WaitIs n own base shape w s = wait_is n own base shape t xs k w due.1 s e in
        let same : w ≡ record { owner = s.owner; extra = s.stamp; place = w.place } = λ i. record { owner = is.owner i; extra = is.stamp i; place = w.place } in
        subst (λ (x : Mine). Reaped t xs (x ∷ ws) count) (sym same)
        (is_there s w.place (subst (λ (a : Owner). find (has_name a.name) xs ≡ Some s) is.owner e) (subst (λ (x : Mine). WaitIs n own base shape x s) same is)
        (subst (λ (stamp : ℕ). expired stamp moment ≡ true) is.stamp due.0))

  -- those that are due, in turn
  pub reap_all : (ws : List Mine) → Each Due ws → (t : Tables) (xs : List Socket) → KeptHere t xs → (count : ℕ) → Reaped t xs ws count
  reap_all [] due t xs k count = record {
    tables = t;
    sockets = xs;
    number = count;
    runs = refl;
    kept = k;
    counts = refl;
    rest = refl;
    gone = tt;
    fewer = λ j none. none;
  }
  reap_all (w ∷ ws) due t xs k count = reap_by ws t xs k count (λ t' xs' k' count'. reap_all ws due.1 t' xs' k' count') w due.0 (find (has_name w.owner.name) xs) refl

module _ (n : ℕ) (own : Own) (t : Tables) (flat : Flat) (h : Means n own t flat) where
  abbrev due : List Mine
  due = filter (is_over own.moment) own.waits

  abbrev kept : List Mine
  kept = kept_waits own.waits own.moment

  begun : Kept n own flat h.shape t flat.sockets
  begun = record { tables = h.tables; own_is = h.own_is; names = h.sound.names; awake = h.sound.awake; sharing = h.sound.grouped.sharing }

  all_due : Each (Due n own flat h.shape own.moment) due
  all_due =
      each_both (λ (w : Mine). is_over own.moment w ≡ true) (IsOne own.waits) due (each_passes (is_over own.moment) own.waits)
      (each_filter (IsOne own.waits) (is_over own.moment) own.waits (all_one own.waits (pairs_back (λ (a b : ℕ). a ≢ b) (map name_in own.sockets) (map name_in own.waits) h.own_is.names)))

  ended : Reaped n own flat h.shape own.moment t flat.sockets due 0
  ended = reap_all n own flat h.shape own.moment due all_due t flat.sockets begun 0

  -- none that is over is in the list any more
  all_gone : Each (λ (w : Mine). is_over own.moment w ≡ true → list_any (has_name w.owner.name) ended.sockets ≡ false) own.waits
  all_gone = each_if (is_over own.moment) (λ (w : Mine). list_any (has_name w.owner.name) ended.sockets ≡ false) own.waits ended.gone

  abbrev over : Owner → ℕ → ℕ
  over a stamp = cond (expired stamp own.moment) 1 0

  weighs_over : (w : Mine) (b : Bool) → is_over own.moment w ≡ b → (is_over own.moment w ≡ true → list_any (has_name w.owner.name) ended.sockets ≡ false) → weighs_if_there over ended.sockets w ≡ 0
  weighs_over w true e gone = ap (λ (b : Bool). cond {A = ℕ} b (over w.owner w.extra) 0) (gone e)
  weighs_over w false e gone =
      ap (λ (b : Bool). cond {A = ℕ} (list_any (has_name w.owner.name) ended.sockets) (cond {A = ℕ} b 1 0) 0) e ∙ nothing_at (list_any (has_name w.owner.name) ended.sockets)

  none_goes : total (ind (goes n own flat h.shape own.moment)) ended.sockets ≡ 0
  none_goes =
      sym (total_same (weighs_as_wait over n) (ind (goes n own flat h.shape own.moment)) ended.sockets (λ s. and_bit (is_wait_of n s) (expired s.stamp own.moment)))
      ∙ (sym (ended.kept.own_is.waits over)
      ∙ total_zero (weighs_if_there over ended.sockets) own.waits
      (each_weaken (λ (w : Mine). is_over own.moment w ≡ true → list_any (has_name w.owner.name) ended.sockets ≡ false) (λ (w : Mine). weighs_if_there over ended.sockets w ≡ 0) own.waits
      (λ w g. weighs_over w (is_over own.moment w) refl g) all_gone))

  abbrev rest_of : ℕ → List Socket
  rest_of moment = filter (λ s. not (is_expired n moment s)) flat.sockets

  left_is : ended.sockets ≡ rest_of own.moment
  left_is = sym (all_kept (goes n own flat h.shape own.moment) ended.sockets none_goes) ∙ ended.rest

  count_same : ended.number ≡ count_by (is_expired n own.moment) flat.sockets
  count_same = omega (arith, ended.counts, none_goes, count_is (is_expired n own.moment) flat.sockets)

  own_then : OwnMeans n (record own { waits = kept }) ended.tables (with_sockets flat ended.sockets)
  own_then =
      let o : OwnMeans n own ended.tables (with_sockets flat ended.sockets) = ended.kept.own_is in
      record {
        number = o.number;
        unmarked = o.unmarked;
        section = o.section;
        range = o.range;
        offset = o.offset;
        sockets = o.sockets;
        stand = o.stand;
        waits = λ f.
            dropped_weigh (is_over own.moment) (weighs_if_there f ended.sockets) own.waits
            (each_weaken (λ (w : Mine). is_over own.moment w ≡ true → list_any (has_name w.owner.name) ended.sockets ≡ false) (λ (w : Mine). is_over own.moment w ≡ true → weighs_if_there f ended.sockets w ≡ 0) own.waits
            (λ w g e. ap (λ (b : Bool). cond {A = ℕ} b (f w.owner w.extra) 0) (g e)) all_gone)
            ∙ o.waits f;
        names = pairs_fewer (λ w. not (is_over own.moment w)) (λ (a b : ℕ). a ≢ b) (map name_in own.sockets) own.waits o.names;
        given = each_filter (λ (w : Mine). IsNameOf n _ w.owner.name) (λ w. not (is_over own.moment w)) own.waits o.given;
      }

  abbrev out_at : ℕ → Outcome
  out_at moment = unchanged (with_sockets flat (rest_of moment)) (replies.Count (count_by (is_expired n moment) flat.sockets))

  abbrev next : ℕ → Asking Replied
  next count = ends (answers (record own { waits = kept }) (replies.Count count))

  here : Carried n t (reap_command own) (out_at own.moment)
  here = record {
    ended = record { tables = ended.tables; result = answers (record own { waits = kept }) (replies.Count ended.number) };
    runs = run_and_then next t (reap own.waits own.moment) ∙ ap (goes_on next) ended.runs;
    reply = ap replies.Count count_same;
    means = λ sound.
        subst (λ (xs : List Socket). IsSound (with_sockets flat xs) → Means n (record own { waits = kept }) ended.tables (with_sockets flat xs)) left_is
        (λ s. record { shape = h.shape; sound = s; tables = ended.kept.tables; own_is = own_then }) sound;
  }

  -- `reap`
  pub reap_mine : Carried n t (reap_command own) (reap_step flat n)
  reap_mine = subst (λ (moment : ℕ). Carried n t (reap_command own) (out_at moment)) (sym (same_moment n own t flat h.own_is)) here
