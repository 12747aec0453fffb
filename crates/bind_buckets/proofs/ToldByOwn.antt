-- The owners of some names after a journal, from the entries about them.
use Rattle.std.proofs.Common.{◌≡◌, ℕ, Bool, true, false, cond, List, [], ◌∷◌, ◌++◌, filter, find, Some, None, Option, refl, sym, ◌∙◌, ap, append-nil}
use Rattle.std.specs.Option.{option_map, option_to_list}
use Rattle.std.proofs.lemmas.Bool.{eqb-true, and_parts}
use Rattle.std.proofs.lemmas.List.Elements.{filter-append}
use Rattle.list_words.specs.Lists.{Each}
use Rattle.sock_card.specs.declared.owner.Owner.{Owner}
use Rattle.sock_card.specs.Conflict.{overlap, refuses, is_time_wait}
use Rattle.bind_buckets.specs.declared.request.Request.{Request}
use Rattle.bind_buckets.specs.declared.request.Request.TheVariants as requests
use Rattle.bind_buckets.specs.declared.request.Answer.{Answer}
use Rattle.bind_buckets.specs.declared.request.Answer.TheVariants as answers
use Rattle.bind_buckets.specs.declared.request.Entry.{Entry}
use Rattle.bind_buckets.specs.First.{change_first, drop_first}
use Rattle.sock_card.specs.Became.{as_listener, connected, child, as_waiting}
use Rattle.sock_card.specs.Conflict.{holds}
use Rattle.bind_buckets.specs.OwnerStep.{Held, owner_step, has_name, free_answer, admitted, spoken, may_listen, listening, changed, with_owner, removed, without_waiting, waits_as, empty}
use Rattle.bind_buckets.specs.Journal.{IsLegalFrom, replayed_from, replayed}
use Rattle.bind_buckets.specs.Followed.{done_by, told, told_from, speaks_of, IsWhole, is_mine, is_about, ToldByTheirOwn, FirstIsTold}
use Rattle.bind_buckets.proofs.Filtered.{filter_change, filter_drop, find_filtered, unseen_change, unseen_drop}

bind_told : (h : Held) (a : Owner) (o : Option Owner) → (admitted h a o).held.owners ≡ told h.owners (requests.Bind a) (admitted h a o).answer
bind_told h a None = refl
bind_told h a (Some other) = refl

auto_told : (h : Held) (a : Owner) (o : Option Owner) → (admitted h a o).held.owners ≡ told h.owners (requests.BindAuto a) (admitted h a o).answer
auto_told h a None = refl
auto_told h a (Some other) = refl

free_told : (owners : List Owner) (port net : ℕ) (answer : Answer) → owners ≡ told owners (requests.Free port net) answer
free_told owners port net answers.Done = refl
free_told owners port net _ = refl

-- the question whether one may listen changes no owner, whatever the answer
pub asked_told : (owners : List Owner) (name : ℕ) (answer : Answer) → told owners (requests.MayListen name) answer ≡ owners
asked_told owners name answers.Done = refl
asked_told owners name _ = refl

may_told : (n : ℕ) (h : Held) (name : ℕ) (o : Option Owner) → (spoken h name o (may_listen n h name)).held.owners ≡ told h.owners (requests.MayListen name) (spoken h name o (may_listen n h name)).answer
may_told n h name None = refl
may_told n h name (Some a) = sym (asked_told h.owners name _)

listen_told : (h : Held) (name slot : ℕ) (o : Option Owner) → (spoken h name o (listening h name slot)).held.owners ≡ told h.owners (requests.Listen name slot) (spoken h name o (listening h name slot)).answer
listen_told h name slot None = refl
listen_told h name slot (Some a) = refl

connect_told : (h : Held) (name local remote rport : ℕ) (o : Option Owner) → let after = spoken h name o (λ _. changed h name (connected local remote rport) h.groups) in after.held.owners ≡ told h.owners (requests.ConnectBound name local remote rport) after.answer
connect_told h name local remote rport None = refl
connect_told h name local remote rport (Some a) = refl

inherit_told : (h : Held) (parent name mark local remote rport : ℕ) (o : Option Owner) → find (has_name parent) h.owners ≡ o → let after = spoken h parent o (λ listener. with_owner h (child name mark local remote rport listener)) in after.held.owners ≡ told h.owners (requests.Inherit parent name mark local remote rport) after.answer
inherit_told h parent name mark local remote rport None q = refl
inherit_told h parent name mark local remote rport (Some a) q = rw q refl

remove_told : (h : Held) (name : ℕ) (o : Option Owner) → let after = spoken h name o (λ _. removed h name) in after.held.owners ≡ told h.owners (requests.Remove name) after.answer
remove_told h name None = refl
remove_told h name (Some a) = refl

wait_told : (h : Held) (name : ℕ) (o : Option Owner) → let after = spoken h name o (λ _. changed h name as_waiting h.groups) in after.held.owners ≡ told h.owners (requests.ToTimeWait name) after.answer
wait_told h name None = refl
wait_told h name (Some a) = refl

reaped_told : (h : Held) (name : ℕ) (o : Option Owner) → let after = spoken h name o (λ _. without_waiting h name) in after.held.owners ≡ told h.owners (requests.RemoveWaiting name) after.answer
reaped_told h name None = refl
reaped_told h name (Some a) = refl

-- a step's owners follow from its answer
step_told : (n : ℕ) (h : Held) (request : Request) → (owner_step n h request).held.owners ≡ told h.owners request (owner_step n h request).answer
unfolding owner_step
step_told n h (requests.Bind a) = bind_told h a (find (refuses a) h.owners)
step_told n h (requests.BindAuto a) = auto_told h a (find (overlap a) h.owners)
step_told n h (requests.MayListen name) = may_told n h name (find (has_name name) h.owners)
step_told n h (requests.Listen name slot) = listen_told h name slot (find (has_name name) h.owners)
step_told n h (requests.Free port net) = free_told h.owners port net (free_answer (find (holds port net) h.owners))
step_told n h (requests.ConnectAuto a) = refl
step_told n h (requests.ConnectBound name local remote rport) =
    connect_told h name local remote rport (find (has_name name) h.owners)
step_told n h (requests.Inherit parent name mark local remote rport) =
    inherit_told h parent name mark local remote rport (find (has_name parent) h.owners) refl
step_told n h (requests.ToTimeWait name) = wait_told h name (find (has_name name) h.owners)
step_told n h (requests.Remove name) = remove_told h name (find (has_name name) h.owners)
step_told n h (requests.RemoveWaiting name) = reaped_told h name (find (waits_as name) h.owners)

replay_told : (n : ℕ) (h : Held) (es : List Entry) → IsLegalFrom n h es → (replayed_from n h es).owners ≡ told_from h.owners es
replay_told n h [] legal = refl
replay_told n h (e ∷ es) legal =
    let next = (owner_step n h e.request).held in
    let same : next.owners ≡ told h.owners e.request e.answer = step_told n h e.request ∙ ap (told h.owners e.request) (sym legal.0) in
    replay_told n next es legal.2 ∙ ap (λ owners. told_from owners es) same

module _ (mine : ℕ → Bool) where
  abbrev m : Owner → Bool
  m a = is_mine mine a

  pub named_mine : (name : ℕ) (b : Bool) → mine name ≡ b → (a : Owner) → has_name name a ≡ true → m a ≡ b
  named_mine name b h a is = ap mine (eqb-true _ _ is) ∙ h

  waiting_mine : (name : ℕ) (b : Bool) → mine name ≡ b → (a : Owner) → waits_as name a ≡ true → m a ≡ b
  waiting_mine name b h a is = named_mine name b h a (and_parts (has_name name a) (is_time_wait a.state) is).0

  push_by : (owners : List Owner) (a : Owner) (b : Bool) → m a ≡ b → filter m (owners ++ a ∷ []) ≡ cond b (filter m owners ++ a ∷ []) (filter m owners)
  push_by owners a true q = rw (filter-append, q) refl
  push_by owners a false q = rw (filter-append, q) (append-nil (filter m owners))

  change_seen : (f : Owner → Owner) (owners : List Owner) (name : ℕ) (b : Bool) → ((a : Owner) → m (f a) ≡ m a) → mine name ≡ b → filter m (change_first (has_name name) f owners) ≡ cond b (change_first (has_name name) f (filter m owners)) (filter m owners)
  change_seen f owners name true same q =
      filter_change m (has_name name) (named_mine name true q) f owners same
  change_seen f owners name false same q =
      unseen_change m (has_name name) (named_mine name false q) f owners same

  drop_seen : (owners : List Owner) (name : ℕ) (b : Bool) → mine name ≡ b → filter m (drop_first (has_name name) owners) ≡ cond b (drop_first (has_name name) (filter m owners)) (filter m owners)
  drop_seen owners name true q = filter_drop m (has_name name) (named_mine name true q) owners
  drop_seen owners name false q = unseen_drop m (has_name name) (named_mine name false q) owners

  waiting_drop_seen : (owners : List Owner) (name : ℕ) (b : Bool) → mine name ≡ b → filter m (drop_first (waits_as name) owners) ≡ cond b (drop_first (waits_as name) (filter m owners)) (filter m owners)
  waiting_drop_seen owners name true q = filter_drop m (waits_as name) (waiting_mine name true q) owners
  waiting_drop_seen owners name false q = unseen_drop m (waits_as name) (waiting_mine name false q) owners

  cond_same : (b : Bool) (owners : List Owner) → owners ≡ cond b owners owners
  cond_same true owners = refl
  cond_same false owners = refl

  abbrev Seen : Request → Answer → List Owner → Type 0
  Seen request answer owners =
      filter m (told owners request answer) ≡ cond (speaks_of mine request) (told (filter m owners) request answer) (filter m owners)

  child_seen : (owners : List Owner) (name mark local remote rport : ℕ) (o : Option Owner) → mine name ≡ true → let own = option_to_list (option_map (child name mark local remote rport) o) in filter m (owners ++ own) ≡ filter m owners ++ own
  child_seen owners name mark local remote rport None q = filter-append m owners []
  child_seen owners name mark local remote rport (Some a) q = push_by owners (child name mark local remote rport a) true q

  child_unseen : (owners : List Owner) (name mark local remote rport : ℕ) (o : Option Owner) → mine name ≡ false → filter m (owners ++ option_to_list (option_map (child name mark local remote rport) o)) ≡ filter m owners
  child_unseen owners name mark local remote rport None q = ap (filter m) (append-nil owners)
  child_unseen owners name mark local remote rport (Some a) q = push_by owners (child name mark local remote rport a) false q

  inherit_seen : (owners : List Owner) (parent name mark local remote rport : ℕ) (b : Bool) → mine name ≡ b → (mine name ≡ true → mine parent ≡ true) → filter m (done_by owners (requests.Inherit parent name mark local remote rport)) ≡ cond b (done_by (filter m owners) (requests.Inherit parent name mark local remote rport)) (filter m owners)
  inherit_seen owners parent name mark local remote rport true q whole =
      rw (← find_filtered m (has_name parent) (named_mine parent true (whole q)) owners)
      (child_seen owners name mark local remote rport (find (has_name parent) owners) q)
  inherit_seen owners parent name mark local remote rport false q whole =
      child_unseen owners name mark local remote rport (find (has_name parent) owners) q

  done_seen : (request : Request) (owners : List Owner) → IsWhole mine request → Seen request answers.Done owners
  done_seen (requests.Bind a) owners whole = push_by owners a (m a) refl
  done_seen (requests.BindAuto a) owners whole = push_by owners a (m a) refl
  done_seen (requests.MayListen name) owners whole = cond_same (mine name) (filter m owners)
  done_seen (requests.Listen name slot) owners whole = change_seen as_listener owners name (mine name) (λ a. refl) refl
  done_seen (requests.Free port net) owners whole = refl
  done_seen (requests.ConnectAuto a) owners whole = push_by owners a (m a) refl
  done_seen (requests.ConnectBound name local remote rport) owners whole =
      change_seen (connected local remote rport) owners name (mine name) (λ a. refl) refl
  done_seen (requests.Inherit parent name mark local remote rport) owners whole =
      inherit_seen owners parent name mark local remote rport (mine name) refl whole
  done_seen (requests.ToTimeWait name) owners whole = change_seen as_waiting owners name (mine name) (λ a. refl) refl
  done_seen (requests.Remove name) owners whole = drop_seen owners name (mine name) refl
  done_seen (requests.RemoveWaiting name) owners whole = waiting_drop_seen owners name (mine name) refl

  -- owners of the names that are looked at, after a request
  step_seen : (request : Request) (answer : Answer) (owners : List Owner) → IsWhole mine request → Seen request answer owners
  step_seen request answers.Done owners whole = done_seen request owners whole
  step_seen request _ owners whole = cond_same (speaks_of mine request) (filter m owners)

  followed : (b : Bool) (e : Entry) (rest : List Entry) (owners : List Owner) → told_from (cond b (told owners e.request e.answer) owners) rest ≡ told_from owners (cond b (e ∷ rest) rest)
  followed true e rest owners = refl
  followed false e rest owners = refl

  pub told_seen : (es : List Entry) (owners : List Owner) → Each (λ (e : Entry). IsWhole mine e.request) es → filter m (told_from owners es) ≡ told_from (filter m owners) (filter (is_about mine) es)
  told_seen [] owners whole = refl
  told_seen (e ∷ es) owners whole =
      told_seen es (told owners e.request e.answer) whole.1
      ∙ ap (λ owners. told_from owners (filter (is_about mine) es)) (step_seen e.request e.answer owners whole.0)
      ∙ followed (speaks_of mine e.request) e (filter (is_about mine) es) (filter m owners)

pub told_by_their_own : ToldByTheirOwn
told_by_their_own number mine entries legal whole =
    ap (filter (is_mine mine)) (replay_told number empty entries legal) ∙ told_seen mine entries [] whole

pub first_is_told : FirstIsTold
first_is_told number mine name entries q legal whole =
    find_filtered (is_mine mine) (has_name name) (named_mine mine name true q) (replayed number entries).owners
    ∙ ap (find (has_name name)) (told_by_their_own number mine entries legal whole)
