-- What becomes of lists in the turn in which an owner listens, or leaves.
use Rattle.std.proofs.Common.{◌≡◌, inl, inr, ℕ, ◌+◌, ◌%◌, Bool, true, false, List, [], ◌∷◌, ◌++◌, map, Option, Result, Ok, Err, refl, sym, ap, subst, ◌∙◌, append_assoc}
use Rattle.std.proofs.lemmas.List.{map-append}
use Rattle.std.specs.Option.{option_map_or}
use Rattle.sock_card.specs.Conflict.{owner_key}
use Rattle.list_words.specs.Lists.{Each}
use Rattle.list_words.proofs.EachLemmas.{each_append, each_weaken}
use Rattle.sock_card.specs.declared.owner.Owner.{Owner}
use Rattle.sock_card.specs.Became.{as_listener}
use Rattle.turn_table.specs.Journals.{placed}
use Rattle.turn_table.specs.Passes as words
use Rattle.turn_table.specs.Passes.{known}
use Rattle.chain_book.specs.declared.outcome.Place.{Place}
use Rattle.bind_buckets.specs.declared.request.Request.TheVariants as requests
use Rattle.bind_buckets.specs.declared.request.Answer.TheVariants as answers
use Rattle.bind_buckets.specs.declared.request.Entry.{Entry}
use Rattle.bind_buckets.specs.Notes.{Note}
use Rattle.bind_buckets.specs.Bucket.{IsSound, entries_of, entry_of}
use Rattle.bind_buckets.specs.Journal.{replayed}
use Rattle.bind_buckets.specs.OwnerStep.{empty}
use Rattle.bind_buckets.specs.Turned.{View, Hash, Pass, Out, Gave, IsOut, Within, Asks, made}
use Rattle.bind_buckets.proofs.Told.{listens_held}
use Rattle.reuseport_group.specs.declared.pass.GroupPasses.{GroupPasses}
use Rattle.table_model.specs.declared.operation.OpEnd.{OpEnd}
use Rattle.table_model.specs.Own.{Mine}
use Rattle.sock_ops.specs.declared.sock.Sock.TheVariants as socks
use Rattle.sock_ops.specs.Closes.{leave_entry}
use Rattle.sock_ops.specs.Goes.{AskedAll}
use Rattle.sock_ops.specs.Groups.{Follows, ListsIn, ListensAs, LeavesAs, StartsLists, StartsUnbound, ListsOfListen, KeepsListed, SparesLists}
use Rattle.sock_ops.specs.Listens.{IsAskedListen, TellsAs, asked_listen, said_listen, listen_answer}
use Rattle.sock_ops.specs.Socks.{listening_at, without_socket}
use Rattle.sock_ops.proofs.Lists.{Spares, one_more, held_by, lists_in, turn_keeps, all_spares, sparing_same, replayed_both}

-- An owner leaves

pub leaves_as : (t : Hash) (p : Pass) (turn : Out) (q : Pass) (after : Out) (a : Owner) (v w : View) (group : Option ℕ) (g0 g1 : GroupPasses)
    → IsSound turn.value.value → IsSound after.value.value → IsOut t p turn → Asks t p turn q after (requests.Remove a.name) answers.Done
    → Within v (known q) → Gave v w (map (placed after.place) (made q after)) → Follows turn.place group turn.value.value.held after.value.value.held g0 g1
    → LeavesAs turn.place a w g0 g1
leaves_as t p turn q after a v w group g0 g1 sound ended out asks within gave follows =
    let b = turn.value.value in
    let k = after.value.value in
    let more = one_more t p turn q after (requests.Remove a.name) answers.Done asks in
    let at = asks.place in
    record {
      group = group;
      lists = subst (λ i. ListsIn i (leave_entry a ∷ []) group w g0 g1) at
          (lists_in t q after v w b.held b.journal (more.note ∷ []) (leave_entry a ∷ []) group g0 g1 asks.out ended within gave
          (held_by b after.place b.journal sound (out.number_is ∙ sym at) refl) more.journal (ap (λ (e : Entry). e ∷ []) more.entry_is)
          (subst (λ i. Follows i group b.held k.held g0 g1) (sym at) follows));
    }

pub left_keeps : (count place : ℕ) (a : Owner) (v w : View) (p q : GroupPasses) → AskedAll place (leave_entry a ∷ []) v w → LeavesAs place a w p q → KeepsListed count v w p q
left_keeps count place a v w p q all l =
    turn_keeps count place [] (leave_entry a ∷ []) (leave_entry a ∷ []) l.group v w p q tt all l.lists refl

-- An owner listens

-- the last note of those that a turn made
record LastNote (e : Entry) (ms : List Note) : Type 0 where
  front : List Note
  last : Note
  split : ms ≡ front ++ last ∷ []
  is : last.entry ≡ e

last_note : (es : List Entry) (e : Entry) (ms : List Note) → entries_of ms ≡ es ++ e ∷ [] → LastNote e ms
last_note [] e [] told = absurd (cc)
last_note [] e (m ∷ []) told = record { front = []; last = m; split = refl; is = cc }
last_note [] e (m ∷ n ∷ ms) told = absurd (cc)
last_note (f ∷ es) e [] told = absurd (cc)
last_note (f ∷ es) e (m ∷ ms) told =
    let rest : entries_of ms ≡ es ++ e ∷ [] = cc in
    let more = last_note es e ms rest in
    record { front = m ∷ more.front; last = more.last; split = ap (λ ns. m ∷ ns) more.split; is = more.is }

pub listens_in : (t : Hash) (p : Pass) (turn : Out) (q : Pass) (after : Out) (a : Owner) (slot : ℕ) (v w : View) (group : Option ℕ) (es : List Entry) (g0 g1 : GroupPasses)
    → IsSound turn.value.value → IsSound after.value.value → IsOut t p turn → Asks t p turn q after (requests.Listen a.name slot) answers.Done
    → entries_of (made p turn) ≡ es ++ asked_listen a (answers.Group group) ∷ []
    → Within v (known q) → Gave v w (map (placed after.place) (made q after)) → Follows turn.place group turn.value.value.held after.value.value.held g0 g1
    → ListsIn turn.place (asked_listen a (answers.Group group) ∷ said_listen a slot ∷ []) group w g0 g1
listens_in t p turn q after a slot v w group es g0 g1 sound ended out asks only within gave follows =
    let b = turn.value.value in
    let k = after.value.value in
    let asked = asked_listen a (answers.Group group) in
    let two = asked ∷ said_listen a slot ∷ [] in
    let n = last_note es asked (made p turn) only in
    let before : List Note = words.found p ++ n.front in
    let more = one_more t p turn q after (requests.Listen a.name slot) answers.Done asks in
    let at = asks.place in
    let i = after.place in
    let grown : b.journal ≡ before ++ n.last ∷ [] =
    out.grown ∙ ap (λ (xs : List Note). words.found p ++ xs) n.split ∙ sym (append_assoc (words.found p) n.front (n.last ∷ [])) in
    let journal : k.journal ≡ before ++ (n.last ∷ more.note ∷ []) =
    more.journal ∙ ap (λ (xs : List Note). xs ++ more.note ∷ []) grown ∙ append_assoc before (n.last ∷ []) (more.note ∷ []) in
    let told : entries_of (n.last ∷ more.note ∷ []) ≡ two =
    ap (λ (e : Entry). e ∷ more.note.entry ∷ []) n.is ∙ ap (λ (e : Entry). asked ∷ e ∷ []) more.entry_is in
    let began : b.held ≡ replayed i (entries_of before) =
    held_by b i (before ++ n.last ∷ []) sound (out.number_is ∙ sym at) grown
    ∙ ap (replayed i) (map-append entry_of before (n.last ∷ []) ∙ ap (λ (e : Entry). entries_of before ++ e ∷ []) n.is)
    ∙ replayed_both i empty (entries_of before) (asked ∷ []) ∙ listens_held i (replayed i (entries_of before)) a.name in
    subst (λ m. ListsIn m two group w g0 g1) at
    (lists_in t q after v w b.held before (n.last ∷ more.note ∷ []) two group g0 g1 asks.out ended within gave began journal told
    (subst (λ m. Follows m group b.held k.held g0 g1) (sym at) follows))

pub listens_as : (place : ℕ) (a : Owner) (l : Mine) (listener : Owner) (extra : ℕ) (at : Place) (group : Option ℕ) (w : View) (p q : GroupPasses)
    → listener ≡ as_listener a → extra ≡ option_map_or (λ (number : ℕ). number + 1) group 0 → l ≡ listening_at listener extra at
    → ListsIn place (asked_listen a (answers.Group group) ∷ said_listen a at.slot ∷ []) group w p q → ListensAs place l w p q
listens_as place a l listener extra at group w p q own told is lists =
    subst (λ (x : Mine). ListensAs place x w p q) (sym is)
    (subst (λ (o : Owner). ListensAs place (listening_at o extra at) w p q) (sym own) (record { group = group; extra = told; lists = lists }))

asked_spares : (a : Owner) (first : List Entry) → Each (IsAskedListen a) first → Each Spares first
asked_spares a first s =
    each_weaken (IsAskedListen a) Spares first (λ e is. subst SparesLists (sym is) tt) s

module _ (count place : ℕ) (a : Owner) (v w : View) (p q : GroupPasses) where
  pub start_keeps : (took : Bool) (r : Result Mine OpEnd) → TellsAs place a took v w r → StartsLists took place a w p q r → KeepsListed count v w p q
  start_keeps took (Ok l) tells lists =
      turn_keeps count place [] (asked_listen a (answers.Group tells.group) ∷ said_listen a tells.slot ∷ []) (asked_listen l.owner (answers.Group lists.group) ∷ said_listen l.owner l.place.slot ∷ [])
      lists.group v w p q tt tells.asked lists.lists refl
  start_keeps true (Err end) tells lists =
      turn_keeps count place tells.first (leave_entry a ∷ []) (leave_entry a ∷ []) lists.group v w p q (asked_spares a tells.first tells.listens) tells.asked lists.lists refl
  start_keeps false (Err end) tells lists =
      sparing_same count v w p q lists
      (all_spares place (tells.first ++ []) v w tells.asked (each_append Spares tells.first [] (asked_spares a tells.first tells.listens) tt))

module _ (n : ℕ) (a : Owner) (v w : View) (p q : GroupPasses) where
  listens_there : (took : Bool) (l : Mine) → TellsAs (owner_key a % n) a took v w (Ok l) → ListensAs (owner_key a % n) l w p q → ListensAs (owner_key l.owner % n) l w p q
  listens_there took l tells lists = subst (λ i. ListensAs i l w p q) (ap (λ (o : Owner). owner_key o % n) (sym tells.owner)) lists

  pub taken_lists : (name : ℕ) (r : Result Mine OpEnd) → a.name ≡ name → TellsAs (owner_key a % n) a true v w r → StartsLists true (owner_key a % n) a w p q r → StartsUnbound n name w p q r
  taken_lists name (Ok l) is tells lists = listens_there true l tells lists
  taken_lists name (Err end) is tells lists = inr (record { a = a; name_is = is; leaves = lists })

  pub bound_lists : (s : Mine) (r : Result Mine OpEnd) → TellsAs (owner_key a % n) a false v w r → StartsLists false (owner_key a % n) a w p q r → ListsOfListen n (socks.Bound s) w p q (without_socket (listen_answer (socks.Bound s) r))
  bound_lists s (Ok l) tells lists = listens_there false l tells lists
  bound_lists s (Err end) tells lists = inl lists
