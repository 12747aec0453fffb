-- Who stands after `listen`.
use Rattle.std.proofs.Common.{◌≡◌, ◌≢◌, ℕ, ◌%◌, inl, inr, Bool, true, false, List, [], ◌∷◌, ◌++◌, Option, None, Result, Ok, Err, IfOk, OnErr, refl, sym, ap, subst, ◌∙◌, append-nil}
use mathlib.Core.Logic.{dite}
use native.Mathlib.Decide.{ℕ_discrete}
use Rattle.sock_card.specs.Conflict.{owner_key, bind_key}
use Rattle.list_words.specs.Lists.{Each}
use Rattle.list_words.proofs.EachLemmas.{each_append}
use Rattle.sock_card.specs.declared.owner.Owner.{Owner}
use Rattle.sock_card.specs.Became.{as_listener}
use Rattle.turn_table.specs.declared.note.Placed.{Placed}
use Rattle.bind_buckets.specs.declared.request.Request.{Request}
use Rattle.bind_buckets.specs.declared.request.Request.TheVariants as requests
use Rattle.bind_buckets.specs.declared.request.Answer.{Answer}
use Rattle.bind_buckets.specs.declared.request.Answer.TheVariants as answers
use Rattle.bind_buckets.specs.declared.request.Entry.{Entry}
use Rattle.bind_buckets.specs.OwnTold.{StandsOwn}
use Rattle.bind_buckets.specs.Turned.{View, Gave, IsAsked}
use Rattle.sock_card.specs.declared.card.Kind.TheVariants as kinds
use Rattle.flat_list.specs.Owned.{bound_at}
use Rattle.port_search.specs.Turned.{BindsAt}
use Rattle.sock_ops.specs.Sides.{Side}
use Rattle.table_model.specs.declared.operation.OpEnd.{OpEnd}
use Rattle.table_model.specs.Own.{Mine}
use Rattle.sock_ops.specs.declared.sock.Sock.{Sock}
use Rattle.sock_ops.specs.declared.sock.Sock.TheVariants as socks
use Rattle.sock_ops.specs.declared.tables.Tables.{Tables}
use Rattle.sock_ops.specs.Goes.{AreAsked, AskedAll, gone_if}
use Rattle.sock_ops.specs.Listens.{IsAskedListen, Tells, TellsNot, TellsAs, asked_listen, said_listen, listen_answer}
use Rattle.sock_ops.specs.Stands.{IsAway, IsHashed, Knows, StandsAs, buckets_of}
use Rattle.sock_ops.proofs.Goes.{all_two}
use Rattle.sock_ops.proofs.BindGoes.{search_came, all_quiet as refused_quiet}
use Rattle.sock_ops.proofs.Knows.{AllQuiet, Came, IsQuiet, Passes, after, all_pass, asked_quiet, came_on, came_stands, changes, goes, grows, grows_first, grows_rest, knows_on, stands_on, changed_next}

module _ (place : ℕ) (a : Owner) (v w : View) where
  -- what was asked
  pub told_so : (m : Mine) (group : Option ℕ) (slot : ℕ) → m.owner ≡ as_listener a → AskedAll place (asked_listen a (answers.Group group) ∷ said_listen a slot ∷ []) v w → Tells place a v w m
  told_so m group slot owner all = record { group = group; slot = slot; owner = owner; asked = all }

  pub first_told : (took : Bool) (answer : Answer) → AskedAll place (asked_listen a answer ∷ gone_if took a) v w → TellsNot place a took v w
  first_told took answer all = record { first = asked_listen a answer ∷ []; listens = (refl, tt); asked = all }

  pub none_told : (took : Bool) → AskedAll place (gone_if took a) v w → TellsNot place a took v w
  none_told took all = record { first = []; listens = tt; asked = all }

  -- an owner that listens stands
  pub tells_stand : (m : Mine) → StandsOwn a place v → Tells place a v w m → StandsOwn m.owner place w
  tells_stand m s t =
      let e = asked_listen a (answers.Group t.group) in
      let f = said_listen a t.slot in
      let two = all_two place e f v w t.asked in
      let g = grows v w (two.x ∷ two.y ∷ []) two.gave in
      let mid = after v (two.x ∷ []) in
      let quiet = asked_quiet place e.request e.answer two.x two.is_x tt in
      let first = stands_on a place v mid (two.x ∷ []) s (grows_first v w (two.x ∷ []) (two.y ∷ []) g) (inr quiet, tt) in
      let last = changes a as_listener place f.request mid w two.y (λ y. refl) (λ mine owners it. changed_next owners _ (mine a.name) it) (λ mine. tt) first (grows_rest v w (two.x ∷ []) (two.y ∷ []) g) two.is_y in
      subst (λ (o : Owner). StandsOwn o place w) (sym t.owner) last

  quiet_by : (e : Entry) (x : Placed Entry) → IsAsked place e.request e.answer x → IsAskedListen a e → IsQuiet x.note.entry.request x.note.entry.answer
  quiet_by e x is listens = asked_quiet place e.request e.answer x is (subst (λ (r : Request). IsQuiet r e.answer) (sym listens) tt)

  all_quiet : (es : List Entry) (xs : List (Placed Entry)) → AreAsked place es xs → Each (IsAskedListen a) es → AllQuiet xs
  all_quiet [] [] are listens = tt
  all_quiet [] (x ∷ xs) are listens = absurd are
  all_quiet (e ∷ es) [] are listens = absurd are
  all_quiet (e ∷ es) (x ∷ xs) are listens = (quiet_by e x are.0 listens.0, all_quiet es xs are.1 listens.1)

  -- one that was refused stands as it stood
  pub tells_not_stand : StandsOwn a place v → TellsNot place a false v w → StandsOwn a place w
  tells_not_stand s t =
      let asked = subst (λ es. AskedAll place es v w) (append-nil t.first) t.asked in
      stands_on a place v w asked.xs s (grows v w asked.xs asked.gave) (all_pass place asked.xs (all_quiet t.first asked.xs asked.asked t.listens))

  -- some questions, and then one more
  record Apart (es : List Entry) (f : Entry) (xs : List (Placed Entry)) : Type 0 where
    front : List (Placed Entry)
    last : Placed Entry
    split : xs ≡ front ++ last ∷ []
    are : AreAsked place es front
    is : IsAsked place f.request f.answer last

  apart : (es : List Entry) (f : Entry) (xs : List (Placed Entry)) → AreAsked place (es ++ f ∷ []) xs → Apart es f xs
  apart [] f [] are = absurd are
  apart [] f (x ∷ []) are = record { front = []; last = x; split = refl; are = tt; is = are.0 }
  apart [] f (x ∷ y ∷ xs) are = absurd are.1
  apart (e ∷ es) f [] are = absurd are
  apart (e ∷ es) f (x ∷ xs) are =
      let more = apart es f xs are.1 in
      record { front = x ∷ more.front; last = more.last; split = ap (λ ys. x ∷ ys) more.split; are = (are.0, more.are); is = more.is }

  all_else : (other : ℕ) (es : List Entry) (xs : List (Placed Entry)) → other ≢ place → AreAsked place es xs → Each (Passes other) xs
  all_else other [] [] ne are = tt
  all_else other [] (x ∷ xs) ne are = absurd are
  all_else other (e ∷ es) [] ne are = absurd are
  all_else other (e ∷ es) (x ∷ xs) ne are = (inl (λ here. ne (sym here ∙ are.0.place_is)), all_else other es xs ne are.1)

  -- one that was refused and whose port was taken is away again
  pub tells_not_away : Came a place v → ((other : ℕ) → other ≢ place → Knows a.name None other v) → TellsNot place a true v w → IsAway a.name w
  tells_not_away c elsewhere t = λ p. dite (ℕ_discrete p place) (λ same. subst (λ (i : ℕ). Knows a.name None i w) (sym same) here) (λ other. there p other)
    where
      xs : List (Placed Entry)
      xs = t.asked.xs

      here : Knows a.name None place w
      here =
          let f : Entry = record { request = requests.Remove a.name; answer = answers.Done } in
          let p = apart t.first f xs t.asked.asked in
          let g = subst (λ ys. Gave v w ys) p.split t.asked.gave in
          let grown = grows v w (p.front ++ p.last ∷ []) g in
          let mid = after v p.front in
          let still = came_on a place v mid p.front c (grows_first v w p.front (p.last ∷ []) grown) (all_pass place p.front (all_quiet t.first p.front p.are t.listens)) in
          goes a place mid w p.last still (grows_rest v w p.front (p.last ∷ []) grown) p.is

      there : (other : ℕ) → other ≢ place → Knows a.name None other w
      there other ne = knows_on a.name other None v w xs (elsewhere other ne) (grows v w xs t.asked.gave) (all_else other (t.first ++ gone_if true a) xs ne t.asked.asked)

-- an owner that a search bound, and that would listen
module _ (count : ℕ) (a : Owner) (v u w : View) (ports : List ℕ) (port : ℕ) (away : IsAway a.name v) (at : BindsAt count (bound_at a a.addr 0) ports v u port) where
  abbrev taken : Owner
  taken = bound_at a a.addr port

  came : Came taken (bind_key port a.net % count) u
  came = search_came count (bound_at a a.addr 0) v u ports port refl away at

  search_stands : StandsOwn taken (bind_key port a.net % count) u
  search_stands = came_stands taken (bind_key port a.net % count) u came

  elsewhere : (other : ℕ) → other ≢ bind_key port a.net % count → Knows a.name None other u
  elsewhere other ne =
      let b = bound_at a a.addr 0 in
      let xs = at.refused ++ at.last ∷ [] in
      let quiet = all_pass other at.refused (refused_quiet count b at.before at.refused refl at.refusals) in
      let pass = each_append (Passes other) at.refused (at.last ∷ []) quiet (inl (λ here. ne (sym here ∙ at.taken.place_is)), tt) in
      knows_on a.name other None v u xs (away other) (grows v u xs at.gave) pass

  pub taken_stands : (r : Result Mine OpEnd) → TellsAs (bind_key port a.net % count) taken true u w r → IfOk r (λ m. StandsOwn m.owner (owner_key m.owner % count) w)
  taken_stands (Ok m) t =
      subst (λ (p : ℕ). StandsOwn m.owner (p % count) w) (sym (ap (λ (o : Owner). owner_key o) t.owner)) (tells_stand (bind_key port a.net % count) taken u w m search_stands t)
  taken_stands (Err end) t = tt

  pub taken_kept : (r : Result Mine OpEnd) → TellsAs (bind_key port a.net % count) taken true u w r → OnErr r (IsAway a.name w)
  taken_kept (Ok m) t = tt
  taken_kept (Err end) t = tells_not_away (bind_key port a.net % count) taken u w came elsewhere t

-- a bound socket that would listen
module _ (t : Tables) (m : Mine) (v w : View) (d : Side) (s : Sock) (stands : StandsOwn m.owner (owner_key m.owner % buckets_of t) v) where
  pub bound_stands : (r : Result Mine OpEnd) → TellsAs (owner_key m.owner % buckets_of t) m.owner false v w r → IfOk r (λ l. IsHashed kinds.Listen l d) → IfOk (listen_answer s r) (λ x. StandsAs t x.0 w d)
  bound_stands (Ok l) told hashed =
      (subst (λ (p : ℕ). StandsOwn l.owner (p % buckets_of t) w) (sym (ap (λ (o : Owner). owner_key o) told.owner)) (tells_stand (owner_key m.owner % buckets_of t) m.owner v w l stands told), hashed)
  bound_stands (Err end) told hashed = tt

  pub bound_kept : (r : Result Mine OpEnd) → TellsAs (owner_key m.owner % buckets_of t) m.owner false v w r → OnErr (listen_answer s r) (StandsAs t (socks.Bound m) w d)
  bound_kept (Ok l) told = tt
  bound_kept (Err end) told = tells_not_stand (owner_key m.owner % buckets_of t) m.owner v w stands told
