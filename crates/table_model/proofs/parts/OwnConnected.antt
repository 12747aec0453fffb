-- What a section knows of itself once one of its sockets was connected, or a child came.
use Rattle.std.proofs.Common.{◌≡◌, ℕ, Bool, true, false, ◌&&◌, not, List, find, Option, Some, None, refl, ap, sym, subst}
use Rattle.std.specs.Prelude.{is_some}
use Rattle.list_words.specs.Lists.{Each, Pairs}
use Rattle.list_words.proofs.EachLemmas.{each_found, found_passes}
use Rattle.list_words.proofs.PairsLemmas.{pairs_filter}
use Rattle.std.proofs.lemmas.Bool.{eq-eqb, and_parts}
use Rattle.sock_card.specs.declared.owner.Owner.{Owner}
use Rattle.sock_card.specs.Conflict.{is_time_wait}
use Rattle.flat_list.specs.declared.socket.Socket.{Socket}
use Rattle.flat_list.specs.Flat.{Flat}
use Rattle.flat_list.specs.Sockets.{kind_of, has_name, waits_at, have_one_tuple, put as put_socket, without, without_waiting, is_open_in}
use Rattle.flat_list.specs.Sound.{NamesDiffer, TuplesDiffer, IsAwakeIfNamed}
use Rattle.table_model.specs.Tables.{Tables}
use Rattle.table_model.specs.Own.{Own, Mine, with_socket}
use Rattle.table_model.specs.Means.{OwnMeans, StandsAs}
use Rattle.table_model.proofs.lists.Passing.{Only, found_weighs, only_found}
use Rattle.table_model.proofs.parts.Cards.{only_named, wait_once}
use Rattle.table_model.proofs.questions.Replaced.{same_tests, dropped_same, kept_all}
use Rattle.table_model.proofs.parts.OwnWaits.{own_wait_gone, wait_not_mine}
use Rattle.table_model.proofs.commands.ConnectTries.{listed_kept}
use Rattle.table_model.proofs.lists.Listed.{Listed}
use Rattle.table_model.proofs.questions.Asked.{with_sockets}
use Rattle.table_model.proofs.parts.Own.{own_put}

-- each of a section's open sockets stands in its place
abbrev pub AllStand : Own → Tables → Type 0
AllStand own t = Each (λ (x : Mine). StandsAs t.chains x (kind_of x.owner.state)) own.sockets

-- on other tables, where the section's sockets stand
pub own_there : (n : ℕ) (own : Own) (t t' : Tables) (flat : Flat) → OwnMeans n own t flat → AllStand own t' → OwnMeans n own t' flat
own_there n own t t' flat h stands = record {
  number = h.number;
  unmarked = h.unmarked;
  section = h.section;
  range = h.range;
  offset = h.offset;
  sockets = h.sockets;
  stand = stands;
  waits = h.waits;
  names = h.names;
  given = h.given;
}

module _ (n : ℕ) (own : Own) (t t' : Tables) (flat : Flat) (h : OwnMeans n own t flat) (names : Pairs NamesDiffer flat.sockets) (tuples : Pairs TuplesDiffer flat.sockets) (awake : Each IsAwakeIfNamed flat.sockets) (stands : AllStand own t') (a : Owner) where
  gone_by : (o : Option Socket) → find (waits_at a) flat.sockets ≡ o → OwnMeans n own t' (with_sockets flat (without_waiting a flat.sockets))
  gone_by None e =
      subst (λ (xs : List Socket). OwnMeans n own t' (with_sockets flat xs)) (sym (kept_all (waits_at a) flat.sockets ((found_weighs (waits_at a) flat.sockets).1 (ap is_some e)))) (own_there n own t t' flat h stands)
  gone_by (Some s) e =
      let passes : waits_at a s ≡ true = found_passes (waits_at a) flat.sockets s e in
      let waits : is_time_wait s.owner.state ≡ true = (and_parts (is_time_wait s.owner.state) (have_one_tuple a s.owner) passes).0 in
      let named : Only (has_name s.owner.name) s flat.sockets = only_named (waits_at a) flat.sockets s s.owner.name e refl names in
      let one : Only (waits_at a) s flat.sockets = only_found (waits_at a) (waits_at a) flat.sockets s e passes (wait_once a flat.sockets tuples) in
      let same : without_waiting a flat.sockets ≡ without s.owner.name flat.sockets =
      dropped_same (waits_at a) (has_name s.owner.name) flat.sockets (same_tests (waits_at a) (has_name s.owner.name) s flat.sockets one named passes (eq-eqb s.owner.name s.owner.name refl)) in
      subst (λ (xs : List Socket). OwnMeans n own t' (with_sockets flat xs)) (sym same)
      (own_wait_gone n own t t' flat h s.owner.name s named (wait_not_mine n s (each_found IsAwakeIfNamed (waits_at a) flat.sockets s awake e) waits) stands)

  -- a TIME_WAIT of the four-tuple is gone, if there was one
  pub own_replaced : OwnMeans n own t' (with_sockets flat (without_waiting a flat.sockets))
  own_replaced = gone_by (find (waits_at a) flat.sockets) refl

-- one of the section's sockets was connected
pub own_connected : (n : ℕ) (own : Own) (t t' : Tables) (flat : Flat) (new s : Socket) (m : Mine) → OwnMeans n own t flat → Pairs NamesDiffer flat.sockets → Pairs TuplesDiffer flat.sockets → Each IsAwakeIfNamed flat.sockets
    → AllStand own t' → Listed new.owner.name flat.sockets s → is_open_in n new ≡ is_open_in n s → m.owner ≡ new.owner → is_time_wait s.owner.state ≡ false → is_time_wait new.owner.state ≡ false → StandsAs t'.chains m (kind_of m.owner.state)
    → OwnMeans n (with_socket own m) t' (with_sockets flat (put_socket new (without_waiting new.owner flat.sockets)))
own_connected n own t t' flat new s m h names tuples awake stands at mine same was is there =
    own_put n own t' t' (with_sockets flat (without_waiting new.owner flat.sockets)) new s m
    (own_replaced n own t t' flat h names tuples awake stands new.owner)
    (pairs_filter NamesDiffer (λ y. not (waits_at new.owner y)) flat.sockets names)
    (listed_kept new.owner.name (λ y. not (waits_at new.owner y)) flat.sockets s at (ap (λ (b : Bool). not (b && have_one_tuple new.owner s.owner)) was))
    mine same was is there stands
