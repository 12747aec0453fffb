-- How the plan of `connect` of a bound socket goes on.
use Rattle.std.proofs.Common.{◌≡◌, ℕ, ◌%◌, List, [], ◌∷◌, map, Option, Some, None, Err, refl, sym, ap, subst, ◌∙◌}
use Rattle.std.specs.Option.{option_map}
use Rattle.sock_card.specs.Conflict.{owner_key, bind_key}
use Rattle.sock_card.specs.declared.owner.Owner.{Owner}
use Rattle.sock_card.specs.declared.card.Card.{Card}
use Rattle.sock_card.specs.declared.card.Kind.{Kind}
use Rattle.sock_card.specs.declared.card.Kind.TheVariants as kinds
use Rattle.sock_card.specs.Became.{connected}
use Rattle.turn_table.specs.declared.note.Placed.{Placed}
use Rattle.bind_buckets.specs.declared.request.Request.TheVariants as requests
use Rattle.bind_buckets.specs.declared.request.Answer.{Answer}
use Rattle.bind_buckets.specs.declared.request.Answer.TheVariants as answers
use Rattle.bind_buckets.specs.declared.request.Entry.{Entry}
use Rattle.bind_buckets.specs.OwnTold.{StandsOwn}
use Rattle.bind_buckets.specs.Turned.{View, Gave, IsAsked}
use Rattle.chain_book.specs.declared.outcome.Place.{Place}
use Rattle.chain_book.specs.declared.outcome.Hashed.{Hashed}
use Rattle.chain_book.specs.declared.outcome.Replace.{Replace}
use Rattle.chain_book.specs.Chains.{Outcome, put}
use Rattle.chain_book.specs.Homes.{home}
use Rattle.nulls_chain.specs.Changes.{PlacesStay}
use Rattle.table_model.specs.declared.operation.Cause.TheVariants as causes
use Rattle.table_model.specs.declared.operation.OpEnd.{OpEnd}
use Rattle.table_model.specs.declared.operation.OpEnd.TheVariants as errors
use Rattle.table_rule.specs.declared.view.Layout.{Layout}
use Rattle.table_model.specs.Own.{Mine, card_of}
use Rattle.table_model.specs.Asking.{Asking, ends}
use Rattle.table_model.specs.Operations.{Did, done, refused, full_card, full_in, full_done, then_replaced, when_done, connect_hashed, connect_bound}
use Rattle.race_record.specs.Deeds.{Deed, Tried, hashed, kept_out, no_slot, inserted}
use Rattle.race_record.specs.Goes.{outcome_of, hashed_of}
use Rattle.sock_ops.specs.Sides.{Side}
use Rattle.sock_ops.specs.Made.{Does}
use Rattle.sock_ops.specs.Leads.{Leads}
use Rattle.sock_ops.specs.Goes.{Went, Carried, AreAsked, AskedAll, gone_of}
use Rattle.sock_ops.specs.Hashing.{InsertsAs, PutsIn, wish_for}
use Rattle.sock_ops.specs.declared.sock.Sock.{Sock}
use Rattle.sock_ops.specs.declared.sock.Sock.TheVariants as socks
use Rattle.sock_ops.specs.declared.tables.Tables.{Tables}
use Rattle.sock_ops.specs.Socks.{full_at}
use Rattle.sock_ops.specs.Stands.{IsHashed, StandsAs, buckets_of}
use Rattle.sock_ops.proofs.Goes.{deed_at, by_entry, by_inserted, all_entries, does_both, does_entries, all_first, stops_nowhere}
use Rattle.sock_ops.proofs.Inserted.{grants_of, put_outcome, keys_of, names_of}
use Rattle.sock_ops.proofs.Knows.{AllQuiet, after, grows, grows_first, grows_rest, all_pass, asked_quiet, away_on, connects, stands_on}

abbrev pub bound_entry : Owner → Entry
bound_entry a = record { request = requests.ConnectBound a.name a.addr a.remote a.rport; answer = answers.Done }

-- the turn gave nothing
gave_nothing : (place : ℕ) (v w : View) (xs : List (Placed Entry)) → AreAsked place [] xs → Gave v w xs → Gave v w []
gave_nothing place v w [] are g = g
gave_nothing place v w (x ∷ xs) are g = absurd are

-- nothing was asked in a turn
pub all_none : (place : ℕ) (v w : View) → AskedAll place [] v w → Gave v w []
all_none place v w all = gave_nothing place v w all.xs all.asked all.gave

abbrev pub name_at : Hashed → ℕ
name_at x = x.card.name

module _ {R : Type 0} (count port : ℕ) where
  -- the owner of what was replaced leaves, if there was one
  pub replaced_leads : (old : Option Hashed) (answer : Answer) (rest : Asking R) (zs : List (Placed Entry)) → ((x : Hashed) → old ≡ Some x → bind_key x.card.lport x.card.net ≡ port)
      → AreAsked (port % count) (gone_of (option_map name_at old) answer) zs → Leads (then_replaced old rest) (map (deed_at port) zs) rest
  replaced_leads None answer rest [] at are = refl
  replaced_leads None answer rest (z ∷ zs) at are = absurd are
  replaced_leads (Some x) answer rest [] at are = absurd are
  replaced_leads (Some x) answer rest (z ∷ []) at are =
      (rest, (sym (at x refl), ap (λ (e : Entry). e.request) are.0.entry, refl), refl)
  replaced_leads (Some x) answer rest (z ∷ y ∷ zs) at are = absurd are.1

-- what is asked for it changes no owner that is open
pub gone_quiet : (place : ℕ) (replaced : Option ℕ) (answer : Answer) (zs : List (Placed Entry)) → AreAsked place (gone_of replaced answer) zs → AllQuiet zs
gone_quiet place None answer [] are = tt
gone_quiet place None answer (z ∷ zs) are = absurd are
gone_quiet place (Some name) answer [] are = absurd are
gone_quiet place (Some name) answer (z ∷ []) are = (asked_quiet place (requests.RemoveWaiting name) answer z are.0 tt, tt)
gone_quiet place (Some name) answer (z ∷ y ∷ zs) are = absurd are.1

-- where a full socket was hashed
pub hashed_at : (a : Owner) (moment : ℕ) (rule : Replace) (place : Place) (replaced : Option ℕ) (m : Mine) (c d : Side) → PutsIn (wish_for a moment rule) place replaced c d → d.layout ≡ c.layout → m ≡ full_at a place → IsHashed kinds.Full m d
hashed_at a moment rule place replaced m c d p same m_is =
    subst (λ (n : Mine). IsHashed kinds.Full n d) (sym m_is)
    (record { home = p.bucket ∙ ap (λ (l : Layout). home l.shape l.seed (full_card a)) (sym same); placed = p.placed })

-- the place of a wish that came, as plans know it
pub full_is : (a : Owner) (moment : ℕ) (rule : Replace) (place : Place) (replaced : Option ℕ) (m : Mine) (c d : Side) (p : PutsIn (wish_for a moment rule) place replaced c d) → m ≡ full_at a place → full_in c.layout.shape c.layout.seed a p.hash.slot ≡ m
full_is a moment rule place replaced m c d p m_is =
    let at : place ≡ record { bucket = home c.layout.shape c.layout.seed (full_card a); slot = p.hash.slot } = λ i. record { bucket = p.bucket i; slot = p.slot i } in
    sym (m_is ∙ ap (full_at a) at)

module _ (count : ℕ) (a : Owner) (moment : ℕ) (rule : Replace) (v w : View) (c d : Side) where
  abbrev plan : Asking Did
  plan = connect_bound c.layout.shape c.layout.seed a moment rule

  pub connect_done : (place : Place) (replaced : Option ℕ) (m : Mine) (answer : Answer) → PutsIn (wish_for a moment rule) place replaced c d → m ≡ full_at a place
      → AskedAll (owner_key a % count) (bound_entry a ∷ gone_of replaced answer) v w → Went count plan v w c d (ends (done m))
  connect_done place replaced m answer p m_is all =
      let at = owner_key a % count in
      let f = all_first at (bound_entry a) (gone_of replaced answer) v w all in
      let slot : ℕ = p.hash.slot in
      let shape = c.layout.shape in
      let seed = c.layout.seed in
      let card : Card = full_card a in
      let tried : Tried = hashed p.hash p.old in
      let old : Option Hashed = option_map hashed_of p.old in
      let grants = grants_of (wish_for a moment rule) tried c d p.does in
      let there : Asking Did = ends (done (full_in shape seed a slot)) in
      let more = subst (λ r. AreAsked at (gone_of r answer) f.zs) (p.replaced_is ∙ names_of p.old) f.more in
      let last : List Deed = deed_at (owner_key a) f.x ∷ map (deed_at (owner_key a)) f.zs in
      let told : Leads (connect_hashed shape seed a (put slot old)) last there =
      by_entry count (owner_key a) (requests.ConnectBound a.name a.addr a.remote a.rport) answers.Done (when_done (full_done shape seed a slot old)) f.x (map (deed_at (owner_key a)) f.zs) there f.is
      (replaced_leads count (owner_key a) old answer there f.zs (keys_of (wish_for a moment rule) p.hash p.old grants) more) in
      record {
        deeds = inserted (wish_for a moment rule) tried ∷ last;
        leads = subst (λ (n : Mine). Leads plan (inserted (wish_for a moment rule) tried ∷ last) (ends (done n))) (full_is a moment rule place replaced m c d p m_is)
            (by_inserted card moment rule tried (connect_hashed shape seed a) last there grants
            (subst (λ (o : Outcome). Leads (connect_hashed shape seed a o) last there) (sym (put_outcome p.hash p.old)) told));
        gave = subst (Gave v w) (sym (all_entries count (owner_key a) (bound_entry a ∷ gone_of replaced answer) (f.x ∷ f.zs) (f.is, f.more))) f.gave;
        does = does_both (inserted (wish_for a moment rule) tried ∷ []) last c d d p.does (does_entries (owner_key a) (f.x ∷ f.zs) d);
      }

  refused_went : (tried : Tried) (end : OpEnd) → connect_hashed c.layout.shape c.layout.seed a (outcome_of tried) ≡ ends (refused end) → Does (inserted (wish_for a moment rule) tried ∷ []) c d → Gave v w [] → Went count plan v w c d (ends (refused end))
  refused_went tried end goes does gave =
      record {
        deeds = inserted (wish_for a moment rule) tried ∷ [];
        leads = by_inserted (full_card a) moment rule tried (connect_hashed c.layout.shape c.layout.seed a) [] (ends (refused end)) (grants_of (wish_for a moment rule) tried c d does) goes;
        gave = gave;
        does = does;
      }

  pub connect_refused : (end : OpEnd) → InsertsAs (wish_for a moment rule) c d (Err end) → Gave v w [] → Carried {X = Mine} done refused count plan v w c d (Err end)
  connect_refused (errors.Taken name) ins gave = refused_went (kept_out name) (errors.Taken name) refl ins gave
  connect_refused (errors.Full owned held) ins gave = refused_went (no_slot ins.number owned held) (errors.Full owned held) refl ins.does gave
  connect_refused (errors.InUse name) ins gave = absurd ins
  connect_refused errors.NoPort ins gave = absurd ins
  connect_refused errors.Inval ins gave = absurd ins
  connect_refused errors.IsConn ins gave = absurd ins
  connect_refused errors.GroupFull ins gave = absurd ins
  connect_refused errors.GroupsFull ins gave = absurd ins
  connect_refused (errors.LeftOff causes.Busy) ins gave = stops_nowhere count plan v w c d ins tt gave
  connect_refused (errors.LeftOff causes.Memory) ins gave = absurd ins

-- the connected owner stands
pub connect_stands : (count : ℕ) (bound a : Owner) (v w : View) (replaced : Option ℕ) (answer : Answer) → a ≡ connected a.addr a.remote a.rport bound → StandsOwn bound (owner_key bound % count) v
    → AskedAll (owner_key a % count) (bound_entry a ∷ gone_of replaced answer) v w → StandsOwn a (owner_key a % count) w
connect_stands count bound a v w replaced answer is stands all =
    let at = owner_key a % count in
    let named : bound.name ≡ a.name = sym (ap (λ (o : Owner). o.name) is) in
    let port : owner_key bound ≡ owner_key a = sym (ap (λ (o : Owner). owner_key o) is) in
    let f = all_first at (bound_entry a) (gone_of replaced answer) v w all in
    let g = grows v w (f.x ∷ f.zs) f.gave in
    let u = after v (f.x ∷ []) in
    let first = connects bound a at v u f.x is (subst (λ p. StandsOwn bound (p % count) v) port stands) (grows_first v w (f.x ∷ []) f.zs g)
    (subst (λ n. IsAsked at (requests.ConnectBound n a.addr a.remote a.rport) answers.Done f.x) (sym named) f.is) in
    stands_on a at u w f.zs first (grows_rest v w (f.x ∷ []) f.zs g) (all_pass at f.zs (gone_quiet at replaced answer f.zs f.more))

-- and one that was asked nothing
pub stands_still : (a : Owner) (place : ℕ) (v w : View) → Gave v w [] → StandsOwn a place v → StandsOwn a place w
stands_still a place v w gave s = stands_on a place v w [] s (grows v w [] gave) tt

-- where a socket stood hashed it still stands
pub hashed_still : (kind : Kind) (m : Mine) (c d : Side) → d.layout ≡ c.layout → PlacesStay c.view d.view → IsHashed kind m c → IsHashed kind m d
hashed_still kind m c d same stay h = record {
  home = h.home ∙ ap (λ (l : Layout). home l.shape l.seed (card_of kind m)) (sym same);
  placed = (h.placed.0, h.placed.1, h.placed.2, h.placed.3, stay h.placed.0 h.placed.4);
}

-- a socket, where nothing was asked or done
pub still_as : (t : Tables) (s : Sock) (v w : View) (c d : Side) → Gave v w [] → c ≡ d → StandsAs t s v c → StandsAs t s w d
still_as t (socks.Unbound m) v w c d gave same h = away_on m.owner.name v w [] h gave tt
still_as t (socks.Bound m) v w c d gave same h = stands_still m.owner (owner_key m.owner % buckets_of t) v w gave h
still_as t (socks.Listening m) v w c d gave same h =
    (stands_still m.owner (owner_key m.owner % buckets_of t) v w gave h.0, subst (IsHashed kinds.Listen m) same h.1)
still_as t (socks.Full m) v w c d gave same h =
    (stands_still m.owner (owner_key m.owner % buckets_of t) v w gave h.0, subst (IsHashed kinds.Full m) same h.1)
still_as t (socks.Request m) v w c d gave same h = subst (IsHashed kinds.Request m) same h
