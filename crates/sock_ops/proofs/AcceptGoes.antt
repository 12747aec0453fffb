-- How the plan of `accept` goes on.
use Rattle.std.proofs.Common.{◌≡◌, ℕ, ◌+◌, ◌%◌, ◌||◌, Bool, true, false, List, [], ◌∷◌, ◌++◌, map, Option, Err, refl, sym, ap, subst, ◌∙◌, if◌then◌else◌}
use Rattle.std.specs.Option.{option_map}
use Rattle.sock_card.specs.declared.owner.Owner.{Owner}
use Rattle.std.proofs.lemmas.Bool.{false≢true, not-false}
use Rattle.sock_card.specs.declared.owner.State.TheVariants as states
use Rattle.sock_card.specs.Conflict.{owner_key, is_listening}
use Rattle.sock_card.specs.declared.card.Kind.TheVariants as kinds
use Rattle.flat_list.specs.declared.command.End.{End}
use Rattle.flat_list.specs.Owned.{is_no_accept, child_owner}
use Rattle.chain_book.specs.declared.shape.Shape.{Shape}
use Rattle.nulls_chain.specs.Changes.{PlacesStay}
use Rattle.sock_card.specs.Became.{child}
use Rattle.sock_card.proofs.SameKinds.{listening_is}
use Rattle.bind_buckets.specs.declared.request.Request.TheVariants as requests
use Rattle.bind_buckets.specs.declared.request.Answer.{Answer}
use Rattle.bind_buckets.specs.declared.request.Answer.TheVariants as answers
use Rattle.bind_buckets.specs.declared.request.Entry.{Entry}
use Rattle.bind_buckets.specs.Callers.{MayName}
use Rattle.bind_buckets.specs.OwnTold.{StandsOwn}
use Rattle.bind_buckets.specs.Turned.{View, Gave}
use Rattle.bind_buckets.proofs.OwnTold.{own_accepted}
use Rattle.chain_book.specs.declared.outcome.Place.{Place}
use Rattle.chain_book.specs.declared.outcome.Hashed.{Hashed}
use Rattle.chain_book.specs.declared.outcome.Replace.TheVariants as rules
use Rattle.chain_book.specs.Chains.{Outcome, put}
use Rattle.table_model.specs.declared.operation.Cause.TheVariants as causes
use Rattle.table_model.specs.declared.operation.OpEnd.{OpEnd}
use Rattle.table_model.specs.declared.operation.OpEnd.TheVariants as errors
use Rattle.table_model.specs.Own.{Mine}
use Rattle.table_model.specs.Asking.{Asking, ends}
use Rattle.table_model.specs.Operations.{Did, done, refused, full_card, full_in, full_done, when_done, accept_hashed, accept_as, accept}
use Rattle.race_record.specs.Deeds.{Deed, Tried, hashed, kept_out, no_slot, inserted}
use Rattle.race_record.specs.Goes.{outcome_of, hashed_of}
use Rattle.sock_ops.specs.Sides.{Side}
use Rattle.sock_ops.specs.Made.{Does}
use Rattle.sock_ops.specs.Leads.{Leads}
use Rattle.sock_ops.specs.Goes.{Went, Carried, AreAsked, AskedAll, gone_of}
use Rattle.sock_ops.specs.Hashing.{InsertsAs, PutsIn, wish_for}
use Rattle.sock_ops.specs.declared.sock.Sock.{Sock}
use Rattle.sock_ops.specs.declared.sock.Sock.TheVariants as socks
use Rattle.sock_ops.specs.declared.tables.Tables.{Tables}
use Rattle.sock_ops.specs.Socks.{FitsState, full_at, mine_of}
use Rattle.sock_ops.specs.Stands.{IsOwner, StandsAs}
use Rattle.sock_ops.specs.There.{IsNew}
use Rattle.sock_ops.proofs.Goes.{deed_at, by_entry, by_inserted, all_entries, does_both, does_entries, all_first, stops_nowhere}
use Rattle.sock_ops.proofs.Inserted.{grants_of, put_outcome, keys_of, names_of}
use Rattle.sock_ops.proofs.ConnectGoes.{replaced_leads, full_is, gone_quiet, hashed_still}
use Rattle.sock_ops.proofs.Knows.{Grows, after, grows, grows_first, grows_rest, gave_first, all_pass, inherits, stands_on}

abbrev pub child_entry : Owner → Owner → Entry
child_entry l a = record { request = requests.Inherit l.name a.name a.mark a.addr a.remote a.rport; answer = answers.Done }

module _ (count : ℕ) (l a : Owner) (port : owner_key a ≡ owner_key l) (v w : View) (c d : Side) where
  abbrev plan : Asking Did
  plan = accept_as c.layout.shape c.layout.seed l a

  pub accept_done : (place : Place) (replaced : Option ℕ) (m : Mine) (answer : Answer) → PutsIn (wish_for a 0 rules.Always) place replaced c d → m ≡ full_at a place
      → AskedAll (owner_key l % count) (child_entry l a ∷ gone_of replaced answer) v w → Went count plan v w c d (ends (done m))
  accept_done place replaced m answer p m_is all =
      let at = owner_key l % count in
      let f = all_first at (child_entry l a) (gone_of replaced answer) v w all in
      let slot : ℕ = p.hash.slot in
      let shape = c.layout.shape in
      let seed = c.layout.seed in
      let wish = wish_for a 0 rules.Always in
      let tried : Tried = hashed p.hash p.old in
      let old : Option Hashed = option_map hashed_of p.old in
      let grants = grants_of wish tried c d p.does in
      let there : Asking Did = ends (done (full_in shape seed a slot)) in
      let more = subst (λ r. AreAsked at (gone_of r answer) f.zs) (p.replaced_is ∙ names_of p.old) f.more in
      let last : List Deed = deed_at (owner_key l) f.x ∷ map (deed_at (owner_key l)) f.zs in
      let told : Leads (accept_hashed shape seed l a (put slot old)) last there =
      by_entry count (owner_key l) (requests.Inherit l.name a.name a.mark a.addr a.remote a.rport) answers.Done (when_done (full_done shape seed a slot old)) f.x (map (deed_at (owner_key l)) f.zs) there f.is
      (replaced_leads count (owner_key l) old answer there f.zs (λ x is. keys_of wish p.hash p.old grants x is ∙ port) more) in
      record {
        deeds = inserted wish tried ∷ last;
        leads = subst (λ (n : Mine). Leads plan (inserted wish tried ∷ last) (ends (done n))) (full_is a 0 rules.Always place replaced m c d p m_is)
            (by_inserted (full_card a) 0 rules.Always tried (accept_hashed shape seed l a) last there grants
            (subst (λ (o : Outcome). Leads (accept_hashed shape seed l a o) last there) (sym (put_outcome p.hash p.old)) told));
        gave = subst (Gave v w) (sym (all_entries count (owner_key l) (child_entry l a ∷ gone_of replaced answer) (f.x ∷ f.zs) (f.is, f.more))) f.gave;
        does = does_both (inserted wish tried ∷ []) last c d d p.does (does_entries (owner_key l) (f.x ∷ f.zs) d);
      }

  refused_went : (tried : Tried) (end : OpEnd) → accept_hashed c.layout.shape c.layout.seed l a (outcome_of tried) ≡ ends (refused end) → Does (inserted (wish_for a 0 rules.Always) tried ∷ []) c d → Gave v w [] → Went count plan v w c d (ends (refused end))
  refused_went tried end goes does gave =
      let wish = wish_for a 0 rules.Always in
      record {
        deeds = inserted wish tried ∷ [];
        leads = by_inserted (full_card a) 0 rules.Always tried (accept_hashed c.layout.shape c.layout.seed l a) [] (ends (refused end)) (grants_of wish tried c d does) goes;
        gave = gave;
        does = does;
      }

  pub accept_refused : (end : OpEnd) → InsertsAs (wish_for a 0 rules.Always) c d (Err end) → Gave v w [] → Carried {X = Mine} done refused count plan v w c d (Err end)
  accept_refused (errors.Taken name) ins gave = refused_went (kept_out name) (errors.Taken name) refl ins gave
  accept_refused (errors.Full owned held) ins gave = refused_went (no_slot ins.number owned held) (errors.Full owned held) refl ins.does gave
  accept_refused (errors.InUse name) ins gave = absurd ins
  accept_refused errors.NoPort ins gave = absurd ins
  accept_refused errors.Inval ins gave = absurd ins
  accept_refused errors.IsConn ins gave = absurd ins
  accept_refused errors.GroupFull ins gave = absurd ins
  accept_refused errors.GroupsFull ins gave = absurd ins
  accept_refused (errors.LeftOff causes.Memory) ins gave = absurd ins
  accept_refused (errors.LeftOff causes.Busy) ins gave = stops_nowhere count plan v w c d ins tt gave

module _ (l a : Owner) (place : ℕ) (v w : View) (replaced : Option ℕ) (answer : Answer) (stands : StandsOwn l place v) (all : AskedAll place (child_entry l a ∷ gone_of replaced answer) v w) where
  -- the child stands
  pub child_stands : a ≡ child a.name a.mark a.addr a.remote a.rport l → MayName v.caller a.name → IsNew a.name v → StandsOwn a place w
  child_stands is may new =
      let f = all_first place (child_entry l a) (gone_of replaced answer) v w all in
      let u = record v { mine = v.mine ++ f.x ∷ []; draws = v.draws + 1 } in
      let first = own_accepted l place a.name a.mark a.addr a.remote a.rport v u stands (record { entry = f.x; asked = f.is; gave = gave_first v w f.x f.zs f.gave }) may (new place) in
      let g = grows v w (f.x ∷ f.zs) f.gave in
      let h = grows_rest v w (f.x ∷ []) f.zs g in
      let rest : Grows u w f.zs = record { mine = h.mine; caller = h.caller; callers = h.callers } in
      stands_on a place u w f.zs (subst (λ (o : Owner). StandsOwn o place u) (sym is) first) rest (all_pass place f.zs (gone_quiet place replaced answer f.zs f.more))

  -- and so does the listener
  pub parent_stands : StandsOwn l place w
  parent_stands =
      let f = all_first place (child_entry l a) (gone_of replaced answer) v w all in
      let g = grows v w (f.x ∷ f.zs) f.gave in
      let u = after v (f.x ∷ []) in
      let first = inherits l place a.name a.mark a.addr a.remote a.rport v u f.x stands (grows_first v w (f.x ∷ []) f.zs g) f.is in
      stands_on l place u w f.zs first (grows_rest v w (f.x ∷ []) f.zs g) (all_pass place f.zs (gone_quiet place replaced answer f.zs f.more))

first_of_five : (a b c d e : Bool) → (a || b || c || d || e) ≡ false → a ≡ false
first_of_five true b c d e h = absurd (false≢true (sym h))
first_of_five false b c d e h = refl

-- what accepts listens
pub accepts : (l : Owner) (from at : End) → is_no_accept l from at ≡ false → l.state ≡ states.Listening
accepts l from at isnt = listening_is l.state (not-false (is_listening l.state) (first_of_five _ _ _ _ _ isnt))

pub accept_plan : (shape : Shape) (seed : ℕ) (m : Mine) (name mark : ℕ) (from at : End) → is_no_accept m.owner from at ≡ false → accept_as shape seed m.owner (child_owner m.owner name mark from at) ≡ accept shape seed m name mark from at
accept_plan shape seed m name mark from at isnt =
    sym (ap (λ b. if b then ends (refused errors.Inval) else accept_as shape seed m.owner (child_owner m.owner name mark from at)) isnt)

-- a listener that accepted, or refused to, stands as it did
pub listener_stands : (t : Tables) (s : Sock) (v w : View) (c d : Side) → FitsState s → (mine_of s).owner.state ≡ states.Listening → d.layout ≡ c.layout → PlacesStay c.view d.view → StandsAs t s v c → IsOwner t (mine_of s).owner w → StandsAs t s w d
listener_stands t (socks.Unbound m) v w c d fits listens same stay stood owns = absurd (let e : states.Unbound ≡ states.Listening = sym fits ∙ listens in cc)
listener_stands t (socks.Bound m) v w c d fits listens same stay stood owns = owns
listener_stands t (socks.Listening m) v w c d fits listens same stay stood owns =
    (owns, hashed_still kinds.Listen m c d same stay stood.1)
listener_stands t (socks.Full m) v w c d fits listens same stay stood owns =
    (owns, hashed_still kinds.Full m c d same stay stood.1)
listener_stands t (socks.Request m) v w c d fits listens same stay stood owns =
    hashed_still kinds.Request m c d same stay stood
