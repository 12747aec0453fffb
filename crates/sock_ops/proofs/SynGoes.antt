-- How the plan of `syn` goes on.
use Rattle.std.proofs.Common.{◌≡◌, ℕ, ◌%◌, false, List, [], ◌∷◌, map, Option, Err, refl, sym, ap, subst, ◌∙◌, if◌then◌else◌}
use Rattle.std.specs.Option.{option_map}
use Rattle.sock_card.specs.Conflict.{owner_key}
use Rattle.sock_card.specs.declared.card.Kind.TheVariants as kinds
use Rattle.sock_card.specs.declared.owner.Owner.{Owner}
use Rattle.sock_card.specs.declared.owner.State.TheVariants as states
use Rattle.bind_buckets.specs.declared.request.Answer.{Answer}
use Rattle.bind_buckets.specs.Turned.{View, Gave}
use Rattle.chain_book.specs.declared.outcome.Place.{Place}
use Rattle.chain_book.specs.declared.outcome.Hashed.{Hashed}
use Rattle.chain_book.specs.declared.outcome.Replace.TheVariants as rules
use Rattle.chain_book.specs.declared.shape.Shape.{Shape}
use Rattle.chain_book.specs.Chains.{Outcome, put}
use Rattle.chain_book.specs.Homes.{home}
use Rattle.flat_list.specs.declared.command.End.{End}
use Rattle.flat_list.specs.Owned.{is_no_accept, request_owner}
use Rattle.table_rule.specs.declared.view.Layout.{Layout}
use Rattle.table_model.specs.declared.operation.Cause.TheVariants as causes
use Rattle.table_model.specs.declared.operation.OpEnd.{OpEnd}
use Rattle.table_model.specs.declared.operation.OpEnd.TheVariants as errors
use Rattle.table_model.specs.Own.{Mine}
use Rattle.table_model.specs.Asking.{Asking, ends}
use Rattle.table_model.specs.Operations.{Did, done, refused, request_card, request_in, syn, syn_as, syn_hashed}
use Rattle.race_record.specs.Deeds.{Deed, Tried, Wish, hashed, kept_out, no_slot, inserted}
use Rattle.race_record.specs.Goes.{outcome_of, hashed_of}
use Rattle.sock_ops.specs.Sides.{Side}
use Rattle.sock_ops.specs.Made.{Does}
use Rattle.sock_ops.specs.Leads.{Leads}
use Rattle.sock_ops.specs.Goes.{Went, Carried, AreAsked, AskedAll, gone_of}
use Rattle.sock_ops.specs.Handshaking.{OwnersStay}
use Rattle.sock_ops.specs.Hashing.{InsertsAs, PutsIn, request_wish}
use Rattle.sock_ops.specs.declared.sock.Sock.{Sock}
use Rattle.sock_ops.specs.declared.sock.Sock.TheVariants as socks
use Rattle.sock_ops.specs.declared.tables.Tables.{Tables}
use Rattle.sock_ops.specs.Socks.{FitsState, mine_of, request_at}
use Rattle.sock_ops.specs.Stands.{IsHashed, IsOwner, StandsAs, buckets_of}
use Rattle.sock_ops.proofs.Goes.{deed_at, by_inserted, all_entries, does_both, does_entries, stops_nowhere}
use Rattle.sock_ops.proofs.Inserted.{grants_of, put_outcome, keys_of, names_of}
use Rattle.sock_ops.proofs.ConnectGoes.{replaced_leads, gone_quiet, stands_still}
use Rattle.sock_ops.proofs.Knows.{grows, all_pass, stands_on}

module _ (r : Owner) (place : Place) (replaced : Option ℕ) (m : Mine) (c d : Side) (p : PutsIn (request_wish r) place replaced c d) (m_is : m ≡ request_at r place) where
  -- where a request was hashed
  pub request_hashed : d.layout ≡ c.layout → IsHashed kinds.Request m d
  request_hashed same =
      subst (λ (n : Mine). IsHashed kinds.Request n d) (sym m_is)
      (record { home = p.bucket ∙ ap (λ (l : Layout). home l.shape l.seed (request_card r)) (sym same); placed = p.placed })

  -- its place, as plans know it
  pub request_is : request_in c.layout.shape c.layout.seed r p.hash.slot ≡ m
  request_is =
      let at : place ≡ record { bucket = home c.layout.shape c.layout.seed (request_card r); slot = p.hash.slot } = λ i. record { bucket = p.bucket i; slot = p.slot i } in
      sym (m_is ∙ ap (request_at r) at)

module _ (count : ℕ) (r : Owner) (v w : View) (c d : Side) where
  abbrev plan : Asking Did
  plan = syn_as c.layout.shape c.layout.seed r

  pub syn_done : (place : Place) (replaced : Option ℕ) (m : Mine) (answer : Answer) → PutsIn (request_wish r) place replaced c d → m ≡ request_at r place
      → AskedAll (owner_key r % count) (gone_of replaced answer) v w → Went count plan v w c d (ends (done m))
  syn_done place replaced m answer p m_is all =
      let at = owner_key r % count in
      let slot : ℕ = p.hash.slot in
      let shape = c.layout.shape in
      let seed = c.layout.seed in
      let wish : Wish = request_wish r in
      let tried : Tried = hashed p.hash p.old in
      let old : Option Hashed = option_map hashed_of p.old in
      let grants = grants_of wish tried c d p.does in
      let there : Asking Did = ends (done (request_in shape seed r slot)) in
      let more = subst (λ o. AreAsked at (gone_of o answer) all.xs) (p.replaced_is ∙ names_of p.old) all.asked in
      let last : List Deed = map (deed_at (owner_key r)) all.xs in
      let told : Leads (syn_hashed shape seed r (put slot old)) last there = replaced_leads count (owner_key r) old answer there all.xs (keys_of wish p.hash p.old grants) more in
      record {
        deeds = inserted wish tried ∷ last;
        leads = subst (λ (n : Mine). Leads plan (inserted wish tried ∷ last) (ends (done n))) (request_is r place replaced m c d p m_is)
            (by_inserted (request_card r) 0 rules.Always tried (syn_hashed shape seed r) last there grants
            (subst (λ (o : Outcome). Leads (syn_hashed shape seed r o) last there) (sym (put_outcome p.hash p.old)) told));
        gave = subst (Gave v w) (sym (all_entries count (owner_key r) (gone_of replaced answer) all.xs all.asked)) all.gave;
        does = does_both (inserted wish tried ∷ []) last c d d p.does (does_entries (owner_key r) all.xs d);
      }

  refused_went : (tried : Tried) (end : OpEnd) → syn_hashed c.layout.shape c.layout.seed r (outcome_of tried) ≡ ends (refused end) → Does (inserted (request_wish r) tried ∷ []) c d → Gave v w [] → Went count plan v w c d (ends (refused end))
  refused_went tried end goes does gave =
      let wish : Wish = request_wish r in
      record {
        deeds = inserted wish tried ∷ [];
        leads = by_inserted (request_card r) 0 rules.Always tried (syn_hashed c.layout.shape c.layout.seed r) [] (ends (refused end)) (grants_of wish tried c d does) goes;
        gave = gave;
        does = does;
      }

  pub syn_refused : (end : OpEnd) → InsertsAs (request_wish r) c d (Err end) → Gave v w [] → Carried {X = Mine} done refused count plan v w c d (Err end)
  syn_refused (errors.Taken name) ins gave = refused_went (kept_out name) (errors.Taken name) refl ins gave
  syn_refused (errors.Full owned held) ins gave = refused_went (no_slot ins.number owned held) (errors.Full owned held) refl ins.does gave
  syn_refused (errors.InUse name) ins gave = absurd ins
  syn_refused errors.NoPort ins gave = absurd ins
  syn_refused errors.Inval ins gave = absurd ins
  syn_refused errors.IsConn ins gave = absurd ins
  syn_refused errors.GroupFull ins gave = absurd ins
  syn_refused errors.GroupsFull ins gave = absurd ins
  syn_refused (errors.LeftOff causes.Memory) ins gave = absurd ins
  syn_refused (errors.LeftOff causes.Busy) ins gave = stops_nowhere count plan v w c d ins tt gave

-- who stands in a bucket stays, whichever TIME_WAIT's owner leaves
pub owners_stay : (t : Tables) (place : ℕ) (replaced : Option ℕ) (answer : Answer) (v w : View) → AskedAll place (gone_of replaced answer) v w → OwnersStay t v w
owners_stay t place replaced answer v w all = λ a owns.
    let at = owner_key a % buckets_of t in
    stands_on a at v w all.xs owns (grows v w all.xs all.gave) (all_pass at all.xs (gone_quiet place replaced answer all.xs all.asked))

pub owners_still : (t : Tables) (v w : View) → Gave v w [] → OwnersStay t v w
owners_still t v w gave = λ a owns. stands_still a (owner_key a % buckets_of t) v w gave owns

-- a listener stands in its bucket
pub listener_owns : (t : Tables) (s : Sock) (v : View) (c : Side) → FitsState s → (mine_of s).owner.state ≡ states.Listening → StandsAs t s v c → IsOwner t (mine_of s).owner v
listener_owns t (socks.Unbound m) v c fits listens stood = absurd (let e : states.Unbound ≡ states.Listening = sym fits ∙ listens in cc)
listener_owns t (socks.Bound m) v c fits listens stood = stood
listener_owns t (socks.Listening m) v c fits listens stood = stood.0
listener_owns t (socks.Full m) v c fits listens stood = stood.0
listener_owns t (socks.Request m) v c fits listens stood = absurd (let e : states.Request ≡ states.Listening = sym fits ∙ listens in cc)

pub syn_plan : (shape : Shape) (seed : ℕ) (m : Mine) (name mark : ℕ) (from at : End) → is_no_accept m.owner from at ≡ false → syn_as shape seed (request_owner m.owner name mark from at) ≡ syn shape seed m name mark from at
syn_plan shape seed m name mark from at isnt =
    sym (ap (λ b. if b then ends (refused errors.Inval) else syn_as shape seed (request_owner m.owner name mark from at)) isnt)
