-- How the plan of `ack` goes on.
use Rattle.std.proofs.Common.{◌≡◌, ℕ, ◌%◌, Bool, List, [], ◌∷◌, Option, None, Some, Result, Ok, Err, refl, sym, ap, subst, ◌∙◌, if◌then◌else◌, slice_index, arith}
use Rattle.sock_card.specs.Conflict.{owner_key}
use Rattle.sock_card.specs.declared.card.Kind.TheVariants as kinds
use Rattle.sock_card.specs.declared.owner.Owner.{Owner}
use Rattle.sock_card.specs.declared.owner.State.{State}
use Rattle.sock_card.specs.declared.owner.State.TheVariants as states
use Rattle.sock_card.specs.Words.{packed}
use Rattle.bind_buckets.specs.declared.request.Request.TheVariants as requests
use Rattle.bind_buckets.specs.declared.request.Answer.TheVariants as answers
use Rattle.bind_buckets.specs.Turned.{View, Gave}
use Rattle.chain_book.specs.declared.outcome.Place.{Place}
use Rattle.chain_book.specs.Homes.{home}
use Rattle.chain_book.specs.declared.shape.Shape.{Shape}
use Rattle.flat_list.specs.Owned.{heir_owner, is_no_ack}
use Rattle.nulls_chain.specs.Changes.{OtherPlacesStay}
use Rattle.table_rule.specs.Words.{words_of}
use Rattle.table_rule.specs.declared.view.Layout.{Layout}
use Rattle.table_model.specs.declared.operation.Cause.TheVariants as causes
use Rattle.table_model.specs.declared.operation.OpEnd.TheVariants as errors
use Rattle.table_model.specs.declared.operation.OpEnd.{OpEnd}
use Rattle.table_model.specs.Own.{Mine, card_of}
use Rattle.table_model.specs.Asking.{Asking, ends, asks}
use Rattle.table_model.specs.Operations.{Did, done, refused, full_card, full_in, when_done, ack, ack_as, ack_by, ack_from, ack_hashed}
use Rattle.race_record.specs.Deeds.{Deed, Tried, hashed, no_slot, added, left}
use Rattle.sock_ops.specs.Sides.{Side}
use Rattle.sock_ops.specs.Leads.{Leads}
use Rattle.sock_ops.specs.Goes.{Went, Carried, AskedAll}
use Rattle.sock_ops.specs.Accepting.{accepted}
use Rattle.sock_ops.specs.Handshaking.{HandsOver, TakesOver, ack_answer}
use Rattle.sock_ops.specs.declared.sock.Sock.{Sock}
use Rattle.sock_ops.specs.declared.sock.Sock.TheVariants as socks
use Rattle.sock_ops.specs.declared.tables.Tables.{Tables}
use Rattle.sock_ops.specs.Socks.{FitsState, full_at, mine_of, without_socket}
use Rattle.sock_ops.specs.Stands.{IsHashed, IsOwner, StandsAs, place_in}
use Rattle.sock_ops.proofs.Goes.{deed_at, by_added, by_entry, by_left, does_both, does_entry, stops_nowhere, all_one, same_err}
use Rattle.sock_ops.proofs.CloseGoes.{gave_one}
use Rattle.sock_ops.proofs.AcceptGoes.{child_entry}

module _ (r : Mine) (a : Owner) (place : Place) (m : Mine) (c d : Side) (takes : TakesOver (place_in kinds.Request r) (full_card a) place c d) (m_is : m ≡ full_at a place) where
  -- where a child was hashed
  pub child_hashed : d.layout ≡ c.layout → IsHashed kinds.Full m d
  child_hashed same =
      subst (λ (n : Mine). IsHashed kinds.Full n d) (sym m_is)
      (record { home = takes.replaces.bucket ∙ ap (λ (l : Layout). home l.shape l.seed (full_card a)) (sym same); placed = takes.placed })

  -- its place, as plans know it
  pub child_is : full_in c.layout.shape c.layout.seed a takes.replaces.hash.slot ≡ m
  child_is =
      let at : place ≡ record { bucket = home c.layout.shape c.layout.seed (full_card a); slot = takes.replaces.hash.slot } = λ i. record { bucket = takes.replaces.bucket i; slot = takes.replaces.slot i } in
      sym (m_is ∙ ap (full_at a) at)

module _ (count : ℕ) (r : Mine) (l a : Owner) (v w : View) (c d : Side) where
  abbrev plan : Asking Did
  plan = ack_as c.layout.shape c.layout.seed r l a

  -- the child came in the request's place
  pub ack_done : (place : Place) (m : Mine) → TakesOver (place_in kinds.Request r) (full_card a) place c d → m ≡ full_at a place
      → AskedAll (owner_key l % count) (child_entry l a ∷ []) v w → Went count plan v w c d (ends (done m))
  ack_done place m takes m_is all =
      let one = all_one (owner_key l % count) (child_entry l a) v w all in
      let shape = c.layout.shape in
      let seed = c.layout.seed in
      let p = takes.replaces in
      let tried : Tried = hashed p.hash None in
      let there : Asking Did = ends (done (full_in shape seed a p.hash.slot)) in
      let inherits : Asking Did = asks (owner_key l) (requests.Inherit l.name a.name a.mark a.addr a.remote a.rport) (when_done there) in
      let last : List Deed = deed_at (owner_key l) one.x ∷ [] in
      let later : List Deed = left p.unhash ∷ last in
      let all_deeds : List Deed = added (full_card a) tried ∷ later in
      record {
        deeds = added (full_card a) tried ∷ left p.unhash ∷ deed_at (owner_key l) one.x ∷ [];
        leads = subst (λ (n : Mine). Leads plan all_deeds (ends (done n))) (child_is r a place m c d takes m_is)
            (by_added (full_card a) tried (ack_hashed shape seed r l a) later there p.is
            (by_left r.place (card_of kinds.Request r) inherits p.unhash last there p.goes
            (by_entry count (owner_key l) (requests.Inherit l.name a.name a.mark a.addr a.remote a.rport) answers.Done (when_done there) one.x [] there one.is refl)));
        gave = gave_one count (owner_key l) (child_entry l a) v w one;
        does = does_both (added (full_card a) tried ∷ left p.unhash ∷ []) last c d d p.does (does_entry (owner_key l) one.x d);
      }

  -- no slot was free for it, or its chain wasn't had
  pub ack_refused : (end : OpEnd) → HandsOver (place_in kinds.Request r) (full_card a) c d (Err end) → Gave v w [] → Carried {X = Mine} done refused count plan v w c d (Err end)
  ack_refused (errors.Full owned held) none gave =
      let tried : Tried = no_slot none.number owned held in
      let there : Asking Did = ends (refused (errors.Full owned held)) in
      record {
        deeds = added (full_card a) tried ∷ [];
        leads = by_added (full_card a) tried (ack_hashed c.layout.shape c.layout.seed r l a) [] there tt refl;
        gave = gave;
        does = none.does;
      }
  ack_refused (errors.Taken name) none gave = absurd none
  ack_refused (errors.InUse name) none gave = absurd none
  ack_refused errors.NoPort none gave = absurd none
  ack_refused errors.Inval none gave = absurd none
  ack_refused errors.IsConn none gave = absurd none
  ack_refused errors.GroupFull none gave = absurd none
  ack_refused errors.GroupsFull none gave = absurd none
  ack_refused (errors.LeftOff causes.Memory) none gave = absurd none
  ack_refused (errors.LeftOff causes.Busy) none gave = stops_nowhere count plan v w c d none tt gave

-- what is handed back beside the answer
pub ack_answers : (count : ℕ) (p : Asking Did) (v w : View) (c d : Side) (s : Sock) (r : Result Mine OpEnd) → Carried {X = Mine} done refused count p v w c d r → Carried accepted refused count p v w c d (without_socket (ack_answer s r))
ack_answers count p v w c d s (Ok m) k = k
ack_answers count p v w c d s (Err end) k = same_err {X = Mine} {Y = Sock} done accepted refused count p v w c d end k

module _ (shape : Shape) (seed name mark : ℕ) where
  -- it is no request
  pub ack_else : (s : Sock) (l : Option Mine) → FitsState s → ((x : Mine) → s ≡ socks.Request x → ⊥) → ack shape seed (mine_of s) l name mark ≡ ends (refused errors.Inval)
  ack_else (socks.Unbound m) l fits other = ap (λ (st : State). ack_from shape seed st m l name mark) fits
  ack_else (socks.Bound m) l fits other = ap (λ (st : State). ack_from shape seed st m l name mark) fits
  ack_else (socks.Listening m) l fits other = ap (λ (st : State). ack_from shape seed st m l name mark) fits
  ack_else (socks.Full m) l fits other = ap (λ (st : State). ack_from shape seed st m l name mark) fits
  ack_else (socks.Request m) l fits other = absurd (other m refl)

  -- its plan, by its listener
  pub ack_is : (r : Mine) (l : Option Mine) → r.owner.state ≡ states.Request → ack_by shape seed r l name mark ≡ ack shape seed r l name mark
  ack_is r l state = sym (ap (λ (st : State). ack_from shape seed st r l name mark) state)

  pub ack_plan : (r l : Mine) (b : Bool) → r.owner.state ≡ states.Request → is_no_ack l.owner r.owner ≡ b
      → (if b then ends (refused errors.Inval) else ack_as shape seed r l.owner (heir_owner l.owner name mark r.owner)) ≡ ack shape seed r (Some l) name mark
  ack_plan r l b state is =
      sym (ap (λ (x : Bool). if x then ends (refused errors.Inval) else ack_as shape seed r l.owner (heir_owner l.owner name mark r.owner)) is) ∙ ack_is r (Some l) state

-- a listener's card is no request's
no_request : (m r : Mine) → words_of (packed (card_of kinds.Listen m)) ≡ words_of (packed (card_of kinds.Request r)) → ⊥
no_request m r same = omega (arith, ap (λ (ws : List ℕ). slice_index ws 1) same)

-- where another's card was, a listener stands
pub listener_stays : (t : Tables) (s : Sock) (r : Mine) (v w : View) (c d : Side) → FitsState s → (mine_of s).owner.state ≡ states.Listening → d.layout ≡ c.layout → OtherPlacesStay (place_in kinds.Request r) c.view d.view
    → StandsAs t s v c → IsOwner t (mine_of s).owner w → StandsAs t s w d
listener_stays t (socks.Unbound m) r v w c d fits listens same stay stood owns = absurd (let e : states.Unbound ≡ states.Listening = sym fits ∙ listens in cc)
listener_stays t (socks.Bound m) r v w c d fits listens same stay stood owns = owns
listener_stays t (socks.Listening m) r v w c d fits listens same stay stood owns =
    let p = stood.1.placed in (
      owns,
      record {
        home = stood.1.home ∙ ap (λ (l : Layout). home l.shape l.seed (card_of kinds.Listen m)) (sym same);
        placed = (p.0, p.1, p.2, p.3, stay p.0 (λ alike. no_request m r (sym p.3 ∙ alike)) p.4);
      },
    )
listener_stays t (socks.Full m) r v w c d fits listens same stay stood owns = absurd (let e : states.Full ≡ states.Listening = sym fits ∙ listens in cc)
listener_stays t (socks.Request m) r v w c d fits listens same stay stood owns = absurd (let e : states.Request ≡ states.Listening = sym fits ∙ listens in cc)
