-- What a pass that was never split comes to, by chain_book.
use Rattle.std.proofs.Common.{◌≡◌, ℕ, ◌+◌, ◌<◌, ◌≤◌, List, [], ◌∷◌, ◌++◌, ◌⊎◌, ⊎_elim, length, Option, None, Some, Result, Ok, Err, sym, refl, ap, ◌∙◌, arith, subst, find}
use mathlib.Core.Option.{some, some-ne-none}
use lib.ListN.{get_elem?}
use Rattle.std.specs.Option.{option_map}
use Rattle.sock_card.specs.declared.card.Card.{Card}
use Rattle.chain_book.specs.Homes.{chain_count, home}
use Rattle.chain_book.specs.Slots.{free_slot}
use Rattle.chain_book.specs.declared.outcome.Hashed.{Hashed}
use Rattle.chain_book.specs.Chains.{Chains, Outcome, put, taken, full, row_at, home_in, keeps, waits, tried, slot_outcome, insert_outcome, add_outcome, placed, hashed, without_replaced, unhashed}
use Rattle.table_rule.specs.Plays.{beginning, dropping_beginning, unlocking}
use Rattle.table_rule.specs.Sole.{Rises, IsNow, IsBare}
use Rattle.table_rule.specs.declared.view.View.{View}
use Rattle.table_rule.specs.declared.view.SlotView.{SlotView}
use Rattle.table_rule.specs.declared.view.Layout.{Layout}
use Rattle.table_rule.specs.declared.view.Seen.{Seen}
use Rattle.table_rule.specs.declared.view.Change.{Change}
use Rattle.table_rule.proofs.CardSteps.{at_end}
use Rattle.nulls_chain.specs.Changes.{Adds, Same}
use Rattle.sock_slots.specs.declared.fresh.Full.{Full}
use Rattle.nulls_chain.specs.declared.keeping.Place.{Place}
use Rattle.established.specs.Rows.{row_of, card_words}
use Rattle.established.specs.Surveys.{keeper_in, waiting_in}
use Rattle.established.specs.Comings as spec
use Rattle.established.specs.Handovers.{came, Yields, HandsOver}
use Rattle.established.specs.Leavings.{Waits, Reaps, slot_of, waiting_as}
use Rattle.established.specs.Comings.{HashesTo, walking, IsChain, Comes, Departs, Goes, IsFree, FindsNone, Admits, Refuses, FindsNoSlot, Inserts, name_of}
use Rattle.established.specs.Alone.{chains_of, next_after, IsTold, InsertsAlone, LeavesAlone, IsAdded, AddsAlone, WaitsAlone, HandsAlone, ReapsAlone, yielded}
use Rattle.established.specs.declared.survey.Newcomer.{Newcomer}
use Rattle.established.specs.declared.coming.Inserted.{Inserted}
use Rattle.established.specs.declared.coming.InsertEnd.{InsertEnd}
use Rattle.established.specs.declared.coming.InsertEnd.TheVariants as ends
use Rattle.established.proofs.Rows.{row_at_is, hashed_as_book, unhashed_as_book, length_used, free_first, free_none}

-- A pass stays alone

nobody : (v : View) → v.book.opened ≡ [] → (m : ℕ) (c : Change) → get_elem? v.book.opened m ≡ some c → c.kind ≡ 2
nobody v none m c e = absurd (some-ne-none c (sym (ap (λ (l : List Change). get_elem? l m) (sym none) ∙ e)))

pub adds_now : (v w : View) (kind bucket slot : ℕ) (card : List ℕ) → Adds v w kind bucket slot card → IsNow v → IsNow w
adds_now v w kind bucket slot card a o =
    let new : Change = record { kind = kind; bucket = bucket; slot = slot; card = card; begins = a.0; ends = a.1 } in
    let same : Same v w = a.2.4 in
    let closed : w.book.closed ≡ v.book.closed ++ new ∷ [] = a.2.3 in
    let from : (n : ℕ) (c : Change) → get_elem? w.book.closed n ≡ some c → ((get_elem? v.book.closed n ≡ some c) × (n < length v.book.closed)) ⊎ ((new ≡ c) × (n ≡ length v.book.closed)) =
    λ n c e. at_end v.book.closed new c n (ap (λ (l : List Change). get_elem? l n) (sym closed) ∙ e) in
    let later : v.seen ≤ a.0 = a.2.0 in
    record {
      bare = (
        record {
          all = same.0 ∙ o.bare.0.all;
          waits = nobody w same.2;
          rises = λ j k c d e g lt. ⊎_elim
              (λ s. ⊎_elim (λ t. o.bare.0.rises j k c d s.0 t.0 lt) (λ t. let z = o.recent j c s.0 in omega (arith, z, later, ap (λ (q : Change). q.begins) t.0)) (from k d g))
              (λ s. ⊎_elim (λ t. absurd (omega (arith, s.1, t.1, lt))) (λ t. absurd (omega (arith, s.1, t.1, lt))) (from k d g))
              (from j c e);
        },
        same.1 ∙ o.bare.1,
      );
      idle = same.2;
      recent = λ n c e. ⊎_elim (λ s. let z = o.recent n c s.0 in omega (arith, z, same.3)) (λ s. omega (arith, a.2.2, ap (λ (q : Change). q.ends) s.0)) (from n c e);
    }

same_now : (v w : View) → w.slot ≡ v.slot → w.book.closed ≡ v.book.closed → w.book.opened ≡ [] → v.seen ≤ w.seen → IsNow v → IsNow w
same_now v w slot closed opened later o = record {
  bare = (
    record {
      all = ap (λ (s : SlotView). s.parts) slot ∙ o.bare.0.all;
      waits = nobody w opened;
      rises = subst Rises (sym closed) o.bare.0.rises;
    },
    ap (λ (s : SlotView). s.holds) slot ∙ o.bare.1,
  );
  idle = opened;
  recent = λ n c q. let z = o.recent n c (ap (λ (l : List Change). get_elem? l n) (sym closed) ∙ q) in omega (arith, z, later);
}

goes_now : (v w : View) (bucket : ℕ) (found : Option Hashed) → Goes v w bucket found → IsNow v → IsNow w
goes_now v w bucket None t o = subst IsNow (sym t) o
goes_now v w bucket (Some x) t o = adds_now v w 0 bucket x.slot _ t.change o

-- a bucket is locked and walked, or given back
pub walking_now : (v : View) (bucket : ℕ) (xs : List Seen) → IsNow v → IsNow (walking v bucket xs)
walking_now v bucket xs o = record { bare = (record { all = o.bare.0.all; rises = o.bare.0.rises; waits = o.bare.0.waits }, o.bare.1); idle = o.idle; recent = o.recent }

pub unlocking_now : (v w : View) (instant : ℕ) → w ≡ unlocking v instant → IsNow v → IsNow w
unlocking_now v w instant e o = subst IsNow (sym e) record { bare = (record { all = o.bare.0.all; rises = o.bare.0.rises; waits = o.bare.0.waits }, o.bare.1); idle = o.idle; recent = o.recent }

-- What a change leaves

goes_left : (layout : Layout) (bucket : ℕ) → bucket < chain_count layout.shape → (next : ℕ) (found : Option Hashed) (u w : View) → Goes u w bucket found
    → chains_of layout next w.book.closed ≡ without_replaced (chains_of layout next u.book.closed) bucket found
goes_left layout bucket near next None u w t = ap (λ (x : View). chains_of layout next x.book.closed) t
goes_left layout bucket near next (Some x) u w t = ap (chains_of layout next) t.change.2.3 ∙ unhashed_as_book layout next u.book.closed bucket x.slot t.change.0 t.change.1 near _

module _ (layout : Layout) (from bucket : ℕ) (le : from ≤ layout.shape.slots) (near : bucket < chain_count layout.shape) where
  comes_left : (slot : ℕ) (card : Card) (v u : View) → Comes v u bucket slot card
      → chains_of layout (slot + 1) u.book.closed ≡ placed (chains_of layout from v.book.closed) bucket slot card
  comes_left slot card v u c = ap (chains_of layout (slot + 1)) c.change.2.3 ∙ hashed_as_book layout from v.book.closed bucket slot c.change.0 c.change.1 near card c.told

  module _ (v : View) (now : IsNow v) (xs : List Seen) (seen : IsChain v bucket xs) where
    abbrev t : Chains
    t = chains_of layout from v.book.closed

    row-is : row_at t bucket ≡ row_of xs
    row-is = row_at_is layout from v.book.closed bucket near ∙ ap row_of (sym (seen.sole now.bare.0))

    bare : IsBare (walking v bucket xs)
    bare = (walking_now v bucket xs now).bare

    -- no slot is free: how full the slots are
    full-is : (u : View) (f : Full) (old : Option Hashed) → FindsNone layout (walking v bucket xs) u f → slot_outcome t (free_slot t.slots) old ≡ full f.owned f.held
    full-is u f old none =
        let all = none.alone bare in
        let owned : f.owned ≡ length t.slots.used = omega (arith, none.full.0, all.1, length_used layout from v.book.closed le) in
        ap (λ (o : Option ℕ). slot_outcome t o old) (free_none layout from v.book.closed le all.0) ∙ (ap (λ (k : ℕ). full k 0) (sym owned) ∙ ap (full f.owned) (sym all.1))

    put-is : (slot : ℕ) (old : Option Hashed) → IsFree layout (walking v bucket xs) xs from slot → slot_outcome t (free_slot t.slots) old ≡ put slot old
    put-is slot old free = ap (λ (o : Option ℕ). slot_outcome t o old) (free_first layout from v.book.closed le slot free.inside (free.first bare))

    finds_now : (u : View) (f : Full) → FindsNone layout (walking v bucket xs) u f → IsNow u × (u.book.closed ≡ v.book.closed)
    finds_now u f none =
        let tried = none.full.1 in
        let is : u ≡ dropping_beginning (record (beginning (walking v bucket xs) none.begin) { sights = _ }) = none.is ∙ ap dropping_beginning tried.is in
        let z = none.later in (
          same_now (walking v bucket xs) u (ap (λ (x : View). x.slot) is) (ap (λ (x : View). x.book.closed) is) (ap (λ (x : View). x.book.opened) is) (omega (arith, z, ap (λ (x : View). x.seen) is)) (walking_now v bucket xs now),
          ap (λ (x : View). x.book.closed) is,
        )

    module _ (card : Card) (home : home_in t card ≡ bucket) where
      abbrev EndsAdd : Result Place Full → View → Outcome → Type 0
      EndsAdd r u x = IsAdded bucket card x r × (chains_of layout (next_after x from) u.book.closed ≡ hashed t card x) × IsNow u

      hash_alone : (r : Result Place Full) (u : View) → HashesTo layout from bucket card xs r (walking v bucket xs) u → EndsAdd r u (add_outcome t)
      hash_alone (Ok place) u h =
          let told : place ≡ record { bucket = bucket; slot = place.slot; card = card } = λ k. record { bucket = h.bucket_is k; slot = place.slot; card = h.card_is k } in
          subst (EndsAdd (Ok place) u) (sym (put-is place.slot None h.slot)) (
            told,
            comes_left place.slot card (walking v bucket xs) u h.comes ∙ ap (λ (b : ℕ). placed t b place.slot card) (sym home),
            adds_now (walking v bucket xs) u 1 bucket place.slot _ h.comes.change (walking_now v bucket xs now),
          )
      hash_alone (Err f) u h =
          let none = finds_now u f h in
          subst (EndsAdd (Err f) u) (sym (full-is u f None h)) (refl, ap (chains_of layout from) none.1, none.0)

    module _ (new : Newcomer) (home : home_in t new.card ≡ bucket) where
      abbrev outcome : Outcome
      outcome = insert_outcome t new.card new.moment new.replace

      keeper : find (keeps new.card new.moment new.replace) (row_at t (home_in t new.card)) ≡ keeper_in new (row_of xs)
      keeper = ap (λ (b : ℕ). find (keeps new.card new.moment new.replace) (row_at t b)) home ∙ ap (find (keeps new.card new.moment new.replace)) row-is

      waiter : find (waits new.card) (row_at t (home_in t new.card)) ≡ waiting_in new (row_of xs)
      waiter = ap (λ (b : ℕ). find (waits new.card) (row_at t b)) home ∙ ap (find (waits new.card)) row-is

      free-is : keeper_in new (row_of xs) ≡ None → outcome ≡ slot_outcome t (free_slot t.slots) (waiting_in new (row_of xs))
      free-is none = ap (λ (o : Option Hashed). tried t o (find (waits new.card) (row_at t (home_in t new.card)))) (keeper ∙ none) ∙ ap (slot_outcome t (free_slot t.slots)) waiter

      taken-is : (o : Option Hashed) (name : ℕ) → keeper_in new (row_of xs) ≡ o → option_map name_of o ≡ Some name → outcome ≡ taken name
      taken-is None name is e = absurd (subst (λ (o : Option ℕ). is-none o) e tt)
        where
          is-none : Option ℕ → Type 0
          is-none None = Unit {0}
          is-none (Some z) = ⊥
      taken-is (Some x) name is e = ap (λ (o : Option Hashed). tried t o (find (waits new.card) (row_at t (home_in t new.card)))) (keeper ∙ is) ∙ ap taken (named e)
        where
          named : Some x.card.name ≡ Some name → x.card.name ≡ name
          named q = ap (λ (o : Option ℕ). value o) q
            where
              value : Option ℕ → ℕ
              value (Some z) = z
              value None = 0

      abbrev Ends : Result Inserted InsertEnd → View → Outcome → Type 0
      Ends result w x = IsTold bucket new.card x result × (chains_of layout (next_after x from) w.book.closed ≡ hashed t new.card x) × IsNow w

      ends_alone : (result : Result Inserted InsertEnd) (w : View) → (i : Inserts layout from bucket new result v w) → i.chain ≡ xs → Ends result w outcome
      ends_alone (Ok i) w h is =
          let a = subst (λ (l : List Seen). Admits layout from bucket new l i (walking v bucket l) h.left) is h.comes in
          let old : Option Hashed = waiting_in new (row_of xs) in
          let out : outcome ≡ put i.place.slot old = free-is a.unkept ∙ put-is i.place.slot old a.slot in
          let left : chains_of layout (i.place.slot + 1) w.book.closed ≡ hashed t new.card (put i.place.slot old) =
          ap (λ (x : View). chains_of layout (i.place.slot + 1) x.book.closed) h.unlocked
          ∙ (goes_left layout bucket near (i.place.slot + 1) old a.between h.left a.goes_out
          ∙ (ap (λ (x : Chains). without_replaced x bucket old) (comes_left i.place.slot new.card (walking v bucket xs) a.between a.comes)
          ∙ ap (λ (b : ℕ). without_replaced (placed t b i.place.slot new.card) b old) (sym home))) in
          let told : i.place ≡ record { bucket = bucket; slot = i.place.slot; card = new.card } = λ k. record { bucket = a.bucket_is k; slot = i.place.slot; card = a.card_is k } in
          subst (Ends (Ok i) w) (sym out) (
            (told, a.replaced),
            left,
            unlocking_now h.left w h.instant h.unlocked (goes_now a.between h.left bucket old a.goes_out (adds_now (walking v bucket xs) a.between 1 bucket i.place.slot _ a.comes.change (walking_now v bucket xs now))),
          )
      ends_alone (Err (ends.Taken name)) w h is =
          let a = subst (λ (l : List Seen). Refuses new l name (walking v bucket l) h.left) is h.comes in
          subst (Ends (Err (ends.Taken name)) w) (sym (taken-is (keeper_in new (row_of xs)) name refl a.keeper)) (
            refl,
            ap (λ (x : View). chains_of layout from x.book.closed) (h.unlocked ∙ ap (λ (y : View). unlocking y h.instant) a.same),
            unlocking_now h.left w h.instant h.unlocked (subst IsNow (sym a.same) (walking_now v bucket xs now)),
          )
      ends_alone (Err (ends.Full f)) w h is =
          let a = subst (λ (l : List Seen). FindsNoSlot layout new l f (walking v bucket l) h.left) is h.comes in
          let none = finds_now h.left f a.none in
          subst (Ends (Err (ends.Full f)) w) (sym (free-is a.unkept ∙ full-is h.left f (waiting_in new (row_of xs)) a.none)) (
            refl,
            ap (λ (x : View). chains_of layout from x.book.closed) h.unlocked ∙ ap (chains_of layout from) none.1,
            unlocking_now h.left w h.instant h.unlocked none.0,
          )

pub insert_alone : (layout : Layout) (from bucket : ℕ) (new : Newcomer) (result : Result Inserted InsertEnd) (v w : View) → from ≤ layout.shape.slots → bucket < chain_count layout.shape
    → home layout.shape layout.seed new.card ≡ bucket → Inserts layout from bucket new result v w → InsertsAlone layout from bucket new result v w
insert_alone layout from bucket new result v w le near at h now = ends_alone layout from bucket le near v now h.chain h.seen new at result w h refl

pub leaves_alone : (layout : Layout) (place : Place) (v w : View) → place.bucket < chain_count layout.shape → Adds v w 0 place.bucket place.slot (card_words place.card) → LeavesAlone layout place v w
leaves_alone layout place v w near a now = (
  λ next. ap (chains_of layout next) a.2.3 ∙ unhashed_as_book layout next v.book.closed place.bucket place.slot a.0 a.1 near _,
  adds_now v w 0 place.bucket place.slot _ a now,
)

pub adds_alone : (layout : Layout) (from bucket : ℕ) (card : Card) (r : Result Place Full) (v w : View) → from ≤ layout.shape.slots → bucket < chain_count layout.shape
    → home layout.shape layout.seed card ≡ bucket → spec.Adds layout from bucket card r v w → AddsAlone layout from bucket card r v w
adds_alone layout from bucket card r v w le near at h now =
    let a = hash_alone layout from bucket le near v now h.chain h.seen card at r h.left h.comes in
    let next = next_after (add_outcome (chains_of layout from v.book.closed)) from in
    (a.0, ap (λ (x : View). chains_of layout next x.book.closed) h.unlocked ∙ a.1, unlocking_now h.left w h.instant h.unlocked a.2)

pub waits_alone : (layout : Layout) (from : ℕ) (place : Place) (card : Card) (r : Result Place Full) (v w : View) → from ≤ layout.shape.slots → place.bucket < chain_count layout.shape
    → home layout.shape layout.seed card ≡ place.bucket → Waits layout from place card r v w → WaitsAlone layout from place card r v w
waits_alone layout from place card r v w le near at h now =
    let a = hash_alone layout from place.bucket le near v now h.chain h.seen card at r h.between h.comes in
    let next = next_after (add_outcome (chains_of layout from v.book.closed)) from in (
      a.0,
      ap (λ (x : View). chains_of layout next x.book.closed) h.unlocked
          ∙ (ap (chains_of layout next) h.departs.change.2.3
          ∙ (unhashed_as_book layout next h.between.book.closed place.bucket place.slot h.departs.change.0 h.departs.change.1 near _
          ∙ ap (λ (x : Chains). unhashed x (record { bucket = place.bucket; slot = place.slot })) a.1)),
      unlocking_now h.left w h.instant h.unlocked (adds_now h.between h.left 0 place.bucket place.slot _ h.departs.change a.2),
    )

-- what is left once the request went, or where no slot was free
put-yields : (left : Chains) (b : ℕ) (card : Card) (request place : Place) (x : Outcome) → IsAdded b card x (Ok place) → unhashed left (record { bucket = request.bucket; slot = request.slot }) ≡ yielded left request x
put-yields left b card request place (put slot old) e = refl
put-yields left b card request place (taken name) e = absurd e
put-yields left b card request place (full owned held) e = absurd e

full-yields : (left : Chains) (b : ℕ) (card : Card) (request : Place) (f : Full) (x : Outcome) → IsAdded b card x (Err f) → left ≡ yielded left request x
full-yields left b card request f (put slot None) e = absurd e
full-yields left b card request f (put slot (Some old)) e = absurd e
full-yields left b card request f (taken name) e = absurd e
full-yields left b card request f (full owned held) e = refl

pub hands_alone : (layout : Layout) (from : ℕ) (request : Place) (card : Card) (r : Result Place (Place × Full)) (v w : View) → from ≤ layout.shape.slots → request.bucket < chain_count layout.shape
    → home layout.shape layout.seed card ≡ request.bucket → HandsOver layout from request card r v w → HandsAlone layout from request card r v w
hands_alone layout from request card r v w le near at h now = go r refl
  where
    t : Chains
    t = chains_of layout from v.book.closed

    outcome : Outcome
    outcome = add_outcome t

    next : ℕ
    next = next_after outcome from

    between : View
    between = h.hands.between

    added : IsAdded request.bucket card outcome (came r) × (chains_of layout next between.book.closed ≡ hashed t card outcome) × IsNow between
    added = hash_alone layout from request.bucket le near v now h.chain h.seen card at (came r) between h.hands.comes

    go : (k : Result Place (Place × Full)) → r ≡ k → IsAdded request.bucket card outcome (came r) × (chains_of layout next w.book.closed ≡ yielded (hashed t card outcome) request outcome) × IsNow w
    go (Ok place) e =
        let d : Departs between h.left request.bucket request.slot request.card = subst (λ (k : Result Place (Place × Full)). Yields request k between h.left) e h.hands.yields in (
          added.0,
          ap (λ (x : View). chains_of layout next x.book.closed) h.unlocked
              ∙ (ap (chains_of layout next) d.change.2.3
              ∙ (unhashed_as_book layout next between.book.closed request.bucket request.slot d.change.0 d.change.1 near _
              ∙ (ap (λ (x : Chains). unhashed x (record { bucket = request.bucket; slot = request.slot })) added.1
              ∙ put-yields (hashed t card outcome) request.bucket card request place outcome (subst (λ (k : Result Place (Place × Full)). IsAdded request.bucket card outcome (came k)) e added.0)))),
          unlocking_now h.left w h.instant h.unlocked (adds_now between h.left 0 request.bucket request.slot _ d.change added.2),
        )
    go (Err f) e =
        let same : h.left ≡ between = (subst (λ (k : Result Place (Place × Full)). Yields request k between h.left) e h.hands.yields).1 in (
          added.0,
          ap (λ (x : View). chains_of layout next x.book.closed) (h.unlocked ∙ ap (λ (y : View). unlocking y h.instant) same)
              ∙ (added.1 ∙ full-yields (hashed t card outcome) request.bucket card request f.1 outcome (subst (λ (k : Result Place (Place × Full)). IsAdded request.bucket card outcome (came k)) e added.0)),
          unlocking_now h.left w h.instant h.unlocked (subst IsNow (sym same) added.2),
        )

pub reaps_alone : (layout : Layout) (bucket name : ℕ) (result : Option ℕ) (v w : View) → bucket < chain_count layout.shape → Reaps bucket name result v w → ReapsAlone layout bucket name result v w
reaps_alone layout bucket name result v w near h now = (
  λ next.
      let t = chains_of layout next v.book.closed in
      let row : row_at t bucket ≡ row_of h.chain = row_at_is layout next v.book.closed bucket near ∙ ap row_of (sym (h.seen.sole now.bare.0)) in
      let is : waiting_as name (row_at t bucket) ≡ waiting_as name (row_of h.chain) = ap (waiting_as name) row in (
        h.slot ∙ ap (option_map slot_of) (sym is),
        ap (λ (x : View). chains_of layout next x.book.closed) h.unlocked
            ∙ (goes_left layout bucket near next (waiting_as name (row_of h.chain)) (walking v bucket h.chain) h.left h.goes
            ∙ ap (without_replaced t bucket) (sym is)),
      ),
  unlocking_now h.left w h.instant h.unlocked (goes_now (walking v bucket h.chain) h.left bucket (waiting_as name (row_of h.chain)) h.goes (walking_now v bucket h.chain now)),
)
