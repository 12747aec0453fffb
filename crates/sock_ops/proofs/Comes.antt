-- Cards that come, as deeds.
use Rattle.std.proofs.Common.{arith, ◌≡◌, ◌==◌, ℕ, ◌+◌, ◌<◌, Bool, true, false, cond, ◌⊎◌, inl, inr, List, [], ◌∷◌, Option, None, Some, Result, Ok, Err, refl, sym, ap, ◌∙◌, subst, append-nil}
use Rattle.std.specs.Option.{option_map}
use Rattle.list_words.specs.Lists.{Each}
use Rattle.sock_card.specs.declared.card.Card.{Card}
use Rattle.chain_book.specs.Homes.{chain_count, home}
use Rattle.chain_book.specs.declared.book.Act.{Act}
use Rattle.chain_book.specs.declared.book.Act.TheVariants as acts
use Rattle.chain_book.specs.declared.book.Change.{Change}
use Rattle.chain_book.specs.declared.outcome.Hashed.{Hashed}
use Rattle.chain_book.specs.Chains.{Outcome, put, insert_outcome, waits}
use Rattle.chain_book.specs.Tuples.{waits_at, may_replace}
use Rattle.table_rule.specs.Plays.{sight_of, sight_at, unlocking}
use Rattle.table_rule.specs.Sole.{IsNow}
use Rattle.table_rule.specs.declared.view.View.{View}
use Rattle.table_rule.specs.declared.view.Layout.{Layout}
use Rattle.table_rule.specs.declared.view.Seen.{Seen}
use Rattle.table_rule.specs.declared.view.Sight.{Sight}
use Rattle.sock_slots.specs.declared.fresh.Full.{Full}
use Rattle.nulls_chain.specs.Changes.{Rest, PlacesStay}
use Rattle.nulls_chain.specs.declared.keeping.Place.{Place}
use Rattle.established.specs.Rows.{row_of, card_words, HasCard}
use Rattle.established.specs.Surveys.{waiting_in}
use Rattle.established.specs.Comings as spec
use Rattle.established.specs.Comings.{walking, IsChain, Comes, Departs, Goes, Admits, Refuses, FindsNone, HashesTo, name_of}
use Rattle.established.specs.Leavings.{Quiet}
use Rattle.established.specs.Alone.{chains_of, next_after, InsertsAlone, AddsAlone}
use Rattle.established.specs.declared.survey.Newcomer.{Newcomer}
use Rattle.established.specs.declared.coming.Inserted.{Inserted}
use Rattle.established.specs.declared.coming.InsertEnd.{InsertEnd}
use Rattle.established.specs.declared.coming.InsertEnd.TheVariants as ends
use Rattle.race_book.proofs.AmongLemmas.{among_left}
use Rattle.race_record.specs.Deeds.{Wish, Tried, hashed, kept_out, no_slot, inserted, added, Vain}
use Rattle.race_record.specs.Goes.{Grants, IsHashOf, outcome_of}
use Rattle.sock_ops.specs.Sides.{Side}
use Rattle.sock_ops.specs.Made.{Made, AnswersAlone, SawFree, SawKeeper}
use Rattle.sock_ops.specs.Answers.{Inserts, Adds, IsAdded}
use Rattle.sock_ops.proofs.Found.{IsTold, found_told, gives_way}
use Rattle.sock_ops.proofs.Seen.{same_sees, was_seen}
use Rattle.sock_ops.proofs.Stays.{all_stay}
use Rattle.sock_ops.proofs.Left.{side, change_at, bare_of, StandsWell, made, left_unlocked, left_one, left_two, left_kept, in_vain, vain_is, left_none, saw_none}
use Rattle.sock_ops.proofs.Alone.{came_told, taken_told, full_told, outcome_by, insert_answers, add_answers}

pub quiet_of : (v w : View) → Rest v w → Quiet v w
quiet_of v w r = (r.2, r.3, r.4)

abbrev is-hash : Act → Type 0
is-hash acts.Hash = Unit {0}
is-hash acts.Unhash = ⊥

-- an unhash needs no home
pub no_hash : (layout : Layout) (bucket slot : ℕ) (card : Card) (b e : ℕ) → StandsWell layout 0 bucket slot card b e
no_hash layout bucket slot card b e = ((λ at. absurd (subst is-hash (sym at) tt)), (λ k. absurd (omega (arith, k))))

-- a card that was hashed is at home
pub at_home : (layout : Layout) (bucket slot : ℕ) (card : Card) (b e : ℕ) → IsTold card → home layout.shape layout.seed card ≡ bucket → slot < layout.shape.slots
    → StandsWell layout 1 bucket slot card b e
at_home layout bucket slot card b e told home_is inside = (
  (λ at. record { bucket = sym home_is ∙ ap (home layout.shape layout.seed) (sym told); slot = inside }),
  (λ k. told),
)

-- the hash by which a card came
abbrev pub hash_in : (bucket slot : ℕ) (card : Card) (v u : View) → Comes v u bucket slot card → Change
hash_in bucket slot card v u c = change_at 1 bucket slot card c.change.0 c.change.1

-- the unhash by which one went
abbrev pub gone_in : (bucket slot : ℕ) (card : Card) (v u : View) → Departs v u bucket slot card → Change
gone_in bucket slot card v u d = change_at 0 bucket slot card d.change.0 d.change.1

-- Inserts

module _ (layout : Layout) (from bucket : ℕ) (wish : Wish) (v w : View) (near : bucket < chain_count layout.shape) (home_is : home layout.shape layout.seed wish.card ≡ bucket) (stay : PlacesStay v w) where
  abbrev new : Newcomer
  new = record { card = wish.card; moment = wish.moment; replace = wish.rule }

  abbrev old : Side
  old = side layout v from

  abbrev outcome : Outcome
  outcome = insert_outcome (chains_of layout from v.book.closed) wish.card wish.moment wish.rule

  module _ (xs : List Seen) (seen : IsChain v bucket xs) (left : View) (instant : ℕ) (unlocked : w ≡ unlocking left instant) where
    -- no one gave way
    came_alone : (cards : Each HasCard xs) (i : Inserted) (a : Admits layout from bucket new xs i (walking v bucket xs) left) → InsertsAlone layout from bucket new (Ok i) v w
        → left ≡ a.between → waiting_in new (row_of xs) ≡ None → Inserts wish (Ok i) old (side layout w (i.place.slot + 1))
    came_alone cards i a alone goes none =
        let u : View = a.between in
        let next : ℕ = i.place.slot + 1 in
        let c : Change = hash_in bucket i.place.slot wish.card (walking v bucket xs) u a.comes in
        let is : w ≡ unlocking u instant = unlocked ∙ ap (λ (y : View). unlocking y instant) goes in
        let l = left_unlocked (c ∷ []) [] (c.begin ∷ c.end ∷ []) layout from next v u instant
        (left_one layout from next v u 1 bucket i.place.slot wish.card (bare_of (walking v bucket xs) u 1 bucket i.place.slot (card_words wish.card) a.comes.change) (quiet_of (walking v bucket xs) u a.comes.rest) a.comes.saw
        (at_home layout bucket i.place.slot wish.card c.begin c.end a.comes.told home_is a.slot.inside)) in
        let begun = a.comes.change.2.6 in
        let saw : SawFree wish c None old (side layout (unlocking u instant) next) = record {
          sight = sight_at (walking v bucket xs) c.begin;
          there = among_left (sight_at (walking v bucket xs) c.begin) u.sights (sight_of u instant ∷ []) (was_seen (walking v bucket xs) u c.begin begun);
          bucket = refl;
          whole = refl;
          instant = refl;
          cards = cards;
          unkept = a.unkept;
          gave = none;
        } in
        let m : Made (inserted wish (hashed c None)) old (side layout (unlocking u instant) next) =
        made (inserted wish (hashed c None)) old (side layout (unlocking u instant) next) (record { act = refl; card_is = a.comes.told }) l saw in
        let told : IsNow v → outcome ≡ outcome_of (hashed c None) =
        λ now. came_told layout from bucket new i v xs near now seen home_is a.unkept (alone now).0 ∙ ap (put i.place.slot) none in
        record {
          tried = hashed c None;
          answer = (
            λ k. record { bucket = a.bucket_is k; slot = i.place.slot; card = a.card_is k },
            a.replaced ∙ ap (option_map name_of) none,
          );
          does = record {
            leaves = (side layout w next, subst (λ (x : View). Made (inserted wish (hashed c None)) old (side layout x next)) (sym is) m, refl);
            stay = all_stay (inserted wish (hashed c None) ∷ []) v w stay;
            alone = insert_answers layout from bucket wish (hashed c None) (Ok i) v w alone told;
          };
        }

    -- who was found gave way
    came_for : (cards : Each HasCard xs) (i : Inserted) (a : Admits layout from bucket new xs i (walking v bucket xs) left) → InsertsAlone layout from bucket new (Ok i) v w
        → (x : Hashed) → Departs a.between left bucket x.slot x.card → waiting_in new (row_of xs) ≡ Some x → IsTold x.card → Inserts wish (Ok i) old (side layout w (i.place.slot + 1))
    came_for cards i a alone x d some x_told =
        let u : View = a.between in
        let next : ℕ = i.place.slot + 1 in
        let c : Change = hash_in bucket i.place.slot wish.card (walking v bucket xs) u a.comes in
        let g : Change = gone_in bucket x.slot x.card u left d in
        let t : Tried = hashed c (Some g) in
        let way = gives_way wish.card wish.moment wish.rule (row_of xs) x a.unkept some in
        let l = left_unlocked (c ∷ g ∷ []) [] (c.begin ∷ c.end ∷ g.begin ∷ g.end ∷ []) layout from next v left instant
        (left_two layout from next v u left 1 0 bucket i.place.slot x.slot wish.card x.card (bare_of (walking v bucket xs) u 1 bucket i.place.slot (card_words wish.card) a.comes.change) (bare_of u left 0 bucket x.slot (card_words x.card) d.change) (quiet_of (walking v bucket xs) u a.comes.rest) (quiet_of u left d.rest) a.comes.saw d.saw
        (at_home layout bucket i.place.slot wish.card c.begin c.end a.comes.told home_is a.slot.inside) (no_hash layout bucket x.slot x.card g.begin g.end)) in
        let grants : Grants wish t = (
          record { act = refl; card_is = a.comes.told },
          record {
            act = refl;
            tuple = ap (waits_at wish.card) x_told ∙ way.0;
            may = ap (may_replace wish.rule wish.moment) x_told ∙ way.1;
          },
        ) in
        let begun = a.comes.change.2.6 in
        let walked : Sight = sight_at (walking v bucket xs) c.begin in
        let saw : SawFree wish c (Some g) old (side layout (unlocking left instant) next) = record {
          sight = walked;
          there = among_left walked left.sights (sight_of left instant ∷ []) (same_sees u left d.saw walked (was_seen (walking v bucket xs) u c.begin begun) begun.0);
          bucket = refl;
          whole = refl;
          instant = refl;
          cards = cards;
          unkept = a.unkept;
          gave = (x, some, refl, sym x_told);
        } in
        let m : Made (inserted wish t) old (side layout (unlocking left instant) next) = made (inserted wish t) old (side layout (unlocking left instant) next) grants l saw in
        let told : IsNow v → outcome ≡ outcome_of t =
        λ now. came_told layout from bucket new i v xs near now seen home_is a.unkept (alone now).0 ∙ (ap (put i.place.slot) some ∙ ap (λ (y : Card). put i.place.slot (Some (record { slot = x.slot; card = y }))) (sym x_told)) in
        record {
          tried = t;
          answer = (
            λ k. record { bucket = a.bucket_is k; slot = i.place.slot; card = a.card_is k },
            a.replaced ∙ (ap (option_map name_of) some ∙ ap (λ (y : Card). Some y.name) (sym x_told)),
          );
          does = record {
            leaves = (side layout w next, subst (λ (y : View). Made (inserted wish t) old (side layout y next)) (sym unlocked) m, refl);
            stay = all_stay (inserted wish t ∷ []) v w stay;
            alone = insert_answers layout from bucket wish t (Ok i) v w alone told;
          };
        }

    came : (cards : Each HasCard xs) (i : Inserted) (a : Admits layout from bucket new xs i (walking v bucket xs) left) → InsertsAlone layout from bucket new (Ok i) v w
        → Inserts wish (Ok i) old (side layout w (i.place.slot + 1))
    came cards i a alone = go (waiting_in new (row_of xs)) refl a.goes_out
      where
        go : (o : Option Hashed) → waiting_in new (row_of xs) ≡ o → Goes a.between left bucket o → Inserts wish (Ok i) old (side layout w (i.place.slot + 1))
        go None e g = came_alone cards i a alone g e
        go (Some x) e g = came_for cards i a alone x g e (found_told (waits wish.card) xs x cards e)

    -- its four-tuple was kept from it
    refused : (cards : Each HasCard xs) (name : ℕ) (r : Refuses new xs name (walking v bucket xs) left) → InsertsAlone layout from bucket new (Err (ends.Taken name)) v w
        → Inserts wish (Err (ends.Taken name)) old (side layout w from)
    refused cards name r alone =
        let t : Tried = kept_out name in
        let y : View = unlocking (walking v bucket xs) instant in
        let is : w ≡ y = unlocked ∙ ap (λ (y : View). unlocking y instant) r.same in
        let saw : SawKeeper wish name old (side layout y from) = record {
          sight = sight_of (walking v bucket xs) instant;
          sights = refl;
          bucket = ap (λ (b : ℕ). b ∷ []) (sym home_is);
          since = refl;
          until = refl;
          cards = cards;
          first = r.keeper;
        } in
        let m : Made (inserted wish t) old (side layout y from) = made (inserted wish t) old (side layout y from) tt (left_kept layout from from v bucket instant xs) saw in
        record {
          tried = t;
          answer = refl;
          does = record {
            leaves = (side layout w from, subst (λ (x : View). Made (inserted wish t) old (side layout x from)) (sym is) m, refl);
            stay = all_stay (inserted wish t ∷ []) v w stay;
            alone = insert_answers layout from bucket wish t (Err (ends.Taken name)) v w alone (λ now. taken_told bucket wish.card outcome name (alone now).0);
          };
        }

    -- no slot was free
    found_none : (f : Full) (h : FindsNone layout (walking v bucket xs) left f) → InsertsAlone layout from bucket new (Err (ends.Full f)) v w
        → Inserts wish (Err (ends.Full f)) old (side layout w from)
    found_none f h alone =
        let t : Tried = no_slot h.begin f.owned f.held in
        let vain : Vain = record { number = h.begin; owned = f.owned; held = f.held } in
        let u : View = in_vain v bucket xs h.begin h.full.1.reads in
        let is : w ≡ unlocking u instant = unlocked ∙ ap (λ (y : View). unlocking y instant) (vain_is layout v bucket xs left f h) in
        let m : Made (inserted wish t) old (side layout (unlocking u instant) from) =
        made (inserted wish t) old (side layout (unlocking u instant) from) tt
        (left_unlocked [] (vain ∷ []) (h.begin ∷ []) layout from from v u instant (left_none layout from from v bucket xs vain h.full.1.reads h.later))
        (saw_none layout from from v bucket xs left f h (unlocking u instant) (sight_of u instant ∷ []) refl) in
        record {
          tried = t;
          answer = refl;
          does = record {
            leaves = (side layout w from, subst (λ (x : View). Made (inserted wish t) old (side layout x from)) (sym is) m, refl);
            stay = all_stay (inserted wish t ∷ []) v w stay;
            alone = insert_answers layout from bucket wish t (Err (ends.Full f)) v w alone (λ now. full_told bucket wish.card outcome f (alone now).0);
          };
        }

-- the slot from which the next search begins
abbrev pub next_by : ℕ → Result Inserted InsertEnd → ℕ
next_by from (Ok i) = i.place.slot + 1
next_by from (Err end) = from

pub inserts_of : (layout : Layout) (from bucket : ℕ) (wish : Wish) (result : Result Inserted InsertEnd) (v w : View) → bucket < chain_count layout.shape → home layout.shape layout.seed wish.card ≡ bucket
    → spec.Inserts layout from bucket (record { card = wish.card; moment = wish.moment; replace = wish.rule }) result v w
    → InsertsAlone layout from bucket (record { card = wish.card; moment = wish.moment; replace = wish.rule }) result v w → PlacesStay v w
    → Inserts wish result (side layout v from) (side layout w (next_by from result))
inserts_of layout from bucket wish (Ok i) v w near at h alone stay = came layout from bucket wish v w near at stay h.chain h.seen h.left h.instant h.unlocked h.cards i h.comes alone
inserts_of layout from bucket wish (Err (ends.Taken name)) v w near at h alone stay = refused layout from bucket wish v w near at stay h.chain h.seen h.left h.instant h.unlocked h.cards name h.comes alone
inserts_of layout from bucket wish (Err (ends.Full f)) v w near at h alone stay = found_none layout from bucket wish v w near at stay h.chain h.seen h.left h.instant h.unlocked f h.comes.none alone

-- Adds, whether or not the lock is given back

-- the slot from which the next search begins
abbrev pub next_after_add : ℕ → Result Place Full → ℕ
next_after_add from (Ok place) = place.slot + 1
next_after_add from (Err f) = from

module _ (layout : Layout) (from bucket : ℕ) (card : Card) (v : View) (home_is : home layout.shape layout.seed card ≡ bucket) (xs : List Seen) where
  -- what trying came to, and what that left
  pub record Tries (r : Result Place Full) (u : View) : Type 0 where
    pub tried : Tried
    pub answer : IsAdded card tried r
    pub outcome : outcome_by r ≡ outcome_of tried
    pub next : next_after (outcome_of tried) from ≡ next_after_add from r
    pub under : Made (added card tried) (side layout v from) (side layout u (next_after_add from r))
    pub back : (instant : ℕ) → Made (added card tried) (side layout v from) (side layout (unlocking u instant) (next_after_add from r))

  pub tries_of : (r : Result Place Full) (u : View) → HashesTo layout from bucket card xs r (walking v bucket xs) u → Tries r u
  tries_of (Ok place) u h =
      let next : ℕ = place.slot + 1 in
      let c : Change = hash_in bucket place.slot card (walking v bucket xs) u h.comes in
      let t : Tried = hashed c None in
      let l = left_one layout from next v u 1 bucket place.slot card (bare_of (walking v bucket xs) u 1 bucket place.slot (card_words card) h.comes.change) (quiet_of (walking v bucket xs) u h.comes.rest) h.comes.saw
      (at_home layout bucket place.slot card c.begin c.end h.comes.told home_is h.slot.inside) in
      let fits : IsHashOf card c = record { act = refl; card_is = h.comes.told } in
      record {
        tried = t;
        answer = λ k. record { bucket = h.bucket_is k; slot = place.slot; card = h.card_is k };
        outcome = refl;
        next = refl;
        under = made (added card t) (side layout v from) (side layout u next) fits l tt;
        back = λ instant. made (added card t) (side layout v from) (side layout (unlocking u instant) next) fits (left_unlocked (c ∷ []) [] (c.begin ∷ c.end ∷ []) layout from next v u instant l) tt;
      }
  tries_of (Err f) u h =
      let t : Tried = no_slot h.begin f.owned f.held in
      let vain : Vain = record { number = h.begin; owned = f.owned; held = f.held } in
      let y : View = in_vain v bucket xs h.begin h.full.1.reads in
      let is : u ≡ y = vain_is layout v bucket xs u f h in
      let l = left_none layout from from v bucket xs vain h.full.1.reads h.later in
      let under : Made (added card t) (side layout v from) (side layout y from) =
      made (added card t) (side layout v from) (side layout y from) tt l (saw_none layout from from v bucket xs u f h y [] (sym (append-nil y.sights))) in
      let back : (instant : ℕ) → Made (added card t) (side layout v from) (side layout (unlocking y instant) from) =
      λ instant. made (added card t) (side layout v from) (side layout (unlocking y instant) from) tt
      (left_unlocked [] (vain ∷ []) (h.begin ∷ []) layout from from v y instant l)
      (saw_none layout from from v bucket xs u f h (unlocking y instant) (sight_of y instant ∷ []) refl) in
      record {
        tried = t;
        answer = refl;
        outcome = refl;
        next = refl;
        under = subst (λ (x : View). Made (added card t) (side layout v from) (side layout x from)) (sym is) under;
        back = λ instant. subst (λ (x : View). Made (added card t) (side layout v from) (side layout (unlocking x instant) from)) (sym is) (back instant);
      }

pub adds_of : (layout : Layout) (from bucket : ℕ) (card : Card) (r : Result Place Full) (v w : View) → home layout.shape layout.seed card ≡ bucket
    → spec.Adds layout from bucket card r v w → AddsAlone layout from bucket card r v w → PlacesStay v w → Adds card r (side layout v from) (side layout w (next_after_add from r))
adds_of layout from bucket card r v w at h alone stay =
    let t = tries_of layout from bucket card v at h.chain r h.left h.comes in
    let next : ℕ = next_after_add from r in
    record {
      tried = t.tried;
      answer = t.answer;
      does = record {
        leaves = (side layout w next, subst (λ (x : View). Made (added card t.tried) (side layout v from) (side layout x next)) (sym h.unlocked) (t.back h.instant), refl);
        stay = all_stay (added card t.tried ∷ []) v w stay;
        alone = subst (λ (n : ℕ). AnswersAlone (added card t.tried ∷ []) (side layout v from) (side layout w n)) t.next (add_answers layout from bucket card t.tried r v w alone t.outcome);
      };
    }

-- Who is refused changes nothing

pub refused_closed : (layout : Layout) (from bucket : ℕ) (wanted : Newcomer) (end : InsertEnd) (v w : View) → spec.Inserts layout from bucket wanted (Err end) v w → w.book.closed ≡ v.book.closed
refused_closed layout from bucket wanted (ends.Taken name) v w h = ap (λ (x : View). x.book.closed) (h.unlocked ∙ ap (λ (y : View). unlocking y h.instant) h.comes.same)
refused_closed layout from bucket wanted (ends.Full f) v w h = ap (λ (x : View). x.book.closed) (h.unlocked ∙ ap (λ (y : View). unlocking y h.instant) (vain_is layout v bucket h.chain h.left f h.comes.none))

pub full_closed : (layout : Layout) (from bucket : ℕ) (card : Card) (f : Full) (v w : View) → spec.Adds layout from bucket card (Err f) v w → w.book.closed ≡ v.book.closed
full_closed layout from bucket card f v w h = ap (λ (x : View). x.book.closed) (h.unlocked ∙ ap (λ (y : View). unlocking y h.instant) (vain_is layout v bucket h.chain h.left f h.comes))
