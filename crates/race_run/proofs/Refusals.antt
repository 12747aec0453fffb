-- What refused a step stood meanwhile.
use Rattle.std.proofs.Common.{◌≡◌, ℕ, ◌+◌, ◌<◌, ◌≤◌, Bool, true, false, cond, List, [], ◌∷◌, ◌++◌, length, map, refl, sym, ap, ◌∙◌, subst, arith, inl, inr, length-append}
use mathlib.Core.Logic.{dite}
use native.Mathlib.Decide.{ℕ_discrete}
use Rattle.std.specs.List.{flat_map}
use Rattle.list_words.specs.Lists.{Each, total}
use Rattle.list_words.proofs.EachLemmas.{each_weaken, each_append}
use Rattle.list_words.proofs.TotalLemmas.{total-append}
use Rattle.chain_book.specs.Chains.{keeps}
use Rattle.chain_book.specs.Tuples.{keeps_from}
use Rattle.sock_card.specs.declared.card.Card.{Card}
use Rattle.flat_list.specs.declared.header.Header.{Header}
use Rattle.table_rule.specs.TakenOk.{held_alone}
use Rattle.table_rule.specs.Words.{card_from}
use Rattle.table_rule.specs.declared.view.View.{View}
use Rattle.table_rule.specs.declared.view.Sight.{Sight}
use Rattle.table_rule.specs.declared.view.Seen.{Seen}
use Rattle.sock_slots.specs.Claims.{Read, slot_in, owned_in, held_in as held_of, Between}
use Rattle.established.specs.Rows.{HasCard}
use Rattle.race_book.specs.Among.{Among}
use Rattle.race_book.proofs.Joined.{each_flat}
use Rattle.race_record.specs.Deeds.{Taken, Vain}
use Rattle.race_record.specs.Record.{Sighting}
use Rattle.race_record.specs.Lawful.{WasKept, WasOwned, WasHeld, NoneWasFree}
use Rattle.race_record.proofs.Weights.{is, all_differ}
use Rattle.race_run.specs.Made.{SawKeeper, SawRead, SawNone, IsBy, held_by}
use Rattle.race_run.specs.Races.{IsWhole, book_of, held_in}
use Rattle.race_run.proofs.CardsTold.{found_seen, same_told}
use Rattle.race_run.proofs.FromRaw.{AreGood, each_at, seen_life, standing_life}
use Rattle.race_run.proofs.Weights.{weigh_map, among_flat}

-- Slots that were read

abbrev pub owned_slot : Read → List ℕ
owned_slot r = cond r.owned (r.slot ∷ []) []

abbrev pub held_slot : Read → List ℕ
held_slot r = held_by r

weigh_two : (f : ℕ → ℕ) (i : ℕ) (b : Bool) → total f (cond b (i ∷ []) []) + total f (cond b [] (i ∷ [])) ≡ f i
weigh_two f i true = omega arith
weigh_two f i false = omega arith

weigh_slots : (f : ℕ → ℕ) (reads : List Read) → total f (flat_map owned_slot reads) + total f (flat_map held_slot reads) ≡ total (λ (r : Read). f r.slot) reads
weigh_slots f [] = refl
weigh_slots f (r ∷ rs) = omega (
  arith,
  total-append f (owned_slot r) (flat_map owned_slot rs),
  total-append f (held_slot r) (flat_map held_slot rs),
  weigh_two f r.slot r.owned,
  weigh_slots f rs,
)

long_owned : (i : ℕ) (b : Bool) → length {A = ℕ} (cond b (i ∷ []) []) ≡ cond b 1 0
long_owned i true = refl
long_owned i false = refl

long_held : (i : ℕ) (b : Bool) → length {A = ℕ} (cond b [] (i ∷ [])) ≡ cond b 0 1
long_held i true = refl
long_held i false = refl

count_owned : (reads : List Read) → length (flat_map owned_slot reads) ≡ owned_in reads
count_owned [] = refl
count_owned (r ∷ rs) = omega (arith, length-append (owned_slot r) (flat_map owned_slot rs), long_owned r.slot r.owned, count_owned rs)

count_held : (reads : List Read) → length (flat_map held_slot reads) ≡ held_of reads
count_held [] = refl
count_held (r ∷ rs) = omega (arith, length-append (held_slot r) (flat_map held_slot rs), long_held r.slot r.owned, count_held rs)

each_owned : (P : ℕ → Type 0) (i : ℕ) (b : Bool) → (b ≡ true → P i) → Each P (cond b (i ∷ []) [])
each_owned P i true h = (h refl, tt)
each_owned P i false h = tt

each_held : (P : ℕ → Type 0) (i : ℕ) (b : Bool) → (b ≡ false → P i) → Each P (cond b [] (i ∷ []))
each_held P i true h = tt
each_held P i false h = (h refl, tt)

slots_below : (count : ℕ) (reads : List Read) → Each (Between 0 count) (map slot_in reads) → Each (λ (r : Read). r.slot < count) reads
slots_below count [] h = tt
slots_below count (r ∷ rs) h = (h.0.1, slots_below count rs h.1)

-- a sighting of slots that are held alone counts
held_there : (sights : List Sight) (s : Sight) → Among sights s → length s.held ≤ held_alone sights
held_there [] s a = absurd a
held_there (x ∷ xs) s (inl e) = omega (arith, ap (λ (y : Sight). length y.held) e)
held_there (x ∷ xs) s (inr a) = omega (arith, held_there xs s a)

none_held : (sights : List Sight) (from : ℕ) (Is : Sight → Type 0) (reads : List Read) → held_alone sights ≡ 0 → Each (SawRead sights from Is) reads → held_of reads ≡ 0
none_held sights from Is [] z h = refl
none_held sights from Is (r ∷ rs) z h =
    let l = held_there sights h.0.sight h.0.there in
    omega (arith, l, z, ap length h.0.held, long_held r.slot r.owned, none_held sights from Is rs z h.1)

module _ (header : Header) (v : View) (clock : ℕ) (w : IsWhole v clock) (good : AreGood header v) where
  pub was_kept : (from to : ℕ) (t : Taken) → SawKeeper v.sights from (IsBy to) t → WasKept (Among (book_of v)) from to t
  was_kept from to t h =
      let f = found_seen (keeps t.wish.card t.wish.moment t.wish.rule) h.sight.listed t.name h.first in
      let z = standing_life header v clock w good h.sight h.there f.nth f.seen f.there h.bucket h.bucket_is in
      let l = z.2 in
      let low = z.0 in
      let high = z.1 in
      let c = each_at HasCard h.sight.listed f.nth f.seen f.there h.cards in
      let same : l.life.card ≡ card_from f.seen.words = l.card ∙ same_told f.seen.words l.words c.0 l.told in
      record {
        life = l.life;
        is = l.is;
        name = ap (λ (x : Card). x.name) same ∙ f.named;
        keeps = ap (keeps_from t.wish.card t.wish.moment t.wish.rule) same ∙ f.passes;
        number = h.sight.instant;
        since = omega (arith, h.since, low);
        until = omega (arith, h.is, high);
        stands = l.stands;
      }

  module _ (from to : ℕ) where
    was_owned : (r : Read) → SawRead v.sights from (IsBy to) r → r.owned ≡ true → WasOwned (Among (book_of v)) from to r.slot
    was_owned r h e =
        let one : Seen = record { slot = r.slot; words = [] } in
        let listed : h.sight.listed ≡ one ∷ [] = h.listed ∙ ap (λ (b : Bool). cond b (one ∷ []) []) e in
        let l = seen_life header v clock w good h.sight h.there 0 one (ap (λ (x : List Seen). lib.ListN.get_elem? x 0) listed) from to h.since h.is in
        record { life = l.life; is = l.is; slot_is = l.slot; stood = l.stood }

    was_held : (r : Read) → SawRead v.sights from (IsBy to) r → r.owned ≡ false → WasHeld (Among (book_of v)) from to (flat_map held_in v.sights) r.slot
    was_held r h e =
        let s : Sight = h.sight in
        let one : ℕ → Sighting = λ i. record { slot = i; since = s.since; until = s.until } in
        let held : s.held ≡ r.slot ∷ [] = h.held ∙ ap (λ (b : Bool). cond b [] (r.slot ∷ [])) e in
        record {
          sighting = one r.slot;
          there = among_flat held_in v.sights s (one r.slot) h.there (subst (λ (x : List ℕ). Among (map one x) (one r.slot)) (sym held) (inl refl));
          slot_is = refl;
          since = h.since;
          until = h.is;
        }

    counted : (reads : List Read) → Each (SawRead v.sights from (IsBy to)) reads → 0 < held_of reads → 0 < v.slot.taken
    counted reads h l = dite (ℕ_discrete (held_alone v.sights) 0)
        (λ z. absurd (omega (arith, l, none_held v.sights from (IsBy to) reads z h)))
        (λ ne. let b = w.book w.parts w.opened in b.6 (omega (arith, ne)))

  pub none_was_free : (to : ℕ) (t : Vain) → SawNone v.sights (IsBy to) header.shape.slots t → NoneWasFree (Among (book_of v)) t.number to header.shape.slots v.slot.taken (flat_map held_in v.sights) t
  none_was_free to t h =
      let from : ℕ = t.number in
      let count : ℕ = header.shape.slots in
      let owned : List ℕ = flat_map owned_slot h.reads in
      let held : List ℕ = flat_map held_slot h.reads in
      let below = slots_below count h.reads h.below in
      record {
        owned = owned;
        held = held;
        all = omega (arith, count_owned h.reads, count_held h.reads, h.owned, h.held, h.all);
        owned_count = count_owned h.reads ∙ h.owned;
        held_count = count_held h.reads ∙ h.held;
        distinct = all_differ (owned ++ held) (λ n. omega (
          arith,
          total-append (is n) owned held,
          weigh_slots (is n) h.reads,
          weigh_map (is n) slot_in h.reads,
          h.once n,
        ));
        below = each_append (λ (slot : ℕ). slot < count) owned held
            (each_flat (λ (slot : ℕ). slot < count) owned_slot h.reads (each_weaken (λ (r : Read). r.slot < count) (λ r. Each (λ (slot : ℕ). slot < count) (owned_slot r)) h.reads (λ r l. each_owned (λ (slot : ℕ). slot < count) r.slot r.owned (λ e. l)) below))
            (each_flat (λ (slot : ℕ). slot < count) held_slot h.reads (each_weaken (λ (r : Read). r.slot < count) (λ r. Each (λ (slot : ℕ). slot < count) (held_slot r)) h.reads (λ r l. each_held (λ (slot : ℕ). slot < count) r.slot r.owned (λ e. l)) below));
        owned_each = each_flat (WasOwned (Among (book_of v)) from to) owned_slot h.reads
            (each_weaken (SawRead v.sights from (IsBy to)) (λ r. Each (WasOwned (Among (book_of v)) from to) (owned_slot r)) h.reads (λ r s. each_owned (WasOwned (Among (book_of v)) from to) r.slot r.owned (was_owned from to r s)) h.each);
        held_each = each_flat (WasHeld (Among (book_of v)) from to (flat_map held_in v.sights)) held_slot h.reads
            (each_weaken (SawRead v.sights from (IsBy to)) (λ r. Each (WasHeld (Among (book_of v)) from to (flat_map held_in v.sights)) (held_slot r)) h.reads (λ r s. each_held (WasHeld (Among (book_of v)) from to (flat_map held_in v.sights)) r.slot r.owned (was_held from to r s)) h.each);
        counted = λ l. counted from to h.reads h.each (omega (arith, l, h.held));
      }
