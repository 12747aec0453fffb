-- Sightings that are settled, and what was seen by them.
use Rattle.std.proofs.Common.{◌≡◌, ℕ, suc, ◌<◌, ◌≤◌, Bool, true, false, cond, List, [], ◌∷◌, ◌++◌, map, ◌⊎◌, inl, inr, ⊎_elim, refl, sym, ap, ◌∙◌, subst, arith}
use mathlib.Core.Option.{some}
use lib.ListN.{get_elem?}
use Rattle.list_words.specs.Lists.{Each}
use Rattle.list_words.proofs.EachLemmas.{each_weaken}
use Rattle.sock_card.specs.declared.card.Card.{Card}
use Rattle.table_rule.specs.Book.{open-end}
use Rattle.table_rule.specs.Plays.{settled, settled_one, glimpse_of, held_of}
use Rattle.table_rule.specs.declared.view.Layout.{Layout}
use Rattle.table_rule.specs.declared.view.Seen.{Seen}
use Rattle.table_rule.specs.declared.view.Sight.{Sight}
use Rattle.table_rule.specs.declared.view.View.{View}
use Rattle.sock_slots.specs.Claims.{Read, sight_by}
use Rattle.nulls_chain.specs.Changes.{Sees, IsSettled, AreSettled}
use Rattle.established.specs.Comings.{name_of}
use Rattle.established.specs.Rows.{row_of, HasCard}
use Rattle.race_book.specs.Among.{Among}
use Rattle.race_book.proofs.AmongLemmas.{among_left}
use Rattle.race_record.specs.Deeds.{Given, Taken, Vain}
use Rattle.sock_ops.specs.Made.{GaveWayIn}
use Rattle.race_run.specs.Made.{SawFree, SawKeeper, SawRead, SawNone, SawNoWait, IsAny, IsBy, listed_by, held_by}

-- Lists

-- a fact of each place is one of each item
pub each_by_place : {A : Type 0} (P : A → Type 0) (l : List A) → ((n : ℕ) (a : A) → get_elem? l n ≡ some a → P a) → Each P l
each_by_place P [] h = tt
each_by_place P (x ∷ xs) h = (h 0 x refl, each_by_place P xs (λ n a e. h (suc n) a e))

-- Moves

-- among these a sighting is as that one, but for its second number
pub record IsAs (sights : List Sight) (Is : Sight → Type 0) (s : Sight) : Type 0 where
  pub sight : Sight
  pub there : Among sights sight
  pub listed : sight.listed ≡ s.listed
  pub held : sight.held ≡ s.held
  pub bucket : sight.bucket ≡ s.bucket
  pub whole : sight.whole ≡ s.whole
  pub since : sight.since ≡ s.since
  pub instant : sight.instant ≡ s.instant
  pub is : Is sight

abbrev pub Moves : List Sight → (Sight → Type 0) → List Sight → (Sight → Type 0) → Type 0
Moves xs P ys Q = (s : Sight) → Among xs s → P s → IsAs ys Q s

module _ (xs ys : List Sight) (a b : ℕ) (P Q : Sight → Type 0) (le : b ≤ a) (moves : Moves xs P ys Q) where
  pub keeper_moves : (t : Taken) → SawKeeper xs a P t → SawKeeper ys b Q t
  keeper_moves t h =
      let m = moves h.sight h.there h.is in
      record {
        sight = m.sight;
        there = m.there;
        since = omega (arith, le, h.since, m.since);
        is = m.is;
        bucket = h.bucket;
        bucket_is = m.bucket ∙ h.bucket_is;
        cards = subst (Each HasCard) (sym m.listed) h.cards;
        first = ap (λ l. Rattle.std.specs.Option.option_map name_of (Rattle.std.proofs.Common.find (Rattle.chain_book.specs.Chains.keeps t.wish.card t.wish.moment t.wish.rule) (row_of l))) m.listed ∙ h.first;
      }

  read_moves : (r : Read) → SawRead xs a P r → SawRead ys b Q r
  read_moves r h =
      let m = moves h.sight h.there h.is in
      record {
        sight = m.sight;
        there = m.there;
        since = omega (arith, le, h.since, m.since);
        is = m.is;
        listed = m.listed ∙ h.listed;
        held = m.held ∙ h.held;
      }

  pub no_wait_moves : (layout : Layout) (card : Card) → SawNoWait xs a P layout card → SawNoWait ys b Q layout card
  no_wait_moves layout card h =
      let m = moves h.sight h.there h.is in
      record {
        sight = m.sight;
        there = m.there;
        since = omega (arith, le, h.since, m.since);
        is = m.is;
        bucket = m.bucket ∙ h.bucket;
        whole = m.whole ∙ h.whole;
        cards = subst (Each HasCard) (sym m.listed) h.cards;
        none = ap (λ l. Rattle.std.proofs.Common.find (Rattle.chain_book.specs.Chains.waits_as card.name) (row_of l)) m.listed ∙ h.none;
      }

-- what was known as a hash began
pub free_moves : (xs ys : List Sight) (Q : Sight → Type 0) → Moves xs IsAny ys Q → (g : Given) → SawFree xs g → SawFree ys g
free_moves xs ys Q moves g h =
    let m = moves h.sight h.there tt in
    record {
      sight = m.sight;
      there = m.there;
      bucket = m.bucket ∙ h.bucket;
      whole = m.whole ∙ h.whole;
      instant = m.instant ∙ h.instant;
      cards = subst (Each HasCard) (sym m.listed) h.cards;
      unkept = ap (λ l. Rattle.std.proofs.Common.find (Rattle.chain_book.specs.Chains.keeps g.wish.card g.wish.moment g.wish.rule) (row_of l)) m.listed ∙ h.unkept;
      gave = subst (GaveWayIn g.wish g.replaced) (sym m.listed) h.gave;
    }

-- what was read after a number drawn in vain
pub none_moves : (xs ys : List Sight) (P Q : Sight → Type 0) → Moves xs P ys Q → (count : ℕ) (v : Vain) → SawNone xs P count v → SawNone ys Q count v
none_moves xs ys P Q moves count v h = record {
  reads = h.reads;
  each = each_weaken (SawRead xs v.number P) (SawRead ys v.number Q) h.reads (read_moves xs ys v.number v.number P Q (omega arith) moves) h.each;
  owned = h.owned;
  held = h.held;
  all = h.all;
  below = h.below;
  once = h.once;
}

-- Settling

settled_as : (least : ℕ) (s t : Sight) → IsSettled least s t → (t.listed ≡ s.listed) × (t.held ≡ s.held) × (t.since ≡ s.since) × (t.bucket ≡ s.bucket) × (t.whole ≡ s.whole) × (t.instant ≡ s.instant)
settled_as least s t h = ⊎_elim
    (λ e. (ap (λ (x : Sight). x.listed) e, ap (λ (x : Sight). x.held) e, ap (λ (x : Sight). x.since) e, ap (λ (x : Sight). x.bucket) e, ap (λ (x : Sight). x.whole) e, ap (λ (x : Sight). x.instant) e))
    (λ z. (ap (λ (x : Sight). x.listed) z.3, ap (λ (x : Sight). x.held) z.3, ap (λ (x : Sight). x.since) z.3, ap (λ (x : Sight). x.bucket) z.3, ap (λ (x : Sight). x.whole) z.3, ap (λ (x : Sight). x.instant) z.3)) h

later_as : (y : Sight) (ys : List Sight) (Is : Sight → Type 0) (s : Sight) → IsAs ys Is s → IsAs (y ∷ ys) Is s
later_as y ys Is s m = record { sight = m.sight; there = inr m.there; listed = m.listed; held = m.held; bucket = m.bucket; whole = m.whole; since = m.since; instant = m.instant; is = m.is }

any_settled : (least : ℕ) (xs ys : List Sight) → AreSettled least xs ys → Moves xs IsAny ys IsAny
any_settled least [] ys h s a i = absurd a
any_settled least (x ∷ xs) [] h s a i = absurd h
any_settled least (x ∷ xs) (y ∷ ys) h s a i = ⊎_elim
    (λ e. let k = settled_as least x y h.0 in record {
      sight = y;
      there = inl refl;
      listed = k.0 ∙ ap (λ (z : Sight). z.listed) (sym e);
      held = k.1 ∙ ap (λ (z : Sight). z.held) (sym e);
      since = k.2 ∙ ap (λ (z : Sight). z.since) (sym e);
      bucket = k.3 ∙ ap (λ (z : Sight). z.bucket) (sym e);
      whole = k.4 ∙ ap (λ (z : Sight). z.whole) (sym e);
      instant = k.5 ∙ ap (λ (z : Sight). z.instant) (sym e);
      is = tt;
    })
    (λ b. later_as y ys IsAny s (any_settled least xs ys h.1 s b i)) a

wider : (ys zs all : List Sight) (Is : Sight → Type 0) → all ≡ ys ++ zs → (s : Sight) → IsAs ys Is s → IsAs all Is s
wider ys zs all Is e s m = record {
  sight = m.sight;
  there = subst (λ l. Among l m.sight) (sym e) (among_left m.sight ys zs m.there);
  listed = m.listed;
  held = m.held;
  bucket = m.bucket;
  whole = m.whole;
  since = m.since;
  instant = m.instant;
  is = m.is;
}

-- what a pass saw before stands, whenever it ends
pub any_sees : (v w : View) → Sees v w → Moves v.sights IsAny w.sights IsAny
any_sees v w h s a i = wider h.0 h.1 w.sights IsAny h.3 s (any_settled v.seen v.sights h.0 h.2 s a i)

-- what had ended is as it was
ended_settled : (least to : ℕ) → to < open-end → (xs ys : List Sight) → AreSettled least xs ys → Moves xs (IsBy to) ys (IsBy to)
ended_settled least to few [] ys h s a i = absurd a
ended_settled least to few (x ∷ xs) [] h s a i = absurd h
ended_settled least to few (x ∷ xs) (y ∷ ys) h s a i = ⊎_elim
    (λ e. ⊎_elim
    (λ same. let e' : y ≡ s = same ∙ sym e in record {
      sight = y;
      there = inl refl;
      listed = ap (λ (z : Sight). z.listed) e';
      held = ap (λ (z : Sight). z.held) e';
      since = ap (λ (z : Sight). z.since) e';
      bucket = ap (λ (z : Sight). z.bucket) e';
      whole = ap (λ (z : Sight). z.whole) e';
      instant = ap (λ (z : Sight). z.instant) e';
      is = subst (IsBy to) (sym e') i;
    })
    (λ z. let still : s.until ≡ open-end = ap (λ (w : Sight). w.until) e ∙ z.0 in absurd (omega (arith, still, i, few))) h.0)
    (λ b. later_as y ys (IsBy to) s (ended_settled least to few xs ys h.1 s b i)) a

pub ended_sees : (to : ℕ) → to < open-end → (v w : View) → Sees v w → Moves v.sights (IsBy to) w.sights (IsBy to)
ended_sees to few v w h s a i = wider h.0 h.1 w.sights (IsBy to) h.3 s (ended_settled v.seen to few v.sights h.0 h.2 s a i)

-- one way on after another
pub moves_both : (xs ys zs : List Sight) (P Q R : Sight → Type 0) → Moves xs P ys Q → Moves ys Q zs R → Moves xs P zs R
moves_both xs ys zs P Q R f g s a p =
    let m = f s a p in
    let n = g m.sight m.there m.is in
    record {
      sight = n.sight;
      there = n.there;
      listed = n.listed ∙ m.listed;
      held = n.held ∙ m.held;
      bucket = n.bucket ∙ m.bucket;
      whole = n.whole ∙ m.whole;
      since = n.since ∙ m.since;
      instant = n.instant ∙ m.instant;
      is = n.is;
    }

-- by a load of the clock, each of which the fact is then known
pub all_loaded : (Is : Sight → Type 0) (r : ℕ) (xs : List Sight) → Each Is (settled xs r) → Moves xs IsAny (settled xs r) Is
all_loaded Is r [] h s a i = absurd a
all_loaded Is r (x ∷ xs) h s a i = ⊎_elim
    (λ e. let k = one_as (r) x in record {
      sight = settled_one r x;
      there = inl refl;
      listed = k.0 ∙ ap (λ (z : Sight). z.listed) (sym e);
      held = k.1 ∙ ap (λ (z : Sight). z.held) (sym e);
      since = k.2 ∙ ap (λ (z : Sight). z.since) (sym e);
      bucket = k.3 ∙ ap (λ (z : Sight). z.bucket) (sym e);
      whole = k.4 ∙ ap (λ (z : Sight). z.whole) (sym e);
      instant = k.5 ∙ ap (λ (z : Sight). z.instant) (sym e);
      is = h.0;
    })
    (λ b. later_as (settled_one r x) (settled xs r) Is s (all_loaded Is r xs h.1 s b i)) a
  where
    by_test : (b : Bool) (r : ℕ) (s : Sight) → ((cond b (record s { until = r }) s).listed ≡ s.listed) × ((cond b (record s { until = r }) s).held ≡ s.held) × ((cond b (record s { until = r }) s).since ≡ s.since) × ((cond b (record s { until = r }) s).bucket ≡ s.bucket) × ((cond b (record s { until = r }) s).whole ≡ s.whole) × ((cond b (record s { until = r }) s).instant ≡ s.instant)
    by_test true r s = (refl, refl, refl, refl, refl, refl)
    by_test false r s = (refl, refl, refl, refl, refl, refl)

    one_as : (r : ℕ) (s : Sight) → ((settled_one r s).listed ≡ s.listed) × ((settled_one r s).held ≡ s.held) × ((settled_one r s).since ≡ s.since) × ((settled_one r s).bucket ≡ s.bucket) × ((settled_one r s).whole ≡ s.whole) × ((settled_one r s).instant ≡ s.instant)
    one_as r s = by_test (Rattle.std.proofs.Common.eqb s.until open-end) r s

-- what is read of a slot is seen by its sighting
by_owned : (v : View) (i : ℕ) (b : Bool) → ((cond b (glimpse_of v i) (held_of v i)).listed ≡ listed_by (record { slot = i; owned = b }))
    × ((cond b (glimpse_of v i) (held_of v i)).held ≡ held_by (record { slot = i; owned = b })) × ((cond b (glimpse_of v i) (held_of v i)).since ≡ v.seen)
by_owned v i true = (refl, refl, refl)
by_owned v i false = (refl, refl, refl)

pub reads_seen : (sights : List Sight) (from : ℕ) (by : View) (reads : List Read) → from ≤ by.seen → ((s : Sight) → Among (map (sight_by by) reads) s → Among sights s) → Each (SawRead sights from IsAny) reads
reads_seen sights from by [] le f = tt
reads_seen sights from by (r ∷ rs) le f =
    let k = by_owned by r.slot r.owned in (
      record {
        sight = sight_by by r;
        there = f (sight_by by r) (inl refl);
        since = omega (arith, le, k.2);
        is = tt;
        listed = k.0;
        held = k.1;
      },
      reads_seen sights from by rs le (λ s a. f s (inr a)),
    )
