-- What a look's receipt gives to the lookups of a packet.
use Rattle.std.proofs.Common.{◌≡◌, ℕ, ◌≤◌, List, [], ◌∷◌, ◌++◌, ◌⊎◌, inl, inr, length, refl, sym, ap, ◌∙◌, subst, arith}
use mathlib.Core.Option.{some}
use lib.ListN.{get_elem?}
use Rattle.atomic_table.proofs.Lists.{at_longer}
use Rattle.sock_card.specs.Words.{packed}
use Rattle.sock_card.specs.declared.card.Card.{Card}
use Rattle.sock_card.specs.declared.card.Packet.{Packet}
use Rattle.table_rule.specs.Plays.{Sat}
use Rattle.table_rule.specs.ReadersOk.{rank_of}
use Rattle.table_rule.specs.Words.{words_of}
use Rattle.table_rule.specs.Wholes.{Clears, FoundIn, StoppedIn}
use Rattle.table_rule.specs.declared.view.Kept.{Kept}
use Rattle.table_rule.specs.declared.view.Stop.{Stop}
use Rattle.table_rule.specs.declared.view.Layout.{Layout}
use Rattle.table_rule.specs.declared.view.Reader.{Reader}
use Rattle.table_rule.specs.declared.view.Receipt.{Receipt}
use Rattle.sock_slots.specs.declared.holds.Held.{Held}
use Rattle.null_reader.specs.Looked.{LookedAs, looked_view, stop_of, words_end}
use Rattle.null_reader.specs.declared.answers.PassEnd.{PassEnd}
use Rattle.null_reader.specs.declared.answers.LookEnd.{LookEnd}
use Rattle.null_reader.specs.declared.answers.LookEnd.TheVariants as answers
use Rattle.established.specs.Homes.{full_home}
use Rattle.established.specs.Stays.{More, Adds, Stays, Holds}
use Rattle.established.specs.Finds.{card_rank, FindsFull}

pub at_here : {A : Type 0} (xs ys : List A) (c : A) → get_elem? (xs ++ c ∷ ys) (length xs) ≡ some c
at_here [] ys c = refl
at_here (x ∷ xs) ys c = at_here xs ys c

-- A view after a look

module _ (m n : Sat) (t₀ : ℕ) (ks : List Kept) (hs : List ℕ) (taken : ℕ) (c : Receipt) (often : m.0.slot.taken ≤ taken) (is : n ≡ (looked_view m.0 t₀ ks hs taken c, m.1)) (idle : m.0.read.reader ≡ []) (later : m.0.seen ≤ c.to) where
  pub adds : Adds m ks hs n
  adds = record {
    taken = taken;
    receipts = m.0.read.receipts ++ c ∷ [];
    sighted = m.0.read.sighted;
    seen = c.to;
    learned = t₀ ∷ [];
    often = often;
    later = later;
    is = is ∙ ap (λ (q : List Reader). let w = looked_view m.0 t₀ ks hs taken c in (record w { read = record w.read { reader = q } }, m.1)) (sym idle);
    more = subst (λ (s : Sat). More m.0.read s.0.read) (sym is) (record { receipts = λ k d e. at_longer m.0.read.receipts (c ∷ []) k d e; sighted = λ k s e. e });
  }

  there : get_elem? n.0.read.receipts (length m.0.read.receipts) ≡ some c
  there = subst (λ (s : Sat). get_elem? s.0.read.receipts (length m.0.read.receipts) ≡ some c) (sym is) (at_here m.0.read.receipts [] c)

  pub clears : (best : ℕ) → (c.kind ≡ 0) ⊎ ((c.kind ≡ 1) × (rank_of c.key c.card ≤ best)) → Clears n.0.read c.key c.from c.bucket c.least best
  clears best how = record { nth = length m.0.read.receipts; receipt = c; there = there; key-is = refl; bucket-is = refl; enough = omega arith; later = omega arith; how = how }

  pub finds : c.kind ≡ 1 → FoundIn n.0.read c.from c.card
  finds kind = record { nth = length m.0.read.receipts; receipt = c; there = there; found = kind; later = omega arith; card-is = refl }

  pub stops : c.kind ≡ 2 → (front last : List Stop) → c.stops ≡ front ++ last → StoppedIn n.0.read c.from c.bucket last
  stops kind front last e = record { nth = length m.0.read.receipts; receipt = c; there = there; stopped = kind; bucket-is = refl; later = omega arith; front = front; stops-are = e }

-- One look

module _ (bucket : ℕ) (key : Packet) (least passes from to : ℕ) (m n : Sat) (idle : m.0.read.reader ≡ []) (later : m.0.seen ≤ to) where
  pub look_found : (h : Held) (card : Card) → LookedAs bucket key least passes m (words_end (answers.Found h card)) from to n
      → Holds m h.slot card n × FoundIn n.0.read from (words_of (packed card)) × (least ≤ card_rank key card) × Clears n.0.read key from bucket least (card_rank key card)
  look_found h card l =
      let c : Receipt = record { bucket = bucket; key = key; least = least; from = from; to = to; kind = 1; card = words_of (packed card); stops = l.1 } in
      let ks : List Kept = record { slot = h.slot; since = l.0; words = words_of (packed card) } ∷ m.0.read.kept in
      let hs : List ℕ = h.slot ∷ m.0.slot.holds in
      ((l.0, adds m n from ks hs l.4 c l.5 l.6 idle later), finds m n from ks hs l.4 c l.5 l.6 idle later refl, l.3, clears m n from ks hs l.4 c l.5 l.6 idle later (card_rank key card) (inr (refl, omega arith)))

  pub look_none : LookedAs bucket key least passes m (words_end answers.None) from to n → Stays m n × ((best : ℕ) → Clears n.0.read key from bucket least best)
  look_none l =
      let c : Receipt = record { bucket = bucket; key = key; least = least; from = from; to = to; kind = 0; card = []; stops = l.0 } in
      (adds m n from m.0.read.kept m.0.slot.holds l.1 c l.2 l.3 idle later, λ best. clears m n from m.0.read.kept m.0.slot.holds l.1 c l.2 l.3 idle later best (inl refl))

  pub look_again : (b : ℕ) (stop : PassEnd) → LookedAs bucket key least passes m (words_end (answers.Again b stop)) from to n → Stays m n × StoppedIn n.0.read from b (stop_of stop ∷ [])
  look_again b stop l =
      let c : Receipt = record { bucket = bucket; key = key; least = least; from = from; to = to; kind = 2; card = []; stops = l.1.0 ++ stop_of stop ∷ [] } in (
        adds m n from m.0.read.kept m.0.slot.holds l.1.2 c l.1.3 l.1.4 idle later,
        subst (λ (k : ℕ). StoppedIn n.0.read from k (stop_of stop ∷ [])) (sym l.0) (stops m n from m.0.read.kept m.0.slot.holds l.1.2 c l.1.3 l.1.4 idle later refl l.1.0 (stop_of stop ∷ []) refl),
      )

-- The connected socket

pub finds_full : (layout : Layout) (key : Packet) (passes from to : ℕ) (m n : Sat) → m.0.read.reader ≡ [] → m.0.seen ≤ to → (end : LookEnd) → LookedAs (full_home layout key) key 5 passes m (words_end end) from to n → FindsFull layout key m end from n
finds_full layout key passes from to m n idle later (answers.Found h card) l = let t = look_found (full_home layout key) key 5 passes from to m n idle later h card l in (t.0, t.1, t.2)
finds_full layout key passes from to m n idle later answers.None l = let t = look_none (full_home layout key) key 5 passes from to m n idle later l in (t.0, t.1 0)
finds_full layout key passes from to m n idle later (answers.Again b stop) l = look_again (full_home layout key) key 5 passes from to m n idle later b stop l
