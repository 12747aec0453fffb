-- What the receipts of two looks give to the lookup of a listener.
use Rattle.std.proofs.Common.{◌≡◌, ℕ, ◌≤◌, List, [], ◌∷◌, inl, inr, refl, sym, ap, subst, arith}
use Rattle.sock_card.specs.Words.{packed}
use Rattle.sock_card.specs.declared.card.Card.{Card}
use Rattle.sock_card.specs.declared.card.Packet.{Packet}
use Rattle.table_rule.specs.Plays.{Sat}
use Rattle.table_rule.specs.Words.{words_of}
use Rattle.table_rule.specs.Alone.{NoneStands, CardStands}
use Rattle.table_rule.specs.Wholes.{Clears}
use Rattle.table_rule.specs.declared.view.Layout.{Layout}
use Rattle.sock_slots.specs.declared.holds.Held.{Held}
use Rattle.null_reader.specs.Looked.{LookedAs, stop_of, IsWhole, SoleAs, words_end}
use Rattle.null_reader.specs.declared.answers.PassEnd.{PassEnd}
use Rattle.null_reader.specs.declared.answers.LookEnd.{LookEnd}
use Rattle.null_reader.specs.declared.answers.LookEnd.TheVariants as answers
use Rattle.established.specs.Homes.{exact_home, any_home}
use Rattle.established.specs.Stays.{Stays}
use Rattle.established.specs.Finds.{card_rank}
use Rattle.listeners.specs.Finds.{FindsListener, SoleListener}
use Rattle.established.proofs.Finds.{look_found, look_none, look_again}
use Rattle.established.proofs.Stays.{clears_on, clears_up, found_up, stopped_up, stays_on, holds_on, idle_on}

-- The listener

-- the first look, with its bucket and its answer written otherwise
pub at_exact : (layout : Layout) (key : Packet) (passes from to : ℕ) (m n : Sat) (bucket : ℕ) (end end' : LookEnd) → bucket ≡ exact_home layout key → end ≡ end' → LookedAs bucket key 3 passes m (words_end end) from to n → LookedAs (exact_home layout key) key 3 passes m (words_end end') from to n
at_exact layout key passes from to m n bucket end end' home is l =
    subst (λ (e : LookEnd). LookedAs (exact_home layout key) key 3 passes m (words_end e) from to n) is (subst (λ (b : ℕ). LookedAs b key 3 passes m (words_end end) from to n) home l)

pub seen_after : (layout : Layout) (key : Packet) (passes from to : ℕ) (m n : Sat) → LookedAs (exact_home layout key) key 3 passes m (words_end answers.None) from to n → n.0.seen ≡ to
seen_after layout key passes from to m n l = ap (λ (s : Sat). s.0.seen) l.3

module _ (layout : Layout) (key : Packet) (passes from to : ℕ) (m n : Sat) (idle : m.0.read.reader ≡ []) (later : m.0.seen ≤ to) where
  pub none_stays : LookedAs (exact_home layout key) key 3 passes m (words_end answers.None) from to n → Stays m n
  none_stays none = (look_none (exact_home layout key) key 3 passes from to m n idle later none).0

  pub exact_found : (h : Held) (card : Card) → LookedAs (exact_home layout key) key 3 passes m (words_end (answers.Found h card)) from to n → FindsListener layout key m (answers.Found h card) from n
  exact_found h card l = let t = look_found (exact_home layout key) key 3 passes from to m n idle later h card l in (t.0, t.1, omega (arith, t.2), inr t.3, inl (omega (arith, t.2)))

  pub exact_again : (b : ℕ) (stop : PassEnd) → LookedAs (exact_home layout key) key 3 passes m (words_end (answers.Again b stop)) from to n → FindsListener layout key m (answers.Again b stop) from n
  exact_again b stop l = look_again (exact_home layout key) key 3 passes from to m n idle later b stop l

  -- the second look, from f to t
  module _ (n' : Sat) (f t : ℕ) (none : LookedAs (exact_home layout key) key 3 passes m (words_end answers.None) from to n) (low : from ≤ f) (after : n.0.seen ≤ t) where
    one : Stays m n × ((best : ℕ) → Clears n.0.read key from (exact_home layout key) 3 best)
    one = look_none (exact_home layout key) key 3 passes from to m n idle later none

    pub still_idle : n.0.read.reader ≡ []
    still_idle = idle_on m n m.0.read.kept m.0.slot.holds idle one.0

    pub then_any : (end : LookEnd) → LookedAs (any_home layout key) key 1 passes n (words_end end) f t n' → FindsListener layout key m end from n'
    then_any (answers.Found h card) l =
        let u = look_found (any_home layout key) key 1 passes f t n n' still_idle after h card l in
        let r : ℕ = card_rank key card in (
          holds_on m n n' h.slot card one.0 u.0,
          found_up n'.0.read f from (words_of (packed card)) low u.1,
          u.2,
          inr (clears_on n.0.read n'.0.read u.0.1.more key from (exact_home layout key) 3 r (one.1 r)),
          inr (clears_up n'.0.read key f from (any_home layout key) 1 r r low (inr (omega arith)) u.3),
        )
    then_any answers.None l = let u = look_none (any_home layout key) key 1 passes f t n n' still_idle after l in (
      stays_on m n n' one.0 u.0,
      clears_on n.0.read n'.0.read u.0.more key from (exact_home layout key) 3 0 (one.1 0),
      clears_up n'.0.read key f from (any_home layout key) 1 0 0 low (inl refl) (u.1 0),
    )
    then_any (answers.Again b stop) l = let u = look_again (any_home layout key) key 1 passes f t n n' still_idle after b stop l in (
      stays_on m n n' one.0 u.0,
      stopped_up n'.0.read f from b (stop_of stop ∷ []) low u.1,
    )

-- Of a pass's own book

module _ (m n : Sat) (s : Stays m n) where
  pub whole_on : IsWhole m.0 → IsWhole n.0
  whole_on w = subst (λ (t : Sat). IsWhole t.0) (sym s.is) w

  none_back : (bucket : ℕ) (key : Packet) (least best : ℕ) → NoneStands n.0 bucket key least best → NoneStands m.0 bucket key least best
  none_back bucket key least best x = subst (λ (t : Sat). NoneStands t.0 bucket key least best) s.is x

  card_back : (card : List ℕ) → CardStands n.0 card → CardStands m.0 card
  card_back card c =
      let x = subst (λ (t : Sat). CardStands t.0 card) s.is c in
      record { hash = x.hash; there = x.there; is-hash = x.is-hash; card-is = x.card-is; stands = x.stands }

  pub then_sole : (layout : Layout) (key : Packet) (end : LookEnd) → NoneStands m.0 (exact_home layout key) key 3 0 → SoleAs (any_home layout key) key 1 n.0 (words_end end) → SoleListener layout key m.0 end
  then_sole layout key (answers.Found h card) a b = (
    card_back (words_of (packed card)) b.0,
    (λ g there hash at enough better. a g there hash at enough (omega (arith, better))),
    inr (none_back (any_home layout key) key 1 (card_rank key card) b.1),
  )
  then_sole layout key answers.None a b = (a, none_back (any_home layout key) key 1 0 b)
  then_sole layout key (answers.Again c stop) a b = b
