-- The receipt of a packet's lookup follows from what its parts gave.
use Rattle.std.proofs.Common.{◌≡◌, ℕ, suc, ◌+◌, ◌≤◌, List, [], ◌∷◌, ◌++◌, ◌⊎◌, inl, inr, length, refl, sym, ap, ◌∙◌, subst, arith, cond, Bool, eq-eqb, Option, Some, None}
use mathlib.Core.Option.{some}
use lib.ListN.{get_elem?}
use Rattle.atomic_table.proofs.Lists.{at_longer}
use Rattle.chain_book.specs.declared.book.PacketAnswer.TheVariants as answers
use Rattle.chain_book.specs.declared.shape.Shape.{Shape}
use Rattle.null_reader.specs.Looked.{HasTwo}
use Rattle.null_reader.specs.Looked as looked
use Rattle.null_reader.specs.declared.answers.LookEnd.{LookEnd}
use Rattle.null_reader.specs.declared.answers.LookEnd.TheVariants as looks
use Rattle.null_reader.specs.declared.answers.PassEnd.{PassEnd}
use Rattle.null_reader.specs.declared.answers.PassEnd.TheVariants.{Foreign, Dead, Changed, Long}
use Rattle.reuseport_group.specs.declared.choice.Choice.{Choice}
use Rattle.reuseport_group.specs.declared.pass.GroupPasses.{GroupPasses}
use Rattle.demux.specs.Chosen.{sighted_view, Chosen, ChosenBy, ByGroup}
use Rattle.demux.specs.Concludes.{Concluded, book_end}
use Rattle.established.proofs.Finds.{at_here}
use Rattle.established.proofs.Stays.{more_same, more_more, clears_on, clears_up, found_on, found_up, seen_on, stays_same, stays_on, adds_on, seen_later}
use Rattle.established.specs.Finds.{card_rank, FindsFull}
use Rattle.listeners.specs.Finds.{FindsListener}
use Rattle.established.specs.Homes.{IsLaidOut, full_home, exact_home, any_home}
use Rattle.established.specs.Stays.{adding, settled_by, More, Adds, Stays, Holds}
use Rattle.sock_slots.specs.declared.holds.Held.{Held}
use Rattle.sock_card.specs.Words.{packed}
use Rattle.sock_card.specs.declared.card.Card.{Card}
use Rattle.sock_card.specs.declared.card.Packet.{Packet}
use Rattle.table_rule.specs.Alone.{IsAlone, IsSoleWhole, IsKnownWhole}
use Rattle.table_rule.specs.Calls.{layout_of}
use Rattle.table_rule.specs.Lists.{less}
use Rattle.table_rule.specs.LookCalls.{HasRoom, place_of}
use Rattle.table_rule.specs.Plays.{Sat, with_kept, letting_go, drop_at, trying}
use Rattle.table_rule.specs.Wholes.{Clears, IsClear, FoundIn, SeenIn, Follows, stop_of, whole_of}
use Rattle.table_rule.specs.Words.{words_of, with_seed}
use Rattle.table_rule.specs.declared.table.Chains.{Chains}
use Rattle.table_rule.specs.declared.view.Kept.{Kept}
use Rattle.table_rule.specs.declared.view.Layout.{Layout}
use Rattle.table_rule.specs.declared.view.Sighted.{Sighted}
use Rattle.table_rule.specs.declared.view.Whole.{Whole}

-- the layout by which homes are determined is the table's, but for its seed
pub laid_as : (layout table : Layout) (t : Chains) → IsLaidOut layout t → table ≡ layout_of t → with_seed table layout.seed ≡ layout
laid_as layout table t laid is = ap (λ (s : Shape). record { shape = s; seed = layout.seed }) (ap (λ (l : Layout). l.shape) is ∙ sym laid.shape)

-- an end in a record's words is the same stop
pub same_stop : (e : PassEnd) → stop_of (book_end e) ≡ looked.stop_of e
same_stop (Foreign b) = refl
same_stop (Dead i) = refl
same_stop (Changed i) = refl
same_stop (Long n) = refl

-- What a lookup's part knows of the clock

pub full_later : (layout : Layout) (packet : Packet) (m n : Sat) (end : LookEnd) (from : ℕ) → FindsFull layout packet m end from n → m.0.seen ≤ n.0.seen
full_later layout packet m n (looks.Found held card) from h = seen_later m n _ _ h.0.1
full_later layout packet m n looks.None from h = seen_later m n _ _ h.0
full_later layout packet m n (looks.Again bucket stop) from h = seen_later m n _ _ h.0

pub listener_later : (layout : Layout) (packet : Packet) (m n : Sat) (end : LookEnd) (from : ℕ) → FindsListener layout packet m end from n → m.0.seen ≤ n.0.seen
listener_later layout packet m n (looks.Found held card) from h = seen_later m n _ _ h.0.1
listener_later layout packet m n looks.None from h = seen_later m n _ _ h.0
listener_later layout packet m n (looks.Again bucket stop) from h = seen_later m n _ _ h.0

-- What a group's choice leaves

tried_stays : (m n : Sat) → n ≡ (trying m.0, m.1) → Stays m n
tried_stays m n e = record {
  taken = m.0.slot.taken + 1;
  receipts = m.0.read.receipts;
  sighted = m.0.read.sighted;
  seen = m.0.seen;
  learned = [];
  often = omega arith;
  later = omega arith;
  is = e;
  more = subst (λ (s : Sat). More m.0.read s.0.read) (sym e) (more_same m.0.read);
}

abbrev sighted_now : Sat → Card → Sighted
sighted_now m card = record { since = m.0.seen; card = words_of (packed card) }

sighted_stays : (m n : Sat) (card : Card) → n ≡ (sighted_view m.0 card, m.1) → Stays m n
sighted_stays m n card e = record {
  taken = m.0.slot.taken + 1;
  receipts = m.0.read.receipts;
  sighted = m.0.read.sighted ++ sighted_now m card ∷ [];
  seen = m.0.seen;
  learned = [];
  often = omega arith;
  later = omega arith;
  is = e;
  more = subst (λ (t : Sat). More m.0.read t.0.read) (sym e) (record { receipts = λ k c z. z; sighted = λ k c z. at_longer m.0.read.sighted (sighted_now m card ∷ []) k c z });
}

seen_there : (m n : Sat) (card : Card) → n ≡ (sighted_view m.0 card, m.1) → SeenIn n.0.read m.0.seen (words_of (packed card))
seen_there m n card e = record {
  nth = length m.0.read.sighted;
  sighted = sighted_now m card;
  there = subst (λ (t : Sat). get_elem? t.0.read.sighted (length m.0.read.sighted) ≡ some (sighted_now m card)) (sym e) (at_here m.0.read.sighted [] (sighted_now m card));
  later = omega arith;
  card-is = refl;
}

-- the answer of a group is the best, or was sighted and has its rank
abbrev pub IsFit : Packet → Sat → Card → Card → Sat → Type 0
IsFit packet m best card n = (card ≡ best) ⊎ (SeenIn n.0.read m.0.seen (words_of (packed card)) × (card_rank packet card ≡ card_rank packet best))

chosen_fits : (slots : ℕ) (packet : Packet) (m n : Sat) (best card : Card) (member : ℕ) → Chosen slots packet m best member card n → Stays m n × IsFit packet m best card n
chosen_fits slots packet m n best card member (inl t) = (stays_same m n t.2, inl t.1)
chosen_fits slots packet m n best card member (inr (inl t)) = (tried_stays m n t.2, inl t.1)
chosen_fits slots packet m n best card member (inr (inr t)) =
    let c : Card = t.1.0 in
    let e : n ≡ (sighted_view m.0 c, m.1) = t.1.1 in (
      sighted_stays m n c e,
      elim t.1.3 [
        | inl z ↦ inr (subst (λ (k : Card). SeenIn n.0.read m.0.seen (words_of (packed k)) × (card_rank packet k ≡ card_rank packet best)) (sym z.1) (seen_there m n c e, z.0.1))
        | inr z ↦ inl z.1
      ],
    )

choice_fits : (slots : ℕ) (packet : Packet) (m n : Sat) (best card : Card) (choice : Option Choice) → ChosenBy slots packet m best choice card n → Stays m n × IsFit packet m best card n
choice_fits slots packet m n best card None t = (stays_same m n t.1, inl t.0)
choice_fits slots packet m n best card (Some c) t = chosen_fits slots packet m n best card c.member t

pub group_fits : (slots groups : ℕ) (packet : Packet) (hash : ℕ) (m n : Sat) (best card : Card) (p p' : GroupPasses) → ByGroup slots groups packet hash m best p card n p' → Stays m n × IsFit packet m best card n
group_fits slots groups packet hash m n best card p p' (inl t) = (stays_same m n t.2, inl t.1)
group_fits slots groups packet hash m n best card p p' (inr t) = choice_fits slots packet m n best card t.2.0 t.2.3

-- The count of the best

module _ (m n : Sat) (slot : ℕ) (best : Card) (h : Holds m slot best n) where
  abbrev pub kept-best : Kept
  kept-best = record { slot = slot; since = h.0; words = words_of (packed best) }

  -- also after steps that leave the counts
  pub holds_stays : (n' : Sat) → Stays n n' → Adds m (kept-best ∷ m.0.read.kept) (slot ∷ m.0.slot.holds) n'
  holds_stays n' s = adds_on m n n' (kept-best ∷ m.0.read.kept) (kept-best ∷ m.0.read.kept) (slot ∷ m.0.slot.holds) (slot ∷ m.0.slot.holds) h.1
      (subst (λ (l : List Kept). Adds n l (slot ∷ m.0.slot.holds) n') (ap (λ (s : Sat). s.0.read.kept) h.1.is) (subst (λ (l : List ℕ). Adds n n.0.read.kept l n') (ap (λ (s : Sat). s.0.slot.holds) h.1.is) s))

  pub has_room : HasTwo m.0 → HasRoom n.0
  has_room two = subst (λ (s : Sat). HasRoom s.0) (sym h.1.is) (omega (arith, two))

module _ (m n : Sat) (k : Kept) (ks : List Kept) (hs : List ℕ) (a : Adds m (k ∷ ks) (k.slot ∷ hs) n) where
  best_first : place_of k.slot n.0.read.kept ≡ 0
  best_first = ap (λ (s : Sat). place_of k.slot s.0.read.kept) a.is ∙ ap (λ (b : Bool). cond b 0 (suc (place_of k.slot ks))) (eq-eqb k.slot k.slot refl)

  -- it is put
  module _ (n' : Sat) (e : n' ≡ (with_kept (letting_go n.0 k.slot) (drop_at (place_of k.slot n.0.read.kept) n.0.read.kept), n.1)) where
    put-is : n' ≡ (with_kept (letting_go n.0 k.slot) (drop_at 0 n.0.read.kept), n.1)
    put-is = e ∙ ap (λ (i : ℕ). (with_kept (letting_go n.0 k.slot) (drop_at i n.0.read.kept), n.1)) best_first

    pub more_put : More n.0.read n'.0.read
    more_put = subst (λ (s : Sat). More n.0.read s.0.read) (sym put-is) (record { receipts = λ i c z. z; sighted = λ i c z. z })

    pub put_best : Adds m ks hs n'
    put_best = record {
      taken = a.taken;
      receipts = a.receipts;
      sighted = a.sighted;
      seen = a.seen;
      learned = a.learned;
      often = a.often;
      later = a.later;
      is = put-is ∙ (ap (λ (s : Sat). (with_kept (letting_go s.0 k.slot) (drop_at 0 s.0.read.kept), s.1)) a.is
          ∙ ap (λ (b : Bool). (adding m.0 ks (cond b hs (k.slot ∷ less k.slot hs)) a.taken a.receipts a.sighted a.seen (settled_by m.0.sights a.learned), m.1)) (eq-eqb k.slot k.slot refl));
      more = more_more m.0.read n.0.read n'.0.read a.more more_put;
    }

    pub put_seen_is : n'.0.seen ≡ n.0.seen
    put_seen_is = ap (λ (s : Sat). s.0.seen) put-is

-- The answers of the lookup of a connected socket

module _ (layout : Layout) (packet : Packet) (from : ℕ) (m n : Sat) (low : from ≤ n.0.seen) where
  pub full_found : (h : Held) (card : Card) (n' : Sat) → FindsFull layout packet m (looks.Found h card) from n → More n.0.read n'.0.read → n'.0.seen ≡ n.0.seen → Follows n'.0 (whole_of packet layout.seed from (answers.Found card))
  full_found h card n' t more same = record {
    low = omega (arith, low, same);
    none = λ k. absurd (omega (arith, k));
    found = λ _. (inl (found_on n.0.read n'.0.read more from (words_of (packed card)) t.1), omega (arith, t.2), record { five = inl t.2; three = inl (omega (arith, t.2)); one = inl (omega (arith, t.2)) });
    again = λ k. absurd (omega (arith, k));
  }

-- Those of the lookup of a listener

module _ (layout : Layout) (packet : Packet) (from f : ℕ) (m n : Sat) (low : from ≤ m.0.seen) (fresh : m.0.seen ≤ f) (clear : Clears m.0.read packet from (full_home layout packet) 5 0) where
  late : from ≤ f
  late = omega (arith, low, fresh)

  pub then_none : with_seed n.0.layout layout.seed ≡ layout → FindsListener layout packet m looks.None f n → Follows n.0 (whole_of packet layout.seed from answers.None)
  then_none laid t =
      let clear-all : IsClear n.0.read layout packet from 0 = record {
        five = inr (clears_on m.0.read n.0.read t.0.more packet from (full_home layout packet) 5 0 clear);
        three = inr (clears_up n.0.read packet f from (exact_home layout packet) 3 0 0 late (inl refl) t.1);
        one = inr (clears_up n.0.read packet f from (any_home layout packet) 1 0 0 late (inl refl) t.2);
      } in
      record {
        low = let z = seen_later m n m.0.read.kept m.0.slot.holds t.0 in omega (arith, low, z);
        none = λ _. subst (λ (l : Layout). IsClear n.0.read l packet from 0) (sym laid) clear-all;
        found = λ k. absurd (omega (arith, k));
        again = λ k. absurd (omega (arith, k));
      }

  -- the group has answered, and the best was put
  pub then_found : (h : Held) (best card : Card) (n' n'' : Sat) → with_seed n''.0.layout layout.seed ≡ layout → FindsListener layout packet m (looks.Found h best) f n → Stays n n' → IsFit packet n best card n' → More n'.0.read n''.0.read → n''.0.seen ≡ n'.0.seen
      → Follows n''.0 (whole_of packet layout.seed from (answers.Found card))
  then_found h best card n' n'' laid t s fit more same =
      let all : More n.0.read n''.0.read = more_more n.0.read n'.0.read n''.0.read s.more more in
      let r : ℕ = card_rank packet best in
      let rank-is : card_rank packet card ≡ r = elim fit [ inl z ↦ ap (λ (c : Card). card_rank packet c) z | inr z ↦ z.1 ] in
      let early = seen_later m n (kept-best m n h.slot best t.0 ∷ m.0.read.kept) (h.slot ∷ m.0.slot.holds) t.0.1 in
      let step = seen_later n n' n.0.read.kept n.0.slot.holds s in
      let clear-all : IsClear n''.0.read layout packet from r = record {
        five = inr (clears_up n''.0.read packet from from (full_home layout packet) 5 0 r (omega arith) (inl refl) (clears_on n.0.read n''.0.read all packet from (full_home layout packet) 5 0 (clears_on m.0.read n.0.read t.0.1.more packet from (full_home layout packet) 5 0 clear)));
        three = elim t.3 [ inl z ↦ inl z | inr z ↦ inr (clears_up n''.0.read packet f from (exact_home layout packet) 3 r r late (inr (omega arith)) (clears_on n.0.read n''.0.read all packet f (exact_home layout packet) 3 r z)) ];
        one = elim t.4 [ inl z ↦ inl z | inr z ↦ inr (clears_up n''.0.read packet f from (any_home layout packet) 1 r r late (inr (omega arith)) (clears_on n.0.read n''.0.read all packet f (any_home layout packet) 1 r z)) ];
      } in
      record {
        low = omega (arith, low, early, step, same);
        none = λ k. absurd (omega (arith, k));
        found = λ _. (
          elim fit [
            | inl z ↦ inl (found_up n''.0.read f from (words_of (packed card)) late (found_on n.0.read n''.0.read all f (words_of (packed card)) (subst (λ (c : Card). FoundIn n.0.read f (words_of (packed c))) (sym z) t.1)))
            | inr z ↦ inr (seen_on n'.0.read n''.0.read more n.0.seen from (words_of (packed card)) (omega (arith, low, early)) z.0)
          ],
          omega (arith, rank-is, t.2),
          subst (λ (l : Layout). IsClear n''.0.read l packet from (card_rank packet card)) (sym laid) (subst (λ (k : ℕ). IsClear n''.0.read layout packet from k) (sym rank-is) clear-all),
        );
        again = λ k. absurd (omega (arith, k));
      }

-- What a pass's own book says is the same before

module _ (m k : Sat) (a : Stays m k) where
  pub alone_before : (from : ℕ) → IsAlone m.0 from → IsAlone k.0 from
  alone_before from s = subst (λ (t : Sat). IsAlone t.0 from) (sym a.is) (record { parts = s.parts; closed = s.closed; before = s.before })

  pub sole_before : (c : Whole) → IsSoleWhole k.0 c → IsSoleWhole m.0 c
  sole_before c w = let x = subst (λ (t : Sat). IsSoleWhole t.0 c) a.is w in record {
    none = x.none;
    found = λ z. let t = x.found z in (record { hash = t.0.hash; there = t.0.there; is-hash = t.0.is-hash; card-is = t.0.card-is; stands = t.0.stands }, t.1);
    again = x.again;
  }

  pub known_before : (c : Whole) → IsKnownWhole k.0 c → IsKnownWhole m.0 c
  known_before c w = let x = subst (λ (t : Sat). IsKnownWhole t.0 c) a.is w in record { none = x.none; found = x.found }

-- The branch of a listener that was found: its group's choice, and the put of its count

module _ (slots groups : ℕ) (layout : Layout) (packet : Packet) (hash from f : ℕ) (m n n' : Sat) (h : Held) (best card : Card) (p p' : GroupPasses) (t : FindsListener layout packet m (looks.Found h best) f n) (group : ByGroup slots groups packet hash n best p card n' p') where
  fits : Stays n n' × IsFit packet n best card n'
  fits = group_fits slots groups packet hash n n' best card p p' group

  held-on : Adds m (kept-best m n h.slot best t.0 ∷ m.0.read.kept) (h.slot ∷ m.0.slot.holds) n'
  held-on = holds_stays m n h.slot best t.0 n' fits.0

  module _ (n'' : Sat) (e : n'' ≡ (with_kept (letting_go n'.0 h.slot) (drop_at (place_of h.slot n'.0.read.kept) n'.0.read.kept), n'.1)) where
    pub listener_stays : Stays m n''
    listener_stays = put_best m n' (kept-best m n h.slot best t.0) m.0.read.kept m.0.slot.holds held-on n'' e

    pub listener_follows : with_seed n''.0.layout layout.seed ≡ layout → from ≤ m.0.seen → m.0.seen ≤ f → Clears m.0.read packet from (full_home layout packet) 5 0 → Follows n''.0 (whole_of packet layout.seed from (answers.Found card))
    listener_follows laid low fresh clear = then_found layout packet from f m n low fresh clear h best card n' n'' laid t fits.0 fits.1
        (more_put m n' (kept-best m n h.slot best t.0) m.0.read.kept m.0.slot.holds held-on n'' e)
        (put_seen_is m n' (kept-best m n h.slot best t.0) m.0.read.kept m.0.slot.holds held-on n'' e)

-- That of a connected socket

module _ (layout : Layout) (packet : Packet) (from : ℕ) (m n : Sat) (h : Held) (card : Card) (t : FindsFull layout packet m (looks.Found h card) from n) where
  module _ (n' : Sat) (e : n' ≡ (with_kept (letting_go n.0 h.slot) (drop_at (place_of h.slot n.0.read.kept) n.0.read.kept), n.1)) where
    pub full_stays : Stays m n'
    full_stays = put_best m n (kept-best m n h.slot card t.0) m.0.read.kept m.0.slot.holds t.0.1 n' e

    pub full_follows : from ≤ n.0.seen → Follows n'.0 (whole_of packet layout.seed from (answers.Found card))
    full_follows low = full_found layout packet from m n low h card n' t
        (more_put m n (kept-best m n h.slot card t.0) m.0.read.kept m.0.slot.holds t.0.1 n' e)
        (put_seen_is m n (kept-best m n h.slot card t.0) m.0.read.kept m.0.slot.holds t.0.1 n' e)

pub concluded_on : (m n n' : Sat) (c : Whole) → Stays m n → Concluded n c n' → Concluded m c n'
concluded_on m n n' c s t = (t.0, stays_on m n t.0 s t.1, t.2)
