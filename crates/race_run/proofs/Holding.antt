-- Of a packet that found a socket the card was read under a count.
use Rattle.std.proofs.Common.{◌≡◌, ℕ, ◌≤◌, List, [], ◌∷◌, ◌++◌, ◌⊎◌, Option, Some, None, refl, sym, ap, ◌∙◌, subst, arith, inl, inr, ⊎_elim}
use mathlib.Core.Option.{some}
use lib.ListN.{get_elem?}
use Rattle.sock_card.specs.declared.card.Card.{Card}
use Rattle.sock_card.specs.declared.card.Packet.{Packet}
use Rattle.sock_card.specs.Words.{packed}
use Rattle.chain_book.specs.declared.book.PacketAnswer.{PacketAnswer}
use Rattle.chain_book.specs.declared.book.PacketAnswer.TheVariants as answers
use Rattle.null_reader.specs.Looked.{LookedAs, words_end}
use Rattle.null_reader.specs.declared.answers.LookEnd.{LookEnd}
use Rattle.null_reader.specs.declared.answers.LookEnd.TheVariants as ends
use Rattle.reuseport_group.specs.declared.pass.GroupPasses.{GroupPasses}
use Rattle.reuseport_group.specs.declared.choice.Choice.{Choice}
use Rattle.demux.specs.Chosen.{ByGroup, ChosenBy}
use Rattle.demux.specs.Concludes.{AfterListener, AfterFull, ByOrder, Concluded, book_end}
use Rattle.sock_slots.specs.declared.holds.Held.{Held}
use Rattle.listeners.specs.Finds.{InOrder}
use Rattle.established.specs.Homes.{full_home, exact_home, any_home}
use Rattle.established.specs.Stays.{More}
use Rattle.table_rule.specs.Plays.{Sat}
use Rattle.table_rule.specs.Wholes.{FoundIn, SeenIn}
use Rattle.table_rule.specs.Words.{words_of}
use Rattle.table_rule.specs.declared.view.Layout.{Layout}
use Rattle.table_rule.specs.declared.view.ReadView.{ReadView}
use Rattle.table_rule.specs.declared.view.Receipt.{Receipt as Search}
use Rattle.table_rule.specs.declared.view.Sighted.{Sighted}
use Rattle.table_rule.specs.declared.view.Whole.{Whole}
use Rattle.race_book.specs.Among.{Among}
use Rattle.race_book.proofs.AmongLemmas.{among_right}
use Rattle.race_run.specs.Searches.{WasHeld}
use Rattle.race_run.proofs.FromRaw.{place_of}
use Rattle.race_run.proofs.Searching.{searches_of, group_none}
use Rattle.race_run.proofs.Staging.{last_there, seen_one}

abbrev sighted_of : Sat → List Sighted
sighted_of m = m.0.read.sighted

-- With more receipts, or more cards that were put

found_more : (xs ys : ReadView) → ((k : ℕ) (c : Search) → get_elem? xs.receipts k ≡ some c → get_elem? ys.receipts k ≡ some c) → (from : ℕ) (card : List ℕ) → FoundIn xs from card → FoundIn ys from card
found_more xs ys more from card f = record { nth = f.nth; receipt = f.receipt; there = more f.nth f.receipt f.there; found = f.found; later = f.later; card-is = f.card-is }

seen_more : (xs ys : ReadView) → ((k : ℕ) (s : Sighted) → get_elem? xs.sighted k ≡ some s → get_elem? ys.sighted k ≡ some s) → (from : ℕ) (card : List ℕ) → SeenIn xs from card → SeenIn ys from card
seen_more xs ys more from card s = record { nth = s.nth; sighted = s.sighted; there = more s.nth s.sighted s.there; later = s.later; card-is = s.card-is }

pub held_more : (xs ys : ReadView) → More xs ys → (from : ℕ) (answer : PacketAnswer) → WasHeld xs from answer → WasHeld ys from answer
held_more xs ys more from (answers.Found card) h = ⊎_elim (λ f. inl (found_more xs ys more.receipts from (words_of (packed card)) f)) (λ s. inr (seen_more xs ys more.sighted from (words_of (packed card)) s)) h
held_more xs ys more from answers.None h = tt
held_more xs ys more from (answers.Again bucket end) h = tt

pub concluded_more : (m n : Sat) (c : Whole) → Concluded m c n → More m.0.read n.0.read
concluded_more m n c h = record {
  receipts = λ k r e. ap (λ (z : Sat). get_elem? z.0.read.receipts k) h.2 ∙ h.1.more.receipts k r e;
  sighted = λ k s e. ap (λ (z : Sat). get_elem? z.0.read.sighted k) h.2 ∙ h.1.more.sighted k s e;
}

-- One search

module _ (packet : Packet) (passes : ℕ) where
  found_at : (bucket least : ℕ) (m : Sat) (held : Held) (best : Card) (from to : ℕ) (k : Sat) → LookedAs bucket packet least passes m (words_end (ends.Found held best)) from to k → (t0 : ℕ) → t0 ≤ from → FoundIn k.0.read t0 (words_of (packed best))
  found_at bucket least m held best from to k h t0 low =
      let s : Search = record { bucket = bucket; key = packet; least = least; from = from; to = to; kind = 1; card = words_of (packed best); stops = h.1 } in
      let p = place_of (searches_of k) s (last_there m k s (ap searches_of h.6)) in
      record { nth = p.0; receipt = s; there = p.1; found = refl; later = low; card-is = refl }

  in_order_found : (layout : Layout) (m : Sat) (held : Held) (best : Card) (from to : ℕ) (k : Sat) → InOrder layout packet passes m (ends.Found held best) from to k → (t0 : ℕ) → t0 ≤ from → FoundIn k.0.read t0 (words_of (packed best))
  in_order_found layout m held best from to k h t0 low = ⊎_elim
      (λ z. found_at (exact_home layout packet) 3 m held best from to k z.1 t0 low)
      (λ z. found_at (any_home layout packet) 1 z.2 held best z.1 to k z.5 t0 (omega (arith, low, z.6, z.3)))
      h

-- The choice of a group

-- a member's card that was put just now
seen_now : (m n : Sat) (s : Sighted) (from : ℕ) (card : List ℕ) → n.0.read.sighted ≡ m.0.read.sighted ++ s ∷ [] → from ≤ s.since → s.card ≡ card → SeenIn n.0.read from card
seen_now m n s from card e low is =
    let p = place_of (sighted_of n) s (subst (λ (l : List Sighted). Among l s) (sym e) (among_right s (sighted_of m) (s ∷ []) (inl refl))) in
    record { nth = p.0; sighted = s; there = p.1; later = low; card-is = is }

chosen_held : (slots : ℕ) (packet : Packet) (m : Sat) (best : Card) (choice : Option Choice) (card : Card) (n : Sat) → ChosenBy slots packet m best choice card n → (t0 : ℕ) → t0 ≤ m.0.seen → (card ≡ best) ⊎ SeenIn n.0.read t0 (words_of (packed card))
chosen_held slots packet m best None card n h t0 low = inl h.0
chosen_held slots packet m best (Some choice) card n h t0 low = ⊎_elim (λ a. inl a.1)
    (⊎_elim (λ a. inl a.1) (λ a. let c = a.1 in ⊎_elim
    (λ z. inr (seen_now m n (record { since = m.0.seen; card = words_of (packed c.0) }) t0 (words_of (packed card)) (ap sighted_of c.1) low (ap (λ (x : Card). words_of (packed x)) (sym z.1))))
    (λ z. inl z.1) c.3)) h

group_held : (slots groups : ℕ) (packet : Packet) (hash : ℕ) (m : Sat) (best : Card) (p : GroupPasses) (card : Card) (n : Sat) (p' : GroupPasses) → ByGroup slots groups packet hash m best p card n p' → (t0 : ℕ) → t0 ≤ m.0.seen → (card ≡ best) ⊎ SeenIn n.0.read t0 (words_of (packed card))
group_held slots groups packet hash m best p card n p' h t0 low = ⊎_elim (λ a. inl a.1) (λ a. chosen_held slots packet m best a.2.0 card n a.2.3 t0 low) h

-- The whole lookup

module _ (layout : Layout) (packet : Packet) (passes slots groups : ℕ) where
  listener_held : (m : Sat) (from to : ℕ) (k : Sat) (p p' : GroupPasses) (look : LookEnd) (end : PacketAnswer) (c : Whole) (n : Sat) → InOrder layout packet passes m look from to k → AfterListener slots groups layout.seed packet k p look end p' c n → (t0 : ℕ) → t0 ≤ from → t0 ≤ k.0.seen → WasHeld n.0.read t0 end
  listener_held m from to k p p' (ends.Found held best) end c n o a t0 low seen =
      let same : searches_of n ≡ searches_of k = ap searches_of a.6 ∙ ap searches_of a.5 ∙ group_none slots groups packet _ k best p a.0 a.1 p' a.4 in
      let put : sighted_of n ≡ sighted_of a.1 = ap sighted_of a.6 ∙ ap sighted_of a.5 in
      subst (WasHeld n.0.read t0) (sym a.3) (⊎_elim
      (λ e. inl (subst (λ (x : Card). FoundIn n.0.read t0 (words_of (packed x))) (sym e) (found_more k.0.read n.0.read (λ j r at. ap (λ (l : List Search). get_elem? l j) same ∙ at) t0 (words_of (packed best)) (in_order_found packet passes layout m held best from to k o t0 low))))
      (λ s. inr (seen_more a.1.0.read n.0.read (λ j r at. ap (λ (l : List Sighted). get_elem? l j) put ∙ at) t0 (words_of (packed a.0)) s))
      (group_held slots groups packet _ k best p a.0 a.1 p' a.4 t0 seen))
  listener_held m from to k p p' ends.None end c n o a t0 low seen = subst (WasHeld n.0.read t0) (sym a.0) tt
  listener_held m from to k p p' (ends.Again bucket stop) end c n o a t0 low seen = subst (WasHeld n.0.read t0) (sym a.0) tt

  full_held : (m : Sat) (p p' : GroupPasses) (look : LookEnd) (end : PacketAnswer) (from to : ℕ) (k : Sat) (c : Whole) (n : Sat) → from ≤ to → LookedAs (full_home layout packet) packet 5 passes m (words_end look) from to k → AfterFull slots groups layout packet passes k p look end p' c n → WasHeld n.0.read from end
  full_held m p p' (ends.Found held card) end from to k c n le h a =
      let same : searches_of n ≡ searches_of k = ap searches_of a.4 ∙ ap searches_of a.3 in
      subst (WasHeld n.0.read from) (sym a.1) (inl (found_more k.0.read n.0.read (λ j r at. ap (λ (l : List Search). get_elem? l j) same ∙ at) from (words_of (packed card)) (found_at packet passes (full_home layout packet) 5 m held card from to k h from (omega arith))))
  full_held m p p' ends.None end from to k c n le h a =
      let first = seen_one (full_home layout packet) 5 passes packet m ends.None from to k h in
      listener_held k a.1 a.2 a.3 p p' a.0 end c n a.4 a.5 from (omega (arith, le, first, a.7)) (omega (arith, le, first, a.6))
  full_held m p p' (ends.Again bucket stop) end from to k c n le h a = subst (WasHeld n.0.read from) (sym a.0) tt

  pub held_then : (m : Sat) (p p' : GroupPasses) (end : PacketAnswer) (from : ℕ) (c : Whole) (n : Sat) → ByOrder slots groups layout packet passes m p end p' from c n → WasHeld n.0.read from end
  held_then m p p' end from c n h = full_held m p p' h.0 end from h.1 h.2 c n h.6 h.3 h.4
