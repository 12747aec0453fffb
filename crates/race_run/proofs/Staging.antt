-- A packet's lookup went by searches, one chain after the other.
use Rattle.std.proofs.Common.{◌≡◌, ℕ, ◌≤◌, List, [], ◌∷◌, ◌++◌, Option, Some, None, refl, sym, ap, ◌∙◌, subst, arith, inl, inr, ⊎_elim}
use Rattle.sock_card.specs.declared.card.Card.{Card}
use Rattle.sock_card.specs.declared.card.Packet.{Packet}
use Rattle.sock_card.specs.Words.{packed}
use Rattle.chain_book.specs.declared.book.PacketAnswer.{PacketAnswer}
use Rattle.chain_book.specs.declared.book.PacketAnswer.TheVariants as answers
use Rattle.null_reader.specs.Looked.{LookedAs, words_end, stop_of as search_stop}
use Rattle.null_reader.specs.declared.answers.LookEnd.{LookEnd}
use Rattle.null_reader.specs.declared.answers.LookEnd.TheVariants as ends
use Rattle.null_reader.specs.declared.answers.PassEnd.{PassEnd as LookStop}
use Rattle.reuseport_group.specs.declared.pass.GroupPasses.{GroupPasses}
use Rattle.reuseport_group.specs.declared.choice.Choice.{Choice}
use Rattle.demux.specs.Chosen.{ByGroup, ChosenBy}
use Rattle.demux.specs.Concludes.{AfterListener, AfterFull, ByOrder, book_end}
use Rattle.sock_slots.specs.declared.holds.Held.{Held}
use Rattle.established.specs.Finds.{card_rank}
use Rattle.listeners.specs.Finds.{InOrder}
use Rattle.established.specs.Homes.{full_home, exact_home, any_home}
use Rattle.table_rule.specs.Plays.{Sat}
use Rattle.table_rule.specs.Words.{words_of}
use Rattle.table_rule.specs.declared.view.Layout.{Layout}
use Rattle.table_rule.specs.declared.view.Receipt.{Receipt as Search}
use Rattle.table_rule.specs.declared.view.Whole.{Whole}
use Rattle.race_book.specs.Among.{Among}
use Rattle.race_book.proofs.AmongLemmas.{among_left, among_right}
use Rattle.chain_book.specs.declared.shape.Shape.{Shape}
use Rattle.chain_book.specs.Homes.{packet_home, listen_home}
use Rattle.race_run.specs.Searches.{SearchedIn, FoundNone, FoundLike, StoppedAt, Gave, GaveLast, GaveOr, WentInStages}
use Rattle.race_run.proofs.Searching.{searches_of, same_stop, searched_one, group_none}

-- More searches

module _ (xs ys : List Search) (more : (s : Search) → Among xs s → Among ys s) (packet : Packet) where
  pub searched_more : (bucket least t0 t1 : ℕ) (P : Search → Type 0) → SearchedIn xs packet bucket least t0 t1 P → SearchedIn ys packet bucket least t0 t1 P
  searched_more bucket least t0 t1 P h = record {
    search = h.search;
    there = more h.search h.there;
    key = h.key;
    bucket_is = h.bucket_is;
    least_is = h.least_is;
    begins = h.begins;
    ends = h.ends;
    ended = h.ended;
  }

  gave_more : (bucket least t0 t1 : ℕ) (answer : PacketAnswer) → Gave xs packet bucket least t0 t1 answer → Gave ys packet bucket least t0 t1 answer
  gave_more bucket least t0 t1 (answers.Found card) h = searched_more bucket least t0 t1 (FoundLike packet card) h
  gave_more bucket least t0 t1 answers.None h = absurd h
  gave_more bucket least t0 t1 (answers.Again at end) h = (h.0, searched_more bucket least t0 t1 (StoppedAt end) h.1)

  last_more : (bucket least t0 t1 : ℕ) (answer : PacketAnswer) → GaveLast xs packet bucket least t0 t1 answer → GaveLast ys packet bucket least t0 t1 answer
  last_more bucket least t0 t1 (answers.Found card) h = gave_more bucket least t0 t1 (answers.Found card) h
  last_more bucket least t0 t1 answers.None h = searched_more bucket least t0 t1 FoundNone h
  last_more bucket least t0 t1 (answers.Again at end) h = gave_more bucket least t0 t1 (answers.Again at end) h

  or_more : (bucket least t0 t1 : ℕ) (answer : PacketAnswer) (P Q : ℕ → Type 0) → ((x : ℕ) → P x → Q x) → GaveOr xs packet bucket least t0 t1 answer P → GaveOr ys packet bucket least t0 t1 answer Q
  or_more bucket least t0 t1 answer P Q f h = ⊎_elim
      (λ g. inl (gave_more bucket least t0 t1 answer g))
      (λ r. inr (r.0, r.1, r.2, searched_more bucket least t0 r.0 FoundNone r.3, f r.0 r.4))
      h

  pub stages_more : (shape : Shape) (seed t0 t1 : ℕ) (answer : PacketAnswer) → WentInStages xs shape seed packet t0 t1 answer → WentInStages ys shape seed packet t0 t1 answer
  stages_more shape seed t0 t1 answer h =
      let full : ℕ = packet_home shape seed packet in
      let exact : ℕ = listen_home shape seed packet.dst packet.dport packet.net in
      let any : ℕ = listen_home shape seed 0 packet.dport packet.net in
      or_more full 5 t0 t1 answer
      (λ x. GaveOr xs packet exact 3 x t1 answer (λ y. GaveLast xs packet any 1 y t1 answer))
      (λ x. GaveOr ys packet exact 3 x t1 answer (λ y. GaveLast ys packet any 1 y t1 answer))
      (λ x g. or_more exact 3 x t1 answer (λ y. GaveLast xs packet any 1 y t1 answer) (λ y. GaveLast ys packet any 1 y t1 answer) (λ y l. last_more any 1 y t1 answer l) g)
      h

-- One search

pub last_there : (m k : Sat) (s : Search) → searches_of k ≡ searches_of m ++ s ∷ [] → Among (searches_of k) s
last_there m k s e = subst (λ (l : List Search). Among l s) (sym e) (among_right s (searches_of m) (s ∷ []) (inl refl))

module _ (packet : Packet) (passes bucket least t0 t1 : ℕ) (m : Sat) (from to : ℕ) (k : Sat) (low : t0 ≤ from) (high : to ≤ t1) where
  seek_none : LookedAs bucket packet least passes m (words_end ends.None) from to k → SearchedIn (searches_of k) packet bucket least t0 t1 FoundNone
  seek_none h =
      let s : Search = record { bucket = bucket; key = packet; least = least; from = from; to = to; kind = 0; card = []; stops = h.0 } in
      record { search = s; there = last_there m k s (ap searches_of h.3); key = refl; bucket_is = refl; least_is = refl; begins = low; ends = high; ended = refl }

  seek_found : (held : Held) (best card : Card) → LookedAs bucket packet least passes m (words_end (ends.Found held best)) from to k → card_rank packet card ≡ card_rank packet best → SearchedIn (searches_of k) packet bucket least t0 t1 (FoundLike packet card)
  seek_found held best card h like =
      let s : Search = record { bucket = bucket; key = packet; least = least; from = from; to = to; kind = 1; card = words_of (packed best); stops = h.1 } in
      record { search = s; there = last_there m k s (ap searches_of h.6); key = refl; bucket_is = refl; least_is = refl; begins = low; ends = high; ended = (refl, sym like) }

  seek_again : (b : ℕ) (stop : LookStop) → LookedAs bucket packet least passes m (words_end (ends.Again b stop)) from to k → (b ≡ bucket) × SearchedIn (searches_of k) packet bucket least t0 t1 (StoppedAt (book_end stop))
  seek_again b stop h =
      let s : Search = record { bucket = bucket; key = packet; least = least; from = from; to = to; kind = 2; card = []; stops = h.1.0 ++ search_stop stop ∷ [] } in (
        h.0,
        record {
          search = s;
          there = last_there m k s (ap searches_of h.1.4);
          key = refl;
          bucket_is = refl;
          least_is = refl;
          begins = low;
          ends = high;
          ended = (refl, h.1.0, ap (λ x. h.1.0 ++ x ∷ []) (same_stop stop));
        },
      )

-- what is seen then
pub seen_one : (bucket least passes : ℕ) (packet : Packet) (m : Sat) (end : LookEnd) (from to : ℕ) (n : Sat) → LookedAs bucket packet least passes m (words_end end) from to n → n.0.seen ≡ to
seen_one bucket least passes packet m (ends.Found held card) from to n h = ap (λ (z : Sat). z.0.seen) h.6
seen_one bucket least passes packet m ends.None from to n h = ap (λ (z : Sat). z.0.seen) h.3
seen_one bucket least passes packet m (ends.Again b stop) from to n h = ap (λ (z : Sat). z.0.seen) h.1.4

-- The choice of a group

chosen_seen : (slots : ℕ) (packet : Packet) (m : Sat) (best : Card) (choice : Option Choice) (card : Card) (n : Sat) → ChosenBy slots packet m best choice card n → n.0.seen ≡ m.0.seen
chosen_seen slots packet m best None card n h = ap (λ (z : Sat). z.0.seen) h.1
chosen_seen slots packet m best (Some choice) card n h = ⊎_elim (λ a. ap (λ (z : Sat). z.0.seen) a.2) (⊎_elim (λ a. ap (λ (z : Sat). z.0.seen) a.2) (λ a. ap (λ (z : Sat). z.0.seen) a.1.1)) h

group_seen : (slots groups : ℕ) (packet : Packet) (hash : ℕ) (m : Sat) (best : Card) (p : GroupPasses) (card : Card) (n : Sat) (p' : GroupPasses) → ByGroup slots groups packet hash m best p card n p' → n.0.seen ≡ m.0.seen
group_seen slots groups packet hash m best p card n p' h = ⊎_elim (λ a. ap (λ (z : Sat). z.0.seen) a.2) (λ a. chosen_seen slots packet m best a.2.0 card n a.2.3) h

-- who is chosen is as good as the best
chosen_like : (slots : ℕ) (packet : Packet) (m : Sat) (best : Card) (choice : Option Choice) (card : Card) (n : Sat) → ChosenBy slots packet m best choice card n → card_rank packet card ≡ card_rank packet best
chosen_like slots packet m best None card n h = ap (card_rank packet) h.0
chosen_like slots packet m best (Some choice) card n h = ⊎_elim (λ a. ap (card_rank packet) a.1)
    (⊎_elim (λ a. ap (card_rank packet) a.1) (λ a. ⊎_elim (λ z. ap (card_rank packet) z.1 ∙ z.0.1) (λ z. ap (card_rank packet) z.1) a.1.3)) h

group_like : (slots groups : ℕ) (packet : Packet) (hash : ℕ) (m : Sat) (best : Card) (p : GroupPasses) (card : Card) (n : Sat) (p' : GroupPasses) → ByGroup slots groups packet hash m best p card n p' → card_rank packet card ≡ card_rank packet best
group_like slots groups packet hash m best p card n p' h = ⊎_elim (λ a. ap (card_rank packet) a.1) (λ a. chosen_like slots packet m best a.2.0 card n a.2.3) h

-- The lookup of a listener

module _ (layout : Layout) (packet : Packet) (passes : ℕ) where
  abbrev ByListeners : List Search → (t0 t1 : ℕ) → PacketAnswer → Type 0
  ByListeners searches t0 t1 answer =
      GaveOr searches packet (exact_home layout packet) 3 t0 t1 answer (λ y. GaveLast searches packet (any_home layout packet) 1 y t1 answer)

  one_later : (bucket least : ℕ) (m : Sat) (end : LookEnd) (from to : ℕ) (k : Sat) → LookedAs bucket packet least passes m (words_end end) from to k → (s : Search) → Among (searches_of m) s → Among (searches_of k) s
  one_later bucket least m end from to k h s a =
      let t = searched_one bucket least passes packet m end from to k h in
      subst (λ (l : List Search). Among l s) (sym t.1) (among_left s (searches_of m) (t.0 ∷ []) a)

  in_order_later : (m : Sat) (look : LookEnd) (from to : ℕ) (k : Sat) → InOrder layout packet passes m look from to k → (s : Search) → Among (searches_of m) s → Among (searches_of k) s
  in_order_later m look from to k h s a = ⊎_elim
      (λ z. one_later (exact_home layout packet) 3 m look from to k z.1 s a)
      (λ z. one_later (any_home layout packet) 1 z.2 look z.1 to k z.5 s (one_later (exact_home layout packet) 3 m ends.None from z.0 z.2 z.4 s a))
      h

  pub in_order_seen : (m : Sat) (look : LookEnd) (from to : ℕ) (k : Sat) → InOrder layout packet passes m look from to k → k.0.seen ≡ to
  in_order_seen m look from to k h = ⊎_elim
      (λ z. seen_one (exact_home layout packet) 3 passes packet m look from to k z.1)
      (λ z. seen_one (any_home layout packet) 1 passes packet z.2 look z.1 to k z.5)
      h

  module _ (m : Sat) (from to : ℕ) (k : Sat) (t0 t1 : ℕ) (low : t0 ≤ from) (high : to ≤ t1) where
    -- the first of the two had nothing, and then the second
    second : (look : LookEnd) (answer : PacketAnswer) (ended began : ℕ) (j : Sat) → ended ≤ began → LookedAs (exact_home layout packet) packet 3 passes m (words_end ends.None) from ended j
        → LookedAs (any_home layout packet) packet 1 passes j (words_end look) began to k → from ≤ ended → began ≤ to → GaveLast (searches_of k) packet (any_home layout packet) 1 ended t1 answer → ByListeners (searches_of k) t0 t1 answer
    second look answer ended began j le h i first late last = inr (
      ended,
      omega (arith, low, first),
      omega (arith, le, late, high),
      searched_more (searches_of j) (searches_of k) (one_later (any_home layout packet) 1 j look began to k i) packet (exact_home layout packet) 3 t0 ended FoundNone
          (seek_none packet passes (exact_home layout packet) 3 t0 ended m from ended j low (omega arith) h),
      last,
    )

    found_in_order : (held : Held) (best card : Card) → InOrder layout packet passes m (ends.Found held best) from to k → card_rank packet card ≡ card_rank packet best → ByListeners (searches_of k) t0 t1 (answers.Found card)
    found_in_order held best card h like = ⊎_elim
        (λ z. inl (seek_found packet passes (exact_home layout packet) 3 t0 t1 m from to k low high held best card z.1 like))
        (λ z. second (ends.Found held best) (answers.Found card) z.0 z.1 z.2 z.3 z.4 z.5 z.6 z.7
        (seek_found packet passes (any_home layout packet) 1 z.0 t1 z.2 z.1 to k z.3 high held best card z.5 like))
        h

    none_in_order : InOrder layout packet passes m ends.None from to k → ByListeners (searches_of k) t0 t1 answers.None
    none_in_order h = ⊎_elim
        (λ z. absurd z.0)
        (λ z. second ends.None answers.None z.0 z.1 z.2 z.3 z.4 z.5 z.6 z.7 (seek_none packet passes (any_home layout packet) 1 z.0 t1 z.2 z.1 to k z.3 high z.5))
        h

    again_in_order : (b : ℕ) (stop : LookStop) → InOrder layout packet passes m (ends.Again b stop) from to k → ByListeners (searches_of k) t0 t1 (answers.Again b (book_end stop))
    again_in_order b stop h = ⊎_elim
        (λ z. inl (seek_again packet passes (exact_home layout packet) 3 t0 t1 m from to k low high b stop z.1))
        (λ z. second (ends.Again b stop) (answers.Again b (book_end stop)) z.0 z.1 z.2 z.3 z.4 z.5 z.6 z.7 (seek_again packet passes (any_home layout packet) 1 z.0 t1 z.2 z.1 to k z.3 high b stop z.5))
        h

  -- what the lookup of a listener ends with
  module _ (slots groups : ℕ) (m : Sat) (from to : ℕ) (k : Sat) (t0 : ℕ) (low : t0 ≤ from) (c : Whole) (n : Sat) where
    ends_by : (p p' : GroupPasses) (look : LookEnd) (end : PacketAnswer) → AfterListener slots groups layout.seed packet k p look end p' c n → (k.0.seen ≤ c.to) × (searches_of n ≡ searches_of k)
    ends_by p p' (ends.Found held best) end a =
        let put : a.2.0.seen ≡ a.1.0.seen = ap (λ (z : Sat). z.0.seen) a.5 in
        let chosen : a.1.0.seen ≡ k.0.seen = group_seen slots groups packet _ k best p a.0 a.1 p' a.4 in
        (omega (arith, a.7, put, chosen), ap searches_of a.6 ∙ ap searches_of a.5 ∙ group_none slots groups packet _ k best p a.0 a.1 p' a.4)
    ends_by p p' ends.None end a = (a.3, ap searches_of a.2)
    ends_by p p' (ends.Again bucket stop) end a = (a.3, ap searches_of a.2)

    then_ends : (end answer : PacketAnswer) → end ≡ answer → searches_of n ≡ searches_of k → ByListeners (searches_of k) t0 c.to answer → ByListeners (searches_of n) t0 c.to end
    then_ends end answer is same h = subst (ByListeners (searches_of n) t0 c.to) (sym is) (subst (λ (l : List Search). ByListeners l t0 c.to answer) (sym same) h)

    after_listener : (p p' : GroupPasses) (look : LookEnd) (end : PacketAnswer) → InOrder layout packet passes m look from to k → AfterListener slots groups layout.seed packet k p look end p' c n → ByListeners (searches_of n) t0 c.to end
    after_listener p p' (ends.Found held best) end o a =
        let e = ends_by p p' (ends.Found held best) end a in
        then_ends end (answers.Found a.0) a.3 e.1
        (found_in_order m from to k t0 c.to low (omega (arith, e.0, in_order_seen m (ends.Found held best) from to k o)) held best a.0 o (group_like slots groups packet _ k best p a.0 a.1 p' a.4))
    after_listener p p' ends.None end o a =
        let e = ends_by p p' ends.None end a in
        then_ends end answers.None a.0 e.1 (none_in_order m from to k t0 c.to low (omega (arith, e.0, in_order_seen m ends.None from to k o)) o)
    after_listener p p' (ends.Again bucket stop) end o a =
        let e = ends_by p p' (ends.Again bucket stop) end a in
        then_ends end (answers.Again bucket (book_end stop)) a.0 e.1
        (again_in_order m from to k t0 c.to low (omega (arith, e.0, in_order_seen m (ends.Again bucket stop) from to k o)) bucket stop o)

  -- The whole lookup

  abbrev Went : List Search → (t0 t1 : ℕ) → PacketAnswer → Type 0
  Went searches t0 t1 answer = WentInStages searches layout.shape layout.seed packet t0 t1 answer

  after_full : (slots groups : ℕ) (m : Sat) (p p' : GroupPasses) (look : LookEnd) (end : PacketAnswer) (from to : ℕ) (k : Sat) (c : Whole) (n : Sat) → from ≤ to
      → LookedAs (full_home layout packet) packet 5 passes m (words_end look) from to k → AfterFull slots groups layout packet passes k p look end p' c n → Went (searches_of n) from c.to end
  after_full slots groups m p p' (ends.Found held card) end from to k c n le h a =
      let same : searches_of n ≡ searches_of k = ap searches_of a.4 ∙ ap searches_of a.3 in
      let put : a.0.0.seen ≡ k.0.seen = ap (λ (z : Sat). z.0.seen) a.3 in
      let high : to ≤ c.to = omega (arith, a.5, put, seen_one (full_home layout packet) 5 passes packet m (ends.Found held card) from to k h) in
      subst (Went (searches_of n) from c.to) (sym a.1)
      (subst (λ (l : List Search). Went l from c.to (answers.Found card)) (sym same) (inl (seek_found packet passes (full_home layout packet) 5 from c.to m from to k (omega arith) high held card card h refl)))
  after_full slots groups m p p' ends.None end from to k c n le h a =
      let e = ends_by slots groups k a.1 a.2 a.3 to (omega (arith, a.7, seen_one (full_home layout packet) 5 passes packet m ends.None from to k h)) c n p p' a.0 end a.5 in
      let on : (s : Search) → Among (searches_of k) s → Among (searches_of n) s = λ s there. subst (λ (l : List Search). Among l s) (sym e.1) (in_order_later k a.0 a.1 a.2 a.3 a.4 s there) in
      inr (
        to,
        le,
        omega (arith, e.0, a.6, seen_one (full_home layout packet) 5 passes packet m ends.None from to k h),
        searched_more (searches_of k) (searches_of n) on packet (full_home layout packet) 5 from to FoundNone (seek_none packet passes (full_home layout packet) 5 from to m from to k (omega arith) (omega arith) h),
        after_listener slots groups k a.1 a.2 a.3 to (omega (arith, a.7, seen_one (full_home layout packet) 5 passes packet m ends.None from to k h)) c n p p' a.0 end a.4 a.5,
      )
  after_full slots groups m p p' (ends.Again bucket stop) end from to k c n le h a =
      let high : to ≤ c.to = omega (arith, a.3, seen_one (full_home layout packet) 5 passes packet m (ends.Again bucket stop) from to k h) in
      subst (Went (searches_of n) from c.to) (sym a.0)
      (subst (λ (l : List Search). Went l from c.to (answers.Again bucket (book_end stop))) (sym (ap searches_of a.2)) (inl (seek_again packet passes (full_home layout packet) 5 from c.to m from to k (omega arith) high bucket stop h)))

  pub went_in_stages : (slots groups : ℕ) (m : Sat) (p p' : GroupPasses) (end : PacketAnswer) (from : ℕ) (c : Whole) (n : Sat) → ByOrder slots groups layout packet passes m p end p' from c n → Went (searches_of n) from c.to end
  went_in_stages slots groups m p p' end from c n h = after_full slots groups m p p' h.0 end from h.1 h.2 c n h.6 h.3 h.4
