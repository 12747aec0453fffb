-- By which searches a lookup went, and after how many passes it was given up.
use Rattle.std.proofs.Common.{◌≡◌, ℕ, List, [], ◌∷◌, ◌++◌, length-append, Option, Some, None, refl, sym, ap, ◌∙◌, subst, ⊎_elim}
use Rattle.std.proofs.lemmas.List.{append_assoc, append-nil}
use Rattle.sock_card.specs.declared.card.Card.{Card}
use Rattle.sock_card.specs.declared.card.Packet.{Packet}
use Rattle.chain_book.specs.declared.book.PacketAnswer.{PacketAnswer}
use Rattle.chain_book.specs.declared.book.PacketAnswer.TheVariants as answers
use Rattle.null_reader.specs.Looked.{LookedAs, words_end, stop_of as search_stop}
use Rattle.null_reader.specs.declared.answers.LookEnd.{LookEnd}
use Rattle.null_reader.specs.declared.answers.LookEnd.TheVariants as ends
use Rattle.null_reader.specs.declared.answers.PassEnd.{PassEnd as LookStop}
use Rattle.null_reader.specs.declared.answers.PassEnd.TheVariants as stops
use Rattle.reuseport_group.specs.declared.pass.GroupPasses.{GroupPasses}
use Rattle.reuseport_group.specs.declared.choice.Choice.{Choice}
use Rattle.demux.specs.Chosen.{ByGroup, ChosenBy}
use Rattle.demux.specs.Concludes.{AfterListener, AfterFull, ByOrder, book_end}
use Rattle.listeners.specs.Finds.{InOrder}
use Rattle.established.specs.Homes.{full_home, exact_home, any_home}
use Rattle.table_rule.specs.Plays.{Sat}
use Rattle.table_rule.specs.Wholes.{stop_of}
use Rattle.table_rule.specs.declared.view.Layout.{Layout}
use Rattle.table_rule.specs.declared.view.Receipt.{Receipt as Search}
use Rattle.table_rule.specs.declared.view.Whole.{Whole}
use Rattle.race_run.specs.Searches.{GaveUpAfter, AnswersAfter}

abbrev pub searches_of : Sat → List Search
searches_of m = m.0.read.receipts

pub same_stop : (stop : LookStop) → search_stop stop ≡ stop_of (book_end stop)
same_stop (stops.Foreign bucket) = refl
same_stop (stops.Dead slot) = refl
same_stop (stops.Changed slot) = refl
same_stop (stops.Long links) = refl

-- one search
pub searched_one : (bucket least passes : ℕ) (packet : Packet) (m : Sat) (end : LookEnd) (from to : ℕ) (n : Sat) → LookedAs bucket packet least passes m (words_end end) from to n → (s : Search) × (searches_of n ≡ searches_of m ++ s ∷ [])
searched_one bucket least passes packet m (ends.Found held card) from to n h = (_, ap searches_of h.6)
searched_one bucket least passes packet m ends.None from to n h = (_, ap searches_of h.3)
searched_one bucket least passes packet m (ends.Again b stop) from to n h = (_, ap searches_of h.1.4)

-- no search
chosen_none : (slots : ℕ) (packet : Packet) (m : Sat) (best : Card) (choice : Option Choice) (card : Card) (n : Sat) → ChosenBy slots packet m best choice card n → searches_of n ≡ searches_of m
chosen_none slots packet m best None card n h = ap searches_of h.1
chosen_none slots packet m best (Some choice) card n h = ⊎_elim (λ a. ap searches_of a.2) (⊎_elim (λ a. ap searches_of a.2) (λ a. ap searches_of a.1.1)) h

pub group_none : (slots groups : ℕ) (packet : Packet) (hash : ℕ) (m : Sat) (best : Card) (p : GroupPasses) (card : Card) (n : Sat) (p' : GroupPasses) → ByGroup slots groups packet hash m best p card n p' → searches_of n ≡ searches_of m
group_none slots groups packet hash m best p card n p' h = ⊎_elim (λ a. ap searches_of a.2) (λ a. chosen_none slots packet m best a.2.0 card n a.2.3) h

module _ (layout : Layout) (packet : Packet) (passes : ℕ) (first : Sat) where
  -- since the lookup began
  abbrev Went : Sat → List Search → Type 0
  Went n searches = searches_of n ≡ searches_of first ++ searches

  -- a lookup that ends there
  abbrev Ends : PacketAnswer → Sat → Type 0
  Ends end n = (searches : List Search) × Went n searches × AnswersAfter passes searches packet end

  one_more : (xs : List Search) (m n : Sat) (s : Search) → Went m xs → searches_of n ≡ searches_of m ++ s ∷ [] → Went n (xs ++ s ∷ [])
  one_more xs m n s h e = e ∙ ap (λ (l : List Search). l ++ s ∷ []) h ∙ append_assoc (searches_of first) xs (s ∷ [])

  found : (card : Card) (end : PacketAnswer) (n : Sat) (searches : List Search) → Went n searches → end ≡ answers.Found card → Ends end n
  found card end n searches h e = (searches, h, subst (AnswersAfter passes searches packet) (sym e) tt)

  none : (end : PacketAnswer) (n : Sat) (searches : List Search) → Went n searches → end ≡ answers.None → Ends end n
  none end n searches h e = (searches, h, subst (AnswersAfter passes searches packet) (sym e) tt)

  -- a search that was given up, and what is left of it
  given_up : (xs : List Search) (bucket least : ℕ) (m k n : Sat) (b : ℕ) (stop : LookStop) (from to : ℕ) (end : PacketAnswer) → Went m xs → LookedAs bucket packet least passes m (words_end (ends.Again b stop)) from to k
      → searches_of n ≡ searches_of k → end ≡ answers.Again b (book_end stop) → Ends end n
  given_up xs bucket least m k n b stop from to end before h same e =
      let s : Search = record { bucket = bucket; key = packet; least = least; from = from; to = to; kind = 2; card = []; stops = h.1.0 ++ search_stop stop ∷ [] } in
      let gone : GaveUpAfter passes (xs ++ s ∷ []) packet b (book_end stop) = record {
        earlier = xs;
        last = s;
        searches_are = refl;
        packet_is = refl;
        bucket_is = sym h.0;
        stopped = refl;
        count = length-append h.1.0 (search_stop stop ∷ []) ∙ h.1.1;
        front = h.1.0;
        stops_are = ap (λ x. h.1.0 ++ x ∷ []) (same_stop stop);
      } in
      (xs ++ s ∷ [], same ∙ one_more xs m k s before (ap searches_of h.1.4), subst (AnswersAfter passes (xs ++ s ∷ []) packet) (sym e) gone)

  in_order : (xs : List Search) (m : Sat) (look : LookEnd) (from to : ℕ) (k : Sat) → Went m xs → InOrder layout packet passes m look from to k → (searches : List Search) × Went k searches
  in_order xs m look from to k before h = ⊎_elim
      (λ a. let s = searched_one (exact_home layout packet) 3 passes packet m look from to k a.1 in (xs ++ s.0 ∷ [], one_more xs m k s.0 before s.1))
      (λ a. let s = searched_one (exact_home layout packet) 3 passes packet m ends.None from a.0 a.2 a.4 in
      let t = searched_one (any_home layout packet) 1 passes packet a.2 look a.1 to k a.5 in
      ((xs ++ s.0 ∷ []) ++ t.0 ∷ [], one_more (xs ++ s.0 ∷ []) a.2 k t.0 (one_more xs m a.2 s.0 before s.1) t.1))
      h

  after_listener : (slots groups : ℕ) (xs : List Search) (m : Sat) (p p' : GroupPasses) (look : LookEnd) (end : PacketAnswer) (from to : ℕ) (k : Sat) (c : Whole) (n : Sat) → Went m xs
      → InOrder layout packet passes m look from to k → AfterListener slots groups layout.seed packet k p look end p' c n → Ends end n
  after_listener slots groups xs m p p' (ends.Found held best) end from to k c n before o a =
      let s = in_order xs m (ends.Found held best) from to k before o in
      found a.0 end n s.0 (ap searches_of a.6 ∙ ap searches_of a.5 ∙ group_none slots groups packet _ k best p a.0 a.1 p' a.4 ∙ s.1) a.3
  after_listener slots groups xs m p p' ends.None end from to k c n before o a =
      let s = in_order xs m ends.None from to k before o in
      none end n s.0 (ap searches_of a.2 ∙ s.1) a.0
  after_listener slots groups xs m p p' (ends.Again bucket stop) end from to k c n before o a = ⊎_elim
      (λ z. given_up xs (exact_home layout packet) 3 m k n bucket stop from to end before z.1 (ap searches_of a.2) a.0)
      (λ z. let s = searched_one (exact_home layout packet) 3 passes packet m ends.None from z.0 z.2 z.4 in
      given_up (xs ++ s.0 ∷ []) (any_home layout packet) 1 z.2 k n bucket stop z.1 to end (one_more xs m z.2 s.0 before s.1) z.5 (ap searches_of a.2) a.0)
      o

  after_full : (slots groups : ℕ) (p p' : GroupPasses) (look : LookEnd) (end : PacketAnswer) (from to : ℕ) (k : Sat) (c : Whole) (n : Sat) → LookedAs (full_home layout packet) packet 5 passes first (words_end look) from to k
      → AfterFull slots groups layout packet passes k p look end p' c n → Ends end n
  after_full slots groups p p' (ends.Found held card) end from to k c n h a =
      let s = searched_one (full_home layout packet) 5 passes packet first (ends.Found held card) from to k h in
      found card end n (s.0 ∷ []) (ap searches_of a.4 ∙ ap searches_of a.3 ∙ s.1) a.1
  after_full slots groups p p' ends.None end from to k c n h a =
      let s = searched_one (full_home layout packet) 5 passes packet first ends.None from to k h in
      after_listener slots groups (s.0 ∷ []) k p p' a.0 end a.1 a.2 a.3 c n s.1 a.4 a.5
  after_full slots groups p p' (ends.Again bucket stop) end from to k c n h a =
      given_up [] (full_home layout packet) 5 first k n bucket stop from to end (sym (append-nil (searches_of first))) h (ap searches_of a.2) a.0

  -- the whole lookup
  pub went : (slots groups : ℕ) (p p' : GroupPasses) (end : PacketAnswer) (from : ℕ) (c : Whole) (n : Sat) → ByOrder slots groups layout packet passes first p end p' from c n → Ends end n
  went slots groups p p' end from c n h = after_full slots groups p p' h.0 end from h.1 h.2 c n h.3 h.4
