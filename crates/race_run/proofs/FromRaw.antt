-- What a pass that has all parts knows of the chain table, said of the book that its changes make.
use Rattle.std.proofs.Common.{◌≡◌, ◌≢◌, ℕ, zero, suc, ◌+◌, ◌<◌, ◌≤◌, ◌==◌, ◌&&◌, nat_lt, IsTrue, Bool, true, false, cond, List, [], ◌∷◌, inl, inr, ⊎_elim, map, refl, sym, ap, ◌∙◌, subst, arith, eq-eqb, ne_eqb, Option, None, Some}
use Rattle.std.proofs.lemmas.Bool.{true≢false, ltb-true, lt-ltb, eqb-true}
use mathlib.Core.Logic.{dite}
use native.Mathlib.Decide.{ℕ_discrete, dec_le}
use mathlib.Core.Option.{some, some-injective, some-ne-none}
use lib.ListN.{get_elem?}
use Rattle.list_words.specs.Lists.{Each, total}
use Rattle.list_words.proofs.TotalLemmas.{total-append}
use Rattle.turn_table.specs.Journals.{numbers_below}
use Rattle.chain_book.specs.declared.book.Act.TheVariants as acts
use Rattle.chain_book.specs.declared.book.Change.{Change}
use Rattle.chain_book.specs.declared.shape.Shape.{Shape}
use Rattle.chain_book.specs.Homes.{home}
use Rattle.flat_list.specs.declared.header.Header.{Header}
use Rattle.table_rule.specs.declared.view.View.{View}
use Rattle.table_rule.specs.declared.view.Change.{Change as Raw}
use Rattle.table_rule.specs.declared.view.Sight.{Sight}
use Rattle.table_rule.specs.declared.view.Seen.{Seen}
use Rattle.table_rule.specs.Alone.{mine}
use Rattle.table_rule.specs.Beyond.{Unlike, Present, IsThere, SightTrue, IsCardWords}
use Rattle.table_rule.specs.Book.{Part, InBook, Serial, Separate, below}
use Rattle.table_rule.specs.Book as raw
use Rattle.table_rule.specs.Rule.{book_part}
use Rattle.table_rule.specs.Sole.{IsCounted}
use Rattle.table_rule.specs.Explained as lookups
use Rattle.table_rule.specs.ReadersOk.{rank_of}
use Rattle.table_rule.specs.Wholes.{whole_of, stop_of}
use Rattle.table_rule.specs.Words.{words_of}
use Rattle.table_rule.specs.declared.view.Receipt.{Receipt as Told}
use Rattle.table_rule.specs.declared.view.Whole.{Whole}
use Rattle.sock_card.specs.declared.card.Packet.{Packet}
use Rattle.sock_card.specs.Rank.{rank}
use Rattle.sock_card.specs.Words.{packed}
use Rattle.sock_card.proofs.Most.{two_words}
use Rattle.chain_book.specs.declared.book.PassEnd.{PassEnd}
use Rattle.chain_book.specs.declared.book.PassEnd.TheVariants as stops
use Rattle.chain_book.specs.declared.book.PacketAnswer.{PacketAnswer}
use Rattle.chain_book.specs.declared.book.PacketAnswer.TheVariants as answers
use Rattle.chain_book.specs.declared.book.Receipt.{Receipt}
use Rattle.race_book.specs.Explained.{NoneFrom, MayAnswer, MayEnd, MeetsSome, IsHashInto, IsOfSlot, IsExplained, at_home}
use Rattle.race_book.specs.Among.{Among}
use Rattle.race_book.specs.Laws.{BeginApart, EndAfter, EndInBucket, NoTwinsStand}
use Rattle.race_book.specs.Listed.{stamps_of, StampsDiffer, FitSlots}
use Rattle.race_book.specs.Lives.{IsLife, IsHash, Ends, Throughout, Stood, Leaves, comes_after, is_unhash, ending}
use Rattle.race_book.specs.Serial.{IsSerial, EndsOne, AreApart, AreHome, EachEndsOne, SlotsFollow, HasNoTwins}
use Rattle.race_book.proofs.Endings.{each_of, one_beginning, to_each, ending_ends, no_ending}
use Rattle.race_book.proofs.Listing.{begin_apart}
use Rattle.race_book.proofs.Checks.{unhash_act}
use Rattle.race_book.proofs.Twins.{one_home, replay_has_none}
use Rattle.race_record.specs.Stages.{LedAstray, NoneStayed, CanStop, IsOfItsTime}
use Rattle.sock_ops.specs.Sides.{act_of, change_of}
use Rattle.sock_ops.specs.Made.{IsHome, IsHomeIfHash, HasWords}
use Rattle.race_run.specs.Lookers.{IsTold, whole_for}
use Rattle.race_run.specs.Races.{IsWhole, book_of}
use Rattle.race_run.specs.Sections.{layout_in}
use Rattle.race_run.proofs.CardsTold.{show_both}
use Rattle.race_run.proofs.Weights.{weigh_map}
use Rattle.race_record.proofs.Drawn.{weigh, stamps_weigh}
use Rattle.race_record.proofs.Weights.{is, all_differ, once}

act_one : (k : ℕ) → k ≡ 1 → act_of k ≡ acts.Hash
act_one k e = ap (λ b. cond b acts.Hash acts.Unhash) (eq-eqb k 1 e)

act_zero : (k : ℕ) → k ≡ 0 → act_of k ≡ acts.Unhash
act_zero k e = ap (λ b. cond b acts.Hash acts.Unhash) (ne_eqb k 1 (λ z. omega (arith, z, e)))

unlike_acts : acts.Hash ≢ acts.Unhash
unlike_acts e = true≢false (sym (ap is_unhash e))

hash_kind : (k : ℕ) → act_of k ≡ acts.Hash → k ≡ 1
hash_kind k e = dite (ℕ_discrete k 1) (λ z. z) (λ ne. absurd (unlike_acts (sym e ∙ ap (λ b. cond b acts.Hash acts.Unhash) (ne_eqb k 1 ne))))

unhash_kind : (k : ℕ) → k < 2 → act_of k ≡ acts.Unhash → k ≡ 0
unhash_kind k few e = dite (ℕ_discrete k 1) (λ z. absurd (unlike_acts (sym (act_one k z) ∙ e))) (λ ne. omega (arith, few, ne))

all_three : (a b c : Bool) → (a && b && c) ≡ true → (a ≡ true) × (b ≡ true) × (c ≡ true)
all_three true true true e = (refl, refl, refl)
all_three true true false e = absurd (true≢false (sym e))
all_three true false true e = absurd (true≢false (sym e))
all_three true false false e = absurd (true≢false (sym e))
all_three false true true e = absurd (true≢false (sym e))
all_three false true false e = absurd (true≢false (sym e))
all_three false false true e = absurd (true≢false (sym e))
all_three false false false e = absurd (true≢false (sym e))

make_three : (a b c : Bool) → a ≡ true → b ≡ true → c ≡ true → (a && b && c) ≡ true
make_three true true true p q r = refl
make_three false b c p q r = absurd (true≢false (sym p))
make_three true false c p q r = absurd (true≢false (sym q))
make_three true true false p q r = absurd (true≢false (sym r))

among_map : (l : List Raw) (n : ℕ) (c : Raw) → get_elem? l n ≡ some c → Among (map change_of l) (change_of c)
among_map [] n c e = absurd (some-ne-none c (sym e))
among_map (x ∷ xs) zero c e = inl (ap change_of (sym (some-injective x c e)))
among_map (x ∷ xs) (suc n) c e = inr (among_map xs n c e)

pub record FoundIn (l : List Raw) (d : Change) : Type 0 where
  pub nth : ℕ
  pub change : Raw
  pub there : get_elem? l nth ≡ some change
  pub is : d ≡ change_of change

found_in : (l : List Raw) (d : Change) → Among (map change_of l) d → FoundIn l d
found_in [] d a = absurd a
found_in (x ∷ xs) d a = ⊎_elim
    (λ e. record { nth = 0; change = x; there = refl; is = e })
    (λ b. let f = found_in xs d b in record { nth = suc f.nth; change = f.change; there = f.there; is = f.is }) a

pub each_at : {A : Type 0} (P : A → Type 0) (l : List A) (n : ℕ) (a : A) → get_elem? l n ≡ some a → Each P l → P a
each_at P [] n a e h = absurd (some-ne-none a (sym e))
each_at P (x ∷ xs) zero a e h = subst P (some-injective x a e) h.0
each_at P (x ∷ xs) (suc n) a e h = each_at P xs n a e h.1

pub place_of : {A : Type 0} (l : List A) (a : A) → Among l a → (n : ℕ) × (get_elem? l n ≡ some a)
place_of [] a h = absurd h
place_of (x ∷ xs) a h = ⊎_elim (λ e. (0, ap some (sym e))) (λ b. let f = place_of xs a b in (suc f.0, f.1)) h

-- the numbers below the clock

below_weighs : (f : ℕ → ℕ) (n : ℕ) → total f (numbers_below n) ≡ below f n
below_weighs f zero = refl
below_weighs f (suc n) = omega (arith, total-append f (numbers_below n) (n ∷ []), below_weighs f n)

-- each hash stands at home, and has the words of a card
pub record AreGood (header : Header) (v : View) : Type 0 where
  pub homes : Each (IsHomeIfHash (layout_in header)) (book_of v)
  pub words : Each HasWords v.book.closed

module _ (header : Header) (v : View) (clock : ℕ) (w : IsWhole v clock) (good : AreGood header v) where
  abbrev pub book : List Change
  book = book_of v

  abbrev pub shape : Shape
  shape = header.shape

  all_of : Serial (mine v) × Unlike (mine v) × ((n : ℕ) (s : Sight) → get_elem? v.sights n ≡ some s → SightTrue (mine v) s)
  all_of = let b = w.book w.parts w.opened in (b.0, b.1, b.2)

  counted : IsCounted v clock
  counted = let b = w.book w.parts w.opened in b.8

  serial_raw : Serial (mine v)
  serial_raw = all_of.0

  into : (n : ℕ) (c : Raw) → get_elem? v.book.closed n ≡ some c → InBook (mine v) c
  into n c e = record { who = 0; view = book_part v; has = refl; nth = n; is = inl e }

  only_part : (k : ℕ) (p : Part) → get_elem? (mine v) k ≡ some p → book_part v ≡ p
  only_part zero p e = some-injective (book_part v) p e
  only_part (suc k) p e = absurd (some-ne-none p (sym e))

  back : (c : Raw) → InBook (mine v) c → (n : ℕ) × (get_elem? v.book.closed n ≡ some c)
  back c h = let is = only_part h.who h.view h.has in
      ⊎_elim (λ z. (h.nth, ap (λ (p : Part). get_elem? p.book.closed h.nth) is ∙ z))
      (λ z. absurd (some-ne-none c (sym (ap (λ (l : List Raw). get_elem? l h.nth) (sym w.opened) ∙ (ap (λ (p : Part). get_elem? p.book.opened h.nth) is ∙ z))))) h.is

  kind_of : (c : Raw) → InBook (mine v) c → c.kind < 2
  kind_of c h = let b = back c h in (counted.closed b.0 c b.1).2

  order_of : (c : Raw) → InBook (mine v) c → c.begins < c.ends
  order_of c h = let b = back c h in (counted.closed b.0 c b.1).0

  card_of : (c : Raw) → InBook (mine v) c → c.kind ≡ 1 → IsCardWords c.card
  card_of c h = let b = back c h in each_at HasWords v.book.closed b.0 c b.1 good.words

  pub among : (c : Raw) → InBook (mine v) c → Among book (change_of c)
  among c h = let b = back c h in among_map v.book.closed b.0 c b.1

  pub record RawOf (d : Change) : Type 0 where
    pub change : Raw
    pub there : InBook (mine v) change
    pub is : d ≡ change_of change

  pub raw_of : (d : Change) → Among book d → RawOf d
  raw_of d a = let f = found_in v.book.closed d a in record { change = f.change; there = into f.nth f.change f.there; is = f.is }

  pub raw_hash : (d : Change) (r : RawOf d) → IsHash d → r.change.kind ≡ 1
  raw_hash d r h = hash_kind r.change.kind (ap (λ (c : Change). c.act) (sym r.is) ∙ h)

  raw_unhash : (d : Change) (r : RawOf d) → d.act ≡ acts.Unhash → r.change.kind ≡ 0
  raw_unhash d r h = unhash_kind r.change.kind (kind_of r.change r.there) (ap (λ (c : Change). c.act) (sym r.is) ∙ h)

  after_raw : (h u : Raw) → IsTrue (comes_after (change_of h) (change_of u)) → (act_of u.kind ≡ acts.Unhash) × (u.slot ≡ h.slot) × (h.ends < u.begins)
  after_raw h u t = let p = all_three (is_unhash (act_of u.kind)) (u.slot == h.slot) (nat_lt h.ends u.begins) t in
      (unhash_act (act_of u.kind) p.0, eqb-true u.slot h.slot p.1, ltb-true h.ends u.begins p.2)

  raw_after : (h u : Raw) → u.kind ≡ 0 → u.slot ≡ h.slot → h.ends < u.begins → IsTrue (comes_after (change_of h) (change_of u))
  raw_after h u k s l = make_three (is_unhash (act_of u.kind)) (u.slot == h.slot) (nat_lt h.ends u.begins) (ap is_unhash (act_zero u.kind k)) (eq-eqb u.slot h.slot s) (lt-ltb h.ends u.begins l)

  -- an ending of the book is one of the changes, and the other way round
  pub ends_raw : (h u : Raw) → InBook (mine v) h → InBook (mine v) u → h.kind ≡ 1 → Ends (Among book) (change_of h) (change_of u) → raw.Ends (mine v) u h
  ends_raw h u bh bu k e = let a = after_raw h u e.after in record {
    hash = bh;
    unhash = bu;
    is-hash = k;
    is-unhash = unhash_kind u.kind (kind_of u bu) a.0;
    slot = a.1;
    after = a.2;
    first = λ x bx kx sx ax. e.first (change_of x) (among x bx) (raw_after h x kx sx ax);
  }

  pub ends_book : (h u : Raw) → raw.Ends (mine v) u h → Ends (Among book) (change_of h) (change_of u)
  ends_book h u e = record {
    there = among u e.unhash;
    after = raw_after h u e.is-unhash e.slot e.after;
    first = λ d a t. let r = raw_of d a in
        let t' = subst (λ (c : Change). IsTrue (comes_after (change_of h) c)) r.is t in
        let p = after_raw h r.change t' in
        let f = e.first r.change r.there (unhash_kind r.change.kind (kind_of r.change r.there) p.0) p.1 p.2 in
        omega (arith, f, ap (λ (c : Change). c.begin) r.is);
  }

  pub life_of : (h : Raw) → InBook (mine v) h → h.kind ≡ 1 → IsLife (Among book) (change_of h)
  life_of h b k = record { there = among h b; hash = act_one h.kind k }

  -- Numbers

  pub stamps : (f : ℕ → ℕ) → total (weigh f) book + total f v.book.lost ≡ total f (numbers_below clock)
  stamps f =
      let s = counted.stamps f in
      let b = weigh_map (weigh f) change_of v.book.closed in
      let o : total (λ (c : Raw). f c.begins) v.book.opened ≡ 0 = ap (total (λ (c : Raw). f c.begins)) w.opened in
      omega (arith, s, b, o, below_weighs f clock)

  differ : StampsDiffer book
  differ = all_differ (stamps_of book) (λ n. omega (arith, stamps (is n), stamps_weigh (is n) book, below_weighs (is n) clock, once n clock))

  begin : BeginApart book
  begin = begin_apart book differ

  pub end_after : EndAfter book
  end_after c a = let r = raw_of c a in omega (arith, order_of r.change r.there, ap (λ (x : Change). x.begin) r.is, ap (λ (x : Change). x.end) r.is)

  -- Changes

  apart : AreApart (Among book)
  apart c d ac ad same ne =
      let r = raw_of c ac in
      let s = raw_of d ad in
      let cb = ap (λ (x : Change). x.begin) r.is in
      let ce = ap (λ (x : Change). x.end) r.is in
      let db = ap (λ (x : Change). x.begin) s.is in
      let de = ap (λ (x : Change). x.end) s.is in
      let z : Separate r.change s.change = serial_raw.apart r.change s.change r.there s.there (ap (λ (x : Change). x.bucket) (sym r.is) ∙ same ∙ ap (λ (x : Change). x.bucket) s.is) in
      ⊎_elim (λ e. absurd (ne (cb ∙ e ∙ sym db))) (λ y. ⊎_elim (λ l. inl (omega (arith, l, ce, db))) (λ l. inr (omega (arith, l, de, cb))) y) z

  -- each stands at home, in one of the slots
  hash_home : (h : Raw) → InBook (mine v) h → h.kind ≡ 1 → IsHome (layout_in header) (change_of h)
  hash_home h b k = each_of (IsHomeIfHash (layout_in header)) book good.homes (change_of h) (among h b) (act_one h.kind k)

  unhash_home : (u : Raw) → InBook (mine v) u → u.kind ≡ 0 → IsHome (layout_in header) (change_of u)
  unhash_home u b k =
      let t = serial_raw.one u b k in
      let h = t.0 in
      let e = t.1 in
      let at = hash_home h e.hash e.is-hash in
      record {
        bucket = t.2 ∙ at.bucket ∙ ap (λ ws. home shape header.seed (Rattle.table_rule.specs.Words.card_from ws)) (sym t.3);
        slot = omega (arith, e.slot, at.slot);
      }

  raw_home : (c : Raw) → InBook (mine v) c → IsHome (layout_in header) (change_of c)
  raw_home c b = dite (ℕ_discrete c.kind 1) (hash_home c b) (λ ne. unhash_home c b (omega (arith, kind_of c b, ne)))

  stands_home : (c : Change) → Among book c → IsHome (layout_in header) c
  stands_home c a = let r = raw_of c a in subst (IsHome (layout_in header)) (sym r.is) (raw_home r.change r.there)

  homes : AreHome (Among book) shape header.seed
  homes c a = (stands_home c a).bucket

  pub fits : FitSlots shape.slots book
  fits = to_each (λ (c : Change). c.slot < shape.slots) book (λ c a. (stands_home c a).slot)

  -- Endings

  ends_one : (u : Raw) → InBook (mine v) u → u.kind ≡ 0 → EndsOne (Among book) (change_of u)
  ends_one u b k = let t = serial_raw.one u b k in let h = t.0 in let e = t.1 in record {
    life = change_of h;
    is = life_of h e.hash e.is-hash;
    ends = ends_book h u e;
    bucket = t.2;
    card = ap Rattle.table_rule.specs.Words.card_from t.3;
    only = λ g is f. let r = raw_of g is.there in
        let f' = subst (λ (x : Change). Ends (Among book) x (change_of u)) r.is f in
        let q = ends_raw r.change u r.there b (raw_hash g r is.hash) f' in
        ap (λ (x : Change). x.begin) r.is ∙ ap (λ (x : Raw). x.begins) (serial_raw.only u r.change h q e);
  }

  each_ends : EachEndsOne (Among book)
  each_ends u a act = let r = raw_of u a in subst (EndsOne (Among book)) (sym r.is) (ends_one r.change r.there (raw_unhash u r act))

  leaves : (h : Raw) (d : Change) (t : ℕ) → d ≡ change_of h → (u : Raw) → raw.Ends (mine v) u h → u.begins < t → Leaves (Among book) d t
  leaves h d t is u e before = record { unhash = change_of u; ends = subst (λ (x : Change). Ends (Among book) x (change_of u)) (sym is) (ends_book h u e); before = before }

  slots_follow : SlotsFollow (Among book)
  slots_follow h g lh lg same ne =
      let r = raw_of h lh.there in
      let s = raw_of g lg.there in
      let he = ap (λ (x : Change). x.end) r.is in
      let ge = ap (λ (x : Change). x.end) s.is in
      ⊎_elim (λ e. absurd (ne (ap (λ (x : Change). x.begin) r.is ∙ ap (λ (x : Raw). x.begins) e ∙ sym (ap (λ (x : Change). x.begin) s.is))))
      (λ y. ⊎_elim
      (λ z. inl (leaves r.change h g.end r.is z.0 z.1 (omega (arith, z.2, ge))))
      (λ z. inr (leaves s.change g h.end s.is z.0 z.1 (omega (arith, z.2, he)))) y)
      (serial_raw.lives r.change s.change r.there s.there (raw_hash h r lh.hash) (raw_hash g s lg.hash) (ap (λ (x : Change). x.slot) (sym r.is) ∙ same ∙ ap (λ (x : Change). x.slot) s.is))

  -- Twins

  -- what ends a life does so in its bucket
  same_bucket : (h u : Raw) → raw.Ends (mine v) u h → u.bucket ≡ h.bucket
  same_bucket h u e = let t = serial_raw.one u e.unhash e.is-unhash in t.2 ∙ ap (λ (x : Raw). x.bucket) (serial_raw.only u t.0 h t.1 e)

  inside : EndInBucket book
  inside h u lh e =
      let r = raw_of h lh.there in
      let s = raw_of u e.there in
      let e' = subst (λ (x : Change). Ends (Among book) (change_of r.change) x) s.is (subst (λ (x : Change). Ends (Among book) x u) r.is e) in
      let q = ends_raw r.change s.change r.there s.there (raw_hash h r lh.hash) e' in
      ap (λ (x : Change). x.bucket) s.is ∙ same_bucket r.change s.change q ∙ ap (λ (x : Change). x.bucket) (sym r.is)

  one_change : (c d : Raw) → InBook (mine v) c → InBook (mine v) d → c.begins ≡ d.begins → act_of c.kind ≡ act_of d.kind
  one_change c d bc bd e = ap (λ (x : Change). x.act) (one_beginning book begin (change_of c) (change_of d) (among c bc) (among d bd) e)

  -- of two hashes of one bucket the earlier one stands as the later one is made, where both stand later
  stays : (r s : Raw) (m : ℕ) → InBook (mine v) r → InBook (mine v) s → r.kind ≡ 1 → s.kind ≡ 1 → r.bucket ≡ s.bucket → s.ends ≤ m
      → ((u : Change) → Ends (Among book) (change_of r) u → m < u.end) → (u : Raw) → raw.Ends (mine v) u r → s.begins < u.begins
  stays r s m br bs kr ks same le still u e =
      let late : m < u.ends = still (change_of u) (ends_book r u e) in
      let z : Separate u s = serial_raw.apart u s e.unhash bs (same_bucket r u e ∙ same) in
      let os = order_of s bs in
      ⊎_elim
      (λ q. absurd (unlike_acts (sym (one_change u s e.unhash bs q ∙ act_one s.kind ks) ∙ act_zero u.kind e.is-unhash)))
      (λ y. ⊎_elim (λ l. absurd (omega (arith, l, late, le, os))) (λ l. omega (arith, l, os)) y) z

  module _ (m : ℕ) (r s : Raw) (br : InBook (mine v) r) (bs : InBook (mine v) s) (kr : r.kind ≡ 1) (ks : s.kind ≡ 1) (same : r.bucket ≡ s.bucket)
      (ler : r.ends ≤ m) (les : s.ends ≤ m) (still_r : (u : Change) → Ends (Among book) (change_of r) u → m < u.end) (still_s : (u : Change) → Ends (Among book) (change_of s) u → m < u.end) where
    present_self : Present (mine v) s s
    present_self = record { hash = bs; is-hash = ks; bucket = refl; begun = omega arith; stays = λ u e. omega (arith, e.after, order_of s bs) }

    present_other : r.begins ≤ s.begins → Present (mine v) s r
    present_other l = record { hash = br; is-hash = kr; bucket = same; begun = l; stays = stays r s m br bs kr ks same les still_r }

  one_twin : (m : ℕ) (r s : Raw) (br : InBook (mine v) r) (bs : InBook (mine v) s) (kr : r.kind ≡ 1) (ks : s.kind ≡ 1) (same : r.bucket ≡ s.bucket)
      (ler : r.ends ≤ m) (les : s.ends ≤ m) → ((u : Change) → Ends (Among book) (change_of r) u → m < u.end) → ((u : Change) → Ends (Among book) (change_of s) u → m < u.end)
      → Rattle.race_run.proofs.CardsTold.ShowBoth r.card s.card → r.begins ≡ s.begins
  one_twin m r s br bs kr ks same ler les still_r still_s t = dite (dec_le r.begins s.begins)
      (λ l. ap (λ (x : Raw). x.begins) (all_of.1 s r s t.tuple_is (present_other m r s br bs kr ks same ler les still_r still_s l) (present_self m r s br bs kr ks same ler les still_r still_s) t.one t.other))
      (λ ne. ap (λ (x : Raw). x.begins) (all_of.1 r r s t.tuple_is (present_self m s r bs br ks kr (sym same) les ler still_s still_r) (present_other m s r bs br ks kr (sym same) les ler still_s still_r (omega (arith, ne))) t.one t.other))

  abbrev Still : Change → ℕ → Type 0
  Still h m = (u : Change) → Ends (Among book) h u → m < u.end

  no_twins : NoTwinsStand book
  no_twins c ac h g sh sg t =
      let r = raw_of h sh.is.there in
      let s = raw_of g sg.is.there in
      let both = show_both r.change.card s.change.card (card_of r.change r.there (raw_hash h r sh.is.hash)) (card_of s.change s.there (raw_hash g s sg.is.hash))
      (subst (λ (x : Change). Rattle.chain_book.specs.Tuples.is_full_kind x.card.kind ≡ true) r.is t.one)
      (subst (λ (x : Change). Rattle.chain_book.specs.Tuples.is_full_kind x.card.kind ≡ true) s.is t.other)
      (subst (λ (x : Change). Rattle.chain_book.specs.Tuples.same_cards (change_of r.change).card x.card ≡ true) s.is (subst (λ (x : Change). Rattle.chain_book.specs.Tuples.same_cards x.card g.card ≡ true) r.is t.tuple)) in
      let here = homes h sh.is.there ∙ one_home shape header.seed h.card g.card t.one t.other t.tuple ∙ sym (homes g sg.is.there) in
      ap (λ (x : Change). x.begin) r.is
      ∙ one_twin c.end r.change s.change r.there s.there (raw_hash h r sh.is.hash) (raw_hash g s sg.is.hash)
      (ap (λ (x : Change). x.bucket) (sym r.is) ∙ here ∙ ap (λ (x : Change). x.bucket) s.is)
      (subst (λ (x : Change). x.end ≤ c.end) r.is sh.hashed) (subst (λ (x : Change). x.end ≤ c.end) s.is sg.hashed)
      (subst (λ (x : Change). Still x c.end) r.is sh.still) (subst (λ (x : Change). Still x c.end) s.is sg.still) both
      ∙ ap (λ (x : Change). x.begin) (sym s.is)

  twins : HasNoTwins (Among book)
  twins = replay_has_none book shape header.seed begin end_after apart homes inside no_twins

  pub serial : IsSerial (Among book) shape header.seed
  serial = record { apart = apart; homes = homes; ends = each_ends; slots = slots_follow; twins = twins }

  -- Sightings

  -- a life of that slot, with the words that were seen, stood between the two numbers
  pub record SeenLife (e : Seen) (from to : ℕ) : Type 0 where
    pub life : Change
    pub words : List ℕ
    pub is : IsLife (Among book) life
    pub slot : life.slot ≡ e.slot
    pub card : life.card ≡ Rattle.table_rule.specs.Words.card_from words
    pub told : (k a : ℕ) → k < 4 → get_elem? e.words k ≡ some a → get_elem? words k ≡ some a
    pub stood : Stood (Among book) life from to

  stood : (h : Raw) (s : Sight) (from to : ℕ) → InBook (mine v) h → h.kind ≡ 1 → from ≤ s.since → s.until ≤ to → h.begins < s.until → ((u : Raw) → raw.Ends (mine v) u h → s.since ≤ u.ends)
      → Stood (Among book) (change_of h) from to
  stood h s from to b k low high begun left = record {
    begun = omega (arith, begun, high);
    still = λ u e. let r = raw_of u e.there in
        let e' = subst (λ (x : Change). Ends (Among book) (change_of h) x) r.is e in
        let f = left r.change (ends_raw h r.change b r.there k e') in
        omega (arith, f, low, ap (λ (x : Change). x.end) r.is);
  }

  pub seen_life : (s : Sight) → Among v.sights s → (m : ℕ) (e : Seen) → get_elem? s.listed m ≡ some e → (from to : ℕ) → from ≤ s.since → s.until ≤ to → SeenLife e from to
  seen_life s a m e at from to low high =
      let p = place_of v.sights s a in
      let t = (all_of.2 p.0 s p.1).listed m e at in
      record {
        life = change_of t.hash;
        words = t.hash.card;
        is = life_of t.hash t.in-book t.is-hash;
        slot = t.slot;
        card = refl;
        told = t.words;
        stood = stood t.hash s from to t.in-book t.is-hash low high t.begun t.left;
      }

  -- Standing at one number

  -- who stands in the raw book stands in the other
  pub stands_there : (h : Raw) → InBook (mine v) h → h.kind ≡ 1 → (n : ℕ) → IsThere (mine v) h n → Throughout (Among book) (change_of h) n n
  stands_there h b k n t = record { before = t.0; still = λ u there after. by_ending u there after (ending book (change_of h)) refl }
    where
      by_ending : (u : Change) → Among book u → IsTrue (comes_after (change_of h) u) → (o : Option Change) → ending book (change_of h) ≡ o → n ≤ u.begin
      by_ending u there after None e = absurd (no_ending book (change_of h) e u there after)
      by_ending u there after (Some x) e =
          let q : Ends (Among book) (change_of h) x = ending_ends book (change_of h) x e in
          let r = raw_of x q.there in
          let late = t.1 r.change (ends_raw h r.change b r.there k (subst (λ (z : Change). Ends (Among book) (change_of h) z) r.is q)) in
          let first = q.first u there after in
          omega (arith, late, first, ap (λ (z : Change). z.begin) r.is)

  -- a life of that slot and bucket, with the words that were seen, stood at the sighting's instant
  pub record StandingLife (e : Seen) (b instant : ℕ) : Type 0 where
    pub life : Change
    pub words : List ℕ
    pub is : IsLife (Among book) life
    pub slot : life.slot ≡ e.slot
    pub bucket : life.bucket ≡ b
    pub card : life.card ≡ Rattle.table_rule.specs.Words.card_from words
    pub told : (k a : ℕ) → k < 4 → get_elem? e.words k ≡ some a → get_elem? words k ≡ some a
    pub stands : Throughout (Among book) life instant instant

  pub standing_life : (s : Sight) → Among v.sights s → (m : ℕ) (e : Seen) → get_elem? s.listed m ≡ some e → (b : ℕ) → s.bucket ≡ b ∷ [] → (s.since ≤ s.instant) × (s.instant ≤ s.until) × StandingLife e b s.instant
  standing_life s a m e at b had =
      let p = place_of v.sights s a in
      let f = all_of.2 p.0 s p.1 in
      let t = f.listed m e at in
      let here = t.bucket b had in (
        f.since,
        f.until,
        record {
          life = change_of t.hash;
          words = t.hash.card;
          is = life_of t.hash t.in-book t.is-hash;
          slot = t.slot;
          bucket = here.0;
          card = refl;
          told = t.words;
          stands = stands_there t.hash t.in-book t.is-hash s.instant here.1;
        },
      )

  -- Lookups

  pub rank_is : (key : Packet) (ws : List ℕ) → rank_of key ws ≡ rank (Rattle.table_rule.specs.Words.card_from ws) key
  rank_is key ws = two_words (record { ends = Rattle.std.proofs.Common.slice_index ws 0; ports = Rattle.std.proofs.Common.slice_index ws 1; name = Rattle.std.proofs.Common.slice_index ws 2; extra = Rattle.std.proofs.Common.slice_index ws 3 }) key

  pub raw_throughout : (d : Change) (r : RawOf d) (t0 t1 : ℕ) → Throughout (Among book) d t0 t1 → lookups.Throughout (mine v) r.change t0 t1
  raw_throughout d r t0 t1 o =
      let o' = subst (λ (c : Change). Throughout (Among book) c t0 t1) r.is o in
      (o'.before, λ u e. o'.still (change_of u) (among u e.unhash) (raw_after r.change u e.is-unhash e.slot e.after))

  met : (t0 t1 : ℕ) (P : Raw → Type 0) (Q : Change → Type 0) → ((c : Raw) → InBook (mine v) c → P c → Q (change_of c)) → lookups.IsMet (mine v) t0 t1 P → MeetsSome (Among book) Q t0 t1
  met t0 t1 P Q f z = record { change = change_of z.change; there = among z.change z.there; sort = f z.change z.there z.is; meets = record { begun = z.meets.0; lasting = z.meets.1 } }

  raw_stood : (h : Raw) (t0 t1 : ℕ) → InBook (mine v) h → h.kind ≡ 1 → lookups.Stood (mine v) h t0 t1 → Stood (Among book) (change_of h) t0 t1
  raw_stood h t0 t1 b k s = record {
    begun = s.0;
    still = λ u e. let r = raw_of u e.there in
        let e' = subst (λ (x : Change). Ends (Among book) (change_of h) x) r.is e in
        let g = s.1 r.change (ends_raw h r.change b r.there k e') in
        omega (arith, g, ap (λ (x : Change). x.end) r.is);
  }

  led_astray : (bucket t0 t1 : ℕ) → lookups.HasStrayed (mine v) bucket t0 t1 → LedAstray (Among book) bucket t0 t1
  led_astray bucket t0 t1 s = record {
    life = change_of s.hash;
    is = life_of s.hash s.ends.hash s.ends.is-hash;
    bucket_is = s.bucket-is;
    unhash = change_of s.unhash;
    ends = ends_book s.hash s.unhash s.ends;
    left = record { begun = s.left.0; lasting = s.left.1 };
    again = change_of s.again;
    again_is = life_of s.again s.there s.is-hash;
    slot_is = s.slot-is;
    after = s.after;
    hashed = record { begun = s.hashed.0; lasting = s.hashed.1 };
  }

  none_stayed : (slot t0 t1 : ℕ) → lookups.NoneStayed (mine v) slot t0 t1 → NoneStayed (Among book) slot t0 t1
  none_stayed slot t0 t1 none d life at through =
      let r = raw_of d life.there in
      none r.change r.there (raw_hash d r life.hash) (ap (λ (x : Change). x.slot) (sym r.is) ∙ at) (raw_throughout d r t0 t1 through)

  -- what stopped a pass could do so
  pub can_stop : (c : Told) (slots : ℕ) (end : PassEnd) → lookups.IsStop (mine v) slots c (stop_of end) → CanStop (Among book) c.bucket c.from c.to end
  can_stop c slots (stops.Foreign b) s = led_astray c.bucket c.from c.to (s.astray (λ e. omega (arith, e)))
  can_stop c slots (stops.Dead i) s = let t = s.dead refl in (
    ⊎_elim
        (λ z. inl record { life = change_of z.hash; is = life_of z.hash z.there z.is-hash; bucket_is = z.bucket-is; slot_is = z.slot-is; stood = raw_stood z.hash c.from c.to z.there z.is-hash z.stood })
        (λ z. inr (led_astray c.bucket c.from c.to z)) t.0,
    none_stayed i c.from c.to t.1,
  )
  can_stop c slots (stops.Changed i) s = led_astray c.bucket c.from c.to (s.astray (λ e. omega (arith, e)))
  can_stop c slots (stops.Long n) s = led_astray c.bucket c.from c.to (s.astray (λ e. omega (arith, e)))

  pub may_end : (c : Told) (slots : ℕ) (end : PassEnd) → lookups.IsStop (mine v) slots c (stop_of end) → MayEnd (Among book) slots c.bucket c.from c.to end
  may_end c slots (stops.Foreign b) s = let t = s.foreign refl in (t.0, met c.from c.to (λ h. (h.kind ≡ 1) × (h.bucket ≡ b)) (IsHashInto b) (λ h i p. (act_one h.kind p.0, p.1)) t.1)
  may_end c slots (stops.Dead i) s = met c.from c.to (λ h. (h.kind < 2) × (h.slot ≡ i)) (IsOfSlot i) (λ h j p. p.1) (s.slot (inl refl))
  may_end c slots (stops.Changed i) s = met c.from c.to (λ h. (h.kind < 2) × (h.slot ≡ i)) (IsOfSlot i) (λ h j p. p.1) (s.slot (inr refl))
  may_end c slots (stops.Long n) s = let t = s.long refl in (t.0, met c.from c.to (λ h. h.kind ≡ 1) IsHash (λ h j p. act_one h.kind p) t.1)

  module _ (packet : Packet) (t0 t1 : ℕ) where
    none_from : (c : Whole) (best m : ℕ) → c.key ≡ packet → c.seed ≡ header.seed → c.from ≡ t0 → c.to ≡ t1 → lookups.NoAbove (mine v) (layout_in header) c best → best < m → NoneFrom (Among book) (at_home shape header.seed) packet t0 t1 m
    none_from c best m key seed from to above low d life counts enough through =
        let r = raw_of d life.there in
        let same : rank_of c.key r.change.card ≡ rank d.card packet = rank_is c.key r.change.card ∙ ap (rank (Rattle.table_rule.specs.Words.card_from r.change.card)) key ∙ ap (λ (x : Change). rank x.card packet) (sym r.is) in
        let at : r.change.bucket ≡ home shape c.seed (change_of r.change).card = ap (λ (x : Change). x.bucket) (sym r.is) ∙ counts ∙ ap (λ (x : Change). home shape header.seed x.card) r.is ∙ ap (λ k. home shape k (change_of r.change).card) (sym seed) in
        above r.change r.there (raw_hash d r life.hash) at (omega (arith, same, low, enough))
        (raw_throughout d r c.from c.to (subst (λ k. Throughout (Among book) d k c.to) (sym from) (subst (λ k. Throughout (Among book) d t0 k) (sym to) through)))

  -- what a pass's receipt says is explained by the book
  pub explained : (r : Receipt) → r.seed ≡ header.seed → IsTold r.answer → lookups.IsWholeExplained (mine v) (layout_in header) (whole_for r) → IsExplained (Among book) shape r
  explained r s told x = subst (λ k. MayAnswer (Among book) (at_home shape k) shape.slots r.packet r.t0 r.t1 r.answer) (sym s) (by_answer r.answer told x)
    where
      by_answer : (a : PacketAnswer) → IsTold a → lookups.IsWholeExplained (mine v) (layout_in header) (record (whole_of r.packet r.seed r.t0 a) { to = r.t1 })
          → MayAnswer (Among book) (at_home shape header.seed) shape.slots r.packet r.t0 r.t1 a
      by_answer (answers.Found card) t y =
          let f = y.found refl in
          let h = f.0 in
          let ws : List ℕ = words_of (packed card) in
          let here : rank_of r.packet ws ≡ rank card r.packet = rank_is r.packet ws ∙ ap (λ k. rank k r.packet) t in
          record {
            life = change_of h;
            is = life_of h f.1 f.2;
            same = ap Rattle.table_rule.specs.Words.card_from f.3 ∙ t;
            stood = raw_stood h r.t0 r.t1 f.1 f.2 f.4;
            enough = omega (arith, here, f.5);
            best = none_from r.packet r.t0 r.t1 (record (whole_of r.packet r.seed r.t0 (answers.Found card)) { to = r.t1 }) (rank_of r.packet ws) (rank card r.packet + 1) refl s refl refl f.6 (omega (arith, here));
          }
      by_answer answers.None t y = none_from r.packet r.t0 r.t1 (record (whole_of r.packet r.seed r.t0 answers.None) { to = r.t1 }) 0 1 refl s refl refl (y.none refl) (omega arith)
      by_answer (answers.Again bucket end) t y =
          let f = y.again refl in
          may_end (lookups.as_receipt (record (whole_of r.packet r.seed r.t0 (answers.Again bucket end)) { to = r.t1 })) shape.slots end f.1.0

  -- and a card that it says was found was its slot's then
  pub of_its_time : (r : Receipt) → IsTold r.answer → lookups.IsWholeExplained (mine v) (layout_in header) (whole_for r) → IsOfItsTime (Among book) r.t0 r.t1 r.answer
  of_its_time r told x = by_answer r.answer told x
    where
      by_answer : (a : PacketAnswer) → IsTold a → lookups.IsWholeExplained (mine v) (layout_in header) (record (whole_of r.packet r.seed r.t0 a) { to = r.t1 }) → IsOfItsTime (Among book) r.t0 r.t1 a
      by_answer (answers.Found card) t y =
          let f = y.found refl in
          let h = f.0 in
          record {
            life = change_of h;
            is = life_of h f.1 f.2;
            card_is = ap Rattle.table_rule.specs.Words.card_from f.3 ∙ t;
            stood = raw_stood h r.t0 r.t1 f.1 f.2 f.4;
            newest = λ g l slot later. let q = raw_of g l.there in
                let end = ap (λ (z : Change). z.end) q.is in
                let n = f.7 q.change q.there (raw_hash g q l.hash) (ap (λ (z : Change). z.slot) (sym q.is) ∙ slot) (omega (arith, later, end)) in
                omega (arith, n, end);
          }
      by_answer answers.None t y = tt
      by_answer (answers.Again bucket end) t y = tt
