-- How a lookup ends.
use Rattle.std.proofs.Common.{◌≡◌, ℕ, ◌+◌, ◌<◌, ◌≤◌, List, [], ◌∷◌, ◌++◌, length, sym, refl, ap, ◌∙◌, subst, arith, Option, Some, None, Result, Ok, Err}
use Rattle.table_rule.specs.ReadersOk.{rank_of}
use Rattle.table_rule.specs.Plays.{Sat, setting_out, concluding, receipt, OwnExplains}
use Rattle.table_rule.specs.LookCalls.{Looks, IsNone, IsFound}
use Rattle.table_rule.specs.Alone.{IsAlone, NoneStands, CardStands, NoneKnown}
use mathlib.Core.Option.{some}
use lib.ListN.{get_elem?}
use Rattle.table_rule.specs.declared.view.Change.{Change}
use Rattle.null_reader.specs.Looked.{IsWhole, looking, held, stop_of, IsLookup, Passed, looked_view, LookedAs, MadeFew, OwnAs}
use Rattle.table_rule.specs.declared.view.Layout.{Layout}
use Rattle.table_rule.specs.declared.view.Kept.{Kept}
use Rattle.table_rule.specs.declared.view.Stop.{Stop}
use Rattle.table_rule.specs.declared.view.Reader.{Reader}
use Rattle.table_rule.specs.declared.view.Receipt.{Receipt}
use Rattle.null_reader.specs.declared.answers.Best.{Best}
use Rattle.null_reader.specs.declared.answers.PassEnd.{PassEnd}
use Rattle.null_reader.specs.declared.answers.WordsEnd.TheVariants as ends
use Rattle.sock_card.specs.declared.card.Packet.{Packet}
use Rattle.table_rule.specs.Beyond.{IsCardWords}
use Rattle.table_rule.specs.Words.{words_of}

abbrev pub begun : (bucket : ℕ) (key : Packet) (least since : ℕ) → Reader
begun bucket key least since = record { bucket = bucket; key = key; least = least; since = since; best = 0; walking = 0; link = 0; followed = 0; peeked = []; stops = [] }

-- between two passes of a lookup that began at m as q₀: so many stopped, the last of them so
pub record Between (m : Sat) (q₀ : Reader) (passes : ℕ) (last : PassEnd) (n : Sat) : Type 0 where
  pub q : Reader
  pub taken : ℕ
  pub more : m.0.slot.taken ≤ taken
  pub is : n ≡ (looking m.0 q m.0.read.kept m.0.slot.holds taken, m.1)
  pub same : IsLookup q₀ q
  pub count : length q.stops ≡ passes
  pub last-is : 0 < passes → (front : List Stop) × (q.stops ≡ front ++ stop_of last ∷ [])
  -- no pass is under way
  pub idle : q.walking ≡ 0

len-snoc : (l : List Stop) (e : Stop) → length (l ++ e ∷ []) ≡ length l + 1
len-snoc [] e = refl
len-snoc (x ∷ xs) e = omega (arith, len-snoc xs e)

pub passed_seen : (layout : Layout) (n n' : Sat) (q : Reader) (r : Result (Option Best) PassEnd) → Passed layout n q r n' → n'.0.seen ≡ n.0.seen
passed_seen layout n n' q (Ok None) t = ap (λ (s : Sat). s.0.seen) t.7
passed_seen layout n n' q (Ok (Some b)) t = ap (λ (s : Sat). s.0.seen) t.9
passed_seen layout n n' q (Err e) t = ap (λ (s : Sat). s.0.seen) t.5

module _ (layout : Layout) (bucket : ℕ) (key : Packet) (least passes t₀ : ℕ) (m m₁ : Sat) (out : m₁ ≡ (setting_out m.0 bucket key least t₀, m.1)) where
  abbrev q₀ : Reader
  q₀ = begun bucket key least t₀

  pub between_none : (last : PassEnd) → Between m₁ q₀ 0 last m₁
  between_none last = record {
    q = q₀;
    taken = m₁.0.slot.taken;
    more = omega arith;
    is = out ∙ ap (λ (s : Sat). (looking s.0 q₀ s.0.read.kept s.0.slot.holds s.0.slot.taken, s.1)) (sym out);
    same = record { bucket = refl; key = refl; least = refl; since = refl };
    count = refl;
    last-is = λ h. absurd (omega (arith, h));
    idle = refl;
  }

  module _ (done : ℕ) (last : PassEnd) (n n' : Sat) (b : Between m₁ q₀ done last n) where
    pub looks_between : Looks n.0 b.q
    looks_between = ap (λ (s : Sat). s.0.read.reader) b.is

    pub seen_between : n.0.seen ≡ t₀
    seen_between = ap (λ (s : Sat). s.0.seen) b.is ∙ ap (λ (s : Sat). s.0.seen) out

    more-between : m.0.slot.taken ≤ n.0.slot.taken
    more-between = omega (arith, b.more, ap (λ (s : Sat). s.0.slot.taken) b.is, ap (λ (s : Sat). s.0.slot.taken) out)

    -- nothing better than least
    pub is_none : Passed layout n b.q (Ok None) n' → IsNone n'.0
    is_none t = record { q = t.0; looks = ap (λ (s : Sat). s.0.read.reader) t.7; at = t.2; best = t.3 }

    -- what was begun as q₀, and is q now
    told : (q : Reader) (kind t₁ : ℕ) (card : List ℕ) → IsLookup q₀ q → receipt q kind card t₁ ≡ record { bucket = bucket; key = key; least = least; from = t₀; to = t₁; kind = kind; card = card; stops = q.stops }
    told q kind t₁ card s = λ i. record { bucket = s.bucket i; key = s.key i; least = s.least i; from = s.since i; to = t₁; kind = kind; card = card; stops = q.stops }

    from-start : (q : Reader) (ks : List Kept) (hs : List ℕ) (taken : ℕ) → n' ≡ (looking n.0 q ks hs taken, n.1) → n' ≡ (looking (setting_out m.0 bucket key least t₀) q ks hs taken, m.1)
    from-start q ks hs taken e = e ∙ (ap (λ (s : Sat). (looking s.0 q ks hs taken, s.1)) b.is ∙ ap (λ (s : Sat). (looking s.0 q ks hs taken, s.1)) out)

    kept-same : n.0.read.kept ≡ m.0.read.kept
    kept-same = ap (λ (s : Sat). s.0.read.kept) b.is ∙ ap (λ (s : Sat). s.0.read.kept) out

    holds-same : n.0.slot.holds ≡ m.0.slot.holds
    holds-same = ap (λ (s : Sat). s.0.slot.holds) b.is ∙ ap (λ (s : Sat). s.0.slot.holds) out

    joined : (q : Reader) → IsLookup b.q q → IsLookup q₀ q
    joined q s = record { bucket = s.bucket ∙ b.same.bucket; key = s.key ∙ b.same.key; least = s.least ∙ b.same.least; since = s.since ∙ b.same.since }

    module _ (n'' : Sat) (t₁ : ℕ) where
      pub looked_none : Passed layout n b.q (Ok None) n' → ((q : Reader) → Looks n'.0 q → n'' ≡ (concluding n'.0 (receipt q 0 [] t₁), n'.1)) → LookedAs bucket key least passes m ends.None t₀ t₁ n''
      looked_none t end = let e = from-start t.0 n.0.read.kept n.0.slot.holds t.5 t.7 in (
        t.0.stops,
        t.5,
        omega (arith, t.6, more-between),
        end t.0 (ap (λ (s : Sat). s.0.read.reader) t.7) ∙ (ap (λ (s : Sat). (concluding s.0 (receipt t.0 0 [] t₁), s.1)) e
            ∙ (ap (λ (l : List Kept). (looked_view m.0 t₀ l n.0.slot.holds t.5 (receipt t.0 0 [] t₁), m.1)) kept-same
            ∙ (ap (λ (l : List ℕ). (looked_view m.0 t₀ m.0.read.kept l t.5 (receipt t.0 0 [] t₁), m.1)) holds-same
            ∙ ap (λ (c : Receipt). (looked_view m.0 t₀ m.0.read.kept m.0.slot.holds t.5 c, m.1)) (told t.0 0 t₁ [] (joined t.0 t.1))))),
      )

      -- each pass before this one stopped
      pub few_none : Passed layout n b.q (Ok None) n' → ((q : Reader) → Looks n'.0 q → n'' ≡ (concluding n'.0 (receipt q 0 [] t₁), n'.1)) → done < passes → MadeFew passes m ends.None n''
      unfolding looked_none
      few_none t end more = let l = looked_none t end in (
        record { bucket = bucket; key = key; least = least; from = t₀; to = t₁; kind = 0; card = []; stops = t.0.stops },
        ap (λ (s : Sat). s.0.read.receipts) l.3,
        omega (arith, more, b.count, ap (length {A = Stop}) t.4),
      )

      -- and the pass's changes explain the receipt where it drew all numbers
      own-told : (q : Reader) (ks : List Kept) (hs : List ℕ) (taken : ℕ) (c : Receipt) → n' ≡ (looking n.0 q ks hs taken, n.1) → n'' ≡ (concluding n'.0 c, n'.1) → OwnExplains n'.0 t₁ c → OwnAs m.0 t₁ n''.0
      own-told q ks hs taken c at end own all = let e = from-start q ks hs taken at in
          let o : OwnExplains (looking (setting_out m.0 bucket key least t₀) q ks hs taken) t₁ c = subst (λ (s : Sat). OwnExplains s.0 t₁ c) e own in
          (c, ap (λ (s : Sat). s.0.read.receipts) end ∙ ap (λ (s : Sat). s.0.read.receipts ++ c ∷ []) e, o all)

      pub own_none : Passed layout n b.q (Ok None) n' → ((q : Reader) → Looks n'.0 q → n'' ≡ (concluding n'.0 (receipt q 0 [] t₁), n'.1)) → ((q : Reader) → Looks n'.0 q → OwnExplains n'.0 t₁ (receipt q 0 [] t₁)) → OwnAs m.0 t₁ n''.0
      own_none t end own = let at = ap (λ (s : Sat). s.0.read.reader) t.7 in own-told t.0 n.0.read.kept n.0.slot.holds t.5 (receipt t.0 0 [] t₁) t.7 (end t.0 at) (own t.0 at)

      module _ (best : Best) (t : Passed layout n b.q (Ok (Some best)) n') where
        found-at : n' ≡ (looking n.0 t.0 (held best t.5.0 ∷ n.0.read.kept) (best.slot ∷ n.0.slot.holds) t.7, n.1)
        found-at = t.9 ∙ (ap (λ (l : List Kept). (looking n.0 t.0 l t.2 t.7, n.1)) t.5.5 ∙ ap (λ (l : List ℕ). (looking n.0 t.0 (held best t.5.0 ∷ n.0.read.kept) l t.7, n.1)) t.5.6)

        pub is_found : IsFound n'.0
        is_found = record {
          q = t.0;
          looks = ap (λ (s : Sat). s.0.read.reader) found-at;
          kept = held best t.5.0;
          others = n.0.read.kept;
          there = ap (λ (s : Sat). s.0.read.kept) found-at;
          a = best.card.ends;
          b = best.card.ports;
          c = best.card.name;
          d = best.card.extra;
          words = refl;
          later = t.5.4;
          best = t.5.1 ∙ sym t.5.2;
          enough = omega (arith, t.5.3, t.5.1);
          at = t.4;
        }

        pub looked_found : ((q : Reader) (h : Kept) (hs : List Kept) → Looks n'.0 q → n'.0.read.kept ≡ h ∷ hs → n'' ≡ (concluding n'.0 (receipt q 1 h.words t₁), n'.1)) → LookedAs bucket key least passes m (ends.Found (record { slot = best.slot }) best.card) t₀ t₁ n''
        looked_found end =
            let e = from-start t.0 (held best t.5.0 ∷ n.0.read.kept) (best.slot ∷ n.0.slot.holds) t.7 found-at in
            let s = joined t.0 t.3 in (
              t.5.0,
              t.0.stops,
              omega (arith, t.5.4, s.since),
              omega (arith, t.5.2, t.5.3, s.least, ap (λ (k : Packet). rank_of k (words_of best.card)) s.key),
              t.7,
              omega (arith, t.8, more-between),
              end t.0 (held best t.5.0) n.0.read.kept (ap (λ (s : Sat). s.0.read.reader) found-at) (ap (λ (s : Sat). s.0.read.kept) found-at)
                  ∙ (ap (λ (s : Sat). (concluding s.0 (receipt t.0 1 (words_of best.card) t₁), s.1)) e
                  ∙ (ap (λ (l : List Kept). (looked_view m.0 t₀ (held best t.5.0 ∷ l) (best.slot ∷ n.0.slot.holds) t.7 (receipt t.0 1 (words_of best.card) t₁), m.1)) kept-same
                  ∙ (ap (λ (l : List ℕ). (looked_view m.0 t₀ (held best t.5.0 ∷ m.0.read.kept) (best.slot ∷ l) t.7 (receipt t.0 1 (words_of best.card) t₁), m.1)) holds-same
                  ∙ ap (λ (c : Receipt). (looked_view m.0 t₀ (held best t.5.0 ∷ m.0.read.kept) (best.slot ∷ m.0.slot.holds) t.7 c, m.1)) (told t.0 1 t₁ (words_of best.card) s)))),
            )

        pub few_found : ((q : Reader) (h : Kept) (hs : List Kept) → Looks n'.0 q → n'.0.read.kept ≡ h ∷ hs → n'' ≡ (concluding n'.0 (receipt q 1 h.words t₁), n'.1)) → done < passes → MadeFew passes m (ends.Found (record { slot = best.slot }) best.card) n''
        unfolding looked_found
        few_found end more = let l = looked_found end in (
          record { bucket = bucket; key = key; least = least; from = t₀; to = t₁; kind = 1; card = words_of best.card; stops = t.0.stops },
          ap (λ (s : Sat). s.0.read.receipts) l.6,
          omega (arith, more, b.count, ap (length {A = Stop}) t.6),
        )

        pub own_found : ((q : Reader) (h : Kept) (hs : List Kept) → Looks n'.0 q → n'.0.read.kept ≡ h ∷ hs → n'' ≡ (concluding n'.0 (receipt q 1 h.words t₁), n'.1)) → ((q : Reader) (h : Kept) (hs : List Kept) → Looks n'.0 q → n'.0.read.kept ≡ h ∷ hs → OwnExplains n'.0 t₁ (receipt q 1 h.words t₁)) → OwnAs m.0 t₁ n''.0
        own_found end own =
            let reads = ap (λ (s : Sat). s.0.read.reader) found-at in
            let keeps = ap (λ (s : Sat). s.0.read.kept) found-at in
            let h : Kept = held best t.5.0 in
            own-told t.0 (h ∷ n.0.read.kept) (best.slot ∷ n.0.slot.holds) t.7 (receipt t.0 1 h.words t₁) found-at (end t.0 h n.0.read.kept reads keeps) (own t.0 h n.0.read.kept reads keeps)

  -- each pass stopped
  module _ (last : PassEnd) (n : Sat) (b : Between m₁ q₀ passes last n) (some-pass : 0 < passes) where
    pub looked_again : (n'' : Sat) (t₁ : ℕ) → ((q : Reader) → Looks n.0 q → n'' ≡ (concluding n.0 (receipt q 2 [] t₁), n.1)) → LookedAs bucket key least passes m (ends.Again bucket last) t₀ t₁ n''
    looked_again n'' t₁ end = let f = b.last-is some-pass in let s = b.same in
        let c : receipt b.q 2 [] t₁ ≡ record { bucket = bucket; key = key; least = least; from = t₀; to = t₁; kind = 2; card = []; stops = f.0 ++ stop_of last ∷ [] } = λ i. record { bucket = s.bucket i; key = s.key i; least = s.least i; from = s.since i; to = t₁; kind = 2; card = []; stops = f.1 i } in (
          refl,
          (
            f.0,
            omega (arith, b.count, ap (length {A = Stop}) f.1, len-snoc f.0 (stop_of last)),
            b.taken,
            omega (arith, b.more, ap (λ (s : Sat). s.0.slot.taken) out),
            end b.q (ap (λ (s : Sat). s.0.read.reader) b.is) ∙ (ap (λ (s : Sat). (concluding s.0 (receipt b.q 2 [] t₁), s.1)) b.is
                ∙ (ap (λ (s : Sat). (concluding (looking s.0 b.q s.0.read.kept s.0.slot.holds b.taken) (receipt b.q 2 [] t₁), s.1)) out
                ∙ ap (λ (r : Receipt). (looked_view m.0 t₀ m.0.read.kept m.0.slot.holds b.taken r, m.1)) c)),
          ),
        )

    pub few_again : (n'' : Sat) (t₁ : ℕ) → ((q : Reader) → Looks n.0 q → n'' ≡ (concluding n.0 (receipt q 2 [] t₁), n.1)) → MadeFew passes m (ends.Again bucket last) n''
    few_again n'' t₁ end = let l = (looked_again n'' t₁ end).1 in (
      record { bucket = bucket; key = key; least = least; from = t₀; to = t₁; kind = 2; card = []; stops = l.0 ++ stop_of last ∷ [] },
      ap (λ (s : Sat). s.0.read.receipts) l.4,
      omega (arith, l.1, len-snoc l.0 (stop_of last)),
    )

    pub own_again : (n'' : Sat) (t₁ : ℕ) → ((q : Reader) → Looks n.0 q → n'' ≡ (concluding n.0 (receipt q 2 [] t₁), n.1)) → ((q : Reader) → Looks n.0 q → OwnExplains n.0 t₁ (receipt q 2 [] t₁)) → OwnAs m.0 t₁ n''.0
    own_again n'' t₁ end own all =
        let at = ap (λ (s : Sat). s.0.read.reader) b.is in
        let c : Receipt = receipt b.q 2 [] t₁ in
        let e : n ≡ (looking (setting_out m.0 bucket key least t₀) b.q m₁.0.read.kept m₁.0.slot.holds b.taken, m.1) = b.is ∙ ap (λ (s : Sat). (looking s.0 b.q m₁.0.read.kept m₁.0.slot.holds b.taken, s.1)) out in
        let o : OwnExplains (looking (setting_out m.0 bucket key least t₀) b.q m₁.0.read.kept m₁.0.slot.holds b.taken) t₁ c = subst (λ (s : Sat). OwnExplains s.0 t₁ c) e (own b.q at) in
        (c, ap (λ (s : Sat). s.0.read.receipts) (end b.q at) ∙ ap (λ (s : Sat). s.0.read.receipts ++ c ∷ []) e, o all)

-- The answers of a sole pass

module _ (bucket : ℕ) (key : Packet) (least t₀ : ℕ) (m : Sat) (whole : IsWhole m.0) (before : (k : ℕ) (c : Change) → get_elem? m.0.book.closed k ≡ some c → c.ends < t₀) (n : Sat) (q : Reader) (ks : List Kept) (hs : List ℕ) (taken : ℕ) (e : n ≡ (looking (setting_out m.0 bucket key least t₀) q ks hs taken, m.1)) (same : IsLookup (begun bucket key least t₀) q) where
  pub sole-at : IsAlone n.0 q.since
  sole-at = subst (λ (s : Sat). IsAlone s.0 q.since) (sym e) record { parts = whole.0; closed = whole.1; before = λ k c z. let b = before k c z in omega (arith, b, same.since) }

  pub none-told : (best : ℕ) → NoneStands n.0 q.bucket q.key q.least best → NoneStands m.0 bucket key least best
  none-told best o =
      let a : NoneStands m.0 q.bucket q.key q.least best = subst (λ (s : Sat). NoneStands s.0 q.bucket q.key q.least best) e o in
      subst (λ (k : ℕ). NoneStands m.0 bucket key k best) same.least (subst (λ (k : Packet). NoneStands m.0 bucket k q.least best) same.key (subst (λ (k : ℕ). NoneStands m.0 k q.key q.least best) same.bucket a))

  pub card-told : (card : List ℕ) → CardStands n.0 card → CardStands m.0 card
  card-told card o = let a : CardStands (looking (setting_out m.0 bucket key least t₀) q ks hs taken) card = subst (λ (s : Sat). CardStands s.0 card) e o in record { hash = a.hash; there = a.there; is-hash = a.is-hash; card-is = a.card-is; stands = a.stands }

module _ (layout : Layout) (bucket : ℕ) (key : Packet) (least passes t₀ : ℕ) (m m₁ : Sat) (out : m₁ ≡ (setting_out m.0 bucket key least t₀, m.1)) (whole : IsWhole m.0) (before : (k : ℕ) (c : Change) → get_elem? m.0.book.closed k ≡ some c → c.ends < t₀) where
  module _ (done : ℕ) (last : PassEnd) (n n' : Sat) (b : Between m₁ (begun bucket key least t₀) done last n) where
    pub sole_none : Passed layout n b.q (Ok None) n' → ((q : Reader) → Looks n'.0 q → IsAlone n'.0 q.since → NoneStands n'.0 q.bucket q.key q.least 0) → NoneStands m.0 bucket key least 0
    sole_none t told =
        let e = from-start layout bucket key least passes t₀ m m₁ out done last n n' b t.0 n.0.read.kept n.0.slot.holds t.5 t.7 in
        let s = joined layout bucket key least passes t₀ m m₁ out done last n n' b t.0 t.1 in
        none-told bucket key least t₀ m whole before n' t.0 n.0.read.kept n.0.slot.holds t.5 e s 0 (told t.0 (ap (λ (x : Sat). x.0.read.reader) t.7) (sole-at bucket key least t₀ m whole before n' t.0 n.0.read.kept n.0.slot.holds t.5 e s))

    pub sole_found : (best : Best) (t : Passed layout n b.q (Ok (Some best)) n') → ((q : Reader) (h : Kept) (hs : List Kept) → Looks n'.0 q → n'.0.read.kept ≡ h ∷ hs → IsAlone n'.0 q.since → CardStands n'.0 h.words × NoneStands n'.0 q.bucket q.key q.least (rank_of q.key h.words))
        → CardStands m.0 (words_of best.card) × NoneStands m.0 bucket key least (rank_of key (words_of best.card))
    sole_found best t told =
        let at = found-at layout bucket key least passes t₀ m m₁ out done last n n' b n' 0 best t in
        let ks : List Kept = held best t.5.0 ∷ n.0.read.kept in
        let hs : List ℕ = best.slot ∷ n.0.slot.holds in
        let e = from-start layout bucket key least passes t₀ m m₁ out done last n n' b t.0 ks hs t.7 at in
        let s = joined layout bucket key least passes t₀ m m₁ out done last n n' b t.0 t.3 in
        let r = told t.0 (held best t.5.0) n.0.read.kept (ap (λ (x : Sat). x.0.read.reader) at) (ap (λ (x : Sat). x.0.read.kept) at) (sole-at bucket key least t₀ m whole before n' t.0 ks hs t.7 e s) in (
          card-told bucket key least t₀ m whole before n' t.0 ks hs t.7 e s (words_of best.card) r.0,
          subst (λ (k : Packet). NoneStands m.0 bucket key least (rank_of k (words_of best.card))) s.key (none-told bucket key least t₀ m whole before n' t.0 ks hs t.7 e s (rank_of t.0.key (words_of best.card)) r.1),
        )

module _ (layout : Layout) (bucket : ℕ) (key : Packet) (least passes t₀ : ℕ) (m m₁ : Sat) (out : m₁ ≡ (setting_out m.0 bucket key least t₀, m.1)) (done : ℕ) (last : PassEnd) (n n' : Sat) (b : Between m₁ (begun bucket key least t₀) done last n) where
  -- what was found is a card
  pub card_found : (best : Best) (t : Passed layout n b.q (Ok (Some best)) n') → ((q : Reader) (h : Kept) (hs : List Kept) → Looks n'.0 q → n'.0.read.kept ≡ h ∷ hs → IsCardWords h.words) → IsCardWords (words_of best.card)
  card_found best t told =
      let at = found-at layout bucket key least passes t₀ m m₁ out done last n n' b n' 0 best t in
      told t.0 (held best t.5.0) n.0.read.kept (ap (λ (x : Sat). x.0.read.reader) at) (ap (λ (x : Sat). x.0.read.kept) at)

-- What a pass knows of its own changes

known-told : (bucket : ℕ) (key : Packet) (least t₀ : ℕ) (m n : Sat) (q : Reader) (ks : List Kept) (hs : List ℕ) (taken : ℕ) → n ≡ (looking (setting_out m.0 bucket key least t₀) q ks hs taken, m.1) → IsLookup (begun bucket key least t₀) q → (best : ℕ) → NoneKnown n.0 q.bucket q.key q.least best q.since → NoneKnown m.0 bucket key least best t₀
known-told bucket key least t₀ m n q ks hs taken e same best o =
    let a : NoneKnown m.0 q.bucket q.key q.least best q.since = subst (λ (s : Sat). NoneKnown s.0 q.bucket q.key q.least best q.since) e o in
    subst (λ (k : ℕ). NoneKnown m.0 bucket key least best k) same.since (subst (λ (k : ℕ). NoneKnown m.0 bucket key k best q.since) same.least (subst (λ (k : Packet). NoneKnown m.0 bucket k q.least best q.since) same.key (subst (λ (k : ℕ). NoneKnown m.0 k q.key q.least best q.since) same.bucket a)))

module _ (layout : Layout) (bucket : ℕ) (key : Packet) (least passes t₀ : ℕ) (m m₁ : Sat) (out : m₁ ≡ (setting_out m.0 bucket key least t₀, m.1)) (done : ℕ) (last : PassEnd) (n n' : Sat) (b : Between m₁ (begun bucket key least t₀) done last n) where
  pub known_none : Passed layout n b.q (Ok None) n' → ((q : Reader) → Looks n'.0 q → NoneKnown n'.0 q.bucket q.key q.least 0 q.since) → NoneKnown m.0 bucket key least 0 t₀
  known_none t told =
      known-told bucket key least t₀ m n' t.0 n.0.read.kept n.0.slot.holds t.5 (from-start layout bucket key least passes t₀ m m₁ out done last n n' b t.0 n.0.read.kept n.0.slot.holds t.5 t.7) (joined layout bucket key least passes t₀ m m₁ out done last n n' b t.0 t.1) 0
      (told t.0 (ap (λ (x : Sat). x.0.read.reader) t.7))

  pub known_found : (best : Best) → Passed layout n b.q (Ok (Some best)) n' → ((q : Reader) (h : Kept) (hs : List Kept) → Looks n'.0 q → n'.0.read.kept ≡ h ∷ hs → NoneKnown n'.0 q.bucket q.key q.least (rank_of q.key h.words) q.since) → NoneKnown m.0 bucket key least (rank_of key (words_of best.card)) t₀
  known_found best t told =
      let at = found-at layout bucket key least passes t₀ m m₁ out done last n n' b n' 0 best t in
      let ks : List Kept = held best t.5.0 ∷ n.0.read.kept in
      let hs : List ℕ = best.slot ∷ n.0.slot.holds in
      let s = joined layout bucket key least passes t₀ m m₁ out done last n n' b t.0 t.3 in
      subst (λ (k : Packet). NoneKnown m.0 bucket key least (rank_of k (words_of best.card)) t₀) s.key
      (known-told bucket key least t₀ m n' t.0 ks hs t.7 (from-start layout bucket key least passes t₀ m m₁ out done last n n' b t.0 ks hs t.7 at) s (rank_of t.0.key (words_of best.card))
      (told t.0 (held best t.5.0) n.0.read.kept (ap (λ (x : Sat). x.0.read.reader) at) (ap (λ (x : Sat). x.0.read.kept) at)))
