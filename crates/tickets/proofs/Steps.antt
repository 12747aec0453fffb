-- Each kind of step keeps the rule.
use Rattle.std.proofs.Common.{◌≡◌, ◌≢◌, ℕ, ◌+◌, ◌%◌, ◌^◌, ◌<◌, ◌≤◌, List, [], ◌∷◌, ◌++◌, length, min, get_or, set, sym, refl, ap, ◌∙◌, subst, ⊎_elim, arith, length-set, get_or-set_same}
use mathlib.Core.Option.{none, some}
use lib.ListN.{get_elem?}
use lib.Seq.{set-get_or}
use Rattle.std.proofs.lemmas.Bool.{cases_lt}
use Rattle.atomic_table.specs.Table.{State, step, keeps, Allows, Splits, Joins}
use Rattle.atomic_table.proofs.Lists.{set_else, set_again}
use Rattle.list_words.specs.Lists.{SameItems, total}
use Rattle.list_words.proofs.TotalLemmas.{total-append, total-ones}
use Rattle.list_words.proofs.PlaceLemmas.{each_set, each_set_snoc, each_set_two, total-set, term_le, terms_le, total-alone}
use Rattle.turn_table.specs.Journals.{numbers_below}
use Rattle.tickets.specs.Views.{all_parts, newcomer, nobody, cut, joined, drawing, missing}
use Rattle.tickets.specs.Numbered.{Knows, misses, AllDrawn, Numbered}
use Rattle.tickets.specs.Plays.{Sat, took, saw}
use Rattle.tickets.specs.declared.view.TicketView.{TicketView}
use Rattle.tickets.proofs.Numbers.{total-sum, total-le, below_more, below_ones, misses_more, misses_less, misses_draw, misses_miss, misses_cut, misses_joined}

abbrev St : Type 0
St = State (Unit {0}) TicketView

abbrev part_of : TicketView → ℕ
part_of v = v.parts

abbrev weigh : (ℕ → ℕ) → TicketView → ℕ
weigh f v = total f v.drawn + total f v.vain

abbrev weigh_drawn : (ℕ → ℕ) → TicketView → ℕ
weigh_drawn f v = total f v.drawn

abbrev one : ℕ → ℕ
one x = 1

module _ (n x : ℕ) (views : List TicketView) (o : AllDrawn n x views) where
  -- of the draws so many were in vain
  in_vain : x ≡ min x n + total (λ (v : TicketView). total one v.vain) views
  in_vain = omega (arith, o.all one, o.drawn one, below_ones x, below_ones (min x n), total-sum (λ (v : TicketView). total one v.drawn) (λ (v : TicketView). total one v.vain) views)

  -- and these are few
  pub draws_few : x ≤ n + all_parts
  draws_few = omega (arith, in_vain, total-le (λ (v : TicketView). total one v.vain) (misses n) views (λ (v : TicketView). omega (arith, total-ones v.vain, misses_more n v)), o.few)

  module _ (id : ℕ) (v : TicketView) (me : get_elem? views id ≡ some v) where
    -- who drew in vain knows that no number is left
    pub missed_past : 0 < length v.vain → n ≤ x
    missed_past some-vain = omega (arith, in_vain, term_le (λ (u : TicketView). total one u.vain) views id v me, total-ones v.vain)

    -- a pass with all parts has drawn what was drawn
    others_idle : v.parts ≡ all_parts → (k : ℕ) (u : TicketView) → k ≢ id → get_elem? views k ≡ some u → (u.drawn ≡ []) × (u.vain ≡ [])
    others_idle whole k u other e = (o.knows k u e).idle (omega (arith, terms_le part_of views id k v u other me e, o.parts))

    pub all_mine : v.parts ≡ all_parts → SameItems (v.drawn ++ v.vain) (numbers_below x)
    all_mine whole f =
        let alone : total (weigh f) views ≡ weigh f v = total-alone (weigh f) views id v me (λ k u other e. let i = others_idle whole k u other e in omega (arith, ap (total f) i.0, ap (total f) i.1)) in
        omega (arith, total-append f v.drawn v.vain, alone, o.all f)

    pub drawn_mine : v.parts ≡ all_parts → (f : ℕ → ℕ) → total f v.drawn ≡ total f (numbers_below (min x n))
    drawn_mine whole f =
        let alone : total (weigh_drawn f) views ≡ weigh_drawn f v = total-alone (weigh_drawn f) views id v me (λ k u other e. let i = others_idle whole k u other e in ap (total f) i.0) in
        omega (arith, alone, o.drawn f)

    -- once all numbers below n were drawn
    pub below_mine : v.parts ≡ all_parts → n ≤ x → SameItems v.drawn (numbers_below n)
    below_mine whole past f = let e : min x n ≡ n = omega arith in drawn_mine whole f ∙ ap (λ (k : ℕ). total f (numbers_below k)) e

    -- the count of an open pass with all parts
    pub count_mine : v.parts ≡ all_parts → v.seen ≤ n → (min x n ≡ length v.drawn)
    count_mine whole before = omega (arith, drawn_mine whole one, below_ones (min x n), total-ones v.drawn)

    module _ (before : v.seen ≤ n) (some-part : 0 < v.parts) where
      mine : Knows n x v
      mine = o.knows id v me

      -- what the others know is still so
      still : (u : TicketView) → Knows n x u → Knows n (x + 1) u
      still u q = record { limit = q.limit; seen = omega (arith, q.seen); idle = q.idle }

      -- the number is a ticket
      pub draws_ticket : x < n → AllDrawn n (x + 1) (set views id (drawing v x))
      draws_ticket inside =
          let w : TicketView = drawing v x in
          let next : min (x + 1) n ≡ x + 1 = omega arith in
          let here : min x n ≡ x = omega arith in
          record {
            parts = omega (arith, total-set part_of views id v w me, o.parts);
            all = λ f. omega (arith, total-set (weigh f) views id v w me, total-append f v.drawn (x ∷ []), o.all f, below_more f x);
            drawn = λ f. omega (arith, total-set (weigh_drawn f) views id v w me, total-append f v.drawn (x ∷ []), o.drawn f, below_more f x, ap (λ (k : ℕ). total f (numbers_below k)) next, ap (λ (k : ℕ). total f (numbers_below k)) here);
            few = omega (arith, total-set (misses n) views id v w me, misses_draw n x v before inside, o.few);
            knows = each_set views id w (Knows n (x + 1))
                record {
                  limit = mine.limit;
                  seen = omega arith;
                  idle = λ z. absurd (omega arith);
                }
                (λ k u _ e. still u (o.knows k u e));
          }

      -- the number is drawn in vain
      pub draws_vain : n ≤ x → AllDrawn n (x + 1) (set views id (missing v x))
      draws_vain past =
          let w : TicketView = missing v x in
          let same : min (x + 1) n ≡ min x n = omega arith in
          record {
            parts = omega (arith, total-set part_of views id v w me, o.parts);
            all = λ f. omega (arith, total-set (weigh f) views id v w me, total-append f v.vain (x ∷ []), o.all f, below_more f x);
            drawn = λ f. omega (arith, total-set (weigh_drawn f) views id v w me, o.drawn f, ap (λ (k : ℕ). total f (numbers_below k)) same);
            few = omega (arith, total-set (misses n) views id v w me, misses_miss n x v before past some-part, o.few);
            knows = each_set views id w (Knows n (x + 1))
                record {
                  limit = mine.limit;
                  seen = omega arith;
                  idle = λ z. absurd (omega arith);
                }
                (λ k u _ e. still u (o.knows k u e));
          }

-- a draw
pub draws : (n slots id : ℕ) (m : Sat) → m.0.seen ≤ n → 0 < m.0.parts → Allows (Numbered n) slots id m 0 (λ k. (k + 1) % 2 ^ 64) (took (step slots 0 1 0 none) m)
draws n slots id m before some-part s o len me fits =
    let v : TicketView = m.0 in
    let x : ℕ = get_or s.words 0 0 in
    let limit : v.limit ≡ n = (o.draws.knows id v me).limit some-part in
    let low : x ≤ n + all_parts = draws_few n x s.views o.draws in
    let short : n < 4294967296 = o.short in
    let new : ℕ = (x + 1) % 2 ^ 64 in
    let wide = o.wide in
    let here : get_or (set s.words 0 new) 0 0 ≡ x + 1 = omega (arith, get_or-set_same s.words 0 new 0 (omega arith)) in
    let later : v.seen ≤ x = (o.draws.knows id v me).seen in
    let alone : v.parts ≡ all_parts → (min x n ≡ length v.drawn) = λ whole. count_mine n x s.views o.draws id v me whole before in
    ⊎_elim
    (λ (inside : x < n). (
      drawing v x,
      keeps,
      tt,
      record {
        wide = length-set s.words 0 new ∙ o.wide;
        short = short;
        draws = subst (λ (c : ℕ). AllDrawn n c (set s.views id (drawing v x))) (sym here) (draws_ticket n x s.views o.draws id v me before some-part inside);
      },
      record {
        later = later;
        inside = λ z. refl;
        past = λ z. absurd (omega arith);
        alone = λ whole. omega (arith, alone whole);
      },
    ))
    (λ (past : n ≤ x). (
      missing v x,
      keeps,
      tt,
      record {
        wide = length-set s.words 0 new ∙ o.wide;
        short = short;
        draws = subst (λ (c : ℕ). AllDrawn n c (set s.views id (missing v x))) (sym here) (draws_vain n x s.views o.draws id v me before some-part past);
      },
      record {
        later = later;
        inside = λ z. absurd (omega arith);
        past = λ z. refl;
        alone = λ whole. omega (arith, alone whole);
      },
    ))
    (cases_lt x n)

-- a load of the count
pub looks : (n slots id : ℕ) (m : Sat) → 0 < m.0.parts → Allows (Numbered n) slots id m 0 (λ k. k) (saw (step slots 0 0 0 none) m)
looks n slots id m some-part s o len me fits =
    let v : TicketView = m.0 in
    let x : ℕ = get_or s.words 0 0 in
    let limit : v.limit ≡ n = (o.draws.knows id v me).limit some-part in (
      v,
      keeps,
      tt,
      rw (set-get_or s.words 0 0, set_again s.views id v me) o,
      record {
        is = refl;
        later = (o.draws.knows id v me).seen;
        past = λ some-vain. omega (arith, missed_past n x s.views o.draws id v me some-vain);
        all = λ whole. all_mine n x s.views o.draws id v me whole;
        below = λ whole past. subst (λ (k : ℕ). SameItems v.drawn (numbers_below k)) (sym limit) (below_mine n x s.views o.draws id v me whole (omega arith));
      },
    )

pub splits : (n id : ℕ) (v : TicketView) → 1 < v.parts → Splits (Numbered n) id v (cut v) (newcomer v.limit v.seen)
splits n id v more s o me =
    let w : TicketView = cut v in
    let u : TicketView = newcomer v.limit v.seen in
    let x : ℕ = get_or s.words 0 0 in
    let d : AllDrawn n x s.views = o.draws in
    let mine : Knows n x v = d.knows id v me in
    let two : (f : TicketView → ℕ) → total f (set s.views id w ++ u ∷ []) + f v ≡ total f s.views + f w + f u = λ f. omega (arith, total-append f (set s.views id w) (u ∷ []), total-set f s.views id v w me) in
    record {
      wide = o.wide;
      short = o.short;
      draws = record {
        parts = omega (arith, two part_of, d.parts);
        all = λ f. omega (arith, two (weigh f), d.all f);
        drawn = λ f. omega (arith, two (weigh_drawn f), d.drawn f);
        few = omega (arith, two (misses n), misses_cut n v (omega arith), d.few);
        knows = each_set_snoc s.views id w u (Knows n x)
            record { limit = λ z. mine.limit (omega arith); seen = mine.seen; idle = λ z. absurd (omega arith) }
            record { limit = λ z. mine.limit (omega arith); seen = mine.seen; idle = λ z. (refl, refl) }
            (λ k q _ e. d.knows k q e);
      };
    }

pub joins : (n id : ℕ) (v : TicketView) (other : ℕ) (w : TicketView) → 0 < v.parts → Joins (Numbered n) id v other w (joined v w) nobody
joins n id v other w some-part s o me apart there =
    let b : TicketView = joined v w in
    let x : ℕ = get_or s.words 0 0 in
    let d : AllDrawn n x s.views = o.draws in
    let before : get_elem? s.views other ≡ some w = sym (set_else s.views id other b apart) ∙ there in
    let mine : Knows n x v = d.knows id v me in
    let its : Knows n x w = d.knows other w before in
    let two : (f : TicketView → ℕ) → total f (set (set s.views id b) other nobody) + f w + f v ≡ total f s.views + f b + f nobody = λ f. omega (arith, total-set f (set s.views id b) other w nobody there, total-set f s.views id v b me) in
    record {
      wide = o.wide;
      short = o.short;
      draws = record {
        parts = omega (arith, two part_of, d.parts);
        all = λ f. omega (arith, two (weigh f), total-append f v.drawn w.drawn, total-append f v.vain w.vain, d.all f);
        drawn = λ f. omega (arith, two (weigh_drawn f), total-append f v.drawn w.drawn, d.drawn f);
        few = omega (arith, two (misses n), misses_joined n v w, misses_less n nobody, d.few);
        knows = each_set_two s.views id other b nobody (Knows n x)
            record {
              limit = λ z. mine.limit some-part;
              seen = omega (arith, mine.seen, its.seen);
              idle = λ z. absurd (omega arith);
            }
            record { limit = λ z. absurd (omega arith); seen = omega arith; idle = λ z. (refl, refl) }
            (λ k u e. d.knows k u e);
      };
    }
