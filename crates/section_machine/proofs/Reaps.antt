-- The TIME_WAITs of a section, one after the other.
use Rattle.std.proofs.Common.{◌≡◌, ℕ, ◌+◌, ◌*◌, ◌≤◌, Bool, true, false, not, cond, List, [], ◌∷◌, ◌++◌, append_assoc, length, filter, drop, Some, None, refl, sym, ap, subst, ◌∙◌, arith}
use Rattle.std.proofs.lemmas.Bool.Decides.{nat_tests}
use Rattle.list_words.specs.Lists.{Each}
use Rattle.list_words.proofs.EachLemmas.{each_push}
use Rattle.turn_table.specs.Passes as words
use Rattle.table_rule.specs.Calls.{HasShares}
use Rattle.bind_buckets.specs.Turned.{Gave}
use Rattle.sock_ops.specs.Made.{Does}
use Rattle.sock_ops.specs.Sides.{Side}
use Rattle.table_model.specs.Asking.{Asking, ends}
use Rattle.table_model.specs.Own.{Mine, is_over}
use Rattle.table_model.specs.Operations.{reap, reap_each, kept_waits}
use Rattle.sock_ops.specs.declared.tables.Tables.{Tables}
use Rattle.sock_ops.specs.declared.tables.Worker.{Worker}
use Rattle.sock_ops.specs.Goes.{Went}
use Rattle.sock_ops.specs.Groups.{KeepsLists}
use Rattle.sock_ops.specs.Reaping.{ReapsOne, counted}
use Rattle.sock_ops.specs.Spends.{Draws}
use Rattle.sock_ops.specs.Stands.{IsReady, MayDraw, MayEnter, buckets_of, turned, chained}
use Rattle.sock_ops.proofs.Goes.{does_none, went_both, went_nowhere}
use Rattle.section_machine.specs.LeftOff.{StopsReaping}
use Rattle.section_machine.specs.Waits.{AreBefore, AreInOrder, first_over}
use Rattle.section_machine.proofs.Published.{rests_listed, goes_listed}

-- those that are over
abbrev pub overs : ℕ → List Mine → List Mine
overs moment waits = filter (is_over moment) waits

-- some were reaped so far, and these are left
pub record Reaping (t : Tables) (old now : Worker) (all left : List Mine) (moment count : ℕ) : Type 0 where
  pub ready : IsReady t now
  pub caller : words.caller now.turns ≡ words.caller old.turns
  pub entered : words.draws now.turns + length left ≤ words.draws old.turns + length all
  pub drawn : (more : ℕ) → MayDraw (more + 2 * length all) old → MayDraw (more + 2 * length left) now
  pub went : Went (buckets_of t) (reap_each (overs moment all) 0) (turned old) (turned now) (chained t old) (chained t now) (reap_each (overs moment left) count)
  pub kept : kept_waits all moment ≡ kept_waits left moment
  pub few : count + length left ≤ length all
  pub order : AreInOrder left
  pub before : AreBefore moment left
  pub listed : KeepsLists t old now
  pub gone : List Mine
  pub split : all ≡ gone ++ left
  pub over : Each (λ (w : Mine). is_over moment w ≡ true) gone

pub begins : (t : Tables) (w : Worker) (waits : List Mine) (moment : ℕ) → IsReady t w → AreInOrder waits → AreBefore moment waits → Reaping t w w waits waits moment 0
begins t w waits moment ready order before =
    record {
      ready = ready;
      caller = refl;
      entered = omega arith;
      drawn = λ more may. may;
      went = went_nowhere (buckets_of t) (reap_each (overs moment waits) 0) (turned w) (chained t w);
      kept = refl;
      few = omega arith;
      order = order;
      before = before;
      listed = rests_listed t w;
      gone = [];
      split = refl;
      over = tt;
    }

is_first_by : (b : Bool) (x w : Mine) → cond b (Some x) None ≡ Some w → (b ≡ true) × (x ≡ w)
is_first_by true x w e = (refl, let same : x ≡ w = cc in same)
is_first_by false x w e = absurd (let no : None ≡ Some w = e in cc)

-- the first, and those behind it
pub record Heads (moment : ℕ) (waits : List Mine) (w : Mine) : Type 0 where
  pub rest : List Mine
  pub is : waits ≡ w ∷ rest
  pub over : is_over moment w ≡ true

pub heads : (moment : ℕ) (waits : List Mine) (w : Mine) → first_over moment waits ≡ Some w → Heads moment waits w
heads moment [] w e = absurd (let no : None ≡ Some w = e in cc)
heads moment (x ∷ rest) w e =
    let is = is_first_by (is_over moment x) x w e in
    record { rest = rest; is = ap (λ (y : Mine). y ∷ rest) is.1; over = ap (is_over moment) (sym is.1) ∙ is.0 }

pub some_left : (moment : ℕ) (waits : List Mine) (w : Mine) → first_over moment waits ≡ Some w → 1 ≤ length waits
some_left moment waits w e = let h = heads moment waits w e in omega (arith, ap length h.is)

counted_few : (count : ℕ) (found : Bool) → counted count found ≤ count + 1
counted_few count true = omega arith
counted_few count false = omega arith

-- one more
module _ (t : Tables) (old now new : Worker) (all left rest : List Mine) (moment count : ℕ) (w : Mine) (found : Bool) (r : Reaping t old now all left moment count) (first : first_over moment left ≡ Some w) (behind : rest ≡ drop 1 left) where
  split : left ≡ w ∷ rest
  split =
      let h = heads moment left w first in
      h.is ∙ ap (λ (xs : List Mine). w ∷ xs) (sym (behind ∙ ap (drop 1) h.is))

  is_last : is_over moment w ≡ true
  is_last = (heads moment left w first).over

  over_then : overs moment left ≡ w ∷ overs moment rest
  over_then = ap (overs moment) split ∙ ap (λ (b : Bool). cond b (w ∷ overs moment rest) (overs moment rest)) is_last

  kept_then : kept_waits left moment ≡ kept_waits rest moment
  kept_then =
      ap (λ (xs : List Mine). kept_waits xs moment) split
      ∙ ap (λ (b : Bool). cond (not b) (w ∷ kept_waits rest moment) (kept_waits rest moment)) is_last

  more : length left ≡ length rest + 1
  more = omega (arith, ap length split)

  pub goes_on : IsReady t new → words.caller new.turns ≡ words.caller now.turns → words.draws new.turns ≤ words.draws now.turns + 1 → Draws 2 now new
      → ReapsOne (buckets_of t) w found (turned now) (turned new) (chained t now) (chained t new) → KeepsLists t now new → Reaping t old new all rest moment (counted count found)
  goes_on ready caller entered drawn reaps listed =
      let long = more in
      let so_far = r.entered in
      let so_few = r.few in
      let one = counted_few count found in
      let next : Asking ℕ = reap_each (overs moment rest) (counted count found) in
      record {
        ready = ready;
        caller = caller ∙ r.caller;
        entered = omega arith;
        drawn = λ n may.
            let had : MayDraw (n + 2 * length left) now = r.drawn n may in
            drawn (n + 2 * length rest) (omega arith);
        went = went_both (buckets_of t) (reap_each (overs moment all) 0) (reap_each (overs moment left) count) next (turned old) (turned now) (turned new) (chained t old) (chained t now) (chained t new) r.went
            (subst (λ (xs : List Mine). Went (buckets_of t) (reap_each xs count) (turned now) (turned new) (chained t now) (chained t new) next) (sym over_then) (reaps (overs moment rest) count));
        kept = r.kept ∙ kept_then;
        few = omega arith;
        order = (subst AreInOrder split r.order).1;
        before = (subst (AreBefore moment) split r.before).1;
        listed = goes_listed t old now new r.listed listed;
        gone = r.gone ++ w ∷ [];
        split = r.split ∙ (ap (λ (xs : List Mine). r.gone ++ xs) split ∙ sym (append_assoc r.gone (w ∷ []) rest));
        over = each_push (λ (x : Mine). is_over moment x ≡ true) r.gone w r.over is_last;
      }

-- what the next one takes is there
module _ (t : Tables) (old now : Worker) (all left : List Mine) (moment count : ℕ) (w : Mine) (r : Reaping t old now all left moment count) (first : first_over moment left ≡ Some w) where
  pub enters_one : MayEnter (length all) old → MayEnter 1 now
  enters_one may =
      let some = some_left moment left w first in
      let so_far = r.entered in
      omega arith

  pub draws_one : MayDraw (2 * length all) old → MayDraw 2 now
  draws_one may =
      let some = some_left moment left w first in
      let had : MayDraw (0 + 2 * length left) now = r.drawn 0 (omega arith) in
      omega arith

-- one that isn't over is followed by none that is
later_stays : (moment : ℕ) (x y : Mine) → is_over moment x ≡ false → x.extra ≤ y.extra → is_over moment y ≡ false
later_stays moment x y not_over le = grind (arith, nat_tests)

none_over : (moment : ℕ) (x : Mine) (ys : List Mine) → is_over moment x ≡ false → Each (λ (y : Mine). x.extra ≤ y.extra) ys → (overs moment ys ≡ []) × (kept_waits ys moment ≡ ys)
none_over moment x [] e le = (refl, refl)
none_over moment x (y ∷ ys) e le =
    let here : is_over moment y ≡ false = later_stays moment x y e le.0 in
    let more = none_over moment x ys e le.1 in
    (rw here more.0, rw here (ap (λ (xs : List Mine). y ∷ xs) more.1))

not_first : (b : Bool) (x : Mine) → cond b (Some x) None ≡ None → b ≡ false
not_first true x e = absurd (let no : Some x ≡ None = e in cc)
not_first false x e = refl

rest_stays : (moment : ℕ) (ws : List Mine) → first_over moment ws ≡ None → AreInOrder ws → (overs moment ws ≡ []) × (kept_waits ws moment ≡ ws)
rest_stays moment [] e order = (refl, refl)
rest_stays moment (x ∷ ws) e order =
    let here : is_over moment x ≡ false = not_first (is_over moment x) x e in
    let more = none_over moment x ws here order.0 in
    (rw here more.0, rw here (ap (λ (xs : List Mine). x ∷ xs) more.1))

-- none that is left is over
module _ (t : Tables) (old now : Worker) (all left : List Mine) (moment count : ℕ) (r : Reaping t old now all left moment count) (none : first_over moment left ≡ None) where
  pub reaps_all : Went (buckets_of t) (reap all moment) (turned old) (turned now) (chained t old) (chained t now) (ends count)
  reaps_all =
      subst (λ (xs : List Mine). Went (buckets_of t) (reap_each (overs moment all) 0) (turned old) (turned now) (chained t old) (chained t now) (reap_each xs count))
      (rest_stays moment left none r.order).0 r.went

  pub keeps_rest : left ≡ kept_waits all moment
  keeps_rest = sym (r.kept ∙ (rest_stays moment left none r.order).1)

-- memory was wanting for the next one
pub stops : (t : Tables) (old now new : Worker) (all left : List Mine) (moment count : ℕ) → Reaping t old now all left moment count → IsReady t new → words.caller new.turns ≡ words.caller now.turns → Gave (turned now) (turned new) [] → chained t new ≡ chained t now → KeepsLists t now new
    → Reaping t old new all left moment count
stops t old now new all left moment count r ready caller gave same listed =
    let so_far = r.entered in
    let none = gave.draws in
    record {
      ready = ready;
      caller = caller ∙ r.caller;
      entered = omega arith;
      drawn = λ n may. subst (λ (s : Side). HasShares (n + 2 * length left) s.view) (sym same) (r.drawn n may);
      went = went_both (buckets_of t) (reap_each (overs moment all) 0) (reap_each (overs moment left) count) (reap_each (overs moment left) count) (turned old) (turned now) (turned new) (chained t old) (chained t now) (chained t new) r.went
          (record {
            deeds = [];
            leads = refl;
            gave = gave;
            does = subst (λ (s : Side). Does [] (chained t now) s) (sym same) (does_none (chained t now));
          });
      kept = r.kept;
      few = r.few;
      order = r.order;
      before = r.before;
      listed = goes_listed t old now new r.listed listed;
      gone = r.gone;
      split = r.split;
      over = r.over;
    }

-- and that is how far the reaping went
pub stopped : (t : Tables) (old now : Worker) (all left : List Mine) (moment count : ℕ) (w : Mine) → Reaping t old now all left moment count → first_over moment left ≡ Some w
    → StopsReaping (buckets_of t) all moment (turned old) (turned now) (chained t old) (chained t now) left
stopped t old now all left moment count w r first =
    record { front = record { gone = r.gone; split = r.split; over = r.over; at = w; first = first }; reaped = count; went = r.went }
