-- The reaping of so many TIME_WAITs at most.
use Rattle.std.proofs.Common.{◌≡◌, ◌≢◌, ℕ, ◌+◌, ◌-◌, ◌≤◌, List, drop, length, Some, None, Result, Ok, Err, refl, sym, ap, ◌∙◌, subst, arith}
use Rattle.std.specs.Prelude.{IfOk, OnErr}
use Rattle.turn_table.specs.Passes as words
use Rattle.flat_list.specs.declared.command.Command.TheVariants as commands
use Rattle.flat_list.specs.declared.command.Reply.TheVariants as replies
use Rattle.flat_list.specs.declared.header.Header.{Header}
use Rattle.table_model.specs.declared.operation.Cause.{Cause}
use Rattle.race_record.specs.Goes.{Goes}
use Rattle.table_model.specs.Asking.{Asking}
use Rattle.table_model.specs.Commands.{Replied, answers, plan, reap_command}
use Rattle.table_model.specs.Own.{Own, Mine, Offsets}
use Rattle.sock_ops.specs.declared.tables.Tables.{Tables}
use Rattle.sock_ops.specs.declared.tables.Worker.{Worker}
use Rattle.sock_ops.specs.Stands.{IsReady, buckets_of, turned, chained}
use Rattle.section_machine.specs.LeftOff.{IsLeftOff, LeftOff, StopsReaping}
use Rattle.section_machine.specs.Places.{Labelled, own_of}
use Rattle.section_machine.specs.Reaping.{ReapsFirst, ReapsMost}
use Rattle.section_machine.specs.Sections.{Kept, kept}
use Rattle.section_machine.specs.Standing.{AreOf, IsSection}
use Rattle.section_machine.specs.Waits.{first_over}
use Rattle.section_machine.specs.declared.reaping.Gone.{Gone}
use Rattle.section_machine.specs.declared.reaping.Gone.TheVariants as reapings
use Rattle.section_machine.proofs.LeftOff.{reap_left, reap_left_behind}
use Rattle.section_machine.proofs.Reaped.{reaped_so, stopped_so}
use Rattle.section_machine.proofs.Reaps.{Reaping, heads, reaps_all, keeps_rest}

-- some were reaped so far, and so many more may be
pub record Bounded (t : Tables) (old now : Worker) (all left : List Mine) (moment count most more : ℕ) : Type 0 where
  pub reaping : Reaping t old now all left moment count
  pub bound : length all + more ≡ length left + most

-- one more
one_less : (moment : ℕ) (left rest : List Mine) (w : Mine) → first_over moment left ≡ Some w → rest ≡ drop 1 left → length left ≡ length rest + 1
one_less moment left rest w first behind =
    let h = heads moment left w first in
    let same : rest ≡ h.rest = behind ∙ ap (drop 1) h.is in
    omega (arith, ap length h.is, ap length same)

pub one_more : (t : Tables) (old now new : Worker) (all left rest : List Mine) (moment count next most more : ℕ) (w : Mine) → Bounded t old now all left moment count most more → more ≢ 0 → first_over moment left ≡ Some w → rest ≡ drop 1 left
    → Reaping t old new all rest moment next → Bounded t old new all rest moment next most (more - 1)
one_more t old now new all left rest moment count next most more w b some first behind reaping =
    let bound = b.bound in
    record { reaping = reaping; bound = omega (arith, bound, one_less moment left rest w first behind, some) }

-- none that is left is over
pub first_all : (t : Tables) (old now : Worker) (all left : List Mine) (moment count most more : ℕ) → Bounded t old now all left moment count most more → first_over moment left ≡ None
    → ReapsFirst (buckets_of t) all moment (turned old) (turned now) (chained t old) (chained t now) left most (reapings.All count)
first_all t old now all left moment count most more b none =
    (reaps_all t old now all left moment count b.reaping none, keeps_rest t old now all left moment count b.reaping none)

-- the first that is left is over
pub first_more : (t : Tables) (old now : Worker) (all left : List Mine) (moment count most more : ℕ) (w : Mine) → Bounded t old now all left moment count most more → more ≡ 0 → first_over moment left ≡ Some w
    → ReapsFirst (buckets_of t) all moment (turned old) (turned now) (chained t old) (chained t now) left most (reapings.More count)
first_more t old now all left moment count most more w b none first =
    let r = b.reaping in
    let bound = b.bound in (
      record {
        front = record { gone = r.gone; split = r.split; over = r.over; at = w; first = first };
        reaped = count;
        went = r.went;
      },
      refl,
      omega (arith, bound, none),
    )

-- what a section comes to by it
module _ (t : Tables) (k : Kept) (header : Header) (l : Labelled) (moment : ℕ) (o : Offsets) (waits after : List Mine) (w u : Worker) (view : kept header (own_of l moment o waits) ≡ k) (section : IsSection t k w)
    (ready : IsReady t u) (caller : words.caller u.turns ≡ words.caller w.turns) (most : ℕ) where
  abbrev new : Kept
  new = kept header (own_of l moment o after)

  waits_are : waits ≡ k.own.waits
  waits_are = ap (λ (x : Kept). x.own.waits) view

  abbrev First : Gone → Type 0
  First = ReapsFirst (buckets_of t) waits moment (turned w) (turned u) (chained t w) (chained t u) after most

  abbrev Most : Gone → Type 0
  Most = ReapsMost k.header k.own most (turned w) (turned u) (chained t w) (chained t u) new.own

  reap_plan : plan k.header k.own commands.Reap ≡ reap_command k.own
  unfolding plan
  reap_plan = refl

  most_of : (r : Gone) → First r → Most r
  most_of (reapings.All n) first =
      let c = reaped_so t k header l moment o waits after w u view section ready caller n first.0 first.1 in
      record {
        deeds = c.deeds;
        goes = subst (λ (p : Asking Replied). Goes p c.deeds (answers new.own (replies.Count n))) (sym reap_plan) c.goes;
        gave = c.gave;
        does = c.does;
      }
  most_of (reapings.More n) first =
      let left = reap_left_behind t header l moment o waits after w u k view section.tables n first.0 first.1 in
      (left.0, left.1, ap length (sym waits_are) ∙ first.2)

  section_of : (r : Gone) → First r → IsSection t new u
  section_of (reapings.All n) first = (reaped_so t k header l moment o waits after w u view section ready caller n first.0 first.1).section
  section_of (reapings.More n) first = stopped_so t k header l moment o waits after w u view section ready caller first.0

  abbrev Stops : Type 0
  Stops = StopsReaping (buckets_of t) waits moment (turned w) (turned u) (chained t w) (chained t u) after

  pub reaps_most : {E : Type 0} (r : Result Gone E) → IfOk r First → IfOk r Most
  reaps_most (Ok r) first = most_of r first
  reaps_most (Err e) first = tt

  pub section_most : {E : Type 0} (r : Result Gone E) → IfOk r First → OnErr r Stops → IsSection t new u
  section_most (Ok r) first stops = section_of r first
  section_most (Err e) first stops = stopped_so t k header l moment o waits after w u view section ready caller stops

  pub left_most : {E : Type 0} (r : Result Gone E) → OnErr r Stops → OnErr r (LeftOff k.header k.own commands.Reap (turned w) (turned u) (chained t w) (chained t u) new.own)
  left_most (Ok r) stops = tt
  left_most (Err e) stops = reap_left t header l moment o waits after w u k view section.tables stops
