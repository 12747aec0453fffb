-- What a section has once TIME_WAITs of its own were reaped.
use Rattle.std.proofs.Common.{◌≡◌, ℕ, ◌+◌, ◌*◌, ◌≤◌, Bool, true, false, List, [], ◌∷◌, length, filter, sym, ap, subst, arith}
use Rattle.turn_table.specs.Passes as words
use Rattle.sock_card.specs.declared.card.Card.{Card}
use Rattle.flat_list.specs.declared.header.Header.{Header}
use Rattle.flat_list.specs.declared.command.Reply.TheVariants as replies
use Rattle.race_record.specs.Deeds.{entries_in}
use Rattle.table_model.specs.Asking.{Asking, ends}
use Rattle.table_model.specs.Own.{Own, Mine, Offsets, is_over}
use Rattle.table_model.specs.Operations.{reap, reap_each, reaped_next, kept_waits}
use Rattle.table_model.specs.Commands.{answers, reap_command}
use Rattle.sock_ops.specs.declared.tables.Tables.{Tables}
use Rattle.sock_ops.specs.declared.tables.Worker.{Worker}
use Rattle.sock_ops.specs.Goes.{Went}
use Rattle.sock_ops.specs.Stands.{IsReady, MayDraw, buckets_of, turned, chained}
use Rattle.section_machine.specs.Carried.{Carries, Spends}
use Rattle.section_machine.specs.LeftOff.{StopsReaping}
use Rattle.section_machine.specs.Places.{Labelled, own_of}
use Rattle.section_machine.specs.Sections.{Kept, kept}
use Rattle.section_machine.specs.Standing.{IsSection, Tells, roll_of}
use Rattle.section_machine.proofs.Asked.{AllAsk, asked_so, IsPast}
use Rattle.section_machine.proofs.Rolls.{reaps_past}
use Rattle.section_machine.proofs.Settled.{then_ends}
use Rattle.section_machine.proofs.Stays.{none_left}

abbrev NoCard : Card → Type 0
NoCard card = ⊥

abbrev AnyCount : ℕ → Type 0
AnyCount count = Unit {0}

abbrev IsReaping : Asking ℕ → Type 0
IsReaping p = AllAsk IsPast NoCard AnyCount p

of_next : (w : Mine) (count : ℕ) (next : ℕ → Asking ℕ) → ((n : ℕ) → IsReaping (next n)) → (found : Bool) → IsReaping (reaped_next w count next found)
of_next w count next h true = (tt, λ answer. h (count + 1))
of_next w count next h false = h count

of_reap : (waits : List Mine) (count : ℕ) → IsReaping (reap_each waits count)
of_reap [] count = tt
of_reap (w ∷ rest) count = of_next w count (reap_each rest) (of_reap rest)

-- the numbers that were taken
pub reap_spends : (old new : Kept) (w u : Worker) (before after : List Mine) → old.own.waits ≡ before → new.own.waits ≡ after
    → words.draws u.turns + length after ≤ words.draws w.turns + length before → ((more : ℕ) → MayDraw (more + 2 * length before) w → MayDraw (more + 2 * length after) u) → Spends old new w u
reap_spends old new w u before after old_is new_is entered drawn =
    let had = ap length old_is in
    let has = ap length new_is in
    record {
      entered = omega arith;
      drawn = λ more may. let far : MayDraw (more + 6 + 2 * length after) u = drawn (more + 6) (omega arith) in omega arith;
    }

module _ (t : Tables) (k : Kept) (header : Header) (l : Labelled) (moment : ℕ) (o : Offsets) (waits after : List Mine) (w u : Worker) (view : kept header (own_of l moment o waits) ≡ k) (section : IsSection t k w)
    (ready : IsReady t u) (caller : words.caller u.turns ≡ words.caller w.turns) where
  abbrev own : Own
  own = own_of l moment o waits

  was : IsSection t (kept header own) w
  was = subst (λ (x : Kept). IsSection t x w) (sym view) section

  abbrev GoesTo : ℕ → Asking ℕ → Type 0
  GoesTo n rest = Went n (reap waits moment) (turned w) (turned u) (chained t w) (chained t u) rest

  planned : (rest : Asking ℕ) → GoesTo (buckets_of t) rest → GoesTo header.shape.bind rest
  planned rest went = subst (λ (n : ℕ). GoesTo n rest) was.tables.buckets went

  -- the section without them, as far as the plan went
  section_after : (rest : Asking ℕ) → GoesTo header.shape.bind rest → IsSection t (kept header (own_of l moment o after)) u
  section_after rest went =
      let asked = asked_so IsPast NoCard AnyCount header.shape.bind (reap waits moment) rest went.deeds went.leads (of_reap (filter (is_over moment) waits) 0) in
      let now = reaps_past t (roll_of own) (turned w) (turned u) (chained t w) (chained t u) (entries_in header.shape.bind went.deeds) went.deeds
      (record { gave = went.gave; does = went.does }) was.tells (record { all = was.stand; unspoken = was.unspoken })
      asked.entries (λ a. none_left a went.deeds asked.unhashed) in
      record {
        tables = record { shape = was.tables.shape; seed = was.tables.seed; buckets = was.tables.buckets };
        ready = ready;
        number = was.number;
        tells = subst (λ (c : ℕ). Tells c l.number) (sym caller) was.tells;
        stand = now.all;
        unspoken = now.unspoken;
      }

  pub stopped_so : StopsReaping (buckets_of t) waits moment (turned w) (turned u) (chained t w) (chained t u) after → IsSection t (kept header (own_of l moment o after)) u
  stopped_so s =
      let rest = reap_each (filter (is_over moment) after) s.reaped in
      section_after rest (planned rest s.went)

  pub reaped_so : (count : ℕ) → GoesTo (buckets_of t) (ends count) → after ≡ kept_waits waits moment → Carries t k (reap_command k.own) (kept header (own_of l moment o after)) w u (replies.Count count)
  reaped_so count went left =
      subst (λ (x : Kept). Carries t x (reap_command x.own) (kept header (own_of l moment o after)) w u (replies.Count count)) view
      (then_ends t (kept header own) (reap waits moment) (λ (n : ℕ). answers (own_of l moment o (kept_waits waits moment)) (replies.Count n)) (kept header (own_of l moment o after)) w u count (replies.Count count) (planned (ends count) went)
      (ap (λ (ws : List Mine). answers (own_of l moment o ws) (replies.Count count)) (sym left)) (section_after (ends count) (planned (ends count) went)))
