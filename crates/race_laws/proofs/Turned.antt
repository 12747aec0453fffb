-- Sections that take turns at tables where nobody else is.
use Rattle.std.proofs.Common.{◌≡◌, ◌≢◌, ℕ, ◌+◌, ◌<◌, ◌≤◌, ◌^◌, ◌==◌, Bool, true, false, cond, nat_lt, List, [], ◌∷◌, length, map, filter, refl, sym, subst, arith}
use Rattle.std.proofs.lemmas.Bool.{eqb-true, eqb-false, ltb-true, ltb-false}
use Rattle.list_words.specs.Lists.{Each}
use Rattle.capture_reader.specs.Captures.{Capture}
use Rattle.chain_book.specs.declared.book.Change.{Change}
use Rattle.flat_list.specs.declared.header.Header.{Header}
use Rattle.flat_list.specs.declared.command.Command.{Command}
use Rattle.flat_list.specs.Flat.{Flat, new_flat}
use Rattle.flat_list.specs.Script.{Script, IsSmall}
use Rattle.flat_list.specs.Step.{step}
use Rattle.flat_list.proofs.SectionsStay.{step_stays}
use Rattle.flat_list.proofs.Soundness.{starts as starts_sound}
use Rattle.table_model.specs.Tables.{Tables, new_tables}
use Rattle.table_model.specs.Own.{Own, new_own}
use Rattle.table_model.specs.Commands.{answers, plan}
use Rattle.table_model.specs.Means.{Means, IsShape}
use Rattle.table_model.proofs.parts.Start.{new_mean_empty, starts_meant}
use Rattle.table_model.proofs.others.All.{others_stay}
use Rattle.race_book.specs.Among.{Among}
use Rattle.race_record.specs.Lawful.{Lawful, IsStepOf, AreStepsOf, AreSectionsOf, EachFrom}
use Rattle.race_record.specs.Record.{Race, Step, deeds_of}
use Rattle.race_record.proofs.Says.{same_count}
use Rattle.race_laws.specs.Plays.{Plays, StepRefines}
use Rattle.race_laws.specs.Order.{AsksNone, Turn, is_turn_of, step_in, reply_in, issued_in, steps_in, AreTurnsOf, replies_of}
use Rattle.race_laws.proofs.Played.{played_runs, PlaysTwo, plays_two}
use Rattle.race_laws.proofs.Alone.{step_refines, labels_grow}

-- a section's own turn is the first of its steps, and none of another's
own_turn : (n : ℕ) (turn : Turn) (turns : List Turn) (b : Bool) → (turn.section == n) ≡ b → turn.section ≡ n
    → map step_in (cond b (turn ∷ filter (is_turn_of n) turns) (filter (is_turn_of n) turns)) ≡ turn.taken ∷ steps_in n turns
own_turn n turn turns true e same = refl
own_turn n turn turns false e same = absurd (eqb-false turn.section n e same)

others_turn : (n : ℕ) (turn : Turn) (turns : List Turn) (b : Bool) → (turn.section == n) ≡ b → turn.section ≢ n
    → map step_in (cond b (turn ∷ filter (is_turn_of n) turns) (filter (is_turn_of n) turns)) ≡ steps_in n turns
others_turn n turn turns true e apart = absurd (apart (eqb-true turn.section n e))
others_turn n turn turns false e apart = refl

module _ (In : Change → Type 0) where
  -- what section n has before it, at tables that mean the list
  record Ready (t : Tables) (flat : Flat) (turns : List Turn) (n : ℕ) : Type 0 where
    own : Own
    left : List Command
    room : length own.labels + length left < 2 ^ 56
    none : AsksNone left
    means : Means n own t flat
    are : AreStepsOf flat.header In own left (steps_in n turns)

  -- after its turn, in which it was asked that command
  record Taken (t : Tables) (flat : Flat) (turn : Turn) (turns : List Turn) (between : Tables) (c : Command) : Type 0 where
    reply : turn.taken.reply ≡ (step flat turn.section c).reply
    mine : Ready between (step flat turn.section c).flat turns turn.section
    others : (m : ℕ) → m ≢ turn.section → Ready t flat (turn ∷ turns) m → Ready between (step flat turn.section c).flat turns m

  take_by : (t between : Tables) (flat : Flat) (turn : Turn) (turns : List Turn) → turn.section ≤ 64 → (own : Own) (left : List Command)
      → length own.labels + length left < 2 ^ 56 → AsksNone left → Means turn.section own t flat
      → AreStepsOf flat.header In own left (turn.taken ∷ steps_in turn.section turns) → Plays t turn.taken.deeds between
      → Taken t flat turn turns between turn.taken.command
  take_by t between flat turn turns few own [] room none means are plays = absurd are
  take_by t between flat turn turns few own (c ∷ cs) room none means are plays =
      let n : ℕ = turn.section in
      let is : IsStepOf flat.header In own are.0 c turn.taken = are.1 in
      let r : StepRefines n flat c turn.taken are.0 between = step_refines n own are.0 t between flat c turn.taken few (omega (arith, room)) none.0 means is.goes plays in
      subst (Taken t flat turn turns between) (sym is.command_is) (record {
        reply = r.reply;
        mine = record {
          own = are.0;
          left = cs;
          room = omega (arith, room, labels_grow n own are.0 t between flat c means r.means);
          none = none.1;
          means = r.means;
          are = subst (λ (h : Header). AreStepsOf h In are.0 cs (steps_in n turns)) (sym (step_stays flat n c).0) are.2;
        };
        others = λ m apart ready. record {
          own = ready.own;
          left = ready.left;
          room = ready.room;
          none = ready.none;
          means = others_stay n m own ready.own t flat c (record { tables = between; result = answers are.0 turn.taken.reply }) (omega (arith, few)) (omega (arith, room)) none.0 apart means ready.means
              (played_runs (plan flat.header own c) t between turn.taken.deeds (answers are.0 turn.taken.reply) is.goes plays);
          are = subst (λ (h : Header). AreStepsOf h In ready.own ready.left (steps_in m turns)) (sym (step_stays flat n c).0)
              (subst (AreStepsOf flat.header In ready.own ready.left) (others_turn m turn turns (turn.section == m) refl (λ e. apart (sym e))) ready.are);
        };
      })

  ready_by : (t between : Tables) (flat : Flat) (turn : Turn) (turns : List Turn) (c : Command) → Taken t flat turn turns between c → (m : ℕ) → Ready t flat (turn ∷ turns) m
      → (b : Bool) → (m == turn.section) ≡ b → Ready between (step flat turn.section c).flat turns m
  ready_by t between flat turn turns c k m r true e = subst (Ready between (step flat turn.section c).flat turns) (sym (eqb-true m turn.section e)) k.mine
  ready_by t between flat turn turns c k m r false e = k.others m (eqb-false m turn.section e) r

  all_taken : (count : ℕ) → count ≤ 64 → (turns : List Turn) (t new : Tables) (flat : Flat) → Each (λ (turn : Turn). (1 ≤ turn.section) × (turn.section ≤ count)) turns
      → ((n : ℕ) → 1 ≤ n → n ≤ count → Ready t flat turns n) → Plays t (deeds_of (map step_in turns)) new → map reply_in turns ≡ replies_of flat (map issued_in turns)
  all_taken count few [] t new flat there ready plays = refl
  all_taken count few (turn ∷ turns) t new flat there ready plays =
      let n : ℕ = turn.section in
      let two : PlaysTwo t turn.taken.deeds (deeds_of (map step_in turns)) new = plays_two t turn.taken.deeds (deeds_of (map step_in turns)) new plays in
      let r : Ready t flat (turn ∷ turns) n = ready n there.0.0 there.0.1 in
      let k : Taken t flat turn turns two.between turn.taken.command = take_by t two.between flat turn turns (omega (arith, few, there.0.1)) r.own r.left r.room r.none r.means
      (subst (AreStepsOf flat.header In r.own r.left) (own_turn n turn turns (turn.section == n) refl refl) r.are) two.first in
      let rest : map reply_in turns ≡ replies_of (step flat n turn.taken.command).flat (map issued_in turns) =
      all_taken count few turns two.between new (step flat n turn.taken.command).flat there.1
      (λ m low high. ready_by t two.between flat turn turns turn.taken.command k m (ready m low high) (m == turn.section) refl) two.then_ in
      λ i. k.reply i ∷ rest i

module _ (In : Change → Type 0) (header : Header) (turns : List Turn) where
  -- what section n has before it as the race begins
  record Begun (n : ℕ) : Type 0 where
    left : List Command
    small : length left < 2 ^ 24
    none : AsksNone left
    are : AreStepsOf header In (new_own header n) left (steps_in n turns)

  abbrev IsPart : ℕ → List Step → Type 0
  IsPart n steps = steps_in n turns ≡ steps

  at_first : (k : ℕ) (cs : List Command) (steps : List Step) → AreStepsOf header In (new_own header k) cs steps → IsPart k steps → length cs < 2 ^ 24 → AsksNone cs → Begun k
  at_first k cs steps a e small none = record { left = cs; small = small; none = none; are = subst (AreStepsOf header In (new_own header k) cs) (sym e) a }

  later_or : (k : ℕ) (n : ℕ) → Begun k → (k + 1 ≤ n → Begun n) → k ≤ n → (b : Bool) → nat_lt k n ≡ b → Begun n
  later_or k n first later low true e = later (omega (arith, ltb-true k n e))
  later_or k n first later low false e = subst Begun (omega (arith, low, ltb-false k n e)) first

  begun_by : (k : ℕ) (scripts : List (List Command)) (sections : List (List Step)) → AreSectionsOf header In k scripts sections → EachFrom IsPart k sections
      → Each (λ (commands : List Command). length commands < 2 ^ 24) scripts → Each AsksNone scripts → (n : ℕ) → k ≤ n → n < k + length sections → Begun n
  begun_by k [] [] a e small none n low high = absurd (omega (arith, low, high))
  begun_by k (cs ∷ scripts) (steps ∷ sections) a e small none n low high =
      later_or k n (at_first k cs steps a.0 e.0 small.0 none.0) (λ above. begun_by (k + 1) scripts sections a.1 e.1 small.1 none.1 n above (omega (arith, high))) low (nat_lt k n) refl
  begun_by k [] (steps ∷ sections) a e small none n low high = absurd a
  begun_by k (cs ∷ scripts) [] a e small none n low high = absurd a

pub turns_are_flat : (script : Script) (capture : Capture) (race : Race) (turns : List Turn) (new : Tables) → IsSmall script → IsShape script.header
    → Each AsksNone script.sections → Lawful script capture race → AreTurnsOf race.sections turns
    → Plays (new_tables script.header.shape script.header.seed) (deeds_of (map step_in turns)) new
    → map reply_in turns ≡ replies_of (new_flat script.header) (map issued_in turns)
turns_are_flat script capture race turns new small shape none lawful are plays =
    let In : Change → Type 0 = Among race.book in
    let start : (n : ℕ) → 1 ≤ n → n ≤ length race.sections → Ready In (new_tables script.header.shape script.header.seed) (new_flat script.header) turns n =
    λ n low high.
    let b : Begun In script.header turns n = begun_by In script.header turns 1 script.sections race.sections lawful.sections are.each small.commands none n low (omega (arith, high)) in
    record {
      own = new_own script.header n;
      left = b.left;
      room = omega (arith, b.small);
      none = b.none;
      means = starts_meant n (new_tables script.header.shape script.header.seed) (new_flat script.header) low shape (starts_sound script.header) (new_mean_empty script.header) refl;
      are = b.are;
    } in
    all_taken In (length race.sections) (omega (arith, same_count script.header In 1 script.sections race.sections lawful.sections, small.sections)) turns
    (new_tables script.header.shape script.header.seed) new (new_flat script.header) are.there start plays
