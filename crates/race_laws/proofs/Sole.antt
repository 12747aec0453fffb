-- The steps of one worker, one section after the other.
use Rattle.std.proofs.Common.{◌≡◌, ◌≢◌, ℕ, ◌+◌, ◌<◌, ◌≤◌, ◌^◌, false, List, [], ◌∷◌, ◌++◌, length, map, find, None, unwrap_or, Option, refl, sym, ap, ◌∙◌, subst, arith}
use Rattle.std.specs.List.{flat_map}
use Rattle.std.proofs.lemmas.Bool.{true≢false}
use Rattle.list_words.specs.Lists.{Each}
use Rattle.capture_reader.specs.Captures.{Capture}
use Rattle.flat_list.specs.declared.header.Header.{Header}
use Rattle.flat_list.specs.declared.command.Command.{Command}
use Rattle.flat_list.specs.declared.command.Command.TheVariants as commands
use Rattle.flat_list.specs.Flat.{Flat, new_flat}
use Rattle.flat_list.specs.Run.{Issued, after, replies_to}
use Rattle.flat_list.specs.Script.{Script, IsSmall}
use Rattle.flat_list.specs.Sections.{Section, has_number, new_section}
use Rattle.flat_list.specs.Sound.{IsSound}
use Rattle.flat_list.specs.Step.{step}
use Rattle.flat_list.proofs.Soundness.{starts as starts_sound}
use Rattle.sock_script.specs.Output.{asked, events_from, replies_from, issued_from, flat_replies}
use Rattle.sock_script.specs.Steps.{issue}
use Rattle.table_model.specs.Tables.{Tables, new_tables}
use Rattle.table_model.specs.Own.{Own, new_own}
use Rattle.table_model.specs.Means.{Means, TablesMean, IsShape, is_lookup}
use Rattle.table_model.proofs.parts.Start.{new_mean_empty, starts_meant}
use Rattle.race_book.specs.Among.{Among}
use Rattle.chain_book.specs.declared.book.Change.{Change}
use Rattle.race_record.specs.Deeds.{Deed}
use Rattle.race_record.specs.Lawful.{Lawful, IsStepOf, AreStepsOf, AreSectionsOf}
use Rattle.race_record.specs.Record.{Race, Step, deeds_of, all_deeds, reply_of}
use Rattle.race_record.proofs.Drawn.{deeds_join}
use Rattle.race_laws.specs.Plays.{Plays, StepRefines}
use Rattle.race_laws.specs.Order.{AsksNone}
use Rattle.race_laws.specs.Sole.{all_replies}
use Rattle.race_laws.proofs.Played.{PlaysTwo, plays_two}
use Rattle.race_laws.proofs.Alone.{step_refines, labels_grow}
use Rattle.flat_list.proofs.SectionsStay.{step_stays}

-- what stands after the commands of section n
record SectionRan (n : ℕ) (flat : Flat) (commands : List Command) (steps : List Step) (new : Tables) : Type 0 where
  replies : map reply_of steps ≡ replies_to flat n commands
  header : (after flat (issue n commands)).header ≡ flat.header
  sound : IsSound (after flat (issue n commands))
  tables : TablesMean new (after flat (issue n commands))
  others : (m : ℕ) → m ≢ n → find (has_number m) (after flat (issue n commands)).sections ≡ find (has_number m) flat.sections

module _ (In : Change → Type 0) (n : ℕ) (few : n ≤ 64) where
  section_ran : (own : Own) (t new : Tables) (flat : Flat) (commands : List Command) (steps : List Step) → length own.labels + length commands < 2 ^ 56 → AsksNone commands
      → Means n own t flat → AreStepsOf flat.header In own commands steps → Plays t (deeds_of steps) new → SectionRan n flat commands steps new
  section_ran own t new flat [] [] room none means steps plays = record {
    replies = refl;
    header = refl;
    sound = means.sound;
    tables = subst (λ (x : Tables). TablesMean x flat) (sym plays) means.tables;
    others = λ m apart. refl;
  }
  section_ran own t new flat (c ∷ cs) (s ∷ ss) room none means are plays =
      let two : PlaysTwo t s.deeds (deeds_of ss) new = plays_two t s.deeds (deeds_of ss) new plays in
      let is : IsStepOf flat.header In own are.0 c s = are.1 in
      let r : StepRefines n flat c s are.0 two.between = step_refines n own are.0 t two.between flat c s few (omega (arith, room)) none.0 means is.goes two.first in
      let next : Flat = (step flat n c).flat in
      let stays = step_stays flat n c in
      let rest : SectionRan n next cs ss new = section_ran are.0 two.between new next cs ss
      (omega (arith, room, labels_grow n own are.0 t two.between flat c means r.means)) none.1 r.means
      (subst (λ (h : Header). AreStepsOf h In are.0 cs ss) (sym stays.0) are.2) two.then_ in
      record {
        replies = λ i. r.reply i ∷ rest.replies i;
        header = rest.header ∙ stays.0;
        sound = rest.sound;
        tables = rest.tables;
        others = λ m apart. rest.others m apart ∙ stays.1 m apart;
      }
  section_ran own t new flat [] (s ∷ ss) room none means are plays = absurd are
  section_ran own t new flat (c ∷ cs) [] room none means are plays = absurd are

-- a command that asks for no lookup is one event
one_event : (n : ℕ) (c : Command) (rest : List Issued) → is_lookup c ≡ false → events_from [] (record { section = n; command = c } ∷ rest) ≡ asked (record { section = n; command = c }) ∷ events_from [] rest
one_event n (commands.Socket label options) rest e = refl
one_event n (commands.Bind label end) rest e = refl
one_event n (commands.Listen label) rest e = refl
one_event n (commands.Connect label from to) rest e = refl
one_event n (commands.Accept listener label from at) rest e = refl
one_event n (commands.Syn listener label from at) rest e = refl
one_event n (commands.Ack request label) rest e = refl
one_event n (commands.Close label) rest e = refl
one_event n (commands.Drop label) rest e = refl
one_event n (commands.At moment) rest e = refl
one_event n commands.Reap rest e = refl
one_event n (commands.Look query) rest e = refl
one_event n (commands.Packets count) rest e = absurd (true≢false e)
one_event n commands.Dump rest e = refl

section_replies : (n : ℕ) (flat : Flat) (cs : List Command) (later : List Issued) → AsksNone cs
    → replies_from flat (events_from [] (issue n cs ++ later)) ≡ replies_to flat n cs ++ replies_from (after flat (issue n cs)) (events_from [] later)
section_replies n flat [] later none = refl
section_replies n flat (c ∷ cs) later none =
    ap (replies_from flat) (one_event n c (issue n cs ++ later) none.0)
    ∙ ap (λ l. (step flat n c).reply ∷ l) (section_replies n (step flat n c).flat cs later none.1)

-- the tables mean the list, in which no section from number n on has begun
record Starts (header : Header) (n : ℕ) (t : Tables) (flat : Flat) : Type 0 where
  header_is : flat.header ≡ header
  shape : IsShape header
  sound : IsSound flat
  tables : TablesMean t flat
  fresh : (m : ℕ) → n ≤ m → find (has_number m) flat.sections ≡ None

begins : (header : Header) (n : ℕ) (t : Tables) (flat : Flat) → 1 ≤ n → Starts header n t flat → Means n (new_own flat.header n) t flat
begins header n t flat some s =
    starts_meant n t flat some (subst IsShape (sym s.header_is) s.shape) s.sound s.tables
    (ap (λ (o : Option Section). unwrap_or o (new_section flat.header n)) (s.fresh n (omega arith)))

module _ (In : Change → Type 0) (header : Header) where
  all_ran : (n : ℕ) (t new : Tables) (flat : Flat) (scripts : List (List Command)) (sections : List (List Step)) → 1 ≤ n → n + length scripts ≤ 65
      → Each (λ (commands : List Command). length commands < 2 ^ 24) scripts → Each AsksNone scripts → Starts header n t flat
      → AreSectionsOf header In n scripts sections → Plays t (deeds_of (flat_map (λ steps. steps) sections)) new
      → flat_map (λ replies. replies) (map (λ steps. map reply_of steps) sections) ≡ replies_from flat (events_from [] (issued_from n scripts))
  all_ran n t new flat [] [] some few small none starts are plays = refl
  all_ran n t new flat (cs ∷ scripts) (steps ∷ sections) some few small none starts are plays =
      let two : PlaysTwo t (deeds_of steps) (deeds_of (flat_map (λ steps. steps) sections)) new =
      plays_two t (deeds_of steps) (deeds_of (flat_map (λ steps. steps) sections)) new
      (subst (λ (d : List Deed). Plays t d new) (deeds_join steps (flat_map (λ steps. steps) sections)) plays) in
      let r : SectionRan n flat cs steps two.between = section_ran In n (omega (arith, few)) (new_own flat.header n) t two.between flat cs steps (omega (arith, small.0)) none.0 (begins header n t flat some starts)
      (subst (λ (h : Header). AreStepsOf h In (new_own h n) cs steps) (sym starts.header_is) are.0) two.first in
      let next : Flat = after flat (issue n cs) in
      let rest = all_ran (n + 1) two.between new next scripts sections (omega arith) (omega (arith, few)) small.1 none.1 (record {
        header_is = r.header ∙ starts.header_is;
        shape = starts.shape;
        sound = r.sound;
        tables = r.tables;
        fresh = λ m above. r.others m (λ e. absurd (omega arith)) ∙ starts.fresh m (omega arith);
      }) are.1 two.then_ in
      (λ i. r.replies i ++ rest i) ∙ sym (section_replies n flat cs (issued_from (n + 1) scripts) none.0)
  all_ran n t new flat [] (steps ∷ sections) some few small none starts are plays = absurd are
  all_ran n t new flat (cs ∷ scripts) [] some few small none starts are plays = absurd are

pub sole_is_flat : (script : Script) (capture : Capture) (race : Race) (new : Tables) → IsSmall script → IsShape script.header
    → Each AsksNone script.sections → Lawful script capture race
    → Plays (new_tables script.header.shape script.header.seed) (all_deeds race) new
    → all_replies race ≡ flat_replies script []
sole_is_flat script capture race new small shape none lawful plays =
    all_ran (Among race.book) script.header 1 (new_tables script.header.shape script.header.seed) new (new_flat script.header) script.sections race.sections (omega arith)
    (omega (arith, small.sections)) small.commands none (record {
      header_is = refl;
      shape = shape;
      sound = starts_sound script.header;
      tables = new_mean_empty script.header;
      fresh = λ m above. refl;
    }) lawful.sections plays
