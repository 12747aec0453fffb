-- A race at its end: what its jobs did, section by section and looker by looker.
use Rattle.std.proofs.Common.{◌≡◌, ℕ, zero, suc, ◌+◌, ◌-◌, ◌<◌, ◌≤◌, List, [], ◌∷◌, ◌++◌, length, map, take, drop, get_or, Result, Ok, Err, IfOk, alloc_error, refl, sym, ap, ◌∙◌, subst, arith}
use Rattle.std.proofs.lemmas.List.{length-map, length-drop, get_or-drop, get_or_past}
use Rattle.std.proofs.lemmas.List.Folds.{flat_map-map}
use Rattle.std.specs.List.{flat_map, range_with_len}
use Rattle.std.specs.declared.alloc.AllocError.{AllocError}
use mathlib.Core.Logic.{dite}
use native.Mathlib.Decide.{dec_le}
use Rattle.capture_reader.specs.declared.packet.Item.{Item}
use Rattle.flat_list.specs.Script.{Script}
use Rattle.flat_list.specs.declared.command.Command.{Command}
use Rattle.flat_list.specs.declared.command.Reply.{Reply}
use Rattle.flat_list.specs.declared.header.Header.{Header}
use Rattle.sock_ops.specs.Stands.{buckets_of}
use Rattle.sock_ops.specs.declared.tables.Tables.{Tables}
use Rattle.sock_ops.specs.declared.tables.Worker.{Worker}
use Rattle.bind_buckets.specs.Closed.{AreLeft, notes_in}
use Rattle.tickets.specs.Passes.{HasMissed, drawn, parts, tickets}
use Rattle.tickets.specs.Views.{all_parts}
use Rattle.tickets.specs.declared.pass.TicketPass.{TicketPass}
use Rattle.tickets.specs.declared.pass.Tickets.{Tickets}
use Rattle.turn_table.specs.Journals.{numbers_below}
use Rattle.turn_table.specs.Ends.{HoldsWhatWasGiven, IsInTheOrderOfEach}
use Rattle.list_words.specs.Lists.{SameItems, total}
use Rattle.table_rule.specs.Changes.{are_kept}
use Rattle.table_rule.specs.Passes as chain_words
use Rattle.table_rule.specs.Plays.{seeing}
use Rattle.table_rule.specs.Sole.{WholeBook}
use Rattle.table_rule.specs.declared.view.Layout.{Layout}
use Rattle.table_rule.specs.declared.view.View.{View}
use Rattle.sock_ops.specs.Sizes.{IsSized}
use Rattle.socket_list.specs.Listing.{Listing}
use Rattle.race_run.specs.declared.finish.Ended.{Ended}
use Rattle.race_run.specs.declared.jobs.Job.{Job}
use Rattle.race_run.specs.declared.jobs.Outcome.{Outcome}
use Rattle.race_run.specs.declared.looker.Look.{Look}
use Rattle.race_run.specs.Finished.{HasFinished, listings_in, replies_in, told_in}
use Rattle.race_run.specs.Jobs.{AllOver, HasAllParts, IsGathered, IsOver, outcomes_in, part_or, part_in, said_by}
use Rattle.race_run.specs.Said.{replied_in, listed_in}
use Rattle.race_run.specs.Joins.{Part}
use Rattle.race_run.specs.Lookers.{HasLooked, AllLooked, item_of}
use Rattle.race_run.specs.Races.{AllDone, HasOnlyLooked, SectionDone}
use Rattle.race_run.specs.Shares.{HasDrawnAll, HasMissedAsThey, items_in}
use Rattle.race_run.specs.Workers.{AreTables, IsFirst, part_of}
use Rattle.sock_ops.specs.Tables.{IsAtRest}
use Rattle.race_run.specs.Works.{HasRun, HasShared, IsWorked, AllWorked}
use Rattle.race_run.proofs.Weights.{map_flat}
use Rattle.race_run.proofs.Working.{get_map}

-- Lists

-- what stands at a place
pub stands_at : {A : Type 0} (xs : List A) (i : ℕ) → i < length xs → (x : A) × ((d : A) → get_or xs i d ≡ x)
stands_at [] i l = absurd (omega (arith, l))
stands_at (x ∷ xs) zero l = (x, λ d. refl)
stands_at (x ∷ xs) (suc i) l = stands_at xs i (omega (arith, l))

len_drop : {A : Type 0} (n : ℕ) (xs : List A) → n ≤ length xs → length (drop n xs) + n ≡ length xs
len_drop n xs l = omega (arith, length-drop n xs)

-- nothing comes of those behind the first n
flat_front : {A C : Type 0} (f : A → List C) (n : ℕ) (xs : List A) → ((i : ℕ) (x : A) → n ≤ i → i < length xs → get_or xs i x ≡ x → f x ≡ []) → flat_map f xs ≡ flat_map f (take n xs)
flat_front f zero [] h = refl
flat_front f zero (x ∷ xs) h = ap (λ l. l ++ flat_map f xs) (h 0 x (omega arith) (omega arith) refl) ∙ flat_front f zero xs (λ i y a l is. h (suc i) y (omega arith) (omega (arith, l)) is)
flat_front f (suc n) [] h = refl
flat_front f (suc n) (x ∷ xs) h = ap (λ l. f x ++ l) (flat_front f n xs (λ i y a l is. h (suc i) y (omega (arith, a)) (omega (arith, l)) is))

-- nothing comes of the first n
flat_back : {A C : Type 0} (f : A → List C) (n : ℕ) (xs : List A) → ((i : ℕ) (x : A) → i < n → i < length xs → get_or xs i x ≡ x → f x ≡ []) → flat_map f xs ≡ flat_map f (drop n xs)
flat_back f zero [] h = refl
flat_back f zero (x ∷ xs) h = refl
flat_back f (suc n) [] h = refl
flat_back f (suc n) (x ∷ xs) h = ap (λ l. l ++ flat_map f xs) (h 0 x (omega arith) (omega arith) refl) ∙ flat_back f n xs (λ i y a l is. h (suc i) y (omega (arith, a)) (omega (arith, l)) is)

-- Jobs

abbrev pub outcome : Job → Outcome
outcome j = record { replies = j.replies; listings = j.listings; told = j.told }

abbrev pub replied : Job → List Reply
replied j = j.replies.items

abbrev pub listed : Job → List Listing
listed j = j.listings.items

abbrev pub tells : Job → List Look
tells j = j.told.items

most_outcomes : (done : List (Result Job AllocError)) → length (outcomes_in done) ≤ length done
most_outcomes [] = omega arith
most_outcomes (Ok j ∷ done) = let l = most_outcomes done in omega (arith, l)
most_outcomes (Err e ∷ done) = let l = most_outcomes done in omega (arith, l)

-- where as many outcomes are there as jobs, no job was ended by want of memory
pub all_ok : (done : List (Result Job AllocError)) → length (outcomes_in done) ≡ length done → (js : List Job) × (done ≡ map Ok js)
all_ok [] e = ([], refl)
all_ok (Ok j ∷ done) e = let r = all_ok done (omega (arith, e)) in (j ∷ r.0, ap (λ l. Ok j ∷ l) r.1)
all_ok (Err x ∷ done) e = let l = most_outcomes done in absurd (omega (arith, e, l))

outcomes_are : (js : List Job) → outcomes_in (map Ok js) ≡ map outcome js
outcomes_are [] = refl
outcomes_are (j ∷ js) = ap (λ l. outcome j ∷ l) (outcomes_are js)

pub all_over : (script : Script) (passes : ℕ) (all : List Item) (t : Tables) (q : Tickets) (done : List (Result Job AllocError)) → AllWorked script passes all t q (length done) done → AllOver t q done
all_over script passes all t q done w i d l = over (get_or done i d) (w i d l)
  where
    over : (r : Result Job AllocError) → IfOk r (IsWorked script passes all t q i) → IfOk r (IsOver t q)
    over (Ok j) h = h.over
    over (Err e) h = tt

-- Sections

module _ (header : Header) (part : ℕ → Part) where
  sections_done : (n : ℕ) (scripts : List (List Command)) (js : List Job) → length scripts ≤ length js
      → ((i : ℕ) (j : Job) → i < length scripts → get_or js i j ≡ j → HasRun header (n + i) (get_or scripts i []) j × (part (n + i) ≡ part_of j.worker))
      → AllDone header part n scripts (map said_by (take (length scripts) js))
  sections_done n [] [] l h = tt
  sections_done n [] (j ∷ js) l h = tt
  sections_done n (cs ∷ scripts) [] l h = absurd (omega (arith, l))
  sections_done n (cs ∷ scripts) (j ∷ js) l h =
      let here = h 0 j (omega arith) refl in
      let at : n + 0 ≡ n = omega arith in (
        subst (λ (p : Part). SectionDone header n cs p (said_by j)) (sym (ap part (sym at) ∙ here.1))
            (subst (λ (k : ℕ). SectionDone header k cs (part_of j.worker) (said_by j)) at here.0.done),
        sections_done (n + 1) scripts js (omega (arith, l)) (λ i x k is.
            let next : n + suc i ≡ n + 1 + i = omega arith in
            subst (λ (m : ℕ). HasRun header m (get_or scripts i []) x × (part m ≡ part_of x.worker)) next (h (suc i) x (omega (arith, k)) is)),
      )

  -- Lookers

  looked_all : (passes : ℕ) (all : List Item) (n : ℕ) (js : List Job) → ((i : ℕ) (j : Job) → i < length js → get_or js i j ≡ j → HasShared header passes all j × (part (n + i) ≡ part_of j.worker)) → AllLooked header passes all part n (map tells js)
  looked_all passes all n [] h = tt
  looked_all passes all n (j ∷ js) h =
      let here = h 0 j (omega arith) refl in (
        subst (λ (p : Part). HasLooked header passes all p j.told.items) (sym (ap part (let e : n ≡ n + 0 = omega arith in e) ∙ here.1)) here.0.looked,
        looked_all passes all (n + 1) js (λ i x k is.
            let a : n + suc i ≡ n + 1 + i = omega arith in
            subst (λ (p : ℕ). HasShared header passes all x × (part p ≡ part_of x.worker)) a (h (suc i) x (omega (arith, k)) is)),
      )

-- The whole

-- what came of the jobs, the sections first
module _ (script : Script) (passes : ℕ) (all : List Item) (lookers : ℕ) (t : Tables) (q : Tickets) (other : Part) (only : HasOnlyLooked other) (some : 0 < lookers) (js : List Job) (count : length js ≡ length script.sections + lookers)
    (work : AllWorked script passes all t q (length js) (map Ok js)) where
  abbrev sections : ℕ
  sections = length script.sections

  abbrev part : ℕ → Part
  part = part_in other (map Ok js)

  abbrev last : List Job
  last = drop sections js

  ok_at : (i : ℕ) (j : Job) (d : Result Job AllocError) → i < length js → get_or js i j ≡ j → get_or (map Ok js) i d ≡ Ok j
  ok_at i j d l is = get_map Ok js i j d l (sym is)

  worked_at : (i : ℕ) (j : Job) → i < length js → get_or js i j ≡ j → IsWorked script passes all t q i j
  worked_at i j l is = let P : Result Job AllocError → Type 0 = λ r. IfOk r (IsWorked script passes all t q i) in
      let o : P (Ok j) = subst P (ok_at i j (Ok j) l is) (work i (Ok j) l) in o

  part_at : (m i : ℕ) (j : Job) → m ≡ i + 1 → i < length js → get_or js i j ≡ j → part m ≡ part_of j.worker
  part_at m i j e l is =
      ap (λ k. part_or other (get_or (map Ok js) k (Err alloc_error))) (let q : m - 1 ≡ i = omega (arith, e) in q)
      ∙ ap (part_or other) (ok_at i j (Err alloc_error) l is)

  pub done_all : AllDone script.header part 1 script.sections (map said_by (take sections js))
  done_all = sections_done script.header part 1 script.sections js (omega (arith, count)) (λ i j l is.
      let w = (worked_at i j (omega (arith, l, count)) is).section l in
      let e : i + 1 ≡ 1 + i = omega arith in
      (subst (λ k. HasRun script.header k (get_or script.sections i []) j) e w, part_at (1 + i) i j (omega arith) (omega (arith, l, count)) is))

  len_last : length last ≡ lookers
  len_last = let e = len_drop sections js (omega (arith, count)) in omega (arith, e, count)

  share_at : (i : ℕ) (j : Job) → i < length last → get_or last i j ≡ j → HasShared script.header passes all j × (part (sections + 1 + i) ≡ part_of j.worker)
  share_at i j l is =
      let at : get_or js (sections + i) j ≡ j = sym (get_or-drop sections js i j) ∙ is in
      let few : sections + i < length js = omega (arith, l, len_last, count) in
      ((worked_at (sections + i) j few at).looker (omega arith), part_at (sections + 1 + i) (sections + i) j (omega arith) few at)

  pub looked_last : AllLooked script.header passes all part (sections + 1) (map tells last)
  looked_last = looked_all script.header part passes all (sections + 1) last share_at

  pub told_last : length (map tells last) ≡ lookers
  told_last = length-map last tells ∙ len_last

  -- the last job is a looker's
  pub missed : (p : TicketPass) → HasMissedAsThey (map Ok js) 0 p → HasMissed p
  missed p h =
      let i : ℕ = length js - 1 in
      let few : i < length js = omega (arith, some, count) in
      let s = stands_at js i few in
      let w = (worked_at i s.0 few (s.1 s.0)).looker (omega (arith, some, count)) in
      h i s.0 (omega arith) (ok_at i s.0 (Err alloc_error) few (s.1 s.0)) w.missed

  pub others : (m : ℕ) → sections < m → HasOnlyLooked (part m)
  others m l = dite (dec_le m (length js))
      (λ le. let s = stands_at js (m - 1) (omega (arith, l, le)) in
      let w = (worked_at (m - 1) s.0 (omega (arith, l, le)) (s.1 s.0)).looker (omega (arith, l)) in
      subst HasOnlyLooked (sym (part_at m (m - 1) s.0 (omega (arith, l)) (omega (arith, l, le)) (s.1 s.0))) w.looked.only)
      (λ gt. subst HasOnlyLooked (sym (ap (part_or other) (get_or_past (map Ok js) (m - 1) (Err alloc_error) (let e = length-map {B = Result Job AllocError} js Ok in omega (arith, e, gt))))) only)

  pub all_replied : flat_map replies_in (map outcome js) ≡ flat_map replied_in (map said_by (take sections js))
  all_replied =
      flat_map-map replies_in outcome js
      ∙ flat_front replied sections js (λ i j a l is. ((worked_at i j l is).looker a).replies)
      ∙ sym (flat_map-map replied_in said_by (take sections js))

  pub all_listed : flat_map listings_in (map outcome js) ≡ flat_map listed_in (map said_by (take sections js))
  all_listed =
      flat_map-map listings_in outcome js
      ∙ flat_front listed sections js (λ i j a l is. ((worked_at i j l is).looker a).listings)
      ∙ sym (flat_map-map listed_in said_by (take sections js))

  pub all_tells : flat_map told_in (map outcome js) ≡ flat_map (λ (took : List Look). took) (map tells last)
  all_tells =
      flat_map-map told_in outcome js
      ∙ flat_back tells sections js (λ i j a l is. ((worked_at i j l is).section a).told)
      ∙ sym (flat_map-map (λ (took : List Look). took) tells last)

  all_items : flat_map items_in (map outcome js) ≡ flat_map (λ took. map item_of took) (map tells last)
  all_items = sym (map_flat item_of told_in (map outcome js)) ∙ ap (map item_of) all_tells ∙ map_flat item_of (λ (took : List Look). took) (map tells last)

  pub each_once : (p : TicketPass) (numbers : List ℕ) → SameItems (drawn p) (flat_map items_in (map outcome js)) → SameItems (drawn p) numbers → SameItems (flat_map (λ took. map item_of took) (map tells last)) numbers
  each_once p numbers a b f = ap (total f) (sym all_items) ∙ sym (a f) ∙ b f

-- what such a race leaves
pub finished : (script : Script) (passes : ℕ) (all : List Item) (lookers : ℕ) (t : Tables) (q : Tickets) (first w : Worker) (p : TicketPass) (done : List (Result Job AllocError)) (given : List Outcome) (e : Ended)
    → 0 < lookers → length done ≡ length script.sections + lookers → AreTables script.header t → IsFirst t (length done) first → AllWorked script passes all t q (length done) done → tickets q ≡ length all
    → IsAtRest t w → HasAllParts w → HasDrawnAll q done given p → (parts p ≡ all_parts → HasMissed p → SameItems (drawn p) (numbers_below (tickets q))) → ((other : Part) → IsGathered (part_in other done) 0 (length done) (part_of w)) → given ≡ outcomes_in done → length given ≡ length done → e.outcomes.items ≡ given
    → (part_of w).chain.seen ≤ e.clock → chain_words.known e.chain.pass ≡ seeing (part_of w).chain e.clock → WholeBook (chain_words.known e.chain.pass) e.clock
    → are_kept e.chain.pass.changes ≡ t.chains.keeps_changes → length e.buckets.items ≡ buckets_of t → AreLeft 0 (buckets_of t) e.buckets.items → HoldsWhatWasGiven notes_in (part_of w).turns e.buckets.items → IsInTheOrderOfEach notes_in (part_of w).turns e.buckets.items
    → HasFinished script passes all lookers e
finished script passes all lookers t q first w p done given e some count tables fresh work many_items rest whole drew counted gathered are many outcomes later sees book kept long left given_all in_order =
    let oks = all_ok done (sym (ap length are) ∙ many) in
    let js : List Job = oks.0 in
    let len : length js ≡ length script.sections + lookers = sym (length-map {B = Result Job AllocError} js Ok) ∙ sym (ap length oks.1) ∙ count in
    let worked : AllWorked script passes all t q (length js) (map Ok js) = subst (λ n. AllWorked script passes all t q n (map Ok js)) (length-map {B = Result Job AllocError} js Ok) (subst (λ (l : List (Result Job AllocError)). AllWorked script passes all t q (length l) l) oks.1 work) in
    let other : Part = part_of first in
    let only : HasOnlyLooked other = record { mine = fresh.blank.mine; closed = fresh.blank.closed; lost = fresh.blank.lost } in
    let part : ℕ → Part = part_in other (map Ok js) in
    let g : IsGathered part 0 (length js) (part_of w) = subst (λ n. IsGathered part 0 n (part_of w)) (length-map {B = Result Job AllocError} js Ok) (subst (λ (l : List (Result Job AllocError)). IsGathered (part_in other l) 0 (length l) (part_of w)) oks.1 (gathered other)) in
    let tooks : List (List Look) = map tells (drop (length script.sections) js) in
    let x : View = (part_of w).chain in
    let runs : length tooks ≡ lookers = told_last script passes all lookers t q other only some js len worked in
    let given_is : given ≡ map outcome js = are ∙ ap outcomes_in oks.1 ∙ outcomes_are js in
    let missed_all : HasMissed p = missed script passes all lookers t q other only some js len worked p (subst (λ (l : List (Result Job AllocError)). HasMissedAsThey l 0 p) oks.1 drew.missed) in
    let once : SameItems (drawn p) (numbers_below (length all)) = subst (λ n. SameItems (drawn p) (numbers_below n)) many_items (counted drew.parts missed_all) in
    let outs : e.outcomes.items ≡ map outcome js = outcomes ∙ given_is in
    record {
      part = part;
      turns = (part_of w).turns;
      chain = x;
      says = map said_by (take (length script.sections) js);
      tooks = tooks;
      sees = sees;
      kept = kept ∙ tables.keeps;
      ended = record {
        order = g.order;
        each_once = λ f. g.once f ∙ ap (λ k. total f (range_with_len 1 k)) (let q : length js - 0 ≡ length script.sections + length tooks = omega (arith, len, runs) in q);
        joined = g.joined;
        done = done_all script passes all lookers t q other only some js len worked;
        others = others script passes all lookers t q other only some js len worked;
        layout = rest.rests.table.1 ∙ sym t.chains.laid ∙ tables.layout;
        sized = subst (λ (y : Layout). IsSized y.shape) tables.layout t.chains.sized;
        later = later;
        whole = record { parts = whole.chain_parts; opened = rest.rests.opened; book = subst (λ (y : View). WholeBook y e.clock) sees book };
        count = long ∙ tables.buckets;
        left = subst (λ n. AreLeft 0 n e.buckets.items) tables.buckets left;
        given = given_all;
        in_order = in_order;
      };
      looked = looked_last script passes all lookers t q other only some js len worked;
      lookers_are = told_last script passes all lookers t q other only some js len worked;
      once = each_once script passes all lookers t q other only some js len worked p (numbers_below (length all)) (subst (λ (l : List Outcome). SameItems (drawn p) (flat_map items_in l)) given_is drew.drawn) once;
      replied = ap (flat_map replies_in) outs ∙ all_replied script passes all lookers t q other only some js len worked;
      listed = ap (flat_map listings_in) outs ∙ all_listed script passes all lookers t q other only some js len worked;
      tells = ap (flat_map told_in) outs ∙ all_tells script passes all lookers t q other only some js len worked;
    }
