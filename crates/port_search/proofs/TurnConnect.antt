-- How a search of `connect` through shared buckets goes on, and what it comes to where nobody shares them.
use Rattle.std.proofs.Common.{◌≡◌, ℕ, ◌+◌, ◌%◌, ◌^◌, ◌<◌, ◌≤◌, inl, List, [], ◌∷◌, ◌++◌, length, map, Option, Some, None, refl, sym, ap, subst, ◌∙◌, arith, append_assoc, append-nil}
use denote.Ref.{MutBor}
use Rattle.sock_card.specs.declared.owner.Owner.{Owner}
use Rattle.sock_card.specs.Conflict.{bind_key}
use Rattle.turn_table.specs.declared.note.Placed.{Placed}
use Rattle.turn_table.specs.Journals.{placed}
use Rattle.turn_table.specs.Passes as words
use Rattle.bind_buckets.specs.declared.request.Request.TheVariants as requests
use Rattle.bind_buckets.specs.declared.request.Answer.{Answer}
use Rattle.bind_buckets.specs.declared.request.Answer.TheVariants as answers
use Rattle.bind_buckets.specs.declared.request.Entry.{Entry}
use Rattle.bind_buckets.specs.Notes.{Note}
use Rattle.bind_buckets.specs.Bucket.{entries_of}
use Rattle.bind_buckets.specs.Turned.{View, Hash, Pass, Gave}
use Rattle.port_search.specs.declared.ends.Attempt.{Attempt}
use Rattle.port_search.specs.declared.ends.Attempt.TheVariants as attempts
use Rattle.port_search.specs.declared.ends.SearchEnd.{SearchEnd}
use Rattle.port_search.specs.declared.ends.SearchEnd.TheVariants as ends
use Rattle.port_search.specs.Search.{chosen_at}
use Rattle.port_search.specs.Turned.{IsLeavingOff}
use Rattle.port_search.specs.TurnedConnect.{Tries, MayTry, IsFree, IsPassed, AllPassed, ComesTo, CameAt, MakesAt, MakesNone, MakesNotYet, IsLeftOff, FindsBusy, FindsFull, SaysFull, ClosedAt}
use Rattle.port_search.proofs.TurnSearch.{gave_none, gave_both}

-- the entries of a turn in which an owner came
came_two : (at place : ℕ) (p q : Entry) (v w : View) (ms : List Note) → at ≡ place → entries_of ms ≡ p ∷ q ∷ [] → Gave v w (map (placed at) ms) → (x y : Placed Entry) × (x.place ≡ place) × (x.note.entry ≡ p) × (y.place ≡ place) × (y.note.entry ≡ q) × Gave v w (x ∷ y ∷ [])
came_two at place p q v w [] same e g = absurd (cc)
came_two at place p q v w (m ∷ []) same e g = absurd (cc)
came_two at place p q v w (m ∷ n ∷ []) same e g =
    let a : m.entry ≡ p = cc in let b : n.entry ≡ q = cc in (placed at m, placed at n, same, a, same, b, g)
came_two at place p q v w (m ∷ n ∷ o ∷ ms) same e g = absurd (cc)

came_three : (at place : ℕ) (p q r : Entry) (v w : View) (ms : List Note) → at ≡ place → entries_of ms ≡ p ∷ q ∷ r ∷ [] → Gave v w (map (placed at) ms) → (x y z : Placed Entry) × (x.place ≡ place) × (x.note.entry ≡ p) × (y.place ≡ place) × (y.note.entry ≡ q) × (z.place ≡ place) × (z.note.entry ≡ r) × Gave v w (x ∷ y ∷ z ∷ [])
came_three at place p q r v w [] same e g = absurd (cc)
came_three at place p q r v w (m ∷ []) same e g = absurd (cc)
came_three at place p q r v w (m ∷ n ∷ []) same e g = absurd (cc)
came_three at place p q r v w (m ∷ n ∷ o ∷ []) same e g =
    let a : m.entry ≡ p = cc in let b : n.entry ≡ q = cc in let c : o.entry ≡ r = cc in (placed at m, placed at n, placed at o, same, a, same, b, same, c, g)
came_three at place p q r v w (m ∷ n ∷ o ∷ l ∷ ms) same e g = absurd (cc)

abbrev pub free_entry : ℕ → ℕ → Entry
free_entry net port = record { request = requests.Free port net; answer = answers.Done }

abbrev pub come_entry : Owner → Entry
come_entry a = record { request = requests.ConnectAuto a; answer = answers.Done }

module _ (count port : ℕ) (a : Owner) (v w : View) (at : ℕ) (ms : List Note) (same : at ≡ bind_key port a.net % count) (gave : Gave v w (map (placed at) ms)) where
  pub came_alone : entries_of ms ≡ free_entry a.net port ∷ come_entry (chosen_at a port) ∷ [] → CameAt count a port None v w
  came_alone e =
      let t = came_two at (bind_key port a.net % count) (free_entry a.net port) (come_entry (chosen_at a port)) v w ms same e gave in
      record { entries = t.0 ∷ t.1 ∷ []; come = (record { place_is = t.2; entry = t.3 }, record { place_is = t.4; entry = t.5 }); gave = t.6 }

  pub came_replacing : (name : ℕ) (answer : Answer) → entries_of ms ≡ free_entry a.net port ∷ come_entry (chosen_at a port) ∷ record { request = requests.RemoveWaiting name; answer = answer } ∷ [] → CameAt count a port (Some name) v w
  came_replacing name answer e =
      let t = came_three at (bind_key port a.net % count) (free_entry a.net port) (come_entry (chosen_at a port)) (record { request = requests.RemoveWaiting name; answer = answer }) v w ms same e gave in
      record { entries = t.0 ∷ t.1 ∷ t.2 ∷ []; come = (record { place_is = t.3; entry = t.4 }, record { place_is = t.5; entry = t.6 }, answer, record { place_is = t.7; entry = t.8 }); gave = t.9 }

-- all ports before those that are left were passed over
pub record ConnectSearching {C T : Type 0} (step : C → ℕ → Attempt T → C → Type 0) (count net : ℕ) (v w : View) (old state : C) (ports rest : List ℕ) : Type 0 where
  pub before : List ℕ
  pub split : ports ≡ before ++ rest
  pub passed : List (Placed Entry)
  pub all : AllPassed step count net before passed old state
  pub gave : Gave v w passed

module _ {C T : Type 0} (step : C → ℕ → Attempt T → C → Type 0) (count net : ℕ) where
  pub connect_begins : (v : View) (old : C) (ports rest : List ℕ) → rest ≡ ports → ConnectSearching step count net v v old old ports rest
  connect_begins v old ports rest all = record { before = []; split = sym all; passed = []; all = refl; gave = gave_none v }

  pass_more : (ports : List ℕ) (xs : List (Placed Entry)) (port : ℕ) (x : Placed Entry) (f g h : C) → AllPassed step count net ports xs f g → IsPassed step count net port x g h → AllPassed step count net (ports ++ port ∷ []) (xs ++ x ∷ []) f h
  pass_more [] [] port x f g h all one = (h, subst (λ k. IsPassed step count net port x k h) (sym all) one, refl)
  pass_more [] (y ∷ ys) port x f g h all one = absurd all
  pass_more (p ∷ ports) [] port x f g h all one = absurd all
  pass_more (p ∷ ports) (y ∷ ys) port x f g h all one = (all.0, all.1, pass_more ports ys port x all.0 g h all.2 one)

  module _ (v w : View) (old state : C) (ports rest : List ℕ) (s : ConnectSearching step count net v w old state ports rest) where
    pub passed_on : (u : View) (next : C) (port : ℕ) (left : List ℕ) (x : Placed Entry) → rest ≡ port ∷ left → IsPassed step count net port x state next → Gave w u (x ∷ []) → ConnectSearching step count net v u old next ports left
    passed_on u next port left x here one gave = record {
      before = s.before ++ port ∷ [];
      split = s.split ∙ ap (λ xs. s.before ++ xs) here ∙ sym (append_assoc s.before (port ∷ []) left);
      passed = s.passed ++ x ∷ [];
      all = pass_more s.before s.passed port x old state next s.all one;
      gave = gave_both v w u s.passed (x ∷ []) s.gave gave;
    }

    abbrev pub comes_to : (port : ℕ) (left : List ℕ) (answer : Attempt T) (new : C) → rest ≡ port ∷ left → step state port answer new → ComesTo step count net ports old port answer new
    comes_to port left answer new here answered = record {
      before = s.before;
      after = left;
      split = s.split ∙ ap (λ xs. s.before ++ xs) here;
      passed = s.passed;
      asked = state;
      all = s.all;
      answered = answered;
    }

    pub finds_full : (u : View) (port : ℕ) (left : List ℕ) (owned held : ℕ) (new : C) (x : Placed Entry) → rest ≡ port ∷ left → step state port (attempts.Full owned held) new → IsFree count net port x → Gave w u (x ∷ []) → FindsFull step count net ports v u old owned held new
    finds_full u port left owned held new x here answered free gave = record {
      port = port;
      comes = comes_to port left (attempts.Full owned held) new here answered;
      entry = x;
      free = free;
      gave = gave_both v w u s.passed (x ∷ []) s.gave gave;
    }

    pub not_yet_made : (u : View) (xs : List (Placed Entry)) (new : C) → IsLeftOff step count net rest xs state new → Gave w u xs → MakesNotYet step count net ports v u old new
    not_yet_made u xs new off gave = record {
      before = s.before;
      after = rest;
      split = s.split;
      passed = s.passed;
      state = state;
      all = s.all;
      entries = xs;
      off = off;
      gave = gave_both v w u s.passed xs s.gave gave;
    }

    pub finds_busy : (u : View) (port : ℕ) (left : List ℕ) → rest ≡ port ∷ left → Gave w u [] → FindsBusy step count net ports v u old state
    finds_busy u port left here gave = record {
      before = s.before;
      port = port;
      after = left;
      split = s.split ∙ ap (λ xs. s.before ++ xs) here;
      passed = s.passed;
      all = s.all;
      gave = subst (Gave v u) (append-nil s.passed) (gave_both v w u s.passed [] s.gave gave);
    }

    pub makes_none : rest ≡ [] → MakesNone step count net ports v w old state
    makes_none none =
        let all : s.before ≡ ports = sym (s.split ∙ ap (λ xs. s.before ++ xs) none ∙ append-nil s.before) in
        record { passed = s.passed; all = subst (λ ps. AllPassed step count net ps s.passed old state) all s.all; gave = s.gave }

-- the connection was made
module _ {C T : Type 0} (step : C → ℕ → Attempt T → C → Type 0) (count : ℕ) (a : Owner) (v w : View) (old state : C) (ports rest : List ℕ) (s : ConnectSearching step count a.net v w old state ports rest) where
  pub makes : (u : View) (port : ℕ) (left : List ℕ) (value : T) (replaced : Option ℕ) (new : C) → rest ≡ port ∷ left → step state port (attempts.Done value replaced) new → CameAt count a port replaced w u → MakesAt step count a ports v u old port value new
  makes u port left value replaced new here answered came = record {
    replaced = replaced;
    comes = comes_to step count a.net v w old state ports rest s port left (attempts.Done value replaced) new here answered;
    entries = came.entries;
    come = came.come;
    gave = gave_both v w u s.passed came.entries s.gave came.gave;
  }

-- a bucket that refused, or one at whose port the four-tuple is taken
pub held_on : {C T : Type 0} (step : C → ℕ → Attempt T → C → Type 0) (t : Hash) (net port : ℕ) (p q : Pass) (f : C) (c : ClosedAt t net port p q) → IsPassed step (words.places t) net port c.entry f f
held_on step t net port p q f c = inl (c.held, refl)

module _ {C T : Type 0} (pre : MutBor C → ℕ → Type 0) (post : MutBor C → ℕ → Attempt T → MutBor C → Type 0) where
  -- where the call may be made at any port, it may be made at this one
  pub may_now : (context : C) (shown : MutBor C) (port : ℕ) → MayTry pre post context → shown.now ≡ context → port < 2 ^ 16 → pre shown port
  may_now context shown port may shows small = may [] context refl shown port shows small

  -- and it still may, once it said Taken
  pub may_again : (context next : C) (port name : ℕ) → MayTry pre post context → Tries post context port (attempts.Taken name) next → MayTry pre post next
  may_again context next port name may said ports now folds shown p shows small = may (port ∷ ports) now (next, (name, said), folds) shown p shows small

-- enough numbers are left
pub enough_left : (most d e : ℕ) (rest left : List ℕ) (port : ℕ) → rest ≡ port ∷ left → e ≡ d + 1 → d + length rest + 2 ≤ most → e + length left + 2 ≤ most
enough_left most d e rest left port here one few = let long : length rest ≡ length left + 1 = ap length here ∙ omega arith in omega arith

module _ {C T : Type 0} (step : C → ℕ → Attempt T → C → Type 0) (count net : ℕ) where
  -- a port that is free stands at the front of what is left, and the caller's call wanted memory there
  pub free_front : (rest left : List ℕ) (port : ℕ) (x : Placed Entry) (old new : C) → rest ≡ port ∷ left → IsFree count net port x → step old port attempts.Memory new → IsLeftOff step count net rest (x ∷ []) old new
  free_front [] left port x old new here free said = absurd (cc)
  free_front (p ∷ rest) left port x old new here free said =
      let same : port ≡ p = cc in (subst (λ k. IsFree count net k x) same free, subst (λ k. step old k attempts.Memory new) same said)

  -- its bucket wanted memory
  pub still_there : (rest left : List ℕ) (port : ℕ) (state : C) → rest ≡ port ∷ left → IsLeftOff step count net rest [] state state
  still_there [] left port state here = absurd (cc)
  still_there (p ∷ rest) left port state here = refl

  -- a search that is left off before a port found no lack of slots
  pub leaves_full : (ports : List ℕ) (v w : View) (old new : C) (end : SearchEnd) → IsLeavingOff end → SaysFull step count net ports v w old end new
  leaves_full ports v w old new ends.NoPort off = tt
  leaves_full ports v w old new (ends.Full owned held) off = absurd off
  leaves_full ports v w old new ends.Memory off = tt
  leaves_full ports v w old new ends.Busy off = tt
