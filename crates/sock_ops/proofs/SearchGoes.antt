-- How the plan of `connect` goes on that searches for a port.
use Rattle.std.proofs.Common.{◌≡◌, ℕ, ◌+◌, ◌≤◌, ◌%◌, List, [], ◌∷◌, map, length, Option, Some, None, Result, Ok, Err, IsErrAnd, false, refl, sym, ap, subst, ◌∙◌, arith}
use Rattle.std.specs.Option.{option_map}
use Rattle.sock_card.specs.declared.owner.Owner.{Owner}
use Rattle.sock_card.specs.Conflict.{owner_key, is_time_wait}
use Rattle.turn_table.specs.declared.note.Placed.{Placed}
use Rattle.bind_buckets.specs.declared.request.Request.TheVariants as requests
use Rattle.bind_buckets.specs.declared.request.Answer.{Answer}
use Rattle.bind_buckets.specs.declared.request.Answer.TheVariants as answers
use Rattle.bind_buckets.specs.declared.request.Entry.{Entry}
use Rattle.bind_buckets.specs.OwnTold.{StandsOwn}
use Rattle.bind_buckets.specs.Turned.{View, Gave, IsAsked}
use Rattle.chain_book.specs.declared.outcome.Place.{Place}
use Rattle.chain_book.specs.declared.outcome.Hashed.{Hashed}
use Rattle.chain_book.specs.declared.outcome.Replace.{Replace}
use Rattle.chain_book.specs.Chains.{Outcome, put}
use Rattle.flat_list.specs.declared.command.End.{End}
use Rattle.flat_list.specs.Owned.{connected_at}
use Rattle.table_model.specs.declared.operation.Cause.{Cause}
use Rattle.table_model.specs.declared.operation.Cause.TheVariants as causes
use Rattle.table_model.specs.declared.operation.OpEnd.{OpEnd}
use Rattle.table_model.specs.declared.operation.OpEnd.TheVariants as errors
use Rattle.table_model.specs.Own.{Mine}
use Rattle.table_model.specs.Asking.{Asking, ends}
use Rattle.table_model.specs.Operations.{Did, done, refused, full_card, full_in, full_done, when_done, connect_free, connect_tried, search_connect}
use Rattle.race_record.specs.Deeds.{Deed, Tried, hashed, kept_out, no_slot, inserted}
use Rattle.race_record.specs.Goes.{outcome_of, hashed_of}
use Rattle.sock_ops.specs.Sides.{Side, changes_by}
use Rattle.sock_ops.specs.Made.{Does}
use Rattle.sock_ops.specs.Leads.{Leads}
use Rattle.sock_ops.specs.Goes.{Went, Stops, Carried, AreAsked, AskedAll, gone_of}
use Rattle.sock_ops.specs.Hashing.{InsertsAs, DrawnAs, PutsIn, wish_for}
use Rattle.sock_ops.specs.Searching.{free_entry, port_plan, TriesAt, TryLeaves, KeepsDraws, next_or}
use Rattle.sock_ops.specs.Socks.{full_at}
use Rattle.sock_ops.specs.Stands.{IsAway, MayDraw}
use Rattle.sock_ops.specs.declared.tables.Tables.{Tables}
use Rattle.sock_ops.specs.declared.tables.Worker.{Worker}
use Rattle.table_rule.specs.Passes as chain_words
use Rattle.sock_ops.proofs.Goes.{deed_at, entry_is, by_entry, by_inserted, all_entries, does_both, does_entry, does_entries, One, all_one, went_both, went_nowhere, stops_there, stops_nowhere, goes_both}
use Rattle.sock_ops.proofs.Inserted.{kept_still, grants_of, put_outcome, keys_of, names_of}
use Rattle.sock_ops.proofs.ConnectGoes.{replaced_leads, full_is, gone_quiet}
use Rattle.sock_ops.proofs.Knows.{AllQuiet, after, grows, grows_first, grows_rest, all_pass, asked_quiet, away_on, came_on, came_stands, comes, knows_on}

abbrev pub come_entry : Owner → Entry
come_entry a = record { request = requests.ConnectAuto a; answer = answers.Done }

abbrev pub held_entry : Owner → ℕ → Entry
held_entry a name = record { request = requests.Free a.port a.net; answer = answers.NotFree name }

record TwoMore (place : ℕ) (e f : Entry) (es : List Entry) (v w : View) : Type 0 where
  x : Placed Entry
  y : Placed Entry
  zs : List (Placed Entry)
  is_x : IsAsked place e.request e.answer x
  is_y : IsAsked place f.request f.answer y
  more : AreAsked place es zs
  gave : Gave v w (x ∷ y ∷ zs)

two_of : (place : ℕ) (e f : Entry) (es : List Entry) (v w : View) (xs : List (Placed Entry)) → AreAsked place (e ∷ f ∷ es) xs → Gave v w xs → TwoMore place e f es v w
two_of place e f es v w [] a g = absurd a
two_of place e f es v w (x ∷ []) a g = absurd a.1
two_of place e f es v w (x ∷ y ∷ zs) a g =
    record { x = x; y = y; zs = zs; is_x = a.0; is_y = a.1.0; more = a.1.1; gave = g }

two_more : (place : ℕ) (e f : Entry) (es : List Entry) (v w : View) → AskedAll place (e ∷ f ∷ es) v w → TwoMore place e f es v w
two_more place e f es v w all = two_of place e f es v w all.xs all.asked all.gave

module _ (count : ℕ) (a : Owner) (moment : ℕ) (rule : Replace) (v w : View) (c d : Side) where
  pub tries_done : (place : Place) (replaced : Option ℕ) (m : Mine) (answer : Answer) → PutsIn (wish_for a moment rule) place replaced c d → m ≡ full_at a place
      → AskedAll (owner_key a % count) (free_entry a ∷ come_entry a ∷ gone_of replaced answer) v w → TriesAt count c.layout a moment rule v w c d (Ok (Some m))
  tries_done place replaced m answer p m_is all = λ next.
      let at = owner_key a % count in
      let t = two_more at (free_entry a) (come_entry a) (gone_of replaced answer) v w all in
      let slot : ℕ = p.hash.slot in
      let shape = c.layout.shape in
      let seed = c.layout.seed in
      let wish = wish_for a moment rule in
      let tried : Tried = hashed p.hash p.old in
      let old : Option Hashed = option_map hashed_of p.old in
      let grants = grants_of wish tried c d p.does in
      let there : Asking Did = ends (done (full_in shape seed a slot)) in
      let more = subst (λ r. AreAsked at (gone_of r answer) t.zs) (p.replaced_is ∙ names_of p.old) t.more in
      let last : List Deed = deed_at (owner_key a) t.y ∷ map (deed_at (owner_key a)) t.zs in
      let deeds : List Deed = deed_at (owner_key a) t.x ∷ inserted wish tried ∷ last in
      let told : Leads (connect_tried shape seed a next (put slot old)) last there =
      by_entry count (owner_key a) (requests.ConnectAuto a) answers.Done (when_done (full_done shape seed a slot old)) t.y (map (deed_at (owner_key a)) t.zs) there t.is_y
      (replaced_leads count (owner_key a) old answer there t.zs (keys_of wish p.hash p.old grants) more) in
      let does_first = does_both (deed_at (owner_key a) t.x ∷ []) (inserted wish tried ∷ []) c c d (does_entry (owner_key a) t.x c) p.does in
      record {
        deeds = deeds;
        leads = subst (λ (n : Mine). Leads (port_plan c.layout a moment rule next) deeds (ends (done n))) (full_is a moment rule place replaced m c d p m_is)
            (by_entry count (owner_key a) (requests.Free a.port a.net) answers.Done (connect_free shape seed a moment rule next) t.x (inserted wish tried ∷ last) there t.is_x
            (by_inserted (full_card a) moment rule tried (connect_tried shape seed a next) last there grants
            (subst (λ (o : Outcome). Leads (connect_tried shape seed a next o) last there) (sym (put_outcome p.hash p.old)) told)));
        gave = subst (Gave v w) (sym (all_entries count (owner_key a) (free_entry a ∷ come_entry a ∷ gone_of replaced answer) (t.x ∷ t.y ∷ t.zs) (t.is_x, (t.is_y, t.more)))) t.gave;
        does = does_both (deed_at (owner_key a) t.x ∷ inserted wish tried ∷ []) last c d d does_first (does_entries (owner_key a) (t.y ∷ t.zs) d);
      }

  refused_goes : (tried : Tried) (next rest : Asking Did) → connect_tried c.layout.shape c.layout.seed a next (outcome_of tried) ≡ rest → Does (inserted (wish_for a moment rule) tried ∷ []) c d
      → One (owner_key a % count) (free_entry a) v w → Went count (port_plan c.layout a moment rule next) v w c d rest
  refused_goes tried next rest goes does o =
      let wish = wish_for a moment rule in
      record {
        deeds = deed_at (owner_key a) o.x ∷ inserted wish tried ∷ [];
        leads = by_entry count (owner_key a) (requests.Free a.port a.net) answers.Done (connect_free c.layout.shape c.layout.seed a moment rule next) o.x (inserted wish tried ∷ []) rest o.is
            (by_inserted (full_card a) moment rule tried (connect_tried c.layout.shape c.layout.seed a next) [] rest (grants_of wish tried c d does) goes);
        gave = subst (λ (x : Placed Entry). Gave v w (x ∷ [])) (sym (entry_is count (owner_key a) (requests.Free a.port a.net) answers.Done o.x o.is)) o.gave;
        does = does_both (deed_at (owner_key a) o.x ∷ []) (inserted wish tried ∷ []) c c d (does_entry (owner_key a) o.x c) does;
      }

  -- the port's bucket was asked whether it is free, and no more
  asked_goes : (answer : Answer) → c ≡ d → One (owner_key a % count) (record { request = requests.Free a.port a.net; answer = answer }) v w → (next : Asking Did)
      → Went count (port_plan c.layout a moment rule next) v w c d (connect_free c.layout.shape c.layout.seed a moment rule next answer)
  asked_goes answer same o next =
      let free = connect_free c.layout.shape c.layout.seed a moment rule next in
      record {
        deeds = deed_at (owner_key a) o.x ∷ [];
        leads = by_entry count (owner_key a) (requests.Free a.port a.net) answer free o.x [] (free answer) o.is refl;
        gave = subst (λ (x : Placed Entry). Gave v w (x ∷ [])) (sym (entry_is count (owner_key a) (requests.Free a.port a.net) answer o.x o.is)) o.gave;
        does = subst (Does (deed_at (owner_key a) o.x ∷ []) c) same (does_entry (owner_key a) o.x c);
      }

  pub tries_held : (name : ℕ) → c ≡ d → AskedAll (owner_key a % count) (held_entry a name ∷ []) v w → TriesAt count c.layout a moment rule v w c d (Ok None)
  tries_held name same all =
      (asked_goes (answers.NotFree name) same (all_one (owner_key a % count) (held_entry a name) v w all), ap changes_by (sym same))

  -- the chain was another's for too long: the plan stands where the four-tuple was to be had
  tries_busy : c ≡ d → One (owner_key a % count) (free_entry a) v w → (next : Asking Did) → Stops count (port_plan c.layout a moment rule next) v w c d
  tries_busy same o next =
      stops_there count (port_plan c.layout a moment rule next) (connect_free c.layout.shape c.layout.seed a moment rule next answers.Done) v w c d same tt
      (asked_goes answers.Done same o next)

  pub tries_refused : (end : OpEnd) → InsertsAs (wish_for a moment rule) c d (Err end) → AskedAll (owner_key a % count) (free_entry a ∷ []) v w → TriesAt count c.layout a moment rule v w c d (next_or end)
  tries_refused (errors.Taken name) ins all = (
    λ next. refused_goes (kept_out name) next next refl ins (all_one (owner_key a % count) (free_entry a) v w all),
    kept_still (wish_for a moment rule) name c d ins,
  )
  tries_refused (errors.Full owned held) ins all = λ next.
      refused_goes (no_slot ins.number owned held) next (ends (refused (errors.Full owned held))) refl ins.does (all_one (owner_key a % count) (free_entry a) v w all)
  tries_refused (errors.LeftOff causes.Busy) ins all = tries_busy ins (all_one (owner_key a % count) (free_entry a) v w all)
  tries_refused (errors.LeftOff causes.Memory) ins all = absurd ins
  tries_refused (errors.InUse name) ins all = absurd ins
  tries_refused errors.NoPort ins all = absurd ins
  tries_refused errors.Inval ins all = absurd ins
  tries_refused errors.IsConn ins all = absurd ins
  tries_refused errors.GroupFull ins all = absurd ins
  tries_refused errors.GroupsFull ins all = absurd ins

  -- a try that could not begin
  pub tries_not : (cause : Cause) (r : Result (Option Mine) OpEnd) → IsErrAnd r (λ end. end ≡ errors.LeftOff cause) → d ≡ c → Gave v w [] → TriesAt count c.layout a moment rule v w c d r
  tries_not cause (Ok found) is same gave = absurd is
  tries_not cause (Err end) is same gave =
      subst (λ (e : OpEnd). TriesAt count c.layout a moment rule v w c d (Err e)) (sym is) (λ next. stops_nowhere count (port_plan c.layout a moment rule next) v w c d (sym same) tt gave)

  -- a search that ends here
  pub tried_err : (next : Asking Did) (end : OpEnd) → TriesAt count c.layout a moment rule v w c d (Err end) → Carried {X = Mine} done refused count (port_plan c.layout a moment rule next) v w c d (Err end)
  tried_err next (errors.LeftOff cause) k = k next
  tried_err next (errors.InUse n) k = k next
  tried_err next errors.NoPort k = k next
  tried_err next (errors.Taken n) k = k next
  tried_err next errors.Inval k = k next
  tried_err next errors.IsConn k = k next
  tried_err next errors.GroupFull k = k next
  tried_err next errors.GroupsFull k = k next
  tried_err next (errors.Full owned held) k = k next

-- the owner came, and no other of its name was there
pub try_stands : (count : ℕ) (a : Owner) (v w : View) (replaced : Option ℕ) (answer : Answer) → is_time_wait a.state ≡ false → IsAway a.name v
    → AskedAll (owner_key a % count) (free_entry a ∷ come_entry a ∷ gone_of replaced answer) v w → StandsOwn a (owner_key a % count) w
try_stands count a v w replaced answer awake away all =
    let at = owner_key a % count in
    let t = two_more at (free_entry a) (come_entry a) (gone_of replaced answer) v w all in
    let g = grows v w (t.x ∷ t.y ∷ t.zs) t.gave in
    let u = after v (t.x ∷ []) in
    let quiet : AllQuiet (t.x ∷ []) = (asked_quiet at (requests.Free a.port a.net) answers.Done t.x t.is_x tt, tt) in
    let k = knows_on a.name at None v u (t.x ∷ []) (away at) (grows_first v w (t.x ∷ []) (t.y ∷ t.zs) g) (all_pass at (t.x ∷ []) quiet) in
    let h = grows_rest v w (t.x ∷ []) (t.y ∷ t.zs) g in
    let s = after u (t.y ∷ []) in
    let came = comes a at (requests.ConnectAuto a) u s t.y k (grows_first u w (t.y ∷ []) t.zs h) t.is_y refl awake in
    came_stands a at w (came_on a at s w t.zs came (grows_rest u w (t.y ∷ []) t.zs h) (all_pass at t.zs (gone_quiet at replaced answer t.zs t.more)))

-- one question about a port leaves a name away
pub try_away : (place port net name : ℕ) (answer : Answer) (v w : View) → IsAway name v → AskedAll place (record { request = requests.Free port net; answer = answer } ∷ []) v w → IsAway name w
try_away place port net name answer v w away all =
    let o = all_one place (record { request = requests.Free port net; answer = answer }) v w all in
    away_on name v w (o.x ∷ []) away o.gave (asked_quiet place (requests.Free port net) answer o.x o.is tt, tt)

-- and a refusal at one port, whatever it means for the search
pub next_away : (t : Tables) (name : ℕ) (w : View) (d : Side) (end : OpEnd) → IsAway name w → TryLeaves t name w d (next_or end)
next_away t name w d (errors.Taken n) away = away
next_away t name w d (errors.Full owned held) away = away
next_away t name w d (errors.InUse n) away = away
next_away t name w d errors.NoPort away = away
next_away t name w d errors.Inval away = away
next_away t name w d errors.IsConn away = away
next_away t name w d errors.GroupFull away = away
next_away t name w d errors.GroupsFull away = away
next_away t name w d (errors.LeftOff cause) away = away

-- one whose four-tuple was taken cost no number of the clock
pub next_keeps : (end : OpEnd) (w u : Worker) → DrawnAs (Err end) (chain_words.known w.chain.pass) (chain_words.known u.chain.pass) → KeepsDraws w u (next_or end)
next_keeps (errors.Taken n) w u k = k
next_keeps (errors.Full owned held) w u k = tt
next_keeps (errors.InUse n) w u k = tt
next_keeps errors.NoPort w u k = tt
next_keeps errors.Inval w u k = tt
next_keeps errors.IsConn w u k = tt
next_keeps errors.GroupFull w u k = tt
next_keeps errors.GroupsFull w u k = tt
next_keeps (errors.LeftOff cause) w u k = tt

pub keeps_from : (w x u : Worker) (r : Result (Option Mine) OpEnd) → ((n : ℕ) → MayDraw n w → MayDraw n x) → KeepsDraws x u r → KeepsDraws w u r
keeps_from w x u (Ok (Some m)) same k = tt
keeps_from w x u (Ok None) same k = λ n has. k n (same n has)
keeps_from w x u (Err end) same k = tt

-- a try that could not begin leaves a name away
pub still_away : (t : Tables) (name : ℕ) (v w : View) (d : Side) (P : OpEnd → Type 0) (r : Result (Option Mine) OpEnd) → IsErrAnd r P → IsAway name v → Gave v w [] → TryLeaves t name w d r
still_away t name v w d P (Ok found) is away gave = absurd is
still_away t name v w d P (Err end) is away gave = away_on name v w [] away gave tt

module _ (count : ℕ) (a : Owner) (source : ℕ) (to : End) (moment : ℕ) (rule : Replace) (v : View) (c : Side) (ports : List ℕ) where
  abbrev search : List ℕ → Asking Did
  search rest = search_connect c.layout.shape c.layout.seed a source to moment rule rest

  -- all ports before those that are left were passed over, and no chain was changed
  abbrev pub Seeking : List ℕ → View → Side → Type 0
  Seeking rest u k = Went count (search ports) v u c k (search rest) × (changes_by k ≡ changes_by c)

  pub seeks : (rest : List ℕ) → rest ≡ ports → Seeking rest v c
  seeks rest all = (subst (λ ps. Went count (search ps) v v c c (search rest)) all (went_nowhere count (search rest) v c), refl)

  module _ (rest left : List ℕ) (port : ℕ) (b : Owner) (u w : View) (k d : Side) (s : Seeking rest u k) (same : k.layout ≡ c.layout) (here : rest ≡ port ∷ left) (b_is : b ≡ connected_at a source port to) where
    -- the plan at this port
    at_port : port_plan k.layout b moment rule (search left) ≡ search rest
    at_port =
        ap (λ l. port_plan l b moment rule (search left)) same
        ∙ ap (λ (o : Owner). port_plan c.layout o moment rule (search left)) b_is
        ∙ ap search (sym here)

    so_far : Went count (search ports) v u c k (port_plan k.layout b moment rule (search left))
    so_far = subst (Went count (search ports) v u c k) (sym at_port) s.0

    pub seek_found : (m : Mine) → TriesAt count k.layout b moment rule u w k d (Ok (Some m)) → Went count (search ports) v w c d (ends (done m))
    seek_found m t = went_both count (search ports) (port_plan k.layout b moment rule (search left)) (ends (done m)) v u w c k d so_far (t (search left))

    pub seek_on : TriesAt count k.layout b moment rule u w k d (Ok None) → Seeking left w d
    seek_on t = (went_both count (search ports) (port_plan k.layout b moment rule (search left)) (search left) v u w c k d so_far (t.0 (search left)), t.1 ∙ s.1)

    pub seek_err : (end : OpEnd) → TriesAt count k.layout b moment rule u w k d (Err end) → Carried {X = Mine} done refused count (search ports) v w c d (Err end)
    seek_err end t = goes_both {X = Mine} done refused count (search ports) (port_plan k.layout b moment rule (search left)) v u w c k d so_far s.1 (Err end)
        (tried_err count b moment rule u w k d (search left) end t)

-- a port passed over is one port less to try
pub enough : (most old new more : ℕ) (rest left : List ℕ) (port : ℕ) → rest ≡ port ∷ left → new ≡ old + 1 → old + (length rest + more) ≤ most → new + (length left + more) ≤ most
enough most old new more rest left port here one le =
    let n : length rest ≡ length left + 1 = ap length here ∙ omega arith in omega arith

pub named_at : (b a : Owner) (source port : ℕ) (to : End) → b ≡ connected_at a source port to → b.name ≡ a.name
named_at b a source port to is = ap (λ (o : Owner). o.name) is
