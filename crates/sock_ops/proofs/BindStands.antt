-- What `bind` leaves of its socket: a law of its plan and of the deeds by which that went on.
use Rattle.std.proofs.Common.{◌≡◌, ◌⊎◌, inl, inr, ℕ, ◌%◌, ◌==◌, Bool, true, false, List, [], ◌∷◌, ◌++◌, None, Result, Ok, Err, if◌then◌else◌, refl, sym, ap, subst, ◌∙◌}
use Rattle.sock_card.specs.declared.owner.Owner.{Owner}
use Rattle.sock_card.specs.declared.owner.State.{State}
use Rattle.sock_card.specs.declared.owner.State.TheVariants as states
use Rattle.sock_card.specs.Conflict.{bind_key, owner_key}
use Rattle.turn_table.specs.declared.note.Placed.{Placed}
use Rattle.turn_table.specs.Journals.{placed}
use Rattle.bind_buckets.specs.declared.request.Entry.{Entry}
use Rattle.bind_buckets.specs.declared.request.Request.{Request}
use Rattle.bind_buckets.specs.declared.request.Request.TheVariants as requests
use Rattle.bind_buckets.specs.declared.request.Answer.{Answer}
use Rattle.bind_buckets.specs.declared.request.Answer.TheVariants as answers
use Rattle.bind_buckets.specs.OwnTold.{StandsOwn}
use Rattle.bind_buckets.specs.Turned.{View, Gave, IsAsked}
use Rattle.flat_list.specs.declared.command.End.{End}
use Rattle.flat_list.specs.Owned.{bound_at}
use Rattle.race_record.specs.Deeds.{Deed, entered, inserted, added, left, reaped, entries_in}
use Rattle.table_model.specs.declared.operation.OpEnd.{OpEnd}
use Rattle.table_model.specs.declared.operation.OpEnd.TheVariants as errors
use Rattle.table_model.specs.Asking.{Asking, ends, asks, inserts, adds, unhashes, reaps, impossible}
use Rattle.table_model.specs.Own.{Mine}
use Rattle.flat_list.specs.Owned.{addressed}
use Rattle.table_model.specs.Operations.{Did, done, plain, bound, refused, search_bind, found_next, bind_answered, bind_any, bind_as, bind}
use Rattle.sock_ops.specs.Sides.{Side}
use Rattle.sock_ops.specs.declared.sock.Sock.{Sock}
use Rattle.sock_ops.specs.declared.sock.Sock.TheVariants as socks
use Rattle.sock_ops.specs.declared.tables.Tables.{Tables}
use Rattle.sock_ops.specs.Goes.{Carried, IsUndecided, Stops, Went}
use Rattle.sock_ops.specs.Laws.{BindStands, StandsBy}
use Rattle.sock_ops.specs.Leads.{Leads, Takes}
use Rattle.sock_ops.specs.Socks.{FitsState, first_mine, mine_of}
use Rattle.sock_ops.specs.Stands.{IsAway, StandsAs, buckets_of}
use Rattle.sock_ops.proofs.ConnectGoes.{still_as}
use Rattle.sock_ops.proofs.Goes.{at_once, refused_or}
use Rattle.sock_ops.proofs.Knows.{AllQuiet, IsQuiet, grows, grows_first, grows_rest, after, knows_on, all_pass, away_on, came_stands, comes}

-- the owner stands where its bucket has it, and one without a port is away
abbrev StandsIn : State → ℕ → Owner → View → Type 0
StandsIn states.Bound count a w = StandsOwn a (owner_key a % count) w
StandsIn states.Unbound count a w = IsAway a.name w
StandsIn _ count a w = ⊥

-- what a plan left so far of a socket of that name, which had no port
abbrev Left : ℕ → ℕ → View → Asking Did → Type 0
Left count name w (ends (done m)) = StandsIn m.owner.state count m.owner w
Left count name w impossible = Unit {0}
Left count name w _ = IsAway name w

-- A search for a port, as far as it went

-- it took the owner in at this port, and went on from there
pub record Sought {R : Type 0} (count : ℕ) (a : Owner) (addr : ℕ) (found : ℕ → Asking R) (deeds : List Deed) (rest : Asking R) : Type 0 where
  pub port : ℕ
  pub before : List (Placed Entry)
  pub last : Placed Entry
  pub more : List Deed
  pub split : entries_in count deeds ≡ before ++ last ∷ entries_in count more
  pub quiet : AllQuiet before
  pub taken : IsAsked (bind_key port a.net % count) (requests.BindAuto (bound_at a addr port)) answers.Done last
  pub on : Leads (found port) more rest

-- or it is at later ports still
pub record StillSearches {R : Type 0} (count : ℕ) (a : Owner) (addr : ℕ) (found : ℕ → Asking R) (none : Asking R) (deeds : List Deed) (rest : Asking R) : Type 0 where
  pub quiet : AllQuiet (entries_in count deeds)
  pub ports : List ℕ
  pub at : search_bind a addr found none ports ≡ rest

abbrev pub SearchedTo : {R : Type 0} → ℕ → Owner → ℕ → (ℕ → Asking R) → Asking R → List Deed → Asking R → Type 0
SearchedTo count a addr found none deeds rest =
    StillSearches count a addr found none deeds rest ⊎ (Sought count a addr found deeds rest ⊎ (rest ≡ impossible))

module _ {R : Type 0} (count : ℕ) (a : Owner) (addr : ℕ) (found : ℕ → Asking R) (none : Asking R) (result : R) (ends_so : none ≡ ends result) where
  abbrev plan : List ℕ → Asking R
  plan ports = search_bind a addr found none ports

  nothing : (deeds : List Deed) (rest : Asking R) → Leads (ends result) deeds rest → StillSearches count a addr found none deeds rest
  nothing [] rest leads = record { quiet = tt; ports = []; at = ends_so ∙ leads }
  nothing (d ∷ ds) rest leads = absurd leads.1

  no_more : (deeds : List Deed) (rest : Asking R) → Leads {R = R} impossible deeds rest → rest ≡ impossible
  no_more [] rest leads = sym leads
  no_more (d ∷ ds) rest leads = absurd leads.1

  one : (port : ℕ) (x : Placed Entry) (answer : Answer) → x.place ≡ bind_key port a.net % count → x.note.entry.request ≡ requests.BindAuto (bound_at a addr port) → x.note.entry.answer ≡ answer → IsAsked (bind_key port a.net % count) (requests.BindAuto (bound_at a addr port)) answer x
  one port x answer at r e = record { place_is = at; entry = λ i. record { request = r i; answer = e i } }

  more_quiet : (x : Placed Entry) (deeds : List Deed) (d : Deed) (rest : Asking R) → entries_in count (d ∷ deeds) ≡ x ∷ entries_in count deeds → IsQuiet x.note.entry.request x.note.entry.answer → SearchedTo count a addr found none deeds rest → SearchedTo count a addr found none (d ∷ deeds) rest
  more_quiet x deeds d rest is quiet (inl all) = inl (record { quiet = subst AllQuiet (sym is) (quiet, all.quiet); ports = all.ports; at = all.at })
  more_quiet x deeds d rest is quiet (inr (inl s)) =
      inr (inl (record { port = s.port; before = x ∷ s.before; last = s.last; more = s.more; split = is ∙ ap (λ xs. x ∷ xs) s.split; quiet = (quiet, s.quiet); taken = s.taken; on = s.on }))
  more_quiet x deeds d rest is quiet (inr (inr never)) = inr (inr never)

  by_answer : (port : ℕ) (ports : List ℕ) (k : ℕ) (x : Placed Entry) (deeds : List Deed) (rest : Asking R) (answer : Answer) (d : Deed) → entries_in count (d ∷ deeds) ≡ x ∷ entries_in count deeds → x.place ≡ bind_key port a.net % count → x.note.entry.request ≡ requests.BindAuto (bound_at a addr port) → x.note.entry.answer ≡ answer
      → Leads (found_next (found port) (plan ports) answer) deeds rest → (Leads (plan ports) deeds rest → SearchedTo count a addr found none deeds rest) → SearchedTo count a addr found none (d ∷ deeds) rest
  by_answer port ports k x deeds rest answers.Done d is at r e leads on =
      inr (inl (record { port = port; before = []; last = x; more = deeds; split = is; quiet = tt; taken = one port x answers.Done at r e; on = leads }))
  by_answer port ports k x deeds rest (answers.InUse name) d is at r e leads on =
      more_quiet x deeds d rest is (subst (λ (q : Request). IsQuiet q x.note.entry.answer) (sym r) (subst (λ (y : Answer). IsQuiet (requests.BindAuto (bound_at a addr port)) y) (sym e) refl)) (on leads)
  by_answer port ports k x deeds rest (answers.Group g) d is at r e leads on = inr (inr (no_more deeds rest leads))
  by_answer port ports k x deeds rest answers.GroupFull d is at r e leads on = inr (inr (no_more deeds rest leads))
  by_answer port ports k x deeds rest answers.GroupsFull d is at r e leads on = inr (inr (no_more deeds rest leads))
  by_answer port ports k x deeds rest (answers.Strange name) d is at r e leads on = inr (inr (no_more deeds rest leads))
  by_answer port ports k x deeds rest (answers.NotFree name) d is at r e leads on = inr (inr (no_more deeds rest leads))

  pub searched : (ports : List ℕ) (deeds : List Deed) (rest : Asking R) → Leads (plan ports) deeds rest → SearchedTo count a addr found none deeds rest
  searched [] deeds rest leads = inl (nothing deeds rest (subst (λ (p : Asking R). Leads p deeds rest) ends_so leads))
  searched (port ∷ ports) [] rest leads = inl (record { quiet = tt; ports = port ∷ ports; at = leads })
  searched (port ∷ ports) (entered k note ∷ deeds) rest leads =
      by_answer port ports k (placed (k % count) note) deeds rest note.entry.answer (entered k note) refl (ap (λ i. i % count) leads.1.0) leads.1.1 refl
      (subst (λ (p : Asking R). Leads p deeds rest) leads.1.2 leads.2) (λ on. searched ports deeds rest on)
  searched (port ∷ ports) (inserted wish tried ∷ deeds) rest leads = absurd leads.1
  searched (port ∷ ports) (added card tried ∷ deeds) rest leads = absurd leads.1
  searched (port ∷ ports) (left u ∷ deeds) rest leads = absurd leads.1
  searched (port ∷ ports) (reaped card u ∷ deeds) rest leads = absurd leads.1

-- The name is away unless the owner was taken in, and stands where it was: whatever the plan goes on to
pub came : {R : Type 0} (count : ℕ) (a : Owner) (addr : ℕ) (found : ℕ → Asking R) (deeds : List Deed) (rest : Asking R) (v w : View) (s : Sought count a addr found deeds rest) → IsAway a.name v → Gave v w (entries_in count deeds) → s.more ≡ []
    → StandsOwn (bound_at a addr s.port) (bind_key s.port a.net % count) w
came count a addr found deeds rest v w s away gave none =
    let b = bound_at a addr s.port in
    let place = bind_key s.port a.net % count in
    let split : entries_in count deeds ≡ s.before ++ s.last ∷ [] = s.split ∙ ap (λ ds. s.before ++ s.last ∷ entries_in count ds) none in
    let g = grows v w (s.before ++ s.last ∷ []) (subst (Gave v w) split gave) in
    let k = knows_on a.name place None v (after v s.before) s.before (away place) (grows_first v w s.before (s.last ∷ []) g) (all_pass place s.before s.quiet) in
    came_stands b place w (comes b place (requests.BindAuto b) (after v s.before) w s.last k (grows_rest v w s.before (s.last ∷ []) g) s.taken refl refl)

-- What the plan of `bind` leaves of its socket, however far it went, whoever else was there

module _ (count : ℕ) (a : Owner) (v w : View) (away : IsAway a.name v) where
  at_end : (deeds : List Deed) (rest : Asking Did) (p : Asking Did) → Leads p deeds rest → ((d : Deed) (next : Asking Did) → Takes p d next → ⊥) → Gave v w (entries_in count deeds) → (IsAway a.name w → Left count a.name w p) → Left count a.name w rest
  at_end [] rest p leads none gave stays = subst (Left count a.name w) leads (stays (away_on a.name v w [] away gave tt))
  at_end (d ∷ ds) rest p leads none gave stays = absurd (none d leads.0 leads.1)

  still_away : (addr : ℕ) (ports : List ℕ) → IsAway a.name w → Left count a.name w (search_bind a addr (bound a addr) (ends (refused errors.NoPort)) ports)
  still_away addr [] there = there
  still_away addr (port ∷ ports) there = there

  its_end : (addr port : ℕ) (deeds : List Deed) (rest : Asking Did) → Leads (bound a addr port) deeds rest → (deeds ≡ []) × (bound a addr port ≡ rest)
  its_end addr port [] rest leads = (refl, leads)
  its_end addr port (d ∷ ds) rest leads = absurd leads.1

  pub search_left : (addr : ℕ) (deeds : List Deed) (rest : Asking Did) → Gave v w (entries_in count deeds) → SearchedTo count a addr (bound a addr) (ends (refused errors.NoPort)) deeds rest → Left count a.name w rest
  search_left addr deeds rest gave (inl s) = subst (Left count a.name w) s.at (still_away addr s.ports (away_on a.name v w (entries_in count deeds) away gave s.quiet))
  search_left addr deeds rest gave (inr (inl s)) =
      let e = its_end addr s.port s.more rest s.on in subst (Left count a.name w) e.1 (came count a addr (bound a addr) deeds rest v w s away gave e.0)
  search_left addr deeds rest gave (inr (inr never)) = subst (Left count a.name w) (sym never) tt

  given_by : (end : End) (x : Placed Entry) (answer : Answer) (deeds : List Deed) (rest : Asking Did) → IsAsked (bind_key end.port a.net % count) (requests.Bind (bound_at a end.addr end.port)) answer x → Leads (bind_answered a end answer) deeds rest → Gave v w (x ∷ entries_in count deeds) → Left count a.name w rest
  given_by end x answers.Done [] rest is leads gave =
      let b = bound_at a end.addr end.port in
      let place = bind_key end.port a.net % count in
      subst (Left count a.name w) leads (came_stands b place w (comes b place (requests.Bind b) v w x (away place) (grows v w (x ∷ []) gave) is refl refl))
  given_by end x (answers.InUse name) [] rest is leads gave =
      subst (Left count a.name w) leads (away_on a.name v w (x ∷ []) away gave (subst (λ (e : Entry). IsQuiet e.request e.answer) (sym is.entry) refl, tt))
  given_by end x (answers.Group g) [] rest is leads gave = subst (Left count a.name w) leads tt
  given_by end x answers.GroupFull [] rest is leads gave = subst (Left count a.name w) leads tt
  given_by end x answers.GroupsFull [] rest is leads gave = subst (Left count a.name w) leads tt
  given_by end x (answers.Strange name) [] rest is leads gave = subst (Left count a.name w) leads tt
  given_by end x (answers.NotFree name) [] rest is leads gave = subst (Left count a.name w) leads tt
  given_by end x answers.Done (d ∷ ds) rest is leads gave = absurd leads.1
  given_by end x (answers.InUse name) (d ∷ ds) rest is leads gave = absurd leads.1
  given_by end x (answers.Group g) (d ∷ ds) rest is leads gave = absurd leads.1
  given_by end x answers.GroupFull (d ∷ ds) rest is leads gave = absurd leads.1
  given_by end x answers.GroupsFull (d ∷ ds) rest is leads gave = absurd leads.1
  given_by end x (answers.Strange name) (d ∷ ds) rest is leads gave = absurd leads.1
  given_by end x (answers.NotFree name) (d ∷ ds) rest is leads gave = absurd leads.1

  given_left : (end : End) (deeds : List Deed) (rest : Asking Did) → Leads (asks (bind_key end.port a.net) (requests.Bind (bound_at a end.addr end.port)) (bind_answered a end)) deeds rest → Gave v w (entries_in count deeds) → Left count a.name w rest
  given_left end [] rest leads gave = subst (Left count a.name w) leads (away_on a.name v w [] away gave tt)
  given_left end (entered k note ∷ ds) rest leads gave =
      given_by end (placed (k % count) note) note.entry.answer ds rest
      (record { place_is = ap (λ i. i % count) leads.1.0; entry = λ i. record { request = leads.1.1 i; answer = note.entry.answer } })
      (subst (λ (p : Asking Did). Leads p ds rest) leads.1.2 leads.2) gave
  given_left end (inserted wish tried ∷ ds) rest leads gave = absurd leads.1
  given_left end (added card tried ∷ ds) rest leads gave = absurd leads.1
  given_left end (left u ∷ ds) rest leads gave = absurd leads.1
  given_left end (reaped card u ∷ ds) rest leads gave = absurd leads.1

  any_left : (end : End) (ports : List ℕ) (late : Bool) (deeds : List Deed) (rest : Asking Did) → Leads (if late then ends (done (plain (addressed a end.addr))) else search_bind a end.addr (bound a end.addr) (ends (refused errors.NoPort)) ports) deeds rest → Gave v w (entries_in count deeds) → Left count a.name w rest
  any_left end ports true deeds rest leads gave = at_end deeds rest (ends (done (plain (addressed a end.addr)))) leads (λ d next takes. takes) gave (λ there. there)
  any_left end ports false deeds rest leads gave =
      search_left end.addr deeds rest gave (searched count a end.addr (bound a end.addr) (ends (refused errors.NoPort)) (refused errors.NoPort) refl ports deeds rest leads)

  unbound_left : (end : End) (ports : List ℕ) (zero_port : Bool) (deeds : List Deed) (rest : Asking Did)
      → Leads (if zero_port then bind_any a end.addr ports else asks (bind_key end.port a.net) (requests.Bind (bound_at a end.addr end.port)) (bind_answered a end)) deeds rest → Gave v w (entries_in count deeds) → Left count a.name w rest
  unbound_left end ports true deeds rest leads gave = any_left end ports a.noport deeds rest leads gave
  unbound_left end ports false deeds rest leads gave = given_left end deeds rest leads gave

-- of a socket without a port
pub bind_left : (count : ℕ) (m : Mine) (end : End) (ports : List ℕ) (v w : View) (deeds : List Deed) (rest : Asking Did) → m.owner.state ≡ states.Unbound → IsAway m.owner.name v → Leads (bind m end ports) deeds rest → Gave v w (entries_in count deeds) → Left count m.owner.name w rest
bind_left count m end ports v w deeds rest is away leads gave =
    unbound_left count m.owner v w away end ports (end.port == 0) deeds rest (subst (λ s. Leads (bind_as s m end ports) deeds rest) is leads) gave

-- The sockets that `bind` is called with, and those that come of it

undecided_away : (count name : ℕ) (w : View) (rest : Asking Did) → IsUndecided rest [] → Left count name w rest → IsAway name w
undecided_away count name w (ends did) undecided stands = absurd undecided
undecided_away count name w (asks key request then_) undecided stands = stands
undecided_away count name w (inserts card moment rule then_) undecided stands = stands
undecided_away count name w (adds card then_) undecided stands = stands
undecided_away count name w (unhashes place card then_) undecided stands = stands
undecided_away count name w (reaps card then_) undecided stands = stands
undecided_away count name w impossible undecided stands = absurd undecided

came_so : (t : Tables) (name : ℕ) (x : Sock) (w : View) (d : Side) → FitsState x → Left (buckets_of t) name w (ends (done (mine_of x))) → StandsAs t x w d
came_so t name (socks.Unbound m) w d fits h = subst (λ state. StandsIn state (buckets_of t) m.owner w) fits h
came_so t name (socks.Bound m) w d fits h = subst (λ state. StandsIn state (buckets_of t) m.owner w) fits h
came_so t name (socks.Listening m) w d fits h = absurd (subst (λ state. StandsIn state (buckets_of t) m.owner w) fits h)
came_so t name (socks.Full m) w d fits h = absurd (subst (λ state. StandsIn state (buckets_of t) m.owner w) fits h)
came_so t name (socks.Request m) w d fits h = absurd (subst (λ state. StandsIn state (buckets_of t) m.owner w) fits h)

-- a socket without a port
module _ (t : Tables) (m : Mine) (end : End) (ports : List ℕ) (v w : View) (c d : Side) (is : m.owner.state ≡ states.Unbound) (away : IsAway m.owner.name v) where
  abbrev its_plan : Asking Did
  its_plan = bind m end ports

  refused_away : (why : OpEnd) → Stops (buckets_of t) its_plan v w c d ⊎ Went (buckets_of t) its_plan v w c d (ends (refused why)) → IsAway m.owner.name w
  refused_away why (inl k) =
      undecided_away (buckets_of t) m.owner.name w k.rest k.undecided (bind_left (buckets_of t) m end ports v w k.went.deeds k.rest is away k.went.leads k.went.gave)
  refused_away why (inr k) = bind_left (buckets_of t) m end ports v w k.deeds (ends (refused why)) is away k.leads k.gave

  unbound_stands : (r : Result (Sock × ℕ) OpEnd) → Carried first_mine refused (buckets_of t) its_plan v w c d r → StandsBy t (socks.Unbound m) w d r
  unbound_stands (Ok x) k = λ fits.
      came_so t m.owner.name x.0 w d fits (bind_left (buckets_of t) m end ports v w k.deeds (ends (done (mine_of x.0))) is away k.leads k.gave)
  unbound_stands (Err why) k = refused_away why (refused_or (first_mine {B = ℕ}) refused (buckets_of t) its_plan v w c d why k)

-- one that has a port
module _ (t : Tables) (s : Sock) (v w : View) (c d : Side) (stood : StandsAs t s v c) where
  refused_as : (why end : OpEnd) → Stops (buckets_of t) (ends (refused why)) v w c d ⊎ Went (buckets_of t) (ends (refused why)) v w c d (ends (refused end)) → StandsAs t s w d
  refused_as why end (inl k) = let x = at_once (buckets_of t) (refused why) k.rest v w c d k.went in still_as t s v w c d x.0 x.1 stood
  refused_as why end (inr k) = let x = at_once (buckets_of t) (refused why) (ends (refused end)) v w c d k in still_as t s v w c d x.0 x.1 stood

  refused_stands : (why : OpEnd) (r : Result (Sock × ℕ) OpEnd) → Carried first_mine refused (buckets_of t) (ends (refused why)) v w c d r → StandsBy t s w d r
  refused_stands why (Ok x) k = let same = (at_once (buckets_of t) (refused why) (ends (done (mine_of x.0))) v w c d k).2 in absurd (cc)
  refused_stands why (Err end) k = refused_as why end (refused_or (first_mine {B = ℕ}) refused (buckets_of t) (ends (refused why)) v w c d end k)

pub bind_stands : BindStands
bind_stands t (socks.Unbound m) end ports v w c d r fits stood k = unbound_stands t m end ports v w c d fits stood r k
bind_stands t (socks.Bound m) end ports v w c d r fits stood k =
    refused_stands t (socks.Bound m) v w c d stood errors.Inval r (subst (λ state. Carried first_mine refused (buckets_of t) (bind_as state m end ports) v w c d r) fits k)
bind_stands t (socks.Listening m) end ports v w c d r fits stood k =
    refused_stands t (socks.Listening m) v w c d stood errors.Inval r (subst (λ state. Carried first_mine refused (buckets_of t) (bind_as state m end ports) v w c d r) fits k)
bind_stands t (socks.Full m) end ports v w c d r fits stood k =
    refused_stands t (socks.Full m) v w c d stood errors.Inval r (subst (λ state. Carried first_mine refused (buckets_of t) (bind_as state m end ports) v w c d r) fits k)
bind_stands t (socks.Request m) end ports v w c d r fits stood k =
    refused_stands t (socks.Request m) v w c d stood errors.Inval r (subst (λ state. Carried first_mine refused (buckets_of t) (bind_as state m end ports) v w c d r) fits k)
