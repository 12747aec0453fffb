-- How the plans of `bind` go on by the entries of a pass.
use Rattle.std.proofs.Common.{◌≡◌, ℕ, ◌%◌, ◌==◌, ◌&&◌, Bool, true, List, [], ◌∷◌, ◌++◌, None, Result, Ok, Err, IfOk, IfErr, refl, sym, ap, subst, ◌∙◌, false, append-nil, if◌then◌else◌, eq-eqb, ne_eqb, ◌≢◌}
use Rattle.std.proofs.lemmas.Bool.{false≢true}
use Rattle.sock_card.specs.declared.owner.Owner.{Owner}
use Rattle.sock_card.specs.declared.owner.State.{State}
use Rattle.sock_card.specs.declared.owner.State.TheVariants as states
use Rattle.sock_card.specs.Conflict.{bind_key, is_time_wait}
use Rattle.turn_table.specs.declared.note.Placed.{Placed}
use Rattle.bind_buckets.specs.declared.request.Request.{Request}
use Rattle.bind_buckets.specs.declared.request.Request.TheVariants as requests
use Rattle.bind_buckets.specs.declared.request.Answer.{Answer}
use Rattle.bind_buckets.specs.declared.request.Answer.TheVariants as answers
use Rattle.bind_buckets.specs.declared.request.Entry.{Entry}
use Rattle.bind_buckets.specs.declared.request.InUse.{InUse}
use Rattle.bind_buckets.specs.Answers.{answer_of_bind}
use Rattle.bind_buckets.specs.Turned.{View, Gave, OneAsked}
use Rattle.flat_list.specs.declared.command.End.{End}
use Rattle.flat_list.specs.Owned.{addressed, bound_at}
use Rattle.port_search.specs.declared.ends.SearchEnd.{SearchEnd}
use Rattle.port_search.specs.declared.ends.SearchEnd.TheVariants as searches
use Rattle.port_search.specs.Search.{IsNotBusy, IsNotFull, at_port}
use Rattle.port_search.specs.Turned.{AllRefuse, BindsAt, BindsNowhere, BindsNotYet}
use Rattle.table_model.specs.declared.operation.OpEnd.{OpEnd}
use Rattle.table_model.specs.declared.operation.OpEnd.TheVariants as errors
use Rattle.table_model.specs.Asking.{Asking, ends, asks}
use Rattle.table_model.specs.Own.{Mine}
use Rattle.table_model.specs.Operations.{Did, done, refused, plain, search_bind, found_next, bound, bind_answered, bind_unbound, bind_as, bind}
use Rattle.race_record.specs.Deeds.{Deed, entries_in}
use Rattle.sock_ops.specs.Sides.{Side}
use Rattle.sock_ops.specs.Made.{Does}
use Rattle.sock_ops.specs.declared.sock.Sock.{Sock}
use Rattle.sock_ops.specs.Binding.{end_of_bind, end_of_search, bound_to, bound_answer}
use Rattle.sock_ops.specs.Leads.{Leads}
use Rattle.sock_ops.specs.Goes.{Went, Stops, Carried, NotBusy}
use Rattle.sock_ops.specs.Socks.{first_mine, without_socket}
use Rattle.sock_ops.specs.Stands.{IsAway}
use Rattle.sock_ops.proofs.Goes.{deed_at, entry_is, by_entry, leads_both, entries_both, does_both, does_none, does_entry, went_nowhere, stops_there, same_err}
use Rattle.sock_ops.proofs.Knows.{AllQuiet, Came, grows, grows_first, grows_rest, after, knows_on, all_pass, away_on, asked_quiet, comes}

-- one question to a bucket
pub went_one : {R : Type 0} (count port : ℕ) (request : Request) (answer : Answer) (then_ : Answer → Asking R) (v w : View) (c : Side) → OneAsked (port % count) request answer v w → Went count (asks port request then_) v w c c (then_ answer)
went_one count port request answer then_ v w c o =
    record {
      deeds = deed_at port o.entry ∷ [];
      leads = by_entry count port request answer then_ o.entry [] (then_ answer) o.asked refl;
      gave = subst (λ (x : Placed Entry). Gave v w (x ∷ [])) (sym (entry_is count port request answer o.entry o.asked)) o.gave;
      does = does_entry port o.entry c;
    }

-- nothing was asked
pub went_so_far : {R : Type 0} (count : ℕ) (plan : Asking R) (v w : View) (c : Side) → Gave v w [] → Went count plan v w c c plan
went_so_far count plan v w c gave = record { deeds = []; leads = refl; gave = gave; does = does_none c }

-- each of these ports of a namespace was asked once
abbrev deeds_of : ℕ → List ℕ → List (Placed Entry) → List Deed
deeds_of net (port ∷ ports) (x ∷ xs) = deed_at (bind_key port net) x ∷ deeds_of net ports xs
deeds_of net _ _ = []

does_each : (net : ℕ) (ports : List ℕ) (xs : List (Placed Entry)) (c : Side) → Does (deeds_of net ports xs) c c
does_each net [] xs c = does_none c
does_each net (port ∷ ports) [] c = does_none c
does_each net (port ∷ ports) (x ∷ xs) c =
    does_both (deed_at (bind_key port net) x ∷ []) (deeds_of net ports xs) c c c (does_entry (bind_key port net) x c) (does_each net ports xs c)

module _ (count : ℕ) (b : Owner) where
  entries_each : (ports : List ℕ) (xs : List (Placed Entry)) → AllRefuse count b ports xs → entries_in count (deeds_of b.net ports xs) ≡ xs
  entries_each [] [] all = refl
  entries_each [] (x ∷ xs) all = absurd all
  entries_each (port ∷ ports) [] all = absurd all
  entries_each (port ∷ ports) (x ∷ xs) all =
      ap (λ (y : Placed Entry). y ∷ entries_in count (deeds_of b.net ports xs)) (entry_is count (bind_key port b.net) (requests.BindAuto (at_port b port)) (answers.InUse all.0.name) x all.0.asked)
      ∙ ap (λ ys. x ∷ ys) (entries_each ports xs all.1)

  pub all_quiet : (ports : List ℕ) (xs : List (Placed Entry)) → is_time_wait b.state ≡ false → AllRefuse count b ports xs → AllQuiet xs
  all_quiet [] [] awake all = tt
  all_quiet [] (x ∷ xs) awake all = absurd all
  all_quiet (port ∷ ports) [] awake all = absurd all
  all_quiet (port ∷ ports) (x ∷ xs) awake all =
      (asked_quiet (bind_key port b.net % count) (requests.BindAuto (at_port b port)) (answers.InUse all.0.name) x all.0.asked awake, all_quiet ports xs awake all.1)

  -- a search leaves the owner that it bound the only one of its name
  pub search_came : (v w : View) (ports : List ℕ) (port : ℕ) → is_time_wait b.state ≡ false → IsAway b.name v → BindsAt count b ports v w port → Came (at_port b port) (bind_key port b.net % count) w
  search_came v w ports port awake away at =
      let place = bind_key port b.net % count in
      let g = grows v w (at.refused ++ at.last ∷ []) at.gave in
      let k = knows_on b.name place None v (after v at.refused) at.refused (away place) (grows_first v w at.refused (at.last ∷ []) g) (all_pass place at.refused (all_quiet at.before at.refused awake at.refusals)) in
      comes (at_port b port) place (requests.BindAuto (at_port b port)) (after v at.refused) w at.last k (grows_rest v w at.refused (at.last ∷ []) g) at.taken refl awake

  pub search_away : (v w : View) (ports : List ℕ) → is_time_wait b.state ≡ false → IsAway b.name v → BindsNowhere count b ports v w → IsAway b.name w
  search_away v w ports awake away at = away_on b.name v w at.refused away at.gave (all_quiet ports at.refused awake at.refusals)

  pub stop_away : (v w : View) (ports : List ℕ) → is_time_wait b.state ≡ false → IsAway b.name v → BindsNotYet count b ports v w → IsAway b.name w
  stop_away v w ports awake away at = away_on b.name v w at.refused away at.gave (all_quiet at.before at.refused awake at.refusals)

module _ (count : ℕ) (a : Owner) (v w : View) where
  -- to the port that is given
  pub given_goes : (end : End) (r : Result (Unit {0}) InUse) (c : Side) → OneAsked (bind_key end.port a.net % count) (requests.Bind (bound_at a end.addr end.port)) (answer_of_bind r) v w
      → Carried {X = Unit {0}} (λ _. bound_to a end.addr end.port) refused count (asks (bind_key end.port a.net) (requests.Bind (bound_at a end.addr end.port)) (bind_answered a end)) v w c c (end_of_bind r)
  given_goes end (Ok x) c o = went_one count (bind_key end.port a.net) (requests.Bind (bound_at a end.addr end.port)) answers.Done (bind_answered a end) v w c o
  given_goes end (Err e) c o = went_one count (bind_key end.port a.net) (requests.Bind (bound_at a end.addr end.port)) (answers.InUse e.0) (bind_answered a end) v w c o

  module _ (addr : ℕ) {R : Type 0} (found : ℕ → Asking R) (none : Asking R) where
    abbrev plan : List ℕ → Asking R
    plan ports = search_bind a addr found none ports

    abbrev b : Owner
    b = bound_at a addr 0

    leads_refused : (ports rest : List ℕ) (xs : List (Placed Entry)) → AllRefuse count b ports xs → Leads (plan (ports ++ rest)) (deeds_of a.net ports xs) (plan rest)
    leads_refused [] rest [] all = refl
    leads_refused [] rest (x ∷ xs) all = absurd all
    leads_refused (p ∷ ports) rest [] all = absurd all
    leads_refused (p ∷ ports) rest (x ∷ xs) all =
        by_entry count (bind_key p a.net) (requests.BindAuto (bound_at a addr p)) (answers.InUse all.0.name) (found_next (found p) (plan (ports ++ rest))) x (deeds_of a.net ports xs) (plan rest) all.0.asked
        (leads_refused ports rest xs all.1)

    pub search_finds : (ports : List ℕ) (port : ℕ) (c : Side) → BindsAt count b ports v w port → Went count (plan ports) v w c c (found port)
    search_finds ports port c at =
        let first = deeds_of a.net at.before at.refused in
        let last = deed_at (bind_key port a.net) at.last ∷ [] in
        let one = by_entry count (bind_key port a.net) (requests.BindAuto (bound_at a addr port)) answers.Done (found_next (found port) (plan at.after)) at.last [] (found port) at.taken refl in
        let here : entries_in count (first ++ last) ≡ at.refused ++ at.last ∷ [] =
        entries_both count first last ∙ ap (λ xs. xs ++ entries_in count last) (entries_each count b at.before at.refused at.refusals)
        ∙ ap (λ (x : Placed Entry). at.refused ++ x ∷ []) (entry_is count (bind_key port a.net) (requests.BindAuto (bound_at a addr port)) answers.Done at.last at.taken) in
        record {
          deeds = first ++ last;
          leads = leads_both (plan ports) (plan (port ∷ at.after)) (found port) first last
              (subst (λ ps. Leads (plan ps) first (plan (port ∷ at.after))) (sym at.split) (leads_refused at.before (port ∷ at.after) at.refused at.refusals)) one;
          gave = subst (Gave v w) (sym here) at.gave;
          does = does_both first last c c c (does_each a.net at.before at.refused c) (does_entry (bind_key port a.net) at.last c);
        }

    pub search_fails : (ports : List ℕ) (c : Side) → BindsNowhere count b ports v w → Went count (plan ports) v w c c none
    search_fails ports c at =
        record {
          deeds = deeds_of a.net ports at.refused;
          leads = subst (λ ps. Leads (plan ps) (deeds_of a.net ports at.refused) none) (append-nil ports) (leads_refused ports [] at.refused at.refusals);
          gave = subst (Gave v w) (sym (entries_each count b ports at.refused at.refusals)) at.gave;
          does = does_each a.net ports at.refused c;
        }

    pub search_stops : (ports : List ℕ) (c : Side) → BindsNotYet count b ports v w → Stops count (plan ports) v w c c
    search_stops ports c at =
        stops_there count (plan ports) (plan (at.port ∷ at.after)) v w c c refl tt
        (record {
          deeds = deeds_of a.net at.before at.refused;
          leads = subst (λ ps. Leads (plan ps) (deeds_of a.net at.before at.refused) (plan (at.port ∷ at.after))) (sym at.split) (leads_refused at.before (at.port ∷ at.after) at.refused at.refusals);
          gave = subst (Gave v w) (sym (entries_each count b at.before at.refused at.refusals)) at.gave;
          does = does_each a.net at.before at.refused c;
        })

  pub searched_goes : (addr : ℕ) (ports : List ℕ) (r : Result ℕ SearchEnd) (c : Side) → IfOk r (BindsAt count (bound_at a addr 0) ports v w) → (r ≡ Err searches.NoPort → BindsNowhere count (bound_at a addr 0) ports v w) → (r ≡ Err searches.Memory → BindsNotYet count (bound_at a addr 0) ports v w) → (r ≡ Err searches.Busy → BindsNotYet count (bound_at a addr 0) ports v w) → IfErr r IsNotFull
      → Carried (bound_to a addr) refused count (search_bind a addr (bound a addr) (ends (refused errors.NoPort)) ports) v w c c (end_of_search r)
  searched_goes addr ports (Ok port) c at none yet busy end = search_finds addr (bound a addr) (ends (refused errors.NoPort)) ports port c at
  searched_goes addr ports (Err searches.NoPort) c at none yet busy end = search_fails addr (bound a addr) (ends (refused errors.NoPort)) ports c (none refl)
  searched_goes addr ports (Err searches.Memory) c at none yet busy end = search_stops addr (bound a addr) (ends (refused errors.NoPort)) ports c (yet refl)
  searched_goes addr ports (Err searches.Busy) c at none yet busy end = search_stops addr (bound a addr) (ends (refused errors.NoPort)) ports c (busy refl)
  searched_goes addr ports (Err (searches.Full owned held)) c at none yet busy end = absurd end

-- whoever waits for good doesn't get the answer that it was busy
pub search_patient : (r : Result ℕ SearchEnd) → IfErr r IsNotBusy → IfErr (end_of_search r) NotBusy
search_patient (Ok port) h = tt
search_patient (Err searches.NoPort) h = tt
search_patient (Err searches.Memory) h = tt
search_patient (Err searches.Busy) h = absurd h
search_patient (Err (searches.Full owned held)) h = tt

-- what is handed back beside the answer
module _ (count : ℕ) (m : Mine) (end : End) (ports : List ℕ) (v w : View) (c : Side) (s : Sock) where
  answered : (r : Result ℕ OpEnd) → Carried (bound_to m.owner end.addr) refused count (bind_unbound m.owner end ports) v w c c r
      → Carried first_mine refused count (bind_unbound m.owner end ports) v w c c (without_socket (bound_answer s m.owner end.addr r))
  answered (Ok port) k = k
  answered (Err e) k = same_err {X = ℕ} {Y = Sock × ℕ} (bound_to m.owner end.addr) first_mine refused count (bind_unbound m.owner end ports) v w c c e k

  pub bind_answers : (r : Result ℕ OpEnd) → m.owner.state ≡ states.Unbound → Carried (bound_to m.owner end.addr) refused count (bind_unbound m.owner end ports) v w c c r
      → Carried first_mine refused count (bind m end ports) v w c c (without_socket (bound_answer s m.owner end.addr r))
  bind_answers r state k =
      subst (λ (st : State). Carried first_mine refused count (bind_as st m end ports) v w c c (without_socket (bound_answer s m.owner end.addr r))) (sym state) (answered r k)

-- the plan by the end's port, and by when it is taken
plan_by : Owner → End → List ℕ → Bool → Bool → Asking Did
plan_by a end ports any late =
    if any then (if late then ends (done (plain (addressed a end.addr))) else search_bind a end.addr (bound a end.addr) (ends (refused errors.NoPort)) ports)
    else asks (bind_key end.port a.net) (requests.Bind (bound_at a end.addr end.port)) (bind_answered a end)

pub searched_plan : (a : Owner) (end : End) (ports : List ℕ) → end.port ≡ 0 → ((end.port == 0) && a.noport) ≡ false
    → search_bind a end.addr (bound a end.addr) (ends (refused errors.NoPort)) ports ≡ bind_unbound a end ports
unfolding plan_by
searched_plan a end ports is now =
    let any = eq-eqb end.port 0 is in
    let late : a.noport ≡ false = rw any at now in
    sym (ap (λ b. plan_by a end ports b a.noport) any ∙ ap (plan_by a end ports true) late)

both : (x y : Bool) → (x && y) ≡ true → (x ≡ true) × (y ≡ true)
both true y h = (refl, h)
both false y h = absurd (false≢true h)

-- a port that is taken late
pub late_plan : (a : Owner) (end : End) (ports : List ℕ) → ((end.port == 0) && a.noport) ≡ true → bind_unbound a end ports ≡ ends (done (plain (addressed a end.addr)))
unfolding plan_by
late_plan a end ports is =
    let parts = both (end.port == 0) a.noport is in
    ap (λ b. plan_by a end ports b a.noport) parts.0 ∙ ap (plan_by a end ports true) parts.1

pub late_goes : (count : ℕ) (m : Mine) (end : End) (ports : List ℕ) (v : View) (c : Side) → m.owner.state ≡ states.Unbound → ((end.port == 0) && m.owner.noport) ≡ true
    → Went count (bind m end ports) v v c c (ends (done (plain (addressed m.owner end.addr))))
late_goes count m end ports v c state is =
    subst (λ (p : Asking Did). Went count p v v c c (ends (done (plain (addressed m.owner end.addr)))))
    (sym (ap (λ (st : State). bind_as st m end ports) state ∙ late_plan m.owner end ports is)) (went_nowhere count (ends (done (plain (addressed m.owner end.addr)))) v c)

pub given_plan : (a : Owner) (end : End) (ports : List ℕ) → end.port ≢ 0 → asks (bind_key end.port a.net) (requests.Bind (bound_at a end.addr end.port)) (bind_answered a end) ≡ bind_unbound a end ports
unfolding plan_by
given_plan a end ports not =
    sym (ap (λ t. plan_by a end ports t a.noport) (ne_eqb end.port 0 not))

-- a socket that has a port
pub has_port : (count : ℕ) (m : Mine) (end : End) (ports : List ℕ) (v : View) (c : Side) (state : State) → m.owner.state ≡ state → bind_as state m end ports ≡ ends (refused errors.Inval) → Went count (bind m end ports) v v c c (ends (refused errors.Inval))
has_port count m end ports v c state is plan =
    subst (λ (st : State). Went count (bind_as st m end ports) v v c c (ends (refused errors.Inval))) (sym is)
    (subst (λ p. Went count p v v c c (ends (refused errors.Inval))) (sym plan) (went_nowhere count (ends (refused errors.Inval)) v c))
