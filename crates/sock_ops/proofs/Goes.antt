-- How plans go on by deeds.
use Rattle.std.proofs.Common.{◌≡◌, ◌⊎◌, inl, inr, ℕ, ◌%◌, ◌≤◌, List, [], ◌∷◌, ◌++◌, map, Result, Ok, Err, IsErrAnd, refl, sym, ap, subst, ◌∙◌, append-nil, append_assoc}
use Rattle.std.proofs.lemmas.List.{map-append}
use Rattle.std.proofs.lemmas.List.Concat.{flat_map-append}
use Rattle.sock_card.specs.declared.card.Card.{Card}
use Rattle.turn_table.specs.declared.note.Placed.{Placed}
use Rattle.turn_table.specs.Journals.{placed}
use Rattle.bind_buckets.specs.declared.request.Request.{Request}
use Rattle.bind_buckets.specs.declared.request.Answer.{Answer}
use Rattle.bind_buckets.specs.declared.request.Entry.{Entry}
use Rattle.bind_buckets.specs.Notes.{Note}
use Rattle.bind_buckets.specs.Bucket.{entries_of}
use Rattle.bind_buckets.specs.Turned.{View, Gave, IsAsked, IsAlone, KnowsAll, AreLawful}
use Rattle.chain_book.specs.declared.book.Change.{Change}
use Rattle.chain_book.specs.declared.outcome.Place.{Place}
use Rattle.chain_book.specs.declared.outcome.Replace.{Replace}
use Rattle.chain_book.specs.Chains.{Chains, hashed, unhashed, waiting}
use Rattle.table_rule.specs.Sole.{IsNow}
use Rattle.table_model.specs.declared.operation.Cause.{Cause}
use Rattle.table_model.specs.declared.operation.OpEnd.{OpEnd}
use Rattle.table_model.specs.declared.operation.OpEnd.TheVariants as errors
use Rattle.table_model.specs.Asking.{Asking, ends, asks, inserts, adds, unhashes, reaps}
use Rattle.table_model.specs.Tables.{run, reaped}
use Rattle.table_model.specs.Goes.{Told, AreChains, tables_by}
use Rattle.table_model.specs.Goes as told
use Rattle.table_model.proofs.commands.Alone.{goes_alone}
use Rattle.list_words.specs.Lists.{Each}
use Rattle.race_record.specs.Deeds.{Wish, Tried, Deed, entered, inserted, added, left, entry_of, entries_in}
use Rattle.race_record.specs.Deeds as deeds
use Rattle.race_record.specs.Goes.{Goes, Grants, Admits, IsUnhashAt, outcome_of, was_there}
use Rattle.race_record.specs.Laws.{told_of}
use Rattle.race_record.proofs.Leads.{tells_entries}
use Rattle.port_search.proofs.TurnSearch.{gave_none, gave_both}
use Rattle.sock_ops.specs.Sides.{Side, chains_by, changes_by}
use Rattle.sock_ops.specs.Made.{Does, AllLeave, Spares}
use Rattle.sock_ops.specs.Leads.{Leads}
use Rattle.sock_ops.specs.Laws.{ComeAlone}
use Rattle.sock_ops.specs.Stands.{buckets_of, chained, turned}
use Rattle.sock_ops.specs.Goes.{Went, Stops, LeftOff, IsUndecided, Carried, CarriedOut, AreAsked, AskedAll}

-- What was asked in one turn

are_asked : (at place : ℕ) (ms : List Note) → at ≡ place → AreAsked place (entries_of ms) (map (placed at) ms)
are_asked at place [] same = tt
are_asked at place (m ∷ ms) same = (record { place_is = same; entry = refl }, are_asked at place ms same)

pub asked_all : (at place : ℕ) (es : List Entry) (v w : View) (ms : List Note) → at ≡ place → entries_of ms ≡ es → Gave v w (map (placed at) ms) → AskedAll place es v w
asked_all at place es v w ms same e g =
    record { xs = map (placed at) ms; asked = subst (λ fs. AreAsked place fs (map (placed at) ms)) e (are_asked at place ms same); gave = g }

pub record One (place : ℕ) (e : Entry) (v w : View) : Type 0 where
  pub x : Placed Entry
  pub is : IsAsked place e.request e.answer x
  pub gave : Gave v w (x ∷ [])

one_of : (place : ℕ) (e : Entry) (v w : View) (xs : List (Placed Entry)) → AreAsked place (e ∷ []) xs → Gave v w xs → One place e v w
one_of place e v w [] a g = absurd a
one_of place e v w (x ∷ []) a g = record { x = x; is = a.0; gave = g }
one_of place e v w (x ∷ y ∷ xs) a g = absurd a.1

pub all_one : (place : ℕ) (e : Entry) (v w : View) → AskedAll place (e ∷ []) v w → One place e v w
all_one place e v w all = one_of place e v w all.xs all.asked all.gave

pub record Two (place : ℕ) (e f : Entry) (v w : View) : Type 0 where
  pub x : Placed Entry
  pub y : Placed Entry
  pub is_x : IsAsked place e.request e.answer x
  pub is_y : IsAsked place f.request f.answer y
  pub gave : Gave v w (x ∷ y ∷ [])

two_of : (place : ℕ) (e f : Entry) (v w : View) (xs : List (Placed Entry)) → AreAsked place (e ∷ f ∷ []) xs → Gave v w xs → Two place e f v w
two_of place e f v w [] a g = absurd a
two_of place e f v w (x ∷ []) a g = absurd a.1
two_of place e f v w (x ∷ y ∷ []) a g = record { x = x; y = y; is_x = a.0; is_y = a.1.0; gave = g }
two_of place e f v w (x ∷ y ∷ z ∷ xs) a g = absurd a.1.1

pub all_two : (place : ℕ) (e f : Entry) (v w : View) → AskedAll place (e ∷ f ∷ []) v w → Two place e f v w
all_two place e f v w all = two_of place e f v w all.xs all.asked all.gave

pub record First (place : ℕ) (e : Entry) (es : List Entry) (v w : View) : Type 0 where
  pub x : Placed Entry
  pub zs : List (Placed Entry)
  pub is : IsAsked place e.request e.answer x
  pub more : AreAsked place es zs
  pub gave : Gave v w (x ∷ zs)

first_of : (place : ℕ) (e : Entry) (es : List Entry) (v w : View) (xs : List (Placed Entry)) → AreAsked place (e ∷ es) xs → Gave v w xs → First place e es v w
first_of place e es v w [] a g = absurd a
first_of place e es v w (x ∷ xs) a g = record { x = x; zs = xs; is = a.0; more = a.1; gave = g }

pub all_first : (place : ℕ) (e : Entry) (es : List Entry) (v w : View) → AskedAll place (e ∷ es) v w → First place e es v w
all_first place e es v w all = first_of place e es v w all.xs all.asked all.gave

-- Entries as deeds

abbrev pub deed_at : ℕ → Placed Entry → Deed
deed_at port x = entered port x.note

-- the deed of an entry of the port's bucket has that entry
pub entry_is : (count port : ℕ) (request : Request) (answer : Answer) (x : Placed Entry) → IsAsked (port % count) request answer x → placed (port % count) x.note ≡ x
entry_is count port request answer x is = ap (λ (n : ℕ). placed n x.note) (sym is.place_is)

pub all_entries : (count port : ℕ) (es : List Entry) (xs : List (Placed Entry)) → AreAsked (port % count) es xs → entries_in count (map (deed_at port) xs) ≡ xs
all_entries count port [] [] a = refl
all_entries count port [] (x ∷ xs) a = absurd a
all_entries count port (e ∷ es) [] a = absurd a
all_entries count port (e ∷ es) (x ∷ xs) a =
    ap (λ (y : Placed Entry). y ∷ entries_in count (map (deed_at port) xs)) (entry_is count port e.request e.answer x a.0)
    ∙ ap (λ (ys : List (Placed Entry)). x ∷ ys) (all_entries count port es xs a.1)

-- A plan goes on

module _ {R : Type 0} where
  pub by_entry : (count port : ℕ) (request : Request) (answer : Answer) (then_ : Answer → Asking R) (x : Placed Entry) (ds : List Deed) (rest : Asking R) → IsAsked (port % count) request answer x
      → Leads (then_ answer) ds rest → Leads (asks port request then_) (deed_at port x ∷ ds) rest
  by_entry count port request answer then_ x ds rest is h =
      (then_ x.note.entry.answer, (refl, ap (λ (e : Entry). e.request) is.entry, refl), subst (λ (e : Entry). Leads (then_ e.answer) ds rest) (sym is.entry) h)

  pub by_added : (card : Card) (tried : Tried) (then_ : _ → Asking R) (ds : List Deed) (rest : Asking R) → Admits card tried → Leads (then_ (outcome_of tried)) ds rest → Leads (adds card then_) (added card tried ∷ ds) rest
  by_added card tried then_ ds rest a h = (then_ (outcome_of tried), (refl, a, refl), h)

  pub by_inserted : (card : Card) (moment : ℕ) (rule : Replace) (tried : Tried) (then_ : _ → Asking R) (ds : List Deed) (rest : Asking R)
      → Grants (record { card = card; moment = moment; rule = rule }) tried → Leads (then_ (outcome_of tried)) ds rest
      → Leads (inserts card moment rule then_) (inserted (record { card = card; moment = moment; rule = rule }) tried ∷ ds) rest
  by_inserted card moment rule tried then_ ds rest a h = (then_ (outcome_of tried), (refl, a, refl), h)

  pub by_left : (place : Place) (card : Card) (then_ : Asking R) (u : Change) (ds : List Deed) (rest : Asking R) → IsUnhashAt place card u → Leads then_ ds rest → Leads (unhashes place card then_) (left u ∷ ds) rest
  by_left place card then_ u ds rest a h = (then_, (a, refl), h)

  pub leads_both : (p q r : Asking R) (xs ys : List Deed) → Leads p xs q → Leads q ys r → Leads p (xs ++ ys) r
  leads_both p q r [] ys a b = subst (λ (k : Asking R). Leads k ys r) (sym a) b
  leads_both p q r (x ∷ xs) ys a b = (a.0, a.1, leads_both a.0 q r xs ys a.2 b)

  -- to its end: so a record states it
  pub goes_by : (p : Asking R) (ds : List Deed) (r : R) → Leads p ds (ends r) → Goes p ds r
  goes_by p [] r a = subst (λ (k : Asking R). Goes k [] r) (sym a) refl
  goes_by (asks port request then_) (entered p note ∷ ds) r a = (a.1.0, a.1.1, goes_by (then_ note.entry.answer) ds r (subst (λ (k : Asking R). Leads k ds (ends r)) a.1.2 a.2))
  goes_by (inserts card moment rule then_) (inserted wish tried ∷ ds) r a = (a.1.0, a.1.1, goes_by (then_ (outcome_of tried)) ds r (subst (λ (k : Asking R). Leads k ds (ends r)) a.1.2 a.2))
  goes_by (adds card then_) (added c tried ∷ ds) r a = (a.1.0, a.1.1, goes_by (then_ (outcome_of tried)) ds r (subst (λ (k : Asking R). Leads k ds (ends r)) a.1.2 a.2))
  goes_by (unhashes place card then_) (left u ∷ ds) r a = (a.1.0, goes_by then_ ds r (subst (λ (k : Asking R). Leads k ds (ends r)) a.1.1 a.2))
  goes_by (reaps card then_) (deeds.reaped c unhash ∷ ds) r a = (a.1.0, a.1.1, goes_by (then_ (was_there unhash)) ds r (subst (λ (k : Asking R). Leads k ds (ends r)) a.1.2 a.2))
  goes_by p (d ∷ ds) r a = absurd a.1

  -- and so it goes on by what the deeds report
  leads_told : (count : ℕ) (p rest : Asking R) (ds : List Deed) → Leads p ds rest → told.Leads count p (map (told_of count) ds) rest
  leads_told count p rest [] a = a
  leads_told count (asks port request then_) rest (entered p note ∷ ds) a = (a.0, (ap (λ (k : ℕ). k % count) a.1.0, a.1.1, a.1.2), leads_told count a.0 rest ds a.2)
  leads_told count (inserts card moment rule then_) rest (inserted wish tried ∷ ds) a =
      (a.0, (ap (λ (w : Wish). w.card) a.1.0, ap (λ (w : Wish). w.moment) a.1.0, ap (λ (w : Wish). w.rule) a.1.0, a.1.2), leads_told count a.0 rest ds a.2)
  leads_told count (adds card then_) rest (added c tried ∷ ds) a = (a.0, (a.1.0, a.1.2), leads_told count a.0 rest ds a.2)
  leads_told count (unhashes place card then_) rest (left u ∷ ds) a =
      let same : record { bucket = u.bucket; slot = u.slot } ≡ place = λ i. record { bucket = a.1.0.bucket i; slot = a.1.0.slot i } in
      (a.0, (same, a.1.0.unhash.card_is, a.1.1), leads_told count a.0 rest ds a.2)
  leads_told count (reaps card then_) rest (deeds.reaped c unhash ∷ ds) a = (a.0, (a.1.0, a.1.2), leads_told count a.0 rest ds a.2)
  leads_told count p rest (d ∷ ds) a = absurd a.1

-- Deeds one after the other

pub entries_both : (count : ℕ) (xs ys : List Deed) → entries_in count (xs ++ ys) ≡ entries_in count xs ++ entries_in count ys
entries_both count xs ys = flat_map-append (entry_of count) xs ys

leaves_both : (xs ys : List Deed) (c d e : Side) → AllLeave xs c d → AllLeave ys d e → AllLeave (xs ++ ys) c e
leaves_both [] ys c d e a b = subst (λ (k : Side). AllLeave ys k e) (sym a) b
leaves_both (x ∷ xs) ys c d e a b = (a.0, a.1, leaves_both xs ys a.0 d e a.2 b)

chains_both : (xs ys : List Told) (c d e : Chains) → AreChains c xs d → AreChains d ys e → AreChains c (xs ++ ys) e
chains_both [] ys c d e a b = subst (λ (k : Chains). AreChains k ys e) (sym a) b
chains_both (told.entered x ∷ xs) ys c d e a b = chains_both xs ys c d e a b
chains_both (told.inserted card moment rule outcome ∷ xs) ys c d e a b = (a.0, chains_both xs ys (hashed c card outcome) d e a.1 b)
chains_both (told.added card outcome ∷ xs) ys c d e a b = (a.0, chains_both xs ys (hashed c card outcome) d e a.1 b)
chains_both (told.left place card ∷ xs) ys c d e a b = chains_both xs ys (unhashed c place) d e a b
chains_both (told.reaps_found card found ∷ xs) ys c d e a b = (a.0, chains_both xs ys (reaped c card (waiting c card)) d e a.1 b)

pub each_parts : {A : Type 0} (P : A → Type 0) (xs ys : List A) → Each P (xs ++ ys) → Each P xs × Each P ys
each_parts P [] ys p = (tt, p)
each_parts P (x ∷ xs) ys p = let more = each_parts P xs ys p.1 in ((p.0, more.0), more.1)

pub does_both : (xs ys : List Deed) (c d e : Side) → Does xs c d → Does ys d e → Does (xs ++ ys) c e
does_both xs ys c d e a b =
    record {
      leaves = leaves_both xs ys c d e a.leaves b.leaves;
      stay = λ place spared placed.
          let parts = each_parts (Spares place.card.name) xs ys spared in
          b.stay place parts.1 (a.stay place parts.0 placed);
      alone = λ now.
          let x = a.alone now in
          let y = b.alone x.1 in
          (λ n. subst (λ (ts : List Told). AreChains (chains_by c) ts (chains_by e)) (sym (map-append (told_of n) xs ys)) (chains_both (map (told_of n) xs) (map (told_of n) ys) (chains_by c) (chains_by d) (chains_by e) (x.0 n) (y.0 n)), y.1);
    }

pub does_none : (c : Side) → Does [] c c
does_none c = record { leaves = refl; stay = λ place spared placed. placed; alone = λ now. (λ n. refl, now) }

-- entries alone leave the chains as they are
pub does_entries : (port : ℕ) (xs : List (Placed Entry)) (c : Side) → Does (map (deed_at port) xs) c c
does_entries port [] c = does_none c
does_entries port (x ∷ xs) c =
    let more = does_entries port xs c in record { leaves = (c, refl, more.leaves); stay = λ place spared placed. more.stay place spared.1 placed; alone = λ now. (λ n. (more.alone now).0 n, (more.alone now).1) }

pub does_entry : (port : ℕ) (x : Placed Entry) (c : Side) → Does (deed_at port x ∷ []) c c
does_entry port x c = does_entries port (x ∷ []) c

-- Operations

pub went_nowhere : {R : Type 0} (count : ℕ) (p : Asking R) (v : View) (c : Side) → Went count p v v c c p
went_nowhere count p v c = record { deeds = []; leads = refl; gave = gave_none v; does = does_none c }

pub went_both : {R : Type 0} (count : ℕ) (p q r : Asking R) (u v w : View) (c d e : Side) → Went count p u v c d q → Went count q v w d e r → Went count p u w c e r
went_both count p q r u v w c d e a b =
    record {
      deeds = a.deeds ++ b.deeds;
      leads = leads_both p q r a.deeds b.deeds a.leads b.leads;
      gave = subst (Gave u w) (sym (entries_both count a.deeds b.deeds)) (gave_both u v w (entries_in count a.deeds) (entries_in count b.deeds) a.gave b.gave);
      does = does_both a.deeds b.deeds c d e a.does b.does;
    }

pub left_both : {R : Type 0} (count name : ℕ) (p q : Asking R) (u v w : View) (c d e : Side) → Went count p u v c d q → changes_by d ≡ changes_by c → LeftOff count name q v w d e → LeftOff count name p u w c e
left_both count name p q u v w c d e a still b =
    record {
      rest = b.rest;
      deeds = a.deeds ++ b.deeds;
      leads = leads_both p q b.rest a.deeds b.deeds a.leads b.leads;
      back = b.back;
      gives = b.gives;
      gave = subst (Gave u w)
          (sym (ap (λ (xs : List (Placed Entry)). xs ++ b.back) (entries_both count a.deeds b.deeds) ∙ append_assoc (entries_in count a.deeds) (entries_in count b.deeds) b.back))
          (gave_both u v w (entries_in count a.deeds) (entries_in count b.deeds ++ b.back) a.gave b.gave);
      does = does_both a.deeds b.deeds c d e a.does b.does;
      still = b.still ∙ still;
      undecided = b.undecided;
    }

pub stops_both : {R : Type 0} (count : ℕ) (p q : Asking R) (u v w : View) (c d e : Side) → Went count p u v c d q → changes_by d ≡ changes_by c → Stops count q v w d e → Stops count p u w c e
stops_both count p q u v w c d e a still b =
    record { rest = b.rest; went = went_both count p q b.rest u v w c d e a b.went; still = b.still ∙ still; undecided = b.undecided }

pub stops_there : {R : Type 0} (count : ℕ) (p q : Asking R) (u v : View) (c d : Side) → c ≡ d → IsUndecided q [] → Went count p u v c d q → Stops count p u v c d
stops_there count p q u v c d same undecided a = record { rest = q; went = a; still = ap changes_by (sym same); undecided = undecided }

-- nothing was asked, and nothing done
pub stops_nowhere : {R : Type 0} (count : ℕ) (p : Asking R) (v w : View) (c d : Side) → c ≡ d → IsUndecided p [] → Gave v w [] → Stops count p v w c d
stops_nowhere count p v w c d same undecided gave =
    stops_there count p p v w c d same undecided (record { deeds = []; leads = refl; gave = gave; does = subst (Does [] c) same (does_none c) })

-- where no port was given up
pub left_of : {R : Type 0} (count name : ℕ) (p : Asking R) (v w : View) (c d : Side) → Stops count p v w c d → LeftOff count name p v w c d
left_of count name p v w c d s =
    record {
      rest = s.rest;
      deeds = s.went.deeds;
      leads = s.went.leads;
      back = [];
      gives = tt;
      gave = subst (Gave v w) (sym (append-nil (entries_in count s.went.deeds))) s.went.gave;
      does = s.went.does;
      still = s.still;
      undecided = s.undecided;
    }

pub left_there : {R : Type 0} (count name : ℕ) (p q : Asking R) (u v : View) (c d : Side) → c ≡ d → IsUndecided q [] → Went count p u v c d q → LeftOff count name p u v c d
left_there count name p q u v c d same undecided a = left_of count name p u v c d (stops_there count p q u v c d same undecided a)

pub left_nowhere : {R : Type 0} (count name : ℕ) (p : Asking R) (v w : View) (c d : Side) → c ≡ d → IsUndecided p [] → Gave v w [] → LeftOff count name p v w c d
left_nowhere count name p v w c d same undecided gave = left_of count name p v w c d (stops_nowhere count p v w c d same undecided gave)

-- a turn or room wasn't had: the plan is left off where it begins
pub begun_not : {X R : Type 0} (did : X → R) (not_done : OpEnd → R) (count : ℕ) (p : Asking R) (v w : View) (c d : Side) (cause : Cause) (r : Result X OpEnd)
    → IsErrAnd r (λ end. end ≡ errors.LeftOff cause) → d ≡ c → IsUndecided p [] → Gave v w [] → Carried did not_done count p v w c d r
begun_not did not_done count p v w c d cause (Ok x) is same undecided gave = absurd is
begun_not did not_done count p v w c d cause (Err end) is same undecided gave =
    subst (λ (e : OpEnd). Carried did not_done count p v w c d (Err e)) (sym is) (stops_nowhere count p v w c d (sym same) undecided gave)

module _ {X R : Type 0} (did : X → R) (not_done : OpEnd → R) (count : ℕ) (p q : Asking R) (u v w : View) (c d e : Side) (a : Went count p u v c d q) (still : changes_by d ≡ changes_by c) where
  pub goes_both : (r : Result X OpEnd) → Carried did not_done count q v w d e r → Carried did not_done count p u w c e r
  goes_both (Ok x) b = went_both count p q (ends (did x)) u v w c d e a b
  goes_both (Err (errors.LeftOff cause)) b = stops_both count p q u v w c d e a still b
  goes_both (Err (errors.InUse n)) b = went_both count p q (ends (not_done (errors.InUse n))) u v w c d e a b
  goes_both (Err errors.NoPort) b = went_both count p q (ends (not_done errors.NoPort)) u v w c d e a b
  goes_both (Err (errors.Taken n)) b = went_both count p q (ends (not_done (errors.Taken n))) u v w c d e a b
  goes_both (Err errors.Inval) b = went_both count p q (ends (not_done errors.Inval)) u v w c d e a b
  goes_both (Err errors.IsConn) b = went_both count p q (ends (not_done errors.IsConn)) u v w c d e a b
  goes_both (Err errors.GroupFull) b = went_both count p q (ends (not_done errors.GroupFull)) u v w c d e a b
  goes_both (Err errors.GroupsFull) b = went_both count p q (ends (not_done errors.GroupsFull)) u v w c d e a b
  goes_both (Err (errors.Full owned held)) b = went_both count p q (ends (not_done (errors.Full owned held))) u v w c d e a b

module _ {X R : Type 0} (did : X → R) (not_done : OpEnd → R) (count name : ℕ) (p q : Asking R) (u v w : View) (c d e : Side) (a : Went count p u v c d q) (still : changes_by d ≡ changes_by c) where
  pub carried_both : (r : Result X OpEnd) → CarriedOut did not_done count name q v w d e r → CarriedOut did not_done count name p u w c e r
  carried_both (Ok x) b = went_both count p q (ends (did x)) u v w c d e a b
  carried_both (Err (errors.LeftOff cause)) b = left_both count name p q u v w c d e a still b
  carried_both (Err (errors.InUse n)) b = went_both count p q (ends (not_done (errors.InUse n))) u v w c d e a b
  carried_both (Err errors.NoPort) b = went_both count p q (ends (not_done errors.NoPort)) u v w c d e a b
  carried_both (Err (errors.Taken n)) b = went_both count p q (ends (not_done (errors.Taken n))) u v w c d e a b
  carried_both (Err errors.Inval) b = went_both count p q (ends (not_done errors.Inval)) u v w c d e a b
  carried_both (Err errors.IsConn) b = went_both count p q (ends (not_done errors.IsConn)) u v w c d e a b
  carried_both (Err errors.GroupFull) b = went_both count p q (ends (not_done errors.GroupFull)) u v w c d e a b
  carried_both (Err errors.GroupsFull) b = went_both count p q (ends (not_done errors.GroupsFull)) u v w c d e a b
  carried_both (Err (errors.Full owned held)) b = went_both count p q (ends (not_done (errors.Full owned held))) u v w c d e a b

-- a refusal: the plan stopped, or went on to it
pub refused_or : {X R : Type 0} (did : X → R) (not_done : OpEnd → R) (count : ℕ) (p : Asking R) (v w : View) (c d : Side) (end : OpEnd) → Carried did not_done count p v w c d (Err end) → Stops count p v w c d ⊎ Went count p v w c d (ends (not_done end))
refused_or did not_done count p v w c d (errors.LeftOff cause) k = inl k
refused_or did not_done count p v w c d (errors.InUse n) k = inr k
refused_or did not_done count p v w c d errors.NoPort k = inr k
refused_or did not_done count p v w c d (errors.Taken n) k = inr k
refused_or did not_done count p v w c d errors.Inval k = inr k
refused_or did not_done count p v w c d errors.IsConn k = inr k
refused_or did not_done count p v w c d errors.GroupFull k = inr k
refused_or did not_done count p v w c d errors.GroupsFull k = inr k
refused_or did not_done count p v w c d (errors.Full owned held) k = inr k

-- a plan that is at its end asks and does nothing
at_once_by : {R : Type 0} (x : R) (rest : Asking R) (v w : View) (c d : Side) (count : ℕ) (ds : List Deed) → Leads (ends x) ds rest → Gave v w (entries_in count ds) → AllLeave ds c d → Gave v w [] × (c ≡ d) × (ends x ≡ rest)
at_once_by x rest v w c d count [] leads gave leaves = (gave, leaves, leads)
at_once_by x rest v w c d count (deed ∷ ds) leads gave leaves = absurd leads.1

pub at_once : {R : Type 0} (count : ℕ) (x : R) (rest : Asking R) (v w : View) (c d : Side) → Went count (ends x) v w c d rest → Gave v w [] × (c ≡ d) × (ends x ≡ rest)
at_once count x rest v w c d went = at_once_by x rest v w c d count went.deeds went.leads went.gave went.does.leaves

-- what is handed back beside the answer
module _ {X Y R : Type 0} (did : X → R) (its : Y → R) (not_done : OpEnd → R) (count : ℕ) (p : Asking R) (v w : View) (c d : Side) where
  pub same_err : (end : OpEnd) → Carried {X = X} did not_done count p v w c d (Err end) → Carried {X = Y} its not_done count p v w c d (Err end)
  same_err (errors.LeftOff cause) k = k
  same_err (errors.InUse n) k = k
  same_err errors.NoPort k = k
  same_err (errors.Taken n) k = k
  same_err errors.Inval k = k
  same_err errors.IsConn k = k
  same_err errors.GroupFull k = k
  same_err errors.GroupsFull k = k
  same_err (errors.Full owned held) k = k

  pub same_left : (name : ℕ) (end : OpEnd) → CarriedOut {X = X} did not_done count name p v w c d (Err end) → CarriedOut {X = Y} its not_done count name p v w c d (Err end)
  same_left name (errors.LeftOff cause) k = k
  same_left name (errors.InUse n) k = k
  same_left name errors.NoPort k = k
  same_left name (errors.Taken n) k = k
  same_left name errors.Inval k = k
  same_left name errors.IsConn k = k
  same_left name errors.GroupFull k = k
  same_left name errors.GroupsFull k = k
  same_left name (errors.Full owned held) k = k

-- who gives up no port
pub carried_out : {X R : Type 0} (did : X → R) (not_done : OpEnd → R) (count name : ℕ) (p : Asking R) (v w : View) (c d : Side) (r : Result X OpEnd) → Carried did not_done count p v w c d r → CarriedOut did not_done count name p v w c d r
carried_out did not_done count name p v w c d (Ok x) k = k
carried_out did not_done count name p v w c d (Err (errors.LeftOff cause)) k = left_of count name p v w c d k
carried_out did not_done count name p v w c d (Err (errors.InUse n)) k = k
carried_out did not_done count name p v w c d (Err errors.NoPort) k = k
carried_out did not_done count name p v w c d (Err (errors.Taken n)) k = k
carried_out did not_done count name p v w c d (Err errors.Inval) k = k
carried_out did not_done count name p v w c d (Err errors.IsConn) k = k
carried_out did not_done count name p v w c d (Err errors.GroupFull) k = k
carried_out did not_done count name p v w c d (Err errors.GroupsFull) k = k
carried_out did not_done count name p v w c d (Err (errors.Full owned held)) k = k

-- Alone

-- where nobody else is at the tables, the plan comes to what it went on to
pub went_alone : {R : Type 0} (count : ℕ) (plan rest : Asking R) (v w : View) (c d : Side) → 1 ≤ count → Went count plan v w c d rest → IsAlone v → KnowsAll count w → IsNow c.view
    → run (tables_by count v.mine (chains_by c)) plan ≡ run (tables_by count w.mine (chains_by d)) rest
went_alone count plan rest v w c d some went alone knows now =
    let told_entries = tells_entries count went.deeds in
    let mine = went.gave.mine ∙ ap (λ (es : List (Placed Entry)). v.mine ++ es) told_entries in
    let lawful = subst (AreLawful count) mine (knows (went.gave.caller ∙ alone.0, went.gave.splits ∙ alone.1)) in
    goes_alone count some v.mine (chains_by c) (chains_by d) plan (map (told_of count) went.deeds) rest lawful ((went.does.alone now).0 count) (leads_told count plan rest went.deeds went.leads)
    ∙ ap (λ g. run (tables_by count g (chains_by d)) rest) (sym mine)

pub come_alone : {R : Type 0} → ComeAlone R
come_alone t w u plan did ready alone now went =
    went_alone (buckets_of t) plan (ends did) (turned w) (turned u) (chained t w) (chained t u) ready.idle.some went alone ready.idle.knows now
