-- What entries leave of the lists of groups, and what a turn makes of those that are published.
use Rattle.std.proofs.Common.{◌≡◌, ◌≢◌, ℕ, ◌/◌, ◌%◌, ◌==◌, Bool, cond, List, [], ◌∷◌, ◌++◌, map, filter, length, get_or, Option, Some, None, Result, Ok, Err, IfOk, refl, sym, ap, subst, ◌∙◌, eq-eqb, ne_eqb, append_assoc, length-append, take, arith}
use Rattle.std.proofs.lemmas.List.{map-append}
use Rattle.std.proofs.Math.Seq.{take-append_seam}
use mathlib.Core.Logic.{dite}
use native.Mathlib.Decide.{ℕ_discrete}
use Rattle.list_words.specs.Lists.{Each}
use Rattle.list_words.proofs.EachLemmas.{each_map, each_filter, each_append}
use Rattle.sock_card.specs.declared.owner.Owner.{Owner}
use Rattle.turn_table.specs.declared.note.Placed.{Placed}
use Rattle.turn_table.specs.Journals.{by_caller, notes_at, placed}
use Rattle.turn_table.specs.Passes as words
use Rattle.turn_table.specs.Passes.{known}
use Rattle.turn_table.proofs.OfCallers.{at-append, by-append}
use Rattle.bind_buckets.specs.declared.request.Request.{Request}
use Rattle.bind_buckets.specs.declared.request.Request.TheVariants as requests
use Rattle.bind_buckets.specs.declared.request.Answer.{Answer}
use Rattle.bind_buckets.specs.declared.request.Answer.TheVariants as answers
use Rattle.bind_buckets.specs.declared.request.Entry.{Entry}
use Rattle.bind_buckets.specs.Notes.{Note}
use Rattle.bind_buckets.specs.Bucket.{Bucket, IsSound, answer_to, entries_of, entry_of, note_of}
use Rattle.bind_buckets.specs.Journal.{IsLegal, replayed, replayed_from}
use Rattle.bind_buckets.specs.OwnerStep.{Held, After, owner_step, admitted, spoken, empty}
use Rattle.bind_buckets.specs.Turned.{View, Hash, Pass, Out, Gave, IsAlone, IsOut, Within, Asks, entries_at, made}
use Rattle.reuseport_group.specs.declared.pass.GroupPasses.{GroupPasses}
use Rattle.reuseport_group.specs.declared.view.GroupView.{GroupView}
use Rattle.reuseport_group.specs.Passes.{IsSole, published}
use Rattle.reuseport_group.specs.Words.{list_at}
use Rattle.bind_buckets.specs.declared.request.ListenEnd.{ListenEnd}
use Rattle.bind_buckets.specs.Answers.{answer_of_listen}
use Rattle.port_search.specs.Turned.{AllRefuse, BindsAt, BindsNowhere, BindsNotYet}
use Rattle.sock_ops.specs.Goes.{AreAsked, AskedAll}
use Rattle.sock_ops.specs.Groups.{shown, words_in, Follows, IsLeft, ListsIn, SparesLists, GaveSparing, list_by, AreListed, KeepsListed}
use Rattle.sock_ops.proofs.Goes.{asked_all}
use Rattle.sock_ops.proofs.Listed.{keeps_both}
use Rattle.sock_ops.proofs.There.{answers_so}

-- What a bucket was asked, of some entries

abbrev note_in : Placed Entry → Note
note_in x = x.note

abbrev is_at : ℕ → Placed Entry → Bool
is_at place x = x.place == place

here_more : (place : ℕ) (x : Placed Entry) (xs : List (Placed Entry)) → x.place ≡ place → entries_at place (x ∷ xs) ≡ x.note.entry ∷ entries_at place xs
here_more place x xs same =
    ap (λ b. entries_of (map note_in (cond b (x ∷ filter (is_at place) xs) (filter (is_at place) xs)))) (eq-eqb x.place place same)

else_more : (place : ℕ) (x : Placed Entry) (xs : List (Placed Entry)) → x.place ≢ place → entries_at place (x ∷ xs) ≡ entries_at place xs
else_more place x xs other =
    ap (λ b. entries_of (map note_in (cond b (x ∷ filter (is_at place) xs) (filter (is_at place) xs)))) (ne_eqb x.place place other)

-- all that was asked of one bucket
asked_here : (place : ℕ) (es : List Entry) (xs : List (Placed Entry)) → AreAsked place es xs → entries_at place xs ≡ es
asked_here place [] [] a = refl
asked_here place [] (x ∷ xs) a = absurd a
asked_here place (e ∷ es) [] a = absurd a
asked_here place (e ∷ es) (x ∷ xs) a =
    here_more place x xs a.0.place_is ∙ ap (λ (f : Entry). f ∷ entries_at place xs) a.0.entry ∙ ap (λ (fs : List Entry). e ∷ fs) (asked_here place es xs a.1)

-- is asked of no other
asked_else : (place other : ℕ) (es : List Entry) (xs : List (Placed Entry)) → other ≢ place → AreAsked place es xs → entries_at other xs ≡ []
asked_else place other [] [] apart a = refl
asked_else place other [] (x ∷ xs) apart a = absurd a
asked_else place other (e ∷ es) [] apart a = absurd a
asked_else place other (e ∷ es) (x ∷ xs) apart a =
    else_more other x xs (λ same. apart (sym same ∙ a.0.place_is)) ∙ asked_else place other es xs apart a.1

entries_both : (place : ℕ) (xs ys : List (Placed Entry)) → entries_at place (xs ++ ys) ≡ entries_at place xs ++ entries_at place ys
entries_both place xs ys = ap entries_of (at-append place xs ys) ∙ map-append entry_of (notes_at place xs) (notes_at place ys)

-- What entries leave

pub replayed_both : (n : ℕ) (h : Held) (es fs : List Entry) → replayed_from n h (es ++ fs) ≡ replayed_from n (replayed_from n h es) fs
replayed_both n h [] fs = refl
replayed_both n h (e ∷ es) fs = replayed_both n (owner_step n h e.request).held es fs

admitted_spares : (h : Held) (a : Owner) (o : Option Owner) → (admitted h a o).held.groups ≡ h.groups
admitted_spares h a None = refl
admitted_spares h a (Some other) = refl

spoken_spares : (h : Held) (name : ℕ) (o : Option Owner) (speak : Owner → After) → ((a : Owner) → (speak a).held.groups ≡ h.groups) → (spoken h name o speak).held.groups ≡ h.groups
spoken_spares h name None speak same = refl
spoken_spares h name (Some a) speak same = same a

step_spares : (n : ℕ) (h : Held) (request : Request) → SparesLists request → (owner_step n h request).held.groups ≡ h.groups
unfolding owner_step
step_spares n h (requests.Bind a) s = admitted_spares h a _
step_spares n h (requests.BindAuto a) s = admitted_spares h a _
step_spares n h (requests.MayListen name) s = spoken_spares h name _ _ (λ a. refl)
step_spares n h (requests.Listen name slot) s = absurd s
step_spares n h (requests.Free port net) s = refl
step_spares n h (requests.ConnectAuto a) s = refl
step_spares n h (requests.ConnectBound name local remote rport) s = spoken_spares h name _ _ (λ a. refl)
step_spares n h (requests.Inherit parent name mark local remote rport) s = spoken_spares h parent _ _ (λ a. refl)
step_spares n h (requests.ToTimeWait name) s = spoken_spares h name _ _ (λ a. refl)
step_spares n h (requests.Remove name) s = absurd s
step_spares n h (requests.RemoveWaiting name) s = spoken_spares h name _ _ (λ a. refl)

abbrev pub Spares : Entry → Type 0
Spares e = SparesLists e.request

replay_spares : (n : ℕ) (h : Held) (es : List Entry) → Each Spares es → (replayed_from n h es).groups ≡ h.groups
replay_spares n h [] s = refl
replay_spares n h (e ∷ es) s = replay_spares n (owner_step n h e.request).held es s.1 ∙ step_spares n h e.request s.0

-- the same groups have the same lists
same_lists : (h k : Held) (group : ℕ) → k.groups ≡ h.groups → words_in k group ≡ words_in h group
same_lists h k group same = ap (λ (gs : List (List ℕ)). map shown (get_or gs (group % 8) [])) same

-- Entries that change no list

spares_at : (place : ℕ) (xs : List (Placed Entry)) → Each (λ (x : Placed Entry). SparesLists x.note.entry.request) xs → Each Spares (entries_at place xs)
spares_at place xs s =
    each_map Spares entry_of (notes_at place xs)
    (each_map (λ (n : Note). Spares n.entry) note_in (filter (is_at place) xs)
    (each_filter (λ (x : Placed Entry). SparesLists x.note.entry.request) (is_at place) xs s))

list_spared : (group : ℕ) (old new : List (Placed Entry)) → Each Spares (entries_at (group / 8) new) → list_by (old ++ new) group ≡ list_by old group
list_spared group old new s =
    let place = group / 8 in
    let es = entries_at place old in
    let fs = entries_at place new in
    same_lists (replayed place es) (replayed place (entries_at place (old ++ new))) group
    (ap (λ (gs : List Entry). (replayed place gs).groups) (entries_both place old new)
    ∙ ap (λ (h : Held). h.groups) (replayed_both place empty es fs)
    ∙ replay_spares place (replayed place es) fs s)

pub sparing_keeps : (count : ℕ) (v w : View) (p : GroupPasses) → GaveSparing v w → KeepsListed count v w p p
sparing_keeps count v w p g =
    record {
      alone = λ alone. (g.gave.caller ∙ alone.0, g.gave.splits ∙ alone.1);
      sole = λ sole. sole;
      listed = λ alone listed group within.
          listed group within
          ∙ sym (ap (λ (ms : List (Placed Entry)). list_by ms group) g.gave.mine ∙ list_spared group v.mine g.new (spares_at (group / 8) g.new g.spares));
    }

asked_spares : (place : ℕ) (es : List Entry) (xs : List (Placed Entry)) → AreAsked place es xs → Each Spares es → Each (λ (x : Placed Entry). SparesLists x.note.entry.request) xs
asked_spares place [] [] a s = tt
asked_spares place [] (x ∷ xs) a s = absurd a
asked_spares place (e ∷ es) [] a s = absurd a
asked_spares place (e ∷ es) (x ∷ xs) a s = (subst Spares (sym a.0.entry) s.0, asked_spares place es xs a.1 s.1)

pub all_spares : (place : ℕ) (es : List Entry) (v w : View) → AskedAll place es v w → Each Spares es → GaveSparing v w
all_spares place es v w all s = record { new = all.xs; gave = all.gave; spares = asked_spares place es all.xs all.asked s }

-- The journal of a bucket that is given back

placed_here : (place : ℕ) (ms : List Note) → notes_at place (map (placed place) ms) ≡ ms
placed_here place [] = refl
placed_here place (m ∷ ms) =
    ap (λ b. map note_in (cond b (placed place m ∷ filter (is_at place) (map (placed place) ms)) (filter (is_at place) (map (placed place) ms)))) (eq-eqb place place refl)
    ∙ ap (λ (xs : List Note). m ∷ xs) (placed_here place ms)

pub is_left : (t : Hash) (p : Pass) (turn : Out) (v w : View) → IsOut t p turn → IsSound turn.value.value → Within v (known p) → Gave v w (map (placed turn.place) (made p turn)) → IsLeft turn.place w turn.value.value.journal
is_left t p turn v w out sound within gave =
    let place = turn.place in
    let ms = made p turn in
    let old = words.given p in
    let c = words.caller p in
    let caller : w.caller ≡ c = gave.caller ∙ sym within.caller in
    let mine : w.mine ≡ old ++ map (placed place) ms = gave.mine ∙ ap (λ (xs : List (Placed Entry)). xs ++ map (placed place) ms) (sym within.mine) in
    let notes : notes_at place w.mine ≡ notes_at place old ++ ms =
    ap (notes_at place) mine ∙ at-append place old (map (placed place) ms) ∙ ap (λ (xs : List Note). notes_at place old ++ xs) (placed_here place ms) in
    record {
      legal = subst (λ n. IsLegal n (entries_of turn.value.value.journal)) out.number_is sound.legal;
      own = ap (λ n. by_caller n turn.value.value.journal) caller ∙ ap (by_caller c) out.grown ∙ by-append c (words.found p) ms
          ∙ ap (λ (xs : List Note). xs ++ by_caller c ms) out.own ∙ sym (by-append c (notes_at place old) ms) ∙ sym (ap (by_caller c) notes) ∙ sym (ap (λ n. by_caller n (notes_at place w.mine)) caller);
      all = λ alone.
          let is : IsAlone (known p) = (sym caller ∙ alone.0, (within.splits ∙ sym gave.splits) ∙ alone.1) in
          out.grown ∙ ap (λ (xs : List Note). xs ++ ms) (out.all is) ∙ sym notes;
    }

-- one question more, in a bucket that is out
pub record OneMore (b c : Bucket) (e : Entry) : Type 0 where
  pub note : Note
  pub entry_is : note.entry ≡ e
  pub journal : c.journal ≡ b.journal ++ note ∷ []
  pub held : c.held ≡ (owner_step b.number b.held e.request).held
  pub number_is : c.number ≡ b.number

pub one_more : (t : Hash) (p : Pass) (turn : Out) (q : Pass) (after : Out) (request : Request) (answer : Answer) → Asks t p turn q after request answer → OneMore turn.value.value after.value.value (record { request = request; answer = answer })
one_more t p turn q after request answer asks =
    let b = turn.value.value in
    record {
      note = note_of after.value.value.next request (answer_to b request);
      entry_is = ap (λ (a : Answer). record { request = request; answer = a }) (sym (answers_so t p turn q after request answer asks));
      journal = ap (λ (x : Bucket). x.journal) asks.value;
      held = ap (λ (x : Bucket). x.held) asks.value;
      number_is = ap (λ (x : Bucket). x.number) asks.value;
    }

-- What became of its lists

pub held_by : (b : Bucket) (place : ℕ) (notes : List Note) → IsSound b → b.number ≡ place → b.journal ≡ notes → b.held ≡ replayed place (entries_of notes)
held_by b place notes sound number journal =
    sound.replay ∙ ap (λ n. replayed n (entries_of b.journal)) number ∙ ap (λ (xs : List Note). replayed place (entries_of xs)) journal

pub lists_in : (t : Hash) (p : Pass) (turn : Out) (v w : View) (h : Held) (before added : List Note) (es : List Entry) (group : Option ℕ) (g0 g1 : GroupPasses)
    → IsOut t p turn → IsSound turn.value.value → Within v (known p) → Gave v w (map (placed turn.place) (made p turn))
    → h ≡ replayed turn.place (entries_of before) → turn.value.value.journal ≡ before ++ added → entries_of added ≡ es
    → Follows turn.place group h turn.value.value.held g0 g1 → ListsIn turn.place es group w g0 g1
lists_in t p turn v w h before added es group g0 g1 out sound within gave began journal asked follows =
    let place = turn.place in
    let k = replayed place (entries_of (before ++ added)) in
    let ended : turn.value.value.held ≡ k = held_by turn.value.value place (before ++ added) sound out.number_is journal in
    record {
      before = before;
      added = added;
      asked = asked;
      left = subst (λ (xs : List Note). IsLeft place w xs) journal (is_left t p turn v w out sound within gave);
      lists = subst (λ (x : Held). Follows place group x k g0 g1) began (subst (λ (x : Held). Follows place group h x g0 g1) ended follows);
    }

-- Alone

-- a group's list, where its bucket was asked so in the turn in which lists were published, and some that spare them
-- before
list_follows : (n : ℕ) (group : Option ℕ) (h k : Held) (p q : GroupPasses) (g : ℕ) → Follows n group h k p q → g / 8 ≡ n → published p g ≡ words_in h g → published q g ≡ words_in k g
list_follows n None h k p q g follows own was =
    ap (λ v. list_at g v.mine) follows.nothing ∙ was ∙ sym (same_lists h k g follows.held)
list_follows n (Some x) h k p q g follows own was =
    dite (ℕ_discrete g x) (λ same. subst (λ y. published q y ≡ words_in k y) (sym same) follows.listed)
    (λ other. follows.kept g other ∙ was ∙ sym (ap (map shown) (follows.others g own other)))

list_elsewhere : (n : ℕ) (group : Option ℕ) (h k : Held) (p q : GroupPasses) (g : ℕ) → Follows n group h k p q → g / 8 ≢ n → published q g ≡ published p g
list_elsewhere n None h k p q g follows apart = ap (λ v. list_at g v.mine) follows.nothing
list_elsewhere n (Some x) h k p q g follows apart = follows.kept g (λ same. apart (ap (λ y. y / 8) same ∙ follows.own))

-- who publishes is not split
follows_sole : (n : ℕ) (group : Option ℕ) (h k : Held) (p q : GroupPasses) → Follows n group h k p q → IsSole p → IsSole q
follows_sole n None h k p q follows sole = ap (λ (x : GroupView). x.sole) follows.nothing ∙ sole
follows_sole n (Some x) h k p q follows sole = ap (λ (y : GroupView). y.sole) follows.list ∙ sole

cancel_last : (xs ys es fs : List Entry) → xs ++ es ≡ ys ++ fs → length es ≡ length fs → xs ≡ ys
cancel_last xs ys es fs both same =
    let long : length xs ≡ length ys = omega (arith, length-append xs es, length-append ys fs, ap length both) in
    sym (take-append_seam xs es) ∙ ap (take (length xs)) both ∙ ap (λ n. take n (ys ++ fs)) long ∙ take-append_seam ys fs

module _ (count place : ℕ) (first es fs : List Entry) (group : Option ℕ) (v w : View) (p q : GroupPasses)
    (s : Each Spares first) (all : AskedAll place (first ++ es) v w) (l : ListsIn place fs group w p q) (same : length fs ≡ length es) where
  began : IsAlone v → entries_of l.before ≡ entries_at place v.mine ++ first
  began alone =
      let is : IsAlone w = (all.gave.caller ∙ alone.0, all.gave.splits ∙ alone.1) in
      let here : entries_at place w.mine ≡ (entries_at place v.mine ++ first) ++ es =
      ap (entries_at place) all.gave.mine ∙ entries_both place v.mine all.xs ∙ ap (λ (xs : List Entry). entries_at place v.mine ++ xs) (asked_here place (first ++ es) all.xs all.asked)
      ∙ sym (append_assoc (entries_at place v.mine) first es) in
      let there : entries_of l.before ++ fs ≡ entries_at place w.mine =
      ap (λ (xs : List Entry). entries_of l.before ++ xs) (sym l.asked) ∙ sym (map-append entry_of l.before l.added) ∙ ap entries_of (l.left.all is) in
      cancel_last (entries_of l.before) (entries_at place v.mine ++ first) fs es (there ∙ here) same

  lists_then : IsAlone v → AreListed count v p → AreListed count w q
  lists_then = λ alone listed g within.
      let is : IsAlone w = (all.gave.caller ∙ alone.0, all.gave.splits ∙ alone.1) in
      let h = replayed place (entries_of l.before) in
      let k = replayed place (entries_of (l.before ++ l.added)) in
      dite (ℕ_discrete (g / 8) place)
      (λ own.
      let was : published p g ≡ words_in h g =
      listed g within ∙ ap (λ n. words_in (replayed n (entries_at n v.mine)) g) own
      ∙ sym (same_lists (replayed place (entries_at place v.mine)) h g
      (ap (λ (xs : List Entry). (replayed place xs).groups) (began alone)
      ∙ ap (λ (x : Held). x.groups) (replayed_both place empty (entries_at place v.mine) first)
      ∙ replay_spares place (replayed place (entries_at place v.mine)) first s)) in
      list_follows place group h k p q g l.lists own was
      ∙ ap (λ (xs : List Entry). words_in (replayed place xs) g) (ap entries_of (l.left.all is))
      ∙ sym (ap (λ n. words_in (replayed n (entries_at n w.mine)) g) own))
      (λ apart.
      list_elsewhere place group h k p q g l.lists apart ∙ listed g within
      ∙ sym (ap (λ (ms : List (Placed Entry)). list_by ms g) all.gave.mine
      ∙ list_spared g v.mine all.xs (subst (Each Spares) (sym (asked_else place (g / 8) (first ++ es) all.xs apart all.asked)) tt)))

  pub turn_keeps : KeepsListed count v w p q
  turn_keeps =
      record {
        alone = λ alone. (all.gave.caller ∙ alone.0, all.gave.splits ∙ alone.1);
        sole = follows_sole place group (replayed place (entries_of l.before)) (replayed place (entries_of (l.before ++ l.added))) p q l.lists;
        listed = lists_then;
      }

-- What the parts of a call spare

pub sparing_same : (count : ℕ) (v w : View) (p q : GroupPasses) → q ≡ p → GaveSparing v w → KeepsListed count v w p q
sparing_same count v w p q same g = subst (KeepsListed count v w p) (sym same) (sparing_keeps count v w p g)

pub given_spares : (at : ℕ) (v w : View) (ms : List Note) → Gave v w (map (placed at) ms) → Each Spares (entries_of ms) → GaveSparing v w
given_spares at v w ms gave s = all_spares at (entries_of ms) v w (asked_all at at (entries_of ms) v w ms refl refl gave) s

pub made_none : (ms : List Note) → ms ≡ [] → Each Spares (entries_of ms)
made_none ms none = subst (λ (xs : List Note). Each Spares (entries_of xs)) (sym none) tt

pub made_more : (t : Hash) (p : Pass) (turn : Out) (q : Pass) (after : Out) (request : Request) (answer : Answer) → Asks t p turn q after request answer
    → Each Spares (entries_of (made p turn)) → SparesLists request → Each Spares (entries_of (made q after))
made_more t p turn q after request answer asks s spares =
    subst (Each Spares) (sym asks.made_is) (each_append Spares (entries_of (made p turn)) (record { request = request; answer = answer } ∷ []) s (spares, tt))

-- A search for a port

abbrev SparesOne : Placed Entry → Type 0
SparesOne x = SparesLists x.note.entry.request

refusals_spare : (n : ℕ) (a : Owner) (ports : List ℕ) (xs : List (Placed Entry)) → AllRefuse n a ports xs → Each SparesOne xs
refusals_spare n a [] [] r = tt
refusals_spare n a [] (x ∷ xs) r = absurd r
refusals_spare n a (port ∷ ports) [] r = absurd r
refusals_spare n a (port ∷ ports) (x ∷ xs) r = (subst Spares (sym r.0.asked.entry) tt, refusals_spare n a ports xs r.1)

pub bound_spares : (n : ℕ) (a : Owner) (ports : List ℕ) (v w : View) (port : ℕ) → BindsAt n a ports v w port → GaveSparing v w
bound_spares n a ports v w port b =
    record {
      new = b.refused ++ b.last ∷ [];
      gave = b.gave;
      spares = each_append SparesOne b.refused (b.last ∷ []) (refusals_spare n a b.before b.refused b.refusals) (subst Spares (sym b.taken.entry) tt, tt);
    }

pub nowhere_spares : (n : ℕ) (a : Owner) (ports : List ℕ) (v w : View) → BindsNowhere n a ports v w → GaveSparing v w
nowhere_spares n a ports v w b = record { new = b.refused; gave = b.gave; spares = refusals_spare n a ports b.refused b.refusals }

pub not_yet_spares : (n : ℕ) (a : Owner) (ports : List ℕ) (v w : View) → BindsNotYet n a ports v w → GaveSparing v w
not_yet_spares n a ports v w b = record { new = b.refused; gave = b.gave; spares = refusals_spare n a b.before b.refused b.refusals }

-- lists are kept past entries that change none
pub kept_past : (count : ℕ) (u v w : View) (p q : GroupPasses) → GaveSparing u v → KeepsListed count v w p q → KeepsListed count u w p q
kept_past count u v w p q g keeps = keeps_both count u v w p p q (sparing_keeps count u v p g) keeps

-- What a bucket is asked that a listener may do

pub says_so : (b k : Bucket) (name : ℕ) (r : Result (Option ℕ) ListenEnd) → k.number ≡ b.number → k.held ≡ b.held → answer_of_listen r ≡ answer_to b (requests.MayListen name)
    → IfOk r (λ group. answer_to k (requests.MayListen name) ≡ answers.Group group)
says_so b k name (Ok group) number held is =
    ap (λ n. (owner_step n k.held (requests.MayListen name)).answer) number ∙ ap (λ (h : Held). (owner_step b.number h (requests.MayListen name)).answer) held ∙ sym is
says_so b k name (Err end) number held is = tt
