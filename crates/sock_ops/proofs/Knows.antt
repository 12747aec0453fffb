-- What a caller's own entries say of a name, as they grow.
use Rattle.std.proofs.Common.{◌≡◌, ◌≢◌, ◌⊎◌, inl, inr, ℕ, ◌+◌, ◌==◌, Bool, true, false, cond, List, [], ◌∷◌, ◌++◌, map, filter, find, Some, None, Option, refl, sym, ap, subst, ◌∙◌, eq-eqb, ne_eqb, append_assoc, append-nil, arith}
use Rattle.std.proofs.lemmas.Bool.{eqb-true, false≢true}
use Rattle.std.specs.Option.{option_map, option_to_list}
use mathlib.Core.Logic.{dite}
use native.Mathlib.Decide.{ℕ_discrete}
use Rattle.list_words.specs.Lists.{Each}
use Rattle.list_words.proofs.EachLemmas.{each_push, each_weaken}
use Rattle.sock_card.specs.declared.owner.Owner.{Owner}
use Rattle.sock_card.specs.Conflict.{is_time_wait}
use Rattle.sock_card.specs.Became.{connected, child}
use Rattle.turn_table.specs.declared.note.Placed.{Placed}
use Rattle.turn_table.specs.Journals.{by_caller, notes_at}
use Rattle.turn_table.proofs.OfCallers.{at-append, by-append}
use Rattle.bind_buckets.specs.declared.request.Request.{Request}
use Rattle.bind_buckets.specs.declared.request.Request.TheVariants as requests
use Rattle.bind_buckets.specs.declared.request.Answer.{Answer}
use Rattle.bind_buckets.specs.declared.request.Answer.TheVariants as answers
use Rattle.bind_buckets.specs.declared.request.Entry.{Entry}
use Rattle.bind_buckets.specs.Notes.{Note}
use Rattle.bind_buckets.specs.Bucket.{entries_of}
use Rattle.bind_buckets.specs.Callers.{MayName, AreOwn}
use Rattle.bind_buckets.specs.First.{change_first, drop_first}
use Rattle.bind_buckets.specs.Followed.{told_from}
use Rattle.bind_buckets.specs.OwnerStep.{has_name}
use Rattle.bind_buckets.specs.OwnTold.{StandsOwn, KeepsOpen, AllKeepOpen, Brings, is_told, own_given, told_next}
use Rattle.bind_buckets.specs.Turned.{View, Gave, IsAsked}
use Rattle.sock_ops.specs.Stands.{Knows, IsAway}
use Rattle.sock_ops.specs.There.{IsNew}
use Rattle.bind_buckets.proofs.OwnTold.{told_push, brings_keep, none_told, none_kept}
use Rattle.bind_buckets.proofs.ToldByOwn.{asked_told}
use Rattle.sock_ops.proofs.Goes.{each_parts}

-- a caller has these entries more
pub record Grows (v w : View) (xs : List (Placed Entry)) : Type 0 where
  pub mine : w.mine ≡ v.mine ++ xs
  pub caller : w.caller ≡ v.caller
  pub callers : Each (λ (x : Placed Entry). x.note.caller ≡ v.caller) xs

pub grows : (v w : View) (xs : List (Placed Entry)) → Gave v w xs → Grows v w xs
grows v w xs g = record { mine = g.mine; caller = g.caller; callers = g.callers }

abbrev pub after : View → List (Placed Entry) → View
after v xs = record v { mine = v.mine ++ xs }

pub grows_first : (v w : View) (xs ys : List (Placed Entry)) → Grows v w (xs ++ ys) → Grows v (after v xs) xs
grows_first v w xs ys g =
    record { mine = refl; caller = refl; callers = (each_parts (λ (x : Placed Entry). x.note.caller ≡ v.caller) xs ys g.callers).0 }

pub grows_rest : (v w : View) (xs ys : List (Placed Entry)) → Grows v w (xs ++ ys) → Grows (after v xs) w ys
grows_rest v w xs ys g =
    record {
      mine = g.mine ∙ sym (append_assoc v.mine xs ys);
      caller = g.caller;
      callers = (each_parts (λ (x : Placed Entry). x.note.caller ≡ v.caller) xs ys g.callers).1;
    }

grows_none : (v w : View) → Grows v w [] → w.mine ≡ v.mine
grows_none v w g = g.mine ∙ append-nil v.mine

-- the first of some entries that a pass gave, and the others
pub gave_first : (v w : View) (x : Placed Entry) (xs : List (Placed Entry)) → Gave v w (x ∷ xs) → Gave v (record v { mine = v.mine ++ x ∷ []; draws = v.draws + 1 }) (x ∷ [])
gave_first v w x xs g =
    record {
      mine = refl;
      parts = refl;
      caller = refl;
      splits = refl;
      later = omega arith;
      draws = omega arith;
      callers = (g.callers.0, tt);
      fresh = (g.fresh.0, tt);
    }

-- what a caller asked of a bucket, after one entry more
at_same : (place : ℕ) (x : Placed Entry) → x.place ≡ place → notes_at place (x ∷ []) ≡ x.note ∷ []
at_same place x same =
    ap (λ b. map (λ (p : Placed Entry). p.note) (cond b (x ∷ []) [])) (eq-eqb x.place place same)

at_other : (place : ℕ) (x : Placed Entry) → x.place ≢ place → notes_at place (x ∷ []) ≡ []
at_other place x other =
    ap (λ b. map (λ (p : Placed Entry). p.note) (cond b (x ∷ []) [])) (ne_eqb x.place place other)

module _ (place : ℕ) (v w : View) (x : Placed Entry) (g : Grows v w (x ∷ [])) where
  given_more : own_given place w ≡ own_given place v ++ by_caller v.caller (notes_at place (x ∷ []))
  given_more =
      ap (λ c. by_caller c (notes_at place w.mine)) g.caller ∙ ap (λ m. by_caller v.caller (notes_at place m)) g.mine
      ∙ ap (by_caller v.caller) (at-append place v.mine (x ∷ []))
      ∙ by-append v.caller (notes_at place v.mine) (notes_at place (x ∷ []))

  given_here : x.place ≡ place → own_given place w ≡ own_given place v ++ x.note ∷ []
  given_here same =
      given_more ∙ ap (λ ns. own_given place v ++ by_caller v.caller ns) (at_same place x same)
      ∙ ap (λ b. own_given place v ++ cond b (x.note ∷ []) []) (eq-eqb x.note.caller v.caller g.callers.0)

  given_else : x.place ≢ place → own_given place w ≡ own_given place v
  given_else other =
      given_more ∙ ap (λ ns. own_given place v ++ by_caller v.caller ns) (at_other place x other)
      ∙ append-nil (own_given place v)

-- the owners of some names, as notes give them
abbrev pub told_by : (ℕ → Bool) → List Note → List Owner
told_by mine notes = told_from [] (filter (is_told mine) (entries_of notes))

-- The same owners, with the first of the name apart: all others have other names

-- by its own entries a caller has exactly these owners of some names in a bucket
pub record Tells (name place : ℕ) (owners : List Owner) (v : View) : Type 0 where
  pub mine : ℕ → Bool
  pub it : mine name ≡ true
  pub own : AreOwn v.caller mine
  pub keeps : AllKeepOpen mine (own_given place v)
  pub told_is : told_by mine (own_given place v) ≡ owners

abbrev pub tells_of : (name place : ℕ) (o : Option Owner) (v : View) (k : Knows name o place v) → Tells name place (told_by k.mine (own_given place v)) v
tells_of name place o v k = record { mine = k.mine; it = k.it; own = k.own; keeps = k.keeps; told_is = refl }

pub knows_of : (name place : ℕ) (owners : List Owner) (o : Option Owner) (v : View) → Tells name place owners v → find (has_name name) owners ≡ o → Knows name o place v
knows_of name place owners o v t found =
    record { mine = t.mine; it = t.it; own = t.own; keeps = t.keeps; told_is = ap (find (has_name name)) t.told_is ∙ found }

pub stands_of : (a : Owner) (place : ℕ) (v : View) → Knows a.name (Some a) place v → StandsOwn a place v
stands_of a place v k = record { mine = k.mine; it = k.it; own = k.own; keeps = k.keeps; told_is = k.told_is }

abbrev pub known_of : (a : Owner) (place : ℕ) (v : View) → StandsOwn a place v → Knows a.name (Some a) place v
known_of a place v s = record { mine = s.mine; it = s.it; own = s.own; keeps = s.keeps; told_is = s.told_is }

-- one entry more in the bucket
pub tells_next : (name place : ℕ) (owners : List Owner) (v w : View) (x : Placed Entry) (t : Tells name place owners v) → Grows v w (x ∷ []) → x.place ≡ place → KeepsOpen t.mine x.note.entry.request → Tells name place (told_next t.mine owners x.note.entry) w
tells_next name place owners v w x t g same keeps =
    let here = given_here place v w x g same in
    record {
      mine = t.mine;
      it = t.it;
      own = subst (λ c. AreOwn c t.mine) (sym g.caller) t.own;
      keeps = subst (AllKeepOpen t.mine) (sym here) (each_push (λ (y : Note). KeepsOpen t.mine y.entry.request) (own_given place v) x.note t.keeps keeps);
      told_is = ap (told_by t.mine) here ∙ told_push t.mine (own_given place v) x.note ∙ ap (λ os. told_next t.mine os x.note.entry) t.told_is;
    }

-- or in another
pub tells_else : (name place : ℕ) (owners : List Owner) (v w : View) (x : Placed Entry) → Tells name place owners v → Grows v w (x ∷ []) → x.place ≢ place → Tells name place owners w
tells_else name place owners v w x t g other =
    let here = given_else place v w x g other in
    record {
      mine = t.mine;
      it = t.it;
      own = subst (λ c. AreOwn c t.mine) (sym g.caller) t.own;
      keeps = subst (AllKeepOpen t.mine) (sym here) t.keeps;
      told_is = ap (told_by t.mine) here ∙ t.told_is;
    }

pub tells_same : (name place : ℕ) (owners : List Owner) (v w : View) → Tells name place owners v → w.mine ≡ v.mine → w.caller ≡ v.caller → Tells name place owners w
tells_same name place owners v w t mine caller =
    let here : own_given place w ≡ own_given place v = ap (λ c. by_caller c (notes_at place w.mine)) caller ∙ ap (λ m. by_caller v.caller (notes_at place m)) mine in
    record {
      mine = t.mine;
      it = t.it;
      own = subst (λ c. AreOwn c t.mine) (sym caller) t.own;
      keeps = subst (AllKeepOpen t.mine) (sym here) t.keeps;
      told_is = ap (told_by t.mine) here ∙ t.told_is;
    }

-- Entries that change no owner

-- whoever is named, nobody comes, goes or changes by it, but a TIME_WAIT
abbrev pub IsQuiet : Request → Answer → Type 0
IsQuiet (requests.Bind a) (answers.InUse name) = is_time_wait a.state ≡ false
IsQuiet (requests.BindAuto a) (answers.InUse name) = is_time_wait a.state ≡ false
IsQuiet (requests.MayListen name) answer = Unit {0}
IsQuiet (requests.Free port net) answer = Unit {0}
IsQuiet (requests.RemoveWaiting name) answer = Unit {0}
IsQuiet _ answer = ⊥

quiet_keeps : (mine : ℕ → Bool) (request : Request) (answer : Answer) → IsQuiet request answer → KeepsOpen mine request
quiet_keeps mine (requests.Bind a) (answers.InUse name) quiet = λ said. quiet
quiet_keeps mine (requests.BindAuto a) (answers.InUse name) quiet = λ said. quiet
quiet_keeps mine (requests.MayListen name) answer quiet = tt
quiet_keeps mine (requests.Free port net) answer quiet = tt
quiet_keeps mine (requests.RemoveWaiting name) answer quiet = tt
quiet_keeps mine _ answer quiet = absurd quiet

same_both : (b : Bool) (owners : List Owner) → cond b owners owners ≡ owners
same_both true owners = refl
same_both false owners = refl

quiet_next : (mine : ℕ → Bool) (owners : List Owner) (request : Request) (answer : Answer) → IsQuiet request answer → told_next mine owners (record { request = request; answer = answer }) ≡ owners
quiet_next mine owners (requests.Bind a) (answers.InUse name) quiet = same_both (mine a.name) owners
quiet_next mine owners (requests.BindAuto a) (answers.InUse name) quiet = same_both (mine a.name) owners
quiet_next mine owners (requests.MayListen name) answer quiet =
    ap (λ os. cond (mine name) os owners) (asked_told owners name answer) ∙ same_both (mine name) owners
quiet_next mine owners (requests.Free port net) answer quiet = refl
quiet_next mine owners (requests.RemoveWaiting name) answer quiet = refl
quiet_next mine owners _ answer quiet = absurd quiet

-- the entry is of another bucket, or changes no owner
abbrev pub Passes : ℕ → Placed Entry → Type 0
Passes place x = (x.place ≢ place) ⊎ IsQuiet x.note.entry.request x.note.entry.answer

tells_by : (name place : ℕ) (owners : List Owner) (v w : View) (x : Placed Entry) → Tells name place owners v → Grows v w (x ∷ []) → IsQuiet x.note.entry.request x.note.entry.answer → (x.place ≡ place) ⊎ (x.place ≢ place) → Tells name place owners w
tells_by name place owners v w x t g quiet (inl same) =
    let e = x.note.entry in
    subst (λ os. Tells name place os w) (quiet_next t.mine owners e.request e.answer quiet) (tells_next name place owners v w x t g same (quiet_keeps t.mine e.request e.answer quiet))
tells_by name place owners v w x t g quiet (inr other) = tells_else name place owners v w x t g other

either : (m n : ℕ) → (m ≡ n) ⊎ (m ≢ n)
either m n = dite (ℕ_discrete m n) (λ same. inl same) (λ other. inr other)

tells_past : (name place : ℕ) (owners : List Owner) (v w : View) (x : Placed Entry) → Tells name place owners v → Grows v w (x ∷ []) → Passes place x → Tells name place owners w
tells_past name place owners v w x t g (inl other) = tells_else name place owners v w x t g other
tells_past name place owners v w x t g (inr quiet) = tells_by name place owners v w x t g quiet (either x.place place)

pub tells_on : (name place : ℕ) (owners : List Owner) (v w : View) (xs : List (Placed Entry)) → Tells name place owners v → Grows v w xs → Each (Passes place) xs → Tells name place owners w
tells_on name place owners v w [] t g pass = tells_same name place owners v w t (grows_none v w g) g.caller
tells_on name place owners v w (x ∷ xs) t g pass =
    tells_on name place owners (after v (x ∷ [])) w xs
    (tells_past name place owners v (after v (x ∷ [])) x t (grows_first v w (x ∷ []) xs g) pass.0)
    (grows_rest v w (x ∷ []) xs g) pass.1

abbrev pub AllQuiet : List (Placed Entry) → Type 0
AllQuiet xs = Each (λ (x : Placed Entry). IsQuiet x.note.entry.request x.note.entry.answer) xs

pub all_pass : (place : ℕ) (xs : List (Placed Entry)) → AllQuiet xs → Each (Passes place) xs
all_pass place xs quiet =
    each_weaken (λ (x : Placed Entry). IsQuiet x.note.entry.request x.note.entry.answer) (Passes place) xs (λ x q. inr q) quiet

pub asked_quiet : (place : ℕ) (request : Request) (answer : Answer) (x : Placed Entry) → IsAsked place request answer x → IsQuiet request answer → IsQuiet x.note.entry.request x.note.entry.answer
asked_quiet place request answer x is quiet = subst (λ (e : Entry). IsQuiet e.request e.answer) (sym is.entry) quiet

pub knows_on : (name place : ℕ) (o : Option Owner) (v w : View) (xs : List (Placed Entry)) → Knows name o place v → Grows v w xs → Each (Passes place) xs → Knows name o place w
knows_on name place o v w xs k g pass =
    let os = told_by k.mine (own_given place v) in
    knows_of name place os o w (tells_on name place os v w xs (tells_of name place o v k) g pass) k.told_is

-- a name that is away stays so, and an owner that stands
pub away_on : (name : ℕ) (v w : View) (xs : List (Placed Entry)) → IsAway name v → Gave v w xs → AllQuiet xs → IsAway name w
away_on name v w xs away gave quiet = λ place.
    knows_on name place None v w xs (away place) (grows v w xs gave) (all_pass place xs quiet)

pub stands_on : (a : Owner) (place : ℕ) (v w : View) (xs : List (Placed Entry)) → StandsOwn a place v → Grows v w xs → Each (Passes place) xs → StandsOwn a place w
stands_on a place v w xs s g pass =
    stands_of a place w (knows_on a.name place (Some a) v w xs (known_of a place v s) g pass)

-- A name of which no bucket was asked

no_owners : (it : ℕ → Bool) (notes : List Note) → Each (λ (x : Note). is_told it x.entry ≡ false) notes → told_by it notes ≡ []
no_owners it notes none = ap (told_from []) (none_told it notes none)

pub new_away : (name : ℕ) (v : View) → MayName v.caller name → IsNew name v → IsAway name v
new_away name v may new = λ place.
    let it : ℕ → Bool = λ n. n == name in
    record {
      mine = it;
      it = eq-eqb name name refl;
      own = λ n said. subst (MayName v.caller) (sym (eqb-true n name said)) may;
      keeps = none_kept it (own_given place v) (new place);
      told_is = ap (find (has_name name)) (no_owners it (own_given place v) (new place));
    }

-- Owners that come

found_by : (name : ℕ) (x : Owner) (xs : List Owner) (a : Owner) (b : Bool) → cond b (Some x) (find (has_name name) xs) ≡ None → (find (has_name name) xs ≡ None → find (has_name name) (xs ++ a ∷ []) ≡ Some a) → cond b (Some x) (find (has_name name) (xs ++ a ∷ [])) ≡ Some a
found_by name x xs a true none rest = absurd (cc)
found_by name x xs a false none rest = rest none

found_last : (name : ℕ) (owners : List Owner) (a : Owner) → a.name ≡ name → find (has_name name) owners ≡ None → find (has_name name) (owners ++ a ∷ []) ≡ Some a
found_last name [] a is none = ap (λ b. cond b (Some a) None) (eq-eqb a.name name is)
found_last name (x ∷ xs) a is none = found_by name x xs a (has_name name x) none (found_last name xs a is)

dropped_by : (name : ℕ) (x : Owner) (xs ys : List Owner) (b : Bool) → cond b (Some x) (find (has_name name) xs) ≡ None → (find (has_name name) xs ≡ None → drop_first (has_name name) ys ≡ xs) → cond b ys (x ∷ drop_first (has_name name) ys) ≡ x ∷ xs
dropped_by name x xs ys true none rest = absurd (cc)
dropped_by name x xs ys false none rest = ap (λ zs. x ∷ zs) (rest none)

dropped_last : (name : ℕ) (owners : List Owner) (a : Owner) → a.name ≡ name → find (has_name name) owners ≡ None → drop_first (has_name name) (owners ++ a ∷ []) ≡ owners
dropped_last name [] a is none = ap (λ b. cond b [] (a ∷ [])) (eq-eqb a.name name is)
dropped_last name (x ∷ xs) a is none = dropped_by name x xs (xs ++ a ∷ []) (has_name name x) none (dropped_last name xs a is)

brought_by : (owners : List Owner) (a b : Owner) (t : Bool) → t ≡ true → b ≡ a → cond t (owners ++ b ∷ []) owners ≡ owners ++ a ∷ []
brought_by owners a b true is same = ap (λ (x : Owner). owners ++ x ∷ []) same
brought_by owners a b false is same = absurd (false≢true is)

brings_next : (mine : ℕ → Bool) (owners : List Owner) (a : Owner) (request : Request) → Brings a request → mine a.name ≡ true → told_next mine owners (record { request = request; answer = answers.Done }) ≡ owners ++ a ∷ []
brings_next mine owners a (requests.Bind b) same it = brought_by owners a b (mine b.name) (ap (λ (x : Owner). mine x.name) same ∙ it) same
brings_next mine owners a (requests.BindAuto b) same it = brought_by owners a b (mine b.name) (ap (λ (x : Owner). mine x.name) same ∙ it) same
brings_next mine owners a (requests.ConnectAuto b) same it = brought_by owners a b (mine b.name) (ap (λ (x : Owner). mine x.name) same ∙ it) same
brings_next mine owners a _ none it = absurd none

-- the owner came last, and is the only one of its name
pub record Came (a : Owner) (place : ℕ) (v : View) : Type 0 where
  pub others : List Owner
  pub none : find (has_name a.name) others ≡ None
  pub tells : Tells a.name place (others ++ a ∷ []) v

pub came_stands : (a : Owner) (place : ℕ) (v : View) → Came a place v → StandsOwn a place v
came_stands a place v c =
    stands_of a place v (knows_of a.name place (c.others ++ a ∷ []) (Some a) v c.tells (found_last a.name c.others a refl c.none))

pub comes : (a : Owner) (place : ℕ) (request : Request) (v w : View) (x : Placed Entry) → Knows a.name None place v → Grows v w (x ∷ []) → IsAsked place request answers.Done x → Brings a request → is_time_wait a.state ≡ false → Came a place w
comes a place request v w x k g is brings awake =
    let os = told_by k.mine (own_given place v) in
    let keeps = subst (λ (e : Entry). KeepsOpen k.mine e.request) (sym is.entry) (brings_keep a k.mine request brings awake) in
    let t = tells_next a.name place os v w x (tells_of a.name place None v k) g is.place_is keeps in
    record {
      others = os;
      none = k.told_is;
      tells = subst (λ ys. Tells a.name place ys w) (ap (told_next k.mine os) is.entry ∙ brings_next k.mine os a request brings k.it) t;
    }

pub came_on : (a : Owner) (place : ℕ) (v w : View) (xs : List (Placed Entry)) → Came a place v → Grows v w xs → Each (Passes place) xs → Came a place w
came_on a place v w xs c g pass =
    record { others = c.others; none = c.none; tells = tells_on a.name place (c.others ++ a ∷ []) v w xs c.tells g pass }

-- and goes again
removed_by : (owners : List Owner) (name : ℕ) (t : Bool) → t ≡ true → cond t (drop_first (has_name name) owners) owners ≡ drop_first (has_name name) owners
removed_by owners name true is = refl
removed_by owners name false is = absurd (false≢true is)

pub goes : (a : Owner) (place : ℕ) (v w : View) (x : Placed Entry) → Came a place v → Grows v w (x ∷ []) → IsAsked place (requests.Remove a.name) answers.Done x → Knows a.name None place w
goes a place v w x c g is =
    let t = c.tells in
    let os = c.others ++ a ∷ [] in
    let keeps = subst (λ (e : Entry). KeepsOpen t.mine e.request) (sym is.entry) tt in
    knows_of a.name place c.others None w
    (subst (λ ys. Tells a.name place ys w)
    (ap (told_next t.mine os) is.entry ∙ removed_by os a.name (t.mine a.name) t.it ∙ dropped_last a.name c.others a refl c.none)
    (tells_next a.name place os v w x t g is.place_is keeps))
    c.none

-- Owners that change

changed_by : (name : ℕ) (f : Owner → Owner) (x : Owner) (xs : List Owner) (o : Option Owner) (b : Bool) → has_name name x ≡ b → ((y : Owner) → (f y).name ≡ y.name) → cond b (Some x) (find (has_name name) xs) ≡ o → (find (has_name name) xs ≡ o → find (has_name name) (change_first (has_name name) f xs) ≡ option_map f o) → find (has_name name) (cond b (f x ∷ xs) (x ∷ change_first (has_name name) f xs)) ≡ option_map f o
changed_by name f x xs o true is same found rest =
    ap (λ b. cond b (Some (f x)) (find (has_name name) xs)) (ap (λ n. n == name) (same x) ∙ is) ∙ ap (option_map f) found
changed_by name f x xs o false is same found rest =
    ap (λ b. cond b (Some x) (find (has_name name) (change_first (has_name name) f xs))) is ∙ rest found

found_changed : (name : ℕ) (f : Owner → Owner) (owners : List Owner) (o : Option Owner) → ((y : Owner) → (f y).name ≡ y.name) → find (has_name name) owners ≡ o → find (has_name name) (change_first (has_name name) f owners) ≡ option_map f o
found_changed name f [] o same found = ap (option_map f) found
found_changed name f (x ∷ xs) o same found = changed_by name f x xs o (has_name name x) refl same found (found_changed name f xs o same)

pub changes : (a : Owner) (f : Owner → Owner) (place : ℕ) (request : Request) (v w : View) (x : Placed Entry) → ((y : Owner) → (f y).name ≡ y.name) → ((mine : ℕ → Bool) (owners : List Owner) → mine a.name ≡ true → told_next mine owners (record { request = request; answer = answers.Done }) ≡ change_first (has_name a.name) f owners)
    → ((mine : ℕ → Bool) → KeepsOpen mine request) → StandsOwn a place v → Grows v w (x ∷ []) → IsAsked place request answers.Done x → StandsOwn (f a) place w
changes a f place request v w x same next keeps s g is =
    let os = told_by s.mine (own_given place v) in
    let t = tells_next a.name place os v w x (tells_of a.name place (Some a) v (known_of a place v s)) g is.place_is (subst (λ (e : Entry). KeepsOpen s.mine e.request) (sym is.entry) (keeps s.mine)) in
    let k = knows_of a.name place (told_next s.mine os x.note.entry) (Some (f a)) w t
    (ap (find (has_name a.name)) (ap (told_next s.mine os) is.entry ∙ next s.mine os s.it) ∙ found_changed a.name f os (Some a) same s.told_is) in
    stands_of (f a) place w (subst (λ n. Knows n (Some (f a)) place w) (sym (same a)) k)

-- where the test is true the owners are the new ones
pub changed_next : (owners new : List Owner) (t : Bool) → t ≡ true → cond t new owners ≡ new
changed_next owners new true is = refl
changed_next owners new false is = absurd (false≢true is)

-- a bound socket that is connected
pub connects : (a full : Owner) (place : ℕ) (v w : View) (x : Placed Entry) → full ≡ connected full.addr full.remote full.rport a → StandsOwn a place v → Grows v w (x ∷ []) → IsAsked place (requests.ConnectBound a.name full.addr full.remote full.rport) answers.Done x → StandsOwn full place w
connects a full place v w x is s g asked =
    let f = connected full.addr full.remote full.rport in
    subst (λ (o : Owner). StandsOwn o place w) (sym is)
    (changes a f place (requests.ConnectBound a.name full.addr full.remote full.rport) v w x (λ y. refl) (λ mine owners it. changed_next owners _ (mine a.name) it) (λ mine. tt) s g asked)

-- Listeners that accept

found_either : (name : ℕ) (x : Owner) (xs ys : List Owner) (a : Owner) (b : Bool) → cond b (Some x) (find (has_name name) xs) ≡ Some a → (find (has_name name) xs ≡ Some a → find (has_name name) ys ≡ Some a) → cond b (Some x) (find (has_name name) ys) ≡ Some a
found_either name x xs ys a true found rest = found
found_either name x xs ys a false found rest = rest found

found_before : (name : ℕ) (owners more : List Owner) (a : Owner) → find (has_name name) owners ≡ Some a → find (has_name name) (owners ++ more) ≡ Some a
found_before name [] more a found = absurd (cc)
found_before name (x ∷ xs) more a found =
    found_either name x xs (xs ++ more) a (has_name name x) found (found_before name xs more a)

found_with : (name : ℕ) (owners more : List Owner) (a : Owner) (b : Bool) → find (has_name name) owners ≡ Some a → find (has_name name) (cond b (owners ++ more) owners) ≡ Some a
found_with name owners more a true found = found_before name owners more a found
found_with name owners more a false found = found

-- the listener stays
pub inherits : (l : Owner) (place name mark local remote rport : ℕ) (v w : View) (x : Placed Entry) → StandsOwn l place v → Grows v w (x ∷ []) → IsAsked place (requests.Inherit l.name name mark local remote rport) answers.Done x → StandsOwn l place w
inherits l place name mark local remote rport v w x s g is =
    let os = told_by s.mine (own_given place v) in
    let request = requests.Inherit l.name name mark local remote rport in
    let t = tells_next l.name place os v w x (tells_of l.name place (Some l) v (known_of l place v s)) g is.place_is
    (subst (λ (e : Entry). KeepsOpen s.mine e.request) (sym is.entry) (λ said. s.it)) in
    stands_of l place w
    (knows_of l.name place (told_next s.mine os x.note.entry) (Some l) w t
    (ap (find (has_name l.name)) (ap (told_next s.mine os) is.entry)
    ∙ found_with l.name os (option_to_list (option_map (child name mark local remote rport) (find (has_name l.name) os))) l (s.mine name) s.told_is))
