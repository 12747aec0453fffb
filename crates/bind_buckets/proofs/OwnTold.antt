-- A caller's own open sockets, from its own entries.
use Rattle.std.proofs.Common.{◌≡◌, ◌≢◌, ℕ, ◌==◌, ◌&&◌, ◌||◌, not, Bool, true, false, cond, List, [], ◌∷◌, ◌++◌, map, filter, find, Some, None, Option, refl, sym, subst, ◌∙◌, ap, eq-eqb, append-nil}
use Rattle.std.specs.Option.{option_map, option_to_list}
use Rattle.std.proofs.lemmas.Bool.{eqb-true, false≢true}
use Rattle.std.proofs.lemmas.List.Elements.{filter-append}
use Rattle.list_words.specs.Lists.{Each}
use Rattle.list_words.proofs.EachLemmas.{each_push, each_append, each_weaken, each_map, each_both, each_filter}
use Rattle.sock_card.specs.declared.owner.Owner.{Owner}
use Rattle.sock_card.specs.Conflict.{is_time_wait}
use Rattle.sock_card.specs.Became.{as_listener, connected, child}
use Rattle.turn_table.specs.Passes as words
use Rattle.turn_table.specs.Passes.{known}
use Rattle.turn_table.specs.Journals.{placed, by_caller, notes_at}
use Rattle.turn_table.specs.declared.note.Placed.{Placed}
use Rattle.turn_table.proofs.OfCallers.{at-append, at_here, at_else}
use Rattle.std.proofs.lemmas.List.{map-append}
use Rattle.bind_buckets.specs.declared.request.Request.{Request}
use Rattle.bind_buckets.specs.declared.request.Request.TheVariants as requests
use Rattle.bind_buckets.specs.declared.request.Answer.{Answer}
use Rattle.bind_buckets.specs.declared.request.Answer.TheVariants as answers
use Rattle.bind_buckets.specs.declared.request.Entry.{Entry}
use Rattle.bind_buckets.specs.declared.request.Sharing.{Sharing}
use Rattle.bind_buckets.specs.declared.request.Sharing.TheVariants as sharings
use Rattle.bind_buckets.specs.Notes.{Note}
use Rattle.bind_buckets.specs.First.{change_first, drop_first}
use Rattle.bind_buckets.specs.OwnerStep.{has_name, waits_as}
use Rattle.bind_buckets.specs.Bucket.{IsSound, entries_of, entry_of}
use Rattle.bind_buckets.specs.Callers.{MayName, MayAsk, MayMake, MayCall, AreOwn}
use Rattle.bind_buckets.specs.Followed.{done_by, told, told_from, speaks_of, IsWhole, is_mine, is_about}
use Rattle.bind_buckets.specs.Turned.{View, Hash, Pass, Out, IsOut, OneAsked, Within, made, own_of}
use Rattle.bind_buckets.specs.OwnTold.{removes_waiting, is_told, KeepsOpen, AllKeepOpen, OpenAreTold, OwnAreTold, FirstOwnIsTold, OwnStands, StandsOwn, own_given, Brings, is_named_as, told_next, OwnComes, OwnStays, OwnGoesOn, OwnAccepted}
use Rattle.bind_buckets.proofs.Filtered.{find_filtered}
use Rattle.bind_buckets.proofs.ToldByOwn.{told_by_their_own, named_mine, told_seen}

abbrev Open : Owner → Type 0
Open a = is_time_wait a.state ≡ false

abbrev NoneWait : List Owner → Type 0
NoneWait owners = Each Open owners

change_by : (f : Owner → Owner) (x : Owner) (xs ys : List Owner) (b : Bool) → Open (f x) → Open x → NoneWait xs → NoneWait ys → NoneWait (cond b (f x ∷ xs) (x ∷ ys))
change_by f x xs ys true new old n m = (new, n)
change_by f x xs ys false new old n m = (old, m)

change_open : (is : Owner → Bool) (f : Owner → Owner) (owners : List Owner) → ((a : Owner) → Open (f a)) → NoneWait owners → NoneWait (change_first is f owners)
change_open is f [] to n = tt
change_open is f (x ∷ xs) to n =
    change_by f x xs (change_first is f xs) (is x) (to x) n.0 n.1 (change_open is f xs to n.1)

drop_by : (x : Owner) (xs ys : List Owner) (b : Bool) → Open x → NoneWait xs → NoneWait ys → NoneWait (cond b xs (x ∷ ys))
drop_by x xs ys true old n m = n
drop_by x xs ys false old n m = (old, m)

drop_open : (is : Owner → Bool) (owners : List Owner) → NoneWait owners → NoneWait (drop_first is owners)
drop_open is [] n = tt
drop_open is (x ∷ xs) n = drop_by x xs (drop_first is xs) (is x) n.0 n.1 (drop_open is xs n.1)

child_open : (name mark local remote rport : ℕ) (o : Option Owner) → NoneWait (option_to_list (option_map (child name mark local remote rport) o))
child_open name mark local remote rport None = tt
child_open name mark local remote rport (Some a) = (refl, tt)

stays_by : (x : Owner) (xs : List Owner) (p q : Bool) → q ≡ false → cond (p && q) xs (x ∷ xs) ≡ x ∷ xs
stays_by x xs true true e = absurd (false≢true (sym e))
stays_by x xs true false e = refl
stays_by x xs false true e = refl
stays_by x xs false false e = refl

none_goes : (name : ℕ) (owners : List Owner) → NoneWait owners → drop_first (waits_as name) owners ≡ owners
none_goes name [] n = refl
none_goes name (x ∷ xs) n =
    ap (λ ys. cond (waits_as name x) xs (x ∷ ys)) (none_goes name xs n.1) ∙ stays_by x xs (has_name name x) (is_time_wait x.state) n.0

module _ (mine : ℕ → Bool) where
  done_open : (request : Request) (owners : List Owner) → speaks_of mine request ≡ true → KeepsOpen mine request → NoneWait owners → NoneWait (done_by owners request)
  done_open (requests.Bind a) owners about keeps n = each_push Open owners a n (keeps about)
  done_open (requests.BindAuto a) owners about keeps n = each_push Open owners a n (keeps about)
  done_open (requests.MayListen name) owners about keeps n = n
  done_open (requests.Listen name slot) owners about keeps n = change_open (has_name name) as_listener owners (λ a. refl) n
  done_open (requests.Free port net) owners about keeps n = n
  done_open (requests.ConnectAuto a) owners about keeps n = each_push Open owners a n (keeps about)
  done_open (requests.ConnectBound name local remote rport) owners about keeps n =
      change_open (has_name name) (connected local remote rport) owners (λ a. refl) n
  done_open (requests.Inherit parent name mark local remote rport) owners about keeps n =
      each_append Open owners _ n (child_open name mark local remote rport (find (has_name parent) owners))
  done_open (requests.ToTimeWait name) owners about keeps n = absurd (false≢true (sym keeps ∙ about))
  done_open (requests.Remove name) owners about keeps n = drop_open (has_name name) owners n
  done_open (requests.RemoveWaiting name) owners about keeps n = drop_open (waits_as name) owners n

  told_open : (request : Request) (answer : Answer) (owners : List Owner) → speaks_of mine request ≡ true → KeepsOpen mine request → NoneWait owners → NoneWait (told owners request answer)
  told_open request answers.Done owners about keeps n = done_open request owners about keeps n
  told_open request _ owners about keeps n = n

  unmoved : (request : Request) (answer : Answer) (owners : List Owner) → removes_waiting request ≡ true → NoneWait owners → told owners request answer ≡ owners
  unmoved (requests.RemoveWaiting name) answers.Done owners is n = none_goes name owners n
  unmoved (requests.RemoveWaiting name) _ owners is n = refl
  unmoved _ answer owners is n = absurd (false≢true is)

  skip_at : (e : Entry) (xs ys : List Entry) (owners : List Owner) (b s : Bool) → removes_waiting e.request ≡ b → speaks_of mine e.request ≡ s → NoneWait owners → KeepsOpen mine e.request → ((os : List Owner) → NoneWait os → told_from os xs ≡ told_from os ys)
      → told_from owners (cond s (e ∷ xs) xs) ≡ told_from owners (cond (not b && s) (e ∷ ys) ys)
  skip_at e xs ys owners true true r about n keeps rest =
      ap (λ os. told_from os xs) (unmoved e.request e.answer owners r n) ∙ rest owners n
  skip_at e xs ys owners true false r about n keeps rest = rest owners n
  skip_at e xs ys owners false true r about n keeps rest =
      rest (told owners e.request e.answer) (told_open e.request e.answer owners about keeps n)
  skip_at e xs ys owners false false r about n keeps rest = rest owners n

  skip : (es : List Entry) (owners : List Owner) → NoneWait owners → Each (λ (e : Entry). KeepsOpen mine e.request) es → told_from owners (filter (is_about mine) es) ≡ told_from owners (filter (is_told mine) es)
  skip [] owners n keeps = refl
  skip (e ∷ es) owners n keeps =
      skip_at e (filter (is_about mine) es) (filter (is_told mine) es) owners (removes_waiting e.request) (speaks_of mine e.request) refl refl n keeps.0
      (λ os m. skip es os m keeps.1)

  keeps_whole : (request : Request) → KeepsOpen mine request → IsWhole mine request
  keeps_whole (requests.Inherit parent name mark local remote rport) keeps = keeps
  keeps_whole _ keeps = tt

  unspoken : (request : Request) → not (removes_waiting request) && speaks_of mine request ≡ false → KeepsOpen mine request
  unspoken (requests.Bind a) none = λ said. absurd (false≢true (sym none ∙ said))
  unspoken (requests.BindAuto a) none = λ said. absurd (false≢true (sym none ∙ said))
  unspoken (requests.ConnectAuto a) none = λ said. absurd (false≢true (sym none ∙ said))
  unspoken (requests.Inherit parent name mark local remote rport) none = λ said. absurd (false≢true (sym none ∙ said))
  unspoken (requests.ToTimeWait name) none = none
  unspoken _ none = tt

  module _ (c : ℕ) (own : AreOwn c mine) where
    same_section : (who name : ℕ) → who ≢ 0 → c ≢ 0 → MayName who name → mine name ≡ true → who ≡ c
    same_section who name some more may said = sym (may some) ∙ own name said more

    asker : (who : ℕ) (request : Request) → who ≢ 0 → c ≢ 0 → MayAsk who request → not (removes_waiting request) && speaks_of mine request ≡ true → who ≡ c
    asker who (requests.Bind a) some more may said = same_section who a.name some more may.0 said
    asker who (requests.BindAuto a) some more may said = same_section who a.name some more may.0 said
    asker who (requests.MayListen name) some more may said = same_section who name some more may.0 said
    asker who (requests.Listen name slot) some more may said = same_section who name some more may.0 said
    asker who (requests.Free port net) some more may said = absurd (false≢true said)
    asker who (requests.ConnectAuto a) some more may said = same_section who a.name some more may.0 said
    asker who (requests.ConnectBound name local remote rport) some more may said = same_section who name some more may.0 said
    asker who (requests.Inherit parent name mark local remote rport) some more may said = same_section who name some more may.1.0 said
    asker who (requests.ToTimeWait name) some more may said = same_section who name some more may.0 said
    asker who (requests.Remove name) some more may said = same_section who name some more may.0 said
    asker who (requests.RemoveWaiting name) some more may said = absurd (false≢true said)

    caller_of : (home : Sharing) (who : ℕ) (request : Request) → MayCall home who → MayCall home c → MayAsk who request → not (removes_waiting request) && speaks_of mine request ≡ true → who ≡ c
    caller_of sharings.Alone who request first this may said = first ∙ sym this
    caller_of sharings.Shared who request some more may said = asker who request some more may said

    module _ (home : Sharing) (this : MayCall home c) where
      abbrev Fits : Note → Type 0
      Fits x = MayCall home x.caller × MayMake x.caller x.entry

      abbrev Keeps : Note → Type 0
      Keeps x = KeepsOpen mine x.entry.request

      not_else : (x : Note) → Fits x → (x.caller == c) ≡ false → is_told mine x.entry ≡ true → ⊥
      not_else x fits other said =
          false≢true (sym other ∙ eq-eqb x.caller c (caller_of home x.caller x.entry.request fits.0 this fits.1 said))

      keeps_by : (x : Note) (xs ys : List Note) (b t : Bool) → (x.caller == c) ≡ b → is_told mine x.entry ≡ t → Fits x → Each Keeps (cond b (x ∷ xs) xs) → (Each Keeps xs → Each Keeps ys) → Each Keeps (x ∷ ys)
      keeps_by x xs ys true t is q fits keeps rest = (keeps.0, rest keeps.1)
      keeps_by x xs ys false true is q fits keeps rest = absurd (not_else x fits is q)
      keeps_by x xs ys false false is q fits keeps rest = (unspoken x.entry.request q, rest keeps)

      all_keep : (notes : List Note) → Each Fits notes → Each Keeps (by_caller c notes) → Each Keeps notes
      all_keep [] fits keeps = tt
      all_keep (x ∷ xs) fits keeps =
          keeps_by x (by_caller c xs) xs (x.caller == c) (is_told mine x.entry) refl refl fits.0 keeps (all_keep xs fits.1)

      told_by : (x : Note) (xs : List Note) (es : List Entry) (b t : Bool) → (x.caller == c) ≡ b → is_told mine x.entry ≡ t → Fits x → es ≡ filter (is_told mine) (entries_of xs) → cond t (x.entry ∷ es) es ≡ filter (is_told mine) (entries_of (cond b (x ∷ xs) xs))
      told_by x xs es true true is q fits rest = rw q (ap (λ es. x.entry ∷ es) rest)
      told_by x xs es true false is q fits rest = rw q rest
      told_by x xs es false true is q fits rest = absurd (not_else x fits is q)
      told_by x xs es false false is q fits rest = rest

      same_told : (notes : List Note) → Each Fits notes → filter (is_told mine) (entries_of notes) ≡ filter (is_told mine) (entries_of (by_caller c notes))
      same_told [] fits = refl
      same_told (x ∷ xs) fits =
          told_by x (by_caller c xs) _ (x.caller == c) (is_told mine x.entry) refl refl fits.0 (same_told xs fits.1)

pub open_are_told : OpenAreTold
open_are_told number mine entries legal keeps =
    told_by_their_own number mine entries legal (each_weaken (λ (e : Entry). KeepsOpen mine e.request) (λ (e : Entry). IsWhole mine e.request) entries (λ e k. keeps_whole mine e.request k) keeps)
    ∙ skip mine entries [] tt keeps

all_by : (x : Note) (xs ys : List Note) (b : Bool) → b ≡ true → ys ≡ xs → cond b (x ∷ ys) ys ≡ x ∷ xs
all_by x xs ys true is rest = ap (λ zs. x ∷ zs) rest
all_by x xs ys false is rest = absurd (false≢true is)

all_of : (c : ℕ) (notes : List Note) → Each (λ (x : Note). x.caller ≡ c) notes → by_caller c notes ≡ notes
all_of c [] h = refl
all_of c (x ∷ xs) h = all_by x xs (by_caller c xs) (x.caller == c) (eq-eqb x.caller c h.0) (all_of c xs h.1)

module _ (t : Hash) (p : Pass) (turn : Out) (mine : ℕ → Bool) (out : IsOut t p turn) (sound : IsSound turn.value.value) (own : AreOwn (words.caller p) mine) (keeps : AllKeepOpen mine (own_of p turn)) where
  abbrev c : ℕ
  c = words.caller p

  abbrev journal : List Note
  journal = turn.value.value.journal

  own_is : by_caller c journal ≡ own_of p turn
  own_is =
      ap (by_caller c) out.grown ∙ filter-append (λ (x : Note). x.caller == c) (words.found p) (made p turn)
      ∙ ap (λ ns. ns ++ by_caller c (made p turn)) out.own
      ∙ ap (λ ns. by_caller c (notes_at turn.place (words.given p)) ++ ns) (all_of c (made p turn) out.callers)

  fits : Each (λ (x : Note). MayCall (words.home t) x.caller × MayMake x.caller x.entry) journal
  fits = each_both (λ (x : Note). MayCall (words.home t) x.caller) (λ (x : Note). MayMake x.caller x.entry) journal out.from out.may

  all : AllKeepOpen mine journal
  all = all_keep mine c own (words.home t) out.who journal fits (subst (AllKeepOpen mine) (sym own_is) keeps)

  pub own_told : filter (is_mine mine) turn.value.value.held.owners ≡ told_from [] (filter (is_told mine) (entries_of (own_of p turn)))
  own_told =
      ap (λ h. filter (is_mine mine) h.owners) sound.replay
      ∙ open_are_told turn.value.value.number mine (entries_of journal) sound.legal (each_map (λ (e : Entry). KeepsOpen mine e.request) (λ (x : Note). x.entry) journal all)
      ∙ ap (told_from []) (same_told mine c own (words.home t) out.who journal fits ∙ ap (λ ns. filter (is_told mine) (entries_of ns)) own_is)

pub own_are_told : OwnAreTold
own_are_told t p turn mine out sound own keeps = own_told t p turn mine out sound own keeps

pub first_own_is_told : FirstOwnIsTold
first_own_is_told t p turn mine name said out sound own keeps =
    find_filtered (is_mine mine) (has_name name) (named_mine mine name true said) turn.value.value.held.owners
    ∙ ap (find (has_name name)) (own_told t p turn mine out sound own keeps)

-- before anything is asked in the turn
nothing_more : (p : Pass) (turn : Out) → made p turn ≡ [] → own_of p turn ≡ own_given turn.place (known p)
nothing_more p turn none =
    ap (λ ns. own_given turn.place (known p) ++ ns) none ∙ append-nil (own_given turn.place (known p))

pub own_stands : OwnStands
own_stands t p turn a out sound none s =
    let same = nothing_more p turn none in
    first_own_is_told t p turn s.mine a.name s.it out sound s.own (subst (AllKeepOpen s.mine) (sym same) s.keeps)
    ∙ ap (λ ns. find (has_name a.name) (told_from [] (filter (is_told s.mine) (entries_of ns)))) same
    ∙ s.told_is

-- a turn's beginning changes nothing of it
pub stands_within : (a : Owner) (place : ℕ) (v u : View) → Within v u → StandsOwn a place v → StandsOwn a place u
stands_within a place v u w s =
    let same : own_given place u ≡ own_given place v = ap (λ c. by_caller c (notes_at place u.mine)) w.caller ∙ ap (λ m. by_caller v.caller (notes_at place m)) w.mine in
    record {
      mine = s.mine;
      it = s.it;
      own = subst (λ c. AreOwn c s.mine) (sym w.caller) s.own;
      keeps = subst (AllKeepOpen s.mine) (sym same) s.keeps;
      told_is = ap (λ ns. find (has_name a.name) (told_from [] (filter (is_told s.mine) (entries_of ns)))) same ∙ s.told_is;
    }

-- what a caller asked of a bucket, after one question more
module _ (place at : ℕ) (request : Request) (answer : Answer) (v w : View) (o : OneAsked at request answer v w) where
  abbrev x : Placed Entry
  x = o.entry

  one : x ∷ [] ≡ map (placed at) (x.note ∷ [])
  one = ap (λ i. placed i x.note ∷ []) o.asked.place_is

  mine_more : own_given place w ≡ by_caller v.caller (notes_at place v.mine ++ notes_at place (map (placed at) (x.note ∷ [])))
  mine_more =
      ap (λ c. by_caller c (notes_at place w.mine)) o.gave.caller
      ∙ ap (λ m. by_caller v.caller (notes_at place m)) (o.gave.mine ∙ ap (λ xs. v.mine ++ xs) one)
      ∙ ap (by_caller v.caller) (at-append place v.mine (map (placed at) (x.note ∷ [])))

  given_here : at ≡ place → own_given place w ≡ own_given place v ++ x.note ∷ []
  given_here same =
      mine_more
      ∙ ap (λ ns. by_caller v.caller (notes_at place v.mine ++ ns)) (ap (λ i. notes_at place (map (placed i) (x.note ∷ []))) same ∙ at_here place (x.note ∷ []))
      ∙ filter-append (λ (y : Note). y.caller == v.caller) (notes_at place v.mine) (x.note ∷ [])
      ∙ ap (λ ns. own_given place v ++ ns) (all_of v.caller (x.note ∷ []) (o.gave.callers.0, tt))

  given_else : at ≢ place → own_given place w ≡ own_given place v
  given_else other =
      mine_more
      ∙ ap (λ ns. by_caller v.caller (notes_at place v.mine ++ ns)) (at_else at place (x.note ∷ []) other)
      ∙ ap (by_caller v.caller) (append-nil (notes_at place v.mine))

-- the entries of two lists, one after the other
pub told_both : (owners : List Owner) (xs ys : List Entry) → told_from owners (xs ++ ys) ≡ told_from (told_from owners xs) ys
told_both owners [] ys = refl
told_both owners (e ∷ xs) ys = told_both (told owners e.request e.answer) xs ys

told_last : (owners : List Owner) (e : Entry) (b : Bool) → told_from owners (cond b (e ∷ []) []) ≡ cond b (told owners e.request e.answer) owners
told_last owners e true = refl
told_last owners e false = refl

-- what one entry more gives
pub told_push : (mine : ℕ → Bool) (notes : List Note) (x : Note) → told_from [] (filter (is_told mine) (entries_of (notes ++ x ∷ []))) ≡ told_next mine (told_from [] (filter (is_told mine) (entries_of notes))) x.entry
told_push mine notes x =
    ap (λ es. told_from [] (filter (is_told mine) es)) (map-append entry_of notes (x ∷ []))
    ∙ ap (told_from []) (filter-append (is_told mine) (entries_of notes) (x.entry ∷ []))
    ∙ told_both [] (filter (is_told mine) (entries_of notes)) (filter (is_told mine) (x.entry ∷ []))
    ∙ told_last (told_from [] (filter (is_told mine) (entries_of notes))) x.entry (is_told mine x.entry)

pub own_stays : OwnStays
own_stays a place other request answer v w o apart s =
    let same = given_else place other request answer v w o apart in
    record {
      mine = s.mine;
      it = s.it;
      own = subst (λ c. AreOwn c s.mine) (sym o.gave.caller) s.own;
      keeps = subst (AllKeepOpen s.mine) (sym same) s.keeps;
      told_is = ap (λ ns. find (has_name a.name) (told_from [] (filter (is_told s.mine) (entries_of ns)))) same ∙ s.told_is;
    }

pub own_goes_on : OwnGoesOn
own_goes_on a b place request answer v w s o keeps name found =
    let same = given_here place place request answer v w o refl in
    record {
      mine = s.mine;
      it = ap s.mine name ∙ s.it;
      own = subst (λ c. AreOwn c s.mine) (sym o.gave.caller) s.own;
      keeps = subst (AllKeepOpen s.mine) (sym same) (each_push (λ (y : Note). KeepsOpen s.mine y.entry.request) (own_given place v) o.entry.note s.keeps (subst (λ (e : Entry). KeepsOpen s.mine e.request) (sym o.asked.entry) keeps));
      told_is =
          ap (λ ns. find (has_name b.name) (told_from [] (filter (is_told s.mine) (entries_of ns)))) same
          ∙ ap (λ n. find (has_name n) (told_from [] (filter (is_told s.mine) (entries_of (own_given place v ++ o.entry.note ∷ []))))) name
          ∙ ap (find (has_name a.name)) (told_push s.mine (own_given place v) o.entry.note)
          ∙ ap (λ (e : Entry). find (has_name a.name) (told_next s.mine (told_from [] (filter (is_told s.mine) (entries_of (own_given place v)))) e)) o.asked.entry
          ∙ found;
    }

-- entries of which `is_told` keeps none
pub none_told : (mine : ℕ → Bool) (notes : List Note) → Each (λ (x : Note). is_told mine x.entry ≡ false) notes → filter (is_told mine) (entries_of notes) ≡ []
none_told mine [] h = refl
none_told mine (x ∷ xs) h = rw h.0 (none_told mine xs h.1)

-- they put none of the names into TIME_WAIT
pub none_kept : (mine : ℕ → Bool) (notes : List Note) → Each (λ (x : Note). is_told mine x.entry ≡ false) notes → AllKeepOpen mine notes
none_kept mine notes h =
    each_weaken (λ (x : Note). is_told mine x.entry ≡ false) (λ (x : Note). KeepsOpen mine x.entry.request) notes (λ x none. unspoken mine x.entry.request none) h

pub brings_keep : (a : Owner) (mine : ℕ → Bool) (request : Request) → Brings a request → is_time_wait a.state ≡ false → KeepsOpen mine request
brings_keep a mine (requests.Bind b) same awake = λ said. ap (λ (x : Owner). is_time_wait x.state) same ∙ awake
brings_keep a mine (requests.BindAuto b) same awake = λ said. ap (λ (x : Owner). is_time_wait x.state) same ∙ awake
brings_keep a mine (requests.ConnectAuto b) same awake = λ said. ap (λ (x : Owner). is_time_wait x.state) same ∙ awake
brings_keep a mine _ none awake = absurd none

brought_by : (a b : Owner) (t : Bool) → t ≡ true → b ≡ a → find (has_name a.name) (cond t (b ∷ []) []) ≡ Some a
brought_by a b true is same = rw (same, eq-eqb a.name a.name refl) refl
brought_by a b false is same = absurd (false≢true is)

brought : (a : Owner) (request : Request) → Brings a request → find (has_name a.name) (told_next (is_named_as a) [] (record { request = request; answer = answers.Done })) ≡ Some a
brought a (requests.Bind b) same = brought_by a b (b.name == a.name) (eq-eqb b.name a.name (ap (λ (x : Owner). x.name) same)) same
brought a (requests.BindAuto b) same = brought_by a b (b.name == a.name) (eq-eqb b.name a.name (ap (λ (x : Owner). x.name) same)) same
brought a (requests.ConnectAuto b) same = brought_by a b (b.name == a.name) (eq-eqb b.name a.name (ap (λ (x : Owner). x.name) same)) same
brought a _ none = absurd none

pub own_comes : OwnComes
own_comes a place request v w o brings awake may none =
    let same = given_here place place request answers.Done v w o refl in
    record {
      mine = is_named_as a;
      it = eq-eqb a.name a.name refl;
      own = λ name said. subst (λ c. MayName c name) (sym o.gave.caller) (subst (MayName v.caller) (sym (eqb-true name a.name said)) may);
      keeps = subst (AllKeepOpen (is_named_as a)) (sym same)
          (each_push (λ (y : Note). KeepsOpen (is_named_as a) y.entry.request) (own_given place v) o.entry.note (none_kept (is_named_as a) (own_given place v) none)
          (subst (λ (e : Entry). KeepsOpen (is_named_as a) e.request) (sym o.asked.entry) (brings_keep a (is_named_as a) request brings awake)));
      told_is =
          ap (λ ns. find (has_name a.name) (told_from [] (filter (is_told (is_named_as a)) (entries_of ns)))) same
          ∙ ap (find (has_name a.name)) (told_push (is_named_as a) (own_given place v) o.entry.note)
          ∙ ap (λ es. find (has_name a.name) (told_next (is_named_as a) (told_from [] es) o.entry.note.entry)) (none_told (is_named_as a) (own_given place v) none)
          ∙ ap (λ (e : Entry). find (has_name a.name) (told_next (is_named_as a) [] e)) o.asked.entry
          ∙ brought a request brings;
    }

or_none : (x y : Bool) → y ≡ false → (x || y) ≡ x
or_none true y h = refl
or_none false y h = h

or_first : (x y : Bool) → x ≡ true → (x || y) ≡ true
or_first true y h = refl
or_first false y h = absurd (false≢true h)

or_second : (x y : Bool) → y ≡ true → (x || y) ≡ true
or_second true y h = refl
or_second false y h = h

-- a name of this set, or that one
abbrev pub with_name : (ℕ → Bool) → ℕ → ℕ → Bool
with_name mine name n = mine n || (n == name)

-- one name more, which no entry is about
module _ (mine : ℕ → Bool) (name : ℕ) where
  abbrev more : ℕ → Bool
  more = with_name mine name

  abbrev it : ℕ → Bool
  it n = n == name

  same_speaks : (request : Request) → not (removes_waiting request) && speaks_of it request ≡ false → (not (removes_waiting request) && speaks_of more request) ≡ (not (removes_waiting request) && speaks_of mine request)
  same_speaks (requests.Bind a) none = or_none (mine a.name) _ none
  same_speaks (requests.BindAuto a) none = or_none (mine a.name) _ none
  same_speaks (requests.MayListen n) none = or_none (mine n) _ none
  same_speaks (requests.Listen n slot) none = or_none (mine n) _ none
  same_speaks (requests.Free port net) none = refl
  same_speaks (requests.ConnectAuto a) none = or_none (mine a.name) _ none
  same_speaks (requests.ConnectBound n local remote rport) none = or_none (mine n) _ none
  same_speaks (requests.Inherit parent n mark local remote rport) none = or_none (mine n) _ none
  same_speaks (requests.ToTimeWait n) none = or_none (mine n) _ none
  same_speaks (requests.Remove n) none = or_none (mine n) _ none
  same_speaks (requests.RemoveWaiting n) none = refl

  keeps_more : (request : Request) → not (removes_waiting request) && speaks_of it request ≡ false → KeepsOpen mine request → KeepsOpen more request
  keeps_more (requests.Bind a) none k = λ said. k (sym (or_none (mine a.name) _ none) ∙ said)
  keeps_more (requests.BindAuto a) none k = λ said. k (sym (or_none (mine a.name) _ none) ∙ said)
  keeps_more (requests.ConnectAuto a) none k = λ said. k (sym (or_none (mine a.name) _ none) ∙ said)
  keeps_more (requests.Inherit parent n mark local remote rport) none k =
      λ said. or_first (mine parent) _ (k (sym (or_none (mine n) _ none) ∙ said))
  keeps_more (requests.ToTimeWait n) none k = or_none (mine n) _ none ∙ k
  keeps_more _ none k = tt

  all_keep_more : (notes : List Note) → Each (λ (x : Note). is_told it x.entry ≡ false) notes → AllKeepOpen mine notes → AllKeepOpen more notes
  all_keep_more [] none k = tt
  all_keep_more (x ∷ xs) none k = (keeps_more x.entry.request none.0 k.0, all_keep_more xs none.1 k.1)

  same_told_more : (notes : List Note) → Each (λ (x : Note). is_told it x.entry ≡ false) notes → filter (is_told more) (entries_of notes) ≡ filter (is_told mine) (entries_of notes)
  same_told_more [] none = refl
  same_told_more (x ∷ xs) none =
      ap (λ b. cond b (x.entry ∷ filter (is_told more) (entries_of xs)) (filter (is_told more) (entries_of xs))) (same_speaks x.entry.request none.0)
      ∙ ap (λ es. cond (is_told mine x.entry) (x.entry ∷ es) es) (same_told_more xs none.1)

  -- none of the entries that `is_told` keeps is about it
  about_by : (e : Entry) (xs : List Entry) (r s t : Bool) → removes_waiting e.request ≡ r → speaks_of it e.request ≡ s → (not r && s) ≡ false → filter (is_about it) xs ≡ [] → filter (is_about it) (cond (not r && t) (e ∷ xs) xs) ≡ []
  about_by e xs true s t removes speaks none rest = rest
  about_by e xs false true t removes speaks none rest = absurd (false≢true (sym none))
  about_by e xs false false true removes speaks none rest = rw speaks rest
  about_by e xs false false false removes speaks none rest = rest

  none_about : (notes : List Note) → Each (λ (x : Note). is_told it x.entry ≡ false) notes → filter (is_about it) (filter (is_told mine) (entries_of notes)) ≡ []
  none_about [] none = refl
  none_about (x ∷ xs) none =
      about_by x.entry (filter (is_told mine) (entries_of xs)) (removes_waiting x.entry.request) (speaks_of it x.entry.request) (speaks_of mine x.entry.request) refl refl none.0 (none_about xs none.1)

  not_child : (request : Request) → not (removes_waiting request) && speaks_of it request ≡ false → IsWhole it request
  not_child (requests.Inherit parent n mark local remote rport) none = λ said. absurd (false≢true (sym none ∙ said))
  not_child _ none = tt

  all_whole : (notes : List Note) → Each (λ (x : Note). is_told it x.entry ≡ false) notes → Each (λ (e : Entry). IsWhole it e.request) (entries_of notes)
  all_whole [] none = tt
  all_whole (x ∷ xs) none = (not_child x.entry.request none.0, all_whole xs none.1)

  nobody : (notes : List Note) → Each (λ (x : Note). is_told it x.entry ≡ false) notes → find (has_name name) (told_from [] (filter (is_told mine) (entries_of notes))) ≡ None
  nobody notes none =
      let es = filter (is_told mine) (entries_of notes) in
      find_filtered (is_mine it) (has_name name) (λ a said. said) (told_from [] es)
      ∙ ap (find (has_name name))
      (told_seen it es [] (each_filter (λ (e : Entry). IsWhole it e.request) (is_told mine) (entries_of notes) (all_whole notes none))
      ∙ ap (told_from []) (none_about notes none))

found_by : (name : ℕ) (x : Owner) (xs : List Owner) (a : Owner) (b : Bool) → cond b (Some x) (find (has_name name) xs) ≡ None → a.name ≡ name → (find (has_name name) xs ≡ None → a.name ≡ name → find (has_name name) (xs ++ a ∷ []) ≡ Some a) → cond b (Some x) (find (has_name name) (xs ++ a ∷ [])) ≡ Some a
found_by name x xs a true none is rest = absurd (cc)
found_by name x xs a false none is rest = rest none is

found_last : (name : ℕ) (owners : List Owner) (a : Owner) → find (has_name name) owners ≡ None → a.name ≡ name → find (has_name name) (owners ++ a ∷ []) ≡ Some a
found_last name [] a none is = ap (λ b. cond b (Some a) None) (eq-eqb a.name name is)
found_last name (x ∷ xs) a none is = found_by name x xs a (has_name name x) none is (found_last name xs a)

of_either : (c : ℕ) (mine : ℕ → Bool) (name n : ℕ) (x y : Bool) → mine n ≡ x → (n == name) ≡ y → AreOwn c mine → MayName c name → (x || y) ≡ true → MayName c n
of_either c mine name n true y p q own may h = own n p
of_either c mine name n false true p q own may h = subst (MayName c) (sym (eqb-true n name q)) may
of_either c mine name n false false p q own may h = absurd (false≢true h)

pub own_accepted : OwnAccepted
own_accepted p place name mark local remote rport v w s o may none =
    let same = given_here place place (requests.Inherit p.name name mark local remote rport) answers.Done v w o refl in
    let notes = own_given place v in
    let more = with_name s.mine name in
    let request = requests.Inherit p.name name mark local remote rport in
    let b = child name mark local remote rport p in
    let old = told_from [] (filter (is_told s.mine) (entries_of notes)) in
    let said : more name ≡ true = or_second (s.mine name) (name == name) (eq-eqb name name refl) in
    record {
      mine = more;
      it = said;
      own = λ n in_it. subst (λ c. MayName c n) (sym o.gave.caller) (of_either v.caller s.mine name n (s.mine n) (n == name) refl refl s.own may in_it);
      keeps = subst (AllKeepOpen more) (sym same)
          (each_push (λ (y : Note). KeepsOpen more y.entry.request) notes o.entry.note (all_keep_more s.mine name notes none s.keeps)
          (subst (λ (e : Entry). KeepsOpen more e.request) (sym o.asked.entry) (λ yes_it. or_first (s.mine p.name) (p.name == name) s.it)));
      told_is =
          ap (λ ns. find (has_name name) (told_from [] (filter (is_told more) (entries_of ns)))) same
          ∙ ap (find (has_name name)) (told_push more notes o.entry.note)
          ∙ ap (λ es. find (has_name name) (told_next more (told_from [] es) o.entry.note.entry)) (same_told_more s.mine name notes none)
          ∙ ap (λ (e : Entry). find (has_name name) (told_next more old e)) o.asked.entry
          ∙ ap (λ t. find (has_name name) (cond t (old ++ option_to_list (option_map (child name mark local remote rport) (find (has_name p.name) old))) old)) said
          ∙ ap (λ f. find (has_name name) (old ++ option_to_list (option_map (child name mark local remote rport) f))) s.told_is
          ∙ found_last name old b (nobody s.mine name notes none) refl;
    }
