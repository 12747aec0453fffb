-- What a caller's own entries say of a name, whatever set of names is looked at.
use Rattle.std.proofs.Common.{◌≡◌, ℕ, ◌==◌, ◌&&◌, not, Bool, true, false, cond, List, [], ◌∷◌, ◌++◌, filter, find, Option, refl, sym, ap, subst, ◌∙◌, eq-eqb, append-nil, append_assoc}
use Rattle.std.proofs.lemmas.Bool.{false≢true, and_parts}
use Rattle.list_words.specs.Lists.{Each}
use Rattle.list_words.proofs.EachLemmas.{each_weaken, each_filter, each_map, each_both}
use Rattle.list_words.proofs.Truths.{both_true}
use Rattle.sock_card.specs.declared.owner.Owner.{Owner}
use Rattle.turn_table.specs.declared.note.Placed.{Placed}
use Rattle.turn_table.specs.Journals.{by_caller, notes_at}
use Rattle.turn_table.proofs.OfCallers.{at-append, by-append}
use Rattle.bind_buckets.specs.declared.request.Request.{Request}
use Rattle.bind_buckets.specs.declared.request.Request.TheVariants as requests
use Rattle.bind_buckets.specs.declared.request.Entry.{Entry}
use Rattle.bind_buckets.specs.Notes.{Note}
use Rattle.bind_buckets.specs.Bucket.{entries_of, entry_of}
use Rattle.bind_buckets.specs.Callers.{AreOwn}
use Rattle.bind_buckets.specs.Followed.{told, told_from, speaks_of, is_mine, is_about, IsWhole}
use Rattle.bind_buckets.specs.OwnerStep.{has_name}
use Rattle.bind_buckets.specs.OwnTold.{KeepsOpen, removes_waiting, is_told, own_given, told_next}
use Rattle.bind_buckets.specs.Turned.{View, Gave}
use Rattle.sock_ops.specs.Stands.{Knows}
use Rattle.sock_ops.proofs.Knows.{told_by}
use Rattle.bind_buckets.proofs.Filtered.{find_filtered}
use Rattle.bind_buckets.proofs.ToldByOwn.{named_mine, told_seen}
use Rattle.bind_buckets.proofs.OwnTold.{told_push}

-- Two sets of names

-- the names in both
abbrev IsMeet : (ℕ → Bool) → (ℕ → Bool) → (ℕ → Bool) → Type 0
IsMeet set mine ours = (n : ℕ) → set n ≡ (mine n && ours n)

speaks_both : (set mine ours : ℕ → Bool) (request : Request) → IsMeet set mine ours → speaks_of set request ≡ (speaks_of mine request && speaks_of ours request)
speaks_both set mine ours (requests.Bind a) meet = meet a.name
speaks_both set mine ours (requests.BindAuto a) meet = meet a.name
speaks_both set mine ours (requests.MayListen name) meet = meet name
speaks_both set mine ours (requests.Listen name slot) meet = meet name
speaks_both set mine ours (requests.Free port net) meet = refl
speaks_both set mine ours (requests.ConnectAuto a) meet = meet a.name
speaks_both set mine ours (requests.ConnectBound name local remote rport) meet = meet name
speaks_both set mine ours (requests.Inherit parent name mark local remote rport) meet = meet name
speaks_both set mine ours (requests.ToTimeWait name) meet = meet name
speaks_both set mine ours (requests.Remove name) meet = meet name
speaks_both set mine ours (requests.RemoveWaiting name) meet = meet name

turned : (p q : Bool) → (p && q) ≡ (q && p)
turned true true = refl
turned true false = refl
turned false true = refl
turned false false = refl

whole_both : (set mine ours : ℕ → Bool) (request : Request) → IsMeet set mine ours → KeepsOpen mine request → KeepsOpen ours request → IsWhole set request
whole_both set mine ours (requests.Inherit parent name mark local remote rport) meet k h =
    λ said. let parts = and_parts (mine name) (ours name) (sym (meet name) ∙ said) in
    meet parent ∙ both_true (mine parent) (ours parent) (k parts.0) (h parts.1)
whole_both set mine ours _ meet k h = tt

seen_by : (removes p q b : Bool) (e : Entry) (xs : List Entry) → b ≡ (p && q) → (f : Entry → Bool) → f e ≡ b → filter f (cond (not removes && p) (e ∷ xs) xs) ≡ cond (not removes && b) (e ∷ filter f xs) (filter f xs)
seen_by true p q b e xs is f fe = refl
seen_by false true q b e xs is f fe = ap (λ c. cond c (e ∷ filter f xs) (filter f xs)) fe
seen_by false false q b e xs is f fe = ap (λ c. cond c (e ∷ filter f xs) (filter f xs)) (sym is)

-- of what is said of the one set, what is about both
told_both : (set mine ours : ℕ → Bool) (es : List Entry) → IsMeet set mine ours → filter (is_about set) (filter (is_told mine) es) ≡ filter (is_told set) es
told_both set mine ours [] meet = refl
told_both set mine ours (e ∷ es) meet =
    seen_by (removes_waiting e.request) (speaks_of mine e.request) (speaks_of ours e.request) (speaks_of set e.request) e (filter (is_told mine) es) (speaks_both set mine ours e.request meet) (is_about set) refl
    ∙ ap (λ xs. cond (is_told set e) (e ∷ xs) xs) (told_both set mine ours es meet)

of_both : (set mine ours : ℕ → Bool) (name : ℕ) (es : List Entry) → IsMeet set mine ours → set name ≡ true → Each (λ (e : Entry). KeepsOpen mine e.request) es → Each (λ (e : Entry). KeepsOpen ours e.request) es
    → find (has_name name) (told_from [] (filter (is_told mine) es)) ≡ find (has_name name) (told_from [] (filter (is_told set) es))
of_both set mine ours name es meet it keeps also =
    let owners = told_from [] (filter (is_told mine) es) in
    let whole : Each (λ (e : Entry). IsWhole set e.request) es =
    each_weaken (λ (e : Entry). KeepsOpen mine e.request × KeepsOpen ours e.request) (λ (e : Entry). IsWhole set e.request) es (λ e k. whole_both set mine ours e.request meet k.0 k.1)
    (each_both (λ (e : Entry). KeepsOpen mine e.request) (λ (e : Entry). KeepsOpen ours e.request) es keeps also) in
    find_filtered (is_mine set) (has_name name) (named_mine set name true it) owners
    ∙ ap (find (has_name name))
    (told_seen set (filter (is_told mine) es) [] (each_filter (λ (e : Entry). IsWhole set e.request) (is_told mine) es whole)
    ∙ ap (told_from []) (told_both set mine ours es meet))

-- by either set the first owner of a name is the same
pub names_agree : (mine ours : ℕ → Bool) (name : ℕ) (es : List Entry) → mine name ≡ true → ours name ≡ true → Each (λ (e : Entry). KeepsOpen mine e.request) es → Each (λ (e : Entry). KeepsOpen ours e.request) es
    → find (has_name name) (told_from [] (filter (is_told mine) es)) ≡ find (has_name name) (told_from [] (filter (is_told ours) es))
names_agree mine ours name es it too keeps also =
    let set : ℕ → Bool = λ n. mine n && ours n in
    let there : set name ≡ true = both_true (mine name) (ours name) it too in
    of_both set mine ours name es (λ n. refl) there keeps also
    ∙ sym (of_both set ours mine name es (λ n. turned (mine n) (ours n)) there also keeps)

-- Entries about other names

-- the entry is about no owner of that name, or takes a TIME_WAIT out
abbrev pub Misses : ℕ → Entry → Type 0
Misses name e = is_told (λ n. n == name) e ≡ false

unspoken_whole : (mine : ℕ → Bool) (request : Request) → speaks_of mine request ≡ false → IsWhole mine request
unspoken_whole mine (requests.Inherit parent name mark local remote rport) none = λ said. absurd (false≢true (sym none ∙ said))
unspoken_whole mine _ none = tt

first_stays : (name : ℕ) (owners : List Owner) (e : Entry) → speaks_of (λ n. n == name) e.request ≡ false → find (has_name name) (told owners e.request e.answer) ≡ find (has_name name) owners
first_stays name owners e none =
    let one : ℕ → Bool = λ n. n == name in
    let mine = named_mine one name true (eq-eqb name name refl) in
    find_filtered (is_mine one) (has_name name) mine (told owners e.request e.answer)
    ∙ ap (find (has_name name))
    (told_seen one (e ∷ []) owners (unspoken_whole one e.request none, tt)
    ∙ ap (λ b. told_from (filter (is_mine one) owners) (cond b (e ∷ []) [])) none)
    ∙ sym (find_filtered (is_mine one) (has_name name) mine owners)

unsaid : (removes p q : Bool) → (not removes && p) ≡ true → (not removes && q) ≡ false → q ≡ false
unsaid true p q told none = absurd (false≢true told)
unsaid false p q told none = none

missed_by : (mine : ℕ → Bool) (name : ℕ) (owners : List Owner) (e : Entry) (b : Bool) → is_told mine e ≡ b → Misses name e → find (has_name name) (cond b (told owners e.request e.answer) owners) ≡ find (has_name name) owners
missed_by mine name owners e true is none =
    first_stays name owners e (unsaid (removes_waiting e.request) (speaks_of mine e.request) (speaks_of (λ n. n == name) e.request) is none)
missed_by mine name owners e false is none = refl

missed : (mine : ℕ → Bool) (name : ℕ) (owners : List Owner) (e : Entry) → Misses name e → find (has_name name) (told_next mine owners e) ≡ find (has_name name) owners
missed mine name owners e none = missed_by mine name owners e (is_told mine e) refl none

all_missed : (mine : ℕ → Bool) (name : ℕ) (notes new : List Note) → Each (λ (x : Note). Misses name x.entry) new → find (has_name name) (told_by mine (notes ++ new)) ≡ find (has_name name) (told_by mine notes)
all_missed mine name notes [] none = ap (λ ns. find (has_name name) (told_by mine ns)) (append-nil notes)
all_missed mine name notes (x ∷ xs) none =
    ap (λ ns. find (has_name name) (told_by mine ns)) (sym (append_assoc notes (x ∷ []) xs))
    ∙ all_missed mine name (notes ++ x ∷ []) xs none.1
    ∙ ap (find (has_name name)) (told_push mine notes x)
    ∙ missed mine name (told_by mine notes) x.entry none.0

-- What a pass gave

-- of what a pass gave, what holds of each entry holds of those of one caller in one bucket
pub each_given : (P : Entry → Type 0) (caller place : ℕ) (xs : List (Placed Entry)) → Each (λ (x : Placed Entry). P x.note.entry) xs → Each (λ (x : Note). P x.entry) (by_caller caller (notes_at place xs))
each_given P caller place xs h =
    each_filter (λ (x : Note). P x.entry) (λ (x : Note). x.caller == caller) (notes_at place xs)
    (each_map (λ (x : Note). P x.entry) (λ (p : Placed Entry). p.note) (filter (λ (p : Placed Entry). p.place == place) xs)
    (each_filter (λ (x : Placed Entry). P x.note.entry) (λ (p : Placed Entry). p.place == place) xs h))

given_more : (place : ℕ) (v w : View) (new : List (Placed Entry)) → Gave v w new → own_given place w ≡ own_given place v ++ by_caller v.caller (notes_at place new)
given_more place v w new g =
    ap (λ c. by_caller c (notes_at place w.mine)) g.caller ∙ ap (λ m. by_caller v.caller (notes_at place m)) g.mine
    ∙ ap (by_caller v.caller) (at-append place v.mine new)
    ∙ by-append v.caller (notes_at place v.mine) (notes_at place new)

-- nothing that the pass gave put one of the names into TIME_WAIT, and children are there with their listener
abbrev pub AllKeep : (ℕ → Bool) → List (Placed Entry) → Type 0
AllKeep mine xs = Each (λ (x : Placed Entry). KeepsOpen mine x.note.entry.request) xs

abbrev pub AllMiss : ℕ → List (Placed Entry) → Type 0
AllMiss name xs = Each (λ (x : Placed Entry). Misses name x.note.entry) xs

-- what is known of a name is known by any other set of names that keeps open
pub known_again : (mine : ℕ → Bool) (name : ℕ) (owner : Option Owner) (place : ℕ) (v : View) → Knows name owner place v → mine name ≡ true → AreOwn v.caller mine → AllKeep mine v.mine
    → find (has_name name) (told_by mine (own_given place v)) ≡ owner
known_again mine name owner place v k it own keeps =
    names_agree mine k.mine name (entries_of (own_given place v)) it k.it
    (each_map (λ (e : Entry). KeepsOpen mine e.request) entry_of (own_given place v) (each_given (λ (e : Entry). KeepsOpen mine e.request) v.caller place v.mine keeps))
    (each_map (λ (e : Entry). KeepsOpen k.mine e.request) entry_of (own_given place v) k.keeps)
    ∙ k.told_is

-- and stays known, if nothing was asked about it
pub known_still : (mine : ℕ → Bool) (name : ℕ) (owner : Option Owner) (place : ℕ) (v w : View) (new : List (Placed Entry)) → Knows name owner place v → Gave v w new → mine name ≡ true → AreOwn v.caller mine
    → AllKeep mine w.mine → AllKeep mine v.mine → AllMiss name new → Knows name owner place w
known_still mine name owner place v w new k g it own after before none =
    record {
      mine = mine;
      it = it;
      own = subst (λ c. AreOwn c mine) (sym g.caller) own;
      keeps = each_given (λ (e : Entry). KeepsOpen mine e.request) w.caller place w.mine after;
      told_is =
          ap (λ ns. find (has_name name) (told_by mine ns)) (given_more place v w new g)
          ∙ all_missed mine name (own_given place v) (by_caller v.caller (notes_at place new)) (each_given (Misses name) v.caller place new none)
          ∙ known_again mine name owner place v k it own before;
    }
