-- What each call owes and gives.
use Rattle.std.proofs.Common.{◌≡◌, ℕ, zero, suc, ◌+◌, ◌<◌, ◌≤◌, ◌≢◌, cond, Bool, true, List, [], ◌∷◌, length, get_or, Option, Some, None, sym, refl, ap, ◌∙◌, subst, arith, eq-eqb, ne_eqb}
use mathlib.Core.Option.{none}
use Rattle.atomic_table.specs.Table.{step, Allows}
use Rattle.list_words.specs.Lists.{Each}
use Rattle.reuseport_group.specs.Words.{most, at, word_of, latest, count_at, member_at, list_at, members_stored, stores, Settled, NotBefore, Follows, Occurs, HasMembers, WasMember}
use Rattle.jhash_words.specs.Places.{scale}
use Rattle.reuseport_group.specs.Pick.{pick}
use Rattle.reuseport_group.specs.Choosing.{present, choice_of, Chose, IsOfPublished}
use Rattle.reuseport_group.specs.Passes.{known, newest, now}
use Rattle.reuseport_group.specs.Views.{looking, writing, storing, publishing}
use Rattle.reuseport_group.specs.declared.choice.Choice.{Choice}
use Rattle.reuseport_group.specs.Grouped.{Grouped}
use Rattle.reuseport_group.specs.Plays.{Sat, Known, Wrote, wrote, Looked, Kept, kept}
use Rattle.reuseport_group.specs.declared.view.Stored.{Stored}
use Rattle.reuseport_group.specs.declared.view.GroupView.{GroupView}
use Rattle.reuseport_group.specs.declared.pass.GroupPasses.{GroupPasses}
use Rattle.reuseport_group.proofs.Moments.{later_same, later_more, later_trans, laters_from, laters_more, occurs_more, settles, count_small, count-is, was_member, all_stored, counted_whole, published_later, list_here, list_stored, list_other}
use Rattle.reuseport_group.proofs.Steps.{writes, keeps_or_looks}

-- the store of word j of a list, as a call makes it
pub stores_word : (key n slots id : ℕ) (m : Sat) (g g' j : ℕ) (l l' : List ℕ) (word value : ℕ) → key ≡ n → g ≡ g' → l ≡ l' → word ≡ at g j → value ≡ word_of l j → g < n → j ≤ most → length l ≤ most → 0 < m.0.parts → (j ≡ 0 → HasMembers g l m.0.mine)
    → Allows (Grouped key) slots id m word (λ _. value) (λ _. wrote g' l' (step slots word value 0 none) m value)
stores_word key n slots id m g g' j l l' word value keyed same_g same_l is_word is_value near le few part last =
    let P : ℕ → ℕ → List ℕ → ℕ → ℕ → Type 0 = λ k h q w v. Allows (Grouped k) slots id m w (λ _. v) (λ _. wrote h q (step slots w v 0 none) m v) in
    subst (λ (k : ℕ). P k g' l' word value) (sym keyed) (subst (λ (h : ℕ). P n h l' word value) same_g (subst (λ (q : List ℕ). P n g q word value) same_l (subst (λ (w : ℕ). P n g l w value) (sym is_word) (subst (λ (v : ℕ). P n g l (at g j) v) (sym is_value) (writes n slots id m g j l near le few part last)))))

-- and what it shows
pub did : (slots : ℕ) (m m' : Sat) (g g' j : ℕ) (l l' : List ℕ) (word value : ℕ) → g ≡ g' → l ≡ l' → word ≡ at g j → j ≤ most → wrote g' l' (step slots word value 0 none) m value m' → Wrote g l j m m'
did slots m m' g g' j l l' word value same_g same_l is_word le told =
    subst (λ (h : ℕ). Wrote h l j m m') (sym same_g) (subst (λ (q : List ℕ). Wrote g' q j m m') (sym same_l) (told j le (is_word ∙ ap (λ (h : ℕ). at h j) same_g)))

-- a load of it, as a call makes it
pub keeps_word : (key n slots id : ℕ) (m : Sat) (g g' j : ℕ) (l l' : List ℕ) (word : ℕ) → key ≡ n → g ≡ g' → l ≡ l' → word ≡ at g j → g < n → j ≤ most → length l ≤ most → 0 < m.0.parts → (j ≡ 0 → HasMembers g l m.0.mine)
    → Allows (Grouped key) slots id m word (λ x. x) (kept g' l' (step slots word 0 0 none) m)
keeps_word key n slots id m g g' j l l' word keyed same_g same_l is_word near le few part last =
    let P : ℕ → ℕ → List ℕ → ℕ → Type 0 = λ k h q w. Allows (Grouped k) slots id m w (λ x. x) (kept h q (step slots w 0 0 none) m) in
    subst (λ (k : ℕ). P k g' l' word) (sym keyed) (subst (λ (h : ℕ). P n h l' word) same_g (subst (λ (q : List ℕ). P n g q word) same_l (subst (λ (w : ℕ). P n g l w) (sym is_word) (keeps_or_looks n slots id m g j l near le few part last))))

-- and what it shows
pub found : (slots : ℕ) (m m' : Sat) (g g' j : ℕ) (l l' : List ℕ) (word value : ℕ) → g ≡ g' → l ≡ l' → word ≡ at g j → j ≤ most → kept g' l' (step slots word 0 0 none) m value m' → Kept g l j m value m'
found slots m m' g g' j l l' word value same_g same_l is_word le told =
    subst (λ (h : ℕ). Kept h l j m value m') (sym same_g) (subst (λ (q : List ℕ). Kept g' q j m value m') (sym same_l) (told j le (is_word ∙ ap (λ (h : ℕ). at h j) same_g)))

-- of one store: what it leaves known
pub one_stored : (g j k : ℕ) (l : List ℕ) (m m' : Sat) → j ≡ k → Wrote g l j m m' → m'.0 ≡ storing m.0 m'.0.moments (record { group = g; at = k; members = l } ∷ [])
one_stored g j k l m m' same t =
    let e : Stored = record { group = g; at = j; members = l } in
    let is : m'.0 ≡ writing m.0 t.before e = ap (λ (x : Sat). x.0) t.is in
    let there : m'.0.moments ≡ (e ∷ t.before) ∷ [] = ap (λ (x : GroupView). x.moments) is in
    is ∙ (ap (λ (ms : List (List Stored)). storing m.0 ms (e ∷ [])) (sym there) ∙ ap (λ (p : ℕ). storing m.0 m'.0.moments (record { group = g; at = p; members = l } ∷ [])) same)

-- a load before it changes nothing of that
pub looked_stored : (g j k : ℕ) (l : List ℕ) (m n m' : Sat) → j ≡ k → Looked m n → Wrote g l j n m' → m'.0 ≡ storing m.0 m'.0.moments (record { group = g; at = k; members = l } ∷ [])
looked_stored g j k l m n m' same o t =
    let e : Stored = record { group = g; at = k; members = l } in
    one_stored g j k l n m' same t ∙ ap (λ (x : Sat). storing x.0 m'.0.moments (e ∷ [])) o.is

pub follows_look : (m n : Sat) → Looked m n → Follows n.0.moments m.0.moments
follows_look m n o h p =
    let q : Each (NotBefore h) (o.now ∷ []) = subst (λ (x : Sat). Each (NotBefore h) x.0.moments) o.is p in
    laters_from h o.now m.0.moments q.0 o.known.later

pub look_empty : (m n : Sat) → m.1 ≡ [] → Looked m n → n.1 ≡ []
look_empty m n empty o = ap (λ (x : Sat). x.1) o.is ∙ empty

pub look_parts : (m n : Sat) → 0 < m.0.parts → Looked m n → 0 < n.0.parts
look_parts m n part o = subst (λ (x : Sat). 0 < x.0.parts) (sym o.is) part

-- after the store of one member more
pub view_next : (i : ℕ) (v u u' : GroupView) (g : ℕ) (l : List ℕ) → u ≡ storing v u.moments (members_stored g l i) → u' ≡ storing u u'.moments (record { group = g; at = 1 + i; members = l } ∷ []) → u' ≡ storing v u'.moments (members_stored g l (i + 1))
view_next i v u u' g l before next =
    let first : 1 + i ≡ suc i = omega arith in
    let count : suc i ≡ i + 1 = omega arith in
    next
    ∙ (ap (λ (k : ℕ). storing u u'.moments (record { group = g; at = k; members = l } ∷ [])) first
    ∙ (ap (λ (x : GroupView). storing x u'.moments (record { group = g; at = suc i; members = l } ∷ [])) before
    ∙ ap (λ (k : ℕ). storing v u'.moments (members_stored g l k)) count))

-- after the store of one member more
pub view_more : (i : ℕ) (m m' : Sat) (v : GroupView) (g : ℕ) (l : List ℕ) → m.0 ≡ storing v m.0.moments (members_stored g l i) → Wrote g l (suc i) m m' → m'.0 ≡ storing v m'.0.moments (members_stored g l (i + 1))
view_more i m m' v g l before t =
    let e : Stored = record { group = g; at = suc i; members = l } in
    let is : m'.0 ≡ writing m.0 t.before e = ap (λ (x : Sat). x.0) t.is in
    let there : m'.0.moments ≡ (e ∷ t.before) ∷ [] = ap (λ (x : GroupView). x.moments) is in
    let next : suc i ≡ i + 1 = omega arith in
    is ∙ (ap (λ (x : GroupView). writing x t.before e) before ∙ (ap (λ (ms : List (List Stored)). storing v ms (e ∷ members_stored g l i)) (sym there) ∙ ap (λ (k : ℕ). storing v m'.0.moments (members_stored g l k)) next))

pub follows_more : (g j : ℕ) (l : List ℕ) (m m' : Sat) (those : List (List Stored)) → Follows m.0.moments those → Wrote g l j m m' → Follows m'.0.moments those
follows_more g j l m m' those before t =
    let e : Stored = record { group = g; at = j; members = l } in
    λ h p. let q : Each (NotBefore h) ((e ∷ t.before) ∷ []) = subst (λ (x : Sat). Each (NotBefore h) x.0.moments) t.is p in
    before h (laters_from h t.before m.0.moments (later_trans h (e ∷ t.before) t.before q.0 (later_more e t.before t.before (later_same t.before))) t.known.later)

pub hand_kept : (g j : ℕ) (l : List ℕ) (m m' : Sat) → m.1 ≡ [] → Wrote g l j m m' → m'.1 ≡ []
hand_kept g j l m m' empty t = ap (λ (x : Sat). x.1) t.is ∙ empty

-- the last store's moment is the last
pub last_later : (g j : ℕ) (l : List ℕ) (m m' : Sat) → Wrote g l j m m' → Each (NotBefore (newest m'.0.moments)) m.0.moments
last_later g j l m m' t =
    let e : Stored = record { group = g; at = j; members = l } in
    let is : newest m'.0.moments ≡ e ∷ t.before = ap (λ (x : Sat). newest x.0.moments) t.is in
    subst (λ (h : List Stored). Each (NotBefore h) m.0.moments) (sym is) (laters_more e t.before m.0.moments t.known.later)

-- and has all that the pass stored
pub last_own : (g j : ℕ) (l : List ℕ) (m m' : Sat) → Wrote g l j m m' → Each (λ (x : Stored). Occurs x (newest m'.0.moments)) m'.0.mine
last_own g j l m m' t =
    let e : Stored = record { group = g; at = j; members = l } in
    subst (λ (x : Sat). Each (λ (y : Stored). Occurs y (newest x.0.moments)) x.0.mine) (sym t.is) ((zero, refl), occurs_more e t.before m.0.mine t.known.own)

-- the list whose count was stored stands
pub last_list : (g : ℕ) (l : List ℕ) (m m' : Sat) → Wrote g l 0 m m' → list_at g (newest m'.0.moments) ≡ l
last_list g l m m' t =
    let e : Stored = record { group = g; at = 0; members = l } in
    ap (λ (x : Sat). list_at g (newest x.0.moments)) t.is ∙ list_here g e t.before refl refl

-- the members and then the count
pub published : (v w u : GroupView) (now : List Stored) (ms : List (List Stored)) (g : ℕ) (l : List ℕ) → w ≡ storing v ms (members_stored g l most) → u ≡ storing w (now ∷ []) (record { group = g; at = 0; members = l } ∷ []) → u ≡ publishing v now g l
unfolding stores
published v w u now ms g l first last = last ∙ ap (λ (x : GroupView). storing x (now ∷ []) (record { group = g; at = 0; members = l } ∷ [])) first

-- passes that were never split are settled again
pub settled : (v u : GroupView) (now : List Stored) (g : ℕ) (l : List ℕ) → u ≡ publishing v now g l → (v.sole ≡ true → Settled v.mine) → u.sole ≡ true → Settled u.mine
settled v u now g l is old t =
    subst (λ (x : GroupView). Settled x.mine) (sym is) (settles g l v.mine (old (sym (ap (λ (x : GroupView). x.sole) is) ∙ t)))

-- a count is small
pub counts : (v : GroupView) (g count : ℕ) (now : List Stored) → count ≡ latest g 0 now → Known v now → count ≤ most
counts v g count now is k = omega (arith, is, count_small g now k.short)

-- where passes were never split, a word is of the list that was published last
pub sole_word : (v : GroupView) (g j r : ℕ) (now : List Stored) → r ≡ latest g j now → Known v now → (v.sole ≡ true → Settled v.mine) → j ≤ most → v.sole ≡ true → r ≡ word_of (list_at g v.mine) j
sole_word v g j r now is k old le t = is ∙ (ap (latest g j) (k.sole t) ∙ old t g j le)

-- and after one word was loaded, so is the next
pub sole_next : (v u : GroupView) (g j r : ℕ) (before now : List Stored) → u ≡ looking v before → r ≡ latest g j now → Known u now → (v.sole ≡ true → Settled v.mine) → j ≤ most → v.sole ≡ true → r ≡ word_of (list_at g v.mine) j
sole_next v u g j r before now same is k old le t =
    let t' : u.sole ≡ true = ap (λ (x : GroupView). x.sole) same ∙ t in
    is ∙ (ap (latest g j) (k.sole t' ∙ ap (λ (x : GroupView). x.mine) same) ∙ old t g j le)

-- the word of the member at a place
pub member_word : (g i word : ℕ) → word ≡ at g (1 + i) → word ≡ at g (suc i)
member_word g i word e = omega (arith, e)

pub sole_member : (v u : GroupView) (g p r : ℕ) (before now : List Stored) → u ≡ looking v before → r ≡ latest g (1 + p) now → Known u now → (v.sole ≡ true → Settled v.mine) → p < most → v.sole ≡ true → r ≡ get_or (list_at g v.mine) p 0
sole_member v u g p r before now same is k old le t =
    let e : 1 + p ≡ suc p = omega arith in
    sole_next v u g (suc p) r before now same (is ∙ ap (λ (j : ℕ). latest g j now) e) k old (omega arith) t

-- a choice by the count and the member of a list is the list's
pub picks : (l : List ℕ) (hash count place member : ℕ) → count ≡ length l → count ≢ 0 → place ≡ scale hash count → member ≡ get_or l place 0 → Some (record { member = member; place = place; count = count }) ≡ pick l hash
picks [] hash count place member c some p m = absurd (some c)
picks (x ∷ xs) hash count place member c some p m =
    let place_is : place ≡ scale hash (length (x ∷ xs)) = p ∙ ap (scale hash) c in
    let member_is : member ≡ get_or (x ∷ xs) (scale hash (length (x ∷ xs))) 0 = m ∙ ap (λ (q : ℕ). get_or (x ∷ xs) q 0) place_is in
    λ k. Some (record { member = member_is k; place = place_is k; count = c k })

-- none, where the member is 0
pub absent : (l : List ℕ) (hash count place member : ℕ) → count ≡ length l → count ≢ 0 → place ≡ scale hash count → member ≡ get_or l place 0 → member ≡ 0 → None ≡ present (pick l hash)
absent l hash count place member c some p m gone =
    let x : Choice = record { member = member; place = place; count = count } in
    let e : present (Some x) ≡ None = ap (λ (b : Bool). cond b None (Some x)) (eq-eqb member 0 gone) in
    sym e ∙ ap present (picks l hash count place member c some p m)

pub there : (l : List ℕ) (hash count place member : ℕ) → count ≡ length l → count ≢ 0 → place ≡ scale hash count → member ≡ get_or l place 0 → member ≢ 0 → Some (record { member = member; place = place; count = count }) ≡ present (pick l hash)
there l hash count place member c some p m has =
    let x : Choice = record { member = member; place = place; count = count } in
    let e : present (Some x) ≡ Some x = ap (λ (b : Bool). cond b None (Some x)) (ne_eqb member 0 has) in
    sym e ∙ ap present (picks l hash count place member c some p m)

-- a member of a list without 0 isn't 0
pub positive : (l : List ℕ) (i : ℕ) → Each (λ (m : ℕ). 0 < m) l → i < length l → 0 < get_or l i 0
positive [] i p h = absurd (omega arith)
positive (x ∷ xs) zero p h = p.0
positive (x ∷ xs) (suc i) p h = positive xs i p.1 (omega arith)

-- the list of a group after a list was published
pub list_now : (v u : GroupView) (now : List Stored) (g : ℕ) (l : List ℕ) → u ≡ publishing v now g l → list_at g u.mine ≡ l
list_now v u now g l is = ap (λ (x : GroupView). list_at g x.mine) is ∙ list_stored g l v.mine

pub list_same : (v u : GroupView) (now : List Stored) (g : ℕ) (l : List ℕ) → u ≡ publishing v now g l → (h : ℕ) → h ≢ g → list_at h u.mine ≡ list_at h v.mine
list_same v u now g l is h ne = ap (λ (x : GroupView). list_at h x.mine) is ∙ list_other g h l v.mine (λ z. ne (sym z))

-- after the members were stored
pub stored_all : (v w : GroupView) (ms : List (List Stored)) (g : ℕ) (l : List ℕ) → w ≡ storing v ms (members_stored g l most) → HasMembers g l w.mine
stored_all v w ms g l is = subst (λ (x : GroupView). HasMembers g l x.mine) (sym is) (all_stored g l v.mine)

-- the answer of a count that isn't 0
answer : (count c place : ℕ) (f : ℕ → ℕ) (hash : ℕ) → count ≡ c → count ≢ 0 → place ≡ scale hash count → choice_of c f hash ≡ present (Some (record { member = f place; place = place; count = count }))
answer count c place f hash is ne at_place =
    let there : place ≡ scale hash c = at_place ∙ ap (scale hash) is in
    ap (λ (b : Bool). cond b None (present (Some (record { member = f (scale hash c); place = scale hash c; count = c })))) (ne_eqb c 0 (λ z. ne (is ∙ z))) ∙ (λ k. present (Some (record { member = f (sym there k); place = sym there k; count = sym is k })))

-- the moment of the second load isn't before that of the first
next_later : (p q r : GroupPasses) → known q ≡ looking (known p) (now q) → Known (known q) (now r) → NotBefore (now r) (now q)
next_later p q r same k = let t : Each (NotBefore (now r)) (now q ∷ []) = subst (λ (x : GroupView). Each (NotBefore (now r)) x.moments) same k.later in t.0

-- what the two loads say
pub chose : (p q r : GroupPasses) (g hash count place member : ℕ) (result : Option Choice) → known q ≡ looking (known p) (now q) → Known (known p) (now q) → Known (known q) (now r) → count ≡ count_at g (now q) → count ≢ 0 → place ≡ scale hash count → member ≡ member_at g place (now r)
    → result ≡ present (Some (record { member = member; place = place; count = count })) → Chose p r g hash result
chose p q r g hash count place member result same k k' c ne place_is m is =
    record {
      counted = now q;
      known = k.later;
      own = k.own;
      later = next_later p q r same k';
      complete = counted_whole g (now q) k.ordered;
      answer = is ∙ (ap (λ (x : ℕ). present (Some (record { member = x; place = place; count = count }))) m ∙ sym (answer count (count_at g (now q)) place (λ (k : ℕ). member_at g k (now r)) hash c ne place_is));
    }

-- and what one load of a count of 0 does
pub chose_none : (p q : GroupPasses) (g hash count : ℕ) → Known (known p) (now q) → count ≡ count_at g (now q) → count ≡ 0 → Chose p q g hash None
chose_none p q g hash count k c gone =
    record {
      counted = now q;
      known = k.later;
      own = k.own;
      later = later_same (now q);
      complete = counted_whole g (now q) k.ordered;
      answer = ap (λ (b : Bool). cond b None (present (Some (record { member = member_at g (scale hash (count_at g (now q))) (now q); place = scale hash (count_at g (now q)); count = count_at g (now q) })))) (sym (eq-eqb (count_at g (now q)) 0 (sym c ∙ gone)));
    }

-- what is chosen was published
pub of_published : (p q r : GroupPasses) (g count place member : ℕ) → known q ≡ looking (known p) (now q) → Known (known p) (now q) → Known (known q) (now r) → count ≡ count_at g (now q) → count ≢ 0 → member ≡ member_at g place (now r) → member ≢ 0
    → IsOfPublished g (now r) (record { member = member; place = place; count = count })
of_published p q r g count place member same k k' c some m has =
    record {
      list = list_at g (now q);
      published = published_later g (list_at g (now q)) (now r) (now q) (next_later p q r same k') (counted_whole g (now q) k.ordered (λ z. some (c ∙ z)));
      count = c ∙ count-is g (now q);
      member = subst (λ (x : ℕ). WasMember g place x (now r)) (sym m) (was_member g place (now r) (λ z. has (m ∙ z)));
    }

pub nothing : (count place member : ℕ) → member ≡ 0 → None ≡ present (Some (record { member = member; place = place; count = count }))
nothing count place member gone = let x : Choice = record { member = member; place = place; count = count } in sym (ap (λ (b : Bool). cond b None (Some x)) (eq-eqb member 0 gone))

pub something : (count place member : ℕ) → member ≢ 0 → Some (record { member = member; place = place; count = count }) ≡ present (Some (record { member = member; place = place; count = count }))
something count place member has = let x : Choice = record { member = member; place = place; count = count } in sym (ap (λ (b : Bool). cond b None (Some x)) (ne_eqb member 0 has))
