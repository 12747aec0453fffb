-- Moments, and what stands in a word at one.
use Rattle.std.proofs.Common.{◌≡◌, ◌≢◌, ℕ, zero, suc, ◌<◌, ◌≤◌, cond, eqb, ◌&&◌, Bool, true, false, List, [], ◌∷◌, ◌++◌, length, get_or, slice_index, slice_get, Some, ◌+◌, sym, refl, ap, ◌∙◌, arith, subst, eq-eqb, ne_eqb}
use mathlib.Core.Logic.{dite}
use native.Mathlib.Decide.{ℕ_discrete}
use mathlib.Core.Option.{some, some-injective, some-ne-none}
use lib.ListN.{get_elem?}
use Rattle.list_words.specs.Lists.{Each}
use Rattle.list_words.proofs.EachLemmas.{each_weaken}
use Rattle.reuseport_group.specs.Words.{most, word_of, latest, count_at, member_at, list_at, members_stored, stores, Settled, NotBefore, Occurs, Ordered, HasMembers, WasPublished, WasMember}
use Rattle.reuseport_group.specs.declared.view.Stored.{Stored}

append-assoc : (xs ys zs : List Stored) → (xs ++ ys) ++ zs ≡ xs ++ (ys ++ zs)
append-assoc [] ys zs = refl
append-assoc (x ∷ xs) ys zs = ap (λ (l : List Stored). x ∷ l) (append-assoc xs ys zs)

pub later_same : (h : List Stored) → NotBefore h h
later_same h = ([], refl)

pub later_more : (e : Stored) (h m : List Stored) → NotBefore h m → NotBefore (e ∷ h) m
later_more e h m t = (e ∷ t.0, ap (λ (l : List Stored). e ∷ l) t.1)

pub later_trans : (a b c : List Stored) → NotBefore a b → NotBefore b c → NotBefore a c
later_trans a b c t u = (t.0 ++ u.0, t.1 ∙ (ap (λ (l : List Stored). t.0 ++ l) u.1 ∙ sym (append-assoc t.0 u.0 c)))

pub laters_more : (e : Stored) (h : List Stored) (ms : List (List Stored)) → Each (NotBefore h) ms → Each (NotBefore (e ∷ h)) ms
laters_more e h ms p = each_weaken (NotBefore h) (NotBefore (e ∷ h)) ms (λ m q. later_more e h m q) p

pub laters_from : (a b : List Stored) (ms : List (List Stored)) → NotBefore a b → Each (NotBefore b) ms → Each (NotBefore a) ms
laters_from a b ms t p = each_weaken (NotBefore b) (NotBefore a) ms (λ m q. later_trans a b m t q) p

pub occurs_more : (e : Stored) (h es : List Stored) → Each (λ (x : Stored). Occurs x h) es → Each (λ (x : Stored). Occurs x (e ∷ h)) es
occurs_more e h es p = each_weaken (λ (x : Stored). Occurs x h) (λ (x : Stored). Occurs x (e ∷ h)) es (λ x q. (suc q.0, q.1)) p

-- a store of this word
both_yes : (a b c d : ℕ) → a ≡ b → c ≡ d → (eqb a b && eqb c d) ≡ true
both_yes a b c d p q = ap (λ (z : Bool). z && eqb c d) (eq-eqb a b p) ∙ eq-eqb c d q

-- and of another
both_no : (a b c d : ℕ) → (a ≡ b → c ≡ d → ⊥) → (eqb a b && eqb c d) ≡ false
both_no a b c d n = dite (ℕ_discrete a b)
    (λ p. ap (λ (z : Bool). z && eqb c d) (eq-eqb a b p) ∙ ne_eqb c d (n p))
    (λ p. ap (λ (z : Bool). z && eqb c d) (ne_eqb a b p))

pub latest_here : (g j : ℕ) (e : Stored) (es : List Stored) → e.group ≡ g → e.at ≡ j → latest g j (e ∷ es) ≡ word_of e.members j
latest_here g j e es p q = ap (λ (z : Bool). cond z (word_of e.members j) (latest g j es)) (both_yes e.group g e.at j p q)

pub latest_else : (g j : ℕ) (e : Stored) (es : List Stored) → (e.group ≡ g → e.at ≡ j → ⊥) → latest g j (e ∷ es) ≡ latest g j es
latest_else g j e es n = ap (λ (z : Bool). cond z (word_of e.members j) (latest g j es)) (both_no e.group g e.at j n)

pub list_here : (g : ℕ) (e : Stored) (es : List Stored) → e.group ≡ g → e.at ≡ 0 → list_at g (e ∷ es) ≡ e.members
list_here g e es p q = ap (λ (z : Bool). cond z e.members (list_at g es)) (both_yes e.group g e.at 0 p q)

list_else : (g : ℕ) (e : Stored) (es : List Stored) → (e.group ≡ g → e.at ≡ 0 → ⊥) → list_at g (e ∷ es) ≡ list_at g es
list_else g e es n = ap (λ (z : Bool). cond z e.members (list_at g es)) (both_no e.group g e.at 0 n)

-- a word that was stored among the members
members_here : (g : ℕ) (l : List ℕ) (n p : ℕ) (es : List Stored) → p < n → latest g (suc p) (members_stored g l n ++ es) ≡ get_or l p 0
members_here g l zero p es h = absurd (omega arith)
members_here g l (suc q) p es h = dite (ℕ_discrete q p)
    (λ z. latest_here g (suc p) record { group = g; at = suc q; members = l } (members_stored g l q ++ es) refl (ap suc z))
    (λ z. latest_else g (suc p) record { group = g; at = suc q; members = l } (members_stored g l q ++ es) (λ _ e. z (omega arith)) ∙ members_here g l q p es (omega arith))

-- another group's
members_else : (g h j : ℕ) (l : List ℕ) (n : ℕ) (es : List Stored) → g ≢ h → latest h j (members_stored g l n ++ es) ≡ latest h j es
members_else g h j l zero es ne = refl
members_else g h j l (suc q) es ne = latest_else h j record { group = g; at = suc q; members = l } (members_stored g l q ++ es) (λ e _. ne e) ∙ members_else g h j l q es ne

-- the stores of members change no count
members_list : (g h : ℕ) (l : List ℕ) (n : ℕ) (es : List Stored) → list_at h (members_stored g l n ++ es) ≡ list_at h es
members_list g h l zero es = refl
members_list g h l (suc q) es = list_else h record { group = g; at = suc q; members = l } (members_stored g l q ++ es) (λ _ e. absurd (omega arith)) ∙ members_list g h l q es

-- the word of a list that was stored whole
here : (g j : ℕ) (l : List ℕ) (n : ℕ) (es : List Stored) → j ≤ n → latest g j (record { group = g; at = 0; members = l } ∷ (members_stored g l n ++ es)) ≡ word_of l j
here g zero l n es h = latest_here g zero record { group = g; at = 0; members = l } (members_stored g l n ++ es) refl refl
here g (suc p) l n es h = latest_else g (suc p) record { group = g; at = 0; members = l } (members_stored g l n ++ es) (λ _ e. absurd (omega arith)) ∙ members_here g l n p es (omega arith)

-- its list is the last of its group
list_whole : (n g : ℕ) (l : List ℕ) (es : List Stored) → list_at g (record { group = g; at = 0; members = l } ∷ (members_stored g l n ++ es)) ≡ l
list_whole n g l es = list_here g record { group = g; at = 0; members = l } (members_stored g l n ++ es) refl refl

-- and other groups' lists stay
list_kept : (n g h : ℕ) (l : List ℕ) (es : List Stored) → g ≢ h → list_at h (record { group = g; at = 0; members = l } ∷ (members_stored g l n ++ es)) ≡ list_at h es
list_kept n g h l es z = list_else h record { group = g; at = 0; members = l } (members_stored g l n ++ es) (λ e _. z e) ∙ members_list g h l n es

pub list_stored : (g : ℕ) (l : List ℕ) (es : List Stored) → list_at g (stores g l ++ es) ≡ l
unfolding stores
list_stored g l es = list_whole most g l es

pub list_other : (g h : ℕ) (l : List ℕ) (es : List Stored) → g ≢ h → list_at h (stores g l ++ es) ≡ list_at h es
unfolding stores
list_other g h l es z = list_kept most g h l es z

-- after a list was stored whole, each word is still of one list
settle : (n : ℕ) (g : ℕ) (l : List ℕ) (es : List Stored) → n ≡ most → Settled es → Settled (record { group = g; at = 0; members = l } ∷ (members_stored g l n ++ es))
settle n g l es is o h j le = dite (ℕ_discrete g h)
    (λ z. subst (λ (k : ℕ). latest k j (record { group = g; at = 0; members = l } ∷ (members_stored g l n ++ es)) ≡ word_of (list_at k (record { group = g; at = 0; members = l } ∷ (members_stored g l n ++ es))) j) z
    (here g j l n es (omega arith) ∙ ap (λ (k : List ℕ). word_of k j) (sym (list_here g record { group = g; at = 0; members = l } (members_stored g l n ++ es) refl refl))))
    (λ z. latest_else h j record { group = g; at = 0; members = l } (members_stored g l n ++ es) (λ e _. z e) ∙ (members_else g h j l n es z ∙ (o h j le
    ∙ ap (λ (k : List ℕ). word_of k j) (sym (list_kept n g h l es z)))))

pub settles : (g : ℕ) (l : List ℕ) (es : List Stored) → Settled es → Settled (stores g l ++ es)
unfolding stores
settles g l es o = settle most g l es refl o

-- no word is above the most that a list may have, where its count was stored
pub count_small : (g : ℕ) (h : List Stored) → Each (λ (e : Stored). length e.members ≤ most) h → latest g 0 h ≤ most
count_small g [] p = omega arith
count_small g (e ∷ es) p = dite (ℕ_discrete e.group g)
    (λ z. dite (ℕ_discrete e.at 0)
    (λ y. omega (arith, latest_here g 0 e es z y, p.0))
    (λ y. omega (arith, latest_else g 0 e es (λ _ q. y q), count_small g es p.1)))
    (λ z. omega (arith, latest_else g 0 e es (λ q _. z q), count_small g es p.1))

-- what stood before stands in the list of a later moment
pub occurs_later : (e : Stored) (now before : List Stored) → NotBefore now before → Occurs e before → Occurs e now
occurs_later e now before t o = subst (λ (h : List Stored). Occurs e h) (sym t.1) (behind t.0 o.0 o.1)
  where
    behind : (more : List Stored) (k : ℕ) → get_elem? before k ≡ some e → Occurs e (more ++ before)
    behind [] k q = (k, q)
    behind (x ∷ xs) k q = let r = behind xs k q in (suc r.0, r.1)

-- a place of a list that isn't 0 has a member
is_there : (list : List ℕ) (place : ℕ) → slice_index list place ≢ 0 → slice_get list place ≡ Some (slice_index list place)
is_there [] place ne = absurd (ne refl)
is_there (x ∷ xs) zero ne = refl
is_there (x ∷ xs) (suc place) ne = is_there xs place ne

word_member : (list : List ℕ) (place : ℕ) → word_of list (1 + place) ≡ slice_index list place
word_member list place = let e : 1 + place ≡ suc place = omega arith in ap (word_of list) e

-- a store of another word came on top
under : (g p : ℕ) (e : Stored) (es : List Stored) → (member_at g p es ≢ 0 → WasMember g p (member_at g p es) es) → member_at g p (e ∷ es) ≢ 0 → member_at g p (e ∷ es) ≡ member_at g p es → WasMember g p (member_at g p (e ∷ es)) (e ∷ es)
under g p e es below ne same = let t = below (λ z. ne (same ∙ z)) in (t.0, (suc t.1.0, t.1.1), t.2 ∙ ap Some (sym same))

-- what stands at a place, if it isn't 0, was stored there as a list's member
pub was_member : (g p : ℕ) (h : List Stored) → member_at g p h ≢ 0 → WasMember g p (member_at g p h) h
was_member g p [] ne = absurd (ne refl)
was_member g p (e ∷ es) ne = dite (ℕ_discrete e.group g)
    (λ a. dite (ℕ_discrete e.at (1 + p))
    (λ b. let is : member_at g p (e ∷ es) ≡ slice_index e.members p = latest_here g (1 + p) e es a b ∙ word_member e.members p in
    (e.members, (zero, λ k. some record { group = a k; at = b k; members = e.members }), is_there e.members p (λ z. ne (is ∙ z)) ∙ ap Some (sym is)))
    (λ b. under g p e es (was_member g p es) ne (latest_else g (1 + p) e es (λ _ r. b r))))
    (λ a. under g p e es (was_member g p es) ne (latest_else g (1 + p) e es (λ r _. a r)))

-- what holds of each store holds of one that occurs
pub each_occurs : (P : Stored → Type 0) (es : List Stored) (k : ℕ) (e : Stored) → Each P es → get_elem? es k ≡ some e → P e
each_occurs P [] k e p q = absurd (some-ne-none e (sym q))
each_occurs P (x ∷ xs) zero e p q = subst P (some-injective x e q) p.0
each_occurs P (x ∷ xs) (suc k) e p q = each_occurs P xs k e p.1 q

pub all_more : (g : ℕ) (l : List ℕ) (e : Stored) (es : List Stored) → HasMembers g l es → HasMembers g l (e ∷ es)
all_more g l e es a p le = let t = a p le in (suc t.0, t.1)

-- the first n members occur among their stores
members_there : (g : ℕ) (l : List ℕ) (n p : ℕ) (es : List Stored) → p < n → Occurs record { group = g; at = suc p; members = l } (members_stored g l n ++ es)
members_there g l zero p es h = absurd (omega arith)
members_there g l (suc q) p es h = dite (ℕ_discrete q p)
    (λ z. (zero, λ k. some record { group = g; at = suc (z k); members = l }))
    (λ z. let t = members_there g l q p es (omega arith) in (suc t.0, t.1))

pub all_stored : (g : ℕ) (l : List ℕ) (es : List Stored) → HasMembers g l (members_stored g l most ++ es)
all_stored g l es p le = members_there g l most p es le

-- a count is its list's length
pub count-is : (g : ℕ) (h : List Stored) → count_at g h ≡ length (list_at g h)
count-is g [] = refl
count-is g (e ∷ es) = dite (ℕ_discrete e.group g)
    (λ p. dite (ℕ_discrete e.at 0)
    (λ q. latest_here g 0 e es p q ∙ ap length (sym (list_here g e es p q)))
    (λ q. latest_else g 0 e es (λ _ r. q r) ∙ (count-is g es ∙ ap length (sym (list_else g e es (λ _ r. q r))))))
    (λ p. latest_else g 0 e es (λ r _. p r) ∙ (count-is g es ∙ ap length (sym (list_else g e es (λ r _. p r)))))

-- the members and the count of a list
all_words : (g : ℕ) (l : List ℕ) (es : List Stored) → Occurs record { group = g; at = 0; members = l } es → HasMembers g l es → WasPublished g l es
all_words g l es count members zero le = count
all_words g l es count members (suc p) le = members p (omega arith)

pub published_more : (g : ℕ) (l : List ℕ) (e : Stored) (es : List Stored) → WasPublished g l es → WasPublished g l (e ∷ es)
published_more g l e es p j le = let t = p j le in (suc t.0, t.1)

pub published_later : (g : ℕ) (l : List ℕ) (now before : List Stored) → NotBefore now before → WasPublished g l before → WasPublished g l now
published_later g l now before t p j le = occurs_later record { group = g; at = j; members = l } now before t (p j le)

-- the list whose count was stored last is published by that store
published_here : (g : ℕ) (e : Stored) (es : List Stored) → e.group ≡ g → e.at ≡ 0 → HasMembers e.group e.members es → WasPublished g e.members (e ∷ es)
published_here g e es p q members = all_words g e.members (e ∷ es)
    (zero, λ k. some record { group = p k; at = q k; members = e.members })
    (all_more g e.members e es (subst (λ (k : ℕ). HasMembers k e.members es) p members))

-- and a list that was published before stays so
published_under : (g : ℕ) (e : Stored) (es : List Stored) → (count_at g es ≢ 0 → WasPublished g (list_at g es) es) → count_at g (e ∷ es) ≢ 0 → count_at g (e ∷ es) ≡ count_at g es → list_at g (e ∷ es) ≡ list_at g es
    → WasPublished g (list_at g (e ∷ es)) (e ∷ es)
published_under g e es below ne same list = subst (λ (l : List ℕ). WasPublished g l (e ∷ es)) (sym list) (published_more g (list_at g es) e es (below (λ z. ne (same ∙ z))))

-- a count that isn't 0 is that of a list that was published
pub counted_whole : (g : ℕ) (h : List Stored) → Ordered h → count_at g h ≢ 0 → WasPublished g (list_at g h) h
counted_whole g [] o ne = absurd (ne refl)
counted_whole g (e ∷ es) o ne = dite (ℕ_discrete e.group g)
    (λ p. dite (ℕ_discrete e.at 0)
    (λ q. subst (λ (l : List ℕ). WasPublished g l (e ∷ es)) (sym (list_here g e es p q)) (published_here g e es p q (o.0 q)))
    (λ q. published_under g e es (counted_whole g es o.1) ne (latest_else g 0 e es (λ _ r. q r)) (list_else g e es (λ _ r. q r))))
    (λ p. published_under g e es (counted_whole g es o.1) ne (latest_else g 0 e es (λ r _. p r)) (list_else g e es (λ r _. p r)))
