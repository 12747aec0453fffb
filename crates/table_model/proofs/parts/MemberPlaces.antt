-- Where members of groups stand, as other cards come and go.
use Rattle.std.proofs.Common.{◌≡◌, ◌≢◌, ℕ, zero, suc, ◌+◌, ◌*◌, ◌/◌, ◌%◌, ◌^◌, ◌<◌, ◌≤◌, ◌==◌, Bool, true, false, ◌&&◌, ◌||◌, not, cond, List, [], ◌∷◌, map, filter, find, length, get_or, set, Option, Some, None, refl, ap, sym, ◌∙◌, subst, arith}
use Rattle.std.specs.List.{list_any}
use Rattle.std.proofs.lemmas.Bool.{eq-eqb, ne_eqb, and_right}
use Rattle.std.proofs.lemmas.List.{length-map}
use Rattle.list_words.specs.Lists.{Each, total}
use Rattle.list_words.proofs.EachLemmas.{each_weaken, each_found, each_unless_any}
use Rattle.sock_card.specs.declared.card.Card.{Card}
use Rattle.sock_card.specs.declared.owner.State.{State}
use Rattle.sock_card.specs.declared.owner.State.TheVariants as states
use Rattle.sock_card.specs.Conflict.{is_time_wait, is_listening}
use Rattle.bind_buckets.specs.Journal.{Standing}
use Rattle.chain_book.specs.declared.shape.Shape.{Shape}
use Rattle.chain_book.specs.declared.outcome.Hashed.{Hashed}
use Rattle.chain_book.specs.Chains.{Chains, row_at, placed, unhashed}
use Rattle.flat_list.specs.declared.socket.Socket.{Socket}
use Rattle.flat_list.specs.Flat.{Flat}
use Rattle.flat_list.specs.Groups.{Group, has_member}
use Rattle.flat_list.specs.Sound.{IsInOneGroup}
use Rattle.table_model.specs.Tables.{Tables}
use Rattle.bind_buckets.specs.BindHash.{untouched}
use Rattle.table_model.specs.Means.{GroupsMean, stands_as, stands_in_some, names_in, members_of}
use Rattle.table_model.proofs.lists.Passing.{Weighs, ind, any_weighs, without_only}
use Rattle.table_model.proofs.lists.Rows.{weigh, weigh_set, within}
use Rattle.table_model.proofs.parts.Chains.{Holds, Weighing, alone_in}
use Rattle.table_model.proofs.parts.GroupPlaces.{count_none, at_number, members_in}
use Rattle.table_model.proofs.questions.Asked.{groups_in}

pub weighs_or : (b c : Bool) (n m : ℕ) → Weighs b n → Weighs c m → Weighs (b || c) (n + m)
weighs_or true c n m h k = (λ e. omega (arith, h.0 refl), λ e. absurd (cc))
weighs_or false c n m h k = (λ e. omega (arith, k.0 e), λ e. omega (arith, h.1 refl, k.1 e))

rows_weigh : {A : Type 0} (p : A → Bool) (rows : List (List A)) → Weighs (list_any (λ row. list_any p row) rows) (weigh (ind p) rows)
rows_weigh p [] = (λ e. absurd (cc), λ e. refl)
rows_weigh p (r ∷ rs) = weighs_or (list_any p r) (list_any (λ row. list_any p row) rs) (total (ind p) r) (weigh (ind p) rs) (any_weighs p r) (rows_weigh p rs)

some_if : (b c : Bool) (n m : ℕ) → Weighs b n → Weighs c m → n ≤ m → b ≡ true → c ≡ true
some_if b true n m h k l e = refl
some_if b false n m h k l e = absurd (omega (arith, h.0 e, k.1 refl))

-- a member stands as a card comes
pub some_placed : (c : Chains) (b slot : ℕ) (card : Card) (m : ℕ) → b < length c.rows → stands_in_some m c.rows ≡ true → stands_in_some m (placed c b slot card).rows ≡ true
some_placed c b slot card m inside st =
    let new : Hashed = record { slot = slot; card = card } in
    some_if _ _ _ _ (rows_weigh (stands_as m) c.rows) (rows_weigh (stands_as m) (set c.rows b (new ∷ row_at c b)))
    (omega (arith, weigh_set (ind (stands_as m)) c.rows b (new ∷ row_at c b) inside)) st

not_as : (m : ℕ) (x : Hashed) → x.card.name ≢ m % 2 ^ 64 → ind (stands_as m) x ≡ 0
not_as m x q = ap (λ (b : Bool). cond {A = ℕ} b 1 0) (and_right (x.slot == m / 2 ^ 64) (x.card.name == m % 2 ^ 64) (ne_eqb x.card.name (m % 2 ^ 64) q))

-- a member stands as the card of another goes
pub some_unhashed : (c : Chains) (shape : Shape) (seed : ℕ) (w : Weighing) → Holds c shape seed w → (b : ℕ) (q : Hashed → Bool) (x : Hashed) → find q (row_at c b) ≡ Some x → (m : ℕ)
    → x.card.name ≢ m % 2 ^ 64 → stands_in_some m c.rows ≡ true → stands_in_some m (unhashed c (record { bucket = b; slot = x.slot })).rows ≡ true
some_unhashed c shape seed w h b q x found m differs st =
    let left : List Hashed = filter (λ y. not (y.slot == x.slot)) (row_at c b) in
    some_if _ _ _ _ (rows_weigh (stands_as m) c.rows) (rows_weigh (stands_as m) (set c.rows b left))
    (omega (
      arith,
      weigh_set (ind (stands_as m)) c.rows b left (within q c.rows b x found),
      without_only (λ y. y.slot == x.slot) (ind (stands_as m)) x (row_at c b) (alone_in c shape seed w h b q x found),
      not_as m x differs,
    )) st

-- a fact of each member's word in the buckets
abbrev pub EachWord : (ℕ → Type 0) → List Standing → Type 0
EachWord P buckets = Each (λ (s : Standing). Each (λ members. Each (λ m. P m) members) s.held.groups) buckets

members_both : (P Q R : ℕ → Type 0) (ms : List ℕ) → ((m : ℕ) → P m → Q m → R m) → Each (λ m. P m) ms → Each (λ m. Q m) ms → Each (λ m. R m) ms
members_both P Q R [] h p q = tt
members_both P Q R (m ∷ ms) h p q = (h m p.0 q.0, members_both P Q R ms h p.1 q.1)

places_both : (P Q R : ℕ → Type 0) (places : List (List ℕ)) → ((m : ℕ) → P m → Q m → R m) → Each (λ members. Each (λ m. P m) members) places → Each (λ members. Each (λ m. Q m) members) places → Each (λ members. Each (λ m. R m) members) places
places_both P Q R [] h p q = tt
places_both P Q R (ms ∷ rest) h p q = (members_both P Q R ms h p.0 q.0, places_both P Q R rest h p.1 q.1)

-- of two facts of each word follows a third
pub words_both : (P Q R : ℕ → Type 0) (buckets : List Standing) → ((m : ℕ) → P m → Q m → R m) → EachWord P buckets → EachWord Q buckets → EachWord R buckets
words_both P Q R [] h p q = tt
words_both P Q R (s ∷ rest) h p q = (places_both P Q R s.held.groups h p.0 q.0, words_both P Q R rest h p.1 q.1)

-- of a fact of each word follows another
pub words_weaken : (P Q : ℕ → Type 0) (buckets : List Standing) → ((m : ℕ) → P m → Q m) → EachWord P buckets → EachWord Q buckets
words_weaken P Q buckets h p = words_both P P Q buckets (λ m x y. h m x) p p

each_at : {A : Type 0} (P : A → Type 0) (xs : List A) (d : A) → ((i : ℕ) → i < length xs → P (get_or xs i d)) → Each P xs
each_at P [] d h = tt
each_at P (x ∷ xs) d h = (h 0 (omega arith), each_at P xs d (λ i l. h (suc i) (omega arith)))

at_each : {A : Type 0} (P : A → Type 0) (xs : List A) (d : A) → Each P xs → (i : ℕ) → i < length xs → P (get_or xs i d)
at_each P [] d h i l = absurd (omega arith)
at_each P (x ∷ xs) d h zero l = h.0
at_each P (x ∷ xs) d h (suc i) l = at_each P xs d h.1 i (omega arith)

no_member_here : (k : ℕ) (members : List ℕ) → list_any (λ (m : ℕ). m == k) members ≡ false → Each (λ m. k ≢ m) members
no_member_here k members h =
    each_weaken (λ m. (m == k) ≡ false) (λ m. k ≢ m) members (λ m e same. absurd (let yes : (m == k) ≡ true = eq-eqb m k (sym same) in cc)) (each_unless_any (λ (m : ℕ). m == k) members h)

no_member_in : (k : ℕ) (o : Option Group) → ((g : Group) → o ≡ Some g → has_member k g ≡ false) → Each (λ m. k ≢ m) (members_in o)
no_member_in k None h = tt
no_member_in k (Some g) h = no_member_here k g.members (h g refl)

from_names : (k : ℕ) (ms : List ℕ) → Each (λ m. k ≢ m) (names_in ms) → Each (λ m. k ≢ m % 2 ^ 64) ms
from_names k [] h = tt
from_names k (m ∷ ms) h = (h.0, from_names k ms h.1)

-- a name that no group has isn't in any word in the buckets
pub words_differ : (t : Tables) (flat : Flat) (k : ℕ) → GroupsMean t flat → Each (λ (g : Group). has_member k g ≡ false) flat.groups → EachWord (λ m. k ≢ m % 2 ^ 64) t.buckets
words_differ t flat k gm none =
    each_at (λ (s : Standing). Each (λ members. Each (λ m. k ≢ m % 2 ^ 64) members) s.held.groups) t.buckets untouched
    (λ number l.
    let s : Standing = get_or t.buckets number untouched in
    let eight : length s.held.groups ≡ 8 = at_each (λ (s : Standing). length s.held.groups ≡ 8) t.buckets untouched gm.places number l in
    each_at (λ members. Each (λ m. k ≢ m % 2 ^ 64) members) s.held.groups []
    (λ place low.
    from_names k (get_or s.held.groups place [])
    (subst (Each (λ m. k ≢ m)) (sym (gm.members number place l (omega arith)))
    (no_member_in k (find (at_number (8 * number + place)) flat.groups) (λ g e. each_found (λ (g : Group). has_member k g ≡ false) (at_number (8 * number + place)) flat.groups g none e)))))

waits_alone : (st : State) (b : Bool) → is_time_wait st ≡ true → (is_listening st && b) ≡ false
waits_alone states.TimeWait b h = refl
waits_alone states.Unbound b h = refl
waits_alone states.Bound b h = refl
waits_alone states.Full b h = refl
waits_alone states.Request b h = refl
waits_alone states.Listening b h = absurd (cc)

-- no group has the name of a TIME_WAIT
pub wait_in_no_group : (flat : Flat) (s : Socket) → IsInOneGroup flat.groups s → is_time_wait s.owner.state ≡ true → Each (λ (g : Group). has_member s.owner.name g ≡ false) flat.groups
wait_in_no_group flat s one waits =
    count_none (has_member s.owner.name) flat.groups (one ∙ ap (λ (b : Bool). cond {A = ℕ} b 1 0) (waits_alone s.owner.state s.owner.reuseport waits))

groups_at : (xs ys : List Standing) (k : ℕ) → map groups_in xs ≡ map groups_in ys → groups_in (get_or xs k untouched) ≡ groups_in (get_or ys k untouched)
groups_at [] [] k h = refl
groups_at [] (y ∷ ys) k h = absurd (cc)
groups_at (x ∷ xs) [] k h = absurd (cc)
groups_at (x ∷ xs) (y ∷ ys) zero h = cc
groups_at (x ∷ xs) (y ∷ ys) (suc k) h = groups_at xs ys k (cc)

each_groups : (P : List (List ℕ) → Type 0) (xs ys : List Standing) → map groups_in xs ≡ map groups_in ys → Each (λ (s : Standing). P s.held.groups) ys → Each (λ (s : Standing). P s.held.groups) xs
each_groups P [] ys h p = tt
each_groups P (x ∷ xs) [] h p = absurd (cc)
each_groups P (x ∷ xs) (y ∷ ys) h p = (let same : y.held.groups ≡ x.held.groups = cc in subst P same p.0, each_groups P xs ys (cc) p.1)

-- the groups stay where the buckets hold the same groups, the list too, and each member stands
pub groups_kept : (t t' : Tables) (flat flat' : Flat) → GroupsMean t flat → map groups_in t'.buckets ≡ map groups_in t.buckets → flat'.groups ≡ flat.groups
    → EachWord (λ m. stands_in_some m t'.chains.rows ≡ true) t.buckets → GroupsMean t' flat'
groups_kept t t' flat flat' gm same groups st = record {
  members = λ number place l low.
      let count : length t'.buckets ≡ length t.buckets = sym (length-map t'.buckets groups_in) ∙ (ap length same ∙ length-map t.buckets groups_in) in
      ap (λ (g : List (List ℕ)). names_in (get_or g place [])) (groups_at t'.buckets t.buckets number same)
      ∙ (gm.members number place (omega arith) low ∙ ap (λ (g : List Group). members_of (8 * number + place) g) (sym groups));
  places = each_groups (λ g. length g ≡ 8) t'.buckets t.buckets same gm.places;
  stand = each_groups (λ g. Each (λ members. Each (λ m. stands_in_some m t'.chains.rows ≡ true) members) g) t'.buckets t.buckets same st;
}
