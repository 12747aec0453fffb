-- Who keeps a four-tuple, and which TIME_WAIT is replaced: by a chain as by the list.
use Rattle.std.proofs.Common.{◌≡◌, ℕ, ◌==◌, Bool, true, false, ◌&&◌, ◌||◌, not, cond, List, [], ◌∷◌, find, refl, sym, ◌∙◌}
use Rattle.std.specs.Prelude.{nat_lt, is_some, if◌then◌else◌}
use Rattle.std.specs.List.{list_any}
use Rattle.std.proofs.lemmas.Bool.{eq-eqb, and_parts}
use Rattle.list_words.specs.Lists.{total}
use Rattle.sock_card.specs.declared.card.Card.{Card}
use Rattle.sock_card.specs.declared.card.Kind.{Kind}
use Rattle.sock_card.specs.declared.card.Kind.TheVariants as kinds
use Rattle.sock_card.specs.declared.owner.Owner.{Owner}
use Rattle.sock_card.specs.declared.owner.State.{State}
use Rattle.sock_card.specs.declared.owner.State.TheVariants as states
use Rattle.sock_card.specs.Conflict.{is_time_wait}
use Rattle.sock_card.specs.TimeWait.{is_time_wait_kind}
use Rattle.chain_book.specs.declared.shape.Shape.{Shape}
use Rattle.chain_book.specs.declared.outcome.Hashed.{Hashed}
use Rattle.chain_book.specs.declared.outcome.Replace.{Replace}
use Rattle.chain_book.specs.declared.outcome.Replace.TheVariants as rules
use Rattle.chain_book.specs.Chains.{Chains, row_at, home_in, keeps, waits}
use Rattle.chain_book.specs.Homes.{home, home_as, tuple_home}
use Rattle.sock_card.specs.Tuples.{tuple_of}
use Rattle.sock_card.proofs.Tuples.{parts_agree}
use Rattle.chain_book.specs.Tuples.{keeps_from, may_replace, waits_at as card_waits_at, same_cards, claims_tuple as claims_tuple_kind}
use Rattle.flat_list.specs.declared.socket.Socket.{Socket}
use Rattle.flat_list.specs.Flat.{Flat}
use Rattle.flat_list.specs.Look.{cards_of, extra_as}
use Rattle.flat_list.specs.Owned.{card_as}
use Rattle.sock_card.specs.TimeWait.{gives_way}
use Rattle.flat_list.specs.Sockets.{kind_of, claims_tuple, have_one_tuple, has_twin, waits_at, is_taken}
use Rattle.table_model.specs.Means.{ChainsMean}
use Rattle.table_model.proofs.lists.Passing.{same_answer, only, ind, any_weighs, found_weighs, total_same}
use Rattle.table_model.proofs.parts.Chains.{holds, weighing, row_weigh}
use Rattle.table_model.proofs.parts.Cards.{weigh_as, card_weight, cards_weigh}
use Rattle.table_model.proofs.parts.Claims.{claim_kind, claim_card}

abbrev is_tuple_kind : Kind → Bool
is_tuple_kind kind = claims_tuple_kind kind || is_time_wait_kind kind

-- the home of a card that doesn't listen is its four-tuple's
of_tuple : (shape : Shape) (seed : ℕ) (a : Card) (kind : Kind) → is_tuple_kind kind ≡ true → home_as kind shape seed a ≡ tuple_home shape seed a.local a.lport a.remote a.rport a.net
of_tuple shape seed a kinds.Full h = refl
of_tuple shape seed a kinds.TimeWait h = refl
of_tuple shape seed a kinds.Request h = refl
of_tuple shape seed a kinds.Listen h = absurd (cc)

home_kinds : (shape : Shape) (seed : ℕ) (a b : Card) (j k : Kind) → is_tuple_kind j ≡ true → is_tuple_kind k ≡ true
    → a.local ≡ b.local → a.lport ≡ b.lport → a.remote ≡ b.remote → a.rport ≡ b.rport → a.net ≡ b.net → home_as j shape seed a ≡ home_as k shape seed b
home_kinds shape seed a b j k x y p q r s o = of_tuple shape seed a j x ∙ (rw (p, q, r, s, o) refl ∙ sym (of_tuple shape seed b k y))

-- cards of one four-tuple have one home, unless one listens
same_home : (shape : Shape) (seed : ℕ) (a b : Card) → is_tuple_kind a.kind ≡ true → is_tuple_kind b.kind ≡ true → same_cards a b ≡ true → home shape seed b ≡ home shape seed a
unfolding home
same_home shape seed a b x y h =
    let parts = parts_agree (tuple_of a) (tuple_of b) h in
    sym (home_kinds shape seed a b a.kind b.kind x y parts.local parts.lport parts.remote parts.rport parts.net)

keeps_kind : (kind : Kind) (replaced : Bool) → (claims_tuple_kind kind || is_time_wait_kind kind && not replaced) ≡ true → is_tuple_kind kind ≡ true
keeps_kind kinds.Full replaced h = refl
keeps_kind kinds.Request replaced h = refl
keeps_kind kinds.TimeWait replaced h = refl
keeps_kind kinds.Listen replaced h = absurd (cc)

waits_kind : (kind : Kind) → is_time_wait_kind kind ≡ true → is_tuple_kind kind ≡ true
waits_kind kinds.TimeWait h = refl
waits_kind kinds.Full h = refl
waits_kind kinds.Request h = refl
waits_kind kinds.Listen h = absurd (cc)

home_if : (b c : Bool) (n : ℕ) → (b ≡ true → c ≡ true) → cond {A = ℕ} c (cond {A = ℕ} b n 0) 0 ≡ cond {A = ℕ} b n 0
home_if true c n h = rw (h refl) refl
home_if false true n h = refl
home_if false false n h = refl

-- where those that pass have one home, its row weighs by them as the list
pub tested_weigh : (c : Chains) (flat : Flat) (card : Card) (q : Card → Bool) (f : Card → ℕ) → ChainsMean c flat
    → ((old : Card) → q old ≡ true → home_in c old ≡ home_in c card)
    → total (λ (x : Hashed). only q f x.card) (row_at c (home_in c card)) ≡ total (card_weight flat.groups (only q f)) flat.sockets
tested_weigh c flat card q f m at_home =
    row_weigh c flat.header.shape flat.header.seed (weighing flat) (holds c flat m) (only q f) (home_in c card)
    ∙ (total_same (only (λ old. home_in c old == home_in c card) (only q f)) (only q f) (cards_of flat.groups flat.sockets)
    (λ old. home_if (q old) (home_in c old == home_in c card) (f old) (λ e. eq-eqb (home_in c old) (home_in c card) (at_home old e)))
    ∙ cards_weigh flat.groups (only q f) flat.sockets)

claim_tuple : (st : State) → is_tuple_kind (claim_kind st) ≡ true
claim_tuple states.Request = refl
claim_tuple _ = refl

-- those that keep the four-tuple from a card are at its home
keepers_home : (c : Chains) (a : Owner) (moment : ℕ) (rule : Replace) (old : Card) → keeps_from (claim_card a) moment rule old ≡ true → home_in c old ≡ home_in c (claim_card a)
keepers_home c a moment rule old h =
    let p = and_parts (same_cards (claim_card a) old) (claims_tuple_kind old.kind || is_time_wait_kind old.kind && not (may_replace rule moment old)) h in
    same_home c.shape c.seed (claim_card a) old (claim_tuple a.state) (keeps_kind old.kind (may_replace rule moment old) p.1) p.0

waiting_home : (c : Chains) (a : Owner) (old : Card) → card_waits_at (claim_card a) old ≡ true → home_in c old ≡ home_in c (claim_card a)
waiting_home c a old h =
    let p = and_parts (same_cards (claim_card a) old) (is_time_wait_kind old.kind) h in
    same_home c.shape c.seed (claim_card a) old (claim_tuple a.state) (waits_kind old.kind p.1) p.0

none_of : (t : Bool) → cond {A = ℕ} (t && false) 1 0 ≡ 0
none_of true = refl
none_of false = refl

full_of : (t : Bool) → cond {A = ℕ} (t && true) 1 0 ≡ cond {A = ℕ} (t || false) 1 0
full_of true = refl
full_of false = refl

all_of : (t : Bool) → cond {A = ℕ} (t && true) 1 0 ≡ cond {A = ℕ} t 1 0
all_of true = refl
all_of false = refl

-- `connect` may replace a TIME_WAIT by that rule
abbrev pub rule_of : Bool → Replace
rule_of switch = if switch then rules.After else rules.Never

-- a socket of the list keeps the four-tuple from `connect`
abbrev keeps_as : Bool → ℕ → Owner → Socket → Bool
keeps_as switch moment a s = (claims_tuple s.owner.state && have_one_tuple a s.owner) || (waits_at a s && not (gives_way switch moment s.stamp))

keeps_at : (switch : Bool) (moment : ℕ) (a o : Owner) (st : State) (extra : Kind → ℕ)
    → weigh_as (ind (keeps_from (claim_card a) moment (rule_of switch))) (kind_of st) o extra
    ≡ cond ((claims_tuple st && have_one_tuple a o) || (is_time_wait st && have_one_tuple a o && not (switch && nat_lt (extra kinds.TimeWait) moment))) 1 0
keeps_at switch moment a o states.Unbound extra = refl
keeps_at switch moment a o states.Bound extra = refl
keeps_at switch moment a o states.Listening extra = none_of (have_one_tuple a o)
keeps_at switch moment a o states.Full extra = full_of (have_one_tuple a o)
keeps_at switch moment a o states.Request extra = full_of (have_one_tuple a o)
keeps_at true moment a o states.TimeWait extra = refl
keeps_at false moment a o states.TimeWait extra = refl

twin_at : (moment : ℕ) (a o : Owner) (st : State) (extra : Kind → ℕ)
    → weigh_as (ind (keeps_from (claim_card a) moment rules.Always)) (kind_of st) o extra ≡ cond (claims_tuple st && have_one_tuple a o) 1 0
twin_at moment a o states.Unbound extra = refl
twin_at moment a o states.Bound extra = refl
twin_at moment a o states.Listening extra = none_of (have_one_tuple a o)
twin_at moment a o states.Full extra = all_of (have_one_tuple a o)
twin_at moment a o states.Request extra = all_of (have_one_tuple a o)
twin_at moment a o states.TimeWait extra = none_of (have_one_tuple a o)

none_weighs : (t : Bool) (n : ℕ) → cond {A = ℕ} (t && false) n 0 ≡ 0
none_weighs true n = refl
none_weighs false n = refl

all_weigh : (t : Bool) (n : ℕ) → cond {A = ℕ} (t && true) n 0 ≡ cond {A = ℕ} t n 0
all_weigh true n = refl
all_weigh false n = refl

waits_weigh : (f : Card → ℕ) (a o : Owner) (st : State) (extra : Kind → ℕ)
    → weigh_as (only (card_waits_at (claim_card a)) f) (kind_of st) o extra ≡ cond (is_time_wait st && have_one_tuple a o) (weigh_as f (kind_of st) o extra) 0
waits_weigh f a o states.Unbound extra = refl
waits_weigh f a o states.Bound extra = refl
waits_weigh f a o states.Listening extra = none_weighs (have_one_tuple a o) (f (card_as kinds.Listen o (extra kinds.Listen)))
waits_weigh f a o states.Full extra = none_weighs (have_one_tuple a o) (f (card_as kinds.Full o (extra kinds.Full)))
waits_weigh f a o states.Request extra = none_weighs (have_one_tuple a o) (f (card_as kinds.Request o (extra kinds.Request)))
waits_weigh f a o states.TimeWait extra = all_weigh (have_one_tuple a o) (f (card_as kinds.TimeWait o (extra kinds.TimeWait)))

or_both : (p q ps qs both : Bool) → both ≡ (ps || qs) → ((p || q) || both) ≡ ((p || ps) || (q || qs))
or_both true q ps qs both h = refl
or_both false true true qs both h = refl
or_both false true false qs both h = refl
or_both false false ps qs both h = h

any_or : {A : Type 0} (p q : A → Bool) (xs : List A) → list_any (λ x. p x || q x) xs ≡ (list_any p xs || list_any q xs)
any_or p q [] = refl
any_or p q (x ∷ xs) = or_both (p x) (q x) (list_any p xs) (list_any q xs) (list_any (λ y. p y || q y) xs) (any_or p q xs)

-- `connect` is refused the four-tuple by the chain as by the list
pub taken_same : (c : Chains) (flat : Flat) (switch : Bool) (moment : ℕ) (a : Owner) → ChainsMean c flat
    → is_some (find (keeps (claim_card a) moment (rule_of switch)) (row_at c (home_in c (claim_card a)))) ≡ is_taken switch moment a flat.sockets
taken_same c flat switch moment a m =
    let q : Card → Bool = keeps_from (claim_card a) moment (rule_of switch) in
    let row : List Hashed = row_at c (home_in c (claim_card a)) in
    same_answer (is_some (find (keeps (claim_card a) moment (rule_of switch)) row)) (list_any (keeps_as switch moment a) flat.sockets) (total (ind (keeps (claim_card a) moment (rule_of switch))) row) (total (ind (keeps_as switch moment a)) flat.sockets)
    (found_weighs (keeps (claim_card a) moment (rule_of switch)) row) (any_weighs (keeps_as switch moment a) flat.sockets)
    (tested_weigh c flat (claim_card a) q (λ (x : Card). 1) m (keepers_home c a moment (rule_of switch))
    ∙ total_same (card_weight flat.groups (ind q)) (ind (keeps_as switch moment a)) flat.sockets (λ s. keeps_at switch moment a s.owner s.owner.state (λ kind. extra_as kind flat.groups s)))
    ∙ any_or (λ (s : Socket). claims_tuple s.owner.state && have_one_tuple a s.owner) (λ (s : Socket). waits_at a s && not (gives_way switch moment s.stamp)) flat.sockets

-- and so is `accept`
pub twin_same : (c : Chains) (flat : Flat) (moment : ℕ) (a : Owner) → ChainsMean c flat
    → is_some (find (keeps (claim_card a) moment rules.Always) (row_at c (home_in c (claim_card a)))) ≡ has_twin a flat.sockets
twin_same c flat moment a m =
    let q : Card → Bool = keeps_from (claim_card a) moment rules.Always in
    let p : Socket → Bool = λ s. claims_tuple s.owner.state && have_one_tuple a s.owner in
    let row : List Hashed = row_at c (home_in c (claim_card a)) in
    same_answer (is_some (find (keeps (claim_card a) moment rules.Always) row)) (list_any p flat.sockets) (total (ind (keeps (claim_card a) moment rules.Always)) row) (total (ind p) flat.sockets)
    (found_weighs (keeps (claim_card a) moment rules.Always) row) (any_weighs p flat.sockets)
    (tested_weigh c flat (claim_card a) q (λ (x : Card). 1) m (keepers_home c a moment rules.Always)
    ∙ total_same (card_weight flat.groups (ind q)) (ind p) flat.sockets (λ s. twin_at moment a s.owner s.owner.state (λ kind. extra_as kind flat.groups s)))

-- those of the four-tuple that wait weigh in the chain as in the list
pub waiting_weigh : (c : Chains) (flat : Flat) (a : Owner) (f : Card → ℕ) → ChainsMean c flat
    → total (only (waits (claim_card a)) (λ (x : Hashed). f x.card)) (row_at c (home_in c (claim_card a))) ≡ total (only (waits_at a) (card_weight flat.groups f)) flat.sockets
waiting_weigh c flat a f m =
    tested_weigh c flat (claim_card a) (card_waits_at (claim_card a)) f m (waiting_home c a)
    ∙ total_same (card_weight flat.groups (only (card_waits_at (claim_card a)) f)) (only (waits_at a) (card_weight flat.groups f)) flat.sockets (λ s. waits_weigh f a s.owner s.owner.state (λ kind. extra_as kind flat.groups s))

one_waits : (st : State) (t : Bool) (o : Owner) (extra : Kind → ℕ) → cond {A = ℕ} (is_time_wait st && t) (weigh_as (λ (x : Card). 1) (kind_of st) o extra) 0 ≡ cond {A = ℕ} (is_time_wait st && t) 1 0
one_waits states.Unbound t o extra = refl
one_waits states.Bound t o extra = refl
one_waits states.Listening t o extra = refl
one_waits states.Full t o extra = refl
one_waits states.Request t o extra = refl
one_waits states.TimeWait t o extra = refl

-- that many wait in the list as in the chain
pub waiting_count : (c : Chains) (flat : Flat) (a : Owner) → ChainsMean c flat → total (ind (waits (claim_card a))) (row_at c (home_in c (claim_card a))) ≡ total (ind (waits_at a)) flat.sockets
waiting_count c flat a m =
    waiting_weigh c flat a (λ (x : Card). 1) m
    ∙ total_same (only (waits_at a) (card_weight flat.groups (λ (x : Card). 1))) (ind (waits_at a)) flat.sockets (λ s. one_waits s.owner.state (have_one_tuple a s.owner) s.owner (λ kind. extra_as kind flat.groups s))
