-- A dump lists each hashed socket of a sound list once, by ascending names.
use Rattle.std.proofs.Common.{◌≡◌, ◌≢◌, ℕ, ◌+◌, ◌<◌, ◌≤◌, ◌==◌, Bool, true, false, cond, List, [], ◌∷◌, Option, Some, None, refl, sym, ap, ◌∙◌, arith}
use Rattle.std.specs.List.{cons_option}
use Rattle.std.specs.Option.{option_map}
use Rattle.std.proofs.lemmas.Bool.{eq-eqb, ne_eqb, eqb-true}
use Rattle.std.proofs.lemmas.List.Recursion.{is_count_by}
use Rattle.list_words.specs.Lists.{Each, Pairs, SameItems, total}
use Rattle.list_words.proofs.EachLemmas.{each_weaken, each_both, some_same}
use Rattle.list_words.proofs.PairsLemmas.{pairs_filter_map}
use Rattle.sock_card.specs.declared.card.Card.{Card}
use Rattle.sock_card.specs.declared.card.Kind.{Kind}
use Rattle.sock_card.specs.declared.card.Kind.TheVariants as kinds
use Rattle.sock_card.specs.declared.owner.State.{State}
use Rattle.sock_card.specs.declared.owner.State.TheVariants as states
use Rattle.sock_card.specs.Words.{number_of}
use Rattle.socket_list.specs.Laws.{HavePlaces}
use Rattle.socket_list.specs.Order.{order_of, ascending}
use Rattle.socket_list.proofs.Same.{lists_all, lists_in_order}
use Rattle.flat_list.specs.declared.socket.Socket.{Socket}
use Rattle.flat_list.specs.Groups.{Group}
use Rattle.flat_list.specs.Look.{card_of, cards_of, extra_as}
use Rattle.flat_list.specs.Owned.{card_as}
use Rattle.flat_list.specs.Sockets.{kind_of, is_hashed}
use Rattle.flat_list.specs.Sound.{NamesDiffer}
use Rattle.rule_laws.specs.Dumps.{times_named, IsListedOnce, DumpsListEach}

-- one where the card has that name
abbrev weight : ℕ → Card → ℕ
weight name c = cond (c.name == name) 1 0

abbrev tally : ℕ → List Card → ℕ
tally name cards = total (weight name) cards

tally_by : (name : ℕ) (b : Bool) (n : ℕ) → cond {A = ℕ} b 1 0 + n ≡ cond b (1 + n) n
tally_by name true n = refl
tally_by name false n = omega arith

-- both ways of counting agree
counted : (name : ℕ) (cards : List Card) → tally name cards ≡ times_named name cards
counted name cards =
    is_count_by (tally name) (λ (c : Card). c.name == name) refl (λ c rest. tally_by name (c.name == name) (tally name rest)) cards

kind_below : (k : Kind) → (1 ≤ number_of k) × (number_of k ≤ 4)
kind_below kinds.Full = (omega arith, omega arith)
kind_below kinds.TimeWait = (omega arith, omega arith)
kind_below kinds.Listen = (omega arith, omega arith)
kind_below kinds.Request = (omega arith, omega arith)

-- The cards of sockets

module _ (groups : List Group) where
  -- what a socket adds to how often a name stands there
  abbrev adds : ℕ → Socket → ℕ
  adds name s = cond (is_hashed s.owner.state) (cond (s.owner.name == name) 1 0) 0

  tally_state : (name : ℕ) (s : Socket) (xs : List Card) (st : State)
      → tally name (cons_option (option_map (λ (k : Kind). card_as k s.owner (extra_as k groups s)) (kind_of st)) xs)
      ≡ cond (is_hashed st) (cond (s.owner.name == name) 1 0) 0 + tally name xs
  tally_state name s xs states.Listening = refl
  tally_state name s xs states.Full = refl
  tally_state name s xs states.TimeWait = refl
  tally_state name s xs states.Request = refl
  tally_state name s xs states.Unbound = omega arith
  tally_state name s xs states.Bound = omega arith

  tally_head : (name : ℕ) (s : Socket) (rest : List Socket)
      → tally name (cards_of groups (s ∷ rest)) ≡ adds name s + tally name (cards_of groups rest)
  tally_head name s rest = tally_state name s (cards_of groups rest) s.owner.state

  none_if : (b : Bool) (x : ℕ) → x ≡ 0 → cond {A = ℕ} b x 0 ≡ 0
  none_if true x e = e
  none_if false x e = refl

  adds_none : (name : ℕ) (s : Socket) → s.owner.name ≢ name → adds name s ≡ 0
  adds_none name s ne = none_if (is_hashed s.owner.state) _ (ap (λ (b : Bool). cond {A = ℕ} b 1 0) (ne_eqb s.owner.name name ne))

  adds_own : (s : Socket) → adds s.owner.name s ≡ cond (is_hashed s.owner.state) 1 0
  adds_own s = ap (λ (b : Bool). cond (is_hashed s.owner.state) (cond {A = ℕ} b 1 0) 0) (eq-eqb s.owner.name s.owner.name refl)

  -- none of them has that name
  absent : (name : ℕ) (sockets : List Socket) → Each (λ (s : Socket). s.owner.name ≢ name) sockets → tally name (cards_of groups sockets) ≡ 0
  absent name [] p = refl
  absent name (s ∷ rest) p = omega (arith, tally_head name s rest, adds_none name s p.0, absent name rest p.1)

  others : (s : Socket) (rest : List Socket) → Each (NamesDiffer s) rest → Each (λ (t : Socket). t.owner.name ≢ s.owner.name) rest
  others s rest p = each_weaken (NamesDiffer s) (λ (t : Socket). t.owner.name ≢ s.owner.name) rest (λ t ne e. ne (sym e)) p

  -- each socket that has a card stands there once
  once : (sockets : List Socket) → Pairs NamesDiffer sockets
      → Each (λ (s : Socket). tally s.owner.name (cards_of groups sockets) ≡ cond (is_hashed s.owner.state) 1 0) sockets
  once [] p = tt
  once (s ∷ rest) p = (
    omega (arith, tally_head s.owner.name s rest, adds_own s, absent s.owner.name rest (others s rest p.0)),
    each_weaken
        (λ (t : Socket). NamesDiffer s t × (tally t.owner.name (cards_of groups rest) ≡ cond (is_hashed t.owner.state) 1 0))
        (λ (t : Socket). tally t.owner.name (cards_of groups (s ∷ rest)) ≡ cond (is_hashed t.owner.state) 1 0) rest
        (λ t q. omega (arith, tally_head t.owner.name s rest, adds_none t.owner.name s q.0, q.1))
        (each_both (NamesDiffer s) (λ (t : Socket). tally t.owner.name (cards_of groups rest) ≡ cond (is_hashed t.owner.state) 1 0) rest p.0 (once rest p.1)),
  )

  few_by : (name : ℕ) (s : Socket) (rest : List Socket) (b : Bool) → (s.owner.name == name) ≡ b → Each (NamesDiffer s) rest
      → tally name (cards_of groups rest) ≤ 1 → tally name (cards_of groups (s ∷ rest)) ≤ 1
  few_by name s rest true e p h =
      let is : s.owner.name ≡ name = eqb-true s.owner.name name e in
      let none : tally name (cards_of groups rest) ≡ 0 = absent name rest (each_weaken (NamesDiffer s) (λ (t : Socket). t.owner.name ≢ name) rest (λ t ne same. ne (is ∙ sym same)) p) in
      omega (arith, tally_head name s rest, most (is_hashed s.owner.state) (s.owner.name == name), none) where
        most : (b c : Bool) → cond {A = ℕ} b (cond {A = ℕ} c 1 0) 0 ≤ 1
        most true true = omega arith
        most true false = omega arith
        most false c = omega arith
  few_by name s rest false e p h =
      let none : adds name s ≡ 0 = none_if (is_hashed s.owner.state) _ (ap (λ (b : Bool). cond {A = ℕ} b 1 0) e) in
      omega (arith, tally_head name s rest, none, h)

  -- no name stands there twice
  few : (name : ℕ) (sockets : List Socket) → Pairs NamesDiffer sockets → tally name (cards_of groups sockets) ≤ 1
  few name [] p = omega arith
  few name (s ∷ rest) p = few_by name s rest (s.owner.name == name) refl p.0 (few name rest p.1)

  name_at : (s : Socket) (c : Card) (o : Option Kind) → option_map (λ (k : Kind). card_as k s.owner (extra_as k groups s)) o ≡ Some c → s.owner.name ≡ c.name
  name_at s c None h = absurd (cc)
  name_at s c (Some k) h = ap (λ (d : Card). d.name) (some_same (card_as k s.owner (extra_as k groups s)) c h)

  apart : (s t : Socket) (a b : Card) → card_of groups s ≡ Some a → card_of groups t ≡ Some b → NamesDiffer s t → order_of a ≢ order_of b
  apart s t a b e f ne same =
      let names : a.name ≡ b.name = omega (arith, same, (kind_below a.kind).0, (kind_below a.kind).1, (kind_below b.kind).0, (kind_below b.kind).1) in
      ne (name_at s a (kind_of s.owner.state) e ∙ names ∙ sym (name_at t b (kind_of t.owner.state) f))

  have_places : (sockets : List Socket) → Pairs NamesDiffer sockets → HavePlaces (cards_of groups sockets)
  have_places sockets p = pairs_filter_map NamesDiffer (λ c d. order_of c ≢ order_of d) (card_of groups) sockets apart p

-- Names that ascend

later : (c d : Card) → order_of c < order_of d → d.name ≢ c.name → c.name < d.name
later c d h ne = omega (arith, h, ne, (kind_below c.kind).0, (kind_below c.kind).1, (kind_below d.kind).0, (kind_below d.kind).1)

not_named : (name : ℕ) (d : Card) → weight name d ≡ 0 → d.name ≢ name
not_named name d h e = let one : weight name d ≡ 1 = ap (λ (b : Bool). cond {A = ℕ} b 1 0) (eq-eqb d.name name e) in absurd (omega (arith, h, one))

above : (c : Card) (xs : List Card) → Each (λ d. order_of c < order_of d) xs → tally c.name xs ≡ 0 → Each (λ (d : Card). c.name < d.name) xs
above c [] p h = tt
above c (d ∷ rest) p h =
    let mine : weight c.name d ≡ 0 = omega (arith, h) in
    let more : tally c.name rest ≡ 0 = omega (arith, h) in
    (later c d p.0 (not_named c.name d mine), above c rest p.1 more)

ascend : (xs : List Card) → Pairs (λ c d. order_of c < order_of d) xs → ((name : ℕ) → tally name xs ≤ 1) → Pairs (λ (c d : Card). c.name < d.name) xs
ascend [] p h = tt
ascend (c ∷ rest) p h =
    let one : weight c.name c ≡ 1 = ap (λ (b : Bool). cond {A = ℕ} b 1 0) (eq-eqb c.name c.name refl) in
    let none : tally c.name rest ≡ 0 = omega (arith, one, h c.name) in
    (above c rest p.0 none, ascend rest p.1 (λ name. omega (arith, h name)))

pub dumps_list_each : DumpsListEach
dumps_list_each flat sound =
    let cards : List Card = cards_of flat.groups flat.sockets in
    let same : SameItems cards (ascending cards) = lists_all cards in
    record {
      cards = same;
      once =
          each_weaken
          (λ (s : Socket). tally s.owner.name cards ≡ cond (is_hashed s.owner.state) 1 0)
          (IsListedOnce (ascending cards)) flat.sockets
          (λ s e. sym (counted s.owner.name (ascending cards)) ∙ sym (same (weight s.owner.name)) ∙ e)
          (once flat.groups flat.sockets sound.names);
      names =
          ascend (ascending cards) (lists_in_order cards (have_places flat.groups flat.sockets sound.names))
          (λ name. let e : tally name cards ≡ tally name (ascending cards) = same (weight name) in omega (arith, e, few flat.groups name flat.sockets sound.names));
    }
