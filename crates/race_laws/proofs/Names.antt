-- In a lawful race a name is hashed once for each kind, and so each dump lists it once.
use Rattle.std.proofs.Common.{◌≡◌, ◌≢◌, ℕ, ◌+◌, ◌*◌, ◌<◌, ◌≤◌, List, [], ◌∷◌, map, Some, refl, sym, ap, ◌∙◌, subst, arith, inl, inr}
use Rattle.std.specs.List.{flat_map}
use Rattle.list_words.specs.Lists.{Each, Pairs, total}
use Rattle.list_words.proofs.AscendingLemmas.{each_ascending}
use Rattle.list_words.proofs.EachLemmas.{each_weaken, each_map, each_append}
use Rattle.list_words.proofs.PairsLemmas.{pairs_weaken, pairs_both, pairs_of_each, pairs_map}
use Rattle.sock_card.specs.declared.card.Card.{Card}
use Rattle.sock_card.specs.declared.card.Kind.{Kind}
use Rattle.sock_card.specs.declared.card.Kind.TheVariants as kinds
use Rattle.sock_card.specs.Words.{number_of}
use Rattle.sock_card.proofs.SameKinds.{kind_by}
use Rattle.socket_list.specs.Laws.{HavePlaces}
use Rattle.socket_list.specs.Listing.{Listing}
use Rattle.socket_list.specs.Order.{order_of, ascending}
use Rattle.socket_list.specs.declared.listing.Span.{Span}
use Rattle.socket_list.proofs.Same.{lists_as_one, lists_in_order}
use Rattle.capture_reader.specs.Captures.{Capture}
use Rattle.chain_book.specs.declared.book.Change.{Change}
use Rattle.flat_list.specs.declared.command.Command.{Command}
use Rattle.flat_list.specs.declared.command.Command.TheVariants as commands
use Rattle.flat_list.specs.Script.{Script, IsSmall}
use Rattle.race_book.specs.Among.{Among}
use Rattle.race_book.specs.Lives.{IsLife, Stood}
use Rattle.race_record.specs.Record.{Race, Step, all_deeds, steps_of, listings_of}
use Rattle.race_record.specs.Deeds.{changes_in}
use Rattle.race_record.specs.Lawful.{Lawful, HaveOnePlace, IsListed, ListsAs, Lists}
use Rattle.race_laws.specs.Names.{IsOfOneLife, ListsOnce}
use Rattle.race_laws.proofs.Counted.{hash_weight, hashes, weight_hash, one_as}
use Rattle.race_laws.proofs.Steps.{AllOnce, sections_once}

-- Of items that weigh one together at most, two that weigh one are one.
module _ {A : Type 0} (weight : A → ℕ) where
  weighs : (xs : List A) (x : A) → Among xs x → weight x ≤ total weight xs
  weighs [] x a = absurd a
  weighs (y ∷ ys) x (inl e) = omega (arith, ap weight e)
  weighs (y ∷ ys) x (inr a) = omega (arith, weighs ys x a)

  only_one : (xs : List A) (x y : A) → total weight xs ≤ 1 → weight x ≡ 1 → weight y ≡ 1 → Among xs x → Among xs y → x ≡ y
  only_one [] x y few e f a b = absurd a
  only_one (z ∷ zs) x y few e f (inl a) (inl b) = a ∙ sym b
  only_one (z ∷ zs) x y few e f (inl a) (inr b) = absurd (omega (arith, few, e, f, ap weight a, weighs zs y b))
  only_one (z ∷ zs) x y few e f (inr a) (inl b) = absurd (omega (arith, few, e, f, ap weight b, weighs zs x a))
  only_one (z ∷ zs) x y few e f (inr a) (inr b) = only_one zs x y (omega (arith, few)) e f a b

-- a book hashes as often as the deeds' changes do
few_in_book : (script : Script) (capture : Capture) (race : Race) → IsSmall script → Lawful script capture race → (name : ℕ) (kind : Kind) → hashes name kind race.book ≤ 1
few_in_book script capture race small lawful name kind =
    let all : AllOnce script.header (Among race.book) 1 (changes_in (all_deeds race)) =
    sections_once script.header (Among race.book) 1 script.sections race.sections lawful.sections small.commands in
    let same : hashes name kind race.book ≡ hashes name kind (changes_in (all_deeds race)) = lawful.book.each_once (hash_weight name kind) in
    omega (arith, same, all.once name kind)

life_weighs : (In : Change → Type 0) (name : ℕ) (kind : Kind) (h : Change) → IsLife In h → h.card.name ≡ name → h.card.kind ≡ kind → hash_weight name kind h ≡ 1
life_weighs In name kind h is e f = weight_hash name kind h h.card is.hash refl ∙ one_as name kind h.card (record { name_is = e; kind_is = f })

pub hashed_once : (script : Script) (capture : Capture) (race : Race) → IsSmall script → Lawful script capture race → (g h : Change) → IsLife (Among race.book) g → IsLife (Among race.book) h
    → g.card.name ≡ h.card.name → g.card.kind ≡ h.card.kind → g ≡ h
hashed_once script capture race small lawful g h is other name kind =
    only_one (hash_weight h.card.name h.card.kind) race.book g h (few_in_book script capture race small lawful h.card.name h.card.kind)
    (life_weighs (Among race.book) h.card.name h.card.kind g is name kind) (life_weighs (Among race.book) h.card.name h.card.kind h other refl refl) is.there other.there

-- Listed

number_few : (kind : Kind) → number_of kind < 8
number_few kinds.Full = omega arith
number_few kinds.TimeWait = omega arith
number_few kinds.Listen = omega arith
number_few kinds.Request = omega arith

name_by : (c d : Card) → order_of c ≡ order_of d → c.name ≡ d.name
name_by c d e = omega (arith, e, number_few c.kind, number_few d.kind)

kind_of_order : (c d : Card) → order_of c ≡ order_of d → c.kind ≡ d.kind
kind_of_order c d e = kind_by c.kind d.kind (omega (arith, e, name_by c d e))

order_by : (c d : Card) → c.name ≡ d.name → c.kind ≡ d.kind → order_of c ≡ order_of d
order_by c d e f = λ i. e i * 8 + number_of (f i)

abbrev card_in : Change → Card
card_in h = h.card

module _ (In : Change → Type 0) (once : (g h : Change) → IsLife In g → IsLife In h → g.card.name ≡ h.card.name → g.card.kind ≡ h.card.kind → g ≡ h) where
  abbrev IsThere : ℕ → ℕ → Change → Type 0
  IsThere t0 t1 h = IsLife In h × Stood In h t0 t1

  own_places : (t0 t1 : ℕ) (lives : List Change) → Each (IsThere t0 t1) lives → Pairs (λ g h. ¬ (HaveOnePlace g h)) lives → HavePlaces (map card_in lives)
  own_places t0 t1 lives there apart =
      pairs_map (λ (c d : Card). order_of c ≢ order_of d) card_in lives
      (pairs_weaken (λ g h. (IsThere t0 t1 g × IsThere t0 t1 h) × (¬ (HaveOnePlace g h))) (λ g h. order_of g.card ≢ order_of h.card) lives
      (λ g h k e.
      let same : g ≡ h = once g h k.0.0.0 k.0.1.0 (name_by g.card h.card e) (kind_of_order g.card h.card e) in
      k.1 (ap (λ (x : Change). x.bucket) same, ap (λ (x : Change). x.slot) same))
      (pairs_both (λ g h. IsThere t0 t1 g × IsThere t0 t1 h) (λ g h. ¬ (HaveOnePlace g h)) lives (pairs_of_each (IsThere t0 t1) lives there) apart))

  of_one : (t0 t1 : ℕ) (h : Change) → IsThere t0 t1 h → IsOfOneLife In t0 t1 h.card
  of_one t0 t1 h there = record { life = h; is = there.0; card_is = refl; stood = there.1; only = λ g is name kind. once g h is there.0 name kind }

  listed : (from to : ℕ) (cards : List Card) (span : Span) → IsListed In from to cards span → ListsOnce In (record { cards = cards; span = Some span })
  listed from to cards span l =
      let places : HavePlaces (map card_in l.lives) = own_places span.t0 span.t1 l.lives l.stood l.apart in
      let is : ascending (map card_in l.lives) ≡ cards = lists_as_one (map card_in l.lives) cards (λ f. sym (l.cards_are f)) places ∙ sym l.sorted in
      let up : Pairs (λ (c d : Card). order_of c < order_of d) cards = subst (Pairs (λ (c d : Card). order_of c < order_of d)) is (lists_in_order (map card_in l.lives) places) in record {
        span = span;
        span_is = refl;
        apart = pairs_weaken (λ (c d : Card). order_of c < order_of d) (λ (c d : Card). c.name ≡ d.name → c.kind ≢ d.kind) cards
            (λ c d less name kind. absurd (omega (arith, less, order_by c d name kind))) up;
        ascend = up;
        each = subst (Each (IsOfOneLife In span.t0 span.t1)) is
            (each_ascending order_of (IsOfOneLife In span.t0 span.t1) (map card_in l.lives)
            (each_map (IsOfOneLife In span.t0 span.t1) card_in l.lives
            (each_weaken (IsThere span.t0 span.t1) (λ h. IsOfOneLife In span.t0 span.t1 h.card) l.lives (of_one span.t0 span.t1) l.stood)));
        all = λ h life t. l.all h life record {
          before = let low = l.since h.bucket in omega (arith, t.before, low);
          still = λ u there after. let late = t.still u there after in let high = l.until h.bucket in omega (arith, late, high);
        };
      }

module _ (race : Race) (once : (g h : Change) → IsLife (Among race.book) g → IsLife (Among race.book) h → g.card.name ≡ h.card.name → g.card.kind ≡ h.card.kind → g ≡ h) where
  abbrev Told : Listing → Type 0
  Told = ListsOnce (Among race.book)

  of_command : (command : Command) (s : Step) → ListsAs race command s → Each Told s.listings
  of_command commands.Dump s d = subst (Each Told) (sym d.2) (listed (Among race.book) once s.from s.to d.0 d.1 d.3, tt)
  of_command _ s d = subst (Each Told) (sym d) tt

  of_steps : (steps : List Step) → Each (Lists race) steps → Each Told (flat_map (λ (s : Step). s.listings) steps)
  of_steps [] d = tt
  of_steps (s ∷ rest) d = each_append Told s.listings (flat_map (λ (s : Step). s.listings) rest) (of_command s.command s d.0) (of_steps rest d.1)

pub listed_once : (script : Script) (capture : Capture) (race : Race) → IsSmall script → Lawful script capture race → Each (ListsOnce (Among race.book)) (listings_of race)
listed_once script capture race small lawful =
    of_steps race (hashed_once script capture race small lawful) (steps_of race) lawful.dumps
