-- What the dumps of a lawful race list can be written: the counts are in range,
-- and so is what is written of each socket.
use Rattle.std.proofs.Common.{◌≡◌, ◌≢◌, ℕ, ◌<◌, ◌≤◌, ◌^◌, List, [], ◌∷◌, length, map, Some, refl, sym, subst, arith}
use Rattle.std.proofs.lemmas.List.{length-map}
use Rattle.list_words.specs.Lists.{Each, Pairs}
use Rattle.list_words.proofs.EachLemmas.{each_map, each_weaken}
use Rattle.sock_card.specs.declared.card.Card.{Card}
use Rattle.chain_book.specs.declared.book.Act.TheVariants as acts
use Rattle.chain_book.specs.declared.book.Change.{Change}
use Rattle.flat_list.specs.declared.command.Command.{Command}
use Rattle.flat_list.specs.declared.command.Command.TheVariants as commands
use Rattle.socket_list.specs.declared.listing.Span.{Span}
use Rattle.race_book.specs.Among.{Among}
use Rattle.race_book.specs.Laws.{BeginApart}
use Rattle.race_book.proofs.AmongLemmas.{Made, among_map, made_of}
use Rattle.race_book.proofs.Endings.{each_of, one_beginning}
use Rattle.race_record.specs.Record.{Race, Step}
use Rattle.race_record.specs.Lawful.{AreInOrder, HaveOnePlace, IsListed, IsSpanned, Lists, ListsAs}
use Rattle.race_laws.proofs.audits.Bounds.{same_length}
use Rattle.race_laws.proofs.audits.Counted.{begin_of, no_more}
use Rattle.race_laws.proofs.audits.Steps.{CardTold, cards_told}

-- a list of sockets whose lines can be written
pub record IsToldList (sections : List (List Command)) (cards : List Card) (span : Span) : Type 0 where
  pub count : length cards < 2 ^ 64
  pub t0 : span.t0 < 2 ^ 64
  pub t1 : span.t1 < 2 ^ 64
  pub each : Each (CardTold sections) cards

-- what a step of that command lists: a `dump` one such list, any other command nothing
abbrev pub ListsTold : List (List Command) → Command → Step → Type 0
ListsTold sections commands.Dump s =
    (cards : List Card) × (span : Span) × (s.listings ≡ record { cards = cards; span = Some span } ∷ [])
    × IsToldList sections cards span
ListsTold sections _ s = s.listings ≡ []

-- lives in different places begin with different numbers
module _ (book : List Change) (apart : BeginApart book) where
  one_apart : (g : Change) (lives : List Change) → Among book g → Each (λ h. Among book h) lives → Each (λ h. ¬ (HaveOnePlace g h)) lives → Each (λ (h : Change). g.begin ≢ h.begin) lives
  one_apart g [] a there p = tt
  one_apart g (h ∷ rest) a there p = (
    λ e. let same : g ≡ h = one_beginning book apart g h a there.0 e in p.0 (subst (HaveOnePlace g) same (refl, refl)),
    one_apart g rest a there.1 p.1,
  )

  begins_apart : (lives : List Change) → Each (λ h. Among book h) lives → Pairs (λ g h. ¬ (HaveOnePlace g h)) lives → BeginApart lives
  begins_apart [] there p = tt
  begins_apart (g ∷ rest) there p = (one_apart g rest there.0 there.1 p.0, begins_apart rest there.1 p.1)

  few_lives : (lives : List Change) → Each (λ h. Among book h) lives → Pairs (λ g h. ¬ (HaveOnePlace g h)) lives → length lives ≤ length book
  few_lives lives there p = no_more lives book (begins_apart lives there p) (λ n a.
      let m : Made begin_of lives n = made_of begin_of lives n a in
      subst (Among (map begin_of book)) (sym m.is) (among_map begin_of book m.of (each_of (Among book) lives there m.of m.there)))

module _ (sections : List (List Command)) (race : Race) (small : race.clock < 2 ^ 64) (apart : BeginApart race.book) (few : length race.book < 2 ^ 64)
    (cards : (c : Change) → Among race.book c → c.act ≡ acts.Hash → CardTold sections c.card) where
  list_told : (from to : ℕ) (cs : List Card) (span : Span) → to ≤ race.clock → IsListed (Among race.book) from to cs span → IsToldList sections cs span
  list_told from to cs span most l =
      let there : Each (λ h. Among race.book h) l.lives = each_weaken _ (Among race.book) l.lives (λ h s. s.0.there) l.stood in
      let told : Each (λ (h : Change). CardTold sections h.card) l.lives = each_weaken _ (λ (h : Change). CardTold sections h.card) l.lives (λ h s. cards h s.0.there s.0.hash) l.stood in
      let card_of : Change → Card = λ h. h.card in record {
        count = omega (arith, few, few_lives race.book apart l.lives there l.apart, same_length cs (map card_of l.lives) l.cards_are, length-map l.lives card_of);
        t0 = omega (arith, l.order, l.ends, most, small);
        t1 = omega (arith, l.ends, most, small);
        each = cards_told sections cs (map card_of l.lives) l.cards_are (each_map (CardTold sections) card_of l.lives told);
      }

  lists_by : (c : Command) (s : Step) → s.to ≤ race.clock → ListsAs race c s → ListsTold sections c s
  lists_by commands.Dump s most h = (h.0, h.1, h.2, list_told s.from s.to h.0 h.1 most h.3)
  lists_by c s most h = h

  abbrev pub StepLists : Step → Type 0
  StepLists s = ListsTold sections s.command s

  steps_list : (steps : List Step) → Each (IsSpanned race.clock) steps → Each (Lists race) steps → Each StepLists steps
  steps_list [] spans h = tt
  steps_list (s ∷ steps) spans h = (lists_by s.command s spans.0.most h.0, steps_list steps spans.1 h.1)

  pub sections_list : (all : List (List Step)) → Each (AreInOrder race.clock) all → Each (Each (Lists race)) all → Each (Each StepLists) all
  sections_list [] spans h = tt
  sections_list (steps ∷ rest) spans h = (steps_list steps spans.0.each h.0, sections_list rest spans.1 h.1)
