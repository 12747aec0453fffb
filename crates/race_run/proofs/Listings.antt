-- The book of all changes shows what a dump listed.
use Rattle.std.proofs.Common.{◌≡◌, ℕ, ◌<◌, ◌≤◌, List, [], ◌∷◌, map, inl, inr, ⊎_elim, refl, sym, ap, ◌∙◌, subst, arith}
use Rattle.list_words.specs.Lists.{Each, Pairs, total}
use Rattle.sock_card.specs.declared.card.Card.{Card}
use Rattle.socket_list.specs.declared.listing.Span.{Span}
use Rattle.chain_book.specs.declared.book.Change.{Change}
use Rattle.flat_list.specs.declared.command.Command.{Command}
use Rattle.flat_list.specs.declared.command.Command.TheVariants as commands
use Rattle.flat_list.specs.declared.header.Header.{Header}
use Rattle.table_model.proofs.parts.Chains.{home_below}
use Rattle.table_rule.specs.Alone.{mine}
use Rattle.table_rule.specs.Beyond.{IsThere, SightTrue}
use Rattle.table_rule.specs.Words.{bucket_count}
use Rattle.table_rule.specs.declared.view.Change.{Change as Raw}
use Rattle.table_rule.specs.declared.view.Sight.{Sight}
use Rattle.table_rule.specs.declared.view.View.{View}
use Rattle.race_run.specs.Books as books
use Rattle.race_run.specs.Books.{AreTold, life_card}
use Rattle.race_run.specs.Sightings.{sightings}
use Rattle.sock_ops.specs.Sides.{change_of}
use Rattle.sock_ops.specs.Sizes.{IsSized}
use Rattle.race_book.specs.Among.{Among}
use Rattle.race_book.specs.Lives.{IsLife, Stood}
use Rattle.race_record.specs.Record.{Race, Step}
use Rattle.race_record.specs.Lawful.{HaveOnePlace, StandsAt, IsListed, ListsAs}
use Rattle.race_run.specs.Dumped.{SawAll, SawAs}
use Rattle.race_run.specs.Races.{IsWhole, book_of}
use Rattle.race_run.specs.Sections.{layout_in}
use Rattle.race_run.proofs.FromRaw.{AreGood, end_after, life_of, place_of, raw_of, raw_hash, raw_throughout, serial, stands_there, RawOf}

-- Lives of either book

cards_are : (xs : List Raw) → map life_card xs ≡ map (λ (h : Change). h.card) (map change_of xs)
cards_are [] = refl
cards_are (x ∷ xs) = ap (λ (l : List Card). life_card x ∷ l) (cards_are xs)

else_are : (h : Raw) (xs : List Raw) → Each (λ g. books.HaveOnePlace h g → ⊥) xs → Each (λ g. ¬ (HaveOnePlace (change_of h) g)) (map change_of xs)
else_are h [] k = tt
else_are h (x ∷ xs) k = (k.0, else_are h xs k.1)

apart_are : (xs : List Raw) → books.AreApart xs → Pairs (λ g h. ¬ (HaveOnePlace g h)) (map change_of xs)
apart_are [] k = tt
apart_are (x ∷ xs) k = (else_are x xs k.0, apart_are xs k.1)

among_cards : (h : Raw) (xs : List Raw) → books.IsAmong h xs → Among (map life_card xs) (life_card h)
among_cards h [] k = absurd k
among_cards h (x ∷ xs) k = ⊎_elim (λ z. inl (sym z.1)) (λ z. inr (among_cards h xs z)) k

module _ (header : Header) (v : View) (clock : ℕ) (w : IsWhole v clock) (good : AreGood header v) (sized : IsSized header.shape) where
  abbrev In : Change → Type 0
  In c = Among (book_of v) c

  -- what the pass saw is true in its own book
  all_true : (xs : List Sight) → Each (Among v.sights) xs → Each (SightTrue (mine v)) xs
  all_true [] h = tt
  all_true (x ∷ xs) h = (let p = place_of v.sights x h.0 in let b = w.book w.parts w.opened in b.2 p.0 x p.1, all_true xs h.1)

  module _ (t0 t1 : ℕ) (number : ℕ → ℕ) (low : (b : ℕ) → t0 ≤ number b) (high : (b : ℕ) → number b ≤ t1) where
    one_stands : (h : Raw) → books.IsLife (mine v) number h → StandsAt In (change_of h) (number h.bucket)
    one_stands h l = stands_there header v clock w good h l.0 l.1 (number h.bucket) l.2

    one_stood : (h : Raw) → books.IsLife (mine v) number h → IsLife In (change_of h) × Stood In (change_of h) t0 t1
    one_stood h l =
        let life = life_of header v clock w good h l.0 l.1 in
        let s = one_stands h l in
        let order = end_after header v clock w good (change_of h) life.there in
        let up = high h.bucket in
        let down = low h.bucket in (
          life,
          record {
            begun = let b = s.before in omega (arith, order, b, up);
            still = λ u e. let late = s.still u e.there e.after in
                let after = end_after header v clock w good u e.there in
                omega (arith, down, late, after);
          },
        )

    all_stand : (xs : List Raw) → Each (books.IsLife (mine v) number) xs → Each (λ (h : Change). StandsAt In h (number h.bucket)) (map change_of xs)
    all_stand [] k = tt
    all_stand (x ∷ xs) k = (one_stands x k.0, all_stand xs k.1)

    all_stood : (xs : List Raw) → Each (books.IsLife (mine v) number) xs → Each (λ (h : Change). IsLife In h × Stood In h t0 t1) (map change_of xs)
    all_stood [] k = tt
    all_stood (x ∷ xs) k = (one_stood x k.0, all_stood xs k.1)

  near : (h : Change) → IsLife In h → h.bucket < bucket_count (layout_in header)
  near h life =
      let hash = sized.hash in
      let listen = sized.listen in
      let low = home_below header.shape header.seed h.card (omega (arith, hash)) (omega (arith, listen)) in
      omega (arith, low, (serial header v clock w good).homes h life.there)

  module _ (from to : ℕ) (cards : List Card) (span : Span) (saw : SawAll (layout_in header) v.sights from to cards span) where
    told : AreTold (mine v) (bucket_count (layout_in header)) span.t0 span.t1 cards
    told = saw.told (mine v) (all_true (sightings span.t0 span.t1 0 saw.rows) saw.there)

    each_listed : (h : Change) → IsLife In h → StandsAt In h (told.instant h.bucket) → Among cards h.card
    each_listed h life stands =
        let r : RawOf header v clock w good h = raw_of header v clock w good h life.there in
        let near_it : r.change.bucket < bucket_count (layout_in header) = subst (λ (c : Change). c.bucket < bucket_count (layout_in header)) r.is (near h life) in
        let there = raw_throughout header v clock w good h r (told.instant h.bucket) (told.instant h.bucket) stands in
        let a = told.all r.change r.there (raw_hash header v clock w good h r life.hash) near_it (subst (λ (c : Change). IsThere (mine v) r.change (told.instant c.bucket)) r.is there) in
        subst (λ l. Among l h.card) (sym told.cards)
        (subst (λ (c : Change). Among (map life_card told.lives) c.card) (sym r.is) (among_cards r.change told.lives a))

    listed : IsListed In from to cards span
    listed = record {
      begins = saw.begins;
      order = saw.order;
      ends = saw.ends;
      sorted = saw.sorted;
      number = told.instant;
      since = told.low;
      until = told.high;
      ascend = told.ascend;
      lives = map change_of told.lives;
      cards_are = λ f. ap (total f) (told.cards ∙ cards_are told.lives);
      stood = all_stood span.t0 span.t1 told.instant told.low told.high told.lives told.stand;
      stands = all_stand span.t0 span.t1 told.instant told.low told.high told.lives told.stand;
      apart = apart_are told.lives told.once;
      all = each_listed;
    }

  -- so did each step
  pub lists : (race : Race) → race.book ≡ book_of v → (s : Step) (c : Command) → SawAs (layout_in header) v.sights c s → ListsAs race c s
  lists race is s commands.Dump h =
      (h.0, h.1, h.2, subst (λ (l : List Change). IsListed (Among l) s.from s.to h.0 h.1) (sym is) (listed s.from s.to h.0 h.1 h.3))
  lists race is s c h = h
