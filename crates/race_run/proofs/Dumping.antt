-- What a worker saw as it listed all chains, and as it goes on.
use Rattle.std.proofs.Common.{◌≡◌, ℕ, ◌+◌, ◌≤◌, List, [], ◌∷◌, ◌++◌, inl, inr, refl, sym, ◌∙◌, subst, arith}
use Rattle.std.proofs.lemmas.List.{append-nil}
use Rattle.list_words.specs.Lists.{Each}
use Rattle.flat_list.specs.declared.command.Command.{Command}
use Rattle.flat_list.specs.declared.command.Command.TheVariants as commands
use Rattle.socket_list.specs.Listing.{Listing}
use Rattle.socket_list.specs.declared.listing.Span.{Span}
use Rattle.sock_card.specs.declared.card.Card.{Card}
use Rattle.table_rule.specs.Plays.{seeing, settled}
use Rattle.table_rule.specs.declared.view.Layout.{Layout}
use Rattle.table_rule.specs.declared.view.Sight.{Sight}
use Rattle.table_rule.specs.declared.view.View.{View}
use Rattle.nulls_chain.specs.Changes.{Sees}
use Rattle.sock_ops.specs.Sides.{Side}
use Rattle.nulls_chain.proofs.Saw.{are_settled}
use Rattle.sock_ops.proofs.Seen.{as_they_were, sees_both}
use Rattle.race_book.specs.Among.{Among}
use Rattle.race_book.proofs.AmongLemmas.{among_right}
use Rattle.race_record.specs.Record.{Step}
use Rattle.race_run.specs.Dumps.{Keeps}
use Rattle.race_run.specs.Rows.{Row}
use Rattle.race_run.specs.Sightings.{sighting, sightings}
use Rattle.race_run.proofs.Seeings.{keeps_same}
use Rattle.sock_ops.specs.Stands.{chained}
use Rattle.sock_ops.specs.declared.tables.Tables.{Tables}
use Rattle.sock_ops.specs.declared.tables.Worker.{Worker}
use Rattle.race_run.specs.Listings.{IsListing, KeepsAll}
use Rattle.race_run.specs.Dumped.{Dumped, Listed, ListsMore, SawAll, SawAs}

-- What was seen stands

there_moves : (xs ys : List Sight) (from to b : ℕ) (rows : List Row) → ((x : Sight) → Among xs x → x.until ≡ to → Among ys x) → Each (Among xs) (sightings from to b rows) → Each (Among ys) (sightings from to b rows)
there_moves xs ys from to b [] f h = tt
there_moves xs ys from to b (row ∷ rows) f h = (f (sighting from to b row) h.0 refl, there_moves xs ys from to (b + 1) rows f h.1)

module _ (layout : Layout) (xs ys : List Sight) (from to least most : ℕ) (low : least ≤ from) (high : to ≤ most) (stay : (x : Sight) → Among xs x → x.until ≤ to → Among ys x) where
  saw_moves : (cards : List Card) (span : Span) → SawAll layout xs from to cards span → SawAll layout ys least most cards span
  saw_moves cards span h = record {
    begins = omega (arith, low, h.begins);
    order = h.order;
    ends = omega (arith, high, h.ends);
    sorted = h.sorted;
    rows = h.rows;
    there = there_moves xs ys span.t0 span.t1 0 h.rows (λ x a e. stay x a (omega (arith, e, h.ends))) h.there;
    told = h.told;
  }

pub saw_as_moves : (layout : Layout) (xs ys : List Sight) (s : Step) → ((x : Sight) → Among xs x → x.until ≤ s.to → Among ys x) → (c : Command) → SawAs layout xs c s → SawAs layout ys c s
saw_as_moves layout xs ys s stay commands.Dump h = (h.0, h.1, h.2, saw_moves layout xs ys s.from s.to s.from s.to (omega arith) (omega arith) stay h.0 h.1 h.3)
saw_as_moves layout xs ys s stay c h = h

-- A command that lists, or doesn't

-- what it leaves, whatever it is
pub record Lasts (d e : Side) : Type 0 where
  pub layout : e.layout ≡ d.layout
  pub keeps : Keeps d.view e.view
  pub sees : Sees d.view e.view
  pub later : d.view.seen ≤ e.view.seen

lasts_same : (d : Side) → Lasts d d
lasts_same d = record {
  layout = refl;
  keeps = keeps_same d.view;
  sees = (d.view.sights, [], as_they_were d.view.seen d.view.sights, sym (append-nil d.view.sights));
  later = omega arith;
}

pub lasts : (c : Command) (d e : Side) (listings : List Listing) → Listed c d e listings → Lasts d e
lasts commands.Dump d e listings h =
    let k : Dumped d e h.0 h.1 = h.3 in
    let s = k.saw in
    record { layout = k.layout; keeps = k.keeps; sees = k.sees; later = omega (arith, s.begins, s.order, k.seen) }
lasts c d e listings h = subst (Lasts d) (sym h.0) (lasts_same d)

-- the step of that command
pub saw_step : (layout : Layout) (d e : Side) (listings : List Listing) (s : Step) (ys : List Sight) → s.listings ≡ listings → d.layout ≡ layout → s.from ≤ d.view.seen → e.view.seen ≤ s.to
    → ((x : Sight) → Among e.view.sights x → x.until ≤ e.view.seen → Among ys x) → (c : Command) → Listed c d e listings → SawAs layout ys c s
saw_step layout d e listings s ys is same low high stay commands.Dump h =
    let k : Dumped d e h.0 h.1 = h.3 in
    let saw : SawAll layout e.view.sights d.view.seen e.view.seen h.0 h.1 = subst (λ (y : Layout). SawAll y e.view.sights d.view.seen e.view.seen h.0 h.1) same k.saw in
    (h.0, h.1, is ∙ h.2, saw_moves layout e.view.sights ys d.view.seen e.view.seen s.from s.to low high stay h.0 h.1 saw)
saw_step layout d e listings s ys is same low high stay c h = is ∙ h.1

-- A dump of a worker

there_behind : (front : List Sight) (xs : List Sight) → Each (Among (front ++ xs)) xs
there_behind front xs = each_among (Among (front ++ xs)) xs (λ x a. among_right x front xs a)
  where
    each_among : (P : Sight → Type 0) (l : List Sight) → ((x : Sight) → Among l x → P x) → Each P l
    each_among P [] f = tt
    each_among P (x ∷ l) f = (f x (inl refl), each_among P l (λ y a. f y (inr a)))

module _ (t : Tables) (w u : Worker) (listing : Listing) (keeps : KeepsAll t w u) (l : IsListing t listing w u) where
  abbrev v : View
  v = (chained t w).view

  abbrev all : List Sight
  all = settled (settled v.sights l.span.t0) l.span.t1

  abbrev new : List Sight
  new = sightings l.span.t0 l.span.t1 0 l.rows

  sees : Sees v (chained t u).view
  sees =
      let between : View = seeing v l.span.t0 in
      let first : Sees v between = (settled v.sights l.span.t0, [], are_settled v.seen l.span.t0 v.sights l.begins, sym (append-nil (settled v.sights l.span.t0))) in
      let last : Sees between (chained t u).view = (all, new, are_settled l.span.t0 l.span.t1 (settled v.sights l.span.t0) l.order, l.sights) in
      sees_both v between (chained t u).view l.begins first last

  dumped : Dumped (chained t w) (chained t u) listing.cards l.span
  dumped = record {
    layout = refl;
    keeps = keeps.view;
    sees = sees;
    seen = l.ends;
    saw = record {
      begins = l.begins;
      order = l.order;
      ends = omega (arith, l.ends);
      sorted = l.sorted;
      rows = l.rows;
      there = subst (λ (x : List Sight). Each (Among x) new) (sym l.sights) (there_behind all new);
      told = l.told;
    };
  }

  -- behind what had been listed
  pub lists_more : (command : Command) (old more : List Listing) → command ≡ commands.Dump → more ≡ old ++ listing ∷ [] → ListsMore command (chained t w) (chained t u) old more
  lists_more command old more is more_is =
      let listed : Listed commands.Dump (chained t w) (chained t u) (listing ∷ []) =
      (listing.cards, l.span, (λ i. record { cards = listing.cards; span = l.span-is i } ∷ []), dumped) in
      (listing ∷ [], more_is, subst (λ (c : Command). Listed c (chained t w) (chained t u) (listing ∷ [])) (sym is) listed)

-- another command lists nothing
pub lists_none : (d : Side) (old : List Listing) (c : Command) → (c ≡ commands.Dump → ⊥) → ListsMore c d d old old
lists_none d old commands.Dump other = absurd (other refl)
lists_none d old c other = ([], sym (append-nil old), (refl, refl))
