-- What a lookup leaves: all but what its pass has seen of the clock, and its receipts.
use Rattle.std.proofs.Common.{◌≡◌, ℕ, ◌+◌, ◌*◌, min, length, List, [], ◌∷◌, ◌++◌, map, take, drop, Option, refl, sym, ap, ◌∙◌, subst, arith, append-nil, append_assoc}
use Rattle.std.proofs.lemmas.List.{map-append}
use Rattle.list_words.specs.Lists.{Each}
use Rattle.list_words.proofs.EachLemmas.{each_weaken}
use Rattle.sock_card.specs.declared.owner.State.{State}
use Rattle.sock_card.specs.declared.owner.State.TheVariants as states
use Rattle.sock_card.specs.declared.card.Kind.{Kind}
use Rattle.sock_card.specs.declared.card.Card.{Card}
use Rattle.sock_card.specs.declared.card.Packet.{Packet}
use Rattle.capture_reader.specs.declared.packet.Item.{Item}
use Rattle.flat_list.specs.Owned.{packet_asked}
use Rattle.flat_list.specs.Step.{step}
use Rattle.flat_list.specs.declared.command.Command.TheVariants as commands
use Rattle.flat_list.specs.declared.command.Query.{Query}
use Rattle.flat_list.specs.declared.command.Reply.{Reply}
use Rattle.flat_list.specs.declared.command.Reply.TheVariants as replies
use Rattle.sock_script.specs.Output.{Replies}
use Rattle.sock_script.specs.Shown.{shown}
use Rattle.sock_script.specs.Steps.{item_shown}
use Rattle.table_model.specs.Means.{Means}
use Rattle.table_model.specs.Tables.{Tables as Plain}
use Rattle.turn_table.specs.Passes as words
use Rattle.bind_buckets.specs.Turned.{View as BindView}
use Rattle.nulls_chain.specs.Changes.{IsPlaced}
use Rattle.table_rule.specs.declared.view.BookView.{BookView}
use Rattle.table_model.specs.Own.{Mine}
use Rattle.table_model.specs.Goes.{tables_by}
use Rattle.sock_ops.specs.Sides.{chains_by}
use Rattle.established.specs.Alone.{chains_of}
use Rattle.section_machine.specs.Carried.{HasEnough, Spends}
use Rattle.section_machine.specs.Sections.{Kept}
use Rattle.section_machine.specs.Standing.{IsOpen, IsSection, Roll, StandsIn, roll_of}
use Rattle.sock_ops.specs.declared.tables.Tables.{Tables}
use Rattle.sock_ops.specs.declared.tables.Worker.{Worker}
use Rattle.sock_ops.specs.Stands.{IsHashed, IsReady, MayDraw, buckets_of, chained, place_in, turned}
use Rattle.race_run.specs.Looks.{AnswersItem, Finds, Looked}
use Rattle.race_run.specs.Sole.{IsSole, tables_of}
use Rattle.race_run.specs.Steps.{AnswersAll, IsRunning, RefinesEach, RunsEach}
use Rattle.race_run.proofs.CommandRuns.{packets_run}

pub looked_none : (t : Tables) (w : Worker) → Looked t w w
looked_none t w = record { turns = refl; book = refl; next = refl; parts = refl }

pub looked_both : (t : Tables) (w u y : Worker) → Looked t w u → Looked t u y → Looked t w y
looked_both t w u y a b = record { turns = b.turns ∙ a.turns; book = b.book ∙ a.book; next = b.next ∙ a.next; parts = b.parts ∙ a.parts }

module _ (t : Tables) (w u : Worker) (l : Looked t w u) where
  pub tables_same : tables_of t u ≡ tables_of t w
  tables_same =
      ap (λ (turns : Rattle.bind_buckets.specs.Turned.Pass). tables_by (buckets_of t) (words.given turns) (chains_by (chained t u))) l.turns
      ∙ ap (λ (b : BookView). tables_by (buckets_of t) (words.given w.turns) (chains_of t.chains.layout u.chain.next b.closed)) l.book
      ∙ ap (λ (n : ℕ). tables_by (buckets_of t) (words.given w.turns) (chains_of t.chains.layout n (chained t w).view.book.closed)) l.next

  hashed_same : (kind : Kind) (m : Mine) → IsHashed kind m (chained t w) → IsHashed kind m (chained t u)
  hashed_same kind m h = record { home = h.home; placed = subst (IsPlaced (place_in kind m)) (sym l.book) h.placed }

  stands_same : (s : State) (m : Mine) (v : BindView) → StandsIn s t m v (chained t w) → StandsIn s t m v (chained t u)
  stands_same states.Unbound m v s = s
  stands_same states.Bound m v s = s
  stands_same states.Listening m v s = (s.0, hashed_same _ m s.1)
  stands_same states.Full m v s = (s.0, hashed_same _ m s.1)
  stands_same states.Request m v s = hashed_same _ m s
  stands_same states.TimeWait m v s = s

  open_same : (r : Roll) (v : BindView) (m : Mine) → IsOpen t r v (chained t w) m → IsOpen t r v (chained t u) m
  open_same r v m o = record { given = o.given; family = o.family; stands = stands_same m.owner.state m v o.stands }

  turned_same : turned u ≡ turned w
  turned_same = ap words.known l.turns

  pub section_same : (k : Kept) → IsSection t k w → IsReady t u → IsSection t k u
  section_same k s ready =
      let r = roll_of k.own in
      let stand : Each (IsOpen t r (turned w) (chained t u)) r.sockets =
      each_weaken (IsOpen t r (turned w) (chained t w)) (IsOpen t r (turned w) (chained t u)) r.sockets (open_same r (turned w)) s.stand in
      record {
        tables = s.tables;
        ready = ready;
        number = s.number;
        tells = rw l.turns s.tells;
        stand = subst (λ (v : BindView). Each (IsOpen t r v (chained t u)) r.sockets) (sym turned_same) stand;
        unspoken = rw l.turns s.unspoken;
      }

  pub running_same : (k : Kept) → IsRunning t k w → IsSole t u → IsRunning t k u
  running_same k s sole = record { section = section_same k s.section sole.ready; sole = sole }

  pub may_draw : (n : ℕ) → MayDraw n w → MayDraw n u
  may_draw n may =
      let parts = l.parts in
      let drawn = ap (λ (b : BookView). Rattle.table_rule.specs.Book.marks (λ _. 1) (record { book = b; locked = (chained t w).view.chain.locked })) l.book in
      omega (arith, may, parts, drawn)

  pub spends_nothing : (k : Kept) → Spends k k w u
  spends_nothing k = record {
    entered = let e = ap words.draws l.turns in omega (arith, e);
    drawn = λ more may. may_draw (more + 2 * length k.own.waits) (omega (arith, may));
  }

  -- a worker that has looked or listed has enough still, and what it spends then is all that it spends
  pub enough_still : (k : Kept) → HasEnough k w → HasEnough k u
  enough_still k enough =
      let e = ap words.draws l.turns in
      let enters = enough.enters in
      record { enters = omega (arith, enters, e); draws = may_draw (6 + 2 * length k.own.waits) enough.draws }

  pub spends_behind : (k m : Kept) (y : Worker) → Spends k m u y → Spends k m w y
  spends_behind k m y s = record {
    entered = let e = ap words.draws l.turns in omega (arith, s.entered, e);
    drawn = λ more may. s.drawn more (may_draw (more + 6 + 2 * length k.own.waits) may);
  }

  -- a lookup answers as the list does, and leaves all as it was
  pub look_refines : (k : Kept) (query : Query) (packet : Packet) (card : Option Card) → packet ≡ packet_asked query → Finds (tables_of t w) packet card
      → RefinesEach k (tables_of t w) (commands.Look query) (tables_of t u) k.own (replies.Found card)
  unfolding step
  look_refines k query packet card is finds flat header means = record {
    reply = ap replies.Found (subst (λ (p : Packet). Finds (tables_of t w) p card) is finds flat means.shape means.sound means.tables);
    means = subst (λ (x : Plain). Means k.own.number k.own x flat) (sym tables_same) means;
  }

  -- and so do lookups of a capture's next items
  pub packets_look : (k : Kept) (count : ℕ) (xs next left : List Item) (before : Replies) (out : List Reply)
      → next ≡ take (min count (length xs)) xs → left ≡ drop (min count (length xs)) xs → AnswersAll (tables_of t w) next before.each out
      → RunsEach k (tables_of t w) (commands.Packets count) xs left before (record before { each = out }) k.own (tables_of t u)
  packets_look k count xs next left before out front back answers =
      subst (RunsEach k (tables_of t w) (commands.Packets count) xs left before (record before { each = out }) k.own) (sym tables_same)
      (packets_run k (tables_of t w) count xs next left before out front back answers)

-- Items

-- none were looked up yet
pub answers_none : (t : Plain) (items : List Item) (out : List Reply) → items ≡ [] → AnswersAll t items out out
answers_none t items out none flat shape sound mean = sym (append-nil out) ∙ ap (λ (l : List Item). out ++ map (item_shown flat) l) (sym none)

-- and one more
pub answers_more : (t : Plain) (items more : List Item) (item : Item) (before out new : List Reply) (reply : Reply) → AnswersAll t items before out → AnswersItem t item reply
    → more ≡ items ++ item ∷ [] → new ≡ out ++ shown reply ∷ [] → AnswersAll t more before new
answers_more t items more item before out new reply all one is pushed flat shape sound mean =
    pushed
    ∙ (λ i. all flat shape sound mean i ++ shown (one flat shape sound mean i) ∷ [])
    ∙ append_assoc before (map (item_shown flat) items) (item_shown flat item ∷ [])
    ∙ ap (λ (l : List Reply). before ++ l) (sym (map-append (item_shown flat) items (item ∷ [])))
    ∙ ap (λ (l : List Item). before ++ map (item_shown flat) l) (sym is)
