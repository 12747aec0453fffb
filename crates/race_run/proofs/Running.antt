-- A section, command by command.
use Rattle.std.proofs.Common.{◌≡◌, ℕ, zero, suc, ◌*◌, ◌<◌, ◌≤◌, List, [], ◌∷◌, ◌++◌, length, get_or, refl, sym, ap, ◌∙◌, subst, arith}
use Rattle.list_words.specs.Lists.{Each}
use Rattle.list_words.proofs.EachLemmas.{each_weaken}
use Rattle.sock_card.specs.declared.owner.State.{State}
use Rattle.sock_card.specs.declared.owner.State.TheVariants as states
use Rattle.sock_card.specs.declared.card.Kind.{Kind}
use Rattle.turn_table.specs.Passes as words
use Rattle.bind_buckets.specs.Turned.{View as BindView}
use Rattle.flat_list.specs.declared.header.Header.{Header}
use Rattle.flat_list.specs.declared.command.Command.{Command}
use Rattle.flat_list.specs.declared.command.Reply.{Reply}
use Rattle.socket_list.specs.Listing.{Listing}
use Rattle.table_model.specs.Own.{Mine, Own, card_of, new_own}
use Rattle.chain_book.specs.Homes.{home}
use Rattle.nulls_chain.specs.Changes.{IsPlaced}
use Rattle.table_rule.specs.Book.{open-end}
use Rattle.table_rule.specs.Calls.{HasShares}
use Rattle.table_rule.specs.Plays.{seeing}
use Rattle.table_rule.specs.Rule.{drawn}
use Rattle.table_rule.specs.Sole.{AllSettled}
use Rattle.table_rule.specs.declared.view.Layout.{Layout}
use Rattle.table_rule.specs.declared.view.View.{View}
use Rattle.table_rule.specs.declared.view.ReadView.{ReadView}
use Rattle.table_rule.specs.declared.view.SlotView.{SlotView}
use Rattle.sock_ops.specs.Sides.{Side, IsResting, HoldsNothing}
use Rattle.sock_ops.specs.declared.tables.Tables.{Tables}
use Rattle.sock_ops.specs.declared.tables.Worker.{Worker}
use Rattle.sock_ops.specs.Stands.{HasGroups, IsHashed, MayDraw, chained, place_in, turned}
use Rattle.race_run.specs.Listings.{KeepsAll}
use Rattle.section_machine.specs.Begins.{SectionBegins}
use Rattle.section_machine.specs.Sections.{Did, Kept, kept}
use Rattle.section_machine.specs.Standing.{AreOf, IsOpen, IsSection, Roll, StandsIn, roll_of}
use Rattle.race_run.specs.Dumped.{ListsMore}
use Rattle.race_run.specs.Made.{Loads, MadeAll, loaded}
use Rattle.race_run.specs.Races.{SectionDone}
use Rattle.race_run.specs.Said.{Said, said_as, saying}
use Rattle.race_run.specs.Sections.{HasDone}
use Rattle.race_run.specs.Workers.{AreTables, IsFresh, part_of}
use Rattle.sock_ops.specs.Tables.{IsAtRest}
use Rattle.race_run.proofs.Leaving.{all_made}
use Rattle.race_run.proofs.Sectioned.{begins, one_more}

-- what a section's worker is behind these commands of it
pub record Runs (header : Header) (t : Tables) (number : ℕ) (commands : List Command) (k : Kept) (w : Worker) (said : Said) : Type 0 where
  pub section : IsSection t k w
  pub header_is : k.header ≡ header
  pub turn_part : words.parts w.turns ≡ 1
  pub chain_part : (part_of w).chain.slot.parts ≡ 1
  pub nothing : HoldsNothing (part_of w).chain
  pub done : HasDone header number commands k.own (turned w) (chained t w) said

-- What was seen more

module _ (t : Tables) (c d : Side) (layout : d.layout ≡ c.layout) (book : d.view.book ≡ c.view.book) where
  hashed_sees : (kind : Kind) (m : Mine) → IsHashed kind m c → IsHashed kind m d
  hashed_sees kind m h = record {
    home = subst (λ (y : Layout). m.place.bucket ≡ home y.shape y.seed (card_of kind m)) (sym layout) h.home;
    placed = subst (IsPlaced (place_in kind m)) (sym book) h.placed;
  }

  stands_sees : (s : State) (m : Mine) (v : BindView) → StandsIn s t m v c → StandsIn s t m v d
  stands_sees states.Unbound m v s = s
  stands_sees states.Bound m v s = s
  stands_sees states.Listening m v s = (s.0, hashed_sees _ m s.1)
  stands_sees states.Full m v s = (s.0, hashed_sees _ m s.1)
  stands_sees states.Request m v s = hashed_sees _ m s
  stands_sees states.TimeWait m v s = s

  open_sees : (r : Roll) (v : BindView) (m : Mine) → IsOpen t r v c m → IsOpen t r v d m
  open_sees r v m o = record { given = o.given; family = o.family; stands = stands_sees m.owner.state m v o.stands }

-- the section of a worker that has seen more, and did nothing else
section_sees : (t : Tables) (k : Kept) (w u : Worker) → IsSection t k w → u.turns ≡ w.turns → u.groups ≡ w.groups → (chained t u).view.book ≡ (chained t w).view.book → IsResting t.chains u.chain → IsSection t k u
section_sees t k w u s same same_groups book rests =
    let stand : Each (IsOpen t (roll_of k.own) (turned w) (chained t u)) (roll_of k.own).sockets =
    each_weaken (IsOpen t (roll_of k.own) (turned w) (chained t w)) (IsOpen t (roll_of k.own) (turned w) (chained t u)) (roll_of k.own).sockets (open_sees t (chained t w) (chained t u) refl book (roll_of k.own) (turned w)) s.stand in
    record {
      tables = s.tables;
      ready = record { idle = rw same s.ready.idle; rests = rests; groups = subst (HasGroups t) (sym same_groups) s.ready.groups };
      number = s.number;
      tells = rw same s.tells;
      stand = subst (λ (v : BindView). Each (IsOpen t (roll_of k.own) v (chained t u)) (roll_of k.own).sockets) (ap words.known (sym same)) stand;
      unspoken = rw same s.unspoken;
    }

module _ (header : Header) (t : Tables) (number : ℕ) where
  -- the first command is still to come
  pub runs_none : (k : Kept) (w : Worker) (commands : List Command) (replies : List Reply) (listings : List Listing) → SectionBegins → AreTables header t → IsFresh header t number w → number ≤ 64 → k ≡ kept header (new_own header number) → commands ≡ [] → replies ≡ [] → listings ≡ []
      → Runs header t number commands k w (said_as replies listings)
  runs_none k w commands replies listings law are fresh few is begin none nothing_listed =
      let n = fresh.nothing in
      let of_header : AreOf header t = record { shape = ap (λ (l : Layout). l.shape) are.layout; seed = ap (λ (l : Layout). l.seed) are.layout; buckets = are.buckets } in
      let own : Own = new_own header number in
      let done : HasDone header number [] own (turned w) (chained t w) (said_as [] []) = begins header number (turned w) (chained t w) n in
      subst (λ (x : Kept). Runs header t number commands x w (said_as replies listings)) (sym is) (record {
        section = law t header number w of_header fresh.ready (omega (arith, few)) (λ _. sym n.caller) n.mine;
        header_is = refl;
        turn_part = fresh.turn_part;
        chain_part = fresh.chain_part;
        nothing = fresh.rest.nothing;
        done = subst (λ (cs : List Command). HasDone header number cs own (turned w) (chained t w) (said_as replies listings)) (sym begin)
            (subst (λ (s : Said). HasDone header number [] own (turned w) (chained t w) s) (λ i. said_as (sym none i) (sym nothing_listed i)) done);
      })

  module _ (commands more : List Command) (k l : Kept) (w u x y : Worker) (replies replies' : List Reply) (listings listings' : List Listing) (command : Command) (reply : Reply) (clock : ℕ)
      (runs : Runs header t number commands k w (said_as replies listings)) (section : IsSection t l u) (same_header : l.header ≡ k.header)
      (did_it : Did k.header k.own command (turned w) (turned u) (chained t w) (chained t u) l.own reply)
      (keeps : KeepsAll t u x) (lists : ListsMore command (chained t u) (chained t x) listings listings')
      (same : y.turns ≡ x.turns) (same_groups : y.groups ≡ x.groups) (sees : (part_of y).chain ≡ seeing (part_of x).chain clock) (next : y.chain.next ≡ x.chain.next) (rests : IsResting t.chains y.chain)
      (later : (part_of x).chain.seen ≤ clock) (few : clock < open-end) (settled : AllSettled (part_of y).chain clock)
      (commands_are : more ≡ commands ++ command ∷ []) (replies_are : replies' ≡ replies ++ reply ∷ [])
    where
      did : Did header k.own command (turned w) (turned u) (chained t w) (chained t u) l.own reply
      did = subst (λ (h : Header). Did h k.own command (turned w) (turned u) (chained t w) (chained t u) l.own reply) runs.header_is did_it

      made : MadeAll did.deeds (chained t w) (chained t u)
      made = all_made did.deeds (chained t w) (chained t u) did.does.leaves

      side : chained t y ≡ loaded (chained t x) clock
      side = ap (λ (v : View). record { layout = t.chains.layout; view = v; next = y.chain.next }) sees ∙ ap (λ (n : ℕ). record { layout = t.chains.layout; view = seeing (part_of x).chain clock; next = n }) next

      loads : Loads (chained t x) clock
      loads = record { later = later; few = few; settled = subst (λ (v : View). AllSettled v clock) sees settled }

      done : HasDone header number (commands ++ command ∷ []) l.own (turned u) (loaded (chained t x) clock) (saying (said_as replies listings) reply lists.0)
      done = one_more header number commands k.own l.own (turned w) (turned u) (chained t w) (chained t u) (chained t x) clock (said_as replies listings) command reply lists.0 runs.done did lists.2 loads

      same_turns : y.turns ≡ u.turns
      same_turns = same ∙ keeps.turns

      book : (chained t y).view.book ≡ (chained t u).view.book
      book = ap (λ (v : View). v.book) sees ∙ keeps.view.book

      slot : (chained t y).view.slot ≡ (chained t u).view.slot
      slot = ap (λ (v : View). v.slot) sees ∙ keeps.view.slot

      read : (chained t y).view.read ≡ (chained t u).view.read
      read = ap (λ (v : View). v.read) sees ∙ keeps.view.read

      said_is : said_as replies' listings' ≡ saying (said_as replies listings) reply lists.0
      said_is i = said_as (replies_are i) (lists.1 i)

      -- one command more
      pub runs_more : Runs header t number more l y (said_as replies' listings')
      runs_more = record {
        section = section_sees t l u y section same_turns (same_groups ∙ keeps.groups) book rests;
        header_is = same_header ∙ runs.header_is;
        turn_part = ap words.parts same_turns ∙ did.gave.parts ∙ runs.turn_part;
        chain_part = ap (λ (s : SlotView). s.parts) slot ∙ made.parts ∙ runs.chain_part;
        nothing = record {
          holds = ap (λ (s : SlotView). s.holds) slot ∙ made.holds ∙ runs.nothing.holds;
          kept = ap (λ (x : ReadView). x.kept) read ∙ ap (λ (x : ReadView). x.kept) made.read ∙ runs.nothing.kept;
          reader = ap (λ (x : ReadView). x.reader) read ∙ ap (λ (x : ReadView). x.reader) made.read ∙ runs.nothing.reader;
        };
        done = subst (λ (cs : List Command). HasDone header number cs l.own (turned y) (chained t y) (said_as replies' listings')) (sym commands_are)
            (subst (λ (s : Said). HasDone header number (commands ++ command ∷ []) l.own (turned y) (chained t y) s) (sym said_is)
            (subst (λ (v : BindView). HasDone header number (commands ++ command ∷ []) l.own v (chained t y) (saying (said_as replies listings) reply lists.0)) (ap words.known (sym same_turns))
            (subst (λ (c : Side). HasDone header number (commands ++ command ∷ []) l.own (turned u) c (saying (said_as replies listings) reply lists.0)) (sym side) done)));
      }

  -- it is at rest then
  pub runs_rest : (commands : List Command) (k : Kept) (w : Worker) (said : Said) → Runs header t number commands k w said → IsAtRest t w
  runs_rest commands k w said r =
      record { turns = r.section.ready.idle.table; free = r.section.ready.idle.free; rests = r.section.ready.rests; nothing = r.nothing; groups = r.section.ready.groups }

  pub runs_done : (commands all : List Command) (k : Kept) (w : Worker) (said : Said) → AreTables header t → commands ≡ all → Runs header t number commands k w said → SectionDone header number all (part_of w) said
  runs_done commands all k w said are is r =
      let done : HasDone header number all k.own (turned w) (chained t w) said =
      subst (λ (cs : List Command). HasDone header number cs k.own (turned w) (chained t w) said) is r.done in
      record {
        own = k.own;
        next = w.chain.next;
        done = subst (λ (y : Layout). HasDone header number all k.own (turned w) (record { layout = y; view = (part_of w).chain; next = w.chain.next }) said) are.layout done;
      }

-- What is drawn

-- who closed and dropped nothing drew no number
drawn_none : (v : View) → v.book.closed ≡ [] → v.book.opened ≡ [] → v.book.lost ≡ [] → drawn v ≡ 0
drawn_none v closed opened lost = rw (closed, opened, lost) refl

pub draws_first : (header : Header) (t : Tables) (number count : ℕ) (w : Worker) → IsFresh header t number w → count < 16777216 → MayDraw (6 * count) w
draws_first header t number count w fresh few =
    let none : drawn (part_of w).chain ≡ 0 = drawn_none (part_of w).chain fresh.nothing.closed fresh.rest.rests.opened fresh.nothing.lost in
    omega (arith, none, fresh.chain_part, few)

pub draws_same : (n : ℕ) (u y : Worker) (clock : ℕ) → (part_of y).chain ≡ seeing (part_of u).chain clock → MayDraw n u → MayDraw n y
draws_same n u y clock sees may = subst (HasShares n) (sym sees) may

-- what each is the one at a place is
pub each_get : {A : Type 0} (P : A → Type 0) (xs : List A) (i : ℕ) (d : A) → Each P xs → i < length xs → P (get_or xs i d)
each_get P [] i d e l = absurd (omega (arith, l))
each_get P (x ∷ xs) zero d e l = e.0
each_get P (x ∷ xs) (suc i) d e l = each_get P xs i d e.1 (omega (arith, l))
