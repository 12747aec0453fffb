-- What lookers reported of a capture, with what the sections did, is a whole record.
use Rattle.std.proofs.Common.{◌≡◌, ℕ, zero, suc, ◌+◌, ◌<◌, ◌≤◌, List, [], ◌∷◌, ◌++◌, length, map, false, refl, sym, ap, ◌∙◌, subst, arith, inl}
use Rattle.std.specs.List.{flat_map, range_with_len}
use Rattle.std.specs.Global.{Box}
use mathlib.Core.Logic.{dite}
use native.Mathlib.Decide.{ℕ_discrete}
use Rattle.std.proofs.lemmas.List.{length-map}
use Rattle.list_words.specs.Lists.{Each, total}
use Rattle.list_words.proofs.EachLemmas.{each_weaken, each_both, each_map}
use Rattle.list_words.proofs.PairsLemmas.{pairs_weaken, pairs_map, pairs_both, pairs_of_each}
use Rattle.turn_table.specs.Journals.{numbers_below}
use Rattle.bind_buckets.specs.Bucket.{Bucket}
use Rattle.bind_buckets.specs.Turned.{View as BindView}
use Rattle.chain_book.specs.declared.book.Change.{Change}
use Rattle.chain_book.specs.declared.book.Receipt.{Receipt}
use Rattle.sock_card.specs.declared.card.Packet.{Packet}
use Rattle.capture_reader.specs.declared.packet.Item.{Item}
use Rattle.capture_reader.specs.declared.packet.Item.TheVariants as items
use Rattle.capture_reader.specs.Captures.{Capture}
use Rattle.flat_list.specs.declared.header.Header.{Header}
use Rattle.flat_list.specs.Script.{Script}
use Rattle.flat_list.specs.declared.command.Command.{Command}
use Rattle.table_rule.specs.Alone.{mine}
use Rattle.table_rule.specs.Explained.{IsExplained, IsWholeExplained}
use Rattle.table_rule.specs.Plays.{seeing}
use Rattle.table_rule.specs.declared.view.Layout.{Layout}
use Rattle.table_rule.specs.declared.view.Receipt.{Receipt as Search}
use Rattle.table_rule.specs.declared.view.View.{View}
use Rattle.table_rule.specs.declared.view.Whole.{Whole}
use Rattle.race_book.specs.Among.{Among}
use Rattle.race_book.proofs.AmongLemmas.{among_left, among_right}
use Rattle.race_book.proofs.Endings.{each_of}
use Rattle.race_book.proofs.Joined.{each_flat}
use Rattle.race_record.specs.Record.{Race}
use Rattle.race_record.specs.Lawful.{Lawful, IsReceiptOf, Answers, AreAnswered, Follows, looked_at, AreTakenInTurn, AreSharesOf}
use Rattle.race_record.specs.declared.record.Looked.{Looked}
use Rattle.race_record.specs.declared.record.Looked.TheVariants as looks
use Rattle.race_run.specs.declared.looker.Look.{Look}
use Rattle.race_run.specs.Joins.{Part}
use Rattle.race_run.specs.Lookers.{IsLookup, IsLooked, item_at, item_of, Before, AllLooked, AreTold, looks_by, whole_for}
use Rattle.race_run.specs.Races.{HasEnded, SaysSo, race_by, steps_by, AreFew}
use Rattle.race_run.specs.Said.{Said}
use Rattle.race_run.specs.Sections.{layout_in}
use Rattle.race_run.proofs.Closing.{closes, good, each_there}
use Rattle.race_run.proofs.FromRaw.{explained, of_its_time, place_of}
use Rattle.race_run.proofs.Idle.{none_taken}
use Rattle.race_run.proofs.Reaped.{reaped as reaped_all}
use Rattle.race_run.proofs.Staged.{staged}
use Rattle.race_run.proofs.Weights.{among_flat, same_each, flipped}

-- the numbers below n
among_below : (n i : ℕ) → i < n → Among (numbers_below n) i
among_below zero i l = absurd (omega (arith, l))
among_below (suc n) i l = dite (ℕ_discrete i n)
    (λ e. among_right i (numbers_below n) (n ∷ []) (inl e))
    (λ ne. among_left i (numbers_below n) (n ∷ []) (among_below n i (omega (arith, l, ne))))

-- one answer for each item, if each place has one
module _ (In : Change → Type 0) (shape : Rattle.chain_book.specs.declared.shape.Shape.Shape) (seed clock : ℕ) where
  each_answer : (all : List Item) (looked : List Looked) → length looked ≡ length all → ((i : ℕ) → i < length all → Answers In shape seed clock (item_at all i) (looked_at looked i)) → AreAnswered In shape seed clock all looked
  each_answer [] [] e h = tt
  each_answer (x ∷ xs) (y ∷ ys) e h = (h 0 (omega arith), each_answer xs ys (omega (arith, e)) (λ i l. h (suc i) (omega (arith, l))))
  each_answer [] (y ∷ ys) e h = absurd (omega (arith, e))
  each_answer (x ∷ xs) [] e h = absurd (omega (arith, e))

module _ (script : Script) (capture : Capture) (part : ℕ → Part) (tooks : List (List Look)) (looked : List Looked) (passes : ℕ) (v : BindView) (x : View) (values : List (Box Bucket)) (says : List Said) (clock : ℕ)
    (e : HasEnded script.header script.sections part (length tooks) v x values says clock) (told : AreTold capture.items tooks looked) where
  abbrev header : Header
  header = script.header

  abbrev y : View
  y = seeing x clock

  abbrev race : Race
  race = race_by header (looks_by passes tooks looked capture) (steps_by header part 1 script.sections says e.done) values y clock

  abbrev In : Change → Type 0
  In c = Among race.book c

  -- a search of one that was joined is explained
  searched_at : (m : ℕ) → Among e.order m → (s : Search) → Among (part m).chain.read.receipts s → IsExplained (mine y) header.shape.slots s
  searched_at m there s h =
      let a : Among y.read.receipts s = subst (λ (l : List Search). Among l s) (sym e.joined.receipts) (among_flat (λ n. (part n).chain.read.receipts) e.order m s there h) in
      let p = place_of y.read.receipts s a in
      subst (λ (l : Layout). IsExplained (mine y) l.shape.slots s) e.layout ((e.whole.book e.whole.parts e.whole.opened).3 p.0 s p.1)

  -- a receipt of one that was joined is explained
  explained_at : (m : ℕ) → Among e.order m → (packet : Packet) (r : Receipt) → IsLookup header (part m).chain.read (part m).chain.seen packet r → (part m).chain.seen ≤ x.seen → IsReceiptOf In header.shape header.seed clock packet r
  explained_at m there packet r h seen =
      let a : Among y.read.wholes (whole_for r) = subst (λ (l : List Whole). Among l (whole_for r)) (sym e.joined.wholes) (among_flat (λ n. (part n).chain.read.wholes) e.order m (whole_for r) there h.there) in
      let p = place_of y.read.wholes (whole_for r) a in
      let b = e.whole.book e.whole.parts e.whole.opened in
      let w : IsWholeExplained (mine y) (layout_in header) (whole_for r) = subst (λ (l : Layout). IsWholeExplained (mine y) l (whole_for r)) e.layout (b.7 p.0 (whole_for r) p.1) in
      record {
        packet_is = h.packet_is;
        seed_is = h.seed_is;
        order = h.order;
        most = omega (arith, h.most, seen, e.later);
        explained = explained header y clock e.whole (good header script.sections part (length tooks) v x values says clock (looks_by passes tooks looked capture) e) r h.seed_is h.told w;
        stages = staged header y clock e.whole (good header script.sections part (length tooks) v x values says clock (looks_by passes tooks looked capture) e) (part m).chain.read.receipts (searched_at m there) packet header.seed r.t0 r.t1 r.answer h.told h.stages;
        life = of_its_time header y clock e.whole (good header script.sections part (length tooks) v x values says clock (looks_by passes tooks looked capture) e) r h.told w;
        bucket = h.bucket;
      }

  answered_at : (m : ℕ) → Among e.order m → (part m).chain.seen ≤ x.seen → (item : Item) (k : Looked) → IsLooked header (part m).chain.read (part m).chain.seen item k → Answers In header.shape header.seed clock item k
  answered_at m there seen (items.Packet packet) (looks.Answered r) h = explained_at m there packet r h seen
  answered_at m there seen items.Skip looks.Skip h = tt
  answered_at m there seen items.Short looks.Short h = tt
  answered_at m there seen (items.Packet packet) looks.Skip h = absurd h
  answered_at m there seen (items.Packet packet) looks.Short h = absurd h
  answered_at m there seen items.Skip (looks.Answered r) h = absurd h
  answered_at m there seen items.Skip looks.Short h = absurd h
  answered_at m there seen items.Short (looks.Answered r) h = absurd h
  answered_at m there seen items.Short looks.Skip h = absurd h

  abbrev IsRight : ℕ → Type 0
  IsRight i = Answers In header.shape header.seed clock (item_at capture.items i) (looked_at looked i)

  abbrev Tells : Look → Type 0
  Tells k = looked_at looked k.item ≡ k.looked

  -- of each looker
  right_all : (n : ℕ) (rest : List (List Look)) → AllLooked header passes capture.items part n rest → Each (λ took. Each Tells took) rest → Each (λ m. Among e.order m × ((part m).chain.seen ≤ x.seen)) (range_with_len n (length rest))
      → Each (λ took. Each IsRight (map item_of took)) rest
  right_all n [] a t h = tt
  right_all n (took ∷ rest) a t h = (
    each_map IsRight item_of took
        (each_weaken (λ (k : Look). IsLooked header (part n).chain.read (part n).chain.seen (item_at capture.items k.item) k.looked × Tells k) (λ k. IsRight k.item) took
        (λ k z. subst (Answers In header.shape header.seed clock (item_at capture.items k.item)) (sym z.1) (answered_at n h.0.0 h.0.1 (item_at capture.items k.item) k.looked z.0))
        (each_both (λ (k : Look). IsLooked header (part n).chain.read (part n).chain.seen (item_at capture.items k.item) k.looked) Tells took a.0.each t.0)),
    right_all (n + 1) rest a.1 t.1 h.1,
  )

  turn_all : (n : ℕ) (rest : List (List Look)) → AllLooked header passes capture.items part n rest → Each (λ took. Each Tells took) rest → Each (AreTakenInTurn looked) (map (λ took. map item_of took) rest)
  turn_all n [] a t = tt
  turn_all n (took ∷ rest) a t = (
    record {
      ascend = pairs_map (λ (i j : ℕ). i < j) item_of took (pairs_weaken Before (λ (k l : Look). k.item < l.item) took (λ k l z. z.0) a.0.turns);
      turns = pairs_map (λ (i j : ℕ). Follows (looked_at looked i) (looked_at looked j)) item_of took
          (pairs_weaken (λ (k l : Look). Before k l × (Tells k × Tells l)) (λ (k l : Look). Follows (looked_at looked k.item) (looked_at looked l.item)) took
          (λ k l z. subst (λ a. Follows a (looked_at looked l.item)) (sym z.1.0) (subst (Follows k.looked) (sym z.1.1) z.0.1))
          (pairs_both Before (λ (k l : Look). Tells k × Tells l) took a.0.turns (pairs_of_each Tells took t.0)));
    },
    turn_all (n + 1) rest a.1 t.1,
  )

  module _ (all : AllLooked header passes capture.items part (length script.sections + 1) tooks) where
    there_all : Each (λ m. Among e.order m × ((part m).chain.seen ≤ x.seen)) (range_with_len (length script.sections + 1) (length tooks))
    there_all = each_there header script.sections part (length tooks) v x values says clock (looks_by passes tooks looked capture) e

    right_each : (i : ℕ) → i < length capture.items → IsRight i
    right_each i l = each_of IsRight (numbers_below (length capture.items))
        (same_each IsRight (numbers_below (length capture.items)) (flat_map (λ took. map item_of took) tooks) (flipped (flat_map (λ took. map item_of took) tooks) (numbers_below (length capture.items)) told.once)
        (each_flat IsRight (λ took. map item_of took) tooks (right_all (length script.sections + 1) tooks all told.told there_all)))
        i (among_below (length capture.items) i l)

    shares : AreSharesOf race
    shares = record {
      count = length-map tooks (λ took. map item_of took);
      each_once = shares_once;
      turns = turn_all (length script.sections + 1) tooks all told.told;
    }
      where
        flat_shares : (l : List (List Look)) → flat_map (λ (mine : List ℕ). mine) (map (λ took. map item_of took) l) ≡ flat_map (λ took. map item_of took) l
        flat_shares [] = refl
        flat_shares (t ∷ l) = ap (λ r. map item_of t ++ r) (flat_shares l)

        shares_once : (f : ℕ → ℕ) → total f (flat_map (λ (mine : List ℕ). mine) (map (λ took. map item_of took) tooks)) ≡ total f (numbers_below (length looked))
        shares_once f = ap (total f) (flat_shares tooks) ∙ told.once f ∙ ap (λ n. total f (numbers_below n)) (sym told.count)

    pub looks_too : Each AreFew script.sections → Lawful script capture race × SaysSo race says
    looks_too few =
        let reaped = reaped_all header script.sections part (length tooks) v x values says clock (looks_by passes tooks looked capture) e few in
        let c = closes header script.sections part (length tooks) v x values says clock (looks_by passes tooks looked capture) e reaped in
        let l = c.0 in (
          record {
            shape = l.shape;
            seed = l.seed;
            sections = l.sections;
            spans = l.spans;
            journals = l.journals;
            book = l.book;
            serial = l.serial;
            taken = l.taken;
            given = l.given;
            slots = l.slots;
            counted = λ none. none_taken header part script.sections tooks says e.done passes capture.items none all e.order e.each_once x.slot.taken e.joined.taken;
            dumps = l.dumps;
            items = each_answer In header.shape header.seed clock capture.items looked told.count right_each;
            shares = shares;
            cut = refl;
          },
          c.1,
        )

-- The searches of lookers are explained

pub searches_explained : (header : Header) (scripts : List (List Command)) (part : ℕ → Part) (lookers : ℕ) (v : BindView) (x : View) (values : List (Box Bucket)) (says : List Said) (clock : ℕ)
    → HasEnded header scripts part lookers v x values says clock
    → Each (λ m. (s : Search) → Among (part m).chain.read.receipts s → IsExplained (mine (seeing x clock)) header.shape.slots s) (range_with_len (length scripts + 1) lookers)
searches_explained header scripts part lookers v x values says clock e =
    each_weaken (λ m. Among e.order m × ((part m).chain.seen ≤ x.seen)) (λ m. (s : Search) → Among (part m).chain.read.receipts s → IsExplained (mine (seeing x clock)) header.shape.slots s) (range_with_len (length scripts + 1) lookers)
    (λ m there s h.
    let y : View = seeing x clock in
    let a : Among y.read.receipts s = subst (λ (l : List Search). Among l s) (sym e.joined.receipts) (among_flat (λ n. (part n).chain.read.receipts) e.order m s there.0 h) in
    let p = place_of y.read.receipts s a in
    subst (λ (l : Layout). IsExplained (mine y) l.shape.slots s) e.layout ((e.whole.book e.whole.parts e.whole.opened).3 p.0 s p.1))
    (each_there header scripts part lookers v x values says clock (record { lookers = 0; passes = 0; looked = []; shares = []; cut = false }) e)
