-- What a packet finds by chains and lists that one worker made alone is what it finds in the flat list
-- that they mean.
use Rattle.std.proofs.Common.{◌≡◌, ◌≢◌, ℕ, zero, suc, ◌+◌, ◌-◌, ◌*◌, ◌/◌, ◌%◌, ◌^◌, ◌<◌, ◌≤◌, Bool, true, false, cond, not, ◌||◌, ◌==◌, nat_lt, List, [], ◌∷◌, length, get_or, Option, Some, None, refl, sym, ap, ◌∙◌, subst, inl, inr, ⊎_elim, arith}
use lib.ListN.{get_elem?}
use Rattle.std.specs.Prelude.{count_by}
use Rattle.std.proofs.lemmas.Bool.{both_ways, ltb-false, cases_lt, eq-eqb}
use Rattle.std.proofs.lemmas.Bool.Decides.{nat_tests}
use Rattle.std.proofs.lemmas.List.FromFn.{length-map-range_with_len, get_or-map-range_with_len}
use Rattle.list_words.specs.Lists.{total}
use Rattle.list_words.proofs.EachLemmas.{some_same}
use Rattle.sock_card.specs.declared.card.Card.{Card}
use Rattle.sock_card.specs.declared.card.Kind.{Kind}
use Rattle.sock_card.specs.declared.card.Kind.TheVariants as kinds
use Rattle.sock_card.specs.declared.card.Packet.{Packet}
use Rattle.sock_card.specs.Rank.{rank, rank_as, takes_device, takes_port}
use Rattle.sock_card.specs.Words.{packed, unpacked}
use Rattle.sock_card.proofs.Most.{rank_most}
use Rattle.turn_table.specs.declared.note.Placed.{Placed}
use Rattle.bind_buckets.specs.BindHash.{untouched}
use Rattle.bind_buckets.specs.Journal.{Standing}
use Rattle.bind_buckets.specs.Turned.{standing_by}
use Rattle.bind_buckets.specs.declared.request.Entry.{Entry}
use Rattle.chain_book.specs.declared.book.PacketAnswer.{PacketAnswer}
use Rattle.chain_book.specs.declared.book.PacketAnswer.TheVariants as answers
use Rattle.chain_book.specs.declared.outcome.Hashed.{Hashed}
use Rattle.chain_book.specs.Chains.{has_slot}
use Rattle.chain_book.specs.Homes.{packet_hash}
use Rattle.flat_list.specs.Flat.{Flat}
use Rattle.flat_list.specs.Look.{look, group_of}
use Rattle.flat_list.specs.Sound.{IsSound}
use Rattle.jhash_words.specs.Places.{scale}
use Rattle.null_reader.specs.Looked.{LookedAs, words_end}
use Rattle.null_reader.specs.declared.answers.LookEnd.{LookEnd}
use Rattle.null_reader.specs.declared.answers.LookEnd.TheVariants as looks
use Rattle.null_reader.specs.declared.answers.WordsEnd.{WordsEnd}
use Rattle.null_reader.specs.declared.answers.WordsEnd.TheVariants as ends
use Rattle.reuseport_group.specs.Member.{slot_of, AreMembers}
use Rattle.reuseport_group.specs.Passes.{IsSole, published}
use Rattle.reuseport_group.specs.Pick.{pick}
use Rattle.reuseport_group.specs.declared.choice.Choice.{Choice}
use Rattle.reuseport_group.specs.declared.pass.GroupPasses.{GroupPasses}
use Rattle.demux.specs.Chosen.{group_as, group_in, Chosen, ChosenBy, IsLike, Picked}
use Rattle.demux.specs.Concludes.{AfterFull, AfterListener, ByOrder, whole_to}
use Rattle.established.specs.Finds.{card_rank}
use Rattle.listeners.specs.Finds.{InOrder}
use Rattle.established.specs.Homes.{full_home}
use Rattle.sock_ops.specs.Groups.{list_by, words_in}
use Rattle.sock_slots.specs.declared.holds.Held.{Held}
use Rattle.established.specs.Alone.{chains_of}
use Rattle.table_model.specs.Goes.{tables_by}
use Rattle.table_model.specs.Means.{TablesMean, IsShape, count_in_slot}
use Rattle.table_model.specs.Tables.{Tables}
use Rattle.table_rule.specs.Alone.{IsAlone, IsGone, IsSoleWhole, SlotStands}
use Rattle.table_rule.specs.Book.{Part, InBook, Ends}
use Rattle.table_rule.specs.Plays.{Sat}
use Rattle.table_rule.specs.Rule.{book_part}
use Rattle.table_rule.specs.Sole.{IsNow, WholeBook, used_in}
use Rattle.table_rule.specs.Words.{card_from, words_of}
use Rattle.table_rule.specs.declared.view.Change.{Change}
use Rattle.table_rule.specs.declared.view.Layout.{Layout}
use Rattle.table_rule.specs.declared.view.View.{View}
use Rattle.table_rule.specs.declared.view.Whole.{Whole}
use Rattle.table_rule.proofs.Summing.{words_rank}
use Rattle.race_run.specs.Looks.{card_of, IsTold}
use Rattle.list_words.proofs.Items.{In, count_in}
use Rattle.race_run.proofs.CardsOf.{cards, no_group, some_group, HasNumber}
use Rattle.race_run.proofs.CardsBest.{top, look_best, look_alone, look_none}
use Rattle.race_run.proofs.LooksGroup.{Member, words, are_members, some_words, some_pick, word, taken, word_slot, word_name, member_there, member_is, member_like}
use Rattle.race_run.proofs.Standing.{WasHashed, was_hashed, stands_in, all_below, one_up, told_rank}

-- Ranks and groups

-- the rank of a listener, by what it is asked: port, device, address, no device of its own, any address
abbrev ranked : Bool → Bool → Bool → Bool → Bool → ℕ
ranked p d l n z = cond (not p || not d) 0 (cond l (cond n 3 4) (cond z (cond n 1 2) 0))

no_five : (p d l n z : Bool) → ranked p d l n z ≡ 5 → ⊥
no_five false d l n z h = absurd (omega (arith, h))
no_five true false l n z h = absurd (omega (arith, h))
no_five true true true true z h = absurd (omega (arith, h))
no_five true true true false z h = absurd (omega (arith, h))
no_five true true false true true h = absurd (omega (arith, h))
no_five true true false false true h = absurd (omega (arith, h))
no_five true true false true false h = absurd (omega (arith, h))
no_five true true false false false h = absurd (omega (arith, h))

five_as : (k : Kind) (c : Card) (packet : Packet) (count : ℕ) → rank_as k c packet ≡ 5 → group_as k c.extra count ≡ None
five_as kinds.Full c packet count h = refl
five_as kinds.TimeWait c packet count h = refl
five_as kinds.Request c packet count h = refl
five_as kinds.Listen c packet count h =
    absurd (no_five (takes_port c packet) (takes_device c packet) (c.local == packet.dst) (c.dev == 0) (c.local == 0) h)

-- a connected socket names no group
five_alone : (c : Card) (packet : Packet) (count : ℕ) → rank c packet ≡ 5 → group_in c count ≡ None
unfolding rank
five_alone c packet count h = five_as c.kind c packet count h

low_at : (extra count n : ℕ) (b c : Bool) → (extra == 0) ≡ b → nat_lt count extra ≡ c → cond {A = Option ℕ} (b || c) None (Some (extra - 1)) ≡ Some n → n < count
low_at extra count n true c e f h = absurd (cc)
low_at extra count n false true e f h = absurd (cc)
low_at extra count n false false e f h =
    let some : extra ≢ 0 = λ q. let yes : (extra == 0) ≡ true = grind (arith, nat_tests) in both_ways (extra == 0) e yes in
    omega (arith, some, ltb-false count extra f, some_same (extra - 1) n h)

-- a group that is named is one of so many
group_low : (k : Kind) (extra count n : ℕ) → group_as k extra count ≡ Some n → n < count
group_low kinds.Listen extra count n h = low_at extra count n (extra == 0) (nat_lt count extra) refl refl h
group_low kinds.Full extra count n h = absurd (cc)
group_low kinds.TimeWait extra count n h = absurd (cc)
group_low kinds.Request extra count n h = absurd (cc)

-- what was picked is at the place to which the hash is scaled
picked_at : (ms : List ℕ) (hash : ℕ) (c : Choice) → Some c ≡ pick ms hash → (1 ≤ length ms) × (c.member ≡ get_or ms (scale hash (length ms)) 0)
picked_at [] hash c h = absurd (cc)
picked_at (m ∷ ms) hash c h = (omega arith, ap (λ (d : Choice). d.member) (some_same c _ h))

-- Slots

past : (xs : List Bool) (i : ℕ) → length xs ≤ i → get_or xs i false ≡ false
past [] i l = refl
past (x ∷ xs) zero l = absurd (omega (arith, l))
past (x ∷ xs) (suc i) l = past xs i (omega (arith, l))

row_total : (f : List Hashed → ℕ) (rows : List (List Hashed)) (b : ℕ) (x : Hashed) → In x (get_or rows b []) → f (get_or rows b []) ≤ total f rows
row_total f [] b x i = absurd i
row_total f (r ∷ rows) zero x i = omega arith
row_total f (r ∷ rows) (suc b) x i = omega (arith, row_total f rows b x i)

-- a slot in which a card stands is one of the slots
slot_low : (rows : List (List Hashed)) (used : List Bool) (b : ℕ) (x : Hashed) → In x (get_or rows b []) → count_in_slot x.slot rows ≡ cond {A = ℕ} (get_or used x.slot false) 1 0 → x.slot < length used
slot_low rows used b x i h =
    let one : 1 ≤ count_by (has_slot x.slot) (get_or rows b []) = count_in (has_slot x.slot) x (get_or rows b []) i (eq-eqb x.slot x.slot refl) in
    let all : count_by (has_slot x.slot) (get_or rows b []) ≤ count_in_slot x.slot rows = row_total (λ row. count_by (has_slot x.slot) row) rows b x i in
    elim (cases_lt x.slot (length used)) [
      | inl low ↦ low
      | inr high ↦ absurd (omega (arith, one, all, h, ap (λ (k : Bool). cond {A = ℕ} k 1 0) (past used x.slot high)))
    ]

-- What a part of the lookup leaves

-- the same changes, and the same right to know them all
record SameBook (v w : View) : Type 0 where
  part : book_part w ≡ book_part v
  parts : w.slot.parts ≡ v.slot.parts

same_of : (m n : Sat) (w : View) → n ≡ (w, m.1) → book_part w ≡ book_part m.0 → w.slot.parts ≡ m.0.slot.parts → SameBook m.0 n.0
same_of m n w e part parts = record { part = ap (λ (s : Sat). book_part s.0) e ∙ part; parts = ap (λ (s : Sat). s.0.slot.parts) e ∙ parts }

same_on : (u v w : View) → SameBook u v → SameBook v w → SameBook u w
same_on u v w a b = record { part = b.part ∙ a.part; parts = b.parts ∙ a.parts }

looked_same : (bucket : ℕ) (packet : Packet) (least passes : ℕ) (m : Sat) (end : WordsEnd) (from to : ℕ) (n : Sat) → LookedAs bucket packet least passes m end from to n → SameBook m.0 n.0
looked_same bucket packet least passes m (ends.Found h card) from to n l = same_of m n _ l.6 refl refl
looked_same bucket packet least passes m ends.None from to n l = same_of m n _ l.3 refl refl
looked_same bucket packet least passes m (ends.Again b stop) from to n l = same_of m n _ l.1.4 refl refl

order_same : (layout : Layout) (packet : Packet) (passes : ℕ) (m : Sat) (end : LookEnd) (from to : ℕ) (n : Sat) → InOrder layout packet passes m end from to n → SameBook m.0 n.0
order_same layout packet passes m end from to n o =
    ⊎_elim
    (λ t. looked_same _ packet 3 passes m (words_end end) from to n t.1)
    (λ t. same_on m.0 t.2.0 n.0 (looked_same _ packet 3 passes m (words_end looks.None) from t.0 t.2 t.4) (looked_same _ packet 1 passes t.2 (words_end end) t.1 to n t.5))
    o

-- a listener that was found matches
order_matches : (layout : Layout) (packet : Packet) (passes : ℕ) (m : Sat) (held : Held) (best : Card) (from to : ℕ) (n : Sat) → InOrder layout packet passes m (looks.Found held best) from to n → 1 ≤ card_rank packet best
order_matches layout packet passes m held best from to n o =
    ⊎_elim (λ t. omega (arith, t.1.3)) (λ t. t.5.3) o

-- the card of an answer that found one
abbrev the_card : Card → PacketAnswer → Card
the_card other (answers.Found card) = card
the_card other _ = other

module _ (m : Sat) (now : IsNow m.0) (clock : ℕ) (whole : WholeBook m.0 clock) (layout : Layout) (laid : m.0.layout ≡ layout) (fits : layout.shape.slots < 2 ^ 32) (next count : ℕ) (given : List (Placed Entry)) (p : GroupPasses) (sole : IsSole p) (many : ℕ) (many_is : many ≡ 8 * count) (listed : (group : ℕ) → group < many → published p group ≡ list_by given group)
    (flat : Flat) (packet : Packet) (shape : IsShape flat.header) (sound : IsSound flat) (mean : TablesMean (tables_by count given (chains_of layout next m.0.book.closed)) flat) where
  abbrev t : Tables
  t = tables_by count given (chains_of layout next m.0.book.closed)

  abbrev all : List Card
  all = cards flat sound

  abbrev hash : ℕ
  hash = packet_hash packet layout.seed

  abbrev looked : Option Card
  looked = look packet layout.seed flat.sockets flat.groups

  buckets : length t.buckets ≡ count
  buckets = length-map-range_with_len (standing_by given) 0 count

  many_bind : many ≡ 8 * flat.header.shape.bind
  many_bind = omega (arith, many_is, buckets, mean.owners.count)

  -- the lists that are published are those of the buckets
  module _ (n : ℕ) (low : n < many) where
    inside : n / 8 < length t.buckets
    inside = omega (arith, low, many_is, buckets)

    abbrev list : List ℕ
    list = words t flat shape sound mean n inside

    published_is : published p n ≡ list
    published_is =
        listed n low ∙ ap (λ (s : Standing). words_in s.held n) (sym (get_or-map-range_with_len (standing_by given) 0 count (n / 8) (n / 8) untouched (omega (arith, inside, buckets)) (omega arith)))

    picked_is : (choice : Option Choice) → Picked p n hash choice → choice ≡ pick list hash
    picked_is choice h =
        h sole (subst AreMembers (sym published_is) (are_members t flat shape sound mean n inside)) ∙ ap (λ ws. pick ws hash) published_is

  -- an answer that stands, and above which none does
  module _ (card : Card) (told : unpacked (packed card) ≡ card) (within : In card all) (below : (c : Card) → In c all → rank c packet ≤ rank card packet) where
    rank_is : card_rank packet card ≡ rank card packet
    rank_is = told_rank packet card told

    in_none : 1 ≤ rank card packet → group_in card many ≡ None → Some card ≡ looked
    in_none matches none =
        sym (look_alone flat sound packet layout.seed card within (top flat sound packet card within matches below) (no_group flat sound shape.bind many many_bind card within none))

    connected : 5 ≤ rank card packet → Some card ≡ looked
    connected five =
        in_none (omega (arith, five)) (five_alone card packet many (omega (arith, five, rank_most card packet)))

    -- by the choice of a group, at what the pass knew then
    module _ (k : Sat) (same : SameBook m.0 k.0) (later : m.0.seen ≤ k.0.seen) (best : Card) (matches : 1 ≤ card_rank packet best) (n : ℕ) (is : group_in best many ≡ Some n) where
      low : n < many
      low = group_low best.kind best.extra many n is

      abbrev ws : List ℕ
      ws = list n low

      -- of the best itself
      number : card ≡ best → HasNumber (group_of card.name flat.groups) n
      number itself = some_group flat sound shape.bind many many_bind card n within (ap (λ (c : Card). group_in c many) itself ∙ is)

      has_words : card ≡ best → 1 ≤ length ws
      has_words itself = some_words t flat shape sound mean n (inside n low) card (number itself)

      -- of the member that the hash chooses
      module _ (some_ws : 1 ≤ length ws) where
        abbrev chosen_word : ℕ
        chosen_word = word t flat shape sound mean n (inside n low) packet layout.seed some_ws

        there : Member t flat shape sound mean (taken t flat shape sound mean n (inside n low) packet layout.seed some_ws)
        there = member_there t flat shape sound mean n (inside n low) packet layout.seed some_ws

        was : WasHashed m.0 now clock whole layout next there.row there.hashed
        was = was_hashed m.0 now clock whole layout next there.row there.hashed there.there

        inside_there : there.hashed.slot < layout.shape.slots
        inside_there =
            let low = slot_low t.chains.rows t.chains.slots.used there.row there.hashed there.there (mean.chains.alone there.hashed.slot) in
            omega (arith, low, length-map-range_with_len (used_in m.0.book.closed) 0 layout.shape.slots)

        slot_is : was.hash.slot ≡ slot_of chosen_word
        unfolding there
        slot_is =
            let small : there.hashed.slot + 1 < 2 ^ 32 = omega (arith, inside_there, fits) in
            was.slot ∙ sym (word_slot t flat shape sound mean n (inside n low) packet layout.seed some_ws small)

        inside_slots : slot_of chosen_word < layout.shape.slots
        inside_slots = subst (λ k. k < layout.shape.slots) (sym was.slot ∙ slot_is) inside_there

        not_gone : IsGone k.0 (slot_of chosen_word) → ⊥
        not_gone gone =
            let e = gone (same.parts ∙ now.bare.0.all) (ap (λ (q : Part). q.book.opened) same.part ∙ now.idle) was.hash (subst (λ (q : Part). InBook (q ∷ []) was.hash) (sym same.part) was.there) was.is-hash slot_is in
            was.up e.0 (subst (λ (q : Part). Ends (q ∷ []) e.0 was.hash) same.part e.1)

        -- the card that stands in its slot is its own, since a slot is one card's alone
        own_card : (other : Card) → SlotStands k.0 (slot_of chosen_word) (words_of (packed other)) → unpacked (packed other) ≡ there.hashed.card
        own_card other st =
            let one : st.hash ≡ was.hash = one_up m.0 now clock whole st.hash was.hash (subst (λ (q : Part). InBook (q ∷ []) st.hash) same.part st.there) was.there st.is-hash was.is-hash (st.slot-is ∙ sym slot_is)
            (λ u e. st.stands u (subst (λ (q : Part). Ends (q ∷ []) u st.hash) (sym same.part) e)) was.up in
            ap card_from (sym st.card-is ∙ ap (λ (c : Change). c.card) one) ∙ was.card

        like : card ≡ best → (other : Card) → SlotStands k.0 (slot_of chosen_word) (words_of (packed other)) → IsLike packet best chosen_word other
        unfolding there
        like itself other st =
            let card_is = own_card other st in (
              ap (λ (c : Card). c.name % 2 ^ 32) card_is ∙ sym (word_name t flat shape sound mean n (inside n low) packet layout.seed some_ws),
              words_rank packet (words_of (packed other))
                  ∙ (ap (λ (c : Card). rank c packet) card_is
                  ∙ (member_like t flat shape sound mean n (inside n low) packet layout.seed some_ws card within (number itself)
                  ∙ (sym rank_is ∙ ap (card_rank packet) itself))),
            )

        standing : IsAlone k.0 k.0.seen
        standing = record {
          parts = same.parts ∙ now.bare.0.all;
          closed = ap (λ (q : Part). q.book.opened) same.part ∙ now.idle;
          before = λ i c e. omega (arith, later, now.recent i c (ap (λ (q : Part). get_elem? q.book.closed i) (sym same.part) ∙ e));
        }

        module _ (n' : Sat) where
          by_chosen : Chosen layout.shape.slots packet k best chosen_word card n' → Some card ≡ looked
          unfolding there
          by_chosen (inl h) = absurd (omega (arith, inside_slots, h.0))
          by_chosen (inr (inl h)) = absurd (not_gone h.3)
          by_chosen (inr (inr h)) = elim h.1.3 [
            | inl z ↦
                let is : card ≡ there.hashed.card = sym told ∙ (ap (λ (c : Card). unpacked (packed c)) z.1 ∙ own_card h.1.0 (h.1.2 k.0.seen standing (omega arith))) in
                let some : 1 ≤ rank card packet = omega (arith, matches, z.0.1, ap (card_rank packet) z.1, rank_is) in
                sym (look_best flat sound packet layout.seed card within (top flat sound packet card within some below)
                ∙ member_is t flat shape sound mean n (inside n low) packet layout.seed some_ws card within (ap (λ (c : Card). c.name) is))
            | inr z ↦ absurd (z.0 (like z.1 h.1.0 (h.1.2 k.0.seen standing (omega arith))))
          ]

      by_choice : (choice : Option Choice) (n' : Sat) → choice ≡ pick ws hash → ChosenBy layout.shape.slots packet k best choice card n' → Some card ≡ looked
      by_choice None n' e h = absurd (let z : None ≡ Some _ = e ∙ some_pick ws hash (has_words h.0) in cc)
      by_choice (Some c) n' e h =
          let at = picked_at ws hash c e in
          by_chosen at.0 n' (subst (λ w. Chosen layout.shape.slots packet k best w card n') at.1 h)

    after_listener : (end : LookEnd) (passes : ℕ) (j k : Sat) (from to : ℕ) (p' : GroupPasses) (c : Whole) (n : Sat) → SameBook m.0 j.0 → m.0.seen ≤ k.0.seen
        → InOrder layout packet passes j end from to k → AfterListener layout.shape.slots many layout.seed packet k p end (answers.Found card) p' c n → Some card ≡ looked
    after_listener (looks.Found held best) passes j k from to p' c n same later o a =
        let card_is : card ≡ a.0 = ap (the_card card) a.3 in
        let some : 1 ≤ card_rank packet best = order_matches layout packet passes j held best from to k o in
        let at : SameBook m.0 k.0 = same_on m.0 j.0 k.0 same (order_same layout packet passes j (looks.Found held best) from to k o) in
        elim a.4 [
          | inl g ↦
              let itself : card ≡ best = card_is ∙ g.1 in
              in_none (omega (arith, some, ap (card_rank packet) itself, rank_is)) (ap (λ (d : Card). group_in d many) itself ∙ g.0)
          | inr g ↦
              by_choice k at later best some g.0 g.1 g.2.0 a.1 (picked_is g.0 (low k at later best some g.0 g.1) g.2.0 g.2.2)
              (subst (λ (d : Card). ChosenBy layout.shape.slots packet k best g.2.0 d a.1) (sym card_is) g.2.3)
        ]
    after_listener looks.None passes j k from to p' c n same later o a = absurd (let z = a.0 in cc)
    after_listener (looks.Again bucket stop) passes j k from to p' c n same later o a = absurd (let z = a.0 in cc)

    after_full : (end : LookEnd) (passes : ℕ) (k : Sat) (from to : ℕ) (p' : GroupPasses) (c : Whole) (n : Sat) → m.0.seen ≤ k.0.seen
        → LookedAs (full_home layout packet) packet 5 passes m (words_end end) from to k → AfterFull layout.shape.slots many layout packet passes k p end (answers.Found card) p' c n → Some card ≡ looked
    after_full (looks.Found held found) passes k from to p' c n later l a =
        let card_is : card ≡ found = ap (the_card card) a.1 in
        connected (omega (arith, l.3, ap (card_rank packet) card_is, rank_is))
    after_full looks.None passes k from to p' c n later l a =
        after_listener a.0 passes k a.3 a.1 a.2 p' c n (looked_same (full_home layout packet) packet 5 passes m (words_end looks.None) from to k l) (omega (arith, later, a.6)) a.4 a.5
    after_full (looks.Again bucket stop) passes k from to p' c n later l a = absurd (let z = a.0 in cc)

  by_end : (end : PacketAnswer) (passes : ℕ) (p' : GroupPasses) (from to : ℕ) (n : Sat) → IsTold end → IsSoleWhole m.0 (whole_to packet layout.seed from to end)
      → ByOrder layout.shape.slots many layout packet passes m p end p' from (whole_to packet layout.seed from to end) n → card_of end ≡ looked
  by_end (answers.Found card) passes p' from to n told is o =
      let stands = (is.found refl).0 in
      let none = (is.found refl).1 in
      let within = stands_in m.0 now clock whole layout next laid flat shape mean.chains card told stands in
      let below : (c : Card) → In c all → rank c packet ≤ rank card packet =
      λ c i. omega (arith, all_below m.0 now clock whole layout next laid flat shape mean.chains packet (card_rank packet card) none c i, told_rank packet card told) in
      after_full card told within below o.0 passes o.2 from o.1 p' _ n o.5 o.3 o.4
  by_end answers.None passes p' from to n told is o =
      sym (look_none flat sound packet layout.seed (all_below m.0 now clock whole layout next laid flat shape mean.chains packet 0 (is.none refl)))
  by_end (answers.Again bucket end) passes p' from to n told is o = absurd (is.again refl)

  -- the answer is the list's
  pub answered : (end : PacketAnswer) (passes : ℕ) (p' : GroupPasses) (from to : ℕ) (n : Sat) → IsTold end → IsSoleWhole m.0 (whole_to packet layout.seed from to end)
      → ByOrder layout.shape.slots many layout packet passes m p end p' from (whole_to packet layout.seed from to end) n → card_of end ≡ look packet flat.header.seed flat.sockets flat.groups
  answered end passes p' from to n told is o =
      by_end end passes p' from to n told is o ∙ ap (λ s. look packet s flat.sockets flat.groups) mean.chains.seed
