-- Each TIME_WAIT that a section left, and that is over when the section reaps, is on its way out before the reaping
-- ends.
use Rattle.std.proofs.Common.{◌≡◌, ℕ, ◌+◌, ◌-◌, ◌*◌, ◌/◌, ◌^◌, ◌<◌, ◌≤◌, true, IsTrue, List, [], ◌∷◌, length, Option, None, Some, refl, sym, ap, ◌∙◌, subst, arith, ◌⊎◌, inl, inr, ⊎_elim}
use Rattle.std.proofs.lemmas.Bool.{leb-true}
use Rattle.std.proofs.lemmas.Nat.{div-mul-add}
use Rattle.std.proofs.lemmas.Grind.{flat_map-append}
use Rattle.list_words.specs.Lists.{Each, Pairs}
use Rattle.sock_card.specs.declared.card.Card.{Card}
use Rattle.sock_card.specs.declared.card.Kind.TheVariants as kinds
use Rattle.sock_card.specs.TimeWait.{expired}
use Rattle.chain_book.specs.declared.book.Change.{Change}
use Rattle.flat_list.specs.declared.header.Header.{Header}
use Rattle.flat_list.specs.declared.command.Command.{Command}
use Rattle.flat_list.specs.declared.command.Command.TheVariants as commands
use Rattle.table_rule.specs.declared.view.Sight.{Sight}
use Rattle.table_model.specs.Own.{Own, Mine, is_over, card_of, next_name}
use Rattle.table_model.specs.Commands.{Replied, answers, plan}
use Rattle.race_book.specs.Among.{Among}
use Rattle.race_book.specs.Lives.{IsLife, Ends, Leaves}
use Rattle.race_book.specs.Serial.{EachEndsOne}
use Rattle.race_book.proofs.AmongLemmas.{among_either, among_left, among_right}
use Rattle.race_book.proofs.Endings.{each_of}
use Rattle.race_record.specs.Deeds.{Deed, Tried, hashed, kept_out, no_slot, entered, inserted, added, left, reaped, changes_of, changes_in, changes_tried, drawn_of, drawn_in, drawn_in_try}
use Rattle.race_record.specs.Goes.{IsReapOf}
use Rattle.race_record.specs.Record.{Step, deeds_of}
use Rattle.race_record.specs.Lawful.{IsSpanned, Precedes, ExpiredLeave, ReapsAll}
use Rattle.race_record.proofs.Turns.{goes_once}
use Rattle.race_run.specs.Made.{SawNoWait, IsBy, missed_of, missed_in}
use Rattle.race_run.specs.Races.{AreReaped}
use Rattle.race_run.specs.Sections.{Makes, IsShown, layout_in}
use Rattle.race_run.proofs.Plans.{Grows, IsWait}
use Rattle.race_run.proofs.Waiting.{Open, Rests, Seeks, Turn, is_reap, turn}
use Rattle.race_run.proofs.Weights.{among_flat}

-- Names

-- the names of open sockets are those of the section's labels
abbrev pub Inside : Own → Type 0
Inside own = (n : ℕ) → Open own n → (own.number * 2 ^ 56 < n) × (n < next_name own)

inside_next : (own next : Own) → Inside own → Grows own next → Inside next
inside_next own next i g n o = ⊎_elim
    (λ a. let b = i n a in (omega (arith, b.0, g.number), omega (arith, b.1, g.number, g.least)))
    (λ z. (omega (arith, z.0, g.number), omega (arith, z.0, z.1, g.number))) (g.names n o)

section_by : (n name k : ℕ) → n * 2 ^ 56 < name → name < n * 2 ^ 56 + k + 1 → k < 2 ^ 56 → name / 2 ^ 56 ≡ n
section_by n name k low high few =
    ap (λ x. x / 2 ^ 56) (let e : name ≡ n * 2 ^ 56 + (name - n * 2 ^ 56) = omega (arith, low) in e)
    ∙ div-mul-add n (2 ^ 56) (name - n * 2 ^ 56) (omega (arith, low, high, few))

-- a TIME_WAIT that is still to be hashed
pub record Fresh (own : Own) (h : Change) : Type 0 where
  pub live : Open own h.card.name ⊎ (next_name own ≤ h.card.name)
  pub late : own.moment ≤ h.card.extra
  pub section : h.card.name / 2 ^ 56 ≡ own.number

fresh_here : (own next : Own) (h : Change) → Inside own → length own.labels < 2 ^ 56 → Rests own next h → Fresh own h
fresh_here own next h i few r =
    let b = i h.card.name r.was in
    record {
      live = inl r.was;
      late = omega (arith, ap (λ (x : Card). x.extra) r.card, r.stamp);
      section = section_by own.number h.card.name (length own.labels) b.0 b.1 few;
    }

fresh_later : (own next : Own) (h : Change) → Grows own next → Fresh next h → Fresh own h
fresh_later own next h g f = record {
  live = ⊎_elim
      (λ o. ⊎_elim inl (λ z. inr (omega (arith, z.0))) (g.names h.card.name o))
      (λ l. inr (omega (arith, l, g.number, g.least))) f.live;
  late = omega (arith, f.late, g.moment);
  section = f.section ∙ g.number;
}

-- a name that a TIME_WAIT took is no later one's
apart : (own next : Own) (g h : Change) → Inside own → Grows own next → Rests own next g → Fresh next h → g.card.name ≡ h.card.name → ⊥
apart own next g h i grows r f e = ⊎_elim
    (λ o. r.gone (subst (Open next) (sym e) o))
    (λ l. absurd (omega (arith, (i g.card.name r.was).1, l, e, grows.least, grows.number))) f.live

-- Steps

split_changes : (s : Step) (ss : List Step) (h : Change) → Among (changes_in (deeds_of (s ∷ ss))) h → Among (changes_in s.deeds) h ⊎ Among (changes_in (deeds_of ss)) h
split_changes s ss h a = among_either h (changes_in s.deeds) (changes_in (deeds_of ss)) (subst (λ l. Among l h) (flat_map-append changes_of s.deeds (deeds_of ss)) a)

join_left : (s : Step) (ss : List Step) (h : Change) → Among (changes_in s.deeds) h → Among (changes_in (deeds_of (s ∷ ss))) h
join_left s ss h a = subst (λ l. Among l h) (sym (flat_map-append changes_of s.deeds (deeds_of ss))) (among_left h (changes_in s.deeds) (changes_in (deeds_of ss)) a)

join_right : (s : Step) (ss : List Step) (h : Change) → Among (changes_in (deeds_of ss)) h → Among (changes_in (deeds_of (s ∷ ss))) h
join_right s ss h a = subst (λ l. Among l h) (sym (flat_map-append changes_of s.deeds (deeds_of ss))) (among_right h (changes_in s.deeds) (changes_in (deeds_of ss)) a)

module _ (header : Header) where
  pub fresh : (own last : Own) (cs : List Command) (ss : List Step) → Makes header own cs ss last → Inside own → length own.labels + length cs < 2 ^ 56 → (h : Change) → Among (changes_in (deeds_of ss)) h → IsWait h → Fresh own h
  fresh own last [] [] m i few h a w = absurd a
  fresh own last (c ∷ cs) (s ∷ ss) m i few h a w =
      let t : Turn own m.0 (is_reap c) s.deeds = turn header own m.0 s.deeds s.reply c m.2 in
      ⊎_elim
      (λ here. fresh_here own m.0 h i (omega (arith, few)) (t.hashes h here w))
      (λ later. fresh_later own m.0 h t.grows (fresh m.0 last cs ss m.3 (inside_next own m.0 i t.grows) (omega (arith, few, t.grows.most)) h later w))
      (split_changes s ss h a)
  fresh own last [] (s ∷ ss) m i few h a w = absurd m
  fresh own last (c ∷ cs) [] m i few h a w = absurd m

  -- one TIME_WAIT of each name
  pub once : (own last : Own) (cs : List Command) (ss : List Step) → Makes header own cs ss last → Inside own → length own.labels + length cs < 2 ^ 56
      → (g h : Change) → Among (changes_in (deeds_of ss)) g → Among (changes_in (deeds_of ss)) h → IsWait g → IsWait h → g.card.name ≡ h.card.name → g ≡ h
  once own last [] [] m i few g h a b v w e = absurd a
  once own last (c ∷ cs) (s ∷ ss) m i few g h a b v w e =
      let t : Turn own m.0 (is_reap c) s.deeds = turn header own m.0 s.deeds s.reply c m.2 in
      let room : length m.0.labels + length cs < 2 ^ 56 = omega (arith, few, t.grows.most) in
      let inside : Inside m.0 = inside_next own m.0 i t.grows in
      ⊎_elim
      (λ here. ⊎_elim
      (λ here'. t.once g h here here' v w)
      (λ later. absurd (apart own m.0 g h i t.grows (t.hashes g here v) (fresh m.0 last cs ss m.3 inside room h later w) e)) (split_changes s ss h b))
      (λ later. ⊎_elim
      (λ here. absurd (apart own m.0 h g i t.grows (t.hashes h here w) (fresh m.0 last cs ss m.3 inside room g later v) (sym e)))
      (λ later'. once m.0 last cs ss m.3 inside room g h later later' v w e) (split_changes s ss h b))
      (split_changes s ss g a)
  once own last [] (s ∷ ss) m i few g h a b v w e = absurd m
  once own last (c ∷ cs) [] m i few g h a b v w e = absurd m

-- the end of a change is a number that was drawn
end_tried : (t : Tried) (c : Change) → Among (changes_tried t) c → Among (drawn_in_try t) c.end
end_tried (hashed h None) c (inl e) = inr (inl (ap (λ (x : Change). x.end) e))
end_tried (hashed h None) c (inr a) = absurd a
end_tried (hashed h (Some u)) c (inl e) = inr (inl (ap (λ (x : Change). x.end) e))
end_tried (hashed h (Some u)) c (inr (inl e)) = inr (inr (inr (inl (ap (λ (x : Change). x.end) e))))
end_tried (hashed h (Some u)) c (inr (inr a)) = absurd a
end_tried (kept_out n) c a = absurd a
end_tried (no_slot n o k) c a = absurd a

end_drawn : (d : Deed) (c : Change) → Among (changes_of d) c → Among (drawn_of d) c.end
end_drawn (inserted wish tried) c a = end_tried tried c a
end_drawn (added card tried) c a = end_tried tried c a
end_drawn (left u) c (inl e) = inr (inl (ap (λ (x : Change). x.end) e))
end_drawn (left u) c (inr a) = absurd a
end_drawn (reaped card None) c a = absurd a
end_drawn (reaped card (Some u)) c (inl e) = inr (inl (ap (λ (x : Change). x.end) e))
end_drawn (reaped card (Some u)) c (inr a) = absurd a
end_drawn (entered port note) c a = absurd a

ends_drawn : (deeds : List Deed) (c : Change) → Among (changes_in deeds) c → Among (drawn_in deeds) c.end
ends_drawn [] c a = absurd a
ends_drawn (d ∷ deeds) c a = ⊎_elim
    (λ here. among_left c.end (drawn_of d) (drawn_in deeds) (end_drawn d c here))
    (λ later. among_right c.end (drawn_of d) (drawn_in deeds) (ends_drawn deeds c later)) (among_either c (changes_of d) (changes_in deeds) a)

-- The section for which they are waits for it
pub record Waits (own : Own) (h : Change) : Type 0 where
  pub wait : Mine
  pub there : Among own.waits wait
  pub card : h.card ≡ card_of kinds.TimeWait wait

over_by : (w : Mine) (h : Change) (moment : ℕ) → h.card ≡ card_of kinds.TimeWait w → IsTrue (expired h.card.extra moment) → is_over moment w ≡ true
over_by w h moment e t = ap (λ (k : ℕ). expired k moment) (sym (ap (λ (x : Card). x.extra) e)) ∙ t

module _ (header : Header) (In : Change → Type 0) (sights : List Sight) (clock n : ℕ) where
  -- a life of a TIME_WAIT of this section
  pub record OfSection (h : Change) : Type 0 where
    pub life : IsLife In h
    pub kind : h.card.kind ≡ kinds.TimeWait
    pub section : h.card.name / 2 ^ 56 ≡ n

  is_wait : (h : Change) → OfSection h → IsWait h
  is_wait h o = record { hash = o.life.hash; kind = o.kind }

  -- one of each name
  abbrev pub AreAlike : Type 0
  AreAlike = (g h : Change) → OfSection g → OfSection h → g.card.name ≡ h.card.name → g ≡ h

  -- one that was sought and was gone leaves before the search ended
  abbrev pub MissedLeave : Type 0
  MissedLeave =
      (from to : ℕ) (card : Card) → SawNoWait sights from (IsBy to) (layout_in header) card → (h : Change) → IsLife In h
      → h.card ≡ card → card.kind ≡ kinds.TimeWait → h.end < from → Leaves In h to

  -- it was hashed before, and the section waits for it, or it is on its way out
  abbrev Past : ℕ → Own → Change → Type 0
  Past low own h = (h.end < low) × (Waits own h ⊎ Leaves In h low)

  later_leaves : (h : Change) (a b : ℕ) → a ≤ b → Leaves In h a → Leaves In h b
  later_leaves h a b le l = record { unhash = l.unhash; ends = l.ends; before = omega (arith, le, l.before) }

  module _ (ends : EachEndsOne In) (alike : AreAlike) (missed : MissedLeave) where
    module _ (s : Step) (spanned : IsSpanned clock s) (shown : IsShown (layout_in header) sights s) (ins : (u : Change) → Among (changes_in s.deeds) u → In u)
        (h : Change) (o : OfSection h) (card : Card) (is : h.card ≡ card) (before : h.end < s.from) where
      sought_by : (found : Option Change) → Among s.deeds (reaped card found) → IsReapOf card found → Leaves In h s.to
      sought_by None there q =
          missed s.from s.to card
          (each_of (SawNoWait sights s.from (IsBy s.to) (layout_in header)) (missed_in s.deeds) shown.waits card (among_flat missed_of s.deeds (reaped card None) card there (inl refl)))
          h o.life is (ap (λ (x : Card). x.kind) (sym is) ∙ o.kind) before
      sought_by (Some u) there q =
          let one = ends u (ins u (among_flat changes_of s.deeds (reaped card (Some u)) u there (inl refl))) q.act in
          let same : one.life.card ≡ u.card = sym one.card in
          let named : one.life.card.name ≡ h.card.name = ap (λ (x : Card). x.name) same ∙ q.name ∙ ap (λ (x : Card). x.name) (sym is) in
          let kind : one.life.card.kind ≡ kinds.TimeWait = ap (λ (x : Card). x.kind) same ∙ q.kind ∙ ap (λ (x : Card). x.kind) (sym is) ∙ o.kind in
          let it : one.life ≡ h = alike one.life h (record { life = one.is; kind = kind; section = ap (λ (k : ℕ). k / 2 ^ 56) named ∙ o.section }) o named in
          record {
            unhash = u;
            ends = subst (λ (x : Change). Ends In x u) it one.ends;
            before = (each_of (λ (k : ℕ). (s.from ≤ k) × (k < s.to)) (drawn_in s.deeds) spanned.within u.begin (among_flat drawn_of s.deeds (reaped card (Some u)) u.begin there (inl refl))).1;
          }

      sought : Seeks s.deeds card → Leaves In h s.to
      sought k = sought_by k.found k.there k.is

    module _ (low : ℕ) (own next : Own) (c : Command) (s : Step) (t : Turn own next (is_reap c) s.deeds) (from : low ≤ s.from) (spanned : IsSpanned clock s) (shown : IsShown (layout_in header) sights s)
        (ins : (u : Change) → Among (changes_in s.deeds) u → In u) where
      leaves_then : (h : Change) → OfSection h → h.end < low → (w : Waits own h) → Seeks s.deeds (card_of kinds.TimeWait w.wait) → Leaves In h s.to
      leaves_then h o l w k = sought s spanned shown ins h o (card_of kinds.TimeWait w.wait) w.card (omega (arith, l, from)) k

      -- what was before the step is so behind it
      past_on : (h : Change) → OfSection h → Past low own h → Past s.to next h
      past_on h o p =
          let l : h.end < s.to = omega (arith, p.0, from, spanned.order) in (
            l,
            ⊎_elim
                (λ w. ⊎_elim (λ a. inl (record { wait = w.wait; there = a; card = w.card })) (λ k. inr (leaves_then h o p.0 w k)) (t.kept w.wait w.there))
                (λ z. inr (later_leaves h low s.to (omega (arith, from, spanned.order)) z)) p.1,
          )

      -- and what it hashed
      hashed_on : (h : Change) → OfSection h → Among (changes_in s.deeds) h → Past s.to next h
      hashed_on h o a =
          let r = t.hashes h a (is_wait h o) in
          let z = each_of (λ (k : ℕ). (s.from ≤ k) × (k < s.to)) (drawn_in s.deeds) spanned.within h.end (ends_drawn s.deeds h a) in
          (z.1, inl (record { wait = r.wait; there = r.there; card = r.card }))

      expired_leave : own.number ≡ n → is_reap c ≡ true → ((h : Change) → OfSection h → (own.moment ≤ h.card.extra) ⊎ Past low own h) → ExpiredLeave In own s.to
      expired_leave number reaping all h life kind section over =
          let o : OfSection h = record { life = life; kind = kind; section = section ∙ number } in
          ⊎_elim
          (λ l. absurd (omega (arith, l, leb-true (h.card.extra + 60) own.moment over)))
          (λ p. ⊎_elim
          (λ w. leaves_then h o p.0 w (t.reaps reaping w.wait w.there (over_by w.wait h own.moment w.card over)))
          (λ z. later_leaves h low s.to (omega (arith, from, spanned.order)) z) p.1) (all h o)

    reaps_at : (low : ℕ) (own next : Own) (c : Command) (s : Step) → Turn own next (is_reap c) s.deeds → low ≤ s.from → IsSpanned clock s → IsShown (layout_in header) sights s → ((u : Change) → Among (changes_in s.deeds) u → In u)
        → own.number ≡ n → ((h : Change) → OfSection h → (own.moment ≤ h.card.extra) ⊎ Past low own h) → ReapsAll In own s.to c
    reaps_at low own next commands.Reap s t from spanned shown ins number all = expired_leave low own next commands.Reap s t from spanned shown ins number refl all
    reaps_at low own next c s t from spanned shown ins number all = tt

    -- each step of the section reaps to the end
    pub are_reaped : (low : ℕ) (own last : Own) (cs : List Command) (ss : List Step) → Makes header own cs ss last → Inside own → own.number ≡ n → length own.labels + length cs < 2 ^ 56
        → Each (λ (s : Step). low ≤ s.from) ss → Each (IsSpanned clock) ss → Pairs Precedes ss → Each (IsShown (layout_in header) sights) ss → ((u : Change) → Among (changes_in (deeds_of ss)) u → In u)
        → ((h : Change) → OfSection h → Among (changes_in (deeds_of ss)) h ⊎ Past low own h) → AreReaped header In own cs ss
    are_reaped low own last [] [] m i number few from spanned turns shown ins all = tt
    are_reaped low own last (c ∷ cs) (s ∷ ss) m i number few from spanned turns shown ins all =
        let t : Turn own m.0 (is_reap c) s.deeds = turn header own m.0 s.deeds s.reply c m.2 in
        let here : (u : Change) → Among (changes_in s.deeds) u → In u = λ u a. ins u (join_left s ss u a) in (
          reaps_at low own m.0 c s t from.0 spanned.0 shown.0 here number
              (λ h o. ⊎_elim (λ a. inl (fresh header own last (c ∷ cs) (s ∷ ss) m i few h a (is_wait h o)).late) inr (all h o)),
          λ next g. subst (λ (o : Own). AreReaped header In o cs ss) (ap (λ (r : Replied). r.own) (goes_once (plan header own c) s.deeds (answers m.0 s.reply) (answers next s.reply) m.2 g))
              (are_reaped s.to m.0 last cs ss m.3 (inside_next own m.0 i t.grows) (t.grows.number ∙ number) (omega (arith, few, t.grows.most)) turns.0 spanned.1 turns.1 shown.1 (λ u a. ins u (join_right s ss u a))
              (λ h o. ⊎_elim
              (λ a. ⊎_elim (λ b. inr (hashed_on low own m.0 c s t from.0 spanned.0 shown.0 here h o b)) inl (split_changes s ss h a))
              (λ p. inr (past_on low own m.0 c s t from.0 spanned.0 shown.0 here h o p)) (all h o))),
        )
    are_reaped low own last [] (s ∷ ss) m i number few from spanned turns shown ins all = absurd m
    are_reaped low own last (c ∷ cs) [] m i number few from spanned turns shown ins all = absurd m
