-- What deeds leave, one after the other.
use Rattle.std.proofs.Common.{◌≡◌, ℕ, ◌<◌, ◌≤◌, List, [], ◌∷◌, ◌++◌, map, refl, sym, ap, ◌∙◌, subst, arith, append_assoc, inl, None, Some}
use Rattle.std.proofs.lemmas.List.{append-nil, map-append}
use Rattle.list_words.specs.Lists.{Each, Pairs, total}
use Rattle.list_words.proofs.EachLemmas.{each_weaken, each_append}
use Rattle.list_words.proofs.TotalLemmas.{total-append}
use Rattle.sock_card.specs.declared.card.Card.{Card}
use Rattle.chain_book.specs.Homes.{home}
use Rattle.table_rule.specs.declared.view.Sight.{Sight}
use Rattle.sock_slots.specs.Claims.{sight_by}
use Rattle.race_book.specs.Among.{Among}
use Rattle.race_book.proofs.AmongLemmas.{among_left, among_right}
use Rattle.race_record.specs.Deeds.{Deed, Vain, hashed, kept_out, no_slot, entered, inserted, added, left, reaped, changes_of, given_of, taken_of, vain_of, drawn_of, changes_in, given_in, taken_in, vain_in, drawn_in}
use Rattle.sock_ops.specs.Sides.{Side}
use Rattle.sock_ops.specs.Made.{Made, AllLeave, IsHomeIfHash, number_of, SawNone as MadeNone, SawNoWait as MadeNoWait}
use Rattle.sock_ops.proofs.Seen.{sees_both, as_they_were}
use Rattle.race_run.specs.Made.{SawFree, SawKeeper, SawNone, SawNoWait, IsAny, MadeAll, missed_of, missed_in}
use Rattle.race_run.proofs.Sightings.{Moves, free_moves, keeper_moves, none_moves, no_wait_moves, any_sees, reads_seen}

abbrev Less : ℕ → ℕ → Type 0
Less n m = n < m

pairs_join : (xs ys : List ℕ) → Pairs Less xs → Pairs Less ys → Each (λ x. Each (Less x) ys) xs → Pairs Less (xs ++ ys)
pairs_join [] ys p q h = q
pairs_join (x ∷ xs) ys p q h = (each_append (Less x) xs ys p.0 h.0, pairs_join xs ys p.1 q h.1)

-- One deed

keepers_one : (deed : Deed) (c e : Side) → Made deed c e → Each (SawKeeper e.view.sights c.view.seen IsAny) (taken_of deed)
keepers_one (entered port note) c e m = tt
keepers_one (inserted wish (hashed hash old)) c e m = tt
keepers_one (inserted wish (kept_out name)) c e m =
    let s = m.shows in (
      record {
        sight = s.sight;
        there = subst (λ l. Among l s.sight) (sym s.sights) (among_right s.sight c.view.sights (s.sight ∷ []) (inl refl));
        since = omega (arith, s.since);
        is = tt;
        bucket = home c.layout.shape c.layout.seed wish.card;
        bucket_is = s.bucket;
        cards = s.cards;
        first = s.first;
      },
      tt,
    )
keepers_one (inserted wish (no_slot number owned held)) c e m = tt
keepers_one (added card tried) c e m = tt
keepers_one (left u) c e m = tt
keepers_one (reaped card u) c e m = tt

frees_one : (deed : Deed) (c e : Side) → Made deed c e → Each (SawFree e.view.sights) (given_of deed)
frees_one (entered port note) c e m = tt
frees_one (inserted wish (hashed hash old)) c e m =
    let s = m.shows in (
      record {
        sight = s.sight;
        there = s.there;
        bucket = s.bucket;
        whole = s.whole;
        instant = s.instant;
        cards = s.cards;
        unkept = s.unkept;
        gave = s.gave;
      },
      tt,
    )
frees_one (inserted wish (kept_out name)) c e m = tt
frees_one (inserted wish (no_slot number owned held)) c e m = tt
frees_one (added card tried) c e m = tt
frees_one (left u) c e m = tt
frees_one (reaped card u) c e m = tt

none_seen : (v : Vain) (c e : Side) → MadeNone v c e → SawNone e.view.sights IsAny c.layout.shape.slots v
none_seen v c e s = record {
  reads = s.reads;
  each = reads_seen e.view.sights v.number s.by s.reads (omega (arith, s.since))
      (λ x a. subst (λ (l : List Sight). Among l x) (sym s.sights) (let before : List Sight = s.earlier ++ s.walked ∷ [] in among_left x (before ++ map (sight_by s.by) s.reads) s.more (among_right x before (map (sight_by s.by) s.reads) a)));
  owned = s.owned;
  held = s.held;
  all = s.all;
  below = s.below;
  once = s.once;
}

nones_one : (deed : Deed) (c e : Side) → Made deed c e → Each (SawNone e.view.sights IsAny c.layout.shape.slots) (vain_of deed)
nones_one (entered port note) c e m = tt
nones_one (inserted wish (hashed hash old)) c e m = tt
nones_one (inserted wish (kept_out name)) c e m = tt
nones_one (inserted wish (no_slot number owned held)) c e m = (none_seen (record { number = number; owned = owned; held = held }) c e m.shows, tt)
nones_one (added card (hashed hash old)) c e m = tt
nones_one (added card (kept_out name)) c e m = tt
nones_one (added card (no_slot number owned held)) c e m = (none_seen (record { number = number; owned = owned; held = held }) c e m.shows, tt)
nones_one (left u) c e m = tt
nones_one (reaped card u) c e m = tt

-- what sought a TIME_WAIT that was gone
no_wait_seen : (card : Card) (c e : Side) → MadeNoWait card c e → SawNoWait e.view.sights c.view.seen IsAny c.layout card
no_wait_seen card c e s = record {
  sight = s.sight;
  there = subst (λ l. Among l s.sight) (sym s.sights) (among_right s.sight c.view.sights (s.sight ∷ []) (inl refl));
  since = omega (arith, s.since);
  is = tt;
  bucket = s.bucket;
  whole = s.whole;
  cards = s.cards;
  none = s.none;
}

waits_one : (deed : Deed) (c e : Side) → Made deed c e → Each (SawNoWait e.view.sights c.view.seen IsAny c.layout) (missed_of deed)
waits_one (entered port note) c e m = tt
waits_one (inserted wish tried) c e m = tt
waits_one (added card tried) c e m = tt
waits_one (left u) c e m = tt
waits_one (reaped card None) c e m = (no_wait_seen card c e m.shows, tt)
waits_one (reaped card (Some u)) c e m = tt

-- None, and one more

none_made : (c : Side) → MadeAll [] c c
none_made c = record {
  layout = refl;
  changes = sym (append-nil (Rattle.sock_ops.specs.Sides.changes_by c));
  homes = tt;
  words = λ w. w;
  lost = λ f. refl;
  numbers = tt;
  ascend = tt;
  later = omega arith;
  parts = refl;
  holds = refl;
  taken = refl;
  read = refl;
  sees = (c.view.sights, [], as_they_were c.view.seen c.view.sights, sym (append-nil c.view.sights));
  keepers = tt;
  frees = tt;
  nones = tt;
  waits = tt;
}

module _ (deed : Deed) (deeds : List Deed) (c e d : Side) (m : Made deed c e) (h : MadeAll deeds e d) where
  apart : Each (λ x. Each (Less x) (drawn_in deeds)) (drawn_of deed)
  apart = each_weaken (λ (n : ℕ). (c.view.seen ≤ n) × (n < e.view.seen)) (λ x. Each (Less x) (drawn_in deeds)) (drawn_of deed)
      (λ n z. each_weaken (λ (k : ℕ). (e.view.seen ≤ k) × (k < d.view.seen)) (Less n) (drawn_in deeds) (λ k y. omega (arith, z.1, y.0)) h.numbers) m.numbers

  moves : Moves e.view.sights IsAny d.view.sights IsAny
  moves = any_sees e.view d.view h.sees

  stays : Moves d.view.sights IsAny d.view.sights IsAny
  stays s a i = record { sight = s; there = a; listed = refl; held = refl; bucket = refl; whole = refl; since = refl; instant = refl; is = tt }

  slots_same : e.layout.shape.slots ≡ c.layout.shape.slots
  slots_same = ap (λ (l : Rattle.table_rule.specs.declared.view.Layout.Layout). l.shape.slots) m.layout

  more_made : MadeAll (deed ∷ deeds) c d
  more_made = record {
    layout = h.layout ∙ m.layout;
    changes = h.changes ∙ ap (λ l. l ++ changes_in deeds) m.changes ∙ append_assoc (Rattle.sock_ops.specs.Sides.changes_by c) (changes_of deed) (changes_in deeds);
    homes = each_append (IsHomeIfHash c.layout) (changes_of deed) (changes_in deeds) m.homes (subst (λ l. Each (IsHomeIfHash l) (changes_in deeds)) m.layout h.homes);
    words = λ w. h.words (m.words w);
    lost = λ f. omega (
      arith,
      h.lost f,
      total-append f (map number_of (vain_in deeds)) e.view.book.lost,
      ap (total f) m.lost,
      total-append f (map number_of (vain_of deed)) c.view.book.lost,
      ap (total f) (map-append number_of (vain_of deed) (vain_in deeds)),
      total-append f (map number_of (vain_of deed)) (map number_of (vain_in deeds)),
      total-append f (map number_of (vain_of deed ++ vain_in deeds)) c.view.book.lost,
    );
    numbers = each_append (λ (n : ℕ). (c.view.seen ≤ n) × (n < d.view.seen)) (drawn_of deed) (drawn_in deeds)
        (each_weaken (λ (n : ℕ). (c.view.seen ≤ n) × (n < e.view.seen)) (λ (n : ℕ). (c.view.seen ≤ n) × (n < d.view.seen)) (drawn_of deed) (λ n z. (z.0, omega (arith, z.1, h.later))) m.numbers)
        (each_weaken (λ (n : ℕ). (e.view.seen ≤ n) × (n < d.view.seen)) (λ (n : ℕ). (c.view.seen ≤ n) × (n < d.view.seen)) (drawn_in deeds) (λ n z. (omega (arith, z.0, m.later), z.1)) h.numbers);
    ascend = pairs_join (drawn_of deed) (drawn_in deeds) m.ascend h.ascend apart;
    later = omega (arith, m.later, h.later);
    parts = h.parts ∙ m.parts;
    holds = h.holds ∙ m.holds;
    taken = h.taken ∙ m.taken;
    read = h.read ∙ m.read;
    sees = sees_both c.view e.view d.view m.later m.sees h.sees;
    frees = each_append (SawFree d.view.sights) (given_of deed) (given_in deeds)
        (each_weaken (SawFree e.view.sights) (SawFree d.view.sights) (given_of deed) (free_moves e.view.sights d.view.sights IsAny moves) (frees_one deed c e m))
        h.frees;
    keepers = each_append (SawKeeper d.view.sights c.view.seen IsAny) (taken_of deed) (taken_in deeds)
        (each_weaken (SawKeeper e.view.sights c.view.seen IsAny) (SawKeeper d.view.sights c.view.seen IsAny) (taken_of deed) (keeper_moves e.view.sights d.view.sights c.view.seen c.view.seen IsAny IsAny (omega arith) moves) (keepers_one deed c e m))
        (each_weaken (SawKeeper d.view.sights e.view.seen IsAny) (SawKeeper d.view.sights c.view.seen IsAny) (taken_in deeds) (keeper_moves d.view.sights d.view.sights e.view.seen c.view.seen IsAny IsAny m.later stays) h.keepers);
    nones = each_append (SawNone d.view.sights IsAny c.layout.shape.slots) (vain_of deed) (vain_in deeds)
        (each_weaken (SawNone e.view.sights IsAny c.layout.shape.slots) (SawNone d.view.sights IsAny c.layout.shape.slots) (vain_of deed) (none_moves e.view.sights d.view.sights IsAny IsAny moves c.layout.shape.slots) (nones_one deed c e m))
        (subst (λ n. Each (SawNone d.view.sights IsAny n) (vain_in deeds)) slots_same h.nones);
    waits = each_append (SawNoWait d.view.sights c.view.seen IsAny c.layout) (missed_of deed) (missed_in deeds)
        (each_weaken (SawNoWait e.view.sights c.view.seen IsAny c.layout) (SawNoWait d.view.sights c.view.seen IsAny c.layout) (missed_of deed) (no_wait_moves e.view.sights d.view.sights c.view.seen c.view.seen IsAny IsAny (omega arith) moves c.layout) (waits_one deed c e m))
        (subst (λ l. Each (SawNoWait d.view.sights c.view.seen IsAny l) (missed_in deeds)) m.layout
        (each_weaken (SawNoWait d.view.sights e.view.seen IsAny e.layout) (SawNoWait d.view.sights c.view.seen IsAny e.layout) (missed_in deeds) (no_wait_moves d.view.sights d.view.sights e.view.seen c.view.seen IsAny IsAny m.later stays e.layout) h.waits));
  }

-- an entry of a bind bucket leaves all as it was
entered_made : (port : ℕ) (note : Rattle.turn_table.specs.declared.note.Note.Note Rattle.bind_buckets.specs.declared.request.Entry.Entry) (deeds : List Deed) (c d : Side) → MadeAll deeds c d → MadeAll (entered port note ∷ deeds) c d
entered_made port note deeds c d h = record {
  layout = h.layout;
  changes = h.changes;
  homes = h.homes;
  words = h.words;
  lost = h.lost;
  numbers = h.numbers;
  ascend = h.ascend;
  later = h.later;
  parts = h.parts;
  holds = h.holds;
  taken = h.taken;
  read = h.read;
  sees = h.sees;
  frees = h.frees;
  keepers = h.keepers;
  nones = h.nones;
  waits = h.waits;
}

pub all_made : (deeds : List Deed) (c d : Side) → AllLeave deeds c d → MadeAll deeds c d
all_made [] c d a = subst (MadeAll [] c) a (none_made c)
all_made (entered port note ∷ deeds) c d a = entered_made port note deeds c d (subst (λ x. MadeAll deeds x d) (sym a.1) (all_made deeds a.0 d a.2))
all_made (inserted wish tried ∷ deeds) c d a = more_made (inserted wish tried) deeds c a.0 d a.1 (all_made deeds a.0 d a.2)
all_made (added card tried ∷ deeds) c d a = more_made (added card tried) deeds c a.0 d a.1 (all_made deeds a.0 d a.2)
all_made (left unhash ∷ deeds) c d a = more_made (left unhash) deeds c a.0 d a.1 (all_made deeds a.0 d a.2)
all_made (reaped card unhash ∷ deeds) c d a = more_made (reaped card unhash) deeds c a.0 d a.1 (all_made deeds a.0 d a.2)
