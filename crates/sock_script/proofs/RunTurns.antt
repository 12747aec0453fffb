-- A turn of the loops over a section's commands, and over the sections.
use Rattle.std.proofs.Common.{◌≡◌, ℕ, ◌+◌, ◌≤◌, ◌<◌, ◌∙◌, List, [], ◌∷◌, ◌++◌, length, drop, get_or, map, zero, suc, ◌^◌, append-nil, sym, refl, ap, subst, arith}
use Rattle.std.proofs.Math.Seq.{drop-cons}
use Rattle.std.proofs.lemmas.Grind.{common_steps}
use Rattle.std.proofs.lemmas.List.{length-map, get_or-map}
use Rattle.std.specs.declared.vec.Vec.{Vec}
use Rattle.std.specs.declared.alloc.Global.{Global}
use Rattle.capture_reader.specs.declared.packet.Item.{Item}
use Rattle.list_words.specs.Lists.{Each}
use Rattle.flat_list.specs.Script.{Script, IsSmall}
use Rattle.flat_list.specs.declared.command.Command.{Command}
use Rattle.flat_list.specs.Flat.{Flat}
use Rattle.flat_list.specs.Sections.{labels_of, GivesOneAtMost, KeepsOthers}
use Rattle.flat_list.specs.declared.header.Header.{Header}
use Rattle.flat_list.specs.Run.{Issued, after}
use Rattle.sock_script.specs.Output.{Replies, issued_from, events_from, listings_from, new_flat}
use Rattle.sock_script.specs.Steps.{issue, item_shown, shown_from, RunsCommand, RunsSection}
use Rattle.sock_script.proofs.Events.{last_replied, last_listed}

-- what was shown, with what will be of the replies to the rest of the commands and to later ones, is what is shown of
-- those to all of them; and so of what was listed
pub record RanSoFar (n : ℕ) (first flat : Flat) (rest all : List Command) (items left : List Item) (before out : Replies) (i : ℕ) : Type 0 where
  pub replied : (later : List Issued)
      → out.each ++ shown_from flat (events_from left (issue n rest ++ later)) ≡ before.each ++ shown_from first (events_from items (issue n all ++ later))
  pub listed : (later : List Issued)
      → out.listings ++ listings_from flat (events_from left (issue n rest ++ later)) ≡ before.listings ++ listings_from first (events_from items (issue n all ++ later))
  pub last : after flat (issue n rest) ≡ after first (issue n all)
  pub room : length (labels_of n flat.sections) ≤ length (labels_of n first.sections) + i
  pub others : KeepsOthers n first.sections flat.sections

pub ran_start : (n : ℕ) (flat : Flat) (all : List Command) (items : List Item) (out : Replies) → RanSoFar n flat flat all all items items out out 0
ran_start n flat all items out = record { replied = λ later. refl; listed = λ later. refl; last = refl; room = omega arith; others = λ m apart. refl }

module _ (n : ℕ) (first flat next : Flat) (items left left_after : List Item) (before out new : Replies) (i : ℕ) where
  pub ran_next : (c : Command) (rest all : List Command) → RanSoFar n first flat (c ∷ rest) all items left before out i → RunsCommand flat next n c left left_after out new → GivesOneAtMost flat.sections next.sections → KeepsOthers n flat.sections next.sections → RanSoFar n first next rest all items left_after before new (i + 1)
  ran_next c rest all h r g o = record {
    replied = λ later. r.replied (issue n rest ++ later) ∙ h.replied later;
    listed = λ later. r.listed (issue n rest ++ later) ∙ h.listed later;
    last = rw r.flat h.last;
    room = omega (arith, h.room, g n);
    others = λ m apart. o m apart ∙ h.others m apart;
  }

  pub ran_more : (all : List Command) (d : Command) → i < length all → RanSoFar n first flat (drop i all) all items left before out i → RunsCommand flat next n (get_or all i d) left left_after out new → GivesOneAtMost flat.sections next.sections → KeepsOthers n flat.sections next.sections → RanSoFar n first next (drop (i + 1) all) all items left_after before new (i + 1)
  ran_more all d lt h r g o =
      let more : suc i ≡ i + 1 = omega arith in
      subst (λ k. RanSoFar n first next (drop k all) all items left_after before new (i + 1)) more
      (ran_next (get_or all i d) (drop (suc i) all) all
      (subst (λ l. RanSoFar n first flat l all items left before out i) (drop-cons all i d lt) h) r g o)

pub ran_all : (n : ℕ) (first flat : Flat) (all : List Command) (items left : List Item) (before out : Replies) (i : ℕ) → RanSoFar n first flat [] all items left before out i → RunsSection first flat n all items left before out
ran_all n first flat all items left before out i h = record { replied = h.replied; listed = h.listed; flat = h.last; others = h.others }

-- what was shown, with what will be of the replies to the rest of the sections, is what is shown of those to all of
-- them; and so of what was listed
pub record RanSections (first flat : Flat) (all : List (List Command)) (items left : List Item) (out : Replies) (i : ℕ) : Type 0 where
  pub replied : out.each ++ shown_from flat (events_from left (issued_from (i + 1) (drop i all))) ≡ shown_from first (events_from items (issued_from 1 all))
  pub listed : out.listings ++ listings_from flat (events_from left (issued_from (i + 1) (drop i all))) ≡ listings_from first (events_from items (issued_from 1 all))
  pub fresh : (m : ℕ) → i < m → labels_of m flat.sections ≡ []

pub sections_start : (header : Header) (all : List (List Command)) (items : List Item) → RanSections (new_flat header) (new_flat header) all items items (record { each = []; listings = [] }) 0
sections_start header all items = record { replied = refl; listed = refl; fresh = λ m h. refl }

pub next_drop : {A : Type 0} (xs : List A) (i : ℕ) (x : A) → i < length xs → x ≡ get_or xs i x → drop i xs ≡ x ∷ drop (i + 1) xs
next_drop xs i x lt here =
    let more : suc i ≡ i + 1 = omega arith in
    drop-cons xs i x lt ∙ (λ k. sym here k ∷ drop (more k) xs)

pub sections_next : (first flat next : Flat) (all : List (List Command)) (items left left_after : List Item) (out new : Replies) (i : ℕ) (commands : List Command) → i < length all → commands ≡ get_or all i commands → RanSections first flat all items left out i → RunsSection flat next (i + 1) commands left left_after out new → RanSections first next all items left_after new (i + 1)
sections_next first flat next all items left left_after out new i commands lt here h r =
    let rest : drop i all ≡ commands ∷ drop (i + 1) all = next_drop all i commands lt here in
    record {
      replied = r.replied (issued_from (i + 1 + 1) (drop (i + 1) all))
          ∙ sym (ap (λ l. out.each ++ shown_from flat (events_from left (issued_from (i + 1) l))) rest) ∙ h.replied;
      listed = r.listed (issued_from (i + 1 + 1) (drop (i + 1) all))
          ∙ sym (ap (λ l. out.listings ++ listings_from flat (events_from left (issued_from (i + 1) l))) rest) ∙ h.listed;
      fresh = λ m late. r.others m (λ e. omega arith) ∙ h.fresh m (omega arith);
    }

-- all sections were run, and the items that were left were looked up
module _ (first flat : Flat) (all : List (List Command)) (items left : List Item) (out new : Replies) (i : ℕ) (le : length all ≤ i) (h : RanSections first flat all items left out i)
    (is : new ≡ record out { each = out.each ++ map (item_shown flat) left }) where
  none : drop i all ≡ []
  none = grind (arith, common_steps)

  pub sections_replied : new.each ≡ shown_from first (events_from items (issued_from 1 all))
  sections_replied =
      ap (λ (a : Replies). a.each) is ∙ ap (λ r. out.each ++ r) (sym (last_replied flat left))
      ∙ ap (λ l. out.each ++ shown_from flat (events_from left (issued_from (i + 1) l))) (sym none) ∙ h.replied

  pub sections_listed : new.listings ≡ listings_from first (events_from items (issued_from 1 all))
  sections_listed =
      ap (λ (a : Replies). a.listings) is ∙ sym (append-nil out.listings) ∙ ap (λ l. out.listings ++ l) (sym (last_listed flat left))
      ∙ ap (λ l. out.listings ++ listings_from flat (events_from left (issued_from (i + 1) l))) (sym none) ∙ h.listed

-- the commands of the section at that place, as the code holds them
pub commands_at : (held : List (Vec Command Global)) (all : List (List Command)) (i : ℕ) (v : Vec Command Global) → map (λ v. v.items) held ≡ all → i < length held → v ≡ get_or held i v → (i < length all) × (v.items ≡ get_or all i v.items)
commands_at held all i v is lt here = (
  omega (arith, ap length is, length-map held (λ v. v.items)),
  ap (λ v. v.items) here ∙ sym (get_or-map (λ v. v.items) held i v v.items lt) ∙ ap (λ l. get_or l i v.items) is,
)

each_at : {A : Type 0} (P : A → Type 0) (xs : List A) (i : ℕ) (x : A) → Each P xs → i < length xs → x ≡ get_or xs i x → P x
each_at P [] i x h lt here = absurd (omega arith)
each_at P (y ∷ ys) zero x h lt here = subst P (sym here) h.0
each_at P (y ∷ ys) (suc i) x h lt here = each_at P ys i x h.1 (omega arith) here

-- a section of a small script has room for its labels
pub has_room : (first flat : Flat) (script : Script) (items left : List Item) (out : Replies) (i : ℕ) (commands : List Command) → IsSmall script → i < length script.sections → commands ≡ get_or script.sections i commands → RanSections first flat script.sections items left out i → (i < 64) × (length (labels_of (i + 1) flat.sections) + length commands < 2 ^ 56)
has_room first flat script items left out i commands small lt here h =
    let few : length commands < 2 ^ 24 = each_at (λ (l : List Command). length l < 2 ^ 24) script.sections i commands small.commands lt here in
    let none : length (labels_of (i + 1) flat.sections) ≡ 0 = ap length (h.fresh (i + 1) (omega arith)) in
    (omega (arith, small.sections), omega arith)
