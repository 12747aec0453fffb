-- What one command makes a run do, and what is replied to it.
use Rattle.std.proofs.Common.{◌≡◌, ◌∙◌, ℕ, min, List, [], ◌∷◌, ◌++◌, map, take, drop, length, false, refl, sym, ap, ap₂, arith, append_assoc}
use Rattle.std.proofs.lemmas.Grind.{common_steps}
use Rattle.capture_reader.specs.declared.packet.Item.{Item}
use Rattle.flat_list.specs.declared.command.Command.{Command}
use Rattle.flat_list.specs.declared.command.Command.TheVariants as commands
use Rattle.flat_list.specs.declared.command.Reply.{Reply}
use Rattle.flat_list.specs.declared.kept.Form.{Form}
use Rattle.flat_list.specs.declared.kept.Form.TheVariants as forms
use Rattle.flat_list.specs.Flat.{Flat}
use Rattle.flat_list.specs.Kept.{kept_command}
use Rattle.flat_list.specs.Run.{Issued}
use Rattle.flat_list.specs.Step.{step}
use Rattle.sock_script.specs.Output.{Replies, Event, asked, stored, events_at, events_from, items_after, listings_from, listings_at, is_dump}
use Rattle.sock_script.specs.Shown.{shown}
use Rattle.sock_script.specs.Steps.{item_shown, shown_from, takes_items, RunsCommand}

-- a command that isn't `packets` takes none
pub takes_none : (command : Command) → ((count : ℕ) → command ≡ commands.Packets count → ⊥) → takes_items command ≡ false
takes_none (commands.Packets count) h = absurd (h count refl)
takes_none _ h = refl

-- a command that isn't `dump` lists nothing
pub lists_none : (command : Command) → (command ≡ commands.Dump → ⊥) → is_dump command ≡ false
lists_none commands.Dump h = absurd (h refl)
lists_none _ h = refl

-- its form says the same of a command that is kept
pub kept_takes_none : (form : Form) → ((count : ℕ) → form ≡ forms.Packets count → ⊥) → takes_items (kept_command form) ≡ false
kept_takes_none (forms.Packets count) h = absurd (h count refl)
kept_takes_none _ h = refl

pub kept_lists_none : (form : Form) → (form ≡ forms.Dump → ⊥) → is_dump (kept_command form) ≡ false
kept_lists_none forms.Dump h = absurd (h refl)
kept_lists_none _ h = refl

-- a command that takes no items comes to itself alone
pub asks_alone : (c : Issued) (command : Command) (left : List Item) → takes_items command ≡ false → events_at c command left ≡ asked c ∷ []
asks_alone c (commands.Packets count) left h = absurd (cc)
asks_alone c _ left h = refl

-- and leaves the items
pub leaves_all : (command : Command) (left : List Item) → takes_items command ≡ false → items_after command left ≡ left
leaves_all (commands.Packets count) left h = absurd (cc)
leaves_all _ left h = refl

-- the front of a list that is shorter than asked for is the list
pub take_least : {A : Type 0} (count : ℕ) (xs : List A) → take (min count (length xs)) xs ≡ take count xs
take_least count xs = grind (arith, common_steps)

pub drop_least : {A : Type 0} (count : ℕ) (xs : List A) → drop (min count (length xs)) xs ≡ drop count xs
drop_least count xs = grind (arith, common_steps)

-- what is shown of replies to items, as the list stands
pub items_replied : (flat : Flat) (xs : List Item) (rest : List Event) → shown_from flat (map stored xs ++ rest) ≡ map (item_shown flat) xs ++ shown_from flat rest
items_replied flat [] rest = refl
items_replied flat (x ∷ xs) rest = ap (λ r. item_shown flat x ∷ r) (items_replied flat xs rest)

-- so are those that are left at the end
pub last_replied : (flat : Flat) (xs : List Item) → shown_from flat (events_from xs []) ≡ map (item_shown flat) xs
last_replied flat [] = refl
last_replied flat (x ∷ xs) = ap (λ r. item_shown flat x ∷ r) (last_replied flat xs)

-- and items list nothing
pub items_listed : (flat : Flat) (xs : List Item) (rest : List Event) → listings_from flat (map stored xs ++ rest) ≡ listings_from flat rest
items_listed flat [] rest = refl
items_listed flat (x ∷ xs) rest = items_listed flat xs rest

pub last_listed : (flat : Flat) (xs : List Item) → listings_from flat (events_from xs []) ≡ []
last_listed flat [] = refl
last_listed flat (x ∷ xs) = last_listed flat xs

-- replies and listings that are the same
pub same_replies : (r s : Replies) → r.each ≡ s.each → r.listings ≡ s.listings → r ≡ s
same_replies r s e l = λ k. record { each = e k; listings = l k }

-- `packets` was run: the next items were looked up
pub ran_packets : (flat : Flat) (n count : ℕ) (items next left : List Item) (before out : Replies)
    → next ≡ take (min count (length items)) items → left ≡ drop (min count (length items)) items
    → out ≡ record before { each = before.each ++ map (item_shown flat) next }
    → RunsCommand flat flat n (commands.Packets count) items left before out
unfolding step
ran_packets flat n count items next left before out front back is = record {
  replied = λ later.
      ap (λ (o : Replies). o.each ++ shown_from flat (events_from left later)) is
      ∙ append_assoc before.each _ _
      ∙ ap (λ r. before.each ++ r) (sym (items_replied flat next (events_from left later)))
      ∙ ap₂ (λ x y. before.each ++ shown_from flat (map stored x ++ events_from y later)) (front ∙ take_least count items) (back ∙ drop_least count items);
  listed = λ later.
      ap (λ (o : Replies). o.listings ++ listings_from flat (events_from left later)) is
      ∙ ap (λ l. before.listings ++ l) (sym (items_listed flat next (events_from left later)))
      ∙ ap₂ (λ x y. before.listings ++ listings_from flat (map stored x ++ events_from y later)) (front ∙ take_least count items) (back ∙ drop_least count items);
  flat = refl;
}

-- any other command was run: its reply was appended, and what it lists
pub ran_asked : (old new : Flat) (n : ℕ) (command : Command) (items : List Item) (reply : Reply) (before out : Replies)
    → takes_items command ≡ false → reply ≡ (step old n command).reply → new ≡ (step old n command).flat
    → out ≡ record { each = before.each ++ shown reply ∷ []; listings = before.listings ++ listings_at old command }
    → RunsCommand old new n command items items before out
ran_asked old new n command items reply before out other replied flat is = record {
  replied = λ later.
      let c : Issued = record { section = n; command = command } in
      ap (λ (o : Replies). o.each ++ shown_from new (events_from items later)) is
      ∙ append_assoc before.each (shown reply ∷ []) _
      ∙ ap₂ (λ r f. before.each ++ shown r ∷ shown_from f (events_from items later)) replied flat
      ∙ sym (ap₂ (λ e l. before.each ++ shown_from old (e ++ events_from l later)) (asks_alone c command items other) (leaves_all command items other));
  listed = λ later.
      let c : Issued = record { section = n; command = command } in
      ap (λ (o : Replies). o.listings ++ listings_from new (events_from items later)) is
      ∙ append_assoc before.listings (listings_at old command) _
      ∙ ap (λ f. before.listings ++ (listings_at old command ++ listings_from f (events_from items later))) flat
      ∙ sym (ap₂ (λ e l. before.listings ++ listings_from old (e ++ events_from l later)) (asks_alone c command items other) (leaves_all command items other));
  flat = flat;
}
