-- What holds of the first list and is kept by each command holds of all lists between a small script's commands.
use Rattle.std.proofs.Common.{◌≡◌, ℕ, ◌+◌, ◌^◌, ◌<◌, ◌≤◌, ◌∙◌, List, [], ◌∷◌, length, arith, ap, subst, sym, refl}
use Rattle.list_words.specs.Lists.{Each}
use Rattle.list_words.proofs.EachLemmas.{each_append}
use Rattle.flat_list.specs.declared.command.Command.{Command}
use Rattle.flat_list.specs.Flat.{Flat}
use Rattle.flat_list.specs.Sections.{labels_of}
use Rattle.flat_list.specs.Step.{step}
use Rattle.flat_list.specs.Script.{Script, IsSmall}
use Rattle.flat_list.specs.Run.{after}
use Rattle.sock_script.specs.Output.{issued_from, new_flat, lists_from, lists_of}
use Rattle.sock_script.specs.Steps.{issue}
use Rattle.sock_script.proofs.Issued.{lists_append}
use Rattle.sock_script.proofs.SectionsApart.{grows_one, others_stay}

-- how many labels a section has given
abbrev label_count : ℕ → Flat → ℕ
label_count n flat = length (labels_of n flat.sections)

module _ (P : Flat → Type 0) (kept : (flat : Flat) (n : ℕ) (c : Command) → n ≤ 64 → label_count n flat + 1 < 2 ^ 56 → P flat → P (step flat n c).flat) where
  module _ (n : ℕ) (number : n ≤ 64) where
    -- of each list that a section's commands leave, and of the last
    in_section : (flat : Flat) (commands : List Command) → label_count n flat + length commands < 2 ^ 56 → P flat → Each P (lists_from flat (issue n commands)) × P (after flat (issue n commands))
    in_section flat [] room h = (tt, h)
    in_section flat (c ∷ rest) room h =
        let next : Flat = (step flat n c).flat in
        let grown : label_count n next ≤ label_count n flat + 1 = grows_one flat n c in
        let one : P next = kept flat n c number (omega arith) h in
        let more = in_section next rest (omega (arith, grown)) one in
        ((one, more.0), more.1)

  in_sections : (flat : Flat) (n : ℕ) (sections : List (List Command)) → n + length sections ≤ 65 → Each (λ (commands : List Command). length commands < 2 ^ 24) sections → ((m : ℕ) → n ≤ m → labels_of m flat.sections ≡ []) → P flat → Each P (lists_from flat (issued_from n sections))
  in_sections flat n [] few small fresh h = tt
  in_sections flat n (commands ∷ rest) few small fresh h =
      let none : label_count n flat ≡ 0 = ap length (fresh n (omega arith)) in
      let first = in_section n (omega arith) flat commands (omega (arith, small.0)) h in
      let next : Flat = after flat (issue n commands) in
      let later : (m : ℕ) → n + 1 ≤ m → labels_of m next.sections ≡ [] =
      λ m le. others_stay flat n commands m (λ e. omega arith) ∙ fresh m (omega arith) in
      subst (Each P) (sym (lists_append flat (issue n commands) (issued_from (n + 1) rest)))
      (each_append P (lists_from flat (issue n commands)) (lists_from next (issued_from (n + 1) rest)) first.0
      (in_sections next (n + 1) rest (omega arith) small.1 later first.1))

  pub each_list : (script : Script) → IsSmall script → P (new_flat script.header) → Each P (lists_of script)
  each_list script small h =
      (h, in_sections (new_flat script.header) 1 script.sections (omega (arith, small.sections)) small.commands (λ m le. refl) h)
