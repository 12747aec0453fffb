-- Where no packet is looked up, no pass of a race takes a count.
use Rattle.std.proofs.Common.{◌≡◌, ℕ, zero, suc, ◌+◌, List, [], ◌∷◌, length, refl, subst, arith, ◌∙◌}
use Rattle.std.specs.List.{range_with_len}
use Rattle.list_words.specs.Lists.{Each, SameItems, total}
use Rattle.list_words.proofs.EachLemmas.{each_weaken}
use Rattle.capture_reader.specs.declared.packet.Item.{Item}
use Rattle.capture_reader.specs.declared.packet.Item.TheVariants as items
use Rattle.flat_list.specs.declared.header.Header.{Header}
use Rattle.flat_list.specs.declared.command.Command.{Command}
use Rattle.table_rule.specs.declared.view.ReadView.{ReadView}
use Rattle.race_record.specs.Lawful.{IsNoPacket}
use Rattle.race_record.specs.declared.record.Looked.{Looked}
use Rattle.race_record.specs.declared.record.Looked.TheVariants as looks
use Rattle.race_run.specs.declared.looker.Look.{Look}
use Rattle.race_run.specs.Joins.{Part}
use Rattle.race_run.specs.Lookers.{IsLooked, IsIdle, HasLooked, AllLooked, item_at}
use Rattle.race_run.specs.Races.{AllDone}
use Rattle.race_run.specs.Said.{Said}

-- an item that is no packet has no answer
no_answer : (header : Header) (read : ReadView) (seen : ℕ) (item : Item) (k : Looked) → IsLooked header read seen item k → IsNoPacket item → IsIdle k
no_answer header read seen (items.Packet packet) k h none = absurd none
no_answer header read seen items.Skip looks.Skip h none = tt
no_answer header read seen items.Skip looks.Short h none = tt
no_answer header read seen items.Skip (looks.Answered r) h none = absurd h
no_answer header read seen items.Short looks.Skip h none = tt
no_answer header read seen items.Short looks.Short h none = tt
no_answer header read seen items.Short (looks.Answered r) h none = absurd h

none_at : (all : List Item) (i : ℕ) → Each IsNoPacket all → IsNoPacket (item_at all i)
none_at [] zero h = tt
none_at [] (suc i) h = tt
none_at (x ∷ xs) zero h = h.0
none_at (x ∷ xs) (suc i) h = none_at xs i h.1

-- a range in two
each_range : (P : ℕ → Type 0) (n a b : ℕ) → Each P (range_with_len n a) → Each P (range_with_len (n + a) b) → Each P (range_with_len n (a + b))
each_range P n zero b h k = subst (λ j. Each P (range_with_len n j)) (let e : b ≡ 0 + b = omega arith in e) (subst (λ j. Each P (range_with_len j b)) (let e : n + 0 ≡ n = omega arith in e) k)
each_range P n (suc a) b h k = subst (λ j. Each P (range_with_len n j)) (let e : suc (a + b) ≡ suc a + b = omega arith in e)
    (h.0, each_range P (n + 1) a b h.1 (subst (λ j. Each P (range_with_len j b)) (let e : n + suc a ≡ n + 1 + a = omega arith in e) k))

sum_zero : (g : ℕ → ℕ) (xs : List ℕ) → Each (λ m. g m ≡ 0) xs → total g xs ≡ 0
sum_zero g [] h = refl
sum_zero g (x ∷ xs) h = omega (arith, h.0, sum_zero g xs h.1)

module _ (header : Header) (part : ℕ → Part) where
  abbrev taken : ℕ → ℕ
  taken m = (part m).chain.slot.taken

  abbrev TookNone : ℕ → Type 0
  TookNone m = taken m ≡ 0

  -- no section takes one
  by_sections : (n : ℕ) (scripts : List (List Command)) (says : List Said) → AllDone header part n scripts says → Each TookNone (range_with_len n (length scripts))
  by_sections n [] [] d = tt
  by_sections n (cs ∷ scripts) (said ∷ says) d = (d.0.done.taken, by_sections (n + 1) scripts says d.1)
  by_sections n [] (said ∷ says) d = absurd d
  by_sections n (cs ∷ scripts) [] d = absurd d

  -- nor does a looker that finds no packet
  idle : (passes : ℕ) (all : List Item) → Each IsNoPacket all → (n : ℕ) (took : List Look) → HasLooked header passes all (part n) took → TookNone n
  idle passes all none n took h = h.idle (each_weaken (λ (k : Look). IsLooked header (part n).chain.read (part n).chain.seen (item_at all k.item) k.looked) (λ (k : Look). IsIdle k.looked) took
      (λ k l. no_answer header (part n).chain.read (part n).chain.seen (item_at all k.item) k.looked l (none_at all k.item none)) h.each)

  by_lookers : (passes : ℕ) (all : List Item) → Each IsNoPacket all → (n : ℕ) (tooks : List (List Look)) → AllLooked header passes all part n tooks → Each TookNone (range_with_len n (length tooks))
  by_lookers passes all none n [] a = tt
  by_lookers passes all none n (took ∷ rest) a = (idle passes all none n took a.0, by_lookers passes all none (n + 1) rest a.1)

  pub none_taken : (scripts : List (List Command)) (tooks : List (List Look)) (says : List Said) → AllDone header part 1 scripts says → (passes : ℕ) (all : List Item) → Each IsNoPacket all
      → AllLooked header passes all part (length scripts + 1) tooks → (order : List ℕ) → SameItems order (range_with_len 1 (length scripts + length tooks))
      → (counts : ℕ) → counts ≡ total taken order → counts ≡ 0
  none_taken scripts tooks says d passes all none a order once counts is =
      is ∙ once taken
      ∙ sum_zero taken (range_with_len 1 (length scripts + length tooks))
      (each_range TookNone 1 (length scripts) (length tooks) (by_sections 1 scripts says d)
      (subst (λ j. Each TookNone (range_with_len j (length tooks))) (let e : length scripts + 1 ≡ 1 + length scripts = omega arith in e) (by_lookers passes all none (length scripts + 1) tooks a)))
