-- What the items that a looker takes come to.
use Rattle.std.proofs.Common.{◌≡◌, ℕ, ◌<◌, List, [], ◌∷◌, ◌++◌, map, sym, ap, ◌∙◌, subst}
use Rattle.std.proofs.lemmas.List.{map-append}
use Rattle.list_words.specs.Lists.{Each}
use Rattle.list_words.proofs.EachLemmas.{each_unmap}
use Rattle.capture_reader.specs.declared.packet.Item.{Item}
use Rattle.capture_reader.specs.declared.packet.Item.TheVariants as items
use Rattle.chain_book.specs.declared.book.Receipt.{Receipt}
use Rattle.sock_ops.specs.declared.chains.table.ChainTable.{ChainTable}
use Rattle.race_record.specs.declared.record.Looked.{Looked}
use Rattle.race_record.specs.declared.record.Looked.TheVariants as looks
use Rattle.sock_card.specs.declared.card.Packet.{Packet}
use Rattle.table_rule.specs.Plays.{Sat}
use Rattle.race_run.specs.declared.looker.Look.{Look}
use Rattle.race_run.specs.Lookers.{item_at, item_of, AllBefore, HasLooked, looking}
use Rattle.race_run.specs.Looking.{LooksUp, TakesAll, TakesItem}
use Rattle.race_run.proofs.Looked.{looks_none, looks_more, looks_past}

-- An item

pub takes_packet : (t : ChainTable) (passes : ℕ) (item : Item) (packet : Packet) (m n : Sat) (r : Receipt) → item ≡ items.Packet packet → LooksUp t passes packet m n r → TakesItem t passes item m n (looks.Answered r)
takes_packet t passes item packet m n r is up header all v took i layout at before h = looks_more header passes all v took i packet m n r h (at ∙ is) before (up header layout)

pub takes_skip : (t : ChainTable) (passes : ℕ) (item : Item) (m : Sat) → item ≡ items.Skip → TakesItem t passes item m m looks.Skip
takes_skip t passes item m is header all v took i layout at before h = looks_past header passes all (looking v m.0) took i looks.Skip h (subst (λ x. Rattle.race_run.specs.Lookers.IsPassedOver x looks.Skip) (sym (at ∙ is)) tt) before

pub takes_short : (t : ChainTable) (passes : ℕ) (item : Item) (m : Sat) → item ≡ items.Short → TakesItem t passes item m m looks.Short
takes_short t passes item m is header all v took i layout at before h = looks_past header passes all (looking v m.0) took i looks.Short h (subst (λ x. Rattle.race_run.specs.Lookers.IsPassedOver x looks.Short) (sym (at ∙ is)) tt) before

-- All items of a looker

pub all_none : (t : ChainTable) (passes : ℕ) (all : List Item) (m : Sat) (told : List Look) → told ≡ [] → TakesAll t passes all m m told
all_none t passes all m told e header v layout nothing = subst (HasLooked header passes all (looking v m.0)) (sym e) (looks_none header passes all (looking v m.0) nothing)

module _ (told more : List Look) (i : ℕ) (a : Looked) (drawn : List ℕ) (are : drawn ≡ map item_of told) (is : more ≡ told ++ record { item = i; looked = a } ∷ []) where
  -- the number that was drawn is above those before it
  pub all_more : (t : ChainTable) (passes : ℕ) (all : List Item) (m n k : Sat) (item : Item) → TakesAll t passes all m n told → TakesItem t passes item n k a → item_at all i ≡ item → Each (λ j. j < i) drawn → TakesAll t passes all m k more
  all_more t passes all m n k item run takes at above header v layout nothing =
      let before : AllBefore i told = each_unmap (λ j. j < i) item_of told (subst (Each (λ j. j < i)) are above) in
      subst (HasLooked header passes all (looking v k.0)) (sym is) (takes header all v told i layout at before (run header v layout nothing))

  pub drawn_more : drawn ++ i ∷ [] ≡ map item_of more
  drawn_more = ap (λ l. l ++ i ∷ []) are ∙ sym (ap (map item_of) is ∙ map-append item_of told (record { item = i; looked = a } ∷ []))
