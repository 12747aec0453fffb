-- How the plan of `reap` goes on by one TIME_WAIT.
use Rattle.std.proofs.Common.{◌≡◌, ℕ, ◌+◌, ◌%◌, Bool, List, [], ◌∷◌, Option, Some, None, Result, Ok, Err, IfOk, OnErr, refl, sym, subst}
use Rattle.std.specs.Option.{option_map}
use Rattle.sock_card.specs.Conflict.{owner_key}
use Rattle.sock_card.specs.declared.card.Card.{Card}
use Rattle.sock_card.specs.declared.card.Kind.TheVariants as kinds
use Rattle.turn_table.specs.declared.note.Placed.{Placed}
use Rattle.bind_buckets.specs.declared.request.Request.TheVariants as requests
use Rattle.bind_buckets.specs.declared.request.Answer.{Answer}
use Rattle.bind_buckets.specs.declared.request.Entry.{Entry}
use Rattle.bind_buckets.specs.Turned.{View, Gave, Within}
use Rattle.chain_book.specs.declared.book.Change.{Change}
use Rattle.sock_ops.specs.Sides.{Side}
use Rattle.sock_ops.specs.Answers.{Reaps, slot_in}
use Rattle.sock_ops.specs.Made.{Does}
use Rattle.table_model.specs.Asking.{Asking, reaps}
use Rattle.table_model.specs.Own.{Mine, card_of}
use Rattle.table_model.specs.Operations.{reap_each, reaped_next}
use Rattle.race_record.specs.Deeds.{Deed, reaped}
use Rattle.race_record.specs.Goes.{IsReapOf, was_there}
use Rattle.sock_ops.specs.Goes.{Went, AskedAll}
use Rattle.sock_ops.specs.Leads.{Leads}
use Rattle.sock_ops.specs.Reaping.{ReapsOne}
use Rattle.sock_ops.proofs.Goes.{deed_at, entry_is, by_entry, does_both, does_entry, all_one}
use Rattle.sock_ops.proofs.ConnectGoes.{all_none}

by_reaped : {R : Type 0} (card : Card) (unhash : Option Change) (then_ : _ → Asking R) (ds : List Deed) (rest : Asking R) → IsReapOf card unhash → Leads (then_ (was_there unhash)) ds rest → Leads (reaps card then_) (reaped card unhash ∷ ds) rest
by_reaped card unhash then_ ds rest a h = (then_ (was_there unhash), (refl, a, refl), h)

-- what is asked for the owner of a TIME_WAIT that was there, with that answer
abbrev pub reap_entry : ℕ → Answer → Entry
reap_entry name answer = record { request = requests.RemoveWaiting name; answer = answer }

module _ (count : ℕ) (w : Mine) (rest : List Mine) (n : ℕ) (v u : View) (c d : Side) where
  abbrev card : Card
  card = card_of kinds.TimeWait w

  found_by : (unhash : Option Change) (slot : ℕ) (answer : Answer) → Some slot ≡ option_map slot_in unhash → Does (reaped card unhash ∷ []) c d → AskedAll (owner_key w.owner % count) (reap_entry w.owner.name answer ∷ []) v u
      → Went count (reap_each (w ∷ rest) n) v u c d (reap_each rest (n + 1))
  found_by None slot answer is does all = absurd (cc)
  found_by (Some x) slot answer is does all =
      let key = owner_key w.owner in
      let e = reap_entry w.owner.name answer in
      let one = all_one (key % count) e v u all in
      let there : Asking ℕ = reap_each rest (n + 1) in
      let last : List Deed = deed_at key one.x ∷ [] in
      record {
        deeds = reaped card (Some x) ∷ deed_at key one.x ∷ [];
        leads = by_reaped card (Some x) (reaped_next w n (reap_each rest)) last there does.leaves.1.fits
            (by_entry count key (requests.RemoveWaiting w.owner.name) answer (λ _. there) one.x [] there one.is refl);
        gave = subst (λ (p : Placed Entry). Gave v u (p ∷ [])) (sym (entry_is count key e.request e.answer one.x one.is)) one.gave;
        does = does_both (reaped card (Some x) ∷ []) last c d d does (does_entry key one.x d);
      }

  none_by : (unhash : Option Change) → None ≡ option_map slot_in unhash → Does (reaped card unhash ∷ []) c d → Gave v u []
      → Went count (reap_each (w ∷ rest) n) v u c d (reap_each rest n)
  none_by (Some x) is does gave = absurd (cc)
  none_by None is does gave =
      let there : Asking ℕ = reap_each rest n in
      record {
        deeds = reaped card None ∷ [];
        leads = by_reaped card None (reaped_next w n (reap_each rest)) [] there tt refl;
        gave = gave;
        does = does;
      }

  -- it was there
  pub reap_found : (k : Card) (slot : ℕ) (answer : Answer) → k ≡ card → Reaps k (Some slot) c d → AskedAll (owner_key w.owner % count) (reap_entry w.owner.name answer ∷ []) v u
      → Went count (reap_each (w ∷ rest) n) v u c d (reap_each rest (n + 1))
  reap_found k slot answer same reaps_as all =
      let r : Reaps card (Some slot) c d = subst (λ (x : Card). Reaps x (Some slot) c d) same reaps_as in
      found_by r.unhash slot answer r.answer r.does all

  -- it wasn't
  pub reap_none : (place : ℕ) (k : Card) → k ≡ card → Reaps k None c d → AskedAll place [] v u → Went count (reap_each (w ∷ rest) n) v u c d (reap_each rest n)
  reap_none place k same reaps_as all =
      let r : Reaps card None c d = subst (λ (x : Card). Reaps x None c d) same reaps_as in
      none_by r.unhash r.answer r.does (all_none place v u all)

-- as far as a turn that was begun says it
module _ {E : Type 0} (u v z : View) (within : Within v u) where
  pub turn_reaps : (count : ℕ) (w : Mine) (c d : Side) (r : Result Bool E) → IfOk r (λ found. (k : View) → Within k u → ReapsOne count w found k z c d) → IfOk r (λ found. ReapsOne count w found v z c d)
  turn_reaps count w c d (Ok found) goes = goes v within
  turn_reaps count w c d (Err end) goes = tt

  pub turn_nothing : (r : Result Bool E) → OnErr r ((k : View) → Within k u → Gave k z []) → OnErr r (Gave v z [])
  turn_nothing (Ok found) nothing = tt
  turn_nothing (Err end) nothing = nothing v within
