-- A plan that is alone at the tables.
use Rattle.std.proofs.Common.{◌≡◌, ℕ, ◌%◌, ◌≤◌, List, [], ◌∷◌, ◌++◌, refl, sym, ap, subst, ◌∙◌, append_assoc, append-nil}
use Rattle.turn_table.specs.declared.note.Placed.{Placed}
use Rattle.bind_buckets.specs.declared.request.Request.{Request}
use Rattle.bind_buckets.specs.declared.request.Answer.{Answer}
use Rattle.bind_buckets.specs.declared.request.Entry.{Entry}
use Rattle.bind_buckets.specs.Journal.{Standing}
use Rattle.bind_buckets.specs.BindHash.{answer_at}
use Rattle.bind_buckets.specs.Turned.{View, IsAsked, IsAlone, KnowsAll, AreLawful, hash_of}
use Rattle.bind_buckets.proofs.HashSteps.{answered_by, asked_by, lawful_front}
use Rattle.chain_book.specs.Chains.{Chains, insert_outcome, hashed, unhashed, waiting}
use Rattle.table_model.specs.Asking.{Asking, asks, inserts, adds, unhashes, reaps}
use Rattle.table_model.specs.Tables.{run, was_found, reaped}
use Rattle.table_model.specs.Goes.{Told, entered, inserted, added, left, reaps_found, Leads, entries_in, outcomes_in, AreChains, Went, tables_by}

module _ {R : Type 0} (count : ℕ) (some : 1 ≤ count) where
  -- a bucket's question
  entered_alone : (given : List (Placed Entry)) (chains : Chains) (port : ℕ) (request : Request) (then_ : Answer → Asking R) (x : Placed Entry) → AreLawful count (given ++ x ∷ []) → x.place ≡ port % count → x.note.entry.request ≡ request
      → run (tables_by count given chains) (asks port request then_) ≡ run (tables_by count (given ++ x ∷ []) chains) (then_ x.note.entry.answer)
  entered_alone given chains port request then_ x lawful place asked =
      let is : IsAsked (port % count) request x.note.entry.answer x = record { place_is = place; entry = ap (λ r. let e : Entry = record { request = r; answer = x.note.entry.answer } in e) asked } in
      ap (λ (h : List Standing). run (record { buckets = h; chains = chains }) (then_ (answer_at (hash_of count given) port request))) (asked_by count port request x.note.entry.answer given x some is lawful)
      ∙ ap (λ a. run (tables_by count (given ++ x ∷ []) chains) (then_ a)) (answered_by count port request x.note.entry.answer given x some is lawful)

  pub goes_alone : (given : List (Placed Entry)) (chains new : Chains) (plan : Asking R) (told : List Told) (rest : Asking R) → AreLawful count (given ++ entries_in told) → AreChains chains told new → Leads count plan told rest
      → run (tables_by count given chains) plan ≡ run (tables_by count (given ++ entries_in told) new) rest
  goes_alone given chains new plan [] rest lawful are leads =
      ap (λ p. run (tables_by count given chains) p) leads ∙ ap (λ c. run (tables_by count given c) rest) are
      ∙ ap (λ g. run (tables_by count g new) rest) (sym (append-nil given))
  goes_alone given chains new (asks port request then_) (entered x ∷ xs) rest lawful are leads =
      let whole : AreLawful count ((given ++ x ∷ []) ++ entries_in xs) = subst (AreLawful count) (sym (append_assoc given (x ∷ []) (entries_in xs))) lawful in
      let one : AreLawful count (given ++ x ∷ []) = lawful_front count (given ++ x ∷ []) (entries_in xs) whole in
      entered_alone given chains port request then_ x one leads.1.0 leads.1.1
      ∙ ap (run (tables_by count (given ++ x ∷ []) chains)) (sym leads.1.2)
      ∙ goes_alone (given ++ x ∷ []) chains new leads.0 xs rest whole are leads.2
      ∙ ap (λ g. run (tables_by count g new) rest) (append_assoc given (x ∷ []) (entries_in xs))
  goes_alone given chains new (inserts card moment rule then_) (inserted c m r outcome ∷ xs) rest lawful are leads =
      let e : insert_outcome chains card moment rule ≡ outcome = rw (← leads.1.0, ← leads.1.1, ← leads.1.2) are.0 in
      ap (λ o. run (tables_by count given (hashed chains card o)) (then_ o)) e
      ∙ ap (λ k. run (tables_by count given (hashed chains k outcome)) (then_ outcome)) (sym leads.1.0)
      ∙ ap (run (tables_by count given (hashed chains c outcome))) (sym leads.1.3)
      ∙ goes_alone given (hashed chains c outcome) new leads.0 xs rest lawful are.1 leads.2
  goes_alone given chains new (adds card then_) (added c outcome ∷ xs) rest lawful are leads =
      ap (λ o. run (tables_by count given (hashed chains card o)) (then_ o)) are.0
      ∙ ap (λ k. run (tables_by count given (hashed chains k outcome)) (then_ outcome)) (sym leads.1.0)
      ∙ ap (run (tables_by count given (hashed chains c outcome))) (sym leads.1.1)
      ∙ goes_alone given (hashed chains c outcome) new leads.0 xs rest lawful are.1 leads.2
  goes_alone given chains new (unhashes place card then_) (left p c ∷ xs) rest lawful are leads =
      ap (λ k. run (tables_by count given (unhashed chains k)) then_) (sym leads.1.0)
      ∙ ap (run (tables_by count given (unhashed chains p))) (sym leads.1.2)
      ∙ goes_alone given (unhashed chains p) new leads.0 xs rest lawful are leads.2
  goes_alone given chains new (reaps card then_) (reaps_found c found ∷ xs) rest lawful are leads =
      ap (λ k. run (tables_by count given (reaped chains k (waiting chains k))) (then_ (was_found (waiting chains k)))) (sym leads.1.0)
      ∙ ap (λ b. run (tables_by count given (reaped chains c (waiting chains c))) (then_ b)) are.0
      ∙ ap (run (tables_by count given (reaped chains c (waiting chains c)))) (sym leads.1.1)
      ∙ goes_alone given (reaped chains c (waiting chains c)) new leads.0 xs rest lawful are.1 leads.2
  goes_alone given chains new plan (x ∷ xs) rest lawful are leads = absurd leads.1

-- chains that weren't asked are as they were
quiet_chains : (chains : Chains) (told : List Told) → outcomes_in told ≡ [] → AreChains chains told chains
quiet_chains chains [] none = refl
quiet_chains chains (entered x ∷ xs) none = quiet_chains chains xs none
quiet_chains chains (inserted c m r outcome ∷ xs) none = absurd (cc)
quiet_chains chains (added c outcome ∷ xs) none = absurd (cc)
quiet_chains chains (left p c ∷ xs) none = absurd (cc)
quiet_chains chains (reaps_found c found ∷ xs) none = absurd (cc)

-- what a pass went on to is what the plan comes to, where the pass is alone
pub went_alone : {R : Type 0} (count : ℕ) (chains : Chains) (plan rest : Asking R) (v w : View) → 1 ≤ count → Went count plan v w rest → IsAlone v → KnowsAll count w → run (tables_by count v.mine chains) plan ≡ run (tables_by count w.mine chains) rest
went_alone count chains plan rest v w some went alone knows =
    let lawful = subst (AreLawful count) went.gave.mine (knows (went.gave.caller ∙ alone.0, went.gave.splits ∙ alone.1)) in
    goes_alone count some v.mine chains chains plan went.told rest lawful (quiet_chains chains went.told went.quiet) went.leads
    ∙ ap (λ g. run (tables_by count g chains) rest) (sym went.gave.mine)
