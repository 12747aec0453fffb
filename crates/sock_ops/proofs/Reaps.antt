-- TIME_WAITs that are reaped, as deeds.
use Rattle.std.proofs.Common.{◌≡◌, ℕ, ◌==◌, Bool, true, false, [], ◌∷◌, Option, None, Some, IfSome, find, refl, sym, ap, ◌∙◌, subst}
use Rattle.std.specs.Option.{option_map}
use Rattle.std.proofs.lemmas.Bool.{eqb-true}
use Rattle.list_words.proofs.EachLemmas.{found_passes}
use Rattle.sock_card.specs.TimeWait.{is_time_wait_kind}
use Rattle.sock_card.specs.declared.card.Card.{Card}
use Rattle.sock_card.specs.declared.card.Kind.TheVariants as kinds
use Rattle.chain_book.specs.Homes.{home}
use Rattle.chain_book.specs.declared.book.Change.{Change}
use Rattle.chain_book.specs.declared.outcome.Hashed.{Hashed}
use Rattle.chain_book.specs.Chains.{Chains, row_at, home_in, waits_as, waiting, without_replaced, unhashed}
use Rattle.table_rule.specs.Plays.{sight_of, unlocking}
use Rattle.table_rule.specs.declared.view.Layout.{Layout}
use Rattle.table_rule.specs.declared.view.View.{View}
use Rattle.established.specs.Rows.{row_of, card_words}
use Rattle.established.specs.Alone.{chains_of, ReapsAlone}
use Rattle.established.specs.Comings.{walking, Departs, Goes}
use Rattle.established.specs.Leavings as spec
use Rattle.established.specs.Leavings.{slot_of, waiting_as}
use Rattle.established.proofs.Found.{waiting-kind}
use Rattle.table_model.specs.Tables as tables
use Rattle.table_model.specs.Tables.{was_found}
use Rattle.race_book.proofs.Checks.{and_left, and_right}
use Rattle.race_record.specs.Deeds.{reaped}
use Rattle.race_record.specs.Goes.{IsReap, was_there}
use Rattle.sock_ops.specs.Made.{Made, AnswersAlone, SawNoWait}
use Rattle.sock_ops.specs.Answers.{Reaps, slot_in}
use Rattle.sock_ops.proofs.Found.{IsTold, found_told}
use Rattle.nulls_chain.specs.Changes.{PlacesStay}
use Rattle.sock_ops.proofs.Stays.{all_stay}
use Rattle.sock_ops.proofs.Left.{side, change_at, bare_of, made, left_kept, left_one, left_unlocked}
use Rattle.sock_ops.proofs.Comes.{quiet_of, no_hash}

-- On a pass that was never split

abbrev is-some : Option ℕ → Bool
is-some None = false
is-some (Some n) = true

found-some : (o : Option Hashed) → was_found o ≡ is-some (option_map slot_of o)
found-some None = refl
found-some (Some x) = refl

there-some : (o : Option Change) → was_there o ≡ is-some (option_map slot_in o)
there-some None = refl
there-some (Some u) = refl

reaped_so : (t : Chains) (card : Card) (bucket : ℕ) → home_in t card ≡ bucket → (o : Option Hashed) → tables.reaped t card o ≡ without_replaced t bucket o
reaped_so t card bucket at None = refl
reaped_so t card bucket at (Some x) = ap (λ (b : ℕ). unhashed t (record { bucket = b; slot = x.slot })) at

reap_answers : (layout : Layout) (next bucket : ℕ) (card : Card) (unhash : Option Change) (result : Option ℕ) (v w : View) → home layout.shape layout.seed card ≡ bucket → result ≡ option_map slot_in unhash
    → ReapsAlone layout bucket card.name result v w → AnswersAlone (reaped card unhash ∷ []) (side layout v next) (side layout w next)
reap_answers layout next bucket card unhash result v w at told alone now =
    let t : Chains = chains_of layout next v.book.closed in
    let a = alone now in
    let one = a.0 next in
    let found : waiting t card ≡ waiting_as card.name (row_at t bucket) = ap (λ (b : ℕ). find (waits_as card.name) (row_at t b)) at in
    let same : was_found (waiting t card) ≡ was_there unhash =
    ap was_found found ∙ (found-some (waiting_as card.name (row_at t bucket)) ∙ (ap is-some (sym one.0 ∙ told) ∙ sym (there-some unhash))) in
    let left_so : tables.reaped t card (waiting t card) ≡ chains_of layout next w.book.closed =
    ap (tables.reaped t card) found ∙ (reaped_so t card bucket at (waiting_as card.name (row_at t bucket)) ∙ sym one.1) in
    (λ buckets. (same, left_so), a.1)

-- The deed

module _ (layout : Layout) (next bucket : ℕ) (card : Card) (result : Option ℕ) (v w : View) (waits : card.kind ≡ kinds.TimeWait) (at : home layout.shape layout.seed card ≡ bucket)
    (h : spec.Reaps bucket card.name result v w) (alone : ReapsAlone layout bucket card.name result v w) (stay : PlacesStay v w) where
  by_found : (o : Option Hashed) → waiting_as card.name (row_of h.chain) ≡ o → Reaps card result (side layout v next) (side layout w next)
  by_found None e =
      let same : w ≡ unlocking (walking v bucket h.chain) h.instant =
      h.unlocked ∙ ap (λ (y : View). unlocking y h.instant) (subst (λ (o : Option Hashed). Goes (walking v bucket h.chain) h.left bucket o) e h.goes) in
      let saw : SawNoWait card (side layout v next) (side layout (unlocking (walking v bucket h.chain) h.instant) next) =
      record {
        sight = sight_of (walking v bucket h.chain) h.instant;
        sights = refl;
        bucket = ap (λ (b : ℕ). b ∷ []) (sym at);
        since = refl;
        until = refl;
        whole = refl;
        cards = h.cards;
        none = e;
      } in
      let is : Made (reaped card None) (side layout v next) (side layout (unlocking (walking v bucket h.chain) h.instant) next) =
      made (reaped card None) (side layout v next) (side layout (unlocking (walking v bucket h.chain) h.instant) next) tt (left_kept layout next next v bucket h.instant h.chain) saw in
      let told = h.slot ∙ ap (option_map slot_of) e in
      record {
        unhash = None;
        answer = told;
        does = record {
          leaves = (side layout w next, subst (λ (x : View). Made (reaped card None) (side layout v next) (side layout x next)) (sym same) is, refl);
          stay = all_stay (reaped card None ∷ []) v w stay;
          alone = reap_answers layout next bucket card None result v w at told alone;
        };
      }
  by_found (Some x) e =
      let d : Departs (walking v bucket h.chain) h.left bucket x.slot x.card =
      subst (λ (o : Option Hashed). Goes (walking v bucket h.chain) h.left bucket o) e h.goes in
      let told_card : IsTold x.card = found_told (waits_as card.name) h.chain x h.cards e in
      let true_of = found_passes (waits_as card.name) (row_of h.chain) x e in
      let u : Change = change_at 0 bucket x.slot x.card d.change.0 d.change.1 in
      let fits : IsReap card u = record {
        act = refl;
        kind = ap (λ (k : Card). k.kind) told_card ∙ (waiting-kind x.card.kind (and_right (x.card.name == card.name) (is_time_wait_kind x.card.kind) true_of) ∙ sym waits);
        name = ap (λ (k : Card). k.name) told_card ∙ eqb-true x.card.name card.name (and_left (x.card.name == card.name) (is_time_wait_kind x.card.kind) true_of);
      } in
      let l = left_unlocked (u ∷ []) [] (u.begin ∷ u.end ∷ []) layout next next v h.left h.instant
      (left_one layout next next v h.left 0 bucket x.slot x.card (bare_of (walking v bucket h.chain) h.left 0 bucket x.slot (card_words x.card) d.change) (quiet_of (walking v bucket h.chain) h.left d.rest) d.saw (no_hash layout bucket x.slot x.card u.begin u.end)) in
      let is : Made (reaped card (Some u)) (side layout v next) (side layout (unlocking h.left h.instant) next) =
      made (reaped card (Some u)) (side layout v next) (side layout (unlocking h.left h.instant) next) fits l tt in
      let told = h.slot ∙ ap (option_map slot_of) e in
      record {
        unhash = Some u;
        answer = told;
        does = record {
          leaves = (side layout w next, subst (λ (y : View). Made (reaped card (Some u)) (side layout v next) (side layout y next)) (sym h.unlocked) is, refl);
          stay = all_stay (reaped card (Some u) ∷ []) v w stay;
          alone = reap_answers layout next bucket card (Some u) result v w at told alone;
        };
      }

  pub reaps_of : Reaps card result (side layout v next) (side layout w next)
  reaps_of = by_found (waiting_as card.name (row_of h.chain)) refl

-- the same where the lock was had, if it was
pub reaps_if : (layout : Layout) (next bucket : ℕ) (card : Card) (result : Option (Option ℕ)) (v w : View) → card.kind ≡ kinds.TimeWait → home layout.shape layout.seed card ≡ bucket
    → IfSome result (λ slot. spec.Reaps bucket card.name slot v w) → IfSome result (λ slot. ReapsAlone layout bucket card.name slot v w) → PlacesStay v w
    → IfSome result (λ slot. Reaps card slot (side layout v next) (side layout w next))
reaps_if layout next bucket card None v w wait at h alone stay = tt
reaps_if layout next bucket card (Some slot) v w wait at h alone stay = reaps_of layout next bucket card slot v w wait at h alone stay
