-- Sockets that leave, as deeds.
use Rattle.std.proofs.Common.{◌≡◌, ℕ, [], ◌∷◌, Result, refl, sym, ap, ◌∙◌, subst}
use Rattle.sock_card.specs.declared.card.Card.{Card}
use Rattle.chain_book.specs.Homes.{home}
use Rattle.chain_book.specs.declared.book.Change.{Change}
use Rattle.table_rule.specs.Plays.{unlocking}
use Rattle.table_rule.specs.declared.view.View.{View}
use Rattle.table_rule.specs.declared.view.Layout.{Layout}
use Rattle.sock_slots.specs.declared.fresh.Full.{Full}
use Rattle.nulls_chain.specs.Changes.{OtherPlacesStay}
use Rattle.nulls_chain.specs.declared.keeping.Place.{Place}
use Rattle.established.specs.Rows.{card_words}
use Rattle.established.specs.Leavings as spec
use Rattle.established.specs.Alone.{LeavesAlone, WaitsAlone}
use Rattle.race_record.specs.Deeds.{added, left}
use Rattle.race_record.specs.Goes.{IsUnhashAt}
use Rattle.sock_ops.specs.Made.{Made, AnswersAlone}
use Rattle.sock_ops.specs.Answers.{Removes, Waits}
use Rattle.sock_ops.proofs.Found.{IsTold}
use Rattle.sock_ops.proofs.Left.{side, change_at, bare_of, made, left_one, left_unlocked}
use Rattle.sock_ops.proofs.Alone.{leave_answers, wait_answers}
use Rattle.sock_ops.proofs.Stays.{other_stays}
use Rattle.sock_ops.proofs.Comes.{quiet_of, no_hash, next_after_add, tries_of}

-- an unhash of a place
is_at : (place : Place) (b e : ℕ) → IsTold place.card
    → IsUnhashAt (record { bucket = place.bucket; slot = place.slot }) place.card (change_at 0 place.bucket place.slot place.card b e)
is_at place b e told = record {
  unhash = record { act = refl; card_is = told };
  bucket = refl;
  slot = refl;
}

pub removes_of : (layout : Layout) (next : ℕ) (place : Place) (v w : View) → IsTold place.card → spec.Leaves place v w → LeavesAlone layout place v w → OtherPlacesStay place v w
    → Removes place (side layout v next) (side layout w next)
removes_of layout next place v w told h alone stay =
    let u : Change = change_at 0 place.bucket place.slot place.card h.change.0 h.change.1 in
    let l = left_one layout next next v w 0 place.bucket place.slot place.card (bare_of v w 0 place.bucket place.slot (card_words place.card) h.change) h.quiet h.saw (no_hash layout place.bucket place.slot place.card u.begin u.end) in
    record {
      unhash = u;
      is = is_at place u.begin u.end told;
      does = record {
        leaves = (side layout w next, made (left u) (side layout v next) (side layout w next) refl l tt, refl);
        stay = λ p spared placed. other_stays place p v w stay (λ same. spared.0 (ap (λ (c : Card). c.name) told ∙ same)) placed;
        alone = leave_answers layout next place u v w refl refl alone;
      };
    }

pub waits_of : (layout : Layout) (from : ℕ) (place : Place) (card : Card) (r : Result Place Full) (v w : View) → IsTold place.card → home layout.shape layout.seed card ≡ place.bucket
    → spec.Waits layout from place card r v w → WaitsAlone layout from place card r v w → OtherPlacesStay place v w → Waits place card r (side layout v from) (side layout w (next_after_add from r))
waits_of layout from place card r v w told at h alone stay =
    let t = tries_of layout from place.bucket card v at h.chain r h.between h.comes in
    let next : ℕ = next_after_add from r in
    let mid : View = h.between in
    let d = h.departs in
    let u : Change = change_at 0 place.bucket place.slot place.card d.change.0 d.change.1 in
    let l = left_unlocked (u ∷ []) [] (u.begin ∷ u.end ∷ []) layout next next mid h.left h.instant
    (left_one layout next next mid h.left 0 place.bucket place.slot place.card (bare_of mid h.left 0 place.bucket place.slot (card_words place.card) d.change) (quiet_of mid h.left d.rest) d.saw (no_hash layout place.bucket place.slot place.card u.begin u.end)) in
    let gone : Made (left u) (side layout mid next) (side layout (unlocking h.left h.instant) next) = made (left u) (side layout mid next) (side layout (unlocking h.left h.instant) next) refl l tt in
    record {
      tried = t.tried;
      answer = t.answer;
      unhash = u;
      is = is_at place u.begin u.end told;
      does = record {
        leaves = (
          side layout mid next,
          t.under,
          (side layout w next, subst (λ (x : View). Made (left u) (side layout mid next) (side layout x next)) (sym h.unlocked) gone, refl),
        );
        stay = λ p spared placed. other_stays place p v w stay (λ same. spared.1.0 (ap (λ (c : Card). c.name) told ∙ same)) placed;
        alone = subst (λ (n : ℕ). AnswersAlone (added card t.tried ∷ left u ∷ []) (side layout v from) (side layout w n)) t.next
            (wait_answers layout from place card t.tried u r v w refl refl alone t.outcome);
      };
    }
