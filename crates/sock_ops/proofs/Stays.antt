-- Places that stay as deeds are done.
use Rattle.std.proofs.Common.{◌≢◌, ℕ, List, sym, ap, ◌∙◌, slice_index}
use Rattle.table_rule.specs.declared.view.View.{View}
use Rattle.nulls_chain.specs.Changes.{IsPlaced, PlacesStay, OtherPlacesStay}
use Rattle.nulls_chain.specs.declared.keeping.Place.{Place}
use Rattle.race_record.specs.Deeds.{Deed}
use Rattle.sock_ops.specs.Made.{SparedStay}

-- where all places stay
pub all_stay : (deeds : List Deed) (v w : View) → PlacesStay v w → SparedStay deeds v w
all_stay deeds v w stay = λ place spared p. (p.0, p.1, p.2, p.3, stay p.0 p.4)

-- where all stay but those of one card, one with another name
pub other_stays : (at place : Place) (v w : View) → OtherPlacesStay at v w → at.card.name ≢ place.card.name → IsPlaced place v.book → IsPlaced place w.book
other_stays at place v w stay else p =
    (p.0, p.1, p.2, p.3, stay p.0 (λ same. else (ap (λ (ws : List ℕ). slice_index ws 2) (sym same ∙ p.3))) p.4)
