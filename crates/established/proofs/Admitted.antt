-- A newcomer is hashed into a chain that was walked, and then the TIME_WAIT that gives way is unhashed.
use Rattle.std.proofs.Common.{◌≡◌, ℕ, ◌+◌, ◌≤◌, [], ◌∷◌, inl, Option, None, Some, sym, refl, ap, ◌∙◌, arith, subst}
use Rattle.list_words.specs.Lists.{Each}
use Rattle.chain_book.specs.declared.outcome.Hashed.{Hashed}
use Rattle.table_rule.specs.Lists.{stands}
use Rattle.table_rule.specs.Plays.{PlacesListed, PlacesApart}
use Rattle.table_rule.specs.Sole.{IsRead}
use Rattle.table_rule.specs.Owners.{time_waits, IsPlace}
use Rattle.table_rule.specs.declared.view.View.{View}
use Rattle.table_rule.specs.declared.view.Seen.{Seen}
use Rattle.nulls_chain.specs.Changes.{PlacesStay, OthersStay, TwoDrawn, IsPlaced}
use Rattle.nulls_chain.specs.declared.keeping.Place.{Place}
use Rattle.established.specs.Rows.{IsIn}
use Rattle.established.specs.Surveys.{Surveyed}
use Rattle.established.specs.Comings.{IsOut, Goes, FourDrawn}
use Rattle.established.specs.declared.survey.Sought.{Sought}
use Rattle.established.specs.declared.survey.Survey.{Survey}
use Rattle.established.proofs.Found.{in_behind, waiting_there, waiting_apart}

module _ (sought : Sought) (s : Survey) (v u w : View) (first : Seen) (o : Surveyed sought s v.chain.walked) (once : (i : ℕ) → stands i v.chain.walked ≤ 1) (far : stands first.slot v.chain.walked ≡ 0) where
  -- it stands in the list still, and may be unhashed
  pub out_after : u.chain.walked ≡ first ∷ v.chain.walked → IsOut s.waiting u
  out_after list = go s.waiting refl
    where
      go : (f : Option Hashed) → s.waiting ≡ f → IsOut f u
      go None e = tt
      go (Some x) e =
          let t = waiting_there sought s v x o once e in
          let h : IsIn x u.chain.walked = subst (IsIn x) (sym list) (in_behind x first v.chain.walked far t.0) in
          (h, inl (ap time_waits (h.words ∙ sym t.0.words) ∙ t.1))

  -- the newcomer's place stays
  pub placed_after : (bucket : ℕ) (place : Place) → place.slot ≡ first.slot → Goes u w bucket s.waiting → ((x : Hashed) → s.waiting ≡ Some x → OthersStay x.slot u w) → IsPlaced place u.book → IsPlaced place w.book
  placed_after bucket place at goes others p = go s.waiting refl goes
    where
      go : (f : Option Hashed) → s.waiting ≡ f → Goes u w bucket f → IsPlaced place w.book
      go None e g = subst (λ (x : View). IsPlaced place x.book) (sym g) p
      go (Some x) e g =
          let t = waiting_there sought s v x o once e in
          (p.0, p.1, p.2, p.3, others x e p.0 (λ q. omega (arith, t.0.listed, far, ap (λ (i : ℕ). stands i v.chain.walked) (sym q ∙ (p.2 ∙ at)))) p.4)

  -- and so do all others
  pub stay_after : (bucket : ℕ) → v.chain.locked ≡ bucket ∷ [] → v.chain.met ≡ 1 → Each IsRead v.chain.walked → PlacesListed v → PlacesApart v
      → PlacesStay v u → Goes u w bucket s.waiting → ((x : Hashed) → s.waiting ≡ Some x → OthersStay x.slot u w) → PlacesStay v w
  stay_after bucket had met read listed apart stay goes others h p = go s.waiting refl goes
    where
      go : (f : Option Hashed) → s.waiting ≡ f → Goes u w bucket f → IsPlace w.book h
      go None e g = subst (λ (x : View). IsPlace x.book h) (sym g) (stay h p)
      go (Some x) e g =
          let t = waiting_there sought s v x o once e in
          others x e h (waiting_apart v bucket x.slot h had met read listed apart t.0.listed t.1 p) (stay h p)

pub four_drawn : (v u w : View) → TwoDrawn v u → TwoDrawn u w → FourDrawn v w
four_drawn v u w one two more share = two more (one (more + 2) (omega (arith, share)))

-- Where nobody comes first, the same of the list as it was walked

pub out_of : (sought : Sought) (s : Survey) (v : View) → Surveyed sought s v.chain.walked → ((i : ℕ) → stands i v.chain.walked ≤ 1) → IsOut s.waiting v
out_of sought s v o once = go s.waiting refl
  where
    go : (f : Option Hashed) → s.waiting ≡ f → IsOut f v
    go None e = tt
    go (Some x) e = let t = waiting_there sought s v x o once e in (t.0, inl t.1)

pub stay_of : (sought : Sought) (s : Survey) (v w : View) → Surveyed sought s v.chain.walked → ((i : ℕ) → stands i v.chain.walked ≤ 1) → (bucket : ℕ) → v.chain.locked ≡ bucket ∷ [] → v.chain.met ≡ 1
    → Each IsRead v.chain.walked → PlacesListed v → PlacesApart v → Goes v w bucket s.waiting → ((x : Hashed) → s.waiting ≡ Some x → OthersStay x.slot v w) → PlacesStay v w
stay_of sought s v w o once bucket had met read listed apart goes others h p = go s.waiting refl goes
  where
    go : (f : Option Hashed) → s.waiting ≡ f → Goes v w bucket f → IsPlace w.book h
    go None e g = subst (λ (x : View). IsPlace x.book h) (sym g) p
    go (Some x) e g =
        let t = waiting_there sought s v x o once e in
        others x e h (waiting_apart v bucket x.slot h had met read listed apart t.0.listed t.1 p) p
