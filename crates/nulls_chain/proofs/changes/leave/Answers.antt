use Rattle.std.proofs.Common.{◌≡◌, ℕ, ◌+◌, ◌∷◌, ◌++◌, [], List, Option, sym, ap, ◌∙◌, length, subst}
use Rattle.table_rule.specs.Plays.{Sat}
use Rattle.table_rule.specs.Lists.{stands}
use Rattle.table_rule.specs.Calls.{link_after, view, layout_of}
use Rattle.nulls_chain.specs.Changes.{Stands}
use Rattle.table_rule.specs.declared.view.Seen.{Seen}
use Rattle.nulls_chain.proofs.Changed.{stands_in}
use Rattle.table_rule.specs.declared.view.ChainView.{ChainView}
use Rattle.std.proofs.Common.{append_assoc, ◌⊎◌, ◌<◌}
use Rattle.nulls_chain.proofs.changes.leave.Goals as goal

pub step_clear_live-requires-clause-listed : goal.step_clear_live-requires-clause-listed
step_clear_live-requires-clause-listed g c = stands_in (layout_of c.args.chains.now) c.args.before c.args.slot (view c.args.steps.now) c.requires.listed

pub step_again_link-link-requires-clause-held : goal.step_again_link-link-requires-clause-held
step_again_link-link-requires-clause-held g c = (c.args.bucket, ap (λ (s : Sat). s.0.chain.locked) c.step_clear_live.ensures.view ∙ c.requires.held.0)

pub step_again_link-link-requires-clause-listed : goal.step_again_link-link-requires-clause-listed
step_again_link-link-requires-clause-listed g c = subst (λ (l : List Seen). 0 < stands c.args.slot l) (sym (ap (λ (s : Sat). s.0.chain.walked) c.step_clear_live.ensures.view)) (stands_in (layout_of c.args.chains.now) c.args.before c.args.slot (view c.args.steps.now) c.requires.listed)

pub step_past_head-requires-clause-first : goal.step_past_head-requires-clause-first
step_past_head-requires-clause-first g c =
    let h = subst (λ (o : Option ℕ). Stands (layout_of c.args.chains.now) o c.args.slot (view c.args.steps.now)) c.in-None.is c.requires.listed in
    let was = ap (λ (s : Sat). s.0.chain) c.step_clear_live.ensures.view in
    let now = ap (λ (s : Sat). s.0.chain) c.step_again_link-link.ensures.same ∙ was in
    let tells = subst (λ (x : ChainView). (x.met ≡ 1) ⊎ (0 < length h.1 + length x.ahead)) (sym was) h.4 in (
      h.0,
      h.1,
      h.2,
      ap (λ (x : ChainView). x.walked) now ∙ h.3,
      subst (λ (x : ChainView). (x.met ≡ 1) ⊎ (0 < length h.1 + length x.ahead)) (sym now) h.4,
      (c.step_again_link-link.ensures.told c.args.bucket [] h.1 h.0 h.2 (ap (λ (s : Sat). s.0.chain.locked) c.step_clear_live.ensures.view ∙ c.requires.held.0) (ap (λ (x : ChainView). x.walked) was ∙ h.3) tells).0
          ∙ ap (λ (s : Sat). link_after c.args.bucket s.0 h.1) (sym c.step_again_link-link.ensures.same),
    )

pub step_past_link-requires-clause-next : goal.step_past_link-requires-clause-next
step_past_link-requires-clause-next g c =
    let g = subst (λ (o : Option ℕ). Stands (layout_of c.args.chains.now) o c.args.slot (view c.args.steps.now)) c.in-Some.is c.requires.listed in
    let h = g.1 in
    let was = ap (λ (s : Sat). s.0.chain) c.step_clear_live.ensures.view in
    let now = ap (λ (s : Sat). s.0.chain) c.step_again_link-link.ensures.same ∙ was in
    let front : List Seen = h.0 ++ h.1 ∷ [] in
    let split : (h.0 ++ h.1 ∷ []) ++ h.2 ∷ h.3 ≡ (front ++ h.2 ∷ []) ++ h.3 = sym (append_assoc front (h.2 ∷ []) h.3) in
    let tells = subst (λ (x : ChainView). (x.met ≡ 1) ⊎ (0 < length h.3 + length x.ahead)) (sym was) h.7 in
    let held = ap (λ (s : Sat). s.0.chain.locked) c.step_clear_live.ensures.view ∙ c.requires.held.0 in (
      c.args.bucket,
      h.0,
      h.1,
      h.2,
      h.3,
      ap (λ (s : Sat). s.0.chain.locked) c.step_again_link-link.ensures.same ∙ held,
      h.4,
      h.5,
      ap (λ (x : ChainView). x.walked) now ∙ h.6,
      subst (λ (x : ChainView). (x.met ≡ 1) ⊎ (0 < length h.3 + length x.ahead)) (sym now) h.7,
      (c.step_again_link-link.ensures.told c.args.bucket front h.3 h.2 h.5 held (ap (λ (x : ChainView). x.walked) was ∙ (h.6 ∙ split)) tells).0
          ∙ ap (λ (s : Sat). link_after c.args.bucket s.0 h.3) (sym c.step_again_link-link.ensures.same),
    )
