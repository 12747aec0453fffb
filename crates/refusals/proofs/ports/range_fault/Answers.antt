use Rattle.std.proofs.Common.{◌≡◌, ℕ, ◌<◌, ◌≤◌, List, [], ◌∷◌, length, get_or, refl, sym, subst, arith}
use Rattle.std.specs.Borrow.{Bor}
use Rattle.sock_script.specs.Seen.{texts}
use Rattle.line_forms.specs.declared.verb.Verb.TheVariants as verbs
use Rattle.refusals.specs.Ports.{IsPortsFault}
use Rattle.refusals.proofs.ports.range_fault.Goals as goal

-- a list of two
two_texts : (rest : List (Bor (List ℕ))) (d e : Bor (List ℕ)) → 2 ≤ length rest → length rest < 3
    → texts rest ≡ (get_or rest 0 d).now ∷ (get_or rest 1 e).now ∷ []
two_texts [] d e least less = absurd (omega (arith, least))
two_texts (a ∷ []) d e least less = absurd (omega (arith, least))
two_texts (a ∷ b ∷ []) d e least less = refl
two_texts (a ∷ b ∷ x ∷ xs) d e least less = absurd (omega (arith, less))

pub returns-in-len2 : goal.returns-in-len2
returns-in-len2 c =
    subst (λ (ws : List (List ℕ)). IsPortsFault verbs.Range ws c.order_fault.result)
    (sym (two_texts c.args.rest.now _ _ c.in-len2.len_at_least c.in-len2.len_below)) c.order_fault.ensures
