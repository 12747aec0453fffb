use Rattle.std.proofs.Common.{◌≡◌, ℕ, ◌+◌, ◌<◌, List, [], get_or, ⊎_elim, sym, subst, arith}
use Rattle.std.proofs.lemmas.Bool.{cases_lt}
use Rattle.std.proofs.lemmas.List.{get_or-map}
use Rattle.sock_script.specs.Seen.{texts}
use Rattle.line_forms.specs.Kinds.{IsOf, a_port}
use Rattle.refusals.proofs.ports.no_port.Goals as goal

-- the words up to a place are ports, and so is the one there
ports_more : (words : List (List ℕ)) (i : ℕ) → ((k : ℕ) → k < i → IsOf a_port (get_or words k [])) → (word : List ℕ)
    → get_or words i [] ≡ word → IsOf a_port word → (k : ℕ) → k < i + 1 → IsOf a_port (get_or words k [])
ports_more words i before word at is k lt =
    ⊎_elim (λ less. before k less)
    (λ least.
    let same : i ≡ k = omega (arith, least, lt) in
    subst (λ (j : ℕ). IsOf a_port (get_or words j [])) same (subst (λ (w : List ℕ). IsOf a_port w) (sym at) is))
    (cases_lt k i)

pub loop-i-preserved : goal.loop-i-preserved
loop-i-preserved c =
    ports_more (texts c.args.rest.now) c.loop-i.i c.loop-i.invariant _
    (get_or-map (λ w. w.now) c.args.rest.now c.loop-i.i _ [] c.loop-i-test.true) c.in-Some.ensures.some
