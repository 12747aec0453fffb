-- What lines say of a later one, a line at a time.
use Rattle.std.proofs.Common.{◌≡◌, ◌∙◌, ℕ, suc, ◌+◌, ◌<◌, List, [], ◌∷◌, length, drop, get_or, ap, sym, arith}
use Rattle.std.proofs.Math.Seq.{drop-cons}
use Rattle.line_forms.specs.declared.verb.Verb.{Verb}
use Rattle.sock_script.specs.Words.{words_of}
use Rattle.refusals.specs.declared.before.Before.{Before}
use Rattle.refusals.specs.Before.{before_from, noted}

pub before_more : (verb : Verb) (label : List ℕ) (lines : List (List ℕ)) (i : ℕ) → i < length lines → (line : List ℕ)
    → get_or lines i [] ≡ line → (old new all : Before) → new ≡ noted verb label (i + 1) (words_of line) old
    → before_from verb label (i + 1) old (drop i lines) ≡ all → before_from verb label (i + 1 + 1) new (drop (i + 1) lines) ≡ all
before_more verb label lines i lt line is old new all step before =
    let next : suc i ≡ i + 1 = omega arith in
    let rest : List (List ℕ) = drop (i + 1) lines in
    let here : drop i lines ≡ line ∷ rest =
    drop-cons lines i [] lt ∙ ap (λ (l : List ℕ). l ∷ drop (suc i) lines) is ∙ ap (λ (n : ℕ). line ∷ drop n lines) next in
    ap (λ (b : Before). before_from verb label (i + 1 + 1) b rest) step
    ∙ sym (ap (λ (ls : List (List ℕ)). before_from verb label (i + 1) old ls) here) ∙ before
