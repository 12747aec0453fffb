-- A turn of the loop over the steps.
use Rattle.std.proofs.Common.{◌≡◌, ℕ, zero, suc, ◌+◌, ◌-◌, ◌*◌, ◌%◌, ◌<◌, ◌≤◌, ◌∙◌, List, [], ◌∷◌, ◌++◌, append_assoc, append-nil, length, length-append, arith, refl, sym, ap, subst}
use Rattle.std.specs.List.{slice_index_or}
use Rattle.rand_pcg.specs.Lcg.{Lcg}
use Rattle.rand_pcg.specs.Pcg.{pcg32}
use Rattle.flat_list.specs.declared.command.Command.{Command}
use Rattle.flat_list.specs.Script.{Script, IsSmall}
use Rattle.sock_script.specs.Make.{next_words, step_words, step_generator}
use Rattle.sock_script.specs.MadeCommands.{step_commands, commands_from, commands_by_remainder, made_script}

-- no words are left
no_words : (g : Lcg) → next_words g 0 ≡ []
unfolding next_words
no_words g = refl

-- the first word, and those after it
first_word : (g : Lcg) (n : ℕ) → next_words g (suc n) ≡ (pcg32 g).0 ∷ next_words (pcg32 g).1 n
unfolding next_words
first_word g n = refl

-- the commands made so far, with those of the rest, are all
abbrev pub MadeSoFar : ℕ → ℕ → Lcg → List Command → ℕ → Type 0
MadeSoFar seed count g commands i =
    commands ++ commands_from (i + 1) (next_words g (count - i)) ≡ commands_from 1 (step_words seed count)

pub made_none : (seed count : ℕ) (g : Lcg) → g ≡ step_generator seed → MadeSoFar seed count g [] 0
made_none seed count g is =
    let whole : count - 0 ≡ count = omega arith in
    ap (λ n. commands_from 1 (next_words g n)) whole ∙ ap (λ h. commands_from 1 (next_words h count)) is

pub made_more : (seed count i : ℕ) (g next : Lcg) (w : ℕ) (before after : List Command) → i < count
    → MadeSoFar seed count g before i → w ≡ (pcg32 g).0 → next ≡ (pcg32 g).1 → after ≡ before ++ step_commands (i + 1) w
    → MadeSoFar seed count next after (i + 1)
made_more seed count i g next w before after lt h word_is next_is is =
    let n : ℕ = count - (i + 1) in
    let whole : count - i ≡ suc n = omega arith in
    let words : next_words g (count - i) ≡ w ∷ next_words next n =
    ap (next_words g) whole ∙ first_word g n ∙ ap (λ v. v ∷ next_words (pcg32 g).1 n) (sym word_is) ∙ ap (λ d. w ∷ next_words d n) (sym next_is) in
    ap (λ a. a ++ commands_from (i + 1 + 1) (next_words next n)) is
    ∙ append_assoc before (step_commands (i + 1) w) _
    ∙ ap (λ ws. before ++ commands_from (i + 1) ws) (sym words) ∙ h

pub made_all : (seed count i : ℕ) (g : Lcg) (commands : List Command) → count ≤ i → MadeSoFar seed count g commands i
    → commands ≡ commands_from 1 (step_words seed count)
made_all seed count i g commands le h =
    let none : count - i ≡ 0 = omega arith in
    sym (append-nil commands) ∙ ap (λ ws. commands ++ commands_from (i + 1) ws) (sym (ap (next_words g) none ∙ no_words g)) ∙ h

-- a step has three commands at most
step_length : (i w k : ℕ) → length (slice_index_or (commands_by_remainder i w) k []) ≤ 3
step_length i w zero = omega arith
step_length i w (suc zero) = omega arith
step_length i w (suc (suc zero)) = omega arith
step_length i w (suc (suc (suc zero))) = omega arith
step_length i w (suc (suc (suc (suc zero)))) = omega arith
step_length i w (suc (suc (suc (suc (suc zero))))) = omega arith
step_length i w (suc (suc (suc (suc (suc (suc zero)))))) = omega arith
step_length i w (suc (suc (suc (suc (suc (suc (suc zero))))))) = omega arith
step_length i w (suc (suc (suc (suc (suc (suc (suc (suc k)))))))) = omega arith

-- and so many steps three times as many
steps_length : (i : ℕ) (ws : List ℕ) → length (commands_from i ws) ≤ 3 * length ws
steps_length i [] = omega arith
steps_length i (w ∷ ws) =
    let here : length (step_commands i w) ≤ 3 = step_length i w (w % 8) in
    let rest : length (commands_from (i + 1) ws) ≤ 3 * length ws = steps_length (i + 1) ws in
    omega (arith, length-append (step_commands i w) (commands_from (i + 1) ws))

-- as many words as were asked for
pub words_length : (g : Lcg) (n : ℕ) → length (next_words g n) ≡ n
words_length g zero = ap length (no_words g)
words_length g (suc n) = ap length (first_word g n) ∙ omega (arith, words_length (pcg32 g).1 n)

-- so many steps have three times as many commands at most
pub commands_length : (seed count : ℕ) → length (commands_from 1 (step_words seed count)) ≤ 3 * count
commands_length seed count =
    omega (arith, steps_length 1 (step_words seed count), words_length (step_generator seed) count)

-- so few steps are a small script
pub small_made : (seed count : ℕ) (script : Script) → count ≤ 100000 → script ≡ made_script seed count → IsSmall script
small_made seed count script few is =
    subst IsSmall (sym is) (record { sections = omega arith; commands = (omega (arith, commands_length seed count), tt) })
