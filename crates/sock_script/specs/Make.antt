-- Generated scripts: a rule of our own. What each step does, and with which numbers, is chosen by a word of PCG's
-- XSH-RR generator of 64 bits of state (O'Neill, "PCG: a family of simple fast space-efficient statistically good
-- algorithms for random number generation").
--
-- To be read from `made_text` upwards: the contract of `script` cites it. The law `TextsAreScripts` stands below it.
use Rattle.std.specs.Prelude.{ℕ, zero, suc, ◌+◌, ◌/◌, ◌%◌, ◌^◌, ◌<◌, ◌≤◌, List, [], ◌∷◌, ◌++◌, codes, decimal, flat_map}
use Rattle.std.specs.List.{join_with_byte, slice_index_or}
use Rattle.rand_pcg.specs.Lcg.{Lcg, started, increment_of}
use Rattle.rand_pcg.specs.Pcg.{multiplier_64, pcg32}
use Rattle.flat_list.specs.Script.{Script}
use Rattle.sock_script.specs.declared.parse.Mode.TheVariants as modes
use Rattle.sock_script.specs.Grammar.{IsScript}

-- the generator of a seed, on stream 1000
abbrev pub step_generator : ℕ → Lcg
step_generator seed = started 64 multiplier_64 seed (increment_of 64 1000)

-- the next words of a generator, so many
unfoldable pub next_words : Lcg → ℕ → List ℕ
next_words g zero = []
next_words g (suc n) = (pcg32 g).0 ∷ next_words (pcg32 g).1 n

-- the words of the steps, one for each
abbrev pub step_words : ℕ → ℕ → List ℕ
step_words seed count = next_words (step_generator seed) count

-- the label of that number: `s` and the number
abbrev pub step_label : ℕ → List ℕ
step_label i = codes "s" ++ decimal i

-- the last of an address's four numbers, 1 to 4
abbrev pub last_number : ℕ → ℕ
last_number w = 1 + w / 8 % 4

-- one of 64 ports
abbrev pub step_port : ℕ → ℕ
step_port w = 8000 + w / 32 % 64

-- the number of this step or of an earlier one
abbrev pub chosen_step : ℕ → ℕ → ℕ
chosen_step i w = 1 + w / 2048 % i

-- the port at the far end of step i
abbrev pub remote_port : ℕ → ℕ
remote_port i = 1000 + i % 60000

-- the words of a step's lines, for each remainder of w modulo 8
abbrev pub lines_by_remainder : ℕ → ℕ → List (List (List (List ℕ)))
lines_by_remainder i w =
    let label : List ℕ = step_label i in
    let chosen : List ℕ = step_label (chosen_step i w) in
    let addr : List ℕ = codes "10.0.0." ++ decimal (last_number w) in
    let port : List ℕ = codes ":" ++ decimal (step_port w) in
    let remote : List ℕ = codes "10.0.1.2:" ++ decimal (remote_port i) in
    ((codes "socket" ∷ label ∷ codes "reuseaddr" ∷ [])
    ∷ (codes "bind" ∷ label ∷ (codes "0.0.0.0" ++ port) ∷ []) ∷ [])
    ∷ ((codes "socket" ∷ label ∷ codes "reuseport" ∷ [])
    ∷ (codes "bind" ∷ label ∷ (addr ++ port) ∷ [])
    ∷ (codes "listen" ∷ label ∷ []) ∷ [])
    ∷ ((codes "socket" ∷ label ∷ [])
    ∷ (codes "bind" ∷ label ∷ (addr ++ codes ":0") ∷ [])
    ∷ (codes "listen" ∷ label ∷ []) ∷ [])
    ∷ ((codes "socket" ∷ label ∷ [])
    ∷ (codes "connect" ∷ label ∷ codes "from" ∷ addr ∷ codes "to" ∷ (codes "10.0.1.1" ++ port) ∷ []) ∷ [])
    ∷ ((codes "accept" ∷ chosen ∷ label ∷ codes "from" ∷ remote ∷ codes "at" ∷ (addr ++ port) ∷ []) ∷ [])
    ∷ ((codes "close" ∷ chosen ∷ []) ∷ [])
    ∷ ((codes "look" ∷ remote ∷ (addr ++ port) ∷ []) ∷ [])
    ∷ ((codes "at" ∷ decimal i ∷ [])
    ∷ (codes "reap" ∷ []) ∷ []) ∷ []

-- the words of the lines of step i, whose word is w
abbrev pub step_lines : ℕ → ℕ → List (List (List ℕ))
step_lines i w = slice_index_or (lines_by_remainder i w) (w % 8) []

-- the lines of the steps from step i on, whose words are these
abbrev pub lines_from : ℕ → List ℕ → List (List (List ℕ))
lines_from i [] = []
lines_from i (w ∷ ws) = step_lines i w ++ lines_from (i + 1) ws

-- the lines before the steps
abbrev pub first_lines : ℕ → List (List (List ℕ))
first_lines seed =
    (codes "table" ∷ codes "slots" ∷ codes "4096" ∷ codes "bind" ∷ codes "16" ∷ codes "hash" ∷ codes "1024"
    ∷ codes "listen" ∷ codes "16" ∷ [])
    ∷ (codes "seed" ∷ decimal seed ∷ [])
    ∷ (codes "twreuse" ∷ codes "1" ∷ [])
    ∷ (codes "script" ∷ codes "1" ∷ []) ∷ []

-- a line of these words, with a space (byte 32) between them and a line feed at its end
abbrev pub line_bytes : List (List ℕ) → List ℕ
line_bytes words = join_with_byte 32 words ++ codes "\n"

-- the text of a seed and so many steps
abbrev pub made_text : ℕ → ℕ → List ℕ
made_text seed count = flat_map line_bytes (first_lines seed ++ lines_from 1 (step_words seed count))

-- each text of a seed of 32 bits and at most 100000 steps is a script
abbrev pub TextsAreScripts : Type 0
TextsAreScripts =
    (seed count : ℕ) → seed < 2 ^ 32 → count ≤ 100000 → (script : Script)
    × IsScript modes.Run (made_text seed count) script
