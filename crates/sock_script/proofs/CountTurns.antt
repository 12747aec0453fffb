-- A turn of the loops that count, and what they have counted at their end.
use Rattle.std.proofs.Common.{◌≡◌, ℕ, ◌+◌, ◌-◌, ◌<◌, ◌≤◌, ◌∙◌, ◌⊎◌, min, List, [], ◌∷◌, ◌++◌, length, take, drop, get_or, Bool, true, false, cond, not, ◌&&◌, bytes_eq, codes, arith, refl, sym, ap, inl, inr}
use Rattle.std.proofs.lemmas.Bool.{cond_both, cases_lt}
use Rattle.std.proofs.lemmas.List.{length-map, take-append-drop, length-take, length-drop, drop_all, nil_from_length}
use Rattle.std.proofs.lemmas.List.Sums.{sum_by-cons}
use Rattle.flat_list.specs.declared.command.Command.{Command}
use Rattle.flat_list.specs.declared.command.Reply.{Reply}
use Rattle.flat_list.specs.Run.{Issued}
use Rattle.sock_script.specs.declared.counts.Counts.{Counts}
use Rattle.sock_script.specs.Output.{issued_from, found_label, is_dump, reply_with}
use Rattle.sock_script.specs.Steps.{issue}
use Rattle.sock_script.specs.Counts.{Answered, answered, counts_of, is_look, begins_with_ok, is_counted, is_done, is_not_done, is_found, is_missed}
use Rattle.sock_script.specs.CountSteps.{one_more, with_answered, weight}
use Rattle.sock_script.proofs.RunTurns.{next_drop}

-- where so many are passed as the shorter list has, one is at its end
one_over : {A B : Type 0} (xs : List A) (ys : List B) (i : ℕ) → i ≡ min (length xs) (length ys) → (drop i xs ≡ []) ⊎ (drop i ys ≡ [])
one_over xs ys i is =
    elim (cases_lt i (length xs)) [
      | inl lt ↦ inr (drop_all i ys (omega arith))
      | inr le ↦ inl (drop_all i xs le)
    ]

-- one command more weighs two at most
pub one_more_weighs : (counts : Counts) (command : Command) (text : List ℕ) → weight (one_more counts command text) ≤ weight counts + 2
one_more_weighs counts command text =
    let P : Counts → Type 0 = λ c. weight c ≤ weight counts + 2 in
    cond_both (is_look command) _ _ P
    (λ look. cond_both (bytes_eq text (codes "none")) _ _ P (λ none. omega arith) (λ some. omega arith))
    (λ other. cond_both (is_dump command) _ _ P (λ dump. omega arith)
    (λ counted. cond_both (begins_with_ok text) _ _ P (λ ok. omega arith) (λ refused. omega arith)))

-- counts that are equal in all parts
same_counts : (a b : Counts) → a.commands ≡ b.commands → a.ok ≡ b.ok → a.refused ≡ b.refused → a.found ≡ b.found → a.none ≡ b.none → a ≡ b
same_counts a b p q r s t = λ k. record { commands = p k; ok = q k; refused = r k; found = s k; none = t k }

-- two counts together
abbrev plus : Counts → Counts → Counts
plus a b =
    record {
      commands = a.commands + b.commands;
      ok = a.ok + b.ok;
      refused = a.refused + b.refused;
      found = a.found + b.found;
      none = a.none + b.none;
    }

-- one more of the kind that four tests determine, in front of others
abbrev in_front : Bool → Bool → Bool → Bool → Counts → Counts
in_front look dump missed done rest =
    record {
      commands = cond (not look && not dump) 1 0 + rest.commands;
      ok = cond (not look && not dump && done) 1 0 + rest.ok;
      refused = cond (not look && not dump && not done) 1 0 + rest.refused;
      found = cond (look && not missed) 1 0 + rest.found;
      none = cond (look && missed) 1 0 + rest.none;
    }

abbrev by_tests : Bool → Bool → Bool → Bool → Counts → Counts
by_tests look dump missed done counts =
    cond look
    (cond missed (record counts { none = counts.none + 1 }) (record counts { found = counts.found + 1 }))
    (cond dump counts
    (cond done (record counts { commands = counts.commands + 1; ok = counts.ok + 1 }) (record counts { commands = counts.commands + 1; refused = counts.refused + 1 })))

moved : (look dump missed done : Bool) (a b : Counts) → plus (by_tests look dump missed done a) b ≡ plus a (in_front look dump missed done b)
moved true dump true done a b = same_counts _ _ (omega arith) (omega arith) (omega arith) (omega arith) (omega arith)
moved true dump false done a b = same_counts _ _ (omega arith) (omega arith) (omega arith) (omega arith) (omega arith)
moved false true missed done a b = same_counts _ _ (omega arith) (omega arith) (omega arith) (omega arith) (omega arith)
moved false false missed true a b = same_counts _ _ (omega arith) (omega arith) (omega arith) (omega arith) (omega arith)
moved false false missed false a b = same_counts _ _ (omega arith) (omega arith) (omega arith) (omega arith) (omega arith)

-- the counts of a list with one in front
counts_front : (a : Answered) (rest : List Answered) → counts_of (a ∷ rest) ≡ in_front (is_look a.command) (is_dump a.command) (bytes_eq a.reply (codes "none")) (begins_with_ok a.reply) (counts_of rest)
counts_front a rest =
    same_counts _ _
    (sum_by-cons (λ x. cond (is_counted x) 1 0) a rest)
    (sum_by-cons (λ x. cond (is_done x) 1 0) a rest)
    (sum_by-cons (λ x. cond (is_not_done x) 1 0) a rest)
    (sum_by-cons (λ x. cond (is_found x) 1 0) a rest)
    (sum_by-cons (λ x. cond (is_missed x) 1 0) a rest)

-- one after the other is all at once
all_at_once : (answers : List Answered) (counts : Counts) → with_answered counts answers ≡ plus counts (counts_of answers)
all_at_once [] counts = same_counts _ _ (omega arith) (omega arith) (omega arith) (omega arith) (omega arith)
all_at_once (a ∷ rest) counts =
    all_at_once rest (one_more counts a.command a.reply)
    ∙ moved (is_look a.command) (is_dump a.command) (bytes_eq a.reply (codes "none")) (begins_with_ok a.reply) counts (counts_of rest)
    ∙ ap (plus counts) (sym (counts_front a rest))

-- from nothing on
abbrev pub nothing : Counts
nothing = record { commands = 0; ok = 0; refused = 0; found = 0; none = 0 }

from_nothing : (answers : List Answered) → with_answered nothing answers ≡ counts_of answers
from_nothing answers =
    all_at_once answers nothing ∙ same_counts _ _ (omega arith) (omega arith) (omega arith) (omega arith) (omega arith)

-- a command that is counted is done or refused
done_or_refused : (look dump missed done : Bool) (rest : Counts) → rest.commands ≡ rest.ok + rest.refused
    → (in_front look dump missed done rest).commands ≡ (in_front look dump missed done rest).ok + (in_front look dump missed done rest).refused
done_or_refused true dump missed done rest h = omega arith
done_or_refused false true missed done rest h = omega arith
done_or_refused false false missed true rest h = omega arith
done_or_refused false false missed false rest h = omega arith

pub whole : (answers : List Answered) → (counts_of answers).commands ≡ (counts_of answers).ok + (counts_of answers).refused
whole [] = refl
whole (a ∷ rest) =
    let front = counts_front a rest in
    ap (λ c. c.commands) front
    ∙ done_or_refused (is_look a.command) (is_dump a.command) (bytes_eq a.reply (codes "none")) (begins_with_ok a.reply) (counts_of rest) (whole rest)
    ∙ sym (ap (λ c. c.ok + c.refused) front)

-- some commands, and then others
with_answered-append : (xs ys : List Answered) (counts : Counts) → with_answered counts (xs ++ ys) ≡ with_answered (with_answered counts xs) ys
with_answered-append [] ys counts = refl
with_answered-append (x ∷ xs) ys counts = with_answered-append xs ys (one_more counts x.command x.reply)

module _ (sections : List (List Command)) where
  -- where no replies are left nothing is counted, nor where no commands are
  no_replies : (cs : List Issued) → answered sections cs [] ≡ []
  no_replies [] = refl
  no_replies (c ∷ cs) = refl

  no_commands : (rs : List Reply) → answered sections [] rs ≡ []
  no_commands [] = refl
  no_commands (r ∷ rs) = refl

  -- commands in two parts, where the first part's have all replies that they can have
  answered-append : (xs ys : List Issued) (here later : List Reply) → length here ≤ length xs → (length here < length xs → later ≡ [])
      → answered sections (xs ++ ys) (here ++ later) ≡ answered sections xs here ++ answered sections ys later
  answered-append [] ys [] later le all = refl
  answered-append [] ys (r ∷ here) later le all = absurd (omega arith)
  answered-append (c ∷ xs) ys [] later le all =
      let none : later ≡ [] = all (omega arith) in
      rw none (sym (no_replies ys))
  answered-append (c ∷ xs) ys (r ∷ here) later le all =
      ap (λ rest. record { command = c.command; reply = reply_with (found_label sections r) r } ∷ rest) (answered-append xs ys here later (omega arith) (λ lt. all (omega arith)))

  -- what was counted of a section, with the rest of it, is all of it
  abbrev pub CountedSoFar : ℕ → List Command → List Reply → Counts → Counts → ℕ → Type 0
  CountedSoFar n commands rs before now i =
      with_answered now (answered sections (issue n (drop i commands)) (drop i rs)) ≡ with_answered before (answered sections (issue n commands) rs)

  pub counted_more : (n : ℕ) (commands : List Command) (rs : List Reply) (before now new : Counts) (i : ℕ) (c : Command) (r : Reply)
      → i < length commands → i < length rs → c ≡ get_or commands i c → r ≡ get_or rs i r
      → CountedSoFar n commands rs before now i → new ≡ one_more now c (reply_with (found_label sections r) r) → CountedSoFar n commands rs before new (i + 1)
  counted_more n commands rs before now new i c r lt lt' here here' h is =
      let left = next_drop commands i c lt here in
      let left' = next_drop rs i r lt' here' in
      ap (λ s. with_answered s (answered sections (issue n (drop (i + 1) commands)) (drop (i + 1) rs))) is
      ∙ sym (λ k. with_answered now (answered sections (issue n (left k)) (left' k))) ∙ h

  pub counted_all : (n : ℕ) (commands : List Command) (rs : List Reply) (before now : Counts) (i : ℕ) → i ≡ min (length commands) (length rs)
      → CountedSoFar n commands rs before now i → now ≡ with_answered before (answered sections (issue n commands) rs)
  counted_all n commands rs before now i is h =
      elim (one_over commands rs i is) [
        | inl over ↦ ap (with_answered now) (sym (no_commands (drop i rs))) ∙ ap (λ l. with_answered now (answered sections (issue n l) (drop i rs))) (sym over) ∙ h
        | inr over ↦ ap (with_answered now) (sym (no_replies (issue n (drop i commands)))) ∙ ap (λ l. with_answered now (answered sections (issue n (drop i commands)) l)) (sym over) ∙ h
      ]

-- the same of whole sections
abbrev pub CountedSections : List (List Command) → List Reply → Counts → List Reply → ℕ → Type 0
CountedSections all rs now rest i =
    with_answered now (answered all (issued_from (i + 1) (drop i all)) rest) ≡ with_answered nothing (answered all (issued_from 1 all) rs)

pub counted_section : (all : List (List Command)) (rs : List Reply) (now new : Counts) (rest here later : List Reply) (i : ℕ) (commands : List Command)
    → i < length all → commands ≡ get_or all i commands → CountedSections all rs now rest i
    → here ≡ take (min (length commands) (length rest)) rest → later ≡ drop (min (length commands) (length rest)) rest
    → new ≡ with_answered now (answered all (issue (i + 1) commands) here) → CountedSections all rs new later (i + 1)
counted_section all rs now new rest here later i commands lt at h front back is =
    let n : ℕ = min (length commands) (length rest) in
    let left : drop i all ≡ commands ∷ drop (i + 1) all = next_drop all i commands lt at in
    let both : here ++ later ≡ rest = (λ k. front k ++ back k) ∙ take-append-drop n rest in
    let issued_length : length (issue (i + 1) commands) ≡ length commands = length-map commands _ in
    let front_length : length here ≡ n = ap length front ∙ length-take n rest ∙ omega arith in
    let back_length : length later ≡ length rest - n = ap length back ∙ length-drop n rest in
    ap (λ c. with_answered c (answered all (issued_from (i + 1 + 1) (drop (i + 1) all)) later)) is
    ∙ sym (with_answered-append (answered all (issue (i + 1) commands) here) (answered all (issued_from (i + 1 + 1) (drop (i + 1) all)) later) now)
    ∙ ap (with_answered now) (sym (answered-append all (issue (i + 1) commands) (issued_from (i + 1 + 1) (drop (i + 1) all)) here later (omega arith) (λ less. nil_from_length later (omega arith))))
    ∙ ap (λ l. with_answered now (answered all (issue (i + 1) commands ++ issued_from (i + 1 + 1) (drop (i + 1) all)) l)) both
    ∙ sym (ap (λ l. with_answered now (answered all (issued_from (i + 1) l) rest)) left) ∙ h

pub counted_sections : (all : List (List Command)) (rs : List Reply) (now : Counts) (rest : List Reply) (i : ℕ) → length all ≤ i
    → CountedSections all rs now rest i → now ≡ counts_of (answered all (issued_from 1 all) rs)
counted_sections all rs now rest i le h =
    ap (with_answered now) (sym (no_commands all rest))
    ∙ ap (λ l. with_answered now (answered all (issued_from (i + 1) l) rest)) (sym (drop_all i all le)) ∙ h
    ∙ from_nothing (answered all (issued_from 1 all) rs)
