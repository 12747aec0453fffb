-- A text that is made of its parts.
use Rattle.std.proofs.Common.{◌≡◌, ℕ, List, [], ◌++◌, ap, ◌∙◌}
use Rattle.std.specs.List.{flat_map}
use Rattle.flat_list.specs.declared.command.Command.{Command}
use Rattle.sock_script.specs.Output.{cut_text, label_in}
use Rattle.race_book.specs.declared.lives.Life.{Life}
use Rattle.race_book.specs.Listed.{lives_of}
use Rattle.race_record.specs.declared.record.Looked.{Looked}
use Rattle.race_text.specs.Render.{Told, told_text, race_line, shape_line, clock_line, command_lines, journal_lines, life_line, looked_lines}

pub whole : (sections : List (List Command)) (r : Told) (label : ℕ → List ℕ) (lives : List Life) (commands : List ℕ) (journals : List ℕ) (looked : List Looked) (o0 o1 o2 o3 o4 o5 o6 o7 o8 : List ℕ)
    → label ≡ label_in sections → lives ≡ lives_of r.book → commands ≡ command_lines sections r.replies r.listings → journals ≡ r.journals → looked ≡ r.looked → o0 ≡ []
    → o1 ≡ o0 ++ race_line r.lookers r.passes → o2 ≡ o1 ++ shape_line r.shape r.seed → o3 ≡ o2 ++ commands → o4 ≡ o3 ++ journal_lines 0 journals
    → o5 ≡ o4 ++ flat_map (life_line label) lives → o6 ≡ o5 ++ looked_lines label 1 looked → o7 ≡ o6 ++ cut_text r.cut → o8 ≡ o7 ++ clock_line r.clock
    → o8 ≡ told_text sections r
whole sections r label lives commands journals looked o0 o1 o2 o3 o4 o5 o6 o7 o8 names ls cs js ks e0 e1 e2 e3 e4 e5 e6 e7 e8 =
    let f1 : o1 ≡ race_line r.lookers r.passes = e1 ∙ ap (λ o. o ++ race_line r.lookers r.passes) e0 in
    let f2 : o2 ≡ race_line r.lookers r.passes ++ shape_line r.shape r.seed = e2 ∙ ap (λ o. o ++ shape_line r.shape r.seed) f1 in
    let f3 : o3 ≡ race_line r.lookers r.passes ++ shape_line r.shape r.seed ++ command_lines sections r.replies r.listings = e3 ∙ λ i. f2 i ++ cs i in
    let f4 : o4 ≡ race_line r.lookers r.passes ++ shape_line r.shape r.seed ++ command_lines sections r.replies r.listings ++ journal_lines 0 r.journals = e4 ∙ λ i. f3 i ++ journal_lines 0 (js i) in
    let f5 : o5 ≡ race_line r.lookers r.passes ++ shape_line r.shape r.seed ++ command_lines sections r.replies r.listings ++ journal_lines 0 r.journals ++ flat_map (life_line (label_in sections)) (lives_of r.book) =
    e5 ∙ λ i. f4 i ++ flat_map (life_line (names i)) (ls i) in
    let f6 : o6 ≡ race_line r.lookers r.passes ++ shape_line r.shape r.seed ++ command_lines sections r.replies r.listings ++ journal_lines 0 r.journals ++ flat_map (life_line (label_in sections)) (lives_of r.book) ++ looked_lines (label_in sections) 1 r.looked =
    e6 ∙ λ i. f5 i ++ looked_lines (names i) 1 (ks i) in
    e8 ∙ ap (λ o. o ++ clock_line r.clock) (e7 ∙ ap (λ o. o ++ cut_text r.cut) f6)
