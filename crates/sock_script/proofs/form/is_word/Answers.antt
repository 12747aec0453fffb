use Rattle.std.proofs.Common.{◌≡◌, ◌∙◌, ◌++◌, [], ℕ, List, length, drop, sym, ap}
use Rattle.std.proofs.Math.Seq.{drop-length}
use Rattle.std.proofs.lemmas.Bool.Decides.{Decides-eqb}
use Rattle.std.proofs.lemmas.List.{append-nil}
use Rattle.std.proofs.lemmas.Slice.Eq.{starts_is}
use Rattle.sock_script.proofs.form.is_word.Goals as goal

pub returns-then-word-other : goal.returns-then-word-other
returns-then-word-other c =
    let word : List ℕ = c.args.word.now in
    let other : List ℕ = c.args.other.now in
    let starts = starts_is Decides-eqb word other c.starts_with.result c.starts_with.ensures.value in
    let as_long : length word ≡ length other = c.if-word-other.true in
    let over : drop (length other) word ≡ [] = ap (λ n. drop n word) (sym as_long) ∙ drop-length word in
    ((λ t. starts.0 t ∙ ap (λ rest. other ++ rest) over ∙ append-nil other), λ e. starts.1 [] (e ∙ sym (append-nil other)))
