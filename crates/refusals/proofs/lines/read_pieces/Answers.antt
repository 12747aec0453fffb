use Rattle.std.proofs.Common.{ℕ, List, rules, ap, ◌∙◌, ◌++◌}
use Rattle.std.specs.Borrow.{Bor}
use borrow.Author.Tests.{tests}
use Rattle.std.proofs.lemmas.Iterator.Splits.{YieldsList-from_slice_split}
use Rattle.sock_script.specs.Seen.{texts}
use Rattle.sock_script.specs.Words.{is_blank}
use Rattle.refusals.proofs.Chains.{from_chain}
use Rattle.refusals.proofs.lines.read_pieces.Goals as goal

pub returns : goal.returns
returns c =
    from_chain (λ w. w.now) c.extend.result c.extend.ensures.ran
    (YieldsList-from_slice_split _ is_blank _ c.split.ensures.rest c.split.ensures.done c.split.ensures.closure (λ x b q k. search (rules, tests)))
    (λ xs e h. ap texts (h.0 ∙ ap (λ (words : List (Bor (List ℕ))). words ++ xs) c.clear.ensures.items) ∙ e)
