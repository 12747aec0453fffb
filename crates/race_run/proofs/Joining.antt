-- The first worker takes in what another did.
use Rattle.std.proofs.Common.{ℕ, ◌≤◌, max, List, [], ◌∷◌, ◌++◌, sym, ap, ◌∙◌, arith}
use Rattle.std.proofs.Math.Nat.{le-max_left, le-max_right}
use Rattle.list_words.proofs.EachLemmas.{each_weaken, each_push}
use Rattle.turn_table.specs.Views.{joined}
use Rattle.bind_buckets.specs.Turned.{View as BindView}
use Rattle.table_rule.specs.Plays.{both}
use Rattle.table_rule.specs.declared.view.View.{View}
use Rattle.race_run.specs.Joins.{Part, Joined, IsBlank}
use Rattle.race_run.proofs.Weights.{flat_push, total_push}

pub joins_none : (part : ℕ → Part) (v : BindView) (x : View) → IsBlank v x → Joined part [] v x
joins_none part v x h = record { mine = h.mine; closed = h.closed; lost = h.lost; sights = h.sights; wholes = h.wholes; receipts = h.receipts; taken = h.taken; seen = tt }

pub joins_more : (part : ℕ → Part) (order : List ℕ) (v : BindView) (x : View) (m : ℕ) → Joined part order v x → Joined part (order ++ m ∷ []) (joined v (part m).turns) (both x (part m).chain)
joins_more part order v x m h =
    let p : Part = part m in
    record {
      mine = ap (λ l. l ++ p.turns.mine) h.mine ∙ sym (flat_push (λ n. (part n).turns.mine) order m);
      closed = ap (λ l. l ++ p.chain.book.closed) h.closed ∙ sym (flat_push (λ n. (part n).chain.book.closed) order m);
      lost = ap (λ l. l ++ p.chain.book.lost) h.lost ∙ sym (flat_push (λ n. (part n).chain.book.lost) order m);
      sights = ap (λ l. l ++ p.chain.sights) h.sights ∙ sym (flat_push (λ n. (part n).chain.sights) order m);
      wholes = ap (λ l. l ++ p.chain.read.wholes) h.wholes ∙ sym (flat_push (λ n. (part n).chain.read.wholes) order m);
      receipts = ap (λ l. l ++ p.chain.read.receipts) h.receipts ∙ sym (flat_push (λ n. (part n).chain.read.receipts) order m);
      taken = omega (arith, h.taken, total_push (λ n. (part n).chain.slot.taken) order m);
      seen = each_push (λ n. (part n).chain.seen ≤ max x.seen p.chain.seen) order m
          (each_weaken (λ n. (part n).chain.seen ≤ x.seen) (λ n. (part n).chain.seen ≤ max x.seen p.chain.seen) order (λ n l. omega (arith, l, le-max_left x.seen p.chain.seen)) h.seen)
          (le-max_right x.seen p.chain.seen);
    }
