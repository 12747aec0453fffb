use Rattle.std.proofs.Common.{rules, ◌≡◌, ℕ, ◌++◌, ◌∷◌, [], List, length, sym, ap, ◌∙◌, subst}
use lib.ListN.{get_elem?}
use Rattle.table_rule.specs.Rule.{Holds, first}
use Rattle.table_rule.specs.Calls.{FirstWord}
use Rattle.atomic_table.specs.Table.{opening}
use Rattle.table_rule.proofs.Opens.{holds_first, more_words}
use Rattle.table_rule.proofs.table.Chains.of_shape.Goals as goal
use Rattle.table_rule.specs.Words.{bucket_count}
use Rattle.table_rule.specs.declared.view.Layout.{Layout}

pub loop-at-preserved : goal.loop-at-preserved
loop-at-preserved c =
    let layout : Layout = record { shape = c.args.shape; seed = c.args.seed } in
    let items : c.push.new.self.items ≡ c.loop-at.words.items ++ c.first_word.result ∷ [] = search rules in
    record {
      len = ap length items ∙ search rules;
      all = λ k x e. more_words (bucket_count layout) c.loop-at.words.items c.first_word.result c.loop-at.invariant.all
          (subst (λ (n : ℕ). FirstWord (bucket_count layout) n c.first_word.result) (sym c.loop-at.invariant.len) c.first_word.ensures) k x (ap (λ (l : List ℕ). get_elem? l k) (sym items) ∙ e);
    }

pub of_words-requires : goal.of_words-requires
of_words-requires c =
    let layout : Layout = record { shape = c.args.shape; seed = c.args.seed } in
    subst (λ (l : List ℕ). Holds layout (opening l [] (first layout))) (sym c.as_slice.ensures.value)
    (holds_first layout c.loop-at.words.items (search rules) c.loop-at.invariant.all)
