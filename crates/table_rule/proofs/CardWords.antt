-- Words that are a card's are those of the card that they say.
use Rattle.std.proofs.Common.{◌≡◌, ℕ, List, get_or, sym, ap, ◌∙◌}
use Rattle.sock_card.specs.Words.{packed, unpacked}
use Rattle.sock_card.specs.declared.words.CardWords.{CardWords}
use Rattle.table_rule.specs.Words.{words_of}
use Rattle.table_rule.specs.Beyond.{IsCardWords}

same_words : (a b : CardWords) → words_of a ≡ words_of b → a ≡ b
same_words a b e = λ k. record {
  ends = ap (λ (l : List ℕ). get_or l 0 0) e k;
  ports = ap (λ (l : List ℕ). get_or l 1 0) e k;
  name = ap (λ (l : List ℕ). get_or l 2 0) e k;
  extra = ap (λ (l : List ℕ). get_or l 3 0) e k;
}

pub packs_back : (w : CardWords) → IsCardWords (words_of w) → packed (unpacked w) ≡ w
packs_back w o =
    let same : w ≡ o.words = same_words w o.words o.is in
    ap (λ (x : CardWords). packed (unpacked x)) same ∙ (o.packs ∙ sym same)
