-- What the words of cards say.
use Rattle.std.proofs.Common.{◌≡◌, ℕ, suc, ◌%◌, ◌<◌, ◌==◌, cond, Bool, true, false, List, [], ◌∷◌, Some, find, refl, sym, ap, ◌∙◌, subst, arith}
use Rattle.std.proofs.lemmas.Bool.{eq-eqb}
use Rattle.std.specs.Option.{option_map}
use mathlib.Core.Option.{some}
use lib.ListN.{get_elem?}
use Rattle.sock_card.specs.declared.words.CardWords.{CardWords}
use Rattle.sock_card.specs.Words.{packed, unpacked, number_of}
use Rattle.sock_card.specs.Tuples.{tuple_of}
use Rattle.sock_card.proofs.Tuples.{parts_agree}
use Rattle.chain_book.specs.Tuples.{same_cards, is_full_kind}
use Rattle.chain_book.specs.declared.outcome.Hashed.{Hashed}
use Rattle.table_rule.specs.Beyond.{IsCardWords, Shows}
use Rattle.table_rule.specs.CardsOk.{tuple, bears}
use Rattle.table_rule.specs.Words.{words_of, card_from}
use Rattle.table_rule.specs.declared.view.Seen.{Seen}
use Rattle.race_book.proofs.Twins.{full_is}
use Rattle.race_run.proofs.Cards.{index_of}
use Rattle.established.proofs.Handed.{words_agree}
use Rattle.established.specs.Comings.{name_of}
use Rattle.established.specs.Rows.{row_of, hashed_in}

-- a full card's kind is the least bits of its second word
full_ports : (w : CardWords) → packed (unpacked w) ≡ w → is_full_kind (unpacked w).kind ≡ true → w.ports % 16 ≡ 1
full_ports w e f =
    let one : number_of (unpacked w).kind ≡ 1 = ap number_of (full_is (unpacked w).kind f) in
    let is = ap (λ (x : CardWords). x.ports) e in
    omega (arith, is, one)

bears_it : (w : CardWords) (t : ℕ) → w.ports % 16 ≡ 1 → tuple w.ends w.ports ≡ t → bears t w.ends w.ports ≡ 1
bears_it w t k e = ap {B = ℕ} (λ (b : Bool). cond b (cond (tuple w.ends w.ports == t) 1 0) 0) (eq-eqb (w.ports % 16) 1 k) ∙ ap {B = ℕ} (λ (b : Bool). cond b 1 0) (eq-eqb (tuple w.ends w.ports) t e)

shows_words : (w : CardWords) (t : ℕ) → w.ports % 16 ≡ 1 → tuple w.ends w.ports ≡ t → Shows t (words_of w)
shows_words w t k e = record { ends = w.ends; ports = w.ports; has-ends = refl; has-ports = refl; bears-it = bears_it w t k e }

-- two full cards of one four-tuple show it
pub record ShowBoth (a b : List ℕ) : Type 0 where
  pub tuple_is : ℕ
  pub one : Shows tuple_is a
  pub other : Shows tuple_is b

show_words : (a b : CardWords) → packed (unpacked a) ≡ a → packed (unpacked b) ≡ b → is_full_kind (unpacked a).kind ≡ true → is_full_kind (unpacked b).kind ≡ true → same_cards (unpacked a) (unpacked b) ≡ true → ShowBoth (words_of a) (words_of b)
show_words a b p q f g s = record {
  tuple_is = tuple a.ends a.ports;
  one = shows_words a (tuple a.ends a.ports) (full_ports a p f) refl;
  other = shows_words b (tuple a.ends a.ports) (full_ports b q g) (sym (words_agree a b (parts_agree (tuple_of (unpacked a)) (tuple_of (unpacked b)) s)));
}

abbrev Twins : List ℕ → List ℕ → Type 0
Twins a b = is_full_kind (card_from a).kind ≡ true → is_full_kind (card_from b).kind ≡ true → same_cards (card_from a) (card_from b) ≡ true → ShowBoth a b

pub show_both : (a b : List ℕ) → IsCardWords a → IsCardWords b → Twins a b
show_both a b p q =
    subst (λ l. Twins l b) (sym p.is) (subst (λ l. Twins (words_of p.words) l) (sym q.is) (λ f g s. show_words p.words q.words p.packs q.packs f g s))

-- a card with the words of one that was seen is that card
words_told : (w : CardWords) (l : List ℕ) → ((k a : ℕ) → k < 4 → get_elem? (words_of w) k ≡ some a → get_elem? l k ≡ some a) → card_from l ≡ card_from (words_of w)
words_told w l h = λ i. unpacked (record {
  ends = index_of l 0 w.ends (h 0 w.ends (omega arith) refl) i;
  ports = index_of l 1 w.ports (h 1 w.ports (omega arith) refl) i;
  name = index_of l 2 w.name (h 2 w.name (omega arith) refl) i;
  extra = index_of l 3 w.extra (h 3 w.extra (omega arith) refl) i;
})

pub same_told : (ws l : List ℕ) → IsCardWords ws → ((k a : ℕ) → k < 4 → get_elem? ws k ≡ some a → get_elem? l k ≡ some a) → card_from l ≡ card_from ws
same_told ws l c = subst (λ x. ((k a : ℕ) → k < 4 → get_elem? x k ≡ some a → get_elem? l k ≡ some a) → card_from l ≡ card_from x) (sym c.is) (λ h. words_told c.words l h)

-- who is found in a list, by its place there
pub record FoundSeen (test : Hashed → Bool) (listed : List Seen) (name : ℕ) : Type 0 where
  pub nth : ℕ
  pub seen : Seen
  pub there : get_elem? listed nth ≡ some seen
  pub passes : test (hashed_in seen) ≡ true
  pub named : name_of (hashed_in seen) ≡ name

found_by : (test : Hashed → Bool) (s : Seen) (ss : List Seen) (name : ℕ) (b : Bool) → test (hashed_in s) ≡ b → option_map name_of (cond b (Some (hashed_in s)) (find test (row_of ss))) ≡ Some name
    → (option_map name_of (find test (row_of ss)) ≡ Some name → FoundSeen test ss name) → FoundSeen test (s ∷ ss) name
found_by test s ss name true t e rest = record { nth = 0; seen = s; there = refl; passes = t; named = cc }
found_by test s ss name false t e rest = let f = rest e in record { nth = suc f.nth; seen = f.seen; there = f.there; passes = f.passes; named = f.named }

pub found_seen : (test : Hashed → Bool) (listed : List Seen) (name : ℕ) → option_map name_of (find test (row_of listed)) ≡ Some name → FoundSeen test listed name
found_seen test [] name e = absurd (cc)
found_seen test (s ∷ ss) name e = found_by test s ss name (test (hashed_in s)) refl e (found_seen test ss name)
