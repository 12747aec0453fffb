-- How often a card, and changes, hash a name as a kind.
use Rattle.std.proofs.Common.{◌≡◌, ℕ, ◌+◌, ◌==◌, ◌&&◌, Bool, true, false, cond, List, ◌++◌, Option, None, Some, refl, ap, ◌∙◌}
use Rattle.std.proofs.lemmas.Bool.{eqb-true, eq-eqb, and_from}
use Rattle.list_words.specs.Lists.{total}
use Rattle.list_words.proofs.TotalLemmas.{total-append}
use Rattle.sock_card.specs.declared.card.Card.{Card}
use Rattle.sock_card.specs.declared.card.Kind.{Kind}
use Rattle.sock_card.specs.Words.{number_of}
use Rattle.sock_card.proofs.SameKinds.{kind_by}
use Rattle.chain_book.specs.declared.book.Act.TheVariants as acts
use Rattle.chain_book.specs.declared.book.Change.{Change}
use Rattle.race_book.specs.Lives.{is_hash}
use Rattle.race_book.proofs.Checks.{and_left, and_right}

abbrev pub is_as : ℕ → Kind → Card → Bool
is_as name kind c = (c.name == name) && (number_of c.kind == number_of kind)

-- the card has that name and kind
pub record IsAs (name : ℕ) (kind : Kind) (c : Card) : Type 0 where
  pub name_is : c.name ≡ name
  pub kind_is : c.kind ≡ kind

pub is_as_tells : (name : ℕ) (kind : Kind) (c : Card) → is_as name kind c ≡ true → IsAs name kind c
is_as_tells name kind c e = record {
  name_is = eqb-true c.name name (and_left (c.name == name) (number_of c.kind == number_of kind) e);
  kind_is = kind_by c.kind kind (eqb-true (number_of c.kind) (number_of kind) (and_right (c.name == name) (number_of c.kind == number_of kind) e));
}

pub told_as : (name : ℕ) (kind : Kind) (c : Card) → IsAs name kind c → is_as name kind c ≡ true
told_as name kind c h =
    and_from (c.name == name) (number_of c.kind == number_of kind) (eq-eqb c.name name h.name_is)
    (eq-eqb (number_of c.kind) (number_of kind) (ap number_of h.kind_is))

-- how often a card is of that name and kind
abbrev pub one : Card → ℕ → Kind → ℕ
one c name kind = cond (is_as name kind c) 1 0

pub one_as : (name : ℕ) (kind : Kind) (c : Card) → IsAs name kind c → one c name kind ≡ 1
one_as name kind c h = ap (λ (b : Bool). cond {A = ℕ} b 1 0) (told_as name kind c h)

none_by : (name : ℕ) (kind : Kind) (c : Card) (b : Bool) → is_as name kind c ≡ b → (IsAs name kind c → ⊥) → cond {A = ℕ} b 1 0 ≡ 0
none_by name kind c true e h = absurd (h (is_as_tells name kind c e))
none_by name kind c false e h = refl

pub one_else : (name : ℕ) (kind : Kind) (c : Card) → (IsAs name kind c → ⊥) → one c name kind ≡ 0
one_else name kind c h = none_by name kind c (is_as name kind c) refl h

-- how often a change hashes that name as that kind
abbrev pub hash_weight : ℕ → Kind → Change → ℕ
hash_weight name kind c = cond (is_hash c.act) (one c.card name kind) 0

abbrev pub hashes : ℕ → Kind → List Change → ℕ
hashes name kind changes = total (hash_weight name kind) changes

pub weight_hash : (name : ℕ) (kind : Kind) (c : Change) (card : Card) → c.act ≡ acts.Hash → c.card ≡ card → hash_weight name kind c ≡ one card name kind
weight_hash name kind c card e f =
    ap (λ (b : Bool). cond b (one c.card name kind) 0) (ap is_hash e) ∙ ap (λ (x : Card). one x name kind) f

pub weight_unhash : (name : ℕ) (kind : Kind) (c : Change) → c.act ≡ acts.Unhash → hash_weight name kind c ≡ 0
weight_unhash name kind c e = ap (λ (b : Bool). cond b (one c.card name kind) 0) (ap is_hash e)

pub hashes_more : (name : ℕ) (kind : Kind) (first rest : List Change) → hashes name kind (first ++ rest) ≡ hashes name kind first + hashes name kind rest
hashes_more name kind first rest = total-append (hash_weight name kind) first rest

-- what was hashed, if anything, counts so
abbrev pub told : Option Card → ℕ → Kind → ℕ
told None name kind = 0
told (Some c) name kind = one c name kind
