-- What deeds changed is in a book that has the same changes.
use Rattle.std.proofs.Common.{◌≡◌, ℕ, ◌+◌, ◌≤◌, Bool, true, false, cond, List, [], ◌∷◌, get_or, bytes_eq, refl, ap, arith, inl, inr}
use Rattle.std.proofs.lemmas.Slice.Eq.{bytes_eq-Decides}
use Rattle.list_words.specs.Lists.{SameItems, total}
use Rattle.sock_card.specs.Words.{number_of}
use Rattle.sock_card.proofs.SameKinds.{kind_by}
use Rattle.chain_book.specs.declared.book.Act.{Act}
use Rattle.chain_book.specs.declared.book.Act.TheVariants as acts
use Rattle.chain_book.specs.declared.book.Change.{Change}
use Rattle.race_book.specs.Among.{Among}
use Rattle.race_book.specs.Lives.{is_hash}

abbrev act_number : Act → ℕ
act_number a = cond (is_hash a) 1 0

act_by : (a b : Act) → act_number a ≡ act_number b → a ≡ b
act_by acts.Hash acts.Hash e = refl
act_by acts.Unhash acts.Unhash e = refl
act_by acts.Hash acts.Unhash e = absurd (omega (arith, e))
act_by acts.Unhash acts.Hash e = absurd (omega (arith, e))

-- all that a change says, as numbers
abbrev facts : Change → List ℕ
facts c =
    c.bucket ∷ c.slot ∷ c.begin ∷ c.end ∷ act_number c.act ∷ c.card.local ∷ c.card.lport ∷ c.card.remote ∷ c.card.rport
    ∷ c.card.dev ∷ c.card.net ∷ number_of c.card.kind ∷ c.card.name ∷ c.card.extra ∷ c.card.mark ∷ []

told_by : (c d : Change) → facts c ≡ facts d → c ≡ d
told_by c d e =
    let at : (n : ℕ) → get_or (facts c) n 0 ≡ get_or (facts d) n 0 = λ n. ap (λ (l : List ℕ). get_or l n 0) e in
    λ i. record {
      bucket = at 0 i;
      slot = at 1 i;
      card = record {
        local = at 5 i;
        lport = at 6 i;
        remote = at 7 i;
        rport = at 8 i;
        dev = at 9 i;
        net = at 10 i;
        kind = kind_by c.card.kind d.card.kind (at 11) i;
        name = at 12 i;
        extra = at 13 i;
        mark = at 14 i;
      };
      act = act_by c.act d.act (at 4) i;
      begin = at 2 i;
      end = at 3 i;
    }

-- 1 where it is that change
abbrev is_it : Change → Change → ℕ
is_it c x = cond (bytes_eq (facts c) (facts x)) 1 0

it_is : (c : Change) → is_it c c ≡ 1
it_is c = ap (λ (b : Bool). cond {A = ℕ} b 1 0) ((bytes_eq-Decides (facts c) (facts c)).1 refl)

counted : (c : Change) (xs : List Change) → Among xs c → 1 ≤ total (is_it c) xs
counted c [] a = absurd a
counted c (x ∷ xs) (inl e) = omega (arith, it_is c, ap (is_it c) e)
counted c (x ∷ xs) (inr a) = omega (arith, counted c xs a)

found_by : (c x : Change) (xs : List Change) (b : Bool) → bytes_eq (facts c) (facts x) ≡ b → 1 ≤ cond {A = ℕ} b 1 0 + total (is_it c) xs → (1 ≤ total (is_it c) xs → Among xs c) → Among (x ∷ xs) c
found_by c x xs true e h rest = inl (told_by c x ((bytes_eq-Decides (facts c) (facts x)).0 e))
found_by c x xs false e h rest = inr (rest (omega (arith, h)))

found : (c : Change) (xs : List Change) → 1 ≤ total (is_it c) xs → Among xs c
found c [] h = absurd (omega (arith, h))
found c (x ∷ xs) h = found_by c x xs (bytes_eq (facts c) (facts x)) refl h (found c xs)

-- of the same changes, each as often, what is among the ones is among the others
pub among_same : (xs ys : List Change) → SameItems xs ys → (c : Change) → Among ys c → Among xs c
among_same xs ys same c a = found c xs (omega (arith, counted c ys a, same (is_it c)))
