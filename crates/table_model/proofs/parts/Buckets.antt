-- The bind buckets of tables that mean a list: one of them changed, and what weighs something at one port alone.
use Rattle.std.proofs.Common.{◌≡◌, ◌≢◌, ℕ, ◌+◌, ◌%◌, ◌<◌, ◌≤◌, ◌==◌, true, false, List, length, ⊎_elim, ap, sym, ◌∙◌, subst, arith, get_or, set}
use Rattle.std.proofs.lemmas.Bool.{cases_Bool, cases_lt, eqb-true, eq-eqb}
use Rattle.std.proofs.lemmas.List.{length-set, get_or-set_same, get_or-set_other, get_or_past}
use Rattle.std.proofs.Math.Nat.{mod-eq_of_lt}
use Rattle.std.proofs.lemmas.Nat.{mod_below}
use Rattle.sock_card.specs.Conflict.{owner_key}
use Rattle.list_words.specs.Lists.{Each, total}
use Rattle.list_words.proofs.EachLemmas.{each_weaken}
use Rattle.sock_card.specs.declared.owner.Owner.{Owner}
use Rattle.bind_buckets.specs.Journal.{Standing}
use Rattle.flat_list.specs.Flat.{Flat}
use Rattle.bind_buckets.specs.BindHash.{standing_at, untouched}
use Rattle.table_model.specs.Means.{OwnersMean, owns, weigh_owners}
use Rattle.table_model.proofs.lists.Passing.{total_zero}
use Rattle.table_model.proofs.lists.Weights.{total_set, total_only}

-- numbers whose test fails differ
is_not : (a b : ℕ) → (a == b) ≡ false → a ≢ b
is_not a b e = λ q. absurd (let t : (a == b) ≡ true = eq-eqb a b q in cc)

-- what the owners of one bucket weigh
abbrev pub weigh_in : (Owner → ℕ) → Standing → ℕ
weigh_in f s = total f s.held.owners

-- each owner is of that bucket among so many
abbrev pub AreOf : ℕ → ℕ → List Owner → Type 0
AreOf buckets number owners = Each (λ (a : Owner). (owner_key a) % buckets ≡ number) owners

module _ (buckets : List Standing) (flat : Flat) (om : OwnersMean buckets flat) (some : 1 ≤ flat.header.shape.bind) where
  -- a port's bucket is one of them
  pub near : (port : ℕ) → port % length buckets < length buckets
  near port = let more : 1 ≤ length buckets = omega (arith, om.count, some) in mod_below port (length buckets) (omega (arith, more))

  -- the owners of a bucket are its own
  pub homes : (number : ℕ) → AreOf (length buckets) number (get_or buckets number untouched).held.owners
  homes number = ⊎_elim
      (λ (l : number < length buckets).
      let same : number % length buckets ≡ number = mod-eq_of_lt l in
      subst (λ (k : ℕ). AreOf (length buckets) k (get_or buckets k untouched).held.owners) same (om.keys number))
      (λ (l : length buckets ≤ number).
      subst (λ (s : Standing). AreOf (length buckets) number s.held.owners) (sym (get_or_past buckets number untouched l)) tt)
      (cases_lt number (length buckets))

  module _ (port : ℕ) (new : Standing) where
    abbrev number : ℕ
    number = port % length buckets

    changed_homes : AreOf (length buckets) number new.held.owners → (k : ℕ) → AreOf (length buckets) k (get_or (set buckets number new) k untouched).held.owners
    changed_homes h k = ⊎_elim
        (λ (e : (k == number) ≡ true).
        let same : k ≡ number = eqb-true k number e in
        subst (λ (j : ℕ). AreOf (length buckets) j (get_or (set buckets number new) j untouched).held.owners) (sym same)
        (subst (λ (s : Standing). AreOf (length buckets) number s.held.owners) (sym (get_or-set_same buckets number new untouched (near port))) h))
        (λ (e : (k == number) ≡ false).
        subst (λ (s : Standing). AreOf (length buckets) k s.held.owners) (sym (get_or-set_other buckets number k new untouched (is_not k number e))) (homes k))
        (cases_Bool (k == number))

    -- one bucket has changed, and the list by as much
    pub changed_means : (flat' : Flat) → flat'.header.shape.bind ≡ flat.header.shape.bind
        → ((f : Owner → ℕ) → weigh_in f new + total (owns f) flat.sockets ≡ weigh_in f (standing_at buckets port) + total (owns f) flat'.sockets)
        → AreOf (length buckets) number new.held.owners
        → OwnersMean (set buckets number new) flat'
    changed_means flat' same weighs are = record {
      count = length-set buckets number new ∙ (om.count ∙ sym same);
      owners = λ f.
          let w : total (weigh_in f) (set buckets number new) + weigh_in f (standing_at buckets port) ≡ total (weigh_in f) buckets + weigh_in f new = total_set (weigh_in f) buckets number new untouched (near port) in
          let v : total (weigh_in f) buckets ≡ total (owns f) flat.sockets = om.owners f in
          omega (arith, w, v, weighs f);
      keys = λ p.
          subst (λ (l : ℕ). Each (λ (a : Owner). (owner_key a) % l ≡ p % l) (get_or (set buckets number new) (p % l) untouched).held.owners) (sym (length-set buckets number new))
          (changed_homes are (p % length buckets));
    }

  -- the list has the same owners
  pub owners_kept : (flat' : Flat) → flat'.header.shape.bind ≡ flat.header.shape.bind → ((f : Owner → ℕ) → total (owns f) flat'.sockets ≡ total (owns f) flat.sockets)
      → OwnersMean buckets flat'
  owners_kept flat' same weighs = record { count = om.count ∙ sym same; owners = λ f. om.owners f ∙ sym (weighs f); keys = om.keys }

  -- what weighs something at one port alone is in its bucket
  pub only_there : (f : Owner → ℕ) (port : ℕ) → ((a : Owner) → owner_key a ≢ port → f a ≡ 0) → weigh_owners f buckets ≡ weigh_in f (standing_at buckets port)
  only_there f port h =
      total_only (weigh_in f) buckets (port % length buckets) untouched (near port)
      (λ j d. total_zero f (get_or buckets j untouched).held.owners
      (each_weaken (λ (a : Owner). (owner_key a) % length buckets ≡ j) (λ (a : Owner). f a ≡ 0) (get_or buckets j untouched).held.owners
      (λ a e. h a (λ q. d (sym e ∙ ap (λ (k : ℕ). k % length buckets) q))) (homes j)))
