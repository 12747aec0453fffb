-- A list in which one socket has changed: what holds of each socket, and of each pair.
use Rattle.std.proofs.Common.{◌≡◌, Bool, true, false, cond, List, refl, sym, ◌∙◌}
use Rattle.std.proofs.lemmas.Bool.{eqb-true, eqb-false, cond_both}
use Rattle.list_words.specs.Lists.{Each, Pairs}
use Rattle.list_words.proofs.EachLemmas.{each_map, each_weaken}
use Rattle.list_words.proofs.PairsLemmas.{pairs_map, pairs_weaken, pairs_both, pairs_of_each}
use Rattle.flat_list.specs.declared.socket.Socket.{Socket}
use Rattle.flat_list.specs.Sockets.{has_name, put, replaced}
use Rattle.flat_list.specs.Sound.{NamesDiffer}

pub each_put : (P : Socket → Type 0) (new : Socket) (xs : List Socket) → P new → Each P xs → Each P (put new xs)
each_put P new xs p each =
    each_map P (replaced new) xs (each_weaken P (λ x. P (replaced new x)) xs (λ x q. cond_both (has_name new.owner.name x) new x P (λ _. p) (λ _. q)) each)

module _ (R : Socket → Socket → Type 0) (swap : (a b : Socket) → R a b → R b a) (new : Socket) where
  abbrev choose : Bool → Socket → Socket
  choose b x = cond b new x

  abbrev Fits : Socket → Type 0
  Fits x = NamesDiffer new x → R new x

  pair_put : (x y : Socket) (b c : Bool) → has_name new.owner.name x ≡ b → has_name new.owner.name y ≡ c → NamesDiffer x y → R x y → Fits x → Fits y → R (choose b x) (choose c y)
  pair_put x y true true e f differ r p q = absurd (differ (eqb-true _ _ e ∙ sym (eqb-true _ _ f)))
  pair_put x y true false e f differ r p q = q (λ g. eqb-false _ _ f (sym g))
  pair_put x y false true e f differ r p q = swap new x (p (λ g. eqb-false _ _ e (sym g)))
  pair_put x y false false e f differ r p q = r

  pub pairs_put : (xs : List Socket) → Pairs NamesDiffer xs → Pairs R xs → Each Fits xs → Pairs R (put new xs)
  pairs_put xs names pairs fits =
      pairs_map R (replaced new) xs
      (pairs_weaken (λ x y. NamesDiffer x y × (R x y × (Fits x × Fits y))) (λ x y. R (replaced new x) (replaced new y)) xs
      (λ x y h. pair_put x y (has_name new.owner.name x) (has_name new.owner.name y) refl refl h.0 h.1.0 h.1.1.0 h.1.1.1)
      (pairs_both NamesDiffer (λ x y. R x y × (Fits x × Fits y)) xs names (pairs_both R (λ x y. Fits x × Fits y) xs pairs (pairs_of_each Fits xs fits))))
