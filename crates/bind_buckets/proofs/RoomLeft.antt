-- The room for owners that a call leaves.
use Rattle.std.proofs.Common.{◌≡◌, ◌+◌, ◌≤◌, Bool, true, false, cond, List, [], ◌∷◌, ◌++◌, length, suc, arith}
use Rattle.std.proofs.lemmas.List.{length-append}
use Rattle.sock_card.specs.declared.owner.Owner.{Owner}
use Rattle.bind_buckets.specs.First.{drop_first, change_first}
use Rattle.bind_buckets.specs.Owners.{Listed}
use Rattle.bind_buckets.specs.HeldBy.{IsRoomLeft}
use Rattle.bind_buckets.proofs.StaysGrouped.{length-change_first}

pub stays : (old new : Listed) → new.owners ≡ old.owners → old.room ≤ new.room → IsRoomLeft old new
stays old new same room =
    rw same (record { most = omega arith; least = omega arith; taken = omega arith; kept = λ _. room })

pub changes : (old new : Listed) (is : Owner → Bool) (f : Owner → Owner) → new.owners ≡ change_first is f old.owners → new.room ≡ old.room → IsRoomLeft old new
changes old new is f changed room =
    let same : length new.owners ≡ length old.owners = rw changed (length-change_first is f old.owners) in
    record { most = omega (arith, same); least = omega (arith, same); taken = omega (arith, room); kept = λ _. omega (arith, room) }

pub comes : (old new : Listed) (a : Owner) → new.owners ≡ old.owners ++ a ∷ [] → new.room + 1 ≡ old.room → IsRoomLeft old new
comes old new a came room =
    let longer : length new.owners ≡ length old.owners + 1 = rw came (simp length-append) in
    record { most = omega (arith, longer); least = omega (arith, longer); taken = omega (arith, room); kept = λ le. absurd (omega (arith, longer, le)) }

pub no_more : (old new : Listed) (is : Owner → Bool) (f : Owner → Owner) → new.owners ≡ change_first is f old.owners → length new.owners ≤ length old.owners
no_more old new is f changed = rw changed (omega (arith, length-change_first is f old.owners))

fewer_by : {A : Type 0} (x : A) (xs rest : List A) (b : Bool) → length rest ≤ length xs → length (cond b xs (x ∷ rest)) ≤ suc (length xs)
fewer_by x xs rest true le = omega arith
fewer_by x xs rest false le = omega arith

fewer_items : {A : Type 0} (is : A → Bool) (xs : List A) → length (drop_first is xs) ≤ length xs
fewer_items is [] = omega arith
fewer_items is (x ∷ xs) = fewer_by x xs (drop_first is xs) (is x) (fewer_items is xs)

one_less_by : {A : Type 0} (x : A) (xs rest : List A) (b : Bool) → length xs ≤ length rest + 1 → suc (length xs) ≤ length (cond b xs (x ∷ rest)) + 1
one_less_by x xs rest true le = omega arith
one_less_by x xs rest false le = omega arith

one_less : {A : Type 0} (is : A → Bool) (xs : List A) → length xs ≤ length (drop_first is xs) + 1
one_less is [] = omega arith
one_less is (x ∷ xs) = one_less_by x xs (drop_first is xs) (is x) (one_less is xs)

pub fewer : (old new : Listed) (is : Owner → Bool) → new.owners ≡ drop_first is old.owners → length new.owners ≤ length old.owners
fewer old new is gone = rw gone (fewer_items is old.owners)

pub goes : (old new : Listed) (is : Owner → Bool) → new.owners ≡ drop_first is old.owners → old.room ≤ new.room → IsRoomLeft old new
goes old new is gone room =
    let most : length new.owners ≤ length old.owners = fewer old new is gone in
    let least : length old.owners ≤ length new.owners + 1 = rw gone (one_less is old.owners) in
    record { most = omega (arith, most); least = least; taken = omega (arith, room); kept = λ _. room }
