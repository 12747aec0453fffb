-- What entries say of the owners that they name, whatever else stands in the bucket: our own law.
use Rattle.std.specs.Prelude.{◌≡◌, ℕ, Bool, true, false, List, [], ◌∷◌, ◌++◌, filter, find}
use Rattle.std.specs.Option.{option_map, option_to_list}
use Rattle.list_words.specs.Lists.{Each}
use Rattle.sock_card.specs.declared.owner.Owner.{Owner}
use Rattle.bind_buckets.specs.declared.request.Request.{Request}
use Rattle.bind_buckets.specs.declared.request.Request.TheVariants as requests
use Rattle.bind_buckets.specs.declared.request.Answer.{Answer}
use Rattle.bind_buckets.specs.declared.request.Answer.TheVariants as answers
use Rattle.bind_buckets.specs.declared.request.Entry.{Entry}
use Rattle.bind_buckets.specs.First.{change_first, drop_first}
use Rattle.sock_card.specs.Became.{as_listener, connected, child, as_waiting}
use Rattle.bind_buckets.specs.OwnerStep.{has_name, waits_as}
use Rattle.bind_buckets.specs.Journal.{IsLegal, replayed}

-- the owners after a request that is carried out
abbrev pub done_by : List Owner → Request → List Owner
done_by owners (requests.Bind a) = owners ++ a ∷ []
done_by owners (requests.BindAuto a) = owners ++ a ∷ []
done_by owners (requests.MayListen name) = owners
done_by owners (requests.Listen name slot) = change_first (has_name name) as_listener owners
done_by owners (requests.Free port net) = owners
done_by owners (requests.ConnectAuto a) = owners ++ a ∷ []
done_by owners (requests.ConnectBound name local remote rport) =
    change_first (has_name name) (connected local remote rport) owners
done_by owners (requests.Inherit parent name mark local remote rport) =
    owners ++ option_to_list (option_map (child name mark local remote rport) (find (has_name parent) owners))
done_by owners (requests.ToTimeWait name) = change_first (has_name name) as_waiting owners
done_by owners (requests.Remove name) = drop_first (has_name name) owners
done_by owners (requests.RemoveWaiting name) = drop_first (waits_as name) owners

-- the owners after a request that is answered so
abbrev pub told : List Owner → Request → Answer → List Owner
told owners request answers.Done = done_by owners request
told owners request _ = owners

abbrev pub told_from : List Owner → List Entry → List Owner
told_from owners [] = owners
told_from owners (e ∷ rest) = told_from (told owners e.request e.answer) rest

-- a request is about an owner of one of these names; one about a port is about none
abbrev pub speaks_of : (ℕ → Bool) → Request → Bool
speaks_of mine (requests.Bind a) = mine a.name
speaks_of mine (requests.BindAuto a) = mine a.name
speaks_of mine (requests.MayListen name) = mine name
speaks_of mine (requests.Listen name slot) = mine name
speaks_of mine (requests.Free port net) = false
speaks_of mine (requests.ConnectAuto a) = mine a.name
speaks_of mine (requests.ConnectBound name local remote rport) = mine name
speaks_of mine (requests.Inherit parent name mark local remote rport) = mine name
speaks_of mine (requests.ToTimeWait name) = mine name
speaks_of mine (requests.Remove name) = mine name
speaks_of mine (requests.RemoveWaiting name) = mine name

-- among the names that are looked at, a child's has its parent's beside it
abbrev pub IsWhole : (ℕ → Bool) → Request → Type 0
IsWhole mine (requests.Inherit parent name mark local remote rport) = mine name ≡ true → mine parent ≡ true
IsWhole mine _ = Unit {0}

abbrev pub is_mine : (ℕ → Bool) → Owner → Bool
is_mine mine a = mine a.name

abbrev pub is_about : (ℕ → Bool) → Entry → Bool
is_about mine e = speaks_of mine e.request

-- the owners of these names after a journal follow from the entries about them alone
abbrev pub ToldByTheirOwn : Type 0
ToldByTheirOwn =
    (number : ℕ) (mine : ℕ → Bool) (entries : List Entry) → IsLegal number entries
    → Each (λ (e : Entry). IsWhole mine e.request) entries
    → filter (is_mine mine) (replayed number entries).owners ≡ told_from [] (filter (is_about mine) entries)

-- and so is the first owner of each of them
abbrev pub FirstIsTold : Type 0
FirstIsTold =
    (number : ℕ) (mine : ℕ → Bool) (name : ℕ) (entries : List Entry) → mine name ≡ true → IsLegal number entries
    → Each (λ (e : Entry). IsWhole mine e.request) entries
    → find (has_name name) (replayed number entries).owners
    ≡ find (has_name name) (told_from [] (filter (is_about mine) entries))
