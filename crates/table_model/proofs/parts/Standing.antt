-- Every owner's socket, and every socket's owner, is known by its name.
use Rattle.std.proofs.Common.{◌≡◌, ◌≤◌, Bool, true, cond, List, [], ◌∷◌, filter, find, Some, refl, ap, sym, ◌∙◌, subst}
use Rattle.std.proofs.lemmas.Bool.{ne_eqb, eq-eqb}
use Rattle.sock_card.specs.Conflict.{owner_key}
use Rattle.list_words.specs.Lists.{Each, Pairs}
use Rattle.list_words.proofs.EachLemmas.{each_weaken, each_both, each_map, each_filter, each_unmap}
use Rattle.sock_card.specs.declared.owner.Owner.{Owner}
use Rattle.bind_buckets.specs.Journal.{Standing}
use Rattle.bind_buckets.specs.OwnerStep.{has_name as is_owner_named}
use Rattle.flat_list.specs.declared.socket.Socket.{Socket}
use Rattle.flat_list.specs.Flat.{Flat}
use Rattle.flat_list.specs.Sockets.{is_owner, has_name, is_open_in}
use Rattle.flat_list.specs.Sound.{NamesDiffer}
use Rattle.bind_buckets.specs.BindHash.{standing_at}
use Rattle.table_model.specs.Means.{OwnersMean, OwnersStand, owner_of, owner_in}
use Rattle.table_model.proofs.lists.Listed.{Listed}
use Rattle.table_model.proofs.parts.FirstOfName.{stands}

listed_here : (x : Socket) (xs : List Socket) → Listed x.owner.name (x ∷ xs) x
listed_here x xs = ap (λ (b : Bool). cond b (Some x) (find (has_name x.owner.name) xs)) (eq-eqb x.owner.name x.owner.name refl)

listed_later : (x s : Socket) (xs : List Socket) → NamesDiffer x s → Listed s.owner.name xs s → Listed s.owner.name (x ∷ xs) s
listed_later x s xs d h = ap (λ (b : Bool). cond b (Some x) (find (has_name s.owner.name) xs)) (ne_eqb x.owner.name s.owner.name d) ∙ h

-- where names differ, each socket is that of its name
pub all_listed : (xs : List Socket) → Pairs NamesDiffer xs → Each (λ (s : Socket). Listed s.owner.name xs s) xs
all_listed [] names = tt
all_listed (x ∷ xs) names = (
  listed_here x xs,
  each_weaken (λ (s : Socket). NamesDiffer x s × Listed s.owner.name xs s) (λ (s : Socket). Listed s.owner.name (x ∷ xs) s) xs (λ s h. listed_later x s xs h.0 h.1)
      (each_both (NamesDiffer x) (λ (s : Socket). Listed s.owner.name xs s) xs names.0 (all_listed xs names.1)),
)

-- an owner that has a port is the first of its name there
abbrev pub StandsFirst : List Standing → Owner → Type 0
StandsFirst buckets a = is_owner a.state ≡ true → find (is_owner_named a.name) (standing_at buckets (owner_key a)).held.owners ≡ Some a

-- each socket's owner is the first of its name in the bucket of its port
pub all_stand : (buckets : List Standing) (flat : Flat) → OwnersMean buckets flat → 1 ≤ flat.header.shape.bind → Pairs NamesDiffer flat.sockets
    → Each (λ (s : Socket). StandsFirst buckets s.owner) flat.sockets
all_stand buckets flat om some names =
    each_weaken (λ (s : Socket). Listed s.owner.name flat.sockets s) (λ (s : Socket). StandsFirst buckets s.owner) flat.sockets
    (λ s at owner. stands buckets flat om some names s.owner.name s at owner) (all_listed flat.sockets names)

-- and so is that of each socket of one's own
pub owners_stand : OwnersStand
owners_stand n own t flat m =
    each_unmap (StandsFirst t.buckets) owner_in own.sockets
    (subst (Each (StandsFirst t.buckets)) (sym m.own_is.sockets)
    (each_map (StandsFirst t.buckets) owner_of (filter (is_open_in n) flat.sockets)
    (each_filter (λ (s : Socket). StandsFirst t.buckets s.owner) (is_open_in n) flat.sockets (all_stand t.buckets flat m.tables.owners m.shape.bind m.sound.names))))
