-- No bucket has an owner or a member of the name of a socket without a port.
use Rattle.std.proofs.Common.{◌≡◌, ◌≢◌, ℕ, zero, suc, ◌%◌, ◌^◌, Bool, false, ◌&&◌, ◌||◌, cond, List, [], ◌∷◌, length, get_or, ◌∙◌, filter, find, Option, None, Some, refl, ap, sym, subst, arith}
use Rattle.std.specs.Prelude.{is_some}
use Rattle.std.specs.List.{list_any}
use Rattle.std.proofs.lemmas.Bool.{ne_eqb}
use Rattle.list_words.specs.Lists.{Each, Pairs, total}
use Rattle.list_words.proofs.EachLemmas.{each_weaken, each_both, each_map, each_filter, each_unmap}
use Rattle.sock_card.specs.declared.owner.Owner.{Owner}
use Rattle.sock_card.specs.declared.owner.State.{State}
use Rattle.sock_card.specs.declared.owner.State.TheVariants as states
use Rattle.sock_card.specs.Conflict.{is_listening}
use Rattle.bind_buckets.specs.Members.{is_named, has_member}
use Rattle.bind_buckets.specs.Journal.{Standing}
use Rattle.bind_buckets.specs.OwnerStep.{has_name as is_owner_named}
use Rattle.flat_list.specs.declared.socket.Socket.{Socket}
use Rattle.flat_list.specs.Flat.{Flat}
use Rattle.flat_list.specs.Groups.{has_member as is_member_of}
use Rattle.flat_list.specs.Sockets.{is_owner, is_open_in}
use Rattle.flat_list.specs.Sound.{NamesDiffer, IsInOneGroup}
use Rattle.table_model.specs.Tables.{Tables}
use Rattle.bind_buckets.specs.BindHash.{standing_at, untouched}
use Rattle.table_model.specs.Means.{OwnersMean, GroupsMean, UnboundFresh, owns, weigh_owners, owner_of, owner_in}
use Rattle.table_model.proofs.lists.Passing.{ind, found_weighs, Weighs}
use Rattle.table_model.proofs.lists.Weights.{part_none}
use Rattle.table_model.proofs.lists.Listed.{Listed, without_weighs, others_weigh_none}
use Rattle.table_model.proofs.parts.Buckets.{weigh_in}
use Rattle.table_model.proofs.parts.MemberPlaces.{EachWord, words_differ}
use Rattle.table_model.proofs.parts.GroupPlaces.{count_none}
use Rattle.table_model.proofs.parts.FirstOfName.{if_named, not_named}
use Rattle.table_model.proofs.parts.Standing.{all_listed}

none_found : (o : Option Owner) (n : ℕ) → Weighs (is_some o) n → n ≡ 0 → o ≡ None
none_found None n w h = refl
none_found (Some a) n w h = absurd (omega (arith, w.0 refl, h))

module _ (buckets : List Standing) (flat : Flat) (om : OwnersMean buckets flat) (names : Pairs NamesDiffer flat.sockets)
    (name : ℕ) (s : Socket) (at : Listed name flat.sockets s) (owner : is_owner s.owner.state ≡ false) where
  abbrev one : Owner → ℕ
  one = if_named name (λ (x : Owner). 1)

  none : weigh_owners one buckets ≡ 0
  none = omega (
    arith,
    om.owners one,
    without_weighs name (owns one) s flat.sockets names at,
    others_weigh_none name (owns one) flat.sockets (λ x e. not_named name (λ (y : Owner). 1) (is_owner x.owner.state) x e),
    ap (λ (b : Bool). cond {A = ℕ} b (one s.owner) 0) owner,
  )

  -- its name is fresh
  pub is_fresh : (port : ℕ) → find (is_owner_named name) (standing_at buckets port).held.owners ≡ None
  is_fresh port =
      let owners : List Owner = (standing_at buckets port).held.owners in
      none_found (find (is_owner_named name) owners) (total (ind (is_owner_named name)) owners) (found_weighs (is_owner_named name) owners)
      (part_none (weigh_in one) buckets (port % length buckets) untouched refl none)

no_word : (name : ℕ) (members : List ℕ) → Each (λ m. name ≢ m % 2 ^ 64) members → has_member name members ≡ false
no_word name [] h = refl
no_word name (m ∷ ms) h = ap (λ (b : Bool). b || list_any (is_named name) ms) (ne_eqb (m % 2 ^ 64) name (λ e. h.0 (sym e))) ∙ no_word name ms h.1

no_group : (name : ℕ) (groups : List (List ℕ)) → Each (λ members. Each (λ m. name ≢ m % 2 ^ 64) members) groups → find (has_member name) groups ≡ None
no_group name [] h = refl
no_group name (ms ∷ rest) h = ap (λ (b : Bool). cond b (Some ms) (find (has_member name) rest)) (no_word name ms h.0) ∙ no_group name rest h.1

no_member_at : (name : ℕ) (buckets : List Standing) (k : ℕ) → EachWord (λ m. name ≢ m % 2 ^ 64) buckets → find (has_member name) (get_or buckets k untouched).held.groups ≡ None
no_member_at name [] k h = refl
no_member_at name (s ∷ rest) zero h = no_group name s.held.groups h.0
no_member_at name (s ∷ rest) (suc k) h = no_member_at name rest k h.1

unbound_alone : (st : State) (b : Bool) → is_owner st ≡ false → (is_listening st && b) ≡ false
unbound_alone states.Unbound b h = refl
unbound_alone states.Bound b h = refl
unbound_alone states.Full b h = refl
unbound_alone states.TimeWait b h = refl
unbound_alone states.Request b h = refl
unbound_alone states.Listening b h = absurd (cc)

-- no bucket has a member of its name
pub is_no_member : (t : Tables) (flat : Flat) (s : Socket) → GroupsMean t flat → IsInOneGroup flat.groups s → is_owner s.owner.state ≡ false
    → (port : ℕ) → find (has_member s.owner.name) (standing_at t.buckets port).held.groups ≡ None
is_no_member t flat s gm one unbound port =
    no_member_at s.owner.name t.buckets (port % length t.buckets)
    (words_differ t flat s.owner.name gm
    (count_none (is_member_of s.owner.name) flat.groups (one ∙ ap (λ (b : Bool). cond {A = ℕ} b 1 0) (unbound_alone s.owner.state s.owner.reuseport unbound))))

-- a name that no bucket knows, where that socket has no port
abbrev pub FreshUnbound : List Standing → Owner → Type 0
FreshUnbound buckets a =
    is_owner a.state ≡ false → (port : ℕ) → (find (is_owner_named a.name) (standing_at buckets port).held.owners ≡ None)
    × (find (has_member a.name) (standing_at buckets port).held.groups ≡ None)

all_fresh : (t : Tables) (flat : Flat) → OwnersMean t.buckets flat → GroupsMean t flat → Pairs NamesDiffer flat.sockets → Each (IsInOneGroup flat.groups) flat.sockets → Each (λ (s : Socket). FreshUnbound t.buckets s.owner) flat.sockets
all_fresh t flat om gm names sharing =
    each_weaken (λ (s : Socket). Listed s.owner.name flat.sockets s × IsInOneGroup flat.groups s) (λ (s : Socket). FreshUnbound t.buckets s.owner) flat.sockets
    (λ s h owner port. (is_fresh t.buckets flat om names s.owner.name s h.0 owner port, is_no_member t flat s gm h.1 owner port))
    (each_both (λ (s : Socket). Listed s.owner.name flat.sockets s) (IsInOneGroup flat.groups) flat.sockets (all_listed flat.sockets names) sharing)

-- and so is that of each socket of one's own without a port
pub unbound_fresh : UnboundFresh
unbound_fresh n own t flat m =
    each_unmap (FreshUnbound t.buckets) owner_in own.sockets
    (subst (Each (FreshUnbound t.buckets)) (sym m.own_is.sockets)
    (each_map (FreshUnbound t.buckets) owner_of (filter (is_open_in n) flat.sockets)
    (each_filter (λ (s : Socket). FreshUnbound t.buckets s.owner) (is_open_in n) flat.sockets (all_fresh t flat m.tables.owners m.tables.groups m.sound.names m.sound.grouped.sharing))))
