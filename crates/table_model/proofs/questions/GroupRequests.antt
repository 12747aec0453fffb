-- The groups after a socket begins to listen, and after one leaves its port.
use Rattle.std.proofs.Common.{◌≡◌, ◌≢◌, ℕ, zero, suc, ◌+◌, ◌-◌, ◌*◌, ◌/◌, ◌%◌, ◌^◌, ◌<◌, ◌≤◌, Bool, true, false, not, cond, List, [], ◌∷◌, ◌++◌, length, get_or, take, find, Option, Some, None, refl, sym, ap, subst, ◌∙◌, arith}
use Rattle.std.proofs.Math.ListN.{set}
use Rattle.std.specs.List.{list_any}
use Rattle.std.proofs.lemmas.Bool.{both_ways, cond-true, cond-false}
use Rattle.std.proofs.lemmas.List.{length-set}
use Rattle.sock_card.specs.Conflict.{owner_key}
use Rattle.list_words.specs.Lists.{Each, Pairs}
use Rattle.list_words.proofs.EachLemmas.{each_weaken, each_both, each_found, found_passes, each_push, each_unmap}
use Rattle.bind_buckets.specs.declared.request.Request.{Request}
use Rattle.bind_buckets.specs.declared.request.Request.TheVariants as requests
use Rattle.bind_buckets.specs.First.{change_first}
use Rattle.bind_buckets.specs.Journal.{Standing, asked}
use Rattle.bind_buckets.specs.Members.{member, is_named, has_member as is_member, without_member as left_in}
use Rattle.bind_buckets.specs.OwnerStep.{Held, After, with_member, place_for}
use Rattle.chain_book.specs.Chains.{Chains}
use Rattle.flat_list.specs.declared.socket.Socket.{Socket}
use Rattle.flat_list.specs.Flat.{Flat}
use Rattle.flat_list.specs.Groups.{Group, has_member, leave}
use Rattle.flat_list.specs.Sockets.{has_name, is_owner, without}
use Rattle.flat_list.specs.Sound.{IsSound, IsGroupOf, is_sharing}
use Rattle.table_model.specs.Tables.{Tables}
use Rattle.bind_buckets.specs.BindHash.{standing_at, asked_at, untouched}
use Rattle.bind_buckets.proofs.StaysGrouped.{length-change_first}
use Rattle.table_model.specs.Means.{OwnersMean, GroupsMean, members_of, stands_in_some}
use Rattle.table_model.proofs.lists.Listed.{Listed, listed_name}
use Rattle.table_model.proofs.parts.Buckets.{near}
use Rattle.table_model.proofs.questions.Asked as asking
use Rattle.table_model.proofs.questions.Requests.{listen_is, remove_is}
use Rattle.table_model.proofs.parts.GroupPlaces.{at_number, OnlyAt, GroupsAt, members_in, no_member}
use Rattle.table_model.proofs.parts.Joining.{joined_at_place, joins_at}
use Rattle.table_model.proofs.parts.Leaving.{leaves_at, names_stay}
use Rattle.table_model.proofs.parts.Groups.{each_at, each_by_place, places_of, IsGrouped, PlacesStand, stand_there, groups_stay, groups_set, words_grouped}
use Rattle.table_model.proofs.questions.WhichGroup.{HasRoom, group_of_sharing, in_no_group}

-- a member's word has its name
member_named : (slot name : ℕ) → name < 2 ^ 64 → member slot name % 2 ^ 64 ≡ name
member_named slot name small = omega arith

module _ {A : Type 0} (P : A → Type 0) where
  set_each : (xs : List A) (i : ℕ) (y : A) → Each P xs → P y → Each P (set xs i y)
  set_each [] i y h p = tt
  set_each (x ∷ xs) zero y h p = (p, h.1)
  set_each (x ∷ xs) (suc i) y h p = (h.0, set_each xs i y h.1 p)

  -- what holds of each holds of the first ones
  pub each_take : (n : ℕ) (xs : List A) → Each P xs → Each P (take n xs)
  each_take zero xs h = tt
  each_take (suc n) [] h = tt
  each_take (suc n) (x ∷ xs) h = (h.0, each_take n xs h.1)

  change_by : (x z : A) (xs rest : List A) (b : Bool) → P x → P z → Each P xs → Each P rest → Each P (cond b (z ∷ xs) (x ∷ rest))
  change_by x z xs rest true p q h k = (q, h)
  change_by x z xs rest false p q h k = (p, k)

  change_each : (is : A → Bool) (z : A) (xs : List A) → P z → Each P xs → Each P (change_first is (λ _. z) xs)
  change_each is z [] q h = tt
  change_each is z (x ∷ xs) q h = change_by x z xs (change_first is (λ _. z) xs) (is x) h.0 q h.1 (change_each is z xs q h.1)

-- who is left was there
each_left : (P : ℕ → Type 0) (name : ℕ) (ms : List ℕ) → Each P ms → Each P (left_in name ms)
each_left P name [] h = tt
each_left P name (m ∷ ms) h =
    let last : ℕ = length (m ∷ ms) - 1 in
    each_take P last (change_first (is_named name) (λ _. get_or (m ∷ ms) last 0) (m ∷ ms))
    (change_each P (is_named name) (get_or (m ∷ ms) last 0) (m ∷ ms) (each_at P (m ∷ ms) last 0 h (omega arith)) h)

places_by : (P : List ℕ → Type 0) (x z : List ℕ) (xs rest : List (List ℕ)) (b : Bool) → P x → P z → Each P xs → Each P rest → Each P (cond b (z ∷ xs) (x ∷ rest))
places_by P x z xs rest true p q h k = (q, h)
places_by P x z xs rest false p q h k = (p, k)

change_places : (P : List ℕ → Type 0) (p : List ℕ → Bool) (f : List ℕ → List ℕ) (xs : List (List ℕ)) → ((x : List ℕ) → P x → P (f x)) → Each P xs → Each P (change_first p f xs)
change_places P p f [] keeps h = tt
change_places P p f (x ∷ xs) keeps h = places_by P x (f x) xs (change_first p f xs) (p x) h.0 (keeps x h.0) h.1 (change_places P p f xs keeps h.1)

-- the list of names whose names differ
differ_by : (n : ℕ) (groups : List Group) (o : Option Group) → find (at_number n) groups ≡ o → Each (λ (g : Group). Pairs (λ a b. a ≢ b) g.members) groups → Pairs (λ a b. a ≢ b) (members_in o)
differ_by n groups None e h = tt
differ_by n groups (Some g) e h = each_found (λ (y : Group). Pairs (λ a b. a ≢ b) y.members) (at_number n) groups g h e

-- no member of a group of the list is who isn't in the list
unknown_by : (flat : Flat) (n name : ℕ) (o : Option Group) → find (at_number n) flat.groups ≡ o → IsSound flat → list_any (has_name name) flat.sockets ≡ false → Each (λ k. k ≢ name) (members_in o)
unknown_by flat n name None e sound gone = tt
unknown_by flat n name (Some g) e sound gone =
    let of : IsGroupOf flat.header.shape.bind flat.sockets g = each_found (IsGroupOf flat.header.shape.bind flat.sockets) (at_number n) flat.groups g sound.grouped.each e in
    each_weaken (λ k. list_any (has_name k) flat.sockets ≡ true) (λ k. k ≢ name) g.members
    (λ k h q. both_ways (list_any (has_name k) flat.sockets) (ap (λ j. list_any (has_name j) flat.sockets) q ∙ gone) h) of.known

none_left : (name : ℕ) (x : Socket) (xs : List Socket) (b : Bool) → has_name name x ≡ b → list_any (has_name name) xs ≡ false → list_any (has_name name) (cond (not b) (x ∷ xs) xs) ≡ false
none_left name x xs true e h = h
none_left name x xs false e h = rw e h

-- the name is gone
pub no_name_left : (name : ℕ) (xs : List Socket) → list_any (has_name name) (without name xs) ≡ false
no_name_left name [] = refl
no_name_left name (x ∷ xs) = none_left name x (without name xs) (has_name name x) refl (no_name_left name xs)

apart : (number p bucket place : ℕ) → p < 8 → place < 8 → 8 * number + p ≡ 8 * bucket + place → number ≡ bucket
apart number p bucket place l k e = omega arith

of_bucket : (number place bucket one : ℕ) → place < 8 → one / 8 ≡ bucket → 8 * number + place ≡ one → number ≡ bucket
of_bucket number place bucket one l home e = omega arith

module _ (t : Tables) (flat : Flat) (om : OwnersMean t.buckets flat) (gm : GroupsMean t flat) (some : 1 ≤ flat.header.shape.bind) (sound : IsSound flat)
    (name : ℕ) (s : Socket) (at : Listed name flat.sockets s) (owner : is_owner s.owner.state ≡ true) (small : name < 2 ^ 64) (chains : Chains) where
  abbrev port : ℕ
  port = (owner_key s.owner)

  abbrev bucket : ℕ
  bucket = port % length t.buckets

  abbrev held : Held
  held = (standing_at t.buckets port).held

  inside : bucket < length t.buckets
  inside = near t.buckets flat om some port

  eight : length held.groups ≡ 8
  eight = each_at (λ (x : Standing). length x.held.groups ≡ 8) t.buckets bucket untouched gm.places inside

  means : GroupsAt bucket held.groups flat.groups
  means place l = gm.members bucket place inside l

  named : s.owner.name ≡ name
  named = listed_name name flat.sockets s at

  abbrev asked_for : Request → Standing
  asked_for request = asked bucket (standing_at t.buckets port) request

  -- a listener that shares its end is a member of its group then
  pub listened : (slot place : ℕ) (groups : List Group) (left : Flat) → s.owner.reuseport ≡ true → HasRoom t.buckets flat s place groups → left.groups ≡ groups
      → ((m : ℕ) → stands_in_some m t.chains.rows ≡ true → stands_in_some m chains.rows ≡ true) → stands_in_some (member slot name) chains.rows ≡ true
      → GroupsMean (record { buckets = asked_at t.buckets port (requests.Listen name slot); chains = chains }) left
  listened slot place groups left shares room same keeps new =
      let places : List (List ℕ) = joined_at_place place (member slot name) held.groups in
      let after : (asked_for (requests.Listen name slot)).held.groups ≡ places =
      ap (λ (x : After). x.held.groups) (listen_is t.buckets flat om some sound.names name s at owner slot)
      ∙ (cond-true s.owner.reuseport (with_member (place_for held s.owner) (member slot name) held.groups) held.groups shares
      ∙ ap (λ o. with_member o (member slot name) held.groups) room.there) in
      let stood : PlacesStand chains.rows held.groups = stand_there t (record t { chains = chains }) flat left gm (λ m g h. keeps m h) bucket inside in
      let there : List ℕ = get_or held.groups place [] in
      groups_set t flat left chains gm bucket (asked_for (requests.Listen name slot)) inside
      (ap (λ (l : List (List ℕ)). length l) after ∙ (length-set held.groups place (there ++ member slot name ∷ []) ∙ eight))
      (subst (λ l. GroupsAt bucket l left.groups) (sym after) (subst (GroupsAt bucket places) (sym same)
      (joins_at bucket name (member slot name) place held.groups flat.groups groups eight room.below (member_named slot name small) means
      (room.more ∙ ap (λ k. members_of (8 * bucket + place) flat.groups ++ k ∷ []) named) room.others)))
      (λ number p d l. ap (members_of (8 * number + p)) same ∙ room.others (8 * number + p) (λ e. d (apart number p bucket place l room.below e)))
      (subst (PlacesStand chains.rows) (sym after)
      (set_each (λ members. Each (λ m. stands_in_some m chains.rows ≡ true) members) held.groups place (there ++ member slot name ∷ []) stood
      (each_push (λ m. stands_in_some m chains.rows ≡ true) there (member slot name)
      (each_at (λ members. Each (λ m. stands_in_some m chains.rows ≡ true) members) held.groups place [] stood (omega (arith, room.below, eight))) new)))
      (λ number l d. stand_there t (record t { chains = chains }) flat left gm (λ m g h. keeps m h) number l)

  -- one that shares none is in no group
  pub listened_alone : (slot : ℕ) (left : Flat) → s.owner.reuseport ≡ false → left.groups ≡ flat.groups
      → ((m : ℕ) → stands_in_some m t.chains.rows ≡ true → stands_in_some m chains.rows ≡ true)
      → GroupsMean (record { buckets = asked_at t.buckets port (requests.Listen name slot); chains = chains }) left
  listened_alone slot left alone same keeps =
      let request : Request = requests.Listen name slot in
      let after : (asked_for request).held.groups ≡ held.groups =
      ap (λ (x : After). x.held.groups) (listen_is t.buckets flat om some sound.names name s at owner slot)
      ∙ cond-false s.owner.reuseport (with_member (place_for held s.owner) (member slot name) held.groups) held.groups alone in
      groups_stay t (record { buckets = asked_at t.buckets port request; chains = chains }) flat left gm
      (asking.groups_stay t.buckets flat om some port request after) same (λ m g h. keeps m h)

  -- the group's number, where the socket is in one, is of its bucket
  record AtOne (number : ℕ) : Type 0 where
    home : number / 8 ≡ bucket
    only : OnlyAt name number flat.groups

  in_one : (b : Bool) → is_sharing s ≡ b → (number : ℕ) × AtOne number
  in_one true e =
      let g = group_of_sharing flat sound (has_name name) s at e in
      let has : has_member s.owner.name g.0 ≡ true = found_passes (has_member s.owner.name) flat.groups g.0 g.1.found in
      let home : port % flat.header.shape.bind ≡ g.0.number / 8 =
      each_found (λ (y : Socket). has_member y.owner.name g.0 ≡ true → (owner_key y.owner) % flat.header.shape.bind ≡ g.0.number / 8) (has_name name) flat.sockets s g.1.of.bucket at has in (
        g.0.number,
        record {
          home = sym home ∙ ap (λ n. port % n) (sym om.count);
          only = each_weaken (λ y. has_member s.owner.name y ≡ true → y ≡ g.0) (λ (y : Group). has_member name y ≡ true → y.number ≡ g.0.number) flat.groups
              (λ y f h. ap (λ (z : Group). z.number) (f (ap (λ n. has_member n y) named ∙ h))) g.1.only;
        },
      )
  in_one false e = (
    8 * bucket,
    record {
      home = omega arith;
      only = each_weaken (λ y. has_member s.owner.name y ≡ false) (λ (y : Group). has_member name y ≡ true → y.number ≡ 8 * bucket) flat.groups
          (λ y f h. absurd (both_ways (has_member name y) (ap (λ n. has_member n y) (sym named) ∙ f) h)) (in_no_group flat sound (has_name name) s at e);
    },
  )

  differs : (n : ℕ) → Pairs (λ a b. a ≢ b) (members_of n flat.groups)
  differs n =
      differ_by n flat.groups (find (at_number n) flat.groups) refl (each_weaken (IsGroupOf flat.header.shape.bind flat.sockets) (λ (g : Group). Pairs (λ a b. a ≢ b) g.members) flat.groups (λ g h. h.differ) sound.grouped.each)

  abbrev after_removed : List (List ℕ)
  after_removed = change_first (is_member name) (left_in name) held.groups

  -- the members that stood stand but for the one that leaves
  left_stand : (left : Flat) → left.groups ≡ leave name flat.groups → IsSound left → list_any (has_name name) left.sockets ≡ false
      → ((m : ℕ) → IsGrouped flat.groups (m % 2 ^ 64) → m % 2 ^ 64 ≢ name → stands_in_some m t.chains.rows ≡ true → stands_in_some m chains.rows ≡ true)
      → (number : ℕ) (places : List (List ℕ)) → length places ≡ 8 → GroupsAt number places left.groups
      → Each (λ members. Each (λ m. IsGrouped flat.groups (m % 2 ^ 64) × (stands_in_some m t.chains.rows ≡ true)) members) places
      → PlacesStand chains.rows places
  left_stand left same sound_left gone keeps number places long at_places stood =
      each_by_place (λ members. Each (λ m. stands_in_some m chains.rows ≡ true) members) places []
      (λ place k.
      let ms : List ℕ = get_or places place [] in
      let others : Each (λ m. m % 2 ^ 64 ≢ name) ms = each_unmap (λ j. j ≢ name) (λ m. m % 2 ^ 64) ms
      (subst (Each (λ j. j ≢ name)) (sym (at_places place (omega (arith, k, long)))) (unknown_by left (8 * number + place) name (find (at_number (8 * number + place)) left.groups) refl sound_left gone)) in
      each_weaken (λ m. (m % 2 ^ 64 ≢ name) × (IsGrouped flat.groups (m % 2 ^ 64) × (stands_in_some m t.chains.rows ≡ true))) (λ m. stands_in_some m chains.rows ≡ true) ms
      (λ m h. keeps m h.1.0 h.0 h.1.1)
      (each_both (λ m. m % 2 ^ 64 ≢ name) (λ m. IsGrouped flat.groups (m % 2 ^ 64) × (stands_in_some m t.chains.rows ≡ true)) ms others
      (each_at (λ members. Each (λ m. IsGrouped flat.groups (m % 2 ^ 64) × (stands_in_some m t.chains.rows ≡ true)) members) places place [] stood k)))

  stood_before : (number : ℕ) → number < length t.buckets → Each (λ members. Each (λ m. IsGrouped flat.groups (m % 2 ^ 64) × (stands_in_some m t.chains.rows ≡ true)) members) (places_of t number)
  stood_before number l =
      let long : length (places_of t number) ≡ 8 = each_at (λ (x : Standing). length x.held.groups ≡ 8) t.buckets number untouched gm.places l in
      each_by_place (λ members. Each (λ m. IsGrouped flat.groups (m % 2 ^ 64) × (stands_in_some m t.chains.rows ≡ true)) members) (places_of t number) []
      (λ place k.
      let ms : List ℕ = get_or (places_of t number) place [] in
      each_both (λ m. IsGrouped flat.groups (m % 2 ^ 64)) (λ m. stands_in_some m t.chains.rows ≡ true) ms
      (words_grouped t flat gm number place l (omega (arith, k, long)))
      (each_at (λ members. Each (λ m. stands_in_some m t.chains.rows ≡ true) members) (places_of t number) place [] (each_at (λ (x : Standing). PlacesStand t.chains.rows x.held.groups) t.buckets number untouched gm.stand l) k))

  -- a socket leaves its port, and the group that it is in
  pub removed_means : (left : Flat) → left.groups ≡ leave name flat.groups → IsSound left → list_any (has_name name) left.sockets ≡ false
      → ((m : ℕ) → IsGrouped flat.groups (m % 2 ^ 64) → m % 2 ^ 64 ≢ name → stands_in_some m t.chains.rows ≡ true → stands_in_some m chains.rows ≡ true)
      → GroupsMean (record { buckets = asked_at t.buckets port (requests.Remove name); chains = chains }) left
  removed_means left same sound_left gone keeps =
      let request : Request = requests.Remove name in
      let one = in_one (is_sharing s) refl in
      let after : (asked_for request).held.groups ≡ after_removed =
      ap (λ (x : After). x.held.groups) (remove_is t.buckets flat om some sound.names name s at owner) in
      let at_left : GroupsAt bucket after_removed left.groups = subst (GroupsAt bucket after_removed) (sym same) (leaves_at bucket held.groups flat.groups eight means name one.0 sound.grouped.numbers differs one.1.only) in
      let long : length after_removed ≡ 8 = length-change_first (is_member name) (left_in name) held.groups ∙ eight in
      let others : (number place : ℕ) → number ≢ bucket → place < 8 → members_of (8 * number + place) left.groups ≡ members_of (8 * number + place) flat.groups =
      λ number place d l. ap (members_of (8 * number + place)) same
      ∙ names_stay name (8 * number + place) flat.groups sound.grouped.numbers (no_member name (8 * number + place) one.0 flat.groups one.1.only (λ e. d (of_bucket number place bucket one.0 l one.1.home e))) in
      groups_set t flat left chains gm bucket (asked_for request) inside
      (ap (λ (l : List (List ℕ)). length l) after ∙ long)
      (subst (λ l. GroupsAt bucket l left.groups) (sym after) at_left)
      others
      (subst (PlacesStand chains.rows) (sym after)
      (left_stand left same sound_left gone keeps bucket after_removed long at_left
      (change_places (λ members. Each (λ m. IsGrouped flat.groups (m % 2 ^ 64) × (stands_in_some m t.chains.rows ≡ true)) members) (is_member name) (left_in name) held.groups
      (λ members h. each_left (λ m. IsGrouped flat.groups (m % 2 ^ 64) × (stands_in_some m t.chains.rows ≡ true)) name members h) (stood_before bucket inside))))
      (λ number l d. left_stand left same sound_left gone keeps number (places_of t number)
      (each_at (λ (x : Standing). length x.held.groups ≡ 8) t.buckets number untouched gm.places l)
      (λ place k. gm.members number place l k ∙ sym (others number place d k)) (stood_before number l))
