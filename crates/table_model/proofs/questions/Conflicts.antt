-- A bucket decides whether an owner stands in the way as the list does.
use Rattle.std.proofs.Common.{◌≡◌, ◌≢◌, ℕ, ◌+◌, ◌≤◌, ◌==◌, Bool, true, false, not, ◌&&◌, cond, List, [], ◌∷◌, find, refl, ap, sym, ◌∙◌, arith}
use Rattle.std.specs.Prelude.{is_some}
use Rattle.std.proofs.lemmas.Bool.{false_from_ne_true, and_parts, eqb-true}
use Rattle.std.specs.List.{list_any}
use Rattle.list_words.specs.Lists.{Pairs, total}
use Rattle.sock_card.specs.declared.owner.Owner.{Owner}
use Rattle.sock_card.specs.Conflict.{refuses, overlap, holds, has_port, same_port, owner_key, bind_key}
use Rattle.bind_buckets.specs.First.{drop_first}
use Rattle.bind_buckets.specs.Journal.{Standing}
use Rattle.bind_buckets.specs.OwnerStep.{has_name as is_owner_named}
use Rattle.flat_list.specs.declared.socket.Socket.{Socket}
use Rattle.flat_list.specs.Flat.{Flat}
use Rattle.flat_list.specs.Sockets.{is_owner, has_name, without, is_other_owner, is_claimed}
use Rattle.flat_list.specs.Sound.{NamesDiffer}
use Rattle.bind_buckets.specs.BindHash.{standing_at}
use Rattle.table_model.specs.Means.{OwnersMean, owns}
use Rattle.table_model.proofs.lists.Passing.{total_same, ind, any_weighs, found_weighs, same_answer}
use Rattle.table_model.proofs.lists.Listed.{Listed, without_weighs}
use Rattle.table_model.proofs.lists.First.{drop_weighs}
use Rattle.table_model.proofs.parts.Buckets.{weigh_in, only_there}
use Rattle.table_model.proofs.parts.FirstOfName.{stands}

-- a test that only owners of that key pass
abbrev pub AsksOf : ℕ → (Owner → Bool) → Type 0
AsksOf key q = (a : Owner) → owner_key a ≢ key → ind q a ≡ 0

-- owners of another key have another port, or another namespace
no_port : (port net : ℕ) (a : Owner) → owner_key a ≢ bind_key port net → has_port port net a ≡ false
no_port port net a d = false_from_ne_true (has_port port net a) (λ e. d (has_key port net a e))
  where
    has_key : (port net : ℕ) (a : Owner) → has_port port net a ≡ true → owner_key a ≡ bind_key port net
    has_key port net a e =
        let parts = and_parts (a.net == net) (a.port == port) e in
        ap (λ n. bind_key a.port n) (eqb-true a.net net parts.0) ∙ ap (λ p. bind_key p net) (eqb-true a.port port parts.1)

-- only owners of its key refuse an owner
pub refuses_at : (a : Owner) → AsksOf (owner_key a) (refuses a)
unfolding refuses overlap
refuses_at a b h = let e : same_port a b ≡ false = no_port b.port b.net a (λ q. h (sym q)) in rw e refl

-- only owners of its key overlap it
pub overlaps_at : (a : Owner) → AsksOf (owner_key a) (overlap a)
unfolding overlap
overlaps_at a b h = let e : same_port a b ≡ false = no_port b.port b.net a (λ q. h (sym q)) in rw e refl

-- only owners of its key hold a port
pub holds_at : (port net : ℕ) → AsksOf (bind_key port net) (holds port net)
holds_at port net a h = let e : has_port port net a ≡ false = no_port port net a h in rw e refl

other_weighs : (o n r : Bool) → cond {A = ℕ} ((o && not n) && r) 1 0 ≡ cond {A = ℕ} (not n) (cond {A = ℕ} o (cond {A = ℕ} r 1 0) 0) 0
other_weighs false false r = refl
other_weighs false true r = refl
other_weighs true false r = refl
other_weighs true true r = refl

kept_weighs : (g : Socket → ℕ) (n : Bool) (x : Socket) (ys : List Socket) → total g (cond (not n) (x ∷ ys) ys) ≡ cond {A = ℕ} (not n) (g x) 0 + total g ys
kept_weighs g true x ys = omega arith
kept_weighs g false x ys = refl

-- the owners of another name that pass weigh as those that pass of the list without the name
others_weigh : (q : Owner → Bool) (name : ℕ) (xs : List Socket) → total (ind (λ s. is_other_owner name s && q s.owner)) xs ≡ total (owns (ind q)) (without name xs)
others_weigh q name [] = refl
others_weigh q name (x ∷ xs) = omega (
  arith,
  other_weighs (is_owner x.owner.state) (has_name name x) (q x.owner),
  kept_weighs (owns (ind q)) (has_name name x) x (without name xs),
  others_weigh q name xs,
)

-- some owner passes
owner_weighs : (o p r : Bool) → cond {A = ℕ} (o && (p && r)) 1 0 ≡ cond {A = ℕ} o (cond {A = ℕ} (p && r) 1 0) 0
owner_weighs false p r = refl
owner_weighs true p r = refl

module _ (buckets : List Standing) (flat : Flat) (om : OwnersMean buckets flat) (some : 1 ≤ flat.header.shape.bind) where
  -- what only owners of a port weigh, its bucket and the list weigh alike
  pub weighs_there : (f : Owner → ℕ) (port : ℕ) → ((a : Owner) → owner_key a ≢ port → f a ≡ 0) → weigh_in f (standing_at buckets port) ≡ total (owns f) flat.sockets
  weighs_there f port h = sym (only_there buckets flat om some f port h) ∙ om.owners f

  -- `connect` may choose a port by the bucket as by the list
  pub claimed : (port net : ℕ) → is_claimed port net flat.sockets ≡ is_some (find (holds port net) (standing_at buckets (bind_key port net)).held.owners)
  claimed port net =
      let p : Socket → Bool = λ s. is_owner s.owner.state && holds port net s.owner in
      let owners : List Owner = (standing_at buckets (bind_key port net)).held.owners in
      same_answer (is_claimed port net flat.sockets) (is_some (find (holds port net) owners)) (total (ind p) flat.sockets) (total (ind (holds port net)) owners)
      (any_weighs p flat.sockets) (found_weighs (holds port net) owners)
      (total_same (ind p) (owns (ind (holds port net))) flat.sockets (λ s. owner_weighs (is_owner s.owner.state) (has_port port net s.owner) (not s.owner.by_connect))
      ∙ sym (weighs_there (ind (holds port net)) (bind_key port net) (holds_at port net)))

  module _ (names : Pairs NamesDiffer flat.sockets) (name : ℕ) (s : Socket) (at : Listed name flat.sockets s) (q : Owner → Bool) where
    abbrev pub is_in_way : Socket → Bool
    is_in_way x = is_other_owner name x && q x.owner

    -- a socket without a port: all owners of the port are asked
    pub newcomer : (port : ℕ) → AsksOf port q → is_owner s.owner.state ≡ false → list_any is_in_way flat.sockets ≡ is_some (find q (standing_at buckets port).held.owners)
    newcomer port only unbound =
        let owners : List Owner = (standing_at buckets port).held.owners in
        let e : total (ind is_in_way) flat.sockets ≡ total (ind q) owners = omega (
          arith,
          others_weigh q name flat.sockets,
          without_weighs name (owns (ind q)) s flat.sockets names at,
          ap (λ (b : Bool). cond {A = ℕ} b (ind q s.owner) 0) unbound,
          weighs_there (ind q) port only,
        ) in
        same_answer (list_any is_in_way flat.sockets) (is_some (find q owners)) (total (ind is_in_way) flat.sockets) (total (ind q) owners)
        (any_weighs is_in_way flat.sockets) (found_weighs q owners) e

    -- a socket with a port: all but itself, which is the first of its name
    pub among_others : AsksOf (owner_key s.owner) q → is_owner s.owner.state ≡ true
        → list_any is_in_way flat.sockets ≡ is_some (find q (drop_first (is_owner_named name) (standing_at buckets (owner_key s.owner)).held.owners))
    among_others only owner =
        let owners : List Owner = (standing_at buckets (owner_key s.owner)).held.owners in
        let rest : List Owner = drop_first (is_owner_named name) owners in
        let e : total (ind is_in_way) flat.sockets ≡ total (ind q) rest = omega (
          arith,
          others_weigh q name flat.sockets,
          without_weighs name (owns (ind q)) s flat.sockets names at,
          ap (λ (b : Bool). cond {A = ℕ} b (ind q s.owner) 0) owner,
          weighs_there (ind q) (owner_key s.owner) only,
          drop_weighs (is_owner_named name) (ind q) s.owner owners (stands buckets flat om some names name s at owner),
        ) in
        same_answer (list_any is_in_way flat.sockets) (is_some (find q rest)) (total (ind is_in_way) flat.sockets) (total (ind q) rest)
        (any_weighs is_in_way flat.sockets) (found_weighs q rest) e
