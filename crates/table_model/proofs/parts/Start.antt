-- New tables, and a section that hasn't begun.
use Rattle.std.proofs.Common.{◌≡◌, ℕ, zero, suc, ◌/◌, ◌%◌, ◌^◌, ◌≤◌, ◌==◌, true, false, cond, List, [], ◌∷◌, length, get_or, map, filter, refl, sym, ap, subst, ◌∙◌, arith}
use Rattle.std.proofs.lemmas.Bool.{eqb-true, false_from_ne_true, and_right}
use Rattle.list_words.proofs.EachLemmas.{each_weaken}
use Rattle.sock_card.specs.Conflict.{is_time_wait}
use Rattle.flat_list.specs.declared.socket.Socket.{Socket}
use Rattle.flat_list.specs.Sections.{Section, section_of, labels_of}
use Rattle.flat_list.specs.Sound.{IsGiven}
use Rattle.std.proofs.Math.ListN.{replicate}
use Rattle.std.proofs.lemmas.List.{length-replicate}
use Rattle.std.specs.Prelude.{count_by}
use Rattle.list_words.specs.Lists.{Each, total}
use Rattle.sock_card.specs.declared.owner.Owner.{Owner}
use Rattle.bind_buckets.specs.Journal.{Standing}
use Rattle.chain_book.specs.declared.outcome.Hashed.{Hashed}
use Rattle.chain_book.specs.Homes.{chain_count}
use Rattle.chain_book.specs.Chains.{has_slot}
use Rattle.flat_list.specs.declared.header.Header.{Header}
use Rattle.bind_buckets.specs.BindHash.{untouched}
use Rattle.flat_list.specs.Sockets.{is_open_in}
use Rattle.flat_list.proofs.LabelsGrow.{labels_are}
use Rattle.table_model.specs.Means.{is_used, names_in, stands_in_some, owner_of, weighs_as_wait, NewMeanEmpty, StartsMeant}

-- what is read from one item again and again is that item
get_or-same : {A : Type 0} (n i : ℕ) (a : A) → get_or (replicate n a) i a ≡ a
get_or-same zero i a = refl
get_or-same (suc n) zero a = refl
get_or-same (suc n) (suc i) a = get_or-same n i a

-- items that weigh nothing
total-replicate : {A : Type 0} (f : A → ℕ) (n : ℕ) (a : A) → f a ≡ 0 → total f (replicate n a) ≡ 0
total-replicate f zero a h = refl
total-replicate f (suc n) a h = omega (arith, total-replicate f n a h)

-- a fact of one item again and again
each-replicate : {A : Type 0} (P : A → Type 0) (n : ℕ) (a : A) → P a → Each P (replicate n a)
each-replicate P zero a p = tt
each-replicate P (suc n) a p = (p, each-replicate P n a p)

-- no slot is used
none_used : (n : ℕ) → count_by is_used (replicate n false) ≡ 0
none_used zero = refl
none_used (suc n) = none_used n

-- a place is used where it is, also past the end
read_unused : (n slot : ℕ) → 0 ≡ cond {A = ℕ} (get_or (replicate n false) slot false) 1 0
read_unused n slot = rw (get_or-same n slot false) refl

pub new_mean_empty : NewMeanEmpty
new_mean_empty header =
    let bind = header.shape.bind in
    let chains = chain_count header.shape in
    record {
      owners = record {
        count = length-replicate bind untouched;
        owners = λ f. total-replicate (λ (s : Standing). total f s.held.owners) bind untouched refl;
        keys = λ key. rw (get_or-same (header.shape.bind) (key % length (replicate bind untouched)) untouched) tt;
      };
      chains = record {
        shape = refl;
        seed = refl;
        count = length-replicate chains [];
        cards = λ f. total-replicate (λ row. total (λ (x : Hashed). f x.card) row) chains [] refl;
        homes = λ bucket. rw (get_or-same {A = List Hashed} (chain_count header.shape) bucket []) tt;
        slots = length-replicate header.shape.slots false;
        alone = λ slot. total-replicate (λ row. count_by (λ (x : Hashed). has_slot slot x) row) chains [] refl ∙ read_unused header.shape.slots slot;
        used = none_used header.shape.slots;
        next = omega arith;
      };
      groups = record {
        members = λ number place l k. rw (get_or-same bind number untouched) (ap names_in (get_or-same {A = List ℕ} 8 place []));
        places = each-replicate (λ (s : Standing). length s.held.groups ≡ 8) bind untouched refl;
        stand = each-replicate (λ (s : Standing). Each (λ members. Each (λ m. stands_in_some m (replicate chains []) ≡ true) members) s.held.groups) bind untouched
            (each-replicate {A = List ℕ} (λ members. Each (λ m. stands_in_some m (replicate chains []) ≡ true) members) 8 [] tt);
      };
    }

none_of : (header : Header) (n : ℕ) (xs : List Section) (s : Socket) → (section_of header n xs).labels ≡ [] → IsGiven xs s → (s.owner.name / 2 ^ 56 == n) ≡ false
none_of header n xs s none given =
    false_from_ne_true (s.owner.name / 2 ^ 56 == n)
    (λ e.
    let is : s.owner.name / 2 ^ 56 ≡ n = eqb-true _ _ e in
    let empty : labels_of (s.owner.name / 2 ^ 56) xs ≡ [] = rw is (sym (labels_are header n xs) ∙ none) in
    let last : s.owner.name % 2 ^ 56 ≤ 0 = subst (λ (l : List (List ℕ)). s.owner.name % 2 ^ 56 ≤ length l) empty given.last in
    let first : 1 ≤ s.owner.name % 2 ^ 56 = given.first in
    absurd (omega (arith, last, first)))

no_mine : (n : ℕ) (xs : List Socket) → Each (λ (s : Socket). (s.owner.name / 2 ^ 56 == n) ≡ false) xs → filter (is_open_in n) xs ≡ []
no_mine n [] h = refl
no_mine n (x ∷ xs) h =
    rw (and_right x.named (x.owner.name / 2 ^ 56 == n) h.0) (no_mine n xs h.1)

no_waits : (n : ℕ) (f : Owner → ℕ → ℕ) (xs : List Socket) → Each (λ (s : Socket). (s.owner.name / 2 ^ 56 == n) ≡ false) xs → 0 ≡ total (weighs_as_wait f n) xs
no_waits n f [] h = refl
no_waits n f (x ∷ xs) h =
    rw (and_right (is_time_wait x.owner.state) (x.owner.name / 2 ^ 56 == n) h.0) (omega (arith, no_waits n f xs h.1))

pub starts_meant : StartsMeant
starts_meant n t flat positive shape sound means begins =
    let header = flat.header in
    let labels : (section_of header n flat.sections).labels ≡ [] = ap (λ (s : Section). s.labels) begins in
    let none : Each (λ (s : Socket). (s.owner.name / 2 ^ 56 == n) ≡ false) flat.sockets = each_weaken (IsGiven flat.sections) (λ s. (s.owner.name / 2 ^ 56 == n) ≡ false) flat.sockets
    (λ s given. none_of header n flat.sections s labels given) sound.given in
    record {
      shape = shape;
      sound = sound;
      tables = means;
      own_is = record {
        number = refl;
        unmarked = refl;
        section = sym begins;
        range = refl;
        offset = refl;
        sockets = ap (map owner_of) (sym (no_mine n flat.sockets none));
        stand = tt;
        waits = λ f. no_waits n f flat.sockets none;
        names = tt;
        given = tt;
      };
    }
