-- A search through ports, carried out on tables that mean a list, finds the port that the list's search finds.
use Rattle.std.proofs.Common.{◌≡◌, ℕ, ◌≤◌, Bool, true, false, not, cond, List, [], ◌∷◌, find, Option, None, Some, ◌⊎◌, inl, inr, refl, ap, sym, ◌∙◌, subst}
use Rattle.sock_card.specs.Conflict.{bind_key}
use Rattle.list_words.specs.Lists.{Pairs}
use Rattle.bind_buckets.specs.declared.request.Request.{Request}
use Rattle.bind_buckets.specs.declared.request.Request.TheVariants as requests
use Rattle.bind_buckets.specs.declared.request.Answer.{Answer}
use Rattle.bind_buckets.specs.Journal.{Standing}
use Rattle.flat_list.specs.declared.socket.Socket.{Socket}
use Rattle.flat_list.specs.Flat.{Flat}
use Rattle.flat_list.specs.Owned.{bound_at}
use Rattle.flat_list.specs.Sockets.{is_owner, put, is_overlapped}
use Rattle.flat_list.specs.Sound.{NamesDiffer}
use Rattle.flat_list.specs.Step.{at_port, suits_bind}
use Rattle.table_model.specs.Asking.{Asking}
use Rattle.table_model.specs.Tables.{Tables, Ended, with_buckets, run}
use Rattle.bind_buckets.specs.BindHash.{asked_at, answer_at}
use Rattle.table_model.specs.Operations.{search_bind, found_next}
use Rattle.table_model.specs.Means.{OwnersMean}
use Rattle.table_model.proofs.lists.Listed.{Listed}
use Rattle.table_model.proofs.questions.Asked.{with_sockets}
use Rattle.table_model.proofs.questions.Requests.{Left, IsDone, IsInUse, bind_auto_asked}

-- the buckets after a search that went on so: they mean that list, and what was to come next came to that
pub record GoesOn (R : Type 0) (t : Tables) (flat : Flat) (next : Asking R) (result : Option (Ended R)) : Type 0 where
  pub buckets : List Standing
  pub left : Left t.buckets buckets flat
  pub runs : run (with_buckets t buckets) next ≡ result

-- what was found in a bucket changed twice
pub left_twice : (a b c : List Standing) (flat flat' : Flat) → Left a b flat → Left b c flat' → Left a c flat'
left_twice a b c flat flat' h k = record { owners = k.owners; groups = k.groups ∙ h.groups }

-- buckets as they are
pub left_same : (a : List Standing) (flat : Flat) → OwnersMean a flat → Left a a flat
left_same a flat h = record { owners = h; groups = refl }

module _ (R : Type 0) (flat : Flat) (some : 1 ≤ flat.header.shape.bind) (names : Pairs NamesDiffer flat.sockets)
    (s : Socket) (at : Listed s.owner.name flat.sockets s) (unbound : is_owner s.owner.state ≡ false)
    (addr : ℕ) (found : ℕ → Asking R) (none : Asking R) (result : Option (Ended R)) where
  -- the list once the socket has that port
  abbrev pub with_port : ℕ → Flat
  with_port port = with_sockets flat (put (at_port s addr port) flat.sockets)

  -- what a search comes to that found that port, or none
  abbrev pub Searched : Tables → Option ℕ → Type 0
  Searched t None = GoesOn R t flat none result
  Searched t (Some port) = GoesOn R t (with_port port) (found port) result

  again : (t : Tables) (buckets : List Standing) (o : Option ℕ) → Left t.buckets buckets flat → Searched (with_buckets t buckets) o → Searched t o
  again t buckets None l g = record { buckets = g.buckets; left = left_twice t.buckets buckets g.buckets flat flat l g.left; runs = g.runs }
  again t buckets (Some port) l g = record { buckets = g.buckets; left = left_twice t.buckets buckets g.buckets flat (with_port port) l g.left; runs = g.runs }

  module _ (t : Tables) (om : OwnersMean t.buckets flat) (port : ℕ) (ports : List ℕ) where
    abbrev request : Request
    request = requests.BindAuto (bound_at s.owner addr port)

    abbrev asked : List Standing
    asked = asked_at t.buckets (bind_key port s.owner.net) request

    abbrev rest : Asking R
    rest = search_bind s.owner addr found none ports

    abbrev suits : ℕ → Bool
    suits = suits_bind flat s addr

    tried : ((is_overlapped (at_port s addr port).owner flat.sockets ≡ false) × IsDone t.buckets (bind_key port s.owner.net) request (with_port port)) ⊎ ((is_overlapped (at_port s addr port).owner flat.sockets ≡ true) × IsInUse t.buckets (bind_key port s.owner.net) request flat)
        → (OwnersMean asked flat → run (with_buckets t asked) rest ≡ result → Searched (with_buckets t asked) (find suits ports))
        → run (with_buckets t asked) (found_next (found port) rest (answer_at t.buckets (bind_key port s.owner.net) request)) ≡ result
        → Searched t (find suits (port ∷ ports))
    tried (inl h) later runs =
        let suited : suits port ≡ true = ap not h.0 in
        subst (Searched t) (sym (ap (λ (b : Bool). cond b (Some port) (find suits ports)) suited)) record {
          buckets = asked;
          left = h.1.left;
          runs = subst (λ (x : Answer). run (with_buckets t asked) (found_next (found port) rest x) ≡ result) h.1.answer runs;
        }
    tried (inr h) later runs =
        let suited : suits port ≡ false = ap not h.0 in
        subst (Searched t) (sym (ap (λ (b : Bool). cond b (Some port) (find suits ports)) suited))
        (again t asked (find suits ports) h.1.left
        (later h.1.left.owners (subst (λ (x : Answer). run (with_buckets t asked) (found_next (found port) rest x) ≡ result) h.1.answer runs)))

  -- a search on tables finds what the list's search finds
  pub searched : (ports : List ℕ) (t : Tables) → OwnersMean t.buckets flat → run t (search_bind s.owner addr found none ports) ≡ result → Searched t (find (suits_bind flat s addr) ports)
  searched [] t om runs = record { buckets = t.buckets; left = left_same t.buckets flat om; runs = runs }
  searched (port ∷ ports) t om runs =
      tried t om port ports (bind_auto_asked t.buckets flat om some names (at_port s addr port) s at unbound refl)
      (λ om' later. searched ports (with_buckets t (asked_at t.buckets (bind_key port s.owner.net) (requests.BindAuto (bound_at s.owner addr port)))) om' later) runs
