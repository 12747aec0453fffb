-- Worked examples of a bucket's steps: our own.
--
-- To be read from `KeepsUsersApart` on: it and what stands below it, but for `beside_child`, are rows, which the law
-- `rows` of src/laws.rt states.
use Rattle.std.specs.Prelude.{◌≡◌, ℕ, Bool, true, false, List, [], ◌∷◌, None}
use Rattle.sock_card.specs.declared.owner.Owner.{Owner}
use Rattle.sock_card.specs.declared.owner.State.TheVariants as states
use Rattle.bind_buckets.specs.declared.request.Request.{Request}
use Rattle.bind_buckets.specs.declared.request.Request.TheVariants as requests
use Rattle.bind_buckets.specs.declared.request.Answer.{Answer}
use Rattle.bind_buckets.specs.declared.request.Answer.TheVariants as answers
use Rattle.bind_buckets.specs.OwnerStep.{Held, owner_step, empty}
use Rattle.bind_buckets.specs.Members.{member}

abbrev pub answers_from : ℕ → Held → List Request → List Answer
answers_from number h [] = []
answers_from number h (request ∷ rest) =
    let next = owner_step number h request in next.answer ∷ answers_from number next.held rest

abbrev pub left_from : ℕ → Held → List Request → Held
left_from number h [] = h
left_from number h (request ∷ rest) = left_from number (owner_step number h request).held rest

-- bound to 10.0.0.1:80
abbrev pub bound : ℕ → ℕ → Bool → Bool → Owner
bound name uid reuseaddr reuseport =
    record {
      name = name;
      origin = name;
      addr = 0x0A000001;
      port = 80;
      remote = 0;
      rport = 0;
      dev = 0;
      net = 0;
      uid = uid;
      mark = 0;
      reuseaddr = reuseaddr;
      reuseport = reuseport;
      noport = false;
      state = states.Bound;
      by_connect = false;
    }

abbrev pub takes : ℕ → ℕ → Bool → Bool → Request
takes name uid reuseaddr reuseport = requests.Bind (bound name uid reuseaddr reuseport)

-- two users want to share a port
abbrev pub KeepsUsersApart : Type 0
KeepsUsersApart =
    answers_from 0 empty (takes 1 1 false true ∷ takes 2 2 false true ∷ takes 3 1 false true ∷ [])
    ≡ answers.Done ∷ answers.InUse 1 ∷ answers.Done ∷ []

-- a listener accepts a socket, and leaves; then another socket wants its address
abbrev pub beside_child : Bool → List Request
beside_child reuseaddr =
    takes 1 1 reuseaddr false
    ∷ requests.MayListen 1
    ∷ requests.Listen 1 7
    ∷ requests.Inherit 1 2 0 0x0A000001 0x0A000002 1000
    ∷ requests.Remove 1
    ∷ takes 3 1 reuseaddr false
    ∷ requests.MayListen 3
    ∷ []

abbrev pub KeepsChildsPort : Type 0
KeepsChildsPort =
    answers_from 0 empty (beside_child false)
    ≡ answers.Done ∷ answers.Group None ∷ answers.Done ∷ answers.Done ∷ answers.Done ∷ answers.InUse 2
    ∷ answers.Strange 3 ∷ []

abbrev pub SharesChildsAddress : Type 0
SharesChildsAddress =
    answers_from 0 empty (beside_child true)
    ≡ answers.Done ∷ answers.Group None ∷ answers.Done ∷ answers.Done ∷ answers.Done ∷ answers.Done
    ∷ answers.Group None ∷ []

-- two listeners that share an address by `reuseaddr` alone
abbrev pub OneListens : Type 0
OneListens =
    answers_from 0 empty
    (takes 1 1 true false ∷ takes 2 1 true false ∷ requests.Listen 1 7 ∷ requests.MayListen 2 ∷ takes 3 1 true false
    ∷ [])
    ≡ answers.Done ∷ answers.Done ∷ answers.Done ∷ answers.InUse 1 ∷ answers.InUse 1 ∷ []

-- a search for a port honours no option, and `connect` shares no port that `bind` took
abbrev pub SearchIsStrict : Type 0
SearchIsStrict =
    answers_from 0 empty
    (takes 1 1 true false ∷ requests.BindAuto (bound 2 1 true false) ∷ requests.Free 80 0 ∷ requests.Free 81 0 ∷ [])
    ≡ answers.Done ∷ answers.InUse 1 ∷ answers.NotFree 1 ∷ answers.Done ∷ []

-- a full socket closes: while it waits it keeps its port from a newcomer, and then the port is free
abbrev pub WaitingKeepsPort : Type 0
WaitingKeepsPort =
    answers_from 0 empty
    (takes 1 1 false false ∷ requests.ConnectBound 1 0x0A000001 0x0A000002 1000 ∷ requests.RemoveWaiting 1
    ∷ requests.ToTimeWait 1 ∷ takes 2 1 false false ∷ requests.RemoveWaiting 1 ∷ takes 2 1 false false ∷ [])
    ≡ answers.Done ∷ answers.Done ∷ answers.Strange 1
    ∷ answers.Done ∷ answers.InUse 1 ∷ answers.Done ∷ answers.Done ∷ []

-- another user's socket takes a port beside one in TIME_WAIT, where both have `reuseport`
abbrev pub SharesWithWaiting : Type 0
SharesWithWaiting =
    answers_from 0 empty
    (takes 1 1 false true ∷ requests.ConnectBound 1 0x0A000001 0x0A000002 1000 ∷ takes 2 2 false true
    ∷ requests.ToTimeWait 1 ∷ takes 2 2 false true ∷ [])
    ≡ answers.Done ∷ answers.Done ∷ answers.InUse 1 ∷ answers.Done ∷ answers.Done ∷ []

-- the first of three members leaves, and the last takes its place
abbrev pub LastTakesPlace : Type 0
LastTakesPlace =
    (left_from 0 empty
    (takes 1 1 false true ∷ requests.Listen 1 7 ∷ takes 2 1 false true ∷ requests.Listen 2 8
    ∷ takes 3 1 false true ∷ requests.Listen 3 9 ∷ requests.Remove 1 ∷ [])).groups
    ≡ (member 9 3 ∷ member 8 2 ∷ []) ∷ [] ∷ [] ∷ [] ∷ [] ∷ [] ∷ [] ∷ [] ∷ []
