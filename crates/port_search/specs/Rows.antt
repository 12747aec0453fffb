-- Worked examples of searches in one bucket: our own.
use Rattle.std.specs.Prelude.{◌≡◌, ℕ, true, false, List, [], ◌∷◌, map, Some, None}
use Rattle.sock_card.specs.declared.owner.Owner.{Owner}
use Rattle.sock_card.specs.declared.owner.State.TheVariants as states
use Rattle.bind_buckets.specs.declared.request.Entry.{Entry}
use Rattle.bind_buckets.specs.declared.request.Answer.{Answer}
use Rattle.bind_buckets.specs.declared.request.Answer.TheVariants as answers
use Rattle.bind_buckets.specs.Journal.{Standing}
use Rattle.port_search.specs.Search.{Found, searched}
use Rattle.bind_buckets.specs.BindHash.{untouched}

-- a socket that is to have any address, in that namespace
abbrev pub owner : ℕ → ℕ → Owner
owner net name =
    record {
      name = name;
      origin = name;
      addr = 0;
      port = 0;
      remote = 0;
      rport = 0;
      dev = 0;
      net = net;
      uid = 0;
      mark = 0;
      reuseaddr = true;
      reuseport = true;
      noport = false;
      state = states.Bound;
      by_connect = false;
    }

-- what the one bucket answered
abbrev pub answers_in : List Standing → List (List Answer)
answers_in hash = map (λ (s : Standing). map (λ (e : Entry). e.answer) s.entries) hash

abbrev pub two_ports : List ℕ
two_ports = 40001 ∷ 40003 ∷ []

abbrev pub once : Found
once = searched (untouched ∷ []) (owner 0 1) two_ports

abbrev pub twice : Found
twice = searched once.hash (owner 0 2) two_ports

abbrev pub thrice : Found
thrice = searched twice.hash (owner 0 3) two_ports

abbrev pub elsewhere : Found
elsewhere = searched thrice.hash (owner 1 4) two_ports

-- three sockets are bound to any of two ports: the third finds none, but one of another namespace does
pub record BindsInTurn : Type 0 where
  pub first : once.port ≡ Some 40001
  pub second : twice.port ≡ Some 40003
  pub third : thrice.port ≡ None
  pub fourth : elsewhere.port ≡ Some 40001
  pub answers :
      answers_in thrice.hash
      ≡ (answers.Done ∷ answers.InUse 1 ∷ answers.Done ∷ answers.InUse 1 ∷ answers.InUse 2 ∷ []) ∷ []
