-- What `connect` hands back, by what its owner came to.
use Rattle.std.proofs.Common.{◌≡◌, ℕ, List, Option, None, if◌then◌else◌, Result, Ok, Err, sym, ap, ◌∙◌}
use Rattle.bind_buckets.specs.Turned.{View}
use Rattle.chain_book.specs.declared.shape.Shape.{Shape}
use Rattle.chain_book.specs.declared.outcome.Replace.{Replace}
use Rattle.flat_list.specs.declared.command.End.{End}
use Rattle.flat_list.specs.Owned.{source_of, is_no_end}
use Rattle.sock_card.specs.declared.owner.State.{State}
use Rattle.table_model.specs.declared.operation.OpEnd.{OpEnd}
use Rattle.table_model.specs.Own.{Mine}
use Rattle.table_model.specs.Asking.{Asking}
use Rattle.table_model.specs.Operations.{Did, done, refused, connect, connect_from}
use Rattle.sock_ops.specs.Sides.{Side}
use Rattle.sock_ops.specs.declared.sock.Sock.{Sock}
use Rattle.sock_ops.specs.Connecting.{connect_answer}
use Rattle.sock_ops.specs.Goes.{Carried}
use Rattle.sock_ops.specs.Socks.{first_mine, without_socket, source_to}
use Rattle.sock_ops.proofs.Goes.{same_err}

pub connect_answered : (count : ℕ) (p : Asking Did) (v w : View) (c d : Side) (s : Sock) (r : Result Mine OpEnd) → Carried {X = Mine} done refused count p v w c d r → Carried first_mine refused count p v w c d (without_socket (connect_answer s r))
connect_answered count p v w c d s (Ok m) k = k
connect_answered count p v w c d s (Err end) k =
    same_err {X = Mine} {Y = Sock × End} done first_mine refused count p v w c d end k

module _ (shape : Shape) (seed : ℕ) (m : Mine) (from : Option ℕ) (to : End) (moment : ℕ) (rule : Replace) (ports : List ℕ) where
  -- the plan of `connect` of a socket in that state, by its source
  pub plan_by : (state : State) (source : Option ℕ) → m.owner.state ≡ state → source_to m.owner.addr from to ≡ source
      → connect_from shape seed state m.owner source to moment rule ports ≡ connect shape seed m from to moment rule ports
  plan_by state source is from_is =
      sym (ap (λ (st : State). connect_from shape seed st m.owner (if is_no_end to then None else source_of m.owner.addr from) to moment rule ports) is
      ∙ ap (λ (s : Option ℕ). connect_from shape seed state m.owner s to moment rule ports) from_is)
