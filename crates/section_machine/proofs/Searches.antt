-- The ports of a search, and plans in which none begins.
use Rattle.std.proofs.Common.{◌≡◌, ◌==◌, ◌&&◌, ℕ, ◌+◌, ◌≤◌, Bool, true, false, not, cond, List, [], ◌∷◌, ◌++◌, length, length-append, Option, Some, None, refl, ap, arith}
use Rattle.sock_card.specs.Conflict.{bind_key}
use Rattle.sock_card.specs.declared.owner.Owner.{Owner}
use Rattle.sock_card.specs.declared.owner.State.{State}
use Rattle.sock_card.specs.declared.owner.State.TheVariants as states
use Rattle.chain_book.specs.declared.outcome.Replace.{Replace}
use Rattle.chain_book.specs.declared.shape.Shape.{Shape}
use Rattle.flat_list.specs.declared.command.End.{End}
use Rattle.flat_list.specs.declared.header.Range.{Range}
use Rattle.flat_list.specs.declared.header.First.{First}
use Rattle.flat_list.specs.declared.header.First.TheVariants as firsts
use Rattle.flat_list.specs.Ports.{size, half_from, even, odd, whole_order, unreserved, port_order}
use Rattle.bind_buckets.specs.declared.request.Request.TheVariants as requests
use Rattle.flat_list.specs.Owned.{addressed, bound_at}
use Rattle.flat_list.proofs.PortAt.{half_length}
use Rattle.table_model.specs.declared.operation.OpEnd.TheVariants as errors
use Rattle.table_model.specs.Asking.{Asking, ends, asks}
use Rattle.table_model.specs.Own.{Mine}
use Rattle.table_model.specs.Operations as plans
use Rattle.table_model.specs.Operations.{Did, done, refused, source_to}
use Rattle.table_model.specs.Commands.{is_unbound, is_some, searches_port}

two_halves : (r : Range) (a b : ℕ) → length (half_from r a ++ half_from r b) ≤ size r
two_halves r a b = omega (arith, length-append (half_from r a) (half_from r b), half_length r a, half_length r b)

whole_few : (r : Range) (offset : ℕ) (first : First) → length (whole_order r offset first) ≤ size r
whole_few r offset firsts.Odd = two_halves r (odd offset) (even offset)
whole_few r offset firsts.Even = two_halves r (even offset) (odd offset)

fewer_unreserved : (r : Range) (ports : List ℕ) → length (unreserved r ports) ≤ length ports
fewer_unreserved r [] = omega arith
fewer_unreserved r (port ∷ ports) = grind (arith, fewer_unreserved r ports)

-- there are no more ports than the range has
pub order_few : (r : Range) (offset : ℕ) (first : First) → length (port_order r offset first) ≤ size r
order_few r offset first = omega (arith, fewer_unreserved r (whole_order r offset first), whole_few r offset first)

-- where no search begins, the ports are for nothing
any_same : (a : Owner) (addr : ℕ) (late : Bool) (ports ours : List ℕ) → (not late ≡ true → ports ≡ ours)
    → cond late (ends (done (plans.plain (addressed a addr)))) (plans.search_bind a addr (plans.bound a addr) (ends (refused errors.NoPort)) ports)
    ≡ cond late (ends (done (plans.plain (addressed a addr)))) (plans.search_bind a addr (plans.bound a addr) (ends (refused errors.NoPort)) ours)
any_same a addr true ports ours same = refl
any_same a addr false ports ours same = ap (plans.search_bind a addr (plans.bound a addr) (ends (refused errors.NoPort))) (same refl)

if_any : (a : Owner) (end : End) (any : Bool) (ports ours : List ℕ) (x : Asking Did) → ((any && not a.noport) ≡ true → ports ≡ ours) → cond any (plans.bind_any a end.addr ports) x ≡ cond any (plans.bind_any a end.addr ours) x
if_any a end true ports ours x same = any_same a end.addr a.noport ports ours same
if_any a end false ports ours x same = refl

bind_as_same : (m : Mine) (end : End) (ports ours : List ℕ) (state : State) → ((is_unbound state && (end.port == 0) && not m.owner.noport) ≡ true → ports ≡ ours) → plans.bind_as state m end ports ≡ plans.bind_as state m end ours
bind_as_same m end ports ours states.Unbound same =
    let a = m.owner in
    if_any a end (end.port == 0) ports ours (asks (bind_key end.port a.net) (requests.Bind (bound_at a end.addr end.port)) (plans.bind_answered a end)) same
bind_as_same m end ports ours states.Bound same = refl
bind_as_same m end ports ours states.Listening same = refl
bind_as_same m end ports ours states.Full same = refl
bind_as_same m end ports ours states.TimeWait same = refl
bind_as_same m end ports ours states.Request same = refl

pub bind_same : (m : Mine) (end : End) (ports ours : List ℕ) → (searches_port m.owner end ≡ true → ports ≡ ours) → plans.bind m end ports ≡ plans.bind m end ours
bind_same m end ports ours same = bind_as_same m end ports ours m.owner.state same

module _ (shape : Shape) (seed : ℕ) where
  listen_as_same : (m : Mine) (ports ours : List ℕ) (state : State) → (is_unbound state ≡ true → ports ≡ ours) → plans.listen_as shape seed state m ports ≡ plans.listen_as shape seed state m ours
  listen_as_same m ports ours states.Unbound same = ap (plans.listen_as shape seed states.Unbound m) (same refl)
  listen_as_same m ports ours states.Bound same = refl
  listen_as_same m ports ours states.Listening same = refl
  listen_as_same m ports ours states.Full same = refl
  listen_as_same m ports ours states.TimeWait same = refl
  listen_as_same m ports ours states.Request same = refl

  pub listen_same : (m : Mine) (ports ours : List ℕ) → (is_unbound m.owner.state ≡ true → ports ≡ ours) → plans.listen shape seed m ports ≡ plans.listen shape seed m ours
  listen_same m ports ours same = listen_as_same m ports ours m.owner.state same

  connect_from_same : (a : Owner) (source : Option ℕ) (to : End) (moment : ℕ) (rule : Replace) (ports ours : List ℕ) (state : State) → ((is_unbound state && is_some source) ≡ true → ports ≡ ours)
      → plans.connect_from shape seed state a source to moment rule ports ≡ plans.connect_from shape seed state a source to moment rule ours
  connect_from_same a (Some source) to moment rule ports ours states.Unbound same = ap (plans.connect_from shape seed states.Unbound a (Some source) to moment rule) (same refl)
  connect_from_same a None to moment rule ports ours states.Unbound same = refl
  connect_from_same a (Some source) to moment rule ports ours states.Bound same = refl
  connect_from_same a None to moment rule ports ours states.Bound same = refl
  connect_from_same a source to moment rule ports ours states.Listening same = refl
  connect_from_same a source to moment rule ports ours states.Full same = refl
  connect_from_same a source to moment rule ports ours states.TimeWait same = refl
  connect_from_same a source to moment rule ports ours states.Request same = refl

  pub connect_same : (m : Mine) (from : Option ℕ) (to : End) (moment : ℕ) (rule : Replace) (ports ours : List ℕ) → ((is_unbound m.owner.state && is_some (source_to m.owner from to)) ≡ true → ports ≡ ours)
      → plans.connect shape seed m from to moment rule ports ≡ plans.connect shape seed m from to moment rule ours
  connect_same m from to moment rule ports ours same = connect_from_same m.owner (source_to m.owner from to) to moment rule ports ours m.owner.state same
