-- Owners that weigh the same, whatever numbers are given to owners, are one.
use Rattle.std.proofs.Common.{◌≡◌, ℕ, ◌==◌, Bool, true, false, cond, refl, ap, sym, ◌∙◌, arith}
use Rattle.sock_card.specs.declared.owner.Owner.{Owner}
use Rattle.sock_card.specs.declared.owner.State.{State}
use Rattle.sock_card.specs.declared.owner.State.TheVariants as states

bit_same : (a b : Bool) → cond {A = ℕ} a 1 0 ≡ cond {A = ℕ} b 1 0 → a ≡ b
bit_same true true h = refl
bit_same false false h = refl
bit_same true false h = absurd (omega (arith, h))
bit_same false true h = absurd (omega (arith, h))

number_of : State → ℕ
number_of states.Unbound = 0
number_of states.Bound = 1
number_of states.Listening = 2
number_of states.Full = 3
number_of states.TimeWait = 4
number_of states.Request = 5

state_at : ℕ → State
state_at n = cond (n == 0) states.Unbound (cond (n == 1) states.Bound (cond (n == 2) states.Listening (cond (n == 3) states.Full (cond (n == 4) states.TimeWait states.Request))))

numbered : (s : State) → state_at (number_of s) ≡ s
unfolding number_of state_at
numbered states.Unbound = refl
numbered states.Bound = refl
numbered states.Listening = refl
numbered states.Full = refl
numbered states.TimeWait = refl
numbered states.Request = refl

-- owners that nothing distinguishes are the same
pub same_owner : (a b : Owner) → ((f : Owner → ℕ) → f a ≡ f b) → a ≡ b
same_owner a b h =
    let name : a.name ≡ b.name = h (λ (o : Owner). o.name) in
    let origin : a.origin ≡ b.origin = h (λ (o : Owner). o.origin) in
    let addr : a.addr ≡ b.addr = h (λ (o : Owner). o.addr) in
    let port : a.port ≡ b.port = h (λ (o : Owner). o.port) in
    let remote : a.remote ≡ b.remote = h (λ (o : Owner). o.remote) in
    let rport : a.rport ≡ b.rport = h (λ (o : Owner). o.rport) in
    let dev : a.dev ≡ b.dev = h (λ (o : Owner). o.dev) in
    let net : a.net ≡ b.net = h (λ (o : Owner). o.net) in
    let mark : a.mark ≡ b.mark = h (λ (o : Owner). o.mark) in
    let uid : a.uid ≡ b.uid = h (λ (o : Owner). o.uid) in
    let reuseaddr : a.reuseaddr ≡ b.reuseaddr = bit_same a.reuseaddr b.reuseaddr (h (λ (o : Owner). cond o.reuseaddr 1 0)) in
    let reuseport : a.reuseport ≡ b.reuseport = bit_same a.reuseport b.reuseport (h (λ (o : Owner). cond o.reuseport 1 0)) in
    let noport : a.noport ≡ b.noport = bit_same a.noport b.noport (h (λ (o : Owner). cond o.noport 1 0)) in
    let state : a.state ≡ b.state = sym (numbered a.state) ∙ (ap state_at (h (λ (o : Owner). number_of o.state)) ∙ numbered b.state) in
    let by_connect : a.by_connect ≡ b.by_connect = bit_same a.by_connect b.by_connect (h (λ (o : Owner). cond o.by_connect 1 0)) in
    λ i. record {
      name = name i;
      origin = origin i;
      addr = addr i;
      port = port i;
      remote = remote i;
      rport = rport i;
      dev = dev i;
      net = net i;
      uid = uid i;
      mark = mark i;
      reuseaddr = reuseaddr i;
      reuseport = reuseport i;
      noport = noport i;
      state = state i;
      by_connect = by_connect i;
    }
