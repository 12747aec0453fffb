-- Where owners can be found that want what one wants.
use Rattle.std.proofs.Common.{◌≡◌, ℕ, true, ◌&&◌, ◌||◌, sym, ⊎_elim}
use Rattle.std.specs.Prelude.{◌==◌, not}
use Rattle.std.proofs.lemmas.Bool.{eqb-true, eq-eqb, and_parts, or_cases, or_left, or_right}
use Rattle.sock_card.specs.declared.owner.Owner.{Owner}
use Rattle.sock_card.specs.Conflict.{same_port, meet, overlap, refuses, both_reuse_addr, both_reuse_port, is_listening, is_time_wait}

met : (a b : ℕ) → ((a == 0) ≡ true → ⊥) → meet a b ≡ true → ((b == a) || (b == 0)) ≡ true
met a b other m =
    ⊎_elim
    (λ first.
    ⊎_elim (λ same. or_left (b == a) (b == 0) (eq-eqb _ _ (sym (eqb-true a b same)))) (λ zero. absurd (other zero))
    (or_cases (a == b) (a == 0) first))
    (λ any. or_right (b == a) (b == 0) any)
    (or_cases ((a == b) || (a == 0)) (b == 0) m)

pub port_wanted : (a b : Owner) → overlap a b ≡ true → (b.port == a.port) ≡ true
unfolding overlap
port_wanted a b o =
    let both = and_parts (same_port a b && meet a.dev b.dev) (meet a.addr b.addr) o in
    let port = and_parts (a.net == b.net) (a.port == b.port) (and_parts (same_port a b) (meet a.dev b.dev) both.0).0 in
    eq-eqb _ _ (sym (eqb-true _ _ port.1))

pub end_wanted : (a b : Owner) → ((a.addr == 0) ≡ true → ⊥) → overlap a b ≡ true → ((b.port == a.port) && ((b.addr == a.addr) || (b.addr == 0))) ≡ true
unfolding overlap
end_wanted a b other o =
    let both = and_parts (same_port a b && meet a.dev b.dev) (meet a.addr b.addr) o in
    let port : (b.port == a.port) ≡ true = port_wanted a b o in
    rw port (met a.addr b.addr other both.1)

pub overlaps_if_refused : (a b : Owner) → refuses a b ≡ true → overlap a b ≡ true
unfolding refuses
overlaps_if_refused a b r =
    let address = not (both_reuse_addr a b && not (is_listening b.state)) in
    let user = not (both_reuse_port a b && ((a.uid == b.uid) || is_time_wait b.state)) in
    (and_parts (overlap a b) address (and_parts (overlap a b && address) user r).0).0
