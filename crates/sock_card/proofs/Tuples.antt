-- What one four-tuple says, said of its parts.
use Rattle.std.proofs.Common.{◌≡◌, true, ◌&&◌, ◌==◌}
use Rattle.std.proofs.lemmas.Bool.{and_parts, eqb-true}
use Rattle.sock_card.specs.declared.card.Tuple.{Tuple}
use Rattle.sock_card.specs.Tuples.{same_tuple}

-- the parts of two four-tuples are the same
pub record PartsAgree (a b : Tuple) : Type 0 where
  pub net : a.net ≡ b.net
  pub local : a.local ≡ b.local
  pub lport : a.lport ≡ b.lport
  pub remote : a.remote ≡ b.remote
  pub rport : a.rport ≡ b.rport

pub parts_agree : (a b : Tuple) → same_tuple a b ≡ true → PartsAgree a b
parts_agree a b h =
    let four = and_parts ((a.net == b.net) && (a.local == b.local) && (a.lport == b.lport) && (a.remote == b.remote)) (a.rport == b.rport) h in
    let three = and_parts ((a.net == b.net) && (a.local == b.local) && (a.lport == b.lport)) (a.remote == b.remote) four.0 in
    let two = and_parts ((a.net == b.net) && (a.local == b.local)) (a.lport == b.lport) three.0 in
    let one = and_parts (a.net == b.net) (a.local == b.local) two.0 in
    record {
      net = eqb-true a.net b.net one.0;
      local = eqb-true a.local b.local one.1;
      lport = eqb-true a.lport b.lport two.1;
      remote = eqb-true a.remote b.remote three.1;
      rport = eqb-true a.rport b.rport four.1;
    }
