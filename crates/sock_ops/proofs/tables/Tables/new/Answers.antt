use Rattle.std.proofs.Common.{arith}
use Rattle.sock_ops.proofs.tables.Tables.new.Goals as goal

pub returns : goal.returns
returns c =
    let b = c.in_ok-buckets.ensures in
    let t = c.in_ok-chains.ensures in
    let l = c.in_ok-groups.ensures in
    record {
      layout = t.layout;
      buckets = b.places;
      home = b.home;
      keeps_changes = t.keeps;
      turns = b.pass;
      idle = b.alone;
      rests = t.rests;
      chain = t.first;
      next = t.next;
      groups = record { many = omega (arith, l.groups, b.places); passes = l.passes.0 };
      published = l.passes.1;
    }
