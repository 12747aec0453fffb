use Rattle.std.proofs.Common.{◌≡◌, ◌+◌, ◌++◌, take, vec_len, vec_capacity}
use Rattle.table_rule.proofs.changes.append_reserved.Given as goal

abbrev pub invariant-loop-change : goal.invariant-loop-change
invariant-loop-change l = record {
  items : l.all.items ≡ l.initial.all.items ++ take l.change-index l.more;
  len : vec_len l.all ≡ vec_len l.initial.all + l.change-index;
  room : vec_capacity l.all ≡ vec_capacity l.initial.all;
}
