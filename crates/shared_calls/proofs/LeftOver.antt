-- What is left, and what a call takes.
use Rattle.std.proofs.Common.{◌≡◌, ℕ, ◌+◌, ◌-◌, ◌*◌, ◌<◌, ◌≤◌, ◌^◌, length, arith}
use Rattle.turn_table.specs.Passes as words
use Rattle.table_rule.specs.Passes.{drawn_by}
use Rattle.flat_list.specs.declared.command.Command.{Command}
use Rattle.shared_calls.specs.Asked.{HasLeft, LeftTells}
use Rattle.shared_calls.specs.Callings.{Calling, MayCall, kept_back}

pub left_tells : LeftTells
left_tells c command is = (
  λ may. let entries = may.entries in let stamps = may.stamps in record {
    entries = omega (arith, entries, is);
    stamps = omega (arith, stamps, is);
    number = λ gives. let number = may.number gives in omega (arith, number);
  },
  λ left. let entries = left.entries in let stamps = left.stamps in record {
    entries = omega (arith, entries, is);
    stamps = omega (arith, stamps, is);
    number = λ gives. let number = left.number gives in omega (arith, number);
  },
)
