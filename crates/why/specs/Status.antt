-- The exit status of each status: that of `inet` where it ends so. Our own rule.
use Rattle.std.specs.Prelude.{ℕ}
use Rattle.why.specs.declared.status.Status.{Status}
use Rattle.why.specs.declared.status.Status.TheVariants.{Done, Usage, BadScript, BadCapture, TooLong, ReadFault, WriteFault, Memory, BadRecord, Refuted}

abbrev pub exit_code : Status → ℕ
exit_code Done = 0
exit_code Usage = 2
exit_code (BadScript n) = 3
exit_code BadCapture = 4
exit_code TooLong = 5
exit_code ReadFault = 6
exit_code WriteFault = 7
exit_code Memory = 8
exit_code (BadRecord n) = 9
exit_code (Refuted n) = 10
