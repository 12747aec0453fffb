-- Which status an input gets. Our own rule.
use Rattle.std.specs.Prelude.{ℕ, ◌≤◌, ◌<◌, List, length}
use Rattle.sock_script.specs.declared.parse.Mode.{Mode}
use Rattle.inet_tool.specs.declared.fault.Fault.{Fault}
use Rattle.inet_tool.specs.declared.fault.Fault.TheVariants as faults
use Rattle.inet_tool.specs.declared.status.Status.{Status}
use Rattle.inet_tool.specs.declared.status.Status.TheVariants.{Done, Usage, BadScript, BadCapture, TooLong, ReadFault, WriteFault, Memory, BadRecord, Refuted}
use Rattle.inet_tool.specs.Table.{limit, HasFault, IsGood}

-- the status of a fault
abbrev pub fault_status : Fault → Status
fault_status (faults.Line n) = BadScript n
fault_status faults.Capture = BadCapture

-- These bytes, read so, can get the status. A failed read and want of memory may come whatever they are; a failed
-- write comes once they were read, so within the limit.
abbrev pub Answers : Mode → List ℕ → Status → Type 0
Answers mode bytes Done = (length bytes ≤ limit) × IsGood mode bytes
Answers mode bytes Usage = ⊥
Answers mode bytes (BadScript n) = (length bytes ≤ limit) × HasFault mode bytes (faults.Line n)
Answers mode bytes BadCapture = (length bytes ≤ limit) × HasFault mode bytes faults.Capture
Answers mode bytes TooLong = limit < length bytes
Answers mode bytes ReadFault = Unit {0}
Answers mode bytes WriteFault = length bytes ≤ limit
Answers mode bytes Memory = Unit {0}
Answers mode bytes (BadRecord n) = ⊥
Answers mode bytes (Refuted n) = ⊥
