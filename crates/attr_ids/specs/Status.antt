use Rattle.std.specs.Prelude.{ℕ}
use Rattle.attr_ids.specs.declared.status.Status.{Status}
use Rattle.attr_ids.specs.declared.status.Status.TheVariants as status

-- the exit status of the process
abbrev pub exit_code : Status → ℕ
exit_code status.Done = 0
exit_code status.Refused = 1
exit_code status.Usage = 2
exit_code status.ReadFault = 3
exit_code status.WriteFault = 4
exit_code status.NoMemory = 5
