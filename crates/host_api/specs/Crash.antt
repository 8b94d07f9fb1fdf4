-- When a host in memory crashes.
use Rattle.std.specs.Prelude.{ℕ, min}
use Rattle.host_api.specs.Memory.{Memory}
use Rattle.host_api.specs.declared.memory_host.CrashPick.{CrashPick}

-- how many calls came before the crash
abbrev pub taken_calls : CrashPick → Memory → ℕ
taken_calls pick memory = min pick.calls memory.past.calls
