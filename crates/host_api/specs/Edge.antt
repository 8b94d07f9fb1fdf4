-- The host and the source over the system, of which only the counts are seen.
use Rattle.std.specs.Prelude.{ℕ, []}
use Rattle.host_api.specs.Host.{View}
use Rattle.host_api.specs.declared.file_host.FileHost.{FileHost}
use Rattle.host_api.specs.declared.stream_source.StdSource.{StdSource}

abbrev pub stream_faults : {B : Type 0} → StdSource B → ℕ
stream_faults source = source.faults

-- a host that tells nothing
abbrev pub untold : {R File Dir : Type 0} → FileHost R File Dir → View
untold host = record { out = []; bytes = λ _. []; may_leave = λ _. ⊥; moment = 0; left_since = λ _ _ _. ⊥; sink_faults = host.sink_faults; disk_faults = host.disk_faults }
