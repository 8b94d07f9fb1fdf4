-- A file that is run through its calls again, as it is kept.
use Rattle.host_api.specs.Disk.{Disk}
use Rattle.host_api.specs.declared.replay.Replay.{Replay}

abbrev pub disk_of : Replay → Disk
disk_of replay = record { bytes = replay.bytes.items; least = replay.least; greatest = replay.greatest; loose = replay.loose.items }
