-- Where an open journal stands.
use Rattle.std.specs.Prelude.{ℕ, List}
use Rattle.host_api.specs.declared.host.FileId.{FileId}
use Rattle.host_api.specs.Host.{View, IsOnDisk, other}
use Rattle.disk_journal.specs.File.{IsFile, IsBelow}

-- the counting file, its generation, and the byte at which its first closed gate stands
pub record Place : Type 0 where
  pub file : FileId
  pub generation : ℕ
  pub end : ℕ

-- The counting file has these payloads, the other one is blank or outranked by it, and both are on the disk.
pub record IsOpen (place : Place) (payloads : List (List ℕ)) (v : View) : Type 0 where
  pub counts : IsFile place.generation payloads place.end (v.bytes place.file)
  pub below : IsBelow place.file place.generation (v.bytes (other place.file))
  pub on_disk : (file : FileId) → IsOnDisk file v
