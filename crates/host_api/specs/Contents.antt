-- The bytes of both files, as they are kept.
use Rattle.std.specs.Prelude.{◌≡◌}
use Rattle.host_api.specs.Host.{Files}
use Rattle.host_api.specs.declared.host.FileId.TheVariants.{Zero, One}
use Rattle.host_api.specs.declared.contents.Contents.{Contents}

abbrev pub held : Contents → Files
held contents Zero = contents.zero.items
held contents One = contents.one.items

pub record SameContents (old new : Contents) : Type 0 where
  pub zero : new.zero.items ≡ old.zero.items
  pub one : new.one.items ≡ old.one.items
