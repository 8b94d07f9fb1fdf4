use Rattle.std.proofs.Common.{subst}
use Rattle.remote_documents.specs.Table.{IsMapOf}
use Rattle.remote_documents.proofs.Maps.{is_map_of}
use Rattle.remote_documents.proofs.table.RemoteDocuments.is_map.Goals as goal

pub returns : goal.returns
returns c = subst IsMapOf c.self.view_is (is_map_of c.self.inside.slots c.has_each_key_once.ensures)
