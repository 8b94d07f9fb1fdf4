use Rattle.remote_documents.proofs.table.RemoteDocuments.make_room.Goals as goal

pub returns : goal.returns
returns c = rw (← c.self.view_is) c.make_room.ensures
