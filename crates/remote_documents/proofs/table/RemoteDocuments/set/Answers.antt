use Rattle.key_table.proofs.Tables.{keys_stay}
use Rattle.remote_documents.specs.declared.slot.Slot.TheVariants.{Held}
use Rattle.remote_documents.proofs.table.RemoteDocuments.set.Goals as goal

pub returns-clause-places : goal.returns-clause-places
returns-clause-places c = λ q. rw (← c.self.view_is) (keys_stay c.self.inside.slots c.set.new.self c.args.key.now (Held c.args.entry c.args.seal) c.set.ensures q)
