use Rattle.key_table.proofs.Tables.{keys_stay}
use Rattle.overlays.specs.declared.slot.Slot.TheVariants.{Laid}
use Rattle.overlays.proofs.overlays.Overlays.set.Goals as goal

pub returns-clause-places : goal.returns-clause-places
returns-clause-places c = λ q. rw (← c.self.view_is) (keys_stay c.self.inside.slots c.set.new.self c.args.overlay.key (Laid c.args.overlay.document) c.set.ensures q)
