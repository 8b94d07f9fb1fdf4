use Rattle.std.proofs.Common.{None, ap, sym, refl}
use Rattle.std.specs.Option.{option_map}
use Rattle.listeners.specs.Table.{Listening}
use Rattle.listeners.proofs.Indexed.{indexed_after}
use Rattle.listeners.proofs.Tabled.{targets_change, views_change}
use Rattle.listeners.proofs.Targeted.{targeted_removed}
use Rattle.listeners.proofs.listeners.Listeners.remove.Goals as goal

pub invariant_of-self : goal.invariant_of-self
invariant_of-self c =
    let old = c.self.inside.listeners.entries in
    let new = c.remove.new.self.entries in
    record {
      indexed = indexed_after old new c.self.inside.indexes.places.ids.entries c.take.new.self.places.ids.entries c.args.id None (views_change old new c.args.id None c.remove.ensures.updates.0 None refl) c.self.invariant.indexed c.take.ensures.kept (λ view none. cc);
      targeted = targeted_removed old new c.self.inside.indexes.targets.ids.entries c.take.new.self.targets.ids.entries c.in-Some.listener.target_id c.args.id (targets_change old new c.args.id None c.remove.ensures.updates.0 None refl) c.take.ensures.target
          (ap (option_map (λ (l : Listening). l.target_id)) (sym c.in-Some.ensures.value)) c.self.invariant.targeted;
      filled = c.take.ensures.filled c.self.invariant.filled;
    }
