use Rattle.std.proofs.Common.{ℤ, rules, ap, ◌∙◌}
use Rattle.std.proofs.lemmas.Fn.{filter_same}
use Rattle.sync_engine.specs.Standing.{standing_in}
use Rattle.sync_engine.proofs.Standings.{is_other, standing_kept}
use Rattle.sync_engine.proofs.current.CurrentTargets.remove.Goals as goal

pub returns : goal.returns
returns c = λ (t : ℤ). ap (λ targets. standing_in targets t) (filter_same _ (is_other c.args.target.now) _ (λ x b f' called. search rules) c.args.self.now.targets.items c.retain.new.self.items c.retain.ensures.filtered)
    ∙ standing_kept c.args.target.now c.args.self.now.targets.items t
