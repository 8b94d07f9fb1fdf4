use Rattle.std.proofs.Common.{◌≡◌, ◌∙◌, ap, sym, w32}
use Rattle.std.specs.Option.{is_some}
use Rattle.std.proofs.lemmas.Int.{to_z-of_z}
use Rattle.listeners.proofs.Targeted.{at, is_found, there_wanted, wanted_there}
use Rattle.listeners.proofs.listeners.Listeners.is_wanted.Goals as goal

pub returns : goal.returns
returns c =
    let index = c.self.inside.indexes.targets.ids.entries in
    let found : c.is_some.result ≡ is_some (at index c.args.target) = c.is_some.ensures ∙ is_found (λ ids. ids.now) c.at.result (at index c.args.target) (c.at.ensures ∙ ap (at index) (to_z-of_z w32 c.args.target c.ranges.target)) in
    rw (← c.self.view_is) (
      λ yes. wanted_there c.self.inside.listeners.entries index c.args.target c.self.invariant.targeted c.self.invariant.filled (sym found ∙ yes),
      λ wanted. found ∙ there_wanted c.self.inside.listeners.entries index c.args.target c.self.invariant.targeted wanted,
    )
