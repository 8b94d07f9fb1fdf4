use Rattle.std.proofs.Common.{◌∙◌, inl, inr, ap}
use Rattle.listeners.specs.Places.{is_among}
use Rattle.std.proofs.lemmas.Result.{on_ok_weaker}
use Rattle.listeners.proofs.Indexed.{found}
use Rattle.listeners.proofs.listeners.Listeners.concerned.Goals as goal

pub returns-clause-each : goal.returns-clause-each
returns-clause-each c =
    rw (← c.self.view_is)
    (on_ok_weaker c.add_concerned-2.result (λ each q it.
    elim (found c.self.inside.listeners.entries c.self.inside.indexes.places.ids.entries c.args.key.now c.in_ok-parent.field-0 c.in_ok-least.least q c.self.invariant.indexed c.in_ok-parent.ensures c.in_ok-least.ensures it) [
      | inl at_key ↦ c.add_concerned-2.ensures.kept q (c.in_ok-add_concerned.ensures.each q (ap (λ i. is_among i q) c.at.ensures ∙ at_key) it)
      | inr at_least ↦ each q (ap (λ i. is_among i q) c.at-2.ensures ∙ at_least) it
    ]) c.add_concerned-2.ensures.each)
