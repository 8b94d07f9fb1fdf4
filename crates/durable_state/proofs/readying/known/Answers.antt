use Rattle.std.proofs.Common.{◌∙◌, option_map, sym, ap}
use Rattle.value_model.specs.declared.document.Entry.{Entry}
use Rattle.value_model.specs.declared.document.Seal.{Seal}
use Rattle.durable_state.proofs.readying.known.Goals as goal

pub returns-in-Some : goal.returns-in-Some
returns-in-Some c = ap (option_map (λ (p : Entry × Seal). p.0)) (c.in-Some.ensures ∙ sym (c.requires c.args.key.now))

pub returns-in-None : goal.returns-in-None
returns-in-None c = ap (option_map (λ (p : Entry × Seal). p.0)) (c.in-None.ensures ∙ sym (c.requires c.args.key.now))
