use Rattle.std.proofs.Common.{◌∙◌, sym, ap}
use Rattle.durable_state.specs.Documents.{sealed_entry_of}
use Rattle.durable_state.specs.Tables.{Tables, state_in}
use Rattle.durable_state.proofs.durable_state.DurableState.entry.Goals as goal

pub returns : goal.returns
returns c = c.entry.ensures ∙ sym (c.self.invariant.map c.args.key.now) ∙ ap (λ (t : Tables). sealed_entry_of (state_in t) c.args.key.now) c.self.view_is
