use Rattle.durable_state.proofs.fitting.has_row.Goals as goal

pub returns-in-None : goal.returns-in-None
returns-in-None c = (λ yes. cc, λ has. absurd (c.in-None.ensures has.0 has.1))
