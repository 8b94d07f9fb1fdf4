use Rattle.std.proofs.Common.{◌∙◌}
use Rattle.outcome_codec.proofs.OutcomeForms.{token_read}
use Rattle.outcome_codec.proofs.rows.token_of.Goals as goal

pub returns : goal.returns
returns c = token_read c.args.bytes.now c.in_ok-content.content.now c.from_vec-token.result c.in_ok-content.rest.now (λ i. (c.type_inv.bytes i).fits) c.in_ok-content.ensures (c.from_vec-token.ensures ∙ c.in_ok-from_slice.ensures.items)
