use Rattle.std.proofs.Common.{length, ap, rules}
use Rattle.target_codec.proofs.Again.{refused, told}
use Rattle.target_codec.proofs.checked.is_checked.Goals as goal

pub returns-in-Ok : goal.returns-in-Ok
returns-in-Ok c = told c.args.target.now c.in_ok-raw.raw c.in_ok-raw.ensures c.requires.collection c.in-Ok.query (length c.as_slice.result.now) c.has_orders.result c.in-Ok.ensures.query (ap length c.as_slice.ensures) c.has_orders.ensures

pub returns-in-Err-BadQuery : goal.returns-in-Err-BadQuery
returns-in-Err-BadQuery c = (λ never. search rules, λ own. absurd (refused c.args.target.now c.in_ok-raw.raw c.in_ok-raw.ensures c.in-Err-BadQuery.field-0 c.in-Err-BadQuery.field-0-0 c.in-Err-BadQuery.ensures.fault c.in-Err-BadQuery.field-0-is own))
