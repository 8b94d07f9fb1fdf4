use Rattle.std.proofs.Common.{ℤ, option_map, subst, arith}
use Rattle.target_cache.specs.Kept.{TellsRow}
use Rattle.durable_state.proofs.Rows.{below_last, signed_back}
use Rattle.durable_state.proofs.fitting.row_of.Goals as goal

pub returns-then-id-gt-LAST_ID : goal.returns-then-id-gt-LAST_ID
returns-then-id-gt-LAST_ID c = λ row is. let few = below_last c.args.targets.now.rows c.args.id c.next_id-last.ensures.most (row, is) in omega (arith, few, c.if-id-gt-LAST_ID.true)

pub returns : goal.returns
returns c = subst (λ (z : ℤ). TellsRow c.args.targets.now.rows z (option_map (λ row. row.now) c.row.result)) (signed_back c.signed.result c.args.id c.signed.ensures (omega (arith, c.if-id-gt-LAST_ID.false))) c.row.ensures
