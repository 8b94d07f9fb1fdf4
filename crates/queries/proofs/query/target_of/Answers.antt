use Rattle.std.proofs.Common.{inl, inr}
use Rattle.queries.specs.declared.raw.QueryRule.TheVariants as rule
use Rattle.queries.proofs.Whole.{fits_from, name_is_among}
use Rattle.queries.proofs.query.target_of.Goals as goal

pub unreachable-requires : goal.unreachable-requires
unreachable-requires c = c.requires.sound rule.OneCollection (c.in_default.ensures {u = tt})

pub unsigned-requires : goal.unsigned-requires
unsigned-requires c = λ bad. c.requires.sound rule.Limit bad

pub returns-clause-checked : goal.returns-clause-checked
returns-clause-checked c = record {
  start = fits_from c.args.orders c.args.raw.start_at (λ bad. c.requires.sound rule.Cursors (record { orders = c.args.orders; whole = c.requires.whole; bad = inl bad }));
  stop = fits_from c.args.orders c.args.raw.end_at (λ bad. c.requires.sound rule.Cursors (record { orders = c.args.orders; whole = c.requires.whole; bad = inr bad }));
  named = name_is_among c.args.raw.orders c.args.raw.filter c.args.orders c.requires.whole;
  limit = c.unsigned.ensures.limit;
}
