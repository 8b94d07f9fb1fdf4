use Rattle.std.proofs.Common.{sym, subst, ◌↔◌, IsTrue}
use Rattle.queries.specs.Matching.{IsBefore}
use Rattle.queries.proofs.Sorting.{tells_before}
use Rattle.queries.proofs.query.Query.before.Goals as goal

pub returns : goal.returns
returns c = λ root left right.
    subst (λ b. IsTrue b ↔ IsBefore c.args.self.now root c.args.a.key.now c.args.a.fields.now c.args.b.key.now c.args.b.fields.now) (sym c.is_lt.ensures)
    (tells_before c.args.self.now root _ _ _ _ c.compare.result c.compare.ensures left right)
