use Rattle.std.proofs.Common.{◌∙◌, IsTrue, sym, subst}
use Rattle.std.specs.Cmp.Lexicographic.{pointwise_decides, bytes_decides}
use Rattle.queries.specs.Checked.{IsChecked}
use Rattle.queries.specs.Matching.{Matches}
use Rattle.queries.specs.declared.target.Target.{Target}
use Rattle.queries.proofs.query.Query.matches.Goals as goal

pub matches_collection-requires : goal.matches_collection-requires
matches_collection-requires c = subst IsChecked c.in-Collection.is c.self.invariant

pub returns-in-Document : goal.returns-in-Document
returns-in-Document c =
    let decides = pointwise_decides bytes_decides c.args.key.now c.in-Document.wanted in
    subst (λ (t : Target). (IsTrue c.eq.result → Matches t c.args.root.now c.args.key.now c.args.fields.now) × (Matches t c.args.root.now c.args.key.now c.args.fields.now → IsTrue c.eq.result))
    (sym c.in-Document.is ∙ c.self.view_is) (λ yes. decides.0 (sym c.eq.ensures ∙ yes), λ e. c.eq.ensures ∙ decides.1 e)
