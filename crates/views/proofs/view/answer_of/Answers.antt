use Rattle.std.proofs.lemmas.Result.{IfOk-weaker}
use Rattle.views.proofs.Answered.{answered, apart}
use Rattle.views.proofs.view.answer_of.Goals as goal

pub returns-clause-there : goal.returns-clause-there
returns-clause-there g c = IfOk-weaker c.rows.result _ _ (λ keys is. answered c.args.query.now c.args.root.now (g.D.Documents.documents c.args.docs.now) keys.items is) c.rows.ensures

pub returns-clause-distinct : goal.returns-clause-distinct
returns-clause-distinct g c = IfOk-weaker c.rows.result _ _ (λ keys is. apart c.args.query.now c.args.root.now (g.D.Documents.documents c.args.docs.now) keys.items is) c.rows.ensures
