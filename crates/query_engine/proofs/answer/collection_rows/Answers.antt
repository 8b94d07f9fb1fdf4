use Rattle.std.proofs.Common.{◌≢◌, ◌∙◌, sym, ap, subst}
use Rattle.std.specs.List.{AllPairs}
use Rattle.std.proofs.lemmas.Result.{IfOk-weaker}
use Rattle.value_model.specs.Documents.{ListsCollection}
use Rattle.queries.specs.Answer.{IsAnswer}
use Rattle.queries.specs.declared.target.Target.{Target}
use Rattle.query_engine.specs.Kept.{KeepsFirst, keys_of}
use Rattle.query_engine.proofs.Keeping.{ascending_apart, first_answer}
use Rattle.query_engine.proofs.answer.collection_rows.Goals as goal

pub first_rows-requires-clause-distinct : goal.first_rows-requires-clause-distinct
first_rows-requires-clause-distinct g c =
    subst (AllPairs ◌≢◌) (sym c.as_slice.ensures.value) (ascending_apart c.in_ok-keys.keys.items c.in_ok-keys.ensures.ascending)

pub returns : goal.returns
returns g c =
    let documents = g.D.Documents.documents c.args.docs.now in
    let lists = subst (ListsCollection documents c.args.target.now.collection) (sym c.as_slice.ensures.value) c.in_ok-keys.ensures in
    let keeps = subst (λ (t : Target). KeepsFirst t c.args.root.now documents c.args.target.now.limit c.as_slice.result.now c.in_ok-rows.rows.items) c.requires.same c.in_ok-rows.ensures in
    let answer = subst (λ (t : Target). IsAnswer t c.args.root.now documents (keys_of c.in_ok-rows.rows.items)) (sym c.requires.same)
    (first_answer c.args.target.now c.args.root.now documents c.as_slice.result.now c.in_ok-rows.rows.items lists keeps) in
    IfOk-weaker c.copy_keys.result _ _ (λ keys is. subst (IsAnswer c.args.query.now c.args.root.now documents) (sym (is ∙ ap keys_of c.as_slice-2.ensures.value)) answer) c.copy_keys.ensures
