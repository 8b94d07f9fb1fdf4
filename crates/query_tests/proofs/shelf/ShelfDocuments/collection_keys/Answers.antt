use Rattle.std.proofs.Common.{◌∙◌, sym, subst}
use Rattle.std.proofs.lemmas.Result.{IfOk-weaker}
use Rattle.document_keys.specs.KeySet.{IsAscending}
use Rattle.value_model.specs.Documents.{ListsCollection}
use Rattle.query_tests.specs.Shelf.{documents_of, KeepsIn}
use Rattle.query_tests.proofs.Holding.{lists}
use Rattle.query_tests.proofs.shelf.ShelfDocuments.collection_keys.Goals as goal

pub returns : goal.returns
returns c =
    let keeps = subst (λ hs. KeepsIn c.args.collection.now hs c.in_ok-keys.keys) c.as_slice.ensures.value c.in_ok-keys.ensures in
    let listed = lists c.args.collection.now c.args.self.now.documents.items c.in_ok-keys.keys (subst IsAscending c.keys.view_is c.keys.invariant) keeps in
    IfOk-weaker c.copy_keys.result _ _ (λ keys is. subst (ListsCollection (documents_of c.args.self.now.documents.items) c.args.collection.now) (sym (is ∙ c.as_slice-2.ensures)) listed) c.copy_keys.ensures
