use Rattle.std.proofs.Common.{◌↔◌, IsTrue, subst}
use Rattle.std.specs.List.{Contains}
use Rattle.std.specs.Option.{IfSome}
use Rattle.std.proofs.lemmas.Result.{IfOk-weaker}
use Rattle.value_model.specs.Documents.{IsIn}
use Rattle.key_table.specs.Table.{HasKeysOf, has_key}
use Rattle.key_table.proofs.Listing.{has_from_order}
use Rattle.key_table.proofs.table.KeyTable.keys_in.Goals as goal

pub listed-requires : goal.listed-requires
listed-requires g c =
    let same = subst (λ o. IfSome o (λ set. HasKeysOf c.self.inside.places.entries set.keys)) c.in-Some.is c.self.invariant.same in
    λ q there. c.self.invariant.of_documents q ((has_from_order c.self.inside.places.entries c.in-Some.order.keys same q).0 there)

pub returns-in-Some-clause-members : goal.returns-in-Some-clause-members
returns-in-Some-clause-members g c =
    let same = subst (λ o. IfSome o (λ set. HasKeysOf c.self.inside.places.entries set.keys)) c.in-Some.is c.self.invariant.same in
    IfOk-weaker c.listed.result _ _ (λ keys members q.
    let has = has_from_order c.self.inside.places.entries c.in-Some.order.keys same q in
    subst (λ t. Contains keys.items q ↔ (IsIn c.args.collection.now q × IsTrue (has_key t q))) c.self.view_is (
      λ there. (((members q).0 there).0, has.0 (((members q).0 there).1)),
      λ both. (members q).1 (both.0, has.1 both.1),
    )) c.listed.ensures.members

pub returns-in-None-clause-members : goal.returns-in-None-clause-members
returns-in-None-clause-members g c =
    IfOk-weaker c.sorted.result _ _ (λ keys members q.
    subst (λ t. Contains keys.items q ↔ (IsIn c.args.collection.now q × IsTrue (has_key t q))) c.self.view_is (members q)) c.sorted.ensures.members
