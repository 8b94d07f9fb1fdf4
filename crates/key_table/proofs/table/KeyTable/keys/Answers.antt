use Rattle.std.proofs.Common.{◌↔◌, IsTrue, subst}
use Rattle.std.specs.List.{Contains}
use Rattle.std.specs.Option.{IfSome}
use Rattle.std.proofs.lemmas.Result.{IfOk-weaker}
use Rattle.key_table.specs.Table.{HasKeysOf, has_key}
use Rattle.key_table.proofs.Listing.{has_from_order}
use Rattle.key_table.proofs.table.KeyTable.keys.Goals as goal

pub returns-in-Some : goal.returns-in-Some
returns-in-Some g c =
    let same = subst (λ o. IfSome o (λ set. HasKeysOf c.self.inside.places.entries set.keys)) c.in-Some.is c.self.invariant.same in
    IfOk-weaker c.gathered.result _ _ (λ keys members q.
    let has = has_from_order c.self.inside.places.entries c.in-Some.order.keys same q in
    subst (λ t. Contains keys q ↔ IsTrue (has_key t q)) c.self.view_is (λ there. has.0 ((members q).0 there), λ there. (members q).1 (has.1 there))) c.gathered.ensures

pub returns-in_ok-in_order-in-None : goal.returns-in_ok-in_order-in-None
returns-in_ok-in_order-in-None g c =
    IfOk-weaker c.gathered-in-None.result _ _ (λ keys members q.
    let has = has_from_order c.self.inside.places.entries c.in_ok-in_order-in-None.field-0.keys c.in_ok-in_order-in-None.ensures q in
    subst (λ t. Contains keys q ↔ IsTrue (has_key t q)) c.self.view_is (λ there. has.0 ((members q).0 there), λ there. (members q).1 (has.1 there))) c.gathered-in-None.ensures
