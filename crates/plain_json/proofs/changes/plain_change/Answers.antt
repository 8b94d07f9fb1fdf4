use Rattle.std.proofs.Common.{rules}
use Rattle.plain_json.proofs.Changed.{append, remove_all}
use Rattle.plain_json.proofs.changes.plain_change.Goals as goal

pub returns-in-setToServerValue : goal.returns-in-setToServerValue
returns-in-setToServerValue c =
    let built = c.time_change.ensures c.args.setting.now c.args.names in
    search rules

pub returns-in-Some : goal.returns-in-Some
returns-in-Some c =
    let built = append _ _ _ c.in-Some.values (rw c.in-Some.is at c.in_ok-values-in-appendMissingElements.ensures.room) (rw c.in-Some.is at c.in_ok-values-in-appendMissingElements.ensures.elements) in
    search rules

pub returns-in-Some-2 : goal.returns-in-Some-2
returns-in-Some-2 c =
    let built = remove_all _ _ _ c.in-Some-2.values (rw c.in-Some-2.is at c.in_ok-values-in-removeAllFromArray.ensures.room) (rw c.in-Some-2.is at c.in_ok-values-in-removeAllFromArray.ensures.elements) in
    search rules

pub returns-in_default : goal.returns-in_default
returns-in_default c =
    let built = c.arithmetic_change.ensures c.args.setting.now c.args.names in
    search rules
