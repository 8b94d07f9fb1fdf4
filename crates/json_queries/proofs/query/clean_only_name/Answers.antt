use Rattle.std.proofs.Common.{subst}
use Rattle.std.proofs.lemmas.Result.{IfOk-weaker}
use Rattle.serde_json.specs.View.{view}
use Rattle.json_model.specs.declared.place.Leaf.TheVariants as leaf
use Rattle.json_model.specs.declared.place.Place.TheVariants as place
use Rattle.json_model.specs.Clean.{IsClean}
use Rattle.json_queries.proofs.Read.{only_item, first_is, first_there, only_tree}
use Rattle.json_queries.proofs.query.clean_only_name.Goals as goal

pub clean_name-requires : goal.clean_name-requires
clean_name-requires c =
    let only = only_item _ _ _ c.requires c.clean_list-items.ensures.is in
    subst (λ v. IsClean c.args.setting.now (place.Leaf leaf.Name) (view v)) (first_is _ _ _ _ c.deref.ensures.value only.is c.in-Some.ensures.value) only.clean

pub unreachable-requires : goal.unreachable-requires
unreachable-requires c =
    let only = only_item _ _ _ c.requires c.clean_list-items.ensures.is in
    first_there _ _ _ c.deref.ensures.value only.is c.in-None.ensures.value

pub returns-clause-key : goal.returns-clause-key
returns-clause-key c =
    let only = only_item _ _ _ c.requires c.clean_list-items.ensures.is in
    let same = first_is _ _ _ _ c.deref.ensures.value only.is c.in-Some.ensures.value in
    IfOk-weaker c.clean_name.result _ _ (λ key names. (view c.in-Some.name.now, (only_tree _ _ _ _ c.clean_list-items.ensures.is only.is same, names))) c.clean_name.ensures.name
