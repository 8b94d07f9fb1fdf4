use Rattle.std.proofs.Common.{rules, ap, sym, subst, ◌∙◌, option_map}
use Rattle.serde_json.specs.View.{view}
use Rattle.json_model.specs.Faults.{max_nesting}
use Rattle.json_rpc.specs.Storable.{AreAllStorable, IsStorableWithin}
use Rattle.json_rpc.proofs.Deep.{each_within}
use Rattle.json_messages.proofs.Read.{no_values, none_storable}
use Rattle.json_messages.proofs.write_response.clean_transforms_in.Goals as goal

pub returns-in-None-clause-values : goal.returns-in-None-clause-values
returns-in-None-clause-values c = no_values _ _ _ (sym c.clean_member.ensures.is ∙ ap (option_map (λ v. view v.now)) c.in-None.is) c.new.ensures.items c.from_vec-in-None.ensures

pub returns-in-None-clause-storable : goal.returns-in-None-clause-storable
returns-in-None-clause-storable c = none_storable _ _ c.new.ensures.items c.from_vec-in-None.ensures

pub returns-in_ok-values-in-Some-clause-storable : goal.returns-in_ok-values-in-Some-clause-storable
returns-in_ok-values-in-Some-clause-storable c = subst (AreAllStorable (IsStorableWithin max_nesting)) (sym c.from_vec.ensures) (record {
  count = search rules;
  each = each_within max_nesting _ c.in_ok-values-in-Some.ensures.storable c.in_ok-values-in-Some.ensures.deep;
})
