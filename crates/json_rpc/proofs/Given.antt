-- Members that are left out.
use Rattle.std.proofs.Common.{◌≡◌, List, [], codes, Some, None, sym, subst, ◌∙◌}
use Rattle.serde_json.specs.Data.{Data as Json, Members}
use Rattle.serde_json.specs.Find.{as_object}
use Rattle.value_model.specs.Data.{Data}
use Rattle.json_model.specs.Grammar.{SpellsList, no_list}
use Rattle.json_model.specs.Members.{given}
use Rattle.json_rpc.specs.Grammar.{SpellsElements}

pub no_elements : (d : Json) (ms : Members) (items values : List Data) → as_object d ≡ Some ms → None ≡ given (codes "values") ms → items ≡ [] → values ≡ items → SpellsElements d values
no_elements d ms items values is none empty are = record {
  members = ms;
  is = is;
  spells = subst (SpellsList (given (codes "values") ms)) (sym (are ∙ empty)) (subst (λ g. SpellsList g []) none no_list);
}
