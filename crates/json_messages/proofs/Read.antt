-- Values that are left out.
use Rattle.std.proofs.Common.{◌≡◌, List, [], Option, None, sym, subst, ◌∙◌, arith}
use Rattle.std.proofs.lemmas.List.Elements.{All-nil}
use Rattle.serde_json.specs.Data.{Data as Json}
use Rattle.value_model.specs.Data.{Data}
use Rattle.json_model.specs.Faults.{max_nesting}
use Rattle.json_model.specs.Grammar.{SpellsList, no_list}
use Rattle.json_rpc.specs.Storable.{AreAllStorable, IsStorableWithin}

pub no_values : (found : Option Json) (items values : List Data) → found ≡ None → items ≡ [] → values ≡ items → SpellsList found values
no_values found items values none empty are = subst (λ (f : Option Json). SpellsList f values) (sym none) (subst (SpellsList None) (sym (are ∙ empty)) no_list)

pub none_storable : (items values : List Data) → items ≡ [] → values ≡ items → AreAllStorable (IsStorableWithin max_nesting) values
none_storable items values empty are = subst (AreAllStorable (IsStorableWithin max_nesting)) (sym (are ∙ empty)) (record { count = omega arith; each = All-nil (IsStorableWithin max_nesting) })
