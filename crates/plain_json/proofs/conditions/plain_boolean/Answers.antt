use Rattle.std.proofs.Common.{rules, ◌≡◌, ap, ◌∙◌}
use Rattle.json.specs.Json.{boolean}
use Rattle.json.specs.Value.{value_view}
use Rattle.json.specs.declared.value.Value.{Bool, the_lemmas}
use Rattle.plain_json.proofs.conditions.plain_boolean.Goals as goal

pub returns : goal.returns
returns c =
    let seen : value_view (Bool c.in-Bool.is') ≡ boolean c.in-Bool.is' = search (rules, the_lemmas) in
    ap value_view c.in-Bool.is ∙ seen
