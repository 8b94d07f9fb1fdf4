use Rattle.std.proofs.Common.{rules, ◌≡◌, ◌≤◌, length, ap, ◌∙◌}
use Rattle.json.specs.Json.{string}
use Rattle.json.specs.Value.{value_view}
use Rattle.json.specs.declared.value.Value.{String, the_lemmas}
use Rattle.json_model.specs.Leaves.{max_names}
use Rattle.plain_json.proofs.Masked.{path}
use Rattle.plain_json.proofs.masks.plain_path.Goals as goal

pub returns-else-len-gt-MAX_NAMES-clause-path : goal.returns-else-len-gt-MAX_NAMES-clause-path
returns-else-len-gt-MAX_NAMES-clause-path c =
    let few : length c.in-Ok.path ≤ max_names = search rules in
    let seen : value_view (String c.in-String.text) ≡ string c.in-String.text.now = search (rules, the_lemmas) in
    path _ _ _ (ap value_view c.in-String.is ∙ seen) (record { spelled = c.in-Ok.ensures.path.0; fields = c.in-Ok.ensures.path.1; few = few })
