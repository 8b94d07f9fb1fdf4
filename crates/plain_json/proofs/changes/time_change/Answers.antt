use Rattle.std.proofs.Common.{rules, ◌≡◌, codes, ap, ◌∙◌}
use Rattle.json.specs.Json.{string}
use Rattle.json.specs.Value.{value_view}
use Rattle.json.specs.declared.value.Value.{String, the_lemmas}
use Rattle.plain_json.proofs.Changed.{server_time}
use Rattle.plain_json.proofs.changes.time_change.Goals as goal

pub returns : goal.returns
returns c =
    let seen : value_view (String c.in-String.text) ≡ string c.in-String.text.now = search (rules, the_lemmas) in
    let same : c.in-String.text.now ≡ codes "REQUEST_TIME" = search rules in
    server_time _ (ap value_view c.in-String.is ∙ seen ∙ ap string same)
