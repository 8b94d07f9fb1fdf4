use Rattle.std.proofs.Common.{rules, ◌≡◌, ap, ◌∙◌}
use Rattle.json.specs.Json.{string}
use Rattle.json.specs.Value.{value_view}
use Rattle.json.specs.declared.value.Value.{String, the_lemmas}
use Rattle.plain_json.proofs.Asked.{time}
use Rattle.plain_json.proofs.conditions.plain_time.Goals as goal

pub returns-clause-is : goal.returns-clause-is
returns-clause-is c =
    let seen : value_view (String c.in-String.text) ≡ string c.in-String.text.now = search (rules, the_lemmas) in
    time _ _ _ (ap value_view c.in-String.is ∙ seen) c.in_ok-at.ensures.value
