use Rattle.std.proofs.Common.{rules, ◌≡◌, ap, ◌∙◌}
use Rattle.json.specs.Json.{null}
use Rattle.json.specs.Value.{value_view}
use Rattle.json.specs.declared.value.Value.{Null, the_lemmas}
use Rattle.plain_json.proofs.Single.{null_stands}
use Rattle.plain_json.proofs.scalars.null_value.Goals as goal

pub returns : goal.returns
returns c =
    let seen : value_view Null ≡ null = search (rules, the_lemmas) in
    null_stands _ (ap value_view c.in-Null.is ∙ seen)
