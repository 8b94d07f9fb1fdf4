use Rattle.std.proofs.Common.{rules, ◌≡◌, ap, ◌∙◌, to_z-of_z}
use Rattle.json.specs.Json.{string}
use Rattle.json.specs.Value.{value_view}
use Rattle.json.specs.declared.value.Value.{String, the_lemmas}
use Rattle.plain_json.proofs.Changed.{operand}
use Rattle.plain_json.proofs.changes.plain_operand.Goals as goal

pub returns : goal.returns
returns c =
    let seen : value_view (String c.in-String.text) ≡ string c.in-String.text.now = search (rules, the_lemmas) in
    rw (to_z-of_z c.in-Some.ensures.fits) (operand _ _ _ c.in-Some.number c.in_ok-text.ensures.is (ap value_view c.in-String.is ∙ seen) c.in-Some.ensures)
