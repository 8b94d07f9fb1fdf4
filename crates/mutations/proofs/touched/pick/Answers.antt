use Rattle.std.proofs.Common.{◌∙◌, Some, ap}
use Rattle.value_model.specs.Fields.{field}
use Rattle.mutations.proofs.Touching.{put_is, put_but}
use Rattle.mutations.proofs.touched.pick.Goals as goal

pub returns-in_ok-put-clause-here : goal.returns-in_ok-put-clause-here
returns-in_ok-put-clause-here c =
    put_is c.args.part.now c.put.new.self c.in_ok-copy.field-0 c.args.name.now c.in_ok-copy-2.field-0 c.in_ok-copy.ensures c.in_ok-put.ensures.done
    ∙ ap Some c.in_ok-copy-2.ensures ∙ c.in-Some.ensures ∙ ap (field c.args.fields.now) c.as_str.ensures

pub returns-in_ok-put-clause-beside : goal.returns-in_ok-put-clause-beside
returns-in_ok-put-clause-beside c = put_but c.args.part.now c.put.new.self c.in_ok-copy.field-0 c.args.name.now c.in_ok-copy-2.field-0 c.in_ok-copy.ensures c.in_ok-put.ensures.done
