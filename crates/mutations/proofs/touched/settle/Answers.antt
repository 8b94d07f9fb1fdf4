use Rattle.std.proofs.Common.{◌≡◌, ◌∙◌, sym, ap, subst}
use Rattle.value_model.specs.Data.{null}
use Rattle.value_model.specs.Fields.{field, with_field}
use Rattle.mutations.specs.Touched.{HasName}
use Rattle.mutations.proofs.Touching.{put_is, put_but, removed_but, removed_is, replaced_in}
use Rattle.mutations.proofs.touched.settle.Goals as goal

module _ (c : goal.Joined-replace-2) where
  placed : c.replace-in-Some.new.self ≡ with_field c.args.fields.now c.as_str-in-Some.result.now c.in-Some.value
  placed = replaced_in c.replace-in-Some.result c.args.fields.now c.replace-in-Some.new.self c.as_str-in-Some.result.now c.in-Some.value c.replace-in-Some.ensures.before
      (subst (HasName c.args.fields.now) (sym c.as_str-in-Some.ensures) c.requires) c.replace-in-Some.ensures.there

pub returns-in-Some-clause-here : goal.returns-in-Some-clause-here
returns-in-Some-clause-here c =
    put_is c.args.fields.now c.replace-in-Some.new.self c.as_str-in-Some.result.now c.args.name.now c.in-Some.value c.as_str-in-Some.ensures (placed c)
    ∙ c.in-Some.ensures.before ∙ ap (field c.args.part.now) c.as_str.ensures

pub returns-in-Some-clause-beside : goal.returns-in-Some-clause-beside
returns-in-Some-clause-beside c = put_but c.args.fields.now c.replace-in-Some.new.self c.as_str-in-Some.result.now c.args.name.now c.in-Some.value c.as_str-in-Some.ensures (placed c)

pub returns-in-Some-clause-left : goal.returns-in-Some-clause-left
returns-in-Some-clause-left c = put_but c.args.part.now c.replace.new.self c.as_str.result.now c.args.name.now null c.as_str.ensures c.in-Some.ensures.there

pub returns-in-None-clause-here : goal.returns-in-None-clause-here
returns-in-None-clause-here c =
    removed_is c.args.fields.now c.remove.new.self c.args.name.now c.len-count.ensures.fields (rw c.as_str-in-None.ensures at c.remove.ensures.done)
    ∙ c.in-None.ensures.before ∙ ap (field c.args.part.now) c.as_str.ensures

pub returns-in-None-clause-beside : goal.returns-in-None-clause-beside
returns-in-None-clause-beside c = removed_but c.args.fields.now c.remove.new.self c.args.name.now (rw c.as_str-in-None.ensures at c.remove.ensures.done)
