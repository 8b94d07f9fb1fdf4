use Rattle.std.proofs.Common.{◌∙◌, arith, refl, subst, sym}
use Rattle.document_keys.specs.Paths.{IsFieldName}
use Rattle.document_keys.proofs.Fields.{walk_more, walk_whole}
use Rattle.value_model.proofs.Checked.{passed, refused}
use Rattle.value_model.proofs.Named.{names_all, names_each}
use Rattle.value_model.proofs.names.have_field_names.Goals as goal

pub returns-then-is_err : goal.returns-then-is_err
returns-then-is_err c = (
  λ given. cc,
  λ all.
      let name = names_each IsFieldName c.args.fields.now _ c.field-item.result (omega arith) c.field-item.is all in
      absurd (refused c.as_str.result.now c.check_field_name.result (sym c.is_err.ensures.value ∙ c.if-is_err.true) c.check_field_name.ensures.fault (subst IsFieldName (sym c.as_str.ensures) name)),
)

pub loop-field-preserved : goal.loop-field-preserved
loop-field-preserved c = walk_more (λ field. IsFieldName field.name) c.args.fields.now _ c.field-item.result (omega arith) c.field-item.is c.loop-field.invariant
    (subst IsFieldName c.as_str.ensures (passed c.as_str.result.now c.check_field_name.result (sym c.is_err.ensures.value ∙ c.if-is_err.false) c.check_field_name.ensures.name))

pub returns : goal.returns
returns c = (λ given. names_all IsFieldName c.args.fields.now (walk_whole (λ field. IsFieldName field.name) c.args.fields.now c.loop-field.field-index (omega arith) c.loop-field.invariant), λ all. refl)
