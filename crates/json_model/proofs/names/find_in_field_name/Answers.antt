use Rattle.json_model.specs.declared.fault.NamingFault.TheVariants.{BadPath, ReservedField}
use Rattle.json_model.proofs.Naming.{field_fault}
use Rattle.json_model.proofs.names.find_in_field_name.Goals as goal

pub returns-in_ok-bad_name-in-Err-BadPath : goal.returns-in_ok-bad_name-in-Err-BadPath
returns-in_ok-bad_name-in-Err-BadPath c = field_fault _ BadPath _ (rw c.in-Err-BadPath.field-0-is at c.in-Err-BadPath.ensures.fault) c.in_ok-bad_name-in-Err-BadPath.ensures

pub returns-in_ok-bad_name-in-Err-ReservedField : goal.returns-in_ok-bad_name-in-Err-ReservedField
returns-in_ok-bad_name-in-Err-ReservedField c = field_fault _ ReservedField _ (rw c.in-Err-ReservedField.field-0-is at c.in-Err-ReservedField.ensures.fault) c.in_ok-bad_name-in-Err-ReservedField.ensures
