-- what the check of a field's name tells
use Rattle.std.proofs.Common.{◌≡◌, ℕ, true, false, Result, Ok, Err, OnOk, IfErr, List}
use Rattle.std.specs.Result.{is_err}
use Rattle.document_keys.specs.declared.faults.FieldFault.{FieldFault}
use Rattle.document_keys.specs.declared.faults.FieldFault.TheVariants.{BadPath, ReservedField, NoMemory}
use Rattle.document_keys.specs.Paths.{IsFieldName, HasNameFault}

pub passed : {A : Type 0} (name : List ℕ) (r : Result A FieldFault) → is_err r ≡ false → OnOk r (IsFieldName name) → IsFieldName name
passed name (Ok x) is ok = ok
passed name (Err e) is ok = cc

no_fault : (name : List ℕ) (fault : FieldFault) → HasNameFault name fault → IsFieldName name → ⊥
no_fault name BadPath fault good = fault good.long
no_fault name ReservedField fault good = good.free fault.1
no_fault name NoMemory fault good = fault

pub refused : {A : Type 0} (name : List ℕ) (r : Result A FieldFault) → is_err r ≡ true → IfErr r (λ fault. HasNameFault name fault) → IsFieldName name → ⊥
refused name (Ok x) is fault good = cc
refused name (Err e) is fault good = no_fault name e fault good
