-- How the kinds of a change of targets are spelled, as google.firestore.v1.TargetChange does.
use Rattle.std.specs.Prelude.{ℕ, List, codes}
use Rattle.value_model.specs.declared.message.ChangeKind.{ChangeKind}
use Rattle.value_model.specs.declared.message.ChangeKind.TheVariants.{NoChange, Add, Remove, Current, Reset}

-- what became of the targets
abbrev pub change_text : ChangeKind → List ℕ
change_text NoChange = codes "NO_CHANGE"
change_text Add = codes "ADD"
change_text Remove = codes "REMOVE"
change_text Current = codes "CURRENT"
change_text Reset = codes "RESET"
