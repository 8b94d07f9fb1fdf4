use Rattle.std.proofs.Common.{sym, subst, w64}
use Rattle.std.proofs.lemmas.Int.{to_z-of_z}
use Rattle.serde_json.specs.View.{view}
use Rattle.json_model.specs.Numbers.{SpellsWhole}
use Rattle.json_model.proofs.Stored.{whole_fits}
use Rattle.json_rpc.proofs.Names.{operand_named}
use Rattle.json_rpc.proofs.transform.clean_number.Goals as goal

pub unreachable-requires : goal.unreachable-requires
unreachable-requires c = c.in_default.not-integerValue (operand_named _ _ _ c.requires.known c.requires.clean)

pub returns : goal.returns
returns c = (c.in-integerValue.is, subst (SpellsWhole (view c.args.json.now)) (sym (to_z-of_z w64 c.clean_integer.result (whole_fits _ _ c.clean_integer.ensures))) c.clean_integer.ensures)
