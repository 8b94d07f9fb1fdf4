use Rattle.std.proofs.Common.{codes, refl, sym, subst, w64}
use Rattle.std.proofs.lemmas.Int.{to_z-of_z}
use Rattle.json_model.specs.Numbers.{SpellsInteger}
use Rattle.json_model.proofs.Numerals.{differ, no_number_found, bare_spells, spells_bare}
use Rattle.json_model.proofs.numbers.read_integer.Goals as goal

pub returns-in_default : goal.returns-in_default
returns-in_default c = no_number_found _ c.parse.result (differ _ (codes "-0") _ c.if-eq.false c.eq.ensures) c.parse.ensures.value.0 c.in_default.not-Ok

pub returns-then-not-is_bare : goal.returns-then-not-is_bare
returns-then-not-is_bare c = λ z spelled. let is = c.if-not-is_bare.ensures.1 (spells_bare _ z (differ _ (codes "-0") _ c.if-eq.false c.eq.ensures) spelled) in cc

pub returns : goal.returns
returns c =
    let spelled = bare_spells _ c.in-Ok.number _ c.parse.result c.parse.ensures.value.0 c.in-Ok.is (c.if-not-is_bare.ensures.0 refl) in
    subst (SpellsInteger c.args.text.now) (sym (to_z-of_z w64 c.in-Ok.number spelled.fits)) spelled
