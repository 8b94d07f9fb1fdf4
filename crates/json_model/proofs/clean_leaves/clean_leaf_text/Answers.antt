use Rattle.std.proofs.Common.{ap, sym, subst, ◌∙◌}
use Rattle.serde_json.specs.Find.{as_str}
use Rattle.json_model.specs.Leaves.{FitsText}
use Rattle.json_model.proofs.Fine.{clean_text}
use Rattle.json_model.proofs.Kinded.{same_text}
use Rattle.json_model.proofs.clean_leaves.clean_leaf_text.Goals as goal

pub unreachable-requires : goal.unreachable-requires
unreachable-requires c =
    let f = clean_text _ _ _ c.requires.clean c.requires.of_text in
    let e = c.in-None.ensures ∙ ap as_str f.1.0 in cc

pub returns-clause-fits : goal.returns-clause-fits
returns-clause-fits c =
    let f = clean_text _ _ _ c.requires.clean c.requires.of_text in
    subst (FitsText c.args._setting.now.root c.args._leaf) (sym (same_text _ _ _ c.in-Some.ensures f.1.0)) f.1.1
