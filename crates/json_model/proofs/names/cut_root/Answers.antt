use Rattle.json_model.proofs.Cuts.{none_first, none_second, none_third, root_under}
use Rattle.json_model.proofs.names.cut_root.Goals as goal

pub returns-in_default : goal.returns-in_default
returns-in_default c = none_first _ c.in_default.ensures

pub returns-in_default-cut : goal.returns-in_default-cut
returns-in_default-cut c = none_second _ _ _ c.in-Some.ensures.0 c.in-Some.ensures.1 c.in_default-cut.ensures

pub returns-in_default-after : goal.returns-in_default-after
returns-in_default-after c = none_third _ _ _ _ _ c.in-Some.ensures.0 c.in-Some.ensures.1 c.in-Some-cut.ensures.0 c.in-Some-cut.ensures.1 c.in_default-after.ensures

pub returns : goal.returns
returns c = (c.in-Some.ensures.0, c.in-Some-cut.ensures.0, root_under _ _ _ _ _ _ c.in-Some.ensures.1 c.in-Some-cut.ensures.1 c.in-Some-after.ensures)
