use Rattle.std.proofs.Common.{rules}
use Rattle.plain_json.proofs.parts.plain_part.Goals as goal

pub returns-in-updateMask : goal.returns-in-updateMask
returns-in-updateMask c =
    let built = c.mask_part.ensures c.args.setting.now in
    search rules

pub returns-in-currentDocument : goal.returns-in-currentDocument
returns-in-currentDocument c =
    let found = c.condition_part.ensures c.args.setting.now in
    search rules
