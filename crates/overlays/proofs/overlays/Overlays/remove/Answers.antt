use Rattle.std.proofs.Common.{◌∙◌, None, cond, refl, ap}
use Rattle.std.specs.Option.{is_some}
use Rattle.document_keys.proofs.Exact.{key_same}
use Rattle.key_table.specs.Table.{value_at}
use Rattle.overlays.proofs.overlays.Overlays.remove.Goals as goal

pub returns-clause-gone : goal.returns-clause-gone
returns-clause-gone c =
    let key = c.args.key.now in
    ap is_some (c.remove.ensures.done key ∙ ap (λ b. cond b None (value_at c.self.inside.slots key)) (key_same key key refl))
