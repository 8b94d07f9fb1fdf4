use Rattle.std.proofs.Common.{◌∙◌, ◌↔◌, Bool, IsTrue, subst, sym}
use Rattle.std.specs.List.{Contains}
use Rattle.views.specs.Row.{keys_of}
use Rattle.views.proofs.Indexing.{has_at, still_some}
use Rattle.views.proofs.rows.Rows.has.Goals as goal

pub returns : goal.returns
returns c =
    let has = has_at c.args.self.now c.args.key.now _ c.get.ensures in
    subst (λ (b : Bool). IsTrue b ↔ Contains (keys_of c.args.self.now) c.args.key.now) (still_some _ c.get.result ∙ sym c.is_some.ensures) has
