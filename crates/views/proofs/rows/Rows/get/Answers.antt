use Rattle.std.proofs.Common.{subst, sym}
use Rattle.std.specs.Option.{option_copied}
use Rattle.views.specs.Row.{HasAtKey}
use Rattle.views.proofs.Indexing.{got, lent}
use Rattle.views.proofs.rows.Rows.get.Goals as goal

pub returns : goal.returns
returns c =
    let has = got c.self.inside.rows.items c.self.inside.by_key.entries c.args.key.now (option_copied c.get.result) c.self.invariant (sym c.get.ensures.value) in
    rw (← c.self.view_is) (subst (HasAtKey c.self.inside.rows.items c.args.key.now) (sym (lent c.get.result)) has)
