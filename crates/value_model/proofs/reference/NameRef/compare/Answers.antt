use Rattle.std.proofs.Common.{◌∙◌, sym}
use Rattle.value_model.specs.Lent.{lent_name}
use Rattle.value_model.proofs.RefNames.{differ, same, project_decides, database_decides, key_decides}
use Rattle.value_model.proofs.reference.NameRef.compare.Goals as goal

pub returns-then-is_ne : goal.returns-then-is_ne
returns-then-is_ne c = project_decides (lent_name c.args.self.now) c.args.other.now c.cmp-project.result c.cmp-project.ensures (differ _ (sym c.is_ne.ensures ∙ c.if-is_ne.true))

pub returns-then-is_ne-2 : goal.returns-then-is_ne-2
returns-then-is_ne-2 c =
    database_decides (lent_name c.args.self.now) c.args.other.now c.cmp-project.result c.cmp-database.result c.cmp-project.ensures (same _ (sym c.is_ne.ensures ∙ c.if-is_ne.false))
    c.cmp-database.ensures (differ _ (sym c.is_ne-2.ensures ∙ c.if-is_ne-2.true))

pub returns : goal.returns
returns c =
    key_decides (lent_name c.args.self.now) c.args.other.now c.cmp-project.result c.cmp-database.result c.cmp.result c.cmp-project.ensures (same _ (sym c.is_ne.ensures ∙ c.if-is_ne.false))
    c.cmp-database.ensures (same _ (sym c.is_ne-2.ensures ∙ c.if-is_ne-2.false)) c.cmp.ensures
