use Rattle.std.proofs.Common.{ap, ◌∙◌, w32}
use Rattle.std.proofs.lemmas.Int.{to_z-of_z}
use Rattle.std.proofs.lemmas.Option.{none-some}
use Rattle.limbo_resolver.specs.Limbo.{key_in}
use Rattle.client_run.proofs.printing.print_limbo_added.Goals as goal

pub unreachable-requires : goal.unreachable-requires
unreachable-requires c = let added = c.requires.1 in none-some added.key (c.in_default.ensures ∙ ap (key_in c.args.client.now.limbo.limbo.running) (to_z-of_z w32 c.args.id c.ranges.id) ∙ added.of_id)
