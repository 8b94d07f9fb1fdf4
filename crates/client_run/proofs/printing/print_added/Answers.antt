use Rattle.std.proofs.Common.{ap, ◌∙◌, w32}
use Rattle.std.proofs.lemmas.Int.{to_z-of_z}
use Rattle.local_store.specs.Store.{Store}
use Rattle.client_run.proofs.Texts.{row_found}
use Rattle.client_run.proofs.printing.print_added.Goals as goal

pub unreachable-requires : goal.unreachable-requires
unreachable-requires c =
    let added = c.requires.1 in
    row_found _ c.args.client.now.store.state.rows c.args.id _ added.row (c.targets.ensures ∙ ap (λ (s : Store). s.state.rows) c.store.ensures) (to_z-of_z w32 c.args.id c.ranges.id) added.of_id c.in_default.ensures
