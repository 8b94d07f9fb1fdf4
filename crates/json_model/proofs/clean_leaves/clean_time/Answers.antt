use Rattle.json_model.proofs.clean_leaves.clean_time.Goals as goal

pub unreachable-requires : goal.unreachable-requires
unreachable-requires c = let fits = c.show_leaf.ensures in c.in-None.ensures fits.1.1.0 (fits.0, (fits.1.0, fits.1.1.1))
