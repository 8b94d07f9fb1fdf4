use Rattle.json_rpc.proofs.Names.{update_clean, delete_clean, no_other_write}
use Rattle.json_rpc.proofs.write.clean_write.Goals as goal

pub clean_update-requires-clause-clean : goal.clean_update-requires-clause-clean
clean_update-requires-clause-clean c = update_clean _ _ _ _ c.clean_choice.ensures.only c.in-update.is c.clean_choice.ensures.clean

pub clean_delete-requires-clause-clean : goal.clean_delete-requires-clause-clean
clean_delete-requires-clause-clean c = delete_clean _ _ _ _ c.clean_choice.ensures.only c.in-delete.is c.clean_choice.ensures.clean

pub unreachable-requires : goal.unreachable-requires
unreachable-requires c = no_other_write _ _ _ _ c.clean_choice.ensures.choice c.in_default.not-update c.in_default.not-delete c.clean_choice.ensures.only c.clean_choice.ensures.clean
