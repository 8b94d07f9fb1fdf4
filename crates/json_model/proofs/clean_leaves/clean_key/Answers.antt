use Rattle.json_model.proofs.OneLeaf.{no_document_fault}
use Rattle.json_model.proofs.clean_leaves.clean_key.Goals as goal

pub want_of_memory-requires : goal.want_of_memory-requires
want_of_memory-requires c = no_document_fault _ _ _ c.requires c.in-Err.ensures.fault
