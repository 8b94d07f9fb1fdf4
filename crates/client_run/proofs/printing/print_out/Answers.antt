use Rattle.client_run.proofs.Texts.{document_printed}
use Rattle.client_run.proofs.printing.print_out.Goals as goal

pub returns-in_ok-line-in-Document : goal.returns-in_ok-line-in-Document
returns-in_ok-line-in-Document c = λ line shown. document_printed c.args.client.now c.root.result.now c.store.result.now _ _ c.root.ensures c.store.ensures c.in_ok-line-in-Document.ensures line (rw c.in-Document.is at shown)
