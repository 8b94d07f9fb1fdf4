use Rattle.std.proofs.Common.{◌∙◌, ap}
use Rattle.std.specs.Option.{is_some, option_and_then}
use Rattle.std.proofs.lemmas.Result.{err_from_is_err_and}
use Rattle.key_table.proofs.Tables.{keys_stay}
use Rattle.remote_documents.specs.declared.slot.Slot.TheVariants.{Held}
use Rattle.remote_documents.specs.Table.{held}
use Rattle.remote_documents.proofs.table.RemoteDocuments.put.Goals as goal

pub returns-in_err-insert-clause-undone : goal.returns-in_err-insert-clause-undone
returns-in_err-insert-clause-undone c =
    let p = err_from_is_err_and c.from_residual.result c.from_residual.ensures.1 in
    rw (p.1, ← c.self.view_is) (λ q. ap (option_and_then held) (c.in_err-insert.ensures.undone q))

pub returns-in_err-insert-clause-places : goal.returns-in_err-insert-clause-places
returns-in_err-insert-clause-places c = λ q. rw (← c.self.view_is) (λ there. ap is_some (c.in_err-insert.ensures.undone q) ∙ there)

pub returns-clause-places : goal.returns-clause-places
returns-clause-places c = λ q. rw (← c.self.view_is) (keys_stay c.self.inside.slots c.insert.new.self c.args.key (Held c.args.entry c.args.seal) c.in_ok-insert.ensures.done q)
