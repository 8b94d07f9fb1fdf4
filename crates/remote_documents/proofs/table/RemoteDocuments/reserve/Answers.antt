use Rattle.std.proofs.Common.{◌≡◌, ◌∙◌, Some, IsTrue, cond, false, refl, sym, ap, subst}
use Rattle.std.specs.Option.{is_some, option_and_then}
use Rattle.document_keys.specs.KeySet.{is_key}
use Rattle.key_table.specs.Table.{has_key, value_at}
use Rattle.key_table.proofs.Tables.{keys_stay, put_there, shows_nothing}
use Rattle.remote_documents.specs.declared.slot.Slot.TheVariants.{Reserved}
use Rattle.remote_documents.specs.Table.{held}
use Rattle.remote_documents.proofs.table.RemoteDocuments.reserve.Goals as goal

pub returns-in_err-insert-clause-same : goal.returns-in_err-insert-clause-same
returns-in_err-insert-clause-same c = λ q. rw (← c.self.view_is) (ap (option_and_then held) (c.in_err-insert.ensures.undone q))

pub returns-in_err-insert-clause-places : goal.returns-in_err-insert-clause-places
returns-in_err-insert-clause-places c = λ q. rw (← c.self.view_is) (λ there. ap is_some (c.in_err-insert.ensures.undone q) ∙ there)

pub returns-in_ok-insert-clause-same : goal.returns-in_ok-insert-clause-same
returns-in_ok-insert-clause-same c =
    let none : has_key c.self.inside.slots c.in_ok-key.key ≡ false = ap (has_key c.self.inside.slots) c.in_ok-key.ensures ∙ sym c.has.ensures ∙ c.if-not-has.true in
    λ q. rw (← c.self.view_is) (shows_nothing c.self.inside.slots c.insert.new.self c.in_ok-key.key Reserved c.in_ok-insert.ensures.done held refl none q)

pub returns-in_ok-insert-clause-room : goal.returns-in_ok-insert-clause-room
returns-in_ok-insert-clause-room c = subst (λ k. IsTrue (has_key c.insert.new.self k)) c.in_ok-key.ensures (ap is_some (put_there c.self.inside.slots c.insert.new.self c.in_ok-key.key Reserved c.in_ok-insert.ensures.done))

pub returns-in_ok-insert-clause-places : goal.returns-in_ok-insert-clause-places
returns-in_ok-insert-clause-places c = λ q. rw (← c.self.view_is) (keys_stay c.self.inside.slots c.insert.new.self c.in_ok-key.key Reserved c.in_ok-insert.ensures.done q)

pub returns-in_err-insert-clause-others : goal.returns-in_err-insert-clause-others
returns-in_err-insert-clause-others c = λ q other. rw (← c.self.view_is) (ap is_some (c.in_err-insert.ensures.undone q))

pub returns-in_ok-insert-clause-others : goal.returns-in_ok-insert-clause-others
returns-in_ok-insert-clause-others c = λ q other. rw (← c.self.view_is) (ap is_some (c.in_ok-insert.ensures.done q
    ∙ ap (λ b. cond b (Some Reserved) (value_at c.self.inside.slots q)) (ap (λ k. is_key k q) c.in_ok-key.ensures ∙ other)))
