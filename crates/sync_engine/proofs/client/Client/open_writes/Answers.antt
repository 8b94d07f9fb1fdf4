use Rattle.std.proofs.Common.{true, List, [], ◌∷◌, ◌++◌, refl, sym, ap, subst, ◌∙◌}
use Rattle.value_model.specs.declared.message.StreamName.TheVariants as stream
use Rattle.client_turns.specs.Past.{steps_of}
use Rattle.sync_engine.specs.Standing.{Kept, StandsFor}
use Rattle.sync_engine.specs.declared.out.Out.{Out}
use Rattle.sync_engine.specs.declared.out.Out.TheVariants.{SendHandshake}
use Rattle.client_turns.specs.declared.refusal.Refusal.TheVariants.{StreamState}
use Rattle.sync_engine.proofs.Closed.{hands_opened, opened_now, opened_twice}
use Rattle.sync_engine.proofs.Handing.{hands_refused}
use Rattle.sync_engine.proofs.client.Client.open_writes.Goals as goal

pub returns-then-self-clause-turn : goal.returns-then-self-clause-turn
returns-then-self-clause-turn c = λ s past stands. hands_refused (StreamState stream.Write true) refl c.requires.idle stands (opened_twice stands (ap (λ (k : Kept). k.writes.is_open) (sym c.self.view_is) ∙ c.if-self.true)) c.new.ensures.items

pub returns-clause-turn : goal.returns-clause-turn
returns-clause-turn c = λ s past stands.
    let as_kept = subst (λ (k : Kept). StandsFor k s past) (sym c.self.view_is) stands in
    hands_opened (ap (λ (k : Kept). k.watch.due) c.self.view_is ∙ c.requires.idle) as_kept (record { root = refl; store = refl; listeners = refl; limbo = refl; watch = refl }) (c.opened.ensures (steps_of past) as_kept.writes) (opened_now as_kept c.if-self.false)
    (c.in_ok-push.ensures.items ∙ ap (λ (o : List Out). o ++ SendHandshake ∷ []) c.new-outs.ensures.items)
