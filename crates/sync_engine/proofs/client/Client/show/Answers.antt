use Rattle.std.proofs.Common.{ℤ, List, Option, false, sym, ap, subst, ◌∙◌}
use Rattle.std.specs.Prelude.{option_and_then}
use Rattle.listen_protocol.specs.Calls.{Key}
use Rattle.client_turns.specs.Settling.{MayStart, standing_or}
use Rattle.sync_engine.specs.Standing.{Kept, stance_in, standing_in}
use Rattle.sync_engine.proofs.Showing.{is_shown, lent_standing}
use Rattle.sync_engine.proofs.client.Client.show.Goals as goal

pub returns-clause-shows : goal.returns-clause-shows
returns-clause-shows c =
    let found = λ (t : Option ℤ). option_and_then (standing_in c.self.inside.watch.current.targets.items) t in
    is_shown c.args.id c.may_start-may_start.result c.in_ok-refresh.refresh c.standing_or-standing.result.now
    (c.standing_or-standing.ensures
    ∙ lent_standing (found c.target_of-target.result) _ (ap (λ (keys : List Key). record { current = false; keys = keys }) c.new.ensures)
    ∙ ap (λ (t : Option ℤ). standing_or (found t)) c.target_of-target.ensures)
    c.in_ok-refresh.ensures.done
    (subst (λ (k : Kept). MayStart k.store.state (stance_in k c.args.id) c.may_start-may_start.result) (sym c.self.view_is) c.may_start-may_start.ensures)
    c.in_ok-put.ensures.done c.self.view_is
