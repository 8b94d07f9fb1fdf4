use Rattle.std.proofs.Common.{[], refl}
use Rattle.client_events.specs.declared.event.Event.TheVariants as event
use Rattle.local_store.specs.State.{State}
use Rattle.client_turns.specs.Hearing.{old_point}
use Rattle.sync_engine.specs.Telling.{MovesBy}
use Rattle.client_turns.specs.Turns.{answered}
use Rattle.client_turns.specs.Watching.{calls_of}
use Rattle.sync_engine.proofs.Committed.{nothing_moves}
use Rattle.sync_engine.proofs.Following.{by_state}
use Rattle.sync_engine.proofs.Heard.{heard_as}
use Rattle.sync_engine.proofs.Turning.{moves_none}
use Rattle.sync_engine.proofs.client.Client.timed.Goals as goal

pub returns-then-is_old-clause-files : goal.returns-then-is_old-clause-files
returns-then-is_old-clause-files g c = λ told s past stands.
    by_state (λ (t : State). MovesBy t past (event.Watch c.args.response.now) (g.H.Host.view c.args.host.now) (g.H.Host.view c.args.host.now)) stands (λ st.
    moves_none (event.Watch c.args.response.now) (answered []) (heard_as c.args.response.now st c.requires.opening (old_point c.args.at (c.requires.gives (calls_of past) st.watch.calls) (c.is_old.ensures.0 c.if-is_old.true) refl)) refl
    (nothing_moves _ c.requires.whole (c.requires.stored told)))
