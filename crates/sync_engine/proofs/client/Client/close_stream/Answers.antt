use Rattle.client_events.specs.declared.event.Event.TheVariants as event
use Rattle.local_store.specs.State.{State}
use Rattle.value_model.specs.declared.message.StreamName.TheVariants as stream
use Rattle.std.proofs.Common.{refl}
use Rattle.client_turns.specs.Past.{steps_of}
use Rattle.sync_engine.specs.Telling.{MovesBy}
use Rattle.client_turns.specs.Watching.{is_watched}
use Rattle.client_turns.specs.Writing.{closed_turn}
use Rattle.sync_engine.proofs.Committed.{nothing_moves}
use Rattle.sync_engine.proofs.Following.{by_state}
use Rattle.sync_engine.proofs.Streamed.{watch_closed_none}
use Rattle.sync_engine.proofs.Turning.{moves_none}
use Rattle.sync_engine.proofs.client.Client.close_stream.Goals as goal

pub returns-in-Watch-clause-files : goal.returns-in-Watch-clause-files
returns-in-Watch-clause-files g c = λ told s past stands. rw (c.in-Watch.is)
    (by_state (λ (t : State). MovesBy t past (event.Closed stream.Watch c.args.status) (g.H.Host.view c.args.host.now) (g.H.Host.view c.args.host.now)) stands (λ st.
    moves_none (event.Closed stream.Watch c.args.status) (closed_turn c.args.self.now.store.state (steps_of past) stream.Watch c.args.status (is_watched past)) refl
    (watch_closed_none c.args.self.now.store.state (steps_of past) c.args.status (is_watched past)) (nothing_moves _ c.requires.whole (c.requires.stored told))))

pub returns-in-Write-clause-files : goal.returns-in-Write-clause-files
returns-in-Write-clause-files g c = λ told s past stands. rw (c.in-Write.is) (c.close_writes.ensures.files told s past stands)

pub returns-in-Write-clause-meets : goal.returns-in-Write-clause-meets
returns-in-Write-clause-meets g c = λ is s past stands. rw (c.in-Write.is) (c.close_writes.ensures.meets is s past stands)
