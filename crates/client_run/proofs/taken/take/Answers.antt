use Rattle.std.proofs.Common.{refl}
use Rattle.local_store.specs.Files.{Moves}
use Rattle.local_store.specs.State.{State}
use Rattle.sync_engine.proofs.Committed.{nothing_moves}
use Rattle.sync_engine.proofs.Following.{by_state}
use Rattle.client_run.proofs.Handling.{event_commits, event_moves, event_taken, nothing_moves_line, unread_taken}
use Rattle.client_run.proofs.taken.take.Goals as goal

pub returns-in-Refused-clause-turn : goal.returns-in-Refused-clause-turn
returns-in-Refused-clause-turn g c = λ s past stands. rw (c.in-Refused.is) (unread_taken c.in-Refused.refusal stands)

pub returns-in-Refused-clause-files : goal.returns-in-Refused-clause-files
returns-in-Refused-clause-files g c = λ told s past stands. rw (c.in-Refused.is) (nothing_moves_line c.in-Refused.refusal
    (by_state (λ (t : State). Moves t t (g.H.Host.view c.args.host.now) (g.H.Host.view c.args.host.now)) stands (λ st. nothing_moves _ c.requires.live.store (c.requires.stored told))))

pub returns-in-Ok-clause-turn : goal.returns-in-Ok-clause-turn
returns-in-Ok-clause-turn g c = λ s past stands. rw (c.in-Line.is) (event_taken (c.in-Ok.ensures.turn s past stands))

pub returns-in-Ok-clause-files : goal.returns-in-Ok-clause-files
returns-in-Ok-clause-files g c = λ told s past stands. rw (c.in-Line.is) (event_moves (c.event.ensures.files told c.requires.live.whole s past stands))

pub returns-in-Err-DiskFault-clause-files : goal.returns-in-Err-DiskFault-clause-files
returns-in-Err-DiskFault-clause-files g c = λ told s past stands. rw (c.in-Line.is) (event_moves (c.event.ensures.files told c.requires.live.whole s past stands))

pub returns-in-Err-NoMemory-clause-files : goal.returns-in-Err-NoMemory-clause-files
returns-in-Err-NoMemory-clause-files g c = λ told s past stands. rw (c.in-Line.is) (event_moves (c.event.ensures.files told c.requires.live.whole s past stands))

pub returns-in-Err-DiskFault-clause-meets : goal.returns-in-Err-DiskFault-clause-meets
returns-in-Err-DiskFault-clause-meets g c = λ is s past stands.
    let meets = rw c.in-Err-DiskFault.field-0-is at c.in-Err-DiskFault.ensures.meets in
    rw (c.in-Line.is) (event_commits (meets refl s past stands))
