use Rattle.std.proofs.Common.{[], ◌∷◌, refl}
use Rattle.client_events.specs.declared.event.Event.TheVariants as event
use Rattle.local_store.specs.Documents.{document_of, standing_of}
use Rattle.local_store.specs.State.{State}
use Rattle.client_turns.specs.Answers.{ends}
use Rattle.client_turns.specs.Turns.{answered}
use Rattle.client_turns.specs.Lines.{document}
use Rattle.client_turns.specs.Past.{listener}
use Rattle.client_turns.specs.Writing.{bad_turn, is_stream_open, opened_turn}
use Rattle.sync_engine.proofs.Closed.{bad_none, opened_none}
use Rattle.sync_engine.specs.Telling.{MovesBy}
use Rattle.sync_engine.proofs.Committed.{nothing_moves}
use Rattle.sync_engine.proofs.Following.{by_state}
use Rattle.sync_engine.proofs.Turning.{ends_none, moves_none}
use Rattle.sync_engine.proofs.client.Client.answer.Goals as goal

pub returns-in-Get-clause-files : goal.returns-in-Get-clause-files
returns-in-Get-clause-files g c = λ told s past stands. rw (c.in-Get.is)
    (by_state (λ (t : State). MovesBy t past (event.Get c.in-Get.key) (g.H.Host.view c.args.host.now) (g.H.Host.view c.args.host.now)) stands (λ st.
    moves_none (event.Get c.in-Get.key) (answered (document c.in-Get.key (document_of c.args.self.now.store.state c.in-Get.key) (standing_of c.args.self.now.store.state c.in-Get.key) ∷ [])) refl refl
    (nothing_moves _ c.requires.whole (c.requires.stored told))))

pub returns-in-Unlisten-clause-files : goal.returns-in-Unlisten-clause-files
returns-in-Unlisten-clause-files g c = λ told s past stands. rw (c.in-Unlisten.is)
    (by_state (λ (t : State). MovesBy t past (event.Unlisten c.in-Unlisten.id) (g.H.Host.view c.args.host.now) (g.H.Host.view c.args.host.now)) stands (λ st.
    moves_none (event.Unlisten c.in-Unlisten.id) (ends c.args.self.now.store.state c.in-Unlisten.id (listener c.in-Unlisten.id past)) refl (ends_none c.args.self.now.store.state c.in-Unlisten.id (listener c.in-Unlisten.id past))
    (nothing_moves _ c.requires.whole (c.requires.stored told))))

pub returns-in-Opened-clause-files : goal.returns-in-Opened-clause-files
returns-in-Opened-clause-files g c = λ told s past stands. rw (c.in-Opened.is)
    (by_state (λ (t : State). MovesBy t past (event.Opened c.in-Opened.name) (g.H.Host.view c.args.host.now) (g.H.Host.view c.args.host.now)) stands (λ st.
    moves_none (event.Opened c.in-Opened.name) (opened_turn c.in-Opened.name (is_stream_open c.in-Opened.name past)) refl (opened_none c.in-Opened.name (is_stream_open c.in-Opened.name past))
    (nothing_moves _ c.requires.whole (c.requires.stored told))))

pub returns-in-BadMessage-clause-files : goal.returns-in-BadMessage-clause-files
returns-in-BadMessage-clause-files g c = λ told s past stands. rw (c.in-BadMessage.is)
    (by_state (λ (t : State). MovesBy t past (event.BadMessage c.in-BadMessage.name c.in-BadMessage.member) (g.H.Host.view c.args.host.now) (g.H.Host.view c.args.host.now)) stands (λ st.
    moves_none (event.BadMessage c.in-BadMessage.name c.in-BadMessage.member) (bad_turn c.in-BadMessage.name c.in-BadMessage.member (is_stream_open c.in-BadMessage.name past)) refl (bad_none c.in-BadMessage.name c.in-BadMessage.member (is_stream_open c.in-BadMessage.name past))
    (nothing_moves _ c.requires.whole (c.requires.stored told))))

pub returns-in-Timer-clause-files : goal.returns-in-Timer-clause-files
returns-in-Timer-clause-files g c = λ told s past stands. rw (c.in-Timer.is)
    (by_state (λ (t : State). MovesBy t past event.Timer (g.H.Host.view c.args.host.now) (g.H.Host.view c.args.host.now)) stands (λ st.
    moves_none event.Timer (answered []) refl refl (nothing_moves _ c.requires.whole (c.requires.stored told))))
