use Rattle.std.proofs.Common.{◌≡◌, [], IsTrue}
use Rattle.host_api.specs.Items.{split}
use Rattle.client_run.specs.Output.{called, raised_by}
use Rattle.local_store.specs.State.{State}
use Rattle.local_store.specs.Store.{IsStored}
use Rattle.sync_engine.specs.Standing.{IsLive, IsStanding, StandsFor}
use Rattle.client_run.proofs.Served.{Serving, SameFaults}
use Rattle.client_run.proofs.run.serve.Given as goal

abbrev pub invariant-loop-handled : goal.invariant-loop-handled
invariant-loop-handled g l = record {
  live : IsLive l.client;
  standing : IsStanding l.client;
  stored : IsTrue g.H.Host.tells_files → IsStored l.client.store (g.H.Host.view l.host);
  serving : IsTrue g.S.Source.tells → IsTrue g.H.Host.tells_files → (s : State) → StandsFor l.fn.client s []
      → Serving (called l.fn.client.root (g.S.Source.left l.fn.source) s l.fn.budget g.H.Host.tells_out (g.H.Host.view l.fn.host).out) l.handled (split (g.S.Source.left l.source)) l.client (g.H.Host.view l.fn.host) (g.H.Host.view l.host);
  counts : SameFaults (g.H.Host.view l.fn.host) (g.H.Host.view l.host);
  source : g.S.Source.faults l.source ≡ g.S.Source.faults l.fn.source;
  answered : IsTrue g.S.Source.tells → g.S.Source.answered l.source ≡ raised_by l.handled (g.S.Source.answered l.fn.source);
}
