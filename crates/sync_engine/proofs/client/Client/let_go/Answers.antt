use Rattle.std.proofs.Common.{ℕ, ℤ, nat_eq, List, [], if◌then◌else◌, sym, ap, subst, ◌∙◌}
use Rattle.std.specs.List.{list_any}
use Rattle.limbo_listens.specs.Listens.{Listens, limbo_at}
use Rattle.limbo_resolver.specs.Limbo.{Limbo}
use Rattle.listeners.specs.Table.{Table}
use Rattle.local_store.specs.Files.{Moves}
use Rattle.local_store.specs.State.{Fits, committed}
use Rattle.local_store.specs.Store.{Store}
use Rattle.record_codec.specs.declared.commit.Commit.TheVariants.{Drop}
use Rattle.client_turns.specs.LimboListens.{without_all}
use Rattle.sync_engine.specs.Dropping.{Drops}
use Rattle.sync_engine.specs.Standing.{Kept, limbo_in}
use Rattle.sync_engine.specs.Telling.{RemovesAll}
use Rattle.sync_engine.specs.declared.watch_stream.WatchStream.{WatchStream}
use Rattle.sync_engine.proofs.client.Client.let_go.Goals as goal

pub commit-requires-clause-fits : goal.commit-requires-clause-fits
commit-requires-clause-fits g c = subst (λ (rs : List ℕ). Fits c.args.self.now.store.state (Drop c.args.keys rs)) (sym c.from_vec-ids_of_rows.ensures) c.requires.fits

pub returns-in_err-commit-clause-files : goal.returns-in_err-commit-clause-files
returns-in_err-commit-clause-files g c = λ told.
    subst (λ (rs : List ℕ). Moves c.args.self.now.store.state (committed c.args.self.now.store.state (Drop c.args.keys rs)) (g.H.Host.view c.args.host.now) (g.H.Host.view c.commit.new.host)) c.from_vec-ids_of_rows.ensures (c.commit.ensures.files told)

pub returns-clause-files : goal.returns-clause-files
returns-clause-files g c = λ told.
    subst (λ (rs : List ℕ). Moves c.args.self.now.store.state (committed c.args.self.now.store.state (Drop c.args.keys rs)) (g.H.Host.view c.args.host.now) (g.H.Host.view c.commit.new.host)) c.from_vec-ids_of_rows.ensures (c.commit.ensures.files told)

pub returns-clause-gone : goal.returns-clause-gone
returns-clause-gone g c =
    let old = c.args.self.now in
    let ids = c.args.ids.now in
    let those : List ℕ = c.args.listeners.now in
    record {
      root = ap (λ (k : Kept). k.root) c.self.view_is ∙ c.remove_listeners.ensures.rest.root ∙ c.commit.ensures.rest.root;
      state = ap (λ (k : Kept). k.store.state) c.self.view_is ∙ ap (λ (x : Store). x.state) c.remove_listeners.ensures.rest.store ∙ c.in_ok-commit.ensures.state
          ∙ ap (λ (rs : List ℕ). committed old.store.state (Drop c.args.keys rs)) c.from_vec-ids_of_rows.ensures;
      writes = ap (λ (k : Kept). k.writes) c.self.view_is ∙ c.remove_listeners.ensures.rest.writes ∙ c.commit.ensures.rest.writes;
      removed = subst (λ (t : Table). RemovesAll those t c.self.inside.listeners) c.commit.ensures.rest.listeners
          (subst (λ (k : Kept). RemovesAll those c.commit.new.self.listeners k.listeners) (sym c.self.view_is) c.remove_listeners.ensures.removed);
      forgets = λ q. c.refuse_all.ensures.keys q ∙ ap (λ (k : Kept). limbo_in k q) c.self.view_is ∙ c.remove_listeners.ensures.forgotten.keys q
          ∙ ap (λ keys. if list_any (nat_eq q) those then [] else keys) (ap (λ (l : Listens). limbo_at l q) c.commit.ensures.rest.limbo);
      refuses = c.refuse_all.ensures.limbo ∙ ap (λ (l : Limbo). record l { running = without_all ids l.running })
          (ap (λ (k : Kept). k.limbo.limbo) c.self.view_is ∙ c.remove_listeners.ensures.forgotten.limbo ∙ ap (λ (l : Listens). l.limbo) c.commit.ensures.rest.limbo);
      watch = subst (λ (w : WatchStream). Drops ids c.args.going.blanked.items c.args.going.resets.items w c.dropped.new.self)
          (ap (λ (k : Kept). k.watch) c.self.view_is ∙ c.remove_listeners.ensures.rest.watch ∙ c.commit.ensures.rest.watch)
          (subst (λ (b : List ℤ). Drops ids b c.args.going.resets.items c.self.inside.watch c.dropped.new.self) c.as_slice.ensures.value c.dropped.ensures);
    }
