use Rattle.std.proofs.Common.{◌∙◌, true, false, cond, Some, refl, sym, ap}
use Rattle.std.specs.BTreeMap.{get}
use Rattle.document_keys.specs.KeySet.{is_key}
use Rattle.value_model.specs.declared.document.Entry.TheVariants.{Missing}
use Rattle.durable_state.specs.Tables.{state_in}
use Rattle.listen_protocol.specs.Calls.{key_cmp}
use Rattle.watch_points.specs.Steps.{misses}
use Rattle.watch_points.proofs.Missed.{steps_by}
use Rattle.watch_points.proofs.entries.miss.Goals as goal

pub returns-then-not-misses : goal.returns-then-not-misses
returns-then-not-misses c =
    steps_by (state_in c.args.tables.now) c.args.at c.in-Some.key.now c.args.target.now (get key_cmp c.args.table.now) (get key_cmp c.args.table.now) false c.in-Some.ensures
    (sym c.if-not-misses.true ∙ c.misses.ensures ∙ ap (misses (state_in c.args.tables.now) c.args.at c.in-Some.key.now) c.get.ensures.value)
    (λ k. refl)

pub returns : goal.returns
returns c =
    steps_by (state_in c.args.tables.now) c.args.at c.in-Some.key.now c.args.target.now (get key_cmp c.args.table.now) (get key_cmp c.insert.new.self) true c.in-Some.ensures
    (sym c.if-not-misses.false ∙ c.misses.ensures ∙ ap (misses (state_in c.args.tables.now) c.args.at c.in-Some.key.now) c.get.ensures.value)
    (λ k. c.in_ok-insert.ensures.updates.0 k ∙ ap (λ q. cond (is_key q k) (Some (Missing c.args.at)) (get key_cmp c.args.table.now k)) c.in_ok-key.ensures)
