use Rattle.std.proofs.Common.{ℤ, List, subst, sym}
use Rattle.sync_engine.specs.Requesting.{Adds, AddsListens, AllRun, HaveTargetRows, Removes}
use Rattle.sync_engine.proofs.Outgoing.{requested, still_run, wanted_rows}
use Rattle.sync_engine.proofs.client.Client.request.Goals as goal

pub returns-clause-requests : goal.returns-clause-requests
returns-clause-requests c = λ rows.
    let removed = c.in_ok-removed.removed.items in
    let added = c.in_ok-added.added.items in
    let listens = c.in_ok-listens.listens.items in
    let now = c.remove_targets.new.self in
    let next = c.add_targets.new.self in
    let outs = c.remove_targets.new.outs.items in
    let more = c.add_targets.new.outs.items in
    let have : HaveTargetRows now c.as_slice-2.result.now = subst (HaveTargetRows now) (sym c.as_slice-2.ensures.value) (wanted_rows added c.remove_targets.ensures.rest rows c.in_ok-added.ensures.wanted) in
    let run : AllRun next c.as_slice-3.result.now = subst (AllRun next) (sym c.as_slice-3.ensures.value) (still_run listens c.add_targets.ensures.rest c.in_ok-listens.ensures.running) in
    requested c.args.targets.now c.args.resets.now removed added listens c.in_ok-removed.ensures c.remove_targets.ensures.rest
    (subst (λ (l : List ℤ). Removes c.args.self.now now l c.args.outs.now.items outs) c.as_slice.ensures.value c.in_ok-remove_targets.ensures.removes)
    c.in_ok-added.ensures.calls c.in_ok-listens.ensures.calls c.add_targets.ensures.rest
    (subst (λ (l : List ℤ). Adds now next l outs more) c.as_slice-2.ensures.value (c.in_ok-add_targets.ensures.adds have))
    (subst (λ (l : List ℤ). AddsListens next c.add_limbo_targets.new.self l more c.add_limbo_targets.new.outs.items) c.as_slice-3.ensures.value (c.in_ok-add_limbo_targets.ensures.adds run))
