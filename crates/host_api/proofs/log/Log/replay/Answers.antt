use Rattle.std.proofs.Common.{ap, sym, ◌∙◌, subst, All, List}
use Rattle.host_api.specs.declared.log.Entry.{Entry}
use Rattle.host_api.specs.Disk.{Disk, fresh}
use Rattle.host_api.specs.Entries.{EndsWithin, notes_of, step_of}
use Rattle.host_api.specs.Past.{Past, first, upto, run, after}
use Rattle.host_api.specs.Replayed.{disk_of}
use Rattle.host_api.proofs.Notes.{held_first, replayed_none, replayed_all, replayed_taken, replayed_skipped, within_entry}
use Rattle.host_api.proofs.log.Log.replay.Goals as goal
use Rattle.host_api.proofs.log.Log.replay.Goals.{then-entry-calls+in_ok-apply, else-entry-calls}

pub loop-entry-init : goal.loop-entry-init
loop-entry-init c =
    c.in_ok-replay.ensures
    ∙ ap fresh (c.of.ensures ∙ held_first c.self.inside.first c.args.file (notes_of c.self.inside.entries.items) c.self.inside.calls ∙ ap (λ (p : Past). first c.args.file p) c.self.view_is)
    ∙ sym (replayed_none c.args.file (fresh (first c.args.file c.args.self.now)) c.args.calls c.deref-entry-items.result.now)

pub apply-requires : goal.apply-requires
apply-requires c =
    within_entry c.loop-entry.entry-index c.deref-entry-items.result.now c.entry-item.result
    (subst (λ (es : List Entry). All (λ note. EndsWithin note.step) (notes_of es)) (sym c.deref-entry-items.ensures.value) c.self.invariant.within)
    c.loop-entry-test.true c.entry-item.is

pub loop-entry-preserved : goal.loop-entry-preserved
loop-entry-preserved c =
    let base = fresh (first c.args.file c.args.self.now) in
    elim c.if-entry-calls.branch [
      | then-entry-calls+in_ok-apply w ↦ ap disk_of w.replay-is ∙ w.in_ok-apply.ensures ∙ ap (λ (d : Disk). after c.args.file (step_of c.entry-item.result.step) d) c.loop-entry.invariant
          ∙ sym (replayed_taken c.args.file base c.args.calls c.loop-entry.entry-index c.deref-entry-items.result.now c.entry-item.result c.loop-entry-test.true c.entry-item.is w.if-entry-calls.true)
      | else-entry-calls w ↦ ap disk_of w.replay-is ∙ c.loop-entry.invariant
          ∙ sym (replayed_skipped c.args.file base c.args.calls c.loop-entry.entry-index c.deref-entry-items.result.now c.entry-item.result c.loop-entry-test.true c.entry-item.is w.if-entry-calls.false)
    ]

pub returns : goal.returns
returns c =
    let base = fresh (first c.args.file c.args.self.now) in
    c.loop-entry.invariant
    ∙ replayed_all c.args.file base c.args.calls c.loop-entry.entry-index c.deref-entry-items.result.now c.loop-entry-test.false
    ∙ ap (λ (es : List Entry). run c.args.file base (upto c.args.calls (notes_of es))) c.deref-entry-items.ensures.value
    ∙ ap (λ (p : Past). run c.args.file base (upto c.args.calls p.notes)) c.self.view_is
