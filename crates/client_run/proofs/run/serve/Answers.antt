use Rattle.std.proofs.Common.{inl, inr, arith, ap, refl, subst, Err, ◌∙◌}
use Rattle.document_keys.specs.Names.{Root}
use Rattle.host_api.specs.Items.{item_of}
use Rattle.line_reader.specs.Reading.{Reads}
use Rattle.client_run.specs.declared.status.Status.TheVariants.{Done, SourceFault, NoMemory, Budget}
use Rattle.sync_engine.proofs.Committed.{stored_reads}
use Rattle.client_run.proofs.Served.{served_none, next_read, all_done, none_left, taken_as, answered_handled, answered_more, answered_next, took_one, keeps_stored, keeps_within, stops, served_more, stops_within, leaves_all, nothing_kept, is_served, causes_memory, causes_within, same_then}
use Rattle.client_run.proofs.run.serve.Goals as goal

pub returns-in-Err-Failed-clause-run : goal.returns-in-Err-Failed-clause-run
returns-in-Err-Failed-clause-run g c = λ tells told s stands.
    let it = c.loop-handled.invariant.serving tells told s stands in
    stops SourceFault _ it (λ o x left. g.met.H.Host.only_now c.args.host.now o x told left) refl c.loop-handled.invariant.live.store (c.loop-handled.invariant.stored told)
    (record { handled = omega (arith, it.count, c.loop-handled-test.true); taken = (record { rest = _; others = taken_as it it.left_over; suffix = c.in-Err-Failed.ensures.suffix tells }, answered_handled it (g.S.Source.answered c.args.source.now) (c.loop-handled.invariant.answered tells) (c.in-Err-Failed.ensures.counted tells)); written = it.wrote }) (λ files finds. finds)

pub returns-in-Err-NoMemory-clause-run : goal.returns-in-Err-NoMemory-clause-run
returns-in-Err-NoMemory-clause-run g c = λ tells told s stands.
    let it = c.loop-handled.invariant.serving tells told s stands in
    stops NoMemory _ it (λ o x left. g.met.H.Host.only_now c.args.host.now o x told left) refl c.loop-handled.invariant.live.store (c.loop-handled.invariant.stored told)
    (record { handled = omega (arith, it.count, c.loop-handled-test.true); taken = inl (record { rest = _; others = taken_as it it.left_over; suffix = c.in-Err-NoMemory.ensures.suffix tells }, answered_handled it (g.S.Source.answered c.args.source.now) (c.loop-handled.invariant.answered tells) (c.in-Err-NoMemory.ensures.counted tells)); written = it.wrote }) (λ files finds. inl finds)

pub returns-in-End-clause-run : goal.returns-in-End-clause-run
returns-in-End-clause-run g c = λ tells told s stands.
    let it = c.loop-handled.invariant.serving tells told s stands in
    let all = all_done it c.in-Ok.line _ _ c.in-End.is (c.in-Ok.ensures.takes tells) in
    stops Done _ it (λ o x left. g.met.H.Host.only_now c.args.host.now o x told left) refl c.loop-handled.invariant.live.store (c.loop-handled.invariant.stored told)
    (record { handled = record { all = it.count ∙ all; below = omega (arith, it.count, c.loop-handled-test.true) }; taken = (taken_as it (none_left it c.in-Ok.line _ _ c.in-End.is (c.in-Ok.ensures.takes tells)), answered_next it (g.S.Source.answered c.args.source.now) (c.loop-handled.invariant.answered tells) (c.in-Ok.ensures.counted tells)); written = it.wrote }) (λ files finds. finds)

pub returns-in-End-clause-kept : goal.returns-in-End-clause-kept
returns-in-End-clause-kept g c = λ tells told s stands.
    let it = c.loop-handled.invariant.serving tells told s stands in
    leaves_all it _ (all_done it c.in-Ok.line _ _ c.in-End.is (c.in-Ok.ensures.takes tells)) (stored_reads c.loop-handled.invariant.live.store (c.loop-handled.invariant.stored told))

pub returns-in_default-read_item-clause-run : goal.returns-in_default-read_item-clause-run
returns-in_default-read_item-clause-run g c = λ tells told s stands.
    let it = c.loop-handled.invariant.serving tells told s stands in
    stops NoMemory _ it (λ o x left. g.met.H.Host.only_now c.args.host.now o x told left) refl c.loop-handled.invariant.live.store (c.loop-handled.invariant.stored told)
    (record { handled = omega (arith, it.count, c.loop-handled-test.true); taken = inr (took_one it c.in-Ok.line _ _ c.in_default.not-End (c.in-Ok.ensures.takes tells), answered_next it (g.S.Source.answered c.args.source.now) (c.loop-handled.invariant.answered tells) (c.in-Ok.ensures.counted tells)); written = it.wrote }) (λ files finds. inl finds)

pub returns-in-Err-clause-run : goal.returns-in-Err-clause-run
returns-in-Err-clause-run g c = λ tells told s stands.
    let it = c.loop-handled.invariant.serving tells told s stands in
    let n = next_read it c.in-Ok.line _ c.as_slice.result.now _ c.in-Ok-read_item.reading c.in_default.not-End c.as_slice.ensures.value (c.in-Ok.ensures.takes tells) (subst (λ (r : Root). Reads r (item_of c.in-Ok.line c.as_slice.result.now) c.in-Ok-read_item.reading) (c.root.ensures ∙ it.root) c.in-Ok-read_item.ensures.is) in
    rw c.status.ensures (stops_within c.in-Err.fault _ c.in-Ok-read_item.reading it (λ o x left. g.met.H.Host.only_now c.args.host.now o x told left) refl n (omega (arith, c.loop-handled-test.true, c.ranges.budget)) (record { files = c.handle.ensures.files told; counted = c.handle.ensures.counted; spelled = c.in-Ok-read_item.ensures.spelled }) c.in-Err.ensures.stopped (λ same. c.in-Err.ensures.meets (ap Err same)) (answered_next it (g.S.Source.answered c.args.source.now) (c.loop-handled.invariant.answered tells) (c.in-Ok.ensures.counted tells)) c.loop-handled-test.true)

pub returns-in-Err-clause-kept : goal.returns-in-Err-clause-kept
returns-in-Err-clause-kept g c = rw c.status.ensures (λ tells told s stands. nothing_kept c.in-Err.fault _ _)

pub returns-in-Err-clause-serving : goal.returns-in-Err-clause-serving
returns-in-Err-clause-serving g c = rw c.status.ensures (is_served c.in-Err.fault)

pub returns-in-Err-clause-cause : goal.returns-in-Err-clause-cause
returns-in-Err-clause-cause g c = rw c.status.ensures (causes_within c.in-Err.fault (c.in-Ok.ensures.cause.stays (λ is. cc) ∙ c.loop-handled.invariant.source) c.loop-handled.invariant.counts c.in-Err.ensures.counts)

pub loop-handled-preserved : goal.loop-handled-preserved
loop-handled-preserved g c = record {
  live = c.in-Ok-handle.ensures.live;
  standing = c.in-Ok-handle.ensures.standing;
  stored = c.handle.ensures.stored;
  serving = λ tells told s stands.
      let it = c.loop-handled.invariant.serving tells told s stands in
      let n = next_read it c.in-Ok.line _ c.as_slice.result.now _ c.in-Ok-read_item.reading c.in_default.not-End c.as_slice.ensures.value (c.in-Ok.ensures.takes tells) (subst (λ (r : Root). Reads r (item_of c.in-Ok.line c.as_slice.result.now) c.in-Ok-read_item.reading) (c.root.ensures ∙ it.root) c.in-Ok-read_item.ensures.is) in
      served_more c.in-Ok-read_item.reading it n (omega (arith, c.loop-handled-test.true, c.ranges.budget)) (record { files = c.handle.ensures.files told; counted = c.handle.ensures.counted; spelled = c.in-Ok-read_item.ensures.spelled }) c.handle.ensures.root c.in-Ok-handle.ensures.done;
  counts = same_then c.loop-handled.invariant.counts c.in-Ok-handle.ensures.counts;
  source = c.in-Ok.ensures.cause.stays (λ is. cc) ∙ c.loop-handled.invariant.source;
  answered = λ tells. answered_more c.loop-handled.handled (g.S.Source.answered c.args.source.now) (c.loop-handled.invariant.answered tells) (c.in-Ok.ensures.counted tells);
}

pub returns-clause-run : goal.returns-clause-run
returns-clause-run g c = λ tells told s stands.
    let it = c.loop-handled.invariant.serving tells told s stands in
    stops Budget _ it (λ o x left. g.met.H.Host.only_now c.args.host.now o x told left) refl c.loop-handled.invariant.live.store (c.loop-handled.invariant.stored told)
    (record { handled = omega (arith, it.count, c.loop-handled-test.false, c.loop-handled.auto.handled-end); taken = (taken_as it it.left_over, answered_handled it (g.S.Source.answered c.args.source.now) (c.loop-handled.invariant.answered tells) refl); written = it.wrote }) (λ files finds. finds)

pub returns-clause-kept : goal.returns-clause-kept
returns-clause-kept g c = λ tells told s stands.
    let it = c.loop-handled.invariant.serving tells told s stands in
    leaves_all it _ (omega (arith, c.loop-handled-test.false, c.loop-handled.auto.handled-end)) (stored_reads c.loop-handled.invariant.live.store (c.loop-handled.invariant.stored told))

pub returns-in-Err-clause-keeps : goal.returns-in-Err-clause-keeps
returns-in-Err-clause-keeps g c = λ told.
    let standing = c.loop-handled.invariant.standing in
    keeps_within _ c.in-Ok-read_item.reading c.loop-handled.client standing.0 standing.1.0 _ _ (g.met.H.Host.may_stay _ told) standing.1.1 (record { files = c.handle.ensures.files told; counted = c.handle.ensures.counted; spelled = c.in-Ok-read_item.ensures.spelled })

pub returns-in-Err-Failed-clause-keeps : goal.returns-in-Err-Failed-clause-keeps
returns-in-Err-Failed-clause-keeps g c = λ told. keeps_stored (g.met.H.Host.may_stay _ told) c.loop-handled.invariant.live.store (c.loop-handled.invariant.stored told)

pub returns-in-Err-NoMemory-clause-keeps : goal.returns-in-Err-NoMemory-clause-keeps
returns-in-Err-NoMemory-clause-keeps g c = λ told. keeps_stored (g.met.H.Host.may_stay _ told) c.loop-handled.invariant.live.store (c.loop-handled.invariant.stored told)

pub returns-in-End-clause-keeps : goal.returns-in-End-clause-keeps
returns-in-End-clause-keeps g c = λ told. keeps_stored (g.met.H.Host.may_stay _ told) c.loop-handled.invariant.live.store (c.loop-handled.invariant.stored told)

pub returns-in_default-read_item-clause-keeps : goal.returns-in_default-read_item-clause-keeps
returns-in_default-read_item-clause-keeps g c = λ told. keeps_stored (g.met.H.Host.may_stay _ told) c.loop-handled.invariant.live.store (c.loop-handled.invariant.stored told)

pub returns-clause-keeps : goal.returns-clause-keeps
returns-clause-keeps g c = λ told. keeps_stored (g.met.H.Host.may_stay _ told) c.loop-handled.invariant.live.store (c.loop-handled.invariant.stored told)

pub loop-handled-init : goal.loop-handled-init
loop-handled-init g c = record {
  live = c.requires.live;
  standing = c.requires.standing;
  stored = c.requires.stored;
  serving = λ tells told s stands. served_none _ c.args.client.now (g.H.Host.view c.args.host.now) refl refl c.requires.live.store (c.requires.stored told) stands;
  counts = record { disk = refl; sink = refl };
  source = refl;
  answered = λ tells. refl;
}

pub returns-in-Err-NoMemory-clause-cause : goal.returns-in-Err-NoMemory-clause-cause
returns-in-Err-NoMemory-clause-cause g c = causes_memory (c.in-Err-NoMemory.ensures.cause.stays (λ is. cc) ∙ c.loop-handled.invariant.source) c.loop-handled.invariant.counts
