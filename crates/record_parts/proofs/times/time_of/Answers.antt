use Rattle.std.specs.Int.{w64}
use Rattle.std.proofs.lemmas.Int.{to_z-of_z}
use Rattle.std.proofs.lemmas.Result.{err_from_is_err_and}
use Rattle.record_parts.proofs.Wide.{fails_also}
use Rattle.record_parts.proofs.Basics.{whole_number, half, time_none, time_read, time_other}
use Rattle.record_parts.proofs.Combine.{no_first, no_second, pair_read}
use Rattle.record_parts.proofs.times.time_of.Goals as goal

pub returns-in_err-seconds : goal.returns-in_err-seconds
returns-in_err-seconds c =
    let p = err_from_is_err_and c.from_residual.result c.from_residual.ensures.1 in
    rw (p.1, p.2) (fails_also c.in_err-seconds.field-0.0 (λ none. time_none c.args.bytes.now (no_first whole_number (λ _. half) c.args.bytes.now none)) c.in_err-seconds.ensures)

pub returns-in_err-nanos : goal.returns-in_err-nanos
returns-in_err-nanos c =
    let p = err_from_is_err_and c.from_residual-in_err-nanos.result c.from_residual-in_err-nanos.ensures.1 in
    rw (p.1, p.2) (fails_also c.in_err-nanos.field-0.0 (λ none. time_none c.args.bytes.now (no_second whole_number (λ _. half) c.args.bytes.now c.in_ok-seconds.seconds c.in_ok-seconds.rest.now c.in_ok-seconds.ensures none)) c.in_err-nanos.ensures)

pub returns-then-is_moment : goal.returns-then-is_moment
returns-then-is_moment c =
    let same = to_z-of_z w64 c.in_ok-seconds.seconds c.in_ok-seconds.ensures.fits in
    rw same (time_read c.args.bytes.now (record { seconds = c.in_ok-seconds.seconds; nanos = c.in_ok-nanos.nanos }) c.in_ok-nanos.rest.now
    (pair_read whole_number (λ _. half) c.args.bytes.now c.in_ok-seconds.seconds c.in_ok-seconds.rest.now c.in_ok-nanos.nanos c.in_ok-nanos.rest.now c.in_ok-seconds.ensures c.in_ok-nanos.ensures) (rw same at (c.is_moment.ensures.0 c.if-is_moment.true)))

pub returns-else-is_moment : goal.returns-else-is_moment
returns-else-is_moment c =
    let same = to_z-of_z w64 c.in_ok-seconds.seconds c.in_ok-seconds.ensures.fits in
    time_other c.args.bytes.now (record { seconds = c.in_ok-seconds.seconds; nanos = c.in_ok-nanos.nanos }) c.in_ok-nanos.rest.now
    (pair_read whole_number (λ _. half) c.args.bytes.now c.in_ok-seconds.seconds c.in_ok-seconds.rest.now c.in_ok-nanos.nanos c.in_ok-nanos.rest.now c.in_ok-seconds.ensures c.in_ok-nanos.ensures)
    (λ is. cc ((rw same at c.is_moment.ensures.1) is, c.if-is_moment.false))
