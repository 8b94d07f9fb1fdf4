use Rattle.std.proofs.Common.{◌^◌, arith}
use Rattle.std.specs.Int.{w64}
use Rattle.record_parts.proofs.Wide.{wide_read, wide64}
use Rattle.record_parts.proofs.numbers.u64_of.Goals as goal

pub returns-in-Some : goal.returns-in-Some
returns-in-Some c =
    let e = c.in-Some.ensures.cases in
    rw c.from_be_bytes.ensures (wide_read w64 (2 ^ 64) wide64 c.args.bytes.now c.in-Some.front.now c.in-Some.rest.now (λ i. omega (arith, c.type_inv.bytes i)) e.0 e.1 (omega (arith, e.2)))
