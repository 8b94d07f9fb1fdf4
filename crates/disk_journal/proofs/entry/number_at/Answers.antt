use Rattle.std.proofs.Common.{arith}
use Rattle.disk_journal.proofs.Parts.{is_number}
use Rattle.disk_journal.proofs.entry.number_at.Goals as goal

pub returns : goal.returns
returns c =
    let parts = c.in_ok-front.ensures.cases in
    (omega arith, is_number c.args.bytes.now c.in_ok-front.front.now c.in_ok-front.rest.now c.from_be_bytes.result (λ i. omega (arith, c.type_inv.bytes i)) (omega (arith, parts.2)) parts.0 parts.1 c.from_be_bytes.ensures)
