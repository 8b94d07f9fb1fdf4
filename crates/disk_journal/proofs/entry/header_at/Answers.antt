use Rattle.std.proofs.Common.{arith, ◌++◌, sym, ◌∙◌}
use Rattle.disk_journal.specs.Parts.{number}
use Rattle.disk_journal.proofs.Parts.{header_joins, header_splits, too_short, numbers_same, no_header}
use Rattle.disk_journal.proofs.entry.header_at.Goals as goal

pub returns-in_err-rest : goal.returns-in_err-rest
returns-in_err-rest c = rw c.from_residual.ensures (λ generation rest least fits e. c.in_err-rest.ensures (number generation ++ rest) (header_splits generation c.args.bytes.now rest e))

pub returns-in_err-generation : goal.returns-in_err-generation
returns-in_err-generation c =
    rw c.from_residual-in_err-generation.ensures
    (λ generation rest least fits e. too_short c.in_ok-rest.rest.now c.in_err-generation.ensures generation rest (no_header c.args.bytes.now c.in_ok-rest.rest.now generation rest c.in_ok-rest.ensures e))

pub returns-then-generation-eq0 : goal.returns-then-generation-eq0
returns-then-generation-eq0 c = λ generation rest least fits e.
    let same = numbers_same c.in_ok-generation.generation generation c.in_ok-generation.rest.now rest c.in_ok-generation.ensures.0 fits (sym c.in_ok-generation.ensures.1 ∙ no_header c.args.bytes.now c.in_ok-rest.rest.now generation rest c.in_ok-rest.ensures e) in
    omega (arith, same.0, c.if-generation-eq0.true)

pub returns : goal.returns
returns c = (omega (arith, c.if-generation-eq0.false), c.in_ok-generation.ensures.0, header_joins _ _ _ _ c.in_ok-rest.ensures c.in_ok-generation.ensures.1)
