use Rattle.std.proofs.Common.{arith, ◌≡◌, ℕ, List, ◌∷◌, get_or, ap, sym, ◌∙◌, subst}
use Rattle.disk_journal.specs.Parts.{IsRecords}
use Rattle.disk_journal.proofs.Parts.{record_parts, open_broken, first_and_rest}
use Rattle.disk_journal.proofs.entry.entry_at.Goals as goal

pub returns-in-Some : goal.returns-in-Some
returns-in-Some c =
    let gate : get_or c.args.bytes.now 0 0 ≡ 1 = omega arith in
    (c.in-Some.ensures.0, first_and_rest 1 c.args.bytes.now (omega arith) gate ∙ ap (λ (l : List ℕ). 1 ∷ l) c.in-Some.ensures.1 ∙ sym (record_parts c.in-Some.payload.now c.in-Some.behind.now))

pub returns-in-None : goal.returns-in-None
returns-in-None c = λ payloads is.
    let gate : get_or c.args.bytes.now 0 0 ≡ 1 = omega arith in
    open_broken _ c.in-None.ensures payloads (subst (λ (l : List ℕ). IsRecords payloads l) (first_and_rest 1 c.args.bytes.now (omega arith) gate) is)
