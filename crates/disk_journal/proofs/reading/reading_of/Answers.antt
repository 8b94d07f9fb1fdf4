use Rattle.std.proofs.Common.{arith, ℕ, List, ◌∙◌, sym, subst}
use Rattle.disk_journal.specs.File.{IsBlank}
use Rattle.disk_journal.specs.Parts.{IsRecords}
use Rattle.disk_journal.proofs.Once.{is_file, no_records_at, records_many, header_size, behind_header}
use Rattle.disk_journal.proofs.reading.reading_of.Goals as goal

pub returns-in_default-2-clause-reading : goal.returns-in_default-2-clause-reading
returns-in_default-2-clause-reading c =
    let head = c.in-Some-header_at in
    let whole = sym c.deref-2.ensures.value ∙ head.ensures.2 in
    let behind = behind_header head.generation c.args.bytes.items head.rest.now c.len.result whole (omega (arith, c.len.ensures)) in
    let none = rw c.in_default-2.is at c.in_ok-payloads.ensures in
    let not_blank = rw c.in_default.is at c.blank_in.ensures in
    record {
      not_blank = subst (λ (l : List ℕ). ¬ IsBlank l) c.deref.ensures.value not_blank;
      no_file = no_records_at c.args.bytes.items head.rest.now head.generation head.ensures.1 whole (λ ps is. none ps (subst (λ (l : List ℕ). IsRecords ps l) (sym behind) is));
    }

pub returns-clause-reading : goal.returns-clause-reading
returns-clause-reading c =
    let head = c.in-Some-header_at in
    let whole = sym c.deref-2.ensures.value ∙ head.ensures.2 in
    let behind = behind_header head.generation c.args.bytes.items head.rest.now c.len.result whole (omega (arith, c.len.ensures)) in
    let found = rw c.in-Some-2.is at c.in_ok-payloads.ensures in
    is_file _ head.ensures.0 head.ensures.1 whole
    (subst (λ (l : List ℕ). IsRecords c.in-Some-2.payloads l) behind found.0)
    (omega (arith, found.1, c.len.ensures, header_size head.generation c.args.bytes.items head.rest.now whole))

pub returns-clause-within : goal.returns-clause-within
returns-clause-within c =
    let found = rw c.in-Some-2.is at c.in_ok-payloads.ensures in
    record {
      many = omega (arith, records_many c.in-Some-2.payloads, found.1);
      far = omega (arith, found.2, c.requires);
    }
