use Rattle.std.proofs.Common.{◌≡◌, ◌∙◌, sym}
use Rattle.local_store.proofs.Committed.{over_finds}
use Rattle.local_store.proofs.Opened.{stuck_refuses, none_found}
use Rattle.local_store.proofs.local_store.LocalStore.open.Goals as goal

pub returns-then-generation-ne1-clause-refused : goal.returns-then-generation-ne1-clause-refused
returns-then-generation-ne1-clause-refused g c = λ told. stuck_refuses _ _ _ _ _ (c.in_ok-journal.ensures.found told) (c.in_ok-journal.ensures.goes_on told) (λ s leads. c.if-generation-ne1.true (c.generation.ensures ∙ leads.first)) (c.open.ensures.files told)

pub returns-in-Ok-None-clause-refused : goal.returns-in-Ok-None-clause-refused
returns-in-Ok-None-clause-refused g c = λ told. stuck_refuses _ _ _ _ _ (c.in_ok-journal.ensures.found told) (c.in_ok-journal.ensures.goes_on told) (none_found (rw c.in-Ok-None.field-0-is at c.in-Ok-None.ensures)) (c.open.ensures.files told)

pub returns-in-Ok-Some-clause-found : goal.returns-in-Ok-Some-clause-found
returns-in-Ok-Some-clause-found g c = λ told.
    let one : c.in_ok-journal.journal.generation ≡ 1 = sym c.generation.ensures ∙ c.if-generation-ne1.false in
    record {
      generation = _;
      payloads = c.in_ok-journal.payloads;
      gives = c.in_ok-journal.ensures.found told;
      leads = record { first = one; replays = rw c.in-Ok-Some.field-0-is at c.in-Ok-Some.ensures };
    }

pub returns-in-Ok-Some-clause-kept : goal.returns-in-Ok-Some-clause-kept
returns-in-Ok-Some-clause-kept g c = λ told.
    let one : c.in_ok-journal.journal.generation ≡ 1 = sym c.generation.ensures ∙ c.if-generation-ne1.false in
    over_finds {place = c.in_ok-journal.journal} (record {
      payloads = c.in_ok-journal.payloads;
      open_with = c.in_ok-journal.ensures.open told;
      leads = record { first = one; replays = rw c.in-Ok-Some.field-0-is at c.in-Ok-Some.ensures };
    })
