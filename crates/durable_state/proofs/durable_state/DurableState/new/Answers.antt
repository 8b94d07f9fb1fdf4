use Rattle.std.proofs.Common.{None, sym, subst, refl, arith}
use Rattle.std.specs.List.{All}
use Rattle.std.proofs.lemmas.List.Elements.{All-nil}
use Rattle.overlays.specs.Table.{IsBatchOfFields}
use Rattle.remote_documents.specs.Table.{entries_in}
use Rattle.durable_state.proofs.Kept.{first_entries, first_laid}
use Rattle.durable_state.proofs.durable_state.DurableState.new.Goals as goal

pub invariant_of-result : goal.invariant_of-result
invariant_of-result c = record {
  within = omega arith;
  next = omega arith;
  fields = subst (All IsBatchOfFields) (sym c.new.ensures.batches) (All-nil IsBatchOfFields);
  map = c.is_map.ensures;
  laid = first_laid (record { number = 0; batches = c.new.result.batches; next_batch = 1; entries = entries_in c.new-entries.result; last_read = None; rows = c.new-2.result.rows }) c.new-3.result c.new.ensures.batches c.new-3.ensures;
}

pub returns : goal.returns
returns c = rw (c.new.ensures.batches, c.new-2.ensures, first_entries c.new-entries.result c.is_map.ensures c.new-entries.ensures) refl
