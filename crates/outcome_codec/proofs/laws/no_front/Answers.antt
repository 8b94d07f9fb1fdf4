use Rattle.record_parts.proofs.Combine.{list}
use Rattle.outcome_codec.proofs.OutcomeForms.{result_form, entries_form, rows_form}
use Rattle.outcome_codec.proofs.laws.no_front.Goals as goal

pub returns-clause-results : goal.returns-clause-results
returns-clause-results c = (list result_form).unique

pub returns-clause-entries : goal.returns-clause-entries
returns-clause-entries c = entries_form.unique

pub returns-clause-rows : goal.returns-clause-rows
returns-clause-rows c = rows_form.unique
