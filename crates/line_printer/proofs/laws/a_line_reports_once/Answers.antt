use Rattle.line_printer.proofs.Answered.{ok_reports, listening_reports, unlistened_reports}
use Rattle.line_printer.proofs.Outcomes.{result_reports, rejected_reports}
use Rattle.line_printer.proofs.Parsed.{a_line_reports_once}
use Rattle.line_printer.proofs.Snapshots.{snapshot_reports}
use Rattle.line_printer.proofs.laws.a_line_reports_once.Goals as goal

pub returns-clause-once : goal.returns-clause-once
returns-clause-once c = a_line_reports_once

pub returns-clause-ok : goal.returns-clause-ok
returns-clause-ok c = ok_reports

pub returns-clause-listening : goal.returns-clause-listening
returns-clause-listening c = listening_reports

pub returns-clause-unlistened : goal.returns-clause-unlistened
returns-clause-unlistened c = unlistened_reports

pub returns-clause-snapshot : goal.returns-clause-snapshot
returns-clause-snapshot c = snapshot_reports

pub returns-clause-acknowledged : goal.returns-clause-acknowledged
returns-clause-acknowledged c = result_reports

pub returns-clause-rejected : goal.returns-clause-rejected
returns-clause-rejected c = rejected_reports
