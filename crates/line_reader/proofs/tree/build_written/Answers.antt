use Rattle.std.proofs.Common.{refl}
use Rattle.serde_json.specs.View.{view}
use Rattle.json_messages.specs.Faults.{WriteResponseFaults}
use Rattle.line_reader.proofs.Lined.{bad_message}
use Rattle.line_reader.proofs.tree.build_written.Goals as goal

pub returns-in_ok-member-in-Err-clause-event : goal.returns-in_ok-member-in-Err-clause-event
returns-in_ok-member-in-Err-clause-event c = (refl, bad_message (WriteResponseFaults c.args.root.now (view c.args.json.now)) c.in-Err.fault _ c.in-Err.ensures.fault c.in_ok-member-in-Err.ensures)
