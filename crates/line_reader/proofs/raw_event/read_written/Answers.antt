use Rattle.line_reader.proofs.Answered.{response_spelled}
use Rattle.line_reader.proofs.raw_event.read_written.Goals as goal

pub returns-clause-spelled : goal.returns-clause-spelled
returns-clause-spelled c = response_spelled _ c.requires
