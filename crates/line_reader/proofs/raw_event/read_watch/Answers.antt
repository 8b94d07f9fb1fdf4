use Rattle.line_reader.proofs.Answered.{message_spelled}
use Rattle.line_reader.proofs.raw_event.read_watch.Goals as goal

pub returns-clause-spelled : goal.returns-clause-spelled
returns-clause-spelled c = message_spelled _ c.requires
