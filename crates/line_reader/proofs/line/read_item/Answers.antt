use Rattle.line_reader.specs.Reading.{too_long}
use Rattle.line_reader.proofs.line.read_item.Goals as goal

pub returns-in-TooLong-clause-is : goal.returns-in-TooLong-clause-is
returns-in-TooLong-clause-is c = rw c.in-TooLong.is too_long
