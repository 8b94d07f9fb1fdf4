use Rattle.agreement.proofs.Flags.{flags_tell}
use Rattle.agreement.proofs.laws.flags_tell.Goals as goal

pub returns : goal.returns
returns c = flags_tell
