use Rattle.value_model.proofs.ReadBack.{time_read}
use Rattle.json_model.proofs.ReadBack.{fields_back}
use Rattle.json_model.proofs.laws.printed_fields_read_back.Goals as goal

pub returns : goal.returns
returns c = fields_back time_read
