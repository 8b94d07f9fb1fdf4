use Rattle.std.proofs.Common.{◌∙◌}
use Rattle.json_model.proofs.bytes.decode.Goals as goal

pub returns-in-Err-DecodeError : goal.returns-in-Err-DecodeError
returns-in-Err-DecodeError c = λ bytes all is.
    let failed = rw c.in-Err-DecodeError.field-0-is at c.in-Err-DecodeError.ensures.err in
    let found = (c.decode.ensures.strict c.requires bytes all).1 (c.as_bytes.ensures.value ∙ is) in
    cc (failed, found)
