use Rattle.std.proofs.Common.{rules}
use Rattle.record_parts.proofs.Puts.{time_put}
use Rattle.record_parts.proofs.writing.put_time.Goals as goal

pub returns : goal.returns
returns c = time_put c.args.out.now.items c.put_signed.new.out.items c.extend_from_slice.new.self.items c.to_be_bytes.result c.args.at (search rules) c.in_ok-put_signed.ensures c.in_ok-extend_from_slice.ensures.items c.to_be_bytes.ensures
