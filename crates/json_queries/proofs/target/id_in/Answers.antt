use Rattle.std.proofs.Common.{◌-◌, arith}
use Rattle.json_queries.proofs.Shown.{id_is}
use Rattle.json_queries.proofs.target.id_in.Goals as goal

pub returns : goal.returns
returns c = id_is c.args.collection.now (c.len-count.result - 1) c.in-Some.id.now (let count = c.len-count.ensures.count in let odd = c.len-count.ensures.collection.odd in omega (arith, count, odd)) c.in-Some.ensures
