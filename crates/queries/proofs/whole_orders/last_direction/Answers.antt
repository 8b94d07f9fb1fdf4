use Rattle.std.proofs.Common.{◌∙◌, ◌-◌, sym, ap, arith, length}
use Rattle.std.specs.Option.{option_copied}
use Rattle.std.proofs.lemmas.Option.{slice_get_within}
use Rattle.queries.proofs.Gathered.{last_at}
use Rattle.queries.proofs.whole_orders.last_direction.Goals as goal

pub returns-in-Some : goal.returns-in-Some
returns-in-Some c =
    let there = sym c.last.ensures.value ∙ ap option_copied c.in-Some.is in
    let below = slice_get_within c.args.orders.now (length c.args.orders.now - 1) c.in-Some.order.now there in
    sym (last_at c.args.orders.now (length c.args.orders.now - 1) c.in-Some.order.now (omega arith) there)
