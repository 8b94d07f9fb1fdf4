use Rattle.std.proofs.Common.{◌≡◌}
use Rattle.limbo_listens.proofs.Settled.{kept_first}
use Rattle.limbo_listens.proofs.listens.LimboListens.new.Goals as goal

pub invariant_of-result : goal.invariant_of-result
invariant_of-result c =
    let next : c.new-2.result.next ≡ 1 = (let is = c.new-2.ensures.next in cc) in
    kept_first _ _ c.new.ensures.empty (λ i. record { running = c.new-2.ensures.running i; waiting = c.new-2.ensures.waiting i; next = next i })
