use Rattle.std.proofs.Common.{◌≤◌, ◌∙◌, arith, length}
use Rattle.std.proofs.Math.Nat.{mul-div-le}
use Rattle.disk_journal.proofs.Lent.{cuts}
use Rattle.disk_journal.proofs.payloads.Payloads.cut.Goals as goal

pub invariant_of-result-2 : goal.invariant_of-result-2
invariant_of-result-2 c =
    let within : c.size-size.result ≤ length c.self.inside.file.items = omega (arith, c.if-len-size.false, c.len.ensures, mul-div-le (length c.self.inside.file.items) 2) in
    let has = cuts c.self.inside.file.items c.self.inside.spans.items c.self.inside.behind within c.self.invariant.0 c.self.invariant.1 c.deref.ensures.value c.deref-2.ensures.value c.size-size.ensures c.in_ok-spans.ensures.items c.keep_last.ensures in
    (has.inside, has.follow, omega arith)

pub returns : goal.returns
returns c =
    let within : c.size-size.result ≤ length c.self.inside.file.items = omega (arith, c.if-len-size.false, c.len.ensures, mul-div-le (length c.self.inside.file.items) 2) in
    let has = cuts c.self.inside.file.items c.self.inside.spans.items c.self.inside.behind within c.self.invariant.0 c.self.invariant.1 c.deref.ensures.value c.deref-2.ensures.value c.size-size.ensures c.in_ok-spans.ensures.items c.keep_last.ensures in
    has.bytes ∙ c.self.view_is
