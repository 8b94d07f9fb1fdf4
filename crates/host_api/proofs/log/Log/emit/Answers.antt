use Rattle.std.proofs.Common.{ap}
use Rattle.host_api.specs.Past as past
use Rattle.host_api.proofs.Notes.{grows_noted, kept_emit, pushed}
use Rattle.host_api.proofs.log.Log.emit.Goals as goal

pub invariant_of-self-2 : goal.invariant_of-self-2
invariant_of-self-2 c =
    let notes = pushed _ _ _ _ _ c.reserve.ensures.items c.push_reserved.ensures.items (ap past.emit c.in_ok-copy.ensures) in
    kept_emit _ _ _ _ _ _ notes c.self.invariant c.in_ok-extend_from_slice.ensures.items

pub returns-clause-ok : goal.returns-clause-ok
returns-clause-ok c =
    let notes = pushed _ _ _ _ _ c.reserve.ensures.items c.push_reserved.ensures.items (ap past.emit c.in_ok-copy.ensures) in
    rw (← c.self.view_is) (grows_noted _ _ _ c.self.invariant.numbered notes)
