use Rattle.std.proofs.Common.{refl}
use Rattle.host_api.specs.Past as past
use Rattle.host_api.proofs.Notes.{grows_noted, kept_cut, pushed}
use Rattle.host_api.proofs.log.Log.cut.Goals as goal

pub invariant_of-self-2 : goal.invariant_of-self-2
invariant_of-self-2 c =
    let notes = pushed _ _ _ _ (past.cut c.args.file c.args.len c.args.done) c.reserve.ensures.items c.push_reserved.ensures.items refl in
    kept_cut _ _ _ _ _ _ _ _ notes c.self.invariant c.truncate.ensures

pub returns-clause-ok : goal.returns-clause-ok
returns-clause-ok c =
    let notes = pushed _ _ _ _ (past.cut c.args.file c.args.len c.args.done) c.reserve.ensures.items c.push_reserved.ensures.items refl in
    rw (← c.self.view_is) (grows_noted _ _ _ c.self.invariant.numbered notes)
