use Rattle.host_api.proofs.Notes.{grows_passed, kept_passed}
use Rattle.host_api.proofs.log.Log.pass.Goals as goal

pub invariant_of-self : goal.invariant_of-self
invariant_of-self c = kept_passed _ _ _ c.self.invariant

pub returns-clause-past : goal.returns-clause-past
returns-clause-past c = rw (← c.self.view_is) (grows_passed _ c.self.invariant.numbered)
