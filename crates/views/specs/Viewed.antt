-- A listener's view, as contracts see it.
use Rattle.std.specs.Prelude.{Option, refl}
use Rattle.std.specs.Coded.{Coded, code_by, coded×, coded_option}
use Rattle.queries.specs.contracts.target.Target as target
use Rattle.queries.specs.declared.target.Target.{Target}
use Rattle.views.specs.contracts.raised.Raised as raised
use Rattle.views.specs.declared.raised.Raised.{Raised}

-- what it asks for, and its last snapshot, if it has raised one
pub record Viewed : Type 0 where
  pub target : Target
  pub raised : Option Raised

-- a view is stored as the pair of its parts
abbrev pub viewed_code : Coded Viewed
viewed_code = code_by (Target × Option Raised) (coded× target.the_row.coded (coded_option raised.the_row.coded)) (λ v. (v.target, v.raised)) (λ p. record { target = p.0; raised = p.1 }) (λ _. refl)
