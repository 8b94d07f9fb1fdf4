use Rattle.listeners.proofs.Kept.{nobody}
use Rattle.listeners.proofs.listeners.Listeners.is_empty.Goals as goal

pub returns : goal.returns
returns c =
    let none = nobody c.self.inside.listeners.entries in
    rw (← c.self.view_is) (λ yes. none.0 (c.is_empty.ensures.0 yes), λ all. c.is_empty.ensures.1 (none.1 all))
