use Rattle.host_api.proofs.Parts.{left_nothing}
use Rattle.host_api.proofs.memory_source.MemSource.take_line.Goals as goal

pub returns-in-Nothing-clause-takes : goal.returns-in-Nothing-clause-takes
returns-in-Nothing-clause-takes c =
    let none = left_nothing c.args.self.now c.rest.result.now c.requires.start c.rest.ensures c.in-Nothing.ensures in
    (none, none)
