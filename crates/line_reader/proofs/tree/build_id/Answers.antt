use Rattle.line_reader.proofs.tree.build_id.Goals as goal

pub returns-in-Some : goal.returns-in-Some
returns-in-Some c = rw c.in-Some.is c.clean_listener_id.ensures
