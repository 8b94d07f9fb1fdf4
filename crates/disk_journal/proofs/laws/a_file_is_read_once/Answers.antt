use Rattle.disk_journal.proofs.Once.{file_once, file_not_blank}
use Rattle.disk_journal.proofs.laws.a_file_is_read_once.Goals as goal

pub returns-clause-once : goal.returns-clause-once
returns-clause-once c = λ file g ps e h qs f first second. let same = file_once first second in (same.generation, same.payloads, same.end)

pub returns-clause-not_blank : goal.returns-clause-not_blank
returns-clause-not_blank c = λ file g ps e is. file_not_blank is
