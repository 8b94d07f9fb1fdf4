use Rattle.disk_journal.proofs.Pairs.{counts_once, gives_once, none_foreign}
use Rattle.disk_journal.proofs.laws.two_files_give_once.Goals as goal

pub returns-clause-counts : goal.returns-clause-counts
returns-clause-counts c = λ files file g ps also h qs first second. let same = counts_once first second in (same.counts, same.generation, same.payloads)

pub returns-clause-gives : goal.returns-clause-gives
returns-clause-gives c = λ files g ps h qs first second. gives_once files g ps h qs first second

pub returns-clause-not_foreign : goal.returns-clause-not_foreign
returns-clause-not_foreign c = λ files g ps file gives. none_foreign files g ps file gives
